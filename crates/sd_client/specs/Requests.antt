-- Which request the arguments of a call are; None where they are none.
use Rattle.std.specs.Prelude.{◌≡◌, ◌⊎◌, ℕ, ◌==◌, nat_le, Bool, true, false, List, length, Option, Some, None, Result, Ok, Err, if◌then◌else◌}
use Rattle.std.specs.Result.{result_ok}
use Rattle.number_text.specs.Digits.{◌>>=◌}
use Rattle.dns_name.specs.ReadName.{read_name}
use Rattle.sd_call.specs.declared.request.Request.{Request}
use Rattle.sd_call.specs.declared.request.Request.TheVariants.{Query, Browse, Resolve, Address, Register, Update}
use Rattle.sd_client.specs.declared.error.ClientError.{ClientError}
use Rattle.sd_client.specs.declared.error.ClientError.TheVariants.{BadParam, NoMemory}

-- a text has at most 1024 bytes
abbrev pub text_of : List ℕ → Option (List ℕ)
text_of text = if nat_le (length text) 1024 then Some text else None

-- TXT data have at most 8192 bytes
abbrev pub txt_of : List ℕ → Option (List ℕ)
txt_of txt = if nat_le (length txt) 8192 then Some txt else None

-- the name that a text spells
abbrev pub name_of : List ℕ → Option (List (List ℕ))
name_of text = result_ok (read_name text)

-- The flags are 0, or 8 for a name that is kept.
abbrev pub norename_of : ℕ → Option Bool
norename_of flags = if flags == 0 then Some false else if flags == 8 then Some true else None

-- a service type
unfoldable pub browse_request : List ℕ → Option Request
browse_request regtype = do
  regtype ← text_of regtype
  Some (Browse regtype)

-- a label and a service type
unfoldable pub resolve_request : List ℕ → List ℕ → Option Request
resolve_request label regtype = do
  label ← text_of label
  regtype ← text_of regtype
  Some (Resolve label regtype)

-- a name and the type of its records
unfoldable pub query_request : List ℕ → ℕ → Option Request
query_request name kind = do
  name ← name_of name
  Some (Query kind name)

-- the families of addresses and a name
unfoldable pub address_request : ℕ → List ℕ → Option Request
address_request families name = do
  name ← name_of name
  Some (Address families name)

-- flags, a label, a service type, a port and TXT data
unfoldable pub register_request : ℕ → List ℕ → List ℕ → ℕ → List ℕ → Option Request
register_request flags label regtype port txt = do
  norename ← norename_of flags
  label ← text_of label
  regtype ← text_of regtype
  txt ← txt_of txt
  Some (Register label regtype port norename txt)

-- TXT data
unfoldable pub update_request : List ℕ → Option Request
update_request txt = do
  txt ← txt_of txt
  Some (Update txt)

-- what the arguments make, or BadParam where they make nothing
abbrev pub or_bad : {X : Type 0} → Option X → Result X ClientError
or_bad (Some x) = Ok x
or_bad None = Err BadParam

-- The answer is what the arguments make, or memory was refused.
abbrev pub IsMade : {X : Type 0} → Result X ClientError → Option X → Type 0
IsMade result made = (result ≡ Err NoMemory) ⊎ (result ≡ or_bad made)
