-- Types, data and records read from text: exactly what is written, but that digits of hexadecimal and IPv6 have either case, a name's last dot may
-- be missing, and a byte of a name may be written in any way that spells it.
use Rattle.std.specs.Prelude.{ℕ, ◌^◌, ◌==◌, Bool, true, false, List, [], ◌∷◌, take, drop, Option, Some, None, is_some, codes, if◌then◌else◌}
use Rattle.std.specs.List.{find, list_any}
use Rattle.std.specs.Option.{option_map, option_map_or, option_or}
use Rattle.std.specs.Result.{result_ok}
use Rattle.std.specs.Str.{bytes_eq}
use Rattle.number_text.specs.Cut.{cut_of}
use Rattle.number_text.specs.Digits.{◌>>=◌, decimal_below, hex_of, ipv4_of, ipv6_of}
use Rattle.dns_name.specs.ReadName.{read_name}
use Rattle.dns_record.specs.Records.{is_rdata}
use Rattle.dns_record.specs.RecordText.{kind_name}
use Rattle.dns_record.specs.declared.record.Rdata.{Rdata}
use Rattle.dns_record.specs.declared.record.Rdata.TheVariants as data_of
use Rattle.dns_record.specs.declared.record.Rr.{Rr}

-- the types that have a name
abbrev pub named_kinds : List ℕ
named_kinds = 1 ∷ 2 ∷ 5 ∷ 6 ∷ 12 ∷ 13 ∷ 15 ∷ 16 ∷ 28 ∷ 33 ∷ 41 ∷ 47 ∷ 255 ∷ []

-- whether a text is the name of a type
abbrev pub is_name_of : List ℕ → ℕ → Bool
is_name_of text kind = option_map_or (λ name. bytes_eq name text) (kind_name kind) false

-- the type without a name whose number follows TYPE
unfoldable pub numbered_kind : List ℕ → Option ℕ
numbered_kind text = do
  number ← if bytes_eq (take 4 text) (codes "TYPE") then decimal_below (2 ^ 16) (drop 4 text) else None
  if is_some (kind_name number) then None else Some number

-- the type that a text names by its name, or by TYPE and its number where it has none
unfoldable pub kind_read : List ℕ → Option ℕ
kind_read text = option_or (find (is_name_of text) named_kinds) (numbered_kind text)

-- the name that a token spells, if it does: a token has no space
abbrev pub name_read : List ℕ → Option (List (List ℕ))
name_read text = if list_any (λ b. b == 32) text then None else result_ok (read_name text)

-- priority, weight, port and target
unfoldable pub srv_read : List ℕ → Option Rdata
srv_read text = do
  priority ← cut_of 32 text
  weight ← cut_of 32 priority.1
  port ← cut_of 32 weight.1
  p ← decimal_below (2 ^ 16) priority.0
  w ← decimal_below (2 ^ 16) weight.0
  o ← decimal_below (2 ^ 16) port.0
  target ← name_read port.1
  Some (data_of.Srv p w o target)

-- the next name and the bitmap
unfoldable pub nsec_read : List ℕ → Option Rdata
nsec_read text = do
  next ← cut_of 32 text
  name ← name_read next.0
  bitmap ← hex_of next.1
  Some (data_of.Nsec name bitmap)

-- bytes of a type without a variant of its own, where they have the type's form
unfoldable pub raw_read : ℕ → List ℕ → Option Rdata
raw_read kind text = do
  bytes ← hex_of text
  if is_rdata (data_of.Raw kind bytes) then Some (data_of.Raw kind bytes) else None

-- the data of a type that a text spells, if it does
unfoldable pub rdata_read : ℕ → List ℕ → Option Rdata
rdata_read kind text =
    if kind == 1 then option_map (λ a. data_of.A a) (ipv4_of text)
    else if kind == 28 then option_map (λ a. data_of.Aaaa a) (ipv6_of text)
    else if kind == 12 then option_map (λ n. data_of.Ptr n) (name_read text)
    else if kind == 5 then option_map (λ n. data_of.Cname n) (name_read text)
    else if kind == 33 then srv_read text
    else if kind == 16 then option_map (λ b. data_of.Txt b) (hex_of text)
    else if kind == 47 then nsec_read text
    else raw_read kind text

-- the flush bit that a word says
abbrev pub flush_read : List ℕ → Option Bool
flush_read text = if bytes_eq text (codes "flush") then Some true else if bytes_eq text (codes "-") then Some false else None

-- owner, TTL, flush bit and type at the front of a record's text, and the text of the data
unfoldable pub head_read : List ℕ → Option (List (List ℕ) × ℕ × Bool × ℕ × List ℕ)
head_read text = do
  owner ← cut_of 32 text
  ttl ← cut_of 32 owner.1
  flush ← cut_of 32 ttl.1
  kind ← cut_of 32 flush.1
  name ← name_read owner.0
  seconds ← decimal_below (2 ^ 32) ttl.0
  bit ← flush_read flush.0
  number ← kind_read kind.0
  Some (name, seconds, bit, number, kind.1)

-- the record whose text this is, if it is one's: five parts with a space between each two
unfoldable pub record_read : List ℕ → Option Rr
record_read text = do
  head ← head_read text
  rdata ← rdata_read head.3 head.4
  Some (record { owner = head.0; flush = head.2; ttl = head.1; rdata = rdata })
