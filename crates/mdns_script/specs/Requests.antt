-- The requests of `call` lines as text. (RFC 6763 4 to 7)
use Rattle.std.specs.Prelude.{ℕ, ◌^◌, Bool, true, false, if◌then◌else◌, List, Option, Some, None, codes}
use Rattle.std.specs.Option.{option_map}
use Rattle.std.specs.Str.{bytes_eq}
use Rattle.number_text.specs.Cut.{cut_of}
use Rattle.number_text.specs.Digits.{◌>>=◌, decimal_below}
use Rattle.dns_record.specs.ReadRecord.{kind_read}
use Rattle.sd_call.specs.declared.request.Request.{Request}
use Rattle.sd_call.specs.declared.request.Request.TheVariants as request
use Rattle.mdns_script.specs.Tokens.{name_of, label_of, type_of, txt_of}

-- after `query `: `KIND NAME`
unfoldable pub query_of : List ℕ → Option Request
query_of text = do
  kind ← cut_of 32 text
  k ← kind_read kind.0
  name ← name_of kind.1
  Some (request.Query k name)

-- after `resolve `: `LABEL TYPE`
unfoldable pub resolve_of : List ℕ → Option Request
resolve_of text = do
  label ← cut_of 32 text
  l ← label_of label.0
  regtype ← type_of label.1
  Some (request.Resolve l regtype)

-- the families of addresses: `v4`, `v6` or `both`
abbrev pub families_of : List ℕ → Option ℕ
families_of word =
    if bytes_eq word (codes "v4") then Some 1
    else if bytes_eq word (codes "v6") then Some 2
    else if bytes_eq word (codes "both") then Some 3
    else None

-- after `address `: `FAMILIES NAME`
unfoldable pub address_of : List ℕ → Option Request
address_of text = do
  families ← cut_of 32 text
  f ← families_of families.0
  name ← name_of families.1
  Some (request.Address f name)

-- whether a registration keeps its name: `auto` or `norename`
abbrev pub norename_of : List ℕ → Option Bool
norename_of word =
    if bytes_eq word (codes "norename") then Some true
    else if bytes_eq word (codes "auto") then Some false
    else None

-- after `register `: the words `LABEL`, `TYPE`, `PORT` and `auto` or `norename`, and the text behind them
unfoldable pub register_words : List ℕ → Option (List ℕ × List ℕ × ℕ × Bool × List ℕ)
register_words text = do
  label ← cut_of 32 text
  regtype ← cut_of 32 label.1
  port ← cut_of 32 regtype.1
  rename ← cut_of 32 port.1
  p ← decimal_below (2 ^ 16) port.0
  norename ← norename_of rename.0
  Some (label.0, regtype.0, p, norename, rename.1)

-- after `register `: `LABEL TYPE PORT auto TXT` or `LABEL TYPE PORT norename TXT`
unfoldable pub register_of : List ℕ → Option Request
register_of text = do
  words ← register_words text
  label ← label_of words.0
  regtype ← type_of words.1
  txt ← txt_of words.4
  Some (request.Register label regtype words.2 words.3 txt)

-- a first word and what follows it
abbrev pub request_of_words : List ℕ → List ℕ → Option Request
request_of_words word rest =
    if bytes_eq word (codes "query") then query_of rest
    else if bytes_eq word (codes "browse") then option_map (λ regtype. request.Browse regtype) (type_of rest)
    else if bytes_eq word (codes "resolve") then resolve_of rest
    else if bytes_eq word (codes "address") then address_of rest
    else if bytes_eq word (codes "register") then register_of rest
    else if bytes_eq word (codes "update") then option_map (λ txt. request.Update txt) (txt_of rest)
    else None

-- the request that a text spells; `stop` has nothing behind it
abbrev pub request_of : List ℕ → Option Request
request_of text =
    if bytes_eq text (codes "stop") then Some request.Stop
    else cut_of 32 text >>= λ words. request_of_words words.0 words.1
