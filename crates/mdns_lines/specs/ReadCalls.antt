-- Requests read from the text in which transcripts print them. (RFC 6763 4 to 7)
use Rattle.std.specs.Prelude.{ℕ, ◌^◌, Bool, List, ◌++◌, Option, Some, None, codes, if◌then◌else◌}
use Rattle.std.specs.Option.{option_map, option_or}
use Rattle.std.specs.Str.{bytes_eq}
use Rattle.number_text.specs.Cut.{cut_of}
use Rattle.number_text.specs.Digits.{◌>>=◌, decimal_below, hex_of}
use Rattle.dns_record.specs.ReadRecord.{kind_read}
use Rattle.sd_call.specs.declared.request.Request.{Request}
use Rattle.sd_call.specs.declared.request.Request.TheVariants as request
use Rattle.mdns_history.specs.declared.event.Event.TheVariants as event
use Rattle.mdns_script.specs.Lines.{line_of}
use Rattle.mdns_script.specs.Requests.{families_of, norename_of}
use Rattle.mdns_script.specs.declared.command.Command.TheVariants as commands
use Rattle.mdns_script.specs.declared.command.Line.{Line}
use Rattle.mdns_script.specs.declared.command.Line.TheVariants as script
use Rattle.mdns_lines.specs.Words.{name_in, if_word}

-- the request of a `call` line of a script
unfoldable pub called : Line → Option Request
called (script.Command (commands.Event daemon (event.Call session op request))) = Some request
called _ = None

-- the request that scripts write as a text, where it has no TXT data
unfoldable pub scripted : List ℕ → Option Request
scripted text = called (line_of (codes "call 1 1 1 " ++ text))

-- after `query `: `KIND NAME`
unfoldable pub query_in : List ℕ → Option Request
query_in text = do
  kind ← cut_of 32 text
  k ← kind_read kind.0
  name ← name_in kind.1
  Some (request.Query k name)

-- the families of addresses by a word, or by their number
abbrev pub families_in : List ℕ → Option ℕ
families_in word = option_or (families_of word) (decimal_below (2 ^ 8) word)

-- after `address `: `FAMILIES NAME`
unfoldable pub address_in : List ℕ → Option Request
address_in text = do
  families ← cut_of 32 text
  f ← families_in families.0
  name ← name_in families.1
  Some (request.Address f name)

-- the label and the service type of a request
unfoldable pub instance_of : Request → Option (List ℕ × List ℕ)
instance_of (request.Resolve label regtype) = Some (label, regtype)
instance_of _ = None

-- `LABEL TYPE`
abbrev pub instance_in : List ℕ → List ℕ → Option (List ℕ × List ℕ)
instance_in label regtype = scripted (codes "resolve " ++ label ++ codes " " ++ regtype) >>= instance_of

-- after `register `: the words `LABEL`, `TYPE`, `PORT` and `auto` or `norename`, and the text behind them
unfoldable pub register_words : List ℕ → Option (List ℕ × List ℕ × ℕ × Bool × List ℕ)
register_words text = do
  label ← cut_of 32 text
  regtype ← cut_of 32 label.1
  port ← cut_of 32 regtype.1
  rename ← cut_of 32 port.1
  p ← decimal_below (2 ^ 16) port.0
  norename ← norename_of rename.0
  Some (label.0, regtype.0, p, norename, rename.1)

-- after `register `: `LABEL TYPE PORT auto HEX` or `LABEL TYPE PORT norename HEX`
unfoldable pub register_in : List ℕ → Option Request
register_in text = do
  words ← register_words text
  names ← instance_in words.0 words.1
  txt ← hex_of words.4
  Some (request.Register names.0 names.1 words.2 words.3 txt)

-- a request by its first word, and what follows that
abbrev pub request_of_words : List ℕ → List ℕ → List ℕ → Option Request
request_of_words text word rest =
    if bytes_eq word (codes "query") then query_in rest
    else if bytes_eq word (codes "address") then address_in rest
    else if bytes_eq word (codes "register") then register_in rest
    else if bytes_eq word (codes "update") then option_map (λ txt. request.Update txt) (hex_of rest)
    else scripted text

-- the request that a text spells; `stop` has nothing behind it
abbrev pub request_in : List ℕ → Option Request
request_in text = at_cut text (cut_of 32 text)
  where
    at_cut : List ℕ → Option (List ℕ × List ℕ) → Option Request
    at_cut text None = if_word (codes "stop") text request.Stop
    at_cut text (Some words) = request_of_words text words.0 words.1
