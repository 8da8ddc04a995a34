-- The words of the command line: the socket, the count of lines, and the request of the command.
use Rattle.std.specs.Prelude.{ℕ, ◌^◌, nat_lt, nat_le, Bool, true, false, ◌&&◌, ◌||◌, if◌then◌else◌, String, List, [], ◌∷◌, length, map, Option, Some, None, codes}
use Rattle.std.specs.List.{list_all}
use Rattle.std.specs.Str.{bytes_eq}
use Rattle.std.specs.Global.{Global}
use Rattle.std.specs.String.{string_bytes}
use Rattle.number_text.specs.Digits.{◌>>=◌, decimal_below}
use Rattle.dns_record.specs.ReadRecord.{kind_read}
use Rattle.txt_record.specs.Strings.{txt_data}
use Rattle.sd_call.specs.declared.request.Request.{Request}
use Rattle.sd_client.specs.Requests.{browse_request, resolve_request, query_request, address_request, register_request}

-- words as their bytes
abbrev pub texts : List (String Global) → List (List ℕ)
texts words = map string_bytes words

-- DOMAIN: `local`, with or without its dot, `.`, or an empty word
abbrev pub is_domain : List ℕ → Bool
is_domain word = bytes_eq word (codes "local") || bytes_eq word (codes "local.") || bytes_eq word (codes ".") || bytes_eq word []

-- [DOMAIN], and nothing behind it
abbrev pub is_domain_end : List (List ℕ) → Bool
is_domain_end [] = true
is_domain_end (domain ∷ []) = is_domain domain
is_domain_end (domain ∷ word ∷ words) = false

-- TYPE [DOMAIN]
unfoldable pub browse_words : List (List ℕ) → Option Request
browse_words [] = None
browse_words (regtype ∷ words) = if is_domain_end words then browse_request regtype else None

-- NAME TYPE [DOMAIN]
unfoldable pub resolve_words : List (List ℕ) → Option Request
resolve_words [] = None
resolve_words (label ∷ []) = None
resolve_words (label ∷ regtype ∷ words) = if is_domain_end words then resolve_request label regtype else None

-- Each TXT word is one string of TXT data.
abbrev pub are_strings : List (List ℕ) → Bool
are_strings words = list_all (λ word. nat_le (length word) 255) words

-- DOMAIN PORT [TXT ...], behind a name and a type: the name may be changed where it is held
unfoldable pub service_words : List ℕ → List ℕ → List (List ℕ) → Option Request
service_words label regtype [] = None
service_words label regtype (domain ∷ []) = None
service_words label regtype (domain ∷ port ∷ strings) = do
  number ← decimal_below (2 ^ 16) port
  if is_domain domain && are_strings strings then register_request 0 label regtype number (txt_data strings) else None

-- NAME TYPE DOMAIN PORT [TXT ...]
unfoldable pub register_words : List (List ℕ) → Option Request
register_words [] = None
register_words (label ∷ []) = None
register_words (label ∷ regtype ∷ words) = service_words label regtype words

-- [RRTYPE [IN]]: A where none is given
abbrev pub kind_words : List (List ℕ) → Option ℕ
kind_words [] = Some 1
kind_words (kind ∷ []) = kind_read kind
kind_words (kind ∷ class ∷ []) = if bytes_eq class (codes "IN") then kind_read kind else None
kind_words (kind ∷ class ∷ word ∷ words) = None

-- NAME [RRTYPE [IN]]
unfoldable pub query_words : List (List ℕ) → Option Request
query_words [] = None
query_words (name ∷ words) = do
  kind ← kind_words words
  query_request name kind

-- v4, v6 or v4v6
abbrev pub families_word : List ℕ → Option ℕ
families_word word =
    if bytes_eq word (codes "v4") then Some 1
    else if bytes_eq word (codes "v6") then Some 2
    else if bytes_eq word (codes "v4v6") then Some 3
    else None

-- v4 NAME, v6 NAME or v4v6 NAME
unfoldable pub address_words : List (List ℕ) → Option Request
address_words [] = None
address_words (families ∷ []) = None
address_words (families ∷ name ∷ []) = do
  number ← families_word families
  address_request number name
address_words (families ∷ name ∷ word ∷ words) = None

-- the request of a command: -B, -L, -R, -Q or -G
unfoldable pub request_words : List (List ℕ) → Option Request
request_words [] = None
request_words (word ∷ words) =
    if bytes_eq word (codes "-B") then browse_words words
    else if bytes_eq word (codes "-L") then resolve_words words
    else if bytes_eq word (codes "-R") then register_words words
    else if bytes_eq word (codes "-Q") then query_words words
    else if bytes_eq word (codes "-G") then address_words words
    else None

-- a word that must be there, and the words behind it
abbrev pub first_word : List (List ℕ) → Option (List ℕ × List (List ℕ))
first_word [] = None
first_word (word ∷ words) = Some (word, words)

-- [-socket PATH], `mdnsd.sock` where it isn't given, and the words behind it
unfoldable pub socket_words : List (List ℕ) → Option (List ℕ × List (List ℕ))
socket_words [] = Some (codes "mdnsd.sock", [])
socket_words (word ∷ words) = if bytes_eq word (codes "-socket") then first_word words else Some (codes "mdnsd.sock", word ∷ words)

-- N: 1 to 1,000,000
abbrev pub count_word : List ℕ → Option ℕ
count_word word = do
  count ← decimal_below 1000001 word
  if nat_lt 0 count then Some count else None

-- a count behind -count, and the words behind it
abbrev pub given_count : List (List ℕ) → Option (Option ℕ × List (List ℕ))
given_count [] = None
given_count (word ∷ words) = do
  count ← count_word word
  Some (Some count, words)

-- [-count N], and the words behind it
unfoldable pub count_words : List (List ℕ) → Option (Option ℕ × List (List ℕ))
count_words [] = Some (None, [])
count_words (word ∷ words) = if bytes_eq word (codes "-count") then given_count words else Some (None, word ∷ words)

-- what the words ask for: at which socket, how many lines, and the request
pub record Asked : Type 0 where
  pub socket : List ℕ
  pub count : Option ℕ
  pub request : Request

-- what the words ask for, if they are a command: [-socket PATH] [-count N], and the command
unfoldable pub command_of : List (List ℕ) → Option Asked
command_of words = do
  socket ← socket_words words
  count ← count_words socket.1
  request ← request_words count.1
  Some (record { socket = socket.0; count = count.0; request = request })
