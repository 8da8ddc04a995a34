-- The tokens of lines: names, labels, service types and TXT data as text. (RFC 1035 5.1, RFC 6763 4 and 6.1)
use Rattle.std.specs.Prelude.{ℕ, ◌==◌, nat_le, not, ◌&&◌, Bool, if◌then◌else◌, List, [], ◌∷◌, length, Option, Some, None, codes}
use Rattle.std.specs.Option.{option_map}
use Rattle.std.specs.Result.{result_ok}
use Rattle.std.specs.List.{list_all, slice_split}
use Rattle.std.specs.Str.{bytes_eq, is_utf8}
use Rattle.number_text.specs.Digits.{◌>>=◌}
use Rattle.dns_name.specs.Names.{is_label}
use Rattle.dns_name.specs.ReadName.{read_name}
use Rattle.dns_name.specs.TextItems.{items_of, label_read}
use Rattle.dns_name.specs.declared.items.TextItem.{TextItem}
use Rattle.dns_name.specs.declared.items.TextItem.TheVariants.{Dot, Byte, Bad}
use Rattle.txt_record.specs.Strings.{txt_data}

-- a value where a test passes
abbrev pub when : {A : Type 0} → Bool → A → Option A
when test value = if test then Some value else None

-- bytes that are text
abbrev pub text_of : List ℕ → Option (List ℕ)
text_of bytes = when (is_utf8 bytes) bytes

-- whether no space is among the bytes
abbrev pub is_whole : List ℕ → Bool
is_whole bytes = list_all (λ b. not (b == 32)) bytes

-- a token has bytes, and no space among them
abbrev pub is_token : List ℕ → Bool
is_token bytes = not (length bytes == 0) && is_whole bytes

-- a token is text
abbrev pub token_of : List ℕ → Option (List ℕ)
token_of bytes = do
  text ← text_of bytes
  when (is_token text) text

-- the name that a token spells
abbrev pub name_of : List ℕ → Option (List (List ℕ))
name_of bytes = do
  token ← token_of bytes
  result_ok (read_name token)

-- the byte that an item of a service type stands for: a bare dot is itself
abbrev pub item_byte : TextItem → Option ℕ
item_byte (Byte byte) = Some byte
item_byte Dot = Some 46
item_byte Bad = None

-- the bytes of the items of a service type
abbrev pub type_spelled : List TextItem → Option (List ℕ)
type_spelled [] = Some []
type_spelled (item ∷ items) = do
  byte ← item_byte item
  bytes ← type_spelled items
  Some (byte ∷ bytes)

-- the bytes that a service type stands for, where they are at most so many
abbrev pub type_read : ℕ → List ℕ → Option (List ℕ)
type_read most text = do
  bytes ← type_spelled (items_of text)
  when (nat_le (length bytes) most) bytes

-- the bytes that the token of a label stands for; `\e` alone is the empty label
abbrev pub label_bytes : List ℕ → Option (List ℕ)
label_bytes bytes = if bytes_eq bytes (codes "\\e") then Some [] else token_of bytes >>= label_read 1024

-- the bytes that the token of a service type stands for; `\e` alone is the empty one
abbrev pub type_bytes : List ℕ → Option (List ℕ)
type_bytes bytes = if bytes_eq bytes (codes "\\e") then Some [] else token_of bytes >>= type_read 1024

-- the text that a label of a request stands for
abbrev pub label_of : List ℕ → Option (List ℕ)
label_of bytes = label_bytes bytes >>= text_of

-- the text that a service type of a request stands for
abbrev pub type_of : List ℕ → Option (List ℕ)
type_of bytes = type_bytes bytes >>= text_of

-- text of 1 to 63 bytes
abbrev pub label_text : List ℕ → Option (List ℕ)
label_text bytes = do
  text ← text_of bytes
  when (is_label text) text

-- the label of a host that a token stands for: text of 1 to 63 bytes
abbrev pub host_label_of : List ℕ → Option (List ℕ)
host_label_of bytes = do
  token ← token_of bytes
  label ← label_read 63 token
  label_text label

-- the bytes that a string of TXT data stands for
abbrev pub string_of : List ℕ → Option (List ℕ)
string_of bytes = token_of bytes >>= label_read 255

-- the strings of tokens, each of which is one
abbrev pub strings_of : List (List ℕ) → Option (List (List ℕ))
strings_of [] = Some []
strings_of (token ∷ tokens) = do
  string ← string_of token
  strings ← strings_of tokens
  Some (string ∷ strings)

-- TXT data that are short enough
abbrev pub short_txt : List ℕ → Option (List ℕ)
short_txt bytes = when (nat_le (length bytes) 8192) bytes

-- the TXT data of the tokens between spaces, each a string; `-` alone is none
abbrev pub txt_of : List ℕ → Option (List ℕ)
txt_of bytes =
    if bytes_eq bytes (codes "-") then Some []
    else option_map txt_data (strings_of (slice_split (λ b. b == 32) bytes)) >>= short_txt
