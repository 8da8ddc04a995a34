-- What is read of the tokens of a line is in the ranges of what a line can say.
use Rattle.std.proofs.Common.{◌≡◌, ℕ, ◌^◌, ◌≤◌, ◌==◌, Bool, true, false, cond, not, ◌&&◌, List, [], ◌∷◌, Option, Some, None, Result, Ok, Err, length, refl, ap, sym, ◌∙◌, inl, inr, ◌⊎◌, arith, codes, subst}
use Rattle.std.specs.Prelude.{nat_le, nat_lt}
use Rattle.std.specs.List.{list_all, slice_split}
use Rattle.std.specs.Option.{option_map, option_and_then}
use Rattle.std.specs.Result.{result_ok}
use Rattle.std.specs.Str.{bytes_eq, is_utf8}
use Rattle.std.proofs.lemmas.Bool.{lt-ltb, le-leb, leb-true, and_from, and_parts}
use Rattle.std.proofs.lemmas.List.Folds.{list_all-append}
use Rattle.number_text.specs.Digits.{◌>>=◌, decimal_of, decimal_below, ipv4_of, ipv6_of, hex_of}
use Rattle.number_text.proofs.Decimals.{decimal_exact}
use Rattle.number_text.proofs.HexText.{hex_shown}
use Rattle.number_text.proofs.Ipv4Text.{ipv4_of-read}
use Rattle.number_text.proofs.Ipv6Text.{ipv6_shown}
use Rattle.dns_name.specs.Names.{is_label}
use Rattle.dns_name.specs.ReadName.{read_name}
use Rattle.dns_name.specs.TextItems.{items_of, bytes_spelled, label_read}
use Rattle.dns_record.specs.ReadRecord.{kind_read}
use Rattle.dns_record.proofs.KindTexts.{kind_exact}
use Rattle.dns_message.specs.Writing.{is_below, are_bytes, is_spellable_name}
use Rattle.txt_record.specs.Strings.{txt_data}
use Rattle.txt_record.proofs.Runs.{is_txt-made, strings_of-made}
use Rattle.mdns_script.specs.Boots.{daemon_of}
use Rattle.mdns_script.specs.Lines.{max_of}
use Rattle.mdns_script.specs.Links.{number_in}
use Rattle.mdns_script.specs.Tokens.{when, text_of, is_whole, is_token, token_of, name_of, type_spelled, type_read, label_bytes, type_bytes, label_of, type_of, label_text as host_text, host_label_of, string_of, strings_of as tokens_read, short_txt, txt_of}
use Rattle.mdns_script.specs.Writable.{is_between, is_daemon, is_writable_text, is_writable_txt}
use Rattle.mdns_script.proofs.TokensBack.{has_bytes}
use Rattle.mdns_script.proofs.ReadBytes.{bytes_from, utf8_bytes, items_good, spelled_bytes, spelled_some}
use Rattle.mdns_script.proofs.ReadNames.{name_good}

-- ---- answers that come of others

pub record ComesOf {A B : Type 0} (o : Option A) (f : A → Option B) (y : B) : Type 0 where
  pub from : A
  pub is : o ≡ Some from
  pub gives : f from ≡ Some y

pub come_of : {A B : Type 0} (o : Option A) (f : A → Option B) (y : B) → option_and_then f o ≡ Some y → ComesOf o f y
come_of None f y h = absurd (cc)
come_of (Some x) f y h = record { from = x; is = refl; gives = h }

pub record IsMapped {A B : Type 0} (o : Option A) (f : A → B) (y : B) : Type 0 where
  pub from : A
  pub is : o ≡ Some from
  pub gives : f from ≡ y

pub some_same : {A : Type 0} (x y : A) → Some x ≡ Some y → x ≡ y
some_same x y h = cc

pub mapped_of : {A B : Type 0} (o : Option A) (f : A → B) (y : B) → option_map f o ≡ Some y → IsMapped o f y
mapped_of None f y h = absurd (cc)
mapped_of (Some x) f y h = record { from = x; is = refl; gives = some_same (f x) y h }

pub passed : {A : Type 0} (b : Bool) (x y : A) → cond b (Some x) None ≡ Some y → (b ≡ true) × (x ≡ y)
passed true x y h = (refl, some_same x y h)
passed false x y h = absurd (cc)

pub either_of : {A : Type 0} (b : Bool) (x y : Option A) (z : A) → cond b x y ≡ Some z → (x ≡ Some z) ⊎ (y ≡ Some z)
either_of true x y z h = inl h
either_of false x y z h = inr h

-- ---- numbers

pub decimal_is : (text : List ℕ) (n : ℕ) → decimal_of text ≡ Some n → is_below 64 n ≡ true
decimal_is text n h = lt-ltb n (2 ^ 64) (decimal_exact text (Some n) (sym h)).0

pub below_is : (bits : ℕ) (text : List ℕ) (n : ℕ) → decimal_below (2 ^ bits) text ≡ Some n → is_below bits n ≡ true
below_is bits text n h =
    let c = come_of (decimal_of text) (λ m. cond (nat_lt m (2 ^ bits)) (Some m) None) n h in
    let p = passed (nat_lt c.from (2 ^ bits)) c.from n c.gives in
    sym (ap (is_below bits) p.1) ∙ p.0

pub number_is : (least most : ℕ) (text : List ℕ) (n : ℕ) → number_in least most text ≡ Some n → is_between least most n ≡ true
number_is least most text n h =
    let c = come_of (decimal_of text) (λ m. when (nat_le least m && nat_le m most) m) n h in
    let p = passed (nat_le least c.from && nat_le c.from most) c.from n c.gives in
    sym (ap (is_between least most) p.1) ∙ p.0

pub daemon_is : (text : List ℕ) (n : ℕ) → daemon_of text ≡ Some n → is_daemon n ≡ true
daemon_is text n h = number_is 1 16 text n h

pub max_is : (text : List ℕ) (n : ℕ) → max_of text ≡ Some n → is_between 1 1000 n ≡ true
max_is text n h = number_is 1 1000 text n h

pub ipv4_is : (text : List ℕ) (n : ℕ) → ipv4_of text ≡ Some n → is_below 32 n ≡ true
ipv4_is text n h = lt-ltb n (2 ^ 32) (ipv4_of-read text n h).0

pub ipv6_is : (text : List ℕ) (n : ℕ) → ipv6_of text ≡ Some n → is_below 128 n ≡ true
ipv6_is text n h = lt-ltb n (2 ^ 128) (ipv6_shown text n h).0

pub hex_is : (text bytes : List ℕ) → hex_of text ≡ Some bytes → are_bytes bytes ≡ true
hex_is text bytes h = bytes_from bytes (hex_shown text bytes h).1

pub kind_is : (text : List ℕ) (kind : ℕ) → kind_read text ≡ Some kind → is_below 16 kind ≡ true
kind_is text kind h = lt-ltb kind (2 ^ 16) (kind_exact text (Some kind) (sym h)).0

-- ---- tokens

-- a token is text of at least one byte
record IsTokenText (token : List ℕ) : Type 0 where
  bytes : are_bytes token ≡ true
  some : 1 ≤ length token

token_is : (bytes token : List ℕ) → token_of bytes ≡ Some token → IsTokenText token
token_is bytes token h =
    let c = come_of (text_of bytes) (λ text. when (is_token text) text) token h in
    let p = passed (is_utf8 bytes) bytes c.from c.is in
    let q = passed (is_token c.from) c.from token c.gives in
    let full = and_parts (not (length c.from == 0)) (is_whole c.from) q.0 in
    record {
      bytes = sym (ap are_bytes (p.1 ∙ q.1)) ∙ utf8_bytes bytes p.0;
      some = subst (λ (t : List ℕ). 1 ≤ length t) q.1 (has_some c.from full.0);
    }
  where
    has_some : (text : List ℕ) → not (length text == 0) ≡ true → 1 ≤ length text
    has_some [] e = absurd (cc)
    has_some (b ∷ text) e = omega arith

-- what is read within a limit
short_is : (o : Option (List ℕ)) (most : ℕ) (bytes : List ℕ) → option_and_then (λ read. cond (nat_le (length read) most) (Some read) None) o ≡ Some bytes → (length bytes ≤ most) × (o ≡ Some bytes)
short_is o most bytes h =
    let c = come_of o (λ read. cond (nat_le (length read) most) (Some read) None) bytes h in
    let p = passed (nat_le (length c.from) most) c.from bytes c.gives in
    (subst (λ (l : List ℕ). length l ≤ most) p.1 (leb-true (length c.from) most p.0), c.is ∙ ap Some p.1)

label_bytes_short : (bytes label : List ℕ) → label_bytes bytes ≡ Some label → length label ≤ 1024
label_bytes_short bytes label h =
    elim (either_of (bytes_eq bytes (codes "\\e")) (Some []) (token_of bytes >>= label_read 1024) label h) [
      | inl e ↦ subst (λ (l : List ℕ). length l ≤ 1024) (some_same [] label e) (omega arith)
      | inr e ↦ let c = come_of (token_of bytes) (label_read 1024) label e in (short_is (bytes_spelled (items_of c.from)) 1024 label c.gives).0
    ]

type_bytes_short : (bytes text : List ℕ) → type_bytes bytes ≡ Some text → length text ≤ 1024
type_bytes_short bytes text h =
    elim (either_of (bytes_eq bytes (codes "\\e")) (Some []) (token_of bytes >>= type_read 1024) text h) [
      | inl e ↦ subst (λ (l : List ℕ). length l ≤ 1024) (some_same [] text e) (omega arith)
      | inr e ↦ let c = come_of (token_of bytes) (type_read 1024) text e in (short_is (type_spelled (items_of c.from)) 1024 text c.gives).0
    ]

text_is : (bytes text : List ℕ) → length bytes ≤ 1024 → text_of bytes ≡ Some text → is_writable_text text ≡ true
text_is bytes text short h =
    let p = passed (is_utf8 bytes) bytes text h in
    sym (ap is_writable_text p.1) ∙ and_from _ _ (and_from _ _ (utf8_bytes bytes p.0) (le-leb (length bytes) 1024 short)) p.0

pub label_is : (bytes label : List ℕ) → label_of bytes ≡ Some label → is_writable_text label ≡ true
label_is bytes label h = let c = come_of (label_bytes bytes) text_of label h in text_is c.from label (label_bytes_short bytes c.from c.is) c.gives

pub type_is : (bytes text : List ℕ) → type_of bytes ≡ Some text → is_writable_text text ≡ true
type_is bytes text h = let c = come_of (type_bytes bytes) text_of text h in text_is c.from text (type_bytes_short bytes c.from c.is) c.gives

ok_is : {A E : Type 0} (r : Result A E) (x : A) → result_ok r ≡ Some x → r ≡ Ok x
ok_is (Ok y) x h = ap Ok (some_same y x h)
ok_is (Err e) x h = absurd (cc)

pub name_is : (bytes : List ℕ) (name : List (List ℕ)) → name_of bytes ≡ Some name → is_spellable_name name ≡ true
name_is bytes name h =
    let c = come_of (token_of bytes) (λ token. result_ok (read_name token)) name h in
    name_good c.from name (token_is bytes c.from c.is).bytes (ok_is (read_name c.from) name c.gives)

-- the label of a host
pub record IsHostLabel (label : List ℕ) : Type 0 where
  pub fits : is_label label ≡ true
  pub bytes : are_bytes label ≡ true
  pub utf8 : is_utf8 label ≡ true

pub host_label_is : (bytes label : List ℕ) → host_label_of bytes ≡ Some label → IsHostLabel label
host_label_is bytes label h =
    let c = come_of (token_of bytes) (λ token. label_read 63 token >>= host_text) label h in
    let d = come_of (label_read 63 c.from) host_text label c.gives in
    let e = come_of (text_of d.from) (λ text. when (is_label text) text) label d.gives in
    let p = passed (is_utf8 d.from) d.from e.from e.is in
    let q = passed (is_label e.from) e.from label e.gives in
    let utf8 : is_utf8 label ≡ true = sym (ap is_utf8 (p.1 ∙ q.1)) ∙ p.0 in
    record { fits = sym (ap is_label q.1) ∙ q.0; bytes = utf8_bytes label utf8; utf8 = utf8 }

-- ---- TXT data

record IsString (string : List ℕ) : Type 0 where
  bytes : are_bytes string ≡ true
  some : has_bytes string ≡ true
  short : length string ≤ 255

string_is : (token string : List ℕ) → string_of token ≡ Some string → IsString string
string_is token string h =
    let c = come_of (token_of token) (label_read 255) string h in
    let text = token_is token c.from c.is in
    let read = short_is (bytes_spelled (items_of c.from)) 255 string c.gives in
    record {
      bytes = spelled_bytes (items_of c.from) string (items_good c.from text.bytes) read.1;
      some = le-leb 1 (length string) (spelled_some c.from string text.some read.1);
      short = read.0;
    }

strings_are : (tokens strings : List (List ℕ)) → tokens_read tokens ≡ Some strings → (are_bytes (txt_data strings) ≡ true) × (list_all has_bytes strings ≡ true)
strings_are [] strings h = let same : [] ≡ strings = some_same [] strings h in (ap (λ (l : List (List ℕ)). are_bytes (txt_data l)) (sym same), ap (list_all has_bytes) (sym same))
strings_are (token ∷ tokens) strings h =
    let c = come_of (string_of token) (λ string. tokens_read tokens >>= λ rest. Some (string ∷ rest)) strings h in
    let d = come_of (tokens_read tokens) (λ rest. Some (c.from ∷ rest)) strings c.gives in
    let same : c.from ∷ d.from ≡ strings = some_same (c.from ∷ d.from) strings d.gives in
    let one = string_is token c.from c.is in
    let rest = strings_are tokens d.from d.is in (
      sym (ap (λ (l : List (List ℕ)). are_bytes (txt_data l)) same)
          ∙ and_from _ _ (lt-ltb (length c.from) (2 ^ 8) (omega (arith, one.short))) (list_all-append (is_below 8) c.from (txt_data d.from) ∙ and_from _ _ one.bytes rest.0),
      sym (ap (list_all has_bytes) same) ∙ and_from _ _ one.some rest.1,
    )

pub txt_is : (bytes txt : List ℕ) → txt_of bytes ≡ Some txt → is_writable_txt txt ≡ true
txt_is bytes txt h =
    elim (either_of (bytes_eq bytes (codes "-")) (Some []) (option_map txt_data (tokens_read (slice_split (λ b. b == 32) bytes)) >>= short_txt) txt h) [
      | inl e ↦ sym (ap is_writable_txt (some_same [] txt e))
      | inr e ↦
          let c = come_of (option_map txt_data (tokens_read (slice_split (λ b. b == 32) bytes))) short_txt txt e in
          let m = mapped_of (tokens_read (slice_split (λ b. b == 32) bytes)) txt_data c.from c.is in
          let p = passed (nat_le (length c.from) 8192) c.from txt c.gives in
          let made : txt ≡ txt_data m.from = sym (m.gives ∙ p.1) in
          let are = strings_are (slice_split (λ b. b == 32) bytes) m.from m.is in
          let short : length (txt_data m.from) ≤ 8192 = subst (λ (l : List ℕ). length l ≤ 8192) (sym m.gives) (leb-true (length c.from) 8192 p.0) in
          and_from _ _ (and_from _ _ (ap are_bytes made ∙ are.0) (is_txt-made txt m.from made short)) (ap (list_all has_bytes) (strings_of-made txt m.from made) ∙ are.1)
    ]
