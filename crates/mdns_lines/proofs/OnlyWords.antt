-- What is read of the words of a line is in the ranges of their types.
use Rattle.std.proofs.Common.{◌≡◌, ℕ, ℤ, pos, negsuc, ◌-◌, ◌^◌, true, cond, ◌&&◌, List, ◌∷◌, ◌++◌, Option, Some, None, Result, Ok, Err, length, take, drop, refl, ap, sym, ◌∙◌, inl, inr, ◌⊎◌, arith, codes}
use Rattle.std.specs.Prelude.{nat_le, nat_lt}
use Rattle.std.specs.Option.{option_and_then}
use Rattle.std.specs.Result.{result_ok}
use Rattle.std.specs.Str.{bytes_eq, is_utf8}
use Rattle.std.proofs.lemmas.Bool.{lt-ltb, leb-true, and_from, and_parts}
use Rattle.std.proofs.lemmas.List.Folds.{list_all-append}
use Rattle.std.proofs.lemmas.List.{take-append-drop}
use Rattle.number_text.specs.Cut.{cut_of}
use Rattle.number_text.specs.Digits.{◌>>=◌, decimal_below, ipv4_of}
use Rattle.mdns_base.specs.declared.host.Host.{Host}
use Rattle.number_text.proofs.Joined.{cut_of-parts}
use Rattle.dns_name.specs.Names.{is_label}
use Rattle.dns_name.specs.ReadName.{read_name}
use Rattle.dns_name.specs.TextItems.{items_of, bytes_spelled, label_read}
use Rattle.dns_message.specs.Writing.{is_below, are_bytes, is_spellable_name}
use Rattle.mdns_history.specs.Typed.{is_signed, is_typed_host}
use Rattle.mdns_script.specs.Tokens.{when, text_of}
use Rattle.mdns_script.proofs.ReadBytes.{utf8_bytes, items_good, spelled_bytes}
use Rattle.mdns_script.proofs.ReadNames.{name_good}
use Rattle.mdns_script.proofs.ReadTokens.{come_of, some_same, passed, below_is, ipv4_is}
use Rattle.mdns_lines.specs.Words.{after, or_else, if_word, name_in, label_in, host_in, signed_below, signed_in}

-- ---- parts of bytes

bytes_joined : (x y : List ℕ) → are_bytes (x ++ y) ≡ true → (are_bytes x ≡ true) × (are_bytes y ≡ true)
bytes_joined x y h = and_parts (are_bytes x) (are_bytes y) (sym (list_all-append (is_below 8) x y) ∙ h)

pub cut_bytes : (text : List ℕ) (words : List ℕ × List ℕ) → are_bytes text ≡ true → cut_of 32 text ≡ Some words → (are_bytes words.0 ≡ true) × (are_bytes words.1 ≡ true)
cut_bytes text words h e =
    let p = bytes_joined words.0 (32 ∷ words.1) (sym (ap are_bytes (cut_of-parts 32 text words.0 words.1 e)) ∙ h) in
    (p.0, (and_parts (is_below 8 32) (are_bytes words.1) p.1).1)

pub after_bytes : (word text rest : List ℕ) → are_bytes text ≡ true → after word text ≡ Some rest → are_bytes rest ≡ true
after_bytes word text rest h e =
    let p = passed (bytes_eq (take (length word) text) word) (drop (length word) text) rest e in
    sym (ap are_bytes p.1) ∙ (bytes_joined (take (length word) text) (drop (length word) text) (ap are_bytes (take-append-drop (length word) text) ∙ h)).1

-- what is read behind a word, or otherwise
pub record IsBehind {A : Type 0} (o : Option (List ℕ)) (read : List ℕ → Option A) (x : A) : Type 0 where
  pub rest : List ℕ
  pub is : o ≡ Some rest
  pub gives : read rest ≡ Some x

pub either_is : {A : Type 0} (o : Option (List ℕ)) (read : List ℕ → Option A) (other : Option A) (x : A) → or_else o read other ≡ Some x → IsBehind o read x ⊎ (other ≡ Some x)
either_is None read other x h = inr h
either_is (Some rest) read other x h = inl (record { rest = rest; is = refl; gives = h })

-- a value of one word
pub word_is : {A : Type 0} (word text : List ℕ) (value x : A) → if_word word text value ≡ Some x → value ≡ x
word_is word text value x h = (passed (bytes_eq text word) value x h).1

-- ---- words

pub ok_is : {A E : Type 0} (r : Result A E) (x : A) → result_ok r ≡ Some x → r ≡ Ok x
ok_is (Ok y) x h = ap Ok (some_same y x h)
ok_is (Err e) x h = absurd (cc)

pub text_bytes : (bytes text : List ℕ) → text_of bytes ≡ Some text → are_bytes text ≡ true
text_bytes bytes text h = let p = passed (is_utf8 bytes) bytes text h in sym (ap are_bytes p.1) ∙ utf8_bytes bytes p.0

pub name_in_is : (bytes : List ℕ) (name : List (List ℕ)) → name_in bytes ≡ Some name → is_spellable_name name ≡ true
name_in_is bytes name h =
    let c = come_of (text_of bytes) (λ text. result_ok (read_name text)) name h in name_good c.from name (text_bytes bytes c.from c.is) (ok_is (read_name c.from) name c.gives)

short_is : (o : Option (List ℕ)) (most : ℕ) (bytes : List ℕ) → option_and_then (λ read. cond (nat_le (length read) most) (Some read) None) o ≡ Some bytes → o ≡ Some bytes
short_is o most bytes h =
    let c = come_of o (λ read. cond (nat_le (length read) most) (Some read) None) bytes h in c.is ∙ ap Some (passed (nat_le (length c.from) most) c.from bytes c.gives).1

pub label_in_is : (bytes label : List ℕ) → are_bytes bytes ≡ true → label_in bytes ≡ Some label → (is_label label ≡ true) × (are_bytes label ≡ true)
label_in_is bytes label b h =
    let c = come_of (label_read 63 bytes) (λ label. when (is_label label) label) label h in
    let p = passed (is_label c.from) c.from label c.gives in
    (sym (ap is_label p.1) ∙ p.0, sym (ap are_bytes p.1) ∙ spelled_bytes (items_of bytes) c.from (items_good bytes b) (short_is (bytes_spelled (items_of bytes)) 63 c.from c.is))

pub host_in_is : (ip port : List ℕ) (host : Host) → host_in ip port ≡ Some host → is_typed_host host ≡ true
unfolding host_in
host_in_is ip port host h =
    let a = come_of (ipv4_of ip) _ host h in
    let p = come_of (decimal_below (2 ^ 16) port) _ host a.gives in
    sym (ap is_typed_host (some_same (record { ip = a.from; port = p.from }) host p.gives)) ∙ and_from _ _ (ipv4_is ip a.from a.is) (below_is 16 port p.from p.is)

signed_below_is : (amount : List ℕ) (z : ℤ) → signed_below amount ≡ Some z → is_signed z ≡ true
signed_below_is amount z h =
    let n = come_of (decimal_below (2 ^ 32) amount) (λ n. when (nat_le 1 n && nat_le n (2 ^ 31)) (negsuc (n - 1))) z h in
    let p = passed (nat_le 1 n.from && nat_le n.from (2 ^ 31)) (negsuc (n.from - 1)) z n.gives in
    let q = and_parts (nat_le 1 n.from) (nat_le n.from (2 ^ 31)) p.0 in
    sym (ap is_signed p.1) ∙ lt-ltb (n.from - 1) (2 ^ 31) (omega (arith, leb-true 1 n.from q.0, leb-true n.from (2 ^ 31) q.1))

pub signed_in_is : (text : List ℕ) (z : ℤ) → signed_in text ≡ Some z → is_signed z ≡ true
signed_in_is text z h =
    elim (either_is (after (codes "-") text) signed_below (decimal_below (2 ^ 32) text >>= λ n. when (nat_lt n (2 ^ 31)) (pos n)) z h) [
      | inl below ↦ signed_below_is below.rest z below.gives
      | inr e ↦
          let n = come_of (decimal_below (2 ^ 32) text) (λ n. when (nat_lt n (2 ^ 31)) (pos n)) z e in
          let p = passed (nat_lt n.from (2 ^ 31)) (pos n.from) z n.gives in
          sym (ap is_signed p.1) ∙ p.0
    ]
