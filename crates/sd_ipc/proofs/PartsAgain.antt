-- Numbers, names, texts and TXT data are read again.
use Rattle.std.proofs.Common.{◌≡◌, ℕ, ◌^◌, ◌<◌, ◌≤◌, ◌++◌, ◌∙◌, Bool, true, false, ◌&&◌, ◌↔◌, Option, Some, None, IsSome, List, [], Result, Ok, Err, cond, leb, length, take, drop, refl, sym, ap, arith, length-append, length-take, append_assoc}
use Rattle.std.specs.Prelude.{IsTrue}
use Rattle.std.specs.Int.{to_be_bytes, from_be_bytes, w16, w32}
use Rattle.std.specs.Str.{IsUtf8, is_utf8}
use Rattle.std.proofs.Math.Seq.{take-append_seam, drop-append_seam}
use Rattle.std.proofs.lemmas.Bool.{le-leb, leb-true, false≢true}
use Rattle.std.proofs.lemmas.Nat.{from_be_bytes-to_be_bytes_2, from_be_bytes-to_be_bytes_4}
use Rattle.std.proofs.lemmas.Str.{is_utf8-from_IsUtf8, IsUtf8-from_is_utf8}
use Rattle.dns_name.specs.Names.{is_name}
use Rattle.dns_name.proofs.Wire.{name_short}
use Rattle.sd_ipc.specs.declared.error.FrameError.{FrameError}
use Rattle.sd_ipc.specs.declared.error.FrameError.TheVariants.{BadBody}
use Rattle.sd_ipc.specs.Frames.{counted}
use Rattle.sd_ipc.specs.Parts.{◌>>=◌, Part, u16_part, u32_part, bytes_part, counted_part, text_part, txt_part}
use Rattle.sd_ipc.specs.Again.{ReadsNumber, ReadsName, ReadsText, ReadsTxt}
use Rattle.sd_ipc.proofs.Names.{name_part-is}

-- what is read where a test holds
abbrev if_so : {X : Type 0} → Bool → X → List ℕ → Part X
if_so b x rest = cond b (Ok (x, rest)) (Err BadBody)

-- so many bytes as a number, and what follows them
number_again : (value : List ℕ → ℕ) (k : ℕ) (bytes more : List ℕ) (n : ℕ) → length bytes ≡ k → value bytes ≡ n
    → if_so (leb k (length (bytes ++ more))) (value (take k (bytes ++ more))) (drop k (bytes ++ more)) ≡ Ok (n, more)
number_again value k bytes more n size is =
    let enough : leb k (length (bytes ++ more)) ≡ true = le-leb k (length (bytes ++ more)) (omega (arith, length-append bytes more)) in
    let front : take k (bytes ++ more) ≡ bytes = ap (λ (m : ℕ). take m (bytes ++ more)) (sym size) ∙ take-append_seam bytes more in
    let rest : drop k (bytes ++ more) ≡ more = ap (λ (m : ℕ). drop m (bytes ++ more)) (sym size) ∙ drop-append_seam bytes more in
    rw (enough, front, rest, is) refl

pub u16_again : (n : ℕ) (more : List ℕ) → n < 2 ^ 16 → u16_part (to_be_bytes w16 n ++ more) ≡ Ok (n, more)
unfolding u16_part
u16_again n more fits = number_again (from_be_bytes w16) 2 (to_be_bytes w16 n) more n refl (from_be_bytes-to_be_bytes_2 n fits)

pub u32_again : (n : ℕ) (more : List ℕ) → n < 2 ^ 32 → u32_part (to_be_bytes w32 n ++ more) ≡ Ok (n, more)
unfolding u32_part
u32_again n more fits = number_again (from_be_bytes w32) 4 (to_be_bytes w32 n) more n refl (from_be_bytes-to_be_bytes_4 n fits)

pub reads_number : (n : ℕ) → n < 2 ^ 16 → ReadsNumber n
reads_number n fits = record { again = λ more. u16_again n more fits }

pub reads_name : (name : List (List ℕ)) → IsTrue (is_name name) → ReadsName name
reads_name name h = record { again = λ more. name_part-is name more h; short = name_short name h }

bytes_again : (most : ℕ) (bytes more : List ℕ) → length bytes ≤ most → bytes_part most (length bytes) (bytes ++ more) ≡ Ok (bytes, more)
unfolding bytes_part
bytes_again most bytes more small =
    let low : leb (length bytes) most ≡ true = le-leb (length bytes) most small in
    let enough : leb (length bytes) (length (bytes ++ more)) ≡ true = le-leb (length bytes) (length (bytes ++ more)) (omega (arith, length-append bytes more)) in
    rw (low, enough, take-append_seam bytes more, drop-append_seam bytes more) refl

pub counted_again : (most : ℕ) (bytes more : List ℕ) → length bytes ≤ most → most < 2 ^ 16 → counted_part most (counted bytes ++ more) ≡ Ok (bytes, more)
unfolding counted_part
counted_again most bytes more small fits =
    let size : u16_part (to_be_bytes w16 (length bytes) ++ (bytes ++ more)) ≡ Ok (length bytes, bytes ++ more) = u16_again (length bytes) (bytes ++ more) (omega arith) in
    let next : Result (ℕ × List ℕ) FrameError → Part (List ℕ) = λ r. r >>= λ size. bytes_part most size.0 size.1 in
    ap (λ (l : List ℕ). next (u16_part l)) (append_assoc (to_be_bytes w16 (length bytes)) bytes more) ∙ ap next size ∙ bytes_again most bytes more small

pub reads_text : (text : List ℕ) → length text ≤ 1024 → IsUtf8 text → ReadsText text
unfolding text_part
reads_text text short utf8 = record { again = λ more. text_again more; short = short }
  where
    text_again : (more : List ℕ) → text_part (counted text ++ more) ≡ Ok (text, more)
    text_again more = rw (counted_again 1024 text more short (omega arith), is_utf8-from_IsUtf8 text utf8) refl

pub reads_txt : (txt : List ℕ) → length txt ≤ 8192 → ReadsTxt txt
unfolding txt_part
reads_txt txt short = record { again = λ more. txt_again more; short = short }
  where
    txt_again : (more : List ℕ) → txt_part (counted txt ++ more) ≡ Ok (txt, more)
    txt_again more = counted_again 8192 txt more short (omega arith)

-- a text that is read
pub text_is : (bytes text rest read : List ℕ) → counted_part 1024 bytes ≡ Ok (text, rest) → IsUtf8 text → read ≡ text → text_part bytes ≡ Ok (read, rest)
unfolding text_part
text_is bytes text rest read e utf8 same = rw (e, is_utf8-from_IsUtf8 text utf8, same) refl

-- bytes that are no text
pub text_bad : (bytes text rest : List ℕ) → counted_part 1024 bytes ≡ Ok (text, rest) → (IsUtf8 text → ⊥) → text_part bytes ≡ Err BadBody
unfolding text_part
text_bad bytes text rest e bad = rw (e, not_utf8) refl
  where
    at_test : (b : Bool) → is_utf8 text ≡ b → is_utf8 text ≡ false
    at_test true e = absurd (bad (IsUtf8-from_is_utf8 text e))
    at_test false e = e

    not_utf8 : is_utf8 text ≡ false
    not_utf8 = at_test (is_utf8 text) refl

-- what was read
abbrev read_or_none : Part (List ℕ) → List ℕ
read_or_none (Ok p) = p.0
read_or_none (Err e) = []

-- bytes behind their count are no more than may be
pub counted_short : (most : ℕ) (bytes text rest : List ℕ) → counted_part most bytes ≡ Ok (text, rest) → length text ≤ most
unfolding counted_part bytes_part
counted_short most bytes text rest e = at_size (u16_part bytes) e
  where
    at_tests : (size : ℕ) (behind : List ℕ) (t u : Bool) → leb size most ≡ t → leb size (length behind) ≡ u
        → if_so (t && u) (take size behind) (drop size behind) ≡ Ok (text, rest) → length text ≤ most
    at_tests size behind true true et eu e =
        let same : take size behind ≡ text = ap read_or_none e in
        omega (arith, leb-true size most et, leb-true size (length behind) eu, length-take size behind, ap length same)
    at_tests size behind true false et eu e = absurd (cc)
    at_tests size behind false u et eu e = absurd (cc)

    at_size : (r : Result (ℕ × List ℕ) FrameError) → (r >>= λ size. bytes_part most size.0 size.1) ≡ Ok (text, rest) → length text ≤ most
    at_size (Ok (size, behind)) e = at_tests size behind (leb size most) (leb size (length behind)) refl refl e
    at_size (Err fault) e = absurd (cc)

-- a text is found where it is short
pub text_found : (found : Option (List ℕ)) (n : ℕ) → found ≡ None → IsSome found ↔ (n ≤ 1024) → n ≤ 1024 → ⊥
text_found None n e h short = absurd (false≢true (h.1 short))
text_found (Some x) n e h short = cc
