-- Four parts with a separator between them.
use Rattle.std.proofs.Common.{◌≡◌, ℕ, ◌++◌, List, [], ◌∷◌, ◌∙◌, Bool, true, false, cond, eqb, Option, Some, None, refl, sym, ap, append_assoc, eq-eqb}
use Rattle.std.specs.Char.{to_ascii_lowercase}
use Rattle.std.specs.List.{list_any}
use Rattle.std.specs.Option.{option_map, option_and_then}
use Rattle.std.specs.Str.{str_to_ascii_lowercase}
use Rattle.std.proofs.lemmas.Bool.{eqb-true, or_parts}
use Rattle.std.proofs.lemmas.Option.{option_and_then_some}
use Rattle.number_text.specs.Cut.{cut_of}
use Rattle.number_text.specs.Digits.{four_of, four_text}

-- no byte is the separator
abbrev pub lacks : ℕ → List ℕ → Bool
lacks c text = list_any (λ b. eqb b c) text

-- equal pairs
pub same_pair : (p q : List ℕ × List ℕ) → Some p ≡ Some q → (p.0 ≡ q.0) × (p.1 ≡ q.1)
same_pair p q h = let e : p ≡ q = cc in (ap (λ (r : List ℕ × List ℕ). r.0) e, ap (λ (r : List ℕ × List ℕ). r.1) e)

-- the parts of bytes round a separator make the bytes
pub cut_of-parts : (c : ℕ) (text x y : List ℕ) → cut_of c text ≡ Some (x, y) → text ≡ x ++ c ∷ y
unfolding cut_of
cut_of-parts c [] x y e = absurd (cc)
cut_of-parts c (b ∷ text) x y e = at_test (eqb b c) refl e (λ u v h. cut_of-parts c text u v h)
  where
    later : (o : Option (List ℕ × List ℕ)) → cut_of c text ≡ o → option_map {U = List ℕ × List ℕ} (λ p. (b ∷ p.0, p.1)) o ≡ Some (x, y)
        → ((u v : List ℕ) → cut_of c text ≡ Some (u, v) → text ≡ u ++ c ∷ v) → b ∷ text ≡ x ++ c ∷ y
    later None h e ih = absurd (cc)
    later (Some p) h e ih =
        let ends = same_pair (b ∷ p.0, p.1) (x, y) e in
        ap (λ (l : List ℕ). b ∷ l) (ih p.0 p.1 h) ∙ ap (λ (l : List ℕ). l ++ c ∷ p.1) ends.0 ∙ ap (λ (l : List ℕ). x ++ c ∷ l) ends.1

    at_test : (t : Bool) → eqb b c ≡ t → cond t (Some ([], text)) (option_map {U = List ℕ × List ℕ} (λ p. (b ∷ p.0, p.1)) (cut_of c text)) ≡ Some (x, y)
        → ((u v : List ℕ) → cut_of c text ≡ Some (u, v) → text ≡ u ++ c ∷ v) → b ∷ text ≡ x ++ c ∷ y
    at_test true h e ih =
        let here : b ≡ c = eqb-true b c h in
        let ends = same_pair ([], text) (x, y) e in
        ap (λ (d : ℕ). d ∷ text) here ∙ ap (λ (l : List ℕ). l ++ c ∷ text) ends.0 ∙ ap (λ (l : List ℕ). x ++ c ∷ l) ends.1
    at_test false h e ih = later (cut_of c text) refl e ih

-- bytes that are joined by a separator are cut there
pub cut_of-joined : (c : ℕ) (x y : List ℕ) → lacks c x ≡ false → cut_of c (x ++ c ∷ y) ≡ Some (x, y)
unfolding cut_of
cut_of-joined c [] y h = rw (eq-eqb c c refl) refl
cut_of-joined c (b ∷ x) y h =
    let p = or_parts (eqb b c) (lacks c x) h in
    rw (p.0, cut_of-joined c x y p.1) refl

regrouped : (c : ℕ) (x y z w : List ℕ) → x ++ c ∷ y ++ c ∷ z ++ c ∷ w ≡ x ++ (c ∷ (y ++ (c ∷ (z ++ c ∷ w))))
regrouped c x y z w = simp append_assoc

-- four numbers that are written are read
pub four_written : (separator : ℕ) (number : List ℕ → Option ℕ) (print : ℕ → List ℕ) (make : ℕ → ℕ → ℕ → ℕ → ℕ) (a b c d : ℕ)
    → lacks separator (print a) ≡ false → lacks separator (print b) ≡ false → lacks separator (print c) ≡ false
    → number (print a) ≡ Some a → number (print b) ≡ Some b → number (print c) ≡ Some c → number (print d) ≡ Some d
    → four_of separator number make (four_text separator print a b c d) ≡ Some (make a b c d)
unfolding four_of four_text
four_written separator number print make a b c d la lb lc ra rb rc rd =
    rw (
      regrouped separator (print a) (print b) (print c) (print d),
      cut_of-joined separator (print a) (print b ++ (separator ∷ (print c ++ separator ∷ print d))) la,
      cut_of-joined separator (print b) (print c ++ separator ∷ print d) lb,
      cut_of-joined separator (print c) (print d) lc,
      ra,
      rb,
      rc,
      rd,
    ) refl

-- four numbers that are read are written so, but for how each is written
pub four_read : {P : Type 0} (separator : ℕ) (number : List ℕ → Option ℕ) (make : ℕ → ℕ → ℕ → ℕ → ℕ) (text : List ℕ) (n : ℕ)
    → four_of separator number make text ≡ Some n
    → ((x y z w : List ℕ) (a b c d : ℕ) → text ≡ x ++ separator ∷ y ++ separator ∷ z ++ separator ∷ w
    → number x ≡ Some a → number y ≡ Some b → number z ≡ Some c → number w ≡ Some d → make a b c d ≡ n → P) → P
unfolding four_of
four_read separator number make text n e then =
    option_and_then_some _ _ _ e (λ first e1 h1. option_and_then_some _ _ _ h1 (λ second e2 h2. option_and_then_some _ _ _ h2 (λ third e3 h3.
    option_and_then_some _ _ _ h3 (λ a ea h4. option_and_then_some _ _ _ h4 (λ b eb h5. option_and_then_some _ _ _ h5 (λ c ec h6. option_and_then_some _ _ _ h6 (λ d ed h7.
    then first.0 second.0 third.0 third.1 a b c d
    (whole (first.0) (second.0) (third.0) (third.1) first.1 second.1 (cut_of-parts separator text first.0 first.1 e1) (cut_of-parts separator first.1 second.0 second.1 e2) (cut_of-parts separator second.1 third.0 third.1 e3))
    ea eb ec ed (some_value _ _ h7))))))))
  where
    some_value : (m n : ℕ) → Some m ≡ Some n → m ≡ n
    some_value m n h = cc

    whole : (x y z w rest more : List ℕ) → text ≡ x ++ separator ∷ rest → rest ≡ y ++ separator ∷ more → more ≡ z ++ separator ∷ w → text ≡ x ++ separator ∷ y ++ separator ∷ z ++ separator ∷ w
    whole x y z w rest more e f g = e ∙ ap (λ (l : List ℕ). x ++ separator ∷ l) (f ∙ ap (λ (l : List ℕ). y ++ separator ∷ l) g) ∙ sym (regrouped separator x y z w)

-- a separator that is no letter stands at the same places in either case
pub cut_of-lower : (c : ℕ) → ((b : ℕ) → eqb (to_ascii_lowercase b) c ≡ eqb b c) → (text : List ℕ)
    → cut_of c (str_to_ascii_lowercase text) ≡ option_map (λ p. (str_to_ascii_lowercase p.0, str_to_ascii_lowercase p.1)) (cut_of c text)
unfolding cut_of
cut_of-lower c same [] = refl
cut_of-lower c same (b ∷ text) = rw (same b, cut_of-lower c same text) (at_test (eqb b c) (cut_of c text))
  where
    at_test : (t : Bool) (o : Option (List ℕ × List ℕ))
        → cond t (Some ([], str_to_ascii_lowercase text)) (option_map {U = List ℕ × List ℕ} (λ p. (to_ascii_lowercase b ∷ p.0, p.1)) (option_map {U = List ℕ × List ℕ} (λ p. (str_to_ascii_lowercase p.0, str_to_ascii_lowercase p.1)) o))
        ≡ option_map {U = List ℕ × List ℕ} (λ p. (str_to_ascii_lowercase p.0, str_to_ascii_lowercase p.1)) (cond t (Some ([], text)) (option_map {U = List ℕ × List ℕ} (λ p. (b ∷ p.0, p.1)) o))
    at_test true o = refl
    at_test false None = refl
    at_test false (Some p) = refl

cut_then : (c : ℕ) → ((b : ℕ) → eqb (to_ascii_lowercase b) c ≡ eqb b c) → (text : List ℕ) (f g : List ℕ × List ℕ → Option ℕ)
    → ((x y : List ℕ) → f (str_to_ascii_lowercase x, str_to_ascii_lowercase y) ≡ g (x, y))
    → option_and_then f (cut_of c (str_to_ascii_lowercase text)) ≡ option_and_then g (cut_of c text)
cut_then c same text f g then = ap (option_and_then f) (cut_of-lower c same text) ∙ at_cut (cut_of c text)
  where
    at_cut : (o : Option (List ℕ × List ℕ)) → option_and_then f (option_map (λ p. (str_to_ascii_lowercase p.0, str_to_ascii_lowercase p.1)) o) ≡ option_and_then g o
    at_cut None = refl
    at_cut (Some p) = then p.0 p.1

-- four numbers that may have either case are read in either case
pub four_lower : (c : ℕ) → ((b : ℕ) → eqb (to_ascii_lowercase b) c ≡ eqb b c) → (number : List ℕ → Option ℕ) (make : ℕ → ℕ → ℕ → ℕ → ℕ)
    → ((text : List ℕ) → number (str_to_ascii_lowercase text) ≡ number text) → (text : List ℕ)
    → four_of c number make (str_to_ascii_lowercase text) ≡ four_of c number make text
unfolding four_of
four_lower c same number make either_case text =
    cut_then c same text _ _ (λ x rest. cut_then c same rest _ _ (λ y more. cut_then c same more _ _ (λ z w.
    λ i. option_and_then (λ a. option_and_then (λ b. option_and_then (λ d. option_and_then (λ e. Some (make a b d e)) (either_case w i)) (either_case z i)) (either_case y i)) (either_case x i))))
