-- Texts that are told apart: tokens before a space or a line's end, lines before a line feed, and runs of lines before another line.
use Rattle.std.proofs.Common.{◌≡◌, ℕ, ◌*◌, ◌+◌, Bool, true, false, cond, eqb, ltb, List, [], ◌∷◌, ◌++◌, refl, ap, sym, ◌∙◌, append_assoc}
use Rattle.std.specs.List.{list_all, flat_map}
use Rattle.std.proofs.Common.{arith}
use Rattle.std.proofs.lemmas.Bool.Decides.{nat_tests}
use Rattle.std.proofs.lemmas.Bool.{and_from, and_parts}
use Rattle.mdns_history.specs.EntryText.{line}

-- each byte can be seen: it stands above the space
abbrev pub are_seen : List ℕ → Bool
are_seen text = list_all (λ b. ltb 32 b) text

-- each byte may stand in a line: it is no control character
abbrev pub in_line : List ℕ → Bool
in_line text = list_all (λ b. ltb 31 b) text

-- a test of each byte holds of joined texts where it holds of both
pub all_joined : (p : ℕ → Bool) (t u : List ℕ) → list_all p t ≡ true → list_all p u ≡ true → list_all p (t ++ u) ≡ true
all_joined p [] u h k = k
all_joined p (b ∷ t) u h k = let parts = and_parts (p b) (list_all p t) h in and_from (p b) (list_all p (t ++ u)) parts.0 (all_joined p t u parts.1 k)

pub seen_joined : (t u : List ℕ) → are_seen t ≡ true → are_seen u ≡ true → are_seen (t ++ u) ≡ true
seen_joined t u h k = all_joined (λ b. ltb 32 b) t u h k

pub line_joined : (t u : List ℕ) → in_line t ≡ true → in_line u ≡ true → in_line (t ++ u) ≡ true
line_joined t u h k = all_joined (λ b. ltb 31 b) t u h k

-- a test holds of each byte of texts made from a list where it holds of each text
pub all_flat : {X : Type 0} (p : ℕ → Bool) (f : X → List ℕ) (good : X → Bool) → ((x : X) → good x ≡ true → list_all p (f x) ≡ true) →
    (xs : List X) → list_all good xs ≡ true → list_all p (flat_map f xs) ≡ true
all_flat p f good each [] h = refl
all_flat p f good each (x ∷ xs) h = let parts = and_parts (good x) (list_all good xs) h in all_joined p (f x) (flat_map f xs) (each x parts.0) (all_flat p f good each xs parts.1)

-- what can be seen may stand in a line
pub seen_line : (t : List ℕ) → are_seen t ≡ true → in_line t ≡ true
seen_line [] h = refl
seen_line (b ∷ t) h = let parts = and_parts (ltb 32 b) (are_seen t) h in and_from (ltb 31 b) (in_line t) (above b parts.0) (seen_line t parts.1)
  where
    above : (b : ℕ) → ltb 32 b ≡ true → ltb 31 b ≡ true
    above b h = grind (arith, nat_tests)

-- A text goes on with nothing, or with a byte that fails a test.
abbrev pub Ends : (ℕ → Bool) → List ℕ → Type 0
Ends p [] = Unit {0}
Ends p (b ∷ x) = p b ≡ false

-- two texts of bytes that pass a test, before what ends them
pub apart_by : (p : ℕ → Bool) (t u x y : List ℕ) → list_all p t ≡ true → list_all p u ≡ true → Ends p x → Ends p y → t ++ x ≡ u ++ y → (t ≡ u) × (x ≡ y)
apart_by p [] [] x y h k f g e = (refl, e)
apart_by p [] (b ∷ u) [] y h k f g e = cc
apart_by p [] (b ∷ u) (c ∷ x) y h k f g e = let same : c ≡ b = cc in let no : false ≡ true = sym f ∙ ap p same ∙ (and_parts (p b) (list_all p u) k).0 in cc
apart_by p (a ∷ t) [] x [] h k f g e = cc
apart_by p (a ∷ t) [] x (c ∷ y) h k f g e = let same : c ≡ a = cc in let no : false ≡ true = sym g ∙ ap p same ∙ (and_parts (p a) (list_all p t) h).0 in cc
apart_by p (a ∷ t) (b ∷ u) x y h k f g e =
    let head : a ≡ b = cc in
    let rest : t ++ x ≡ u ++ y = cc in
    let ih = apart_by p t u x y (and_parts (p a) (list_all p t) h).1 (and_parts (p b) (list_all p u) k).1 f g rest in
    (ap (λ (l : List ℕ). a ∷ l) ih.0 ∙ ap (λ (c : ℕ). c ∷ u) head, ih.1)

-- what stands behind a token: nothing, a space or a line feed
abbrev pub EndsToken : List ℕ → Type 0
EndsToken x = Ends (λ b. ltb 32 b) x

-- two tokens
pub apart : (t u x y : List ℕ) → are_seen t ≡ true → are_seen u ≡ true → EndsToken x → EndsToken y → t ++ x ≡ u ++ y → (t ≡ u) × (x ≡ y)
apart t u x y h k f g e = apart_by (λ b. ltb 32 b) t u x y h k f g e

-- two lines
pub line_apart : (t u x y : List ℕ) → in_line t ≡ true → in_line u ≡ true → line t ++ x ≡ line u ++ y → (t ≡ u) × (x ≡ y)
line_apart t u x y h k e =
    let p = apart_by (λ b. ltb 31 b) t u (10 ∷ x) (10 ∷ y) h k refl refl (sym (append_assoc t (10 ∷ []) x) ∙ e ∙ append_assoc u (10 ∷ []) y) in
    let rest : x ≡ y = cc in (p.0, rest)

-- a line begins as its text does
pub in_front : (t x : List ℕ) → line t ++ x ≡ t ++ 10 ∷ x
in_front t x = append_assoc t (10 ∷ []) x

-- the number that the bytes of the first word make
abbrev pub lead_from : ℕ → List ℕ → ℕ
lead_from n [] = n
lead_from n (b ∷ t) = let rest = lead_from (n * 256 + b) t in cond (ltb 32 b) rest n

abbrev pub lead : List ℕ → ℕ
lead text = lead_from 0 text

-- the first byte, if there is one
abbrev pub first : List ℕ → ℕ
first [] = 0
first (b ∷ x) = b

-- the byte behind the space with which a line begins, 0 where it begins otherwise
abbrev pub sign : List ℕ → ℕ
sign [] = 0
sign (b ∷ x) = cond (eqb b 32) (first x) 0

-- the third byte of a line
abbrev pub third : List ℕ → ℕ
third [] = 0
third (a ∷ []) = 0
third (a ∷ b ∷ []) = 0
third (a ∷ b ∷ c ∷ x) = c

-- what stands behind lines made from a list
abbrev pub IsBehind : (List ℕ → Bool) → (List ℕ → Bool) → List ℕ → Type 0
IsBehind begins goes_on x = (begins x ≡ false) × (goes_on x ≡ false)

-- Two runs of texts made from lists: each text begins in a way in which what stands behind the run doesn't, and goes on in no way in which
-- the next text or what stands behind begins.
pub runs_apart : {X : Type 0} (f : X → List ℕ) (good : X → Bool) (begins goes_on : List ℕ → Bool) →
    ((a : X) (x : List ℕ) → begins (f a ++ x) ≡ true) → ((a : X) (x : List ℕ) → goes_on (f a ++ x) ≡ false) →
    ((a b : X) (x y : List ℕ) → good a ≡ true → good b ≡ true → goes_on x ≡ false → goes_on y ≡ false → f a ++ x ≡ f b ++ y → (a ≡ b) × (x ≡ y)) →
    (us vs : List X) (x y : List ℕ) → list_all good us ≡ true → list_all good vs ≡ true → IsBehind begins goes_on x → IsBehind begins goes_on y →
    flat_map f us ++ x ≡ flat_map f vs ++ y → (us ≡ vs) × (x ≡ y)
runs_apart f good begins goes_on start next one [] [] x y h k p q e = (refl, e)
runs_apart f good begins goes_on start next one [] (b ∷ vs) x y h k p q e =
    let no : false ≡ true = sym p.0 ∙ ap begins (e ∙ append_assoc (f b) (flat_map f vs) y) ∙ start b (flat_map f vs ++ y) in cc
runs_apart f good begins goes_on start next one (a ∷ us) [] x y h k p q e =
    let no : false ≡ true = sym q.0 ∙ ap begins (sym e ∙ append_assoc (f a) (flat_map f us) x) ∙ start a (flat_map f us ++ x) in cc
runs_apart {X = X} f good begins goes_on start next one (a ∷ us) (b ∷ vs) x y h k p q e =
    let ha = and_parts (good a) (list_all good us) h in
    let hb = and_parts (good b) (list_all good vs) k in
    let first = one a b (flat_map f us ++ x) (flat_map f vs ++ y) ha.0 hb.0 (ends us x p.1) (ends vs y q.1) (sym (append_assoc (f a) (flat_map f us) x) ∙ e ∙ append_assoc (f b) (flat_map f vs) y) in
    let rest = runs_apart f good begins goes_on start next one us vs x y ha.1 hb.1 p q first.1 in
    (λ i. first.0 i ∷ rest.0 i, rest.1)
  where
    ends : (xs : List X) (z : List ℕ) → goes_on z ≡ false → goes_on (flat_map f xs ++ z) ≡ false
    ends [] z g = g
    ends (x ∷ xs) z g = ap goes_on (append_assoc (f x) (flat_map f xs) z) ∙ next x (flat_map f xs ++ z)

-- a run of texts doesn't begin in a way in which neither its texts nor what stands behind it begin
pub run_skips : {X : Type 0} (f : X → List ℕ) (test : List ℕ → Bool) → ((a : X) (x : List ℕ) → test (f a ++ x) ≡ false) → (us : List X) (x : List ℕ) → test x ≡ false →
    test (flat_map f us ++ x) ≡ false
run_skips f test each [] x h = h
run_skips f test each (a ∷ us) x h = ap test (append_assoc (f a) (flat_map f us) x) ∙ each a (flat_map f us ++ x)
