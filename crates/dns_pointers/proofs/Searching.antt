-- The search for a name begins at the first place of its slot.
use Rattle.std.proofs.Common.{◌≡◌, ℕ, zero, suc, ◌+◌, ◌*◌, ◌%◌, ◌<◌, ◌≤◌, ◌⊎◌, inl, inr, ◌++◌, List, [], ◌∷◌, ◌∙◌, Bool, true, false, cond, length, take, drop, set, get_or, refl, arith, ap, sym, subst, Some, None}
use Rattle.std.proofs.Math.Seq.{take-nil, take-length, drop-cons}
use Rattle.std.proofs.lemmas.List.{take-append-le, take-append-drop}
use Rattle.std.proofs.lemmas.List.{get_or-set_same, get_or-set_other}
use Rattle.std.proofs.lemmas.Bool.Decides.{leb_tells, eqb_tells}
use Rattle.std.specs.Prelude.{IsTrue, Option, MatchOption, eqb, leb}
use Rattle.dns_name.specs.Names.{wire_of, labels_of, exact_eq, IsNameInWire}
use Rattle.dns_name.proofs.Folding.{exact_eq-tells}
use Rattle.dns_pointers.specs.Writing.{Offsets, offset_of}
use Rattle.dns_pointers.specs.Compressing.{slot_of, mixed, AreFirsts}

nowhere : (name : List (List ℕ)) → offset_of name [] ≡ None
unfolding offset_of
nowhere name = refl

-- a name is in neither of two lists, or in both
none_in_both : (name : List (List ℕ)) (xs ys : Offsets) → offset_of name xs ≡ None → offset_of name (xs ++ ys) ≡ offset_of name ys
unfolding offset_of
none_in_both name [] ys e = refl
none_in_both name (x ∷ xs) ys e = at (exact_eq name x.0) e (none_in_both name xs ys)
  where
    at : (b : Bool) → cond b (Some x.1) (offset_of name xs) ≡ None → (offset_of name xs ≡ None → offset_of name (xs ++ ys) ≡ offset_of name ys)
        → cond b (Some x.1) (offset_of name (xs ++ ys)) ≡ offset_of name ys
    at true k h = absurd (cc)
    at false k h = h k

none_in_fewer : (name : List (List ℕ)) (k : ℕ) (xs : Offsets) → offset_of name xs ≡ None → offset_of name (take k xs) ≡ None
unfolding offset_of
none_in_fewer name zero xs e = refl
none_in_fewer name (suc k) [] e = refl
none_in_fewer name (suc k) (x ∷ xs) e = at (exact_eq name x.0) e (none_in_fewer name k xs)
  where
    at : (b : Bool) → cond b (Some x.1) (offset_of name xs) ≡ None → (offset_of name xs ≡ None → offset_of name (take k xs) ≡ None)
        → cond b (Some x.1) (offset_of name (take k xs)) ≡ None
    at true k h = absurd (cc)
    at false k h = h k

take_both : {X : Type 0} (n k : ℕ) (xs : List X) → take n (take k xs) ≡ take k (take n xs)
take_both zero zero xs = refl
take_both zero (suc k) xs = sym (take-nil (suc k))
take_both (suc n) zero xs = take-nil (suc n)
take_both (suc n) (suc k) [] = refl
take_both {X} (suc n) (suc k) (x ∷ xs) = ap (λ (l : List X). x ∷ l) (take_both n k xs)

take_all : {X : Type 0} (n : ℕ) (xs : List X) → length xs ≤ n → take n xs ≡ xs
take_all zero [] h = refl
take_all zero (x ∷ xs) h = absurd (omega arith)
take_all (suc n) [] h = refl
take_all {X} (suc n) (x ∷ xs) h = ap (λ (l : List X). x ∷ l) (take_all n xs (omega arith))

drop_all : {X : Type 0} (n : ℕ) (xs : List X) → length xs ≤ n → drop n xs ≡ []
drop_all zero [] h = refl
drop_all zero (x ∷ xs) h = absurd (omega arith)
drop_all (suc n) [] h = refl
drop_all (suc n) (x ∷ xs) h = drop_all n xs (omega arith)

-- another name than the one that is added
other_name : (name other : List (List ℕ)) (offset : ℕ) → (name ≡ other → ⊥) → offset_of name ((other, offset) ∷ []) ≡ None
unfolding offset_of
other_name name other offset differ = at (exact_eq name other) (λ t. differ ((exact_eq-tells name other).0 t))
  where
    at : (b : Bool) → (IsTrue b → ⊥) → cond b (Some offset) None ≡ None
    at true k = absurd (k refl)
    at false k = refl

-- no names
pub none_yet : (names : Offsets) (firsts : List ℕ) → names ≡ [] → AreFirsts names firsts
none_yet names firsts e = record {
  none = λ name. ap (offset_of name) (ap (take (get_or firsts (slot_of (wire_of name)) 0)) e ∙ take-nil (get_or firsts (slot_of (wire_of name)) 0)) ∙ nowhere name;
}

-- a table that isn't there
pub none_at_all : (names : Offsets) (firsts : List ℕ) → firsts ≡ [] → AreFirsts names firsts
none_at_all names firsts e = record {
  none = λ name. ap (λ (l : List ℕ). offset_of name (take (get_or l (slot_of (wire_of name)) 0) names)) e ∙ nowhere name;
}

-- fewer names
pub fewer_names : (names : Offsets) (firsts : List ℕ) (k : ℕ) → AreFirsts names firsts → AreFirsts (take k names) firsts
fewer_names names firsts k h = record {
  none = λ name.
      let f = get_or firsts (slot_of (wire_of name)) 0 in
      ap (offset_of name) (take_both f k names) ∙ none_in_fewer name k (take f names) (h.none name);
}

-- the search from there
searched : (names : Offsets) (firsts : List ℕ) (name : List (List ℕ)) (first : ℕ) → AreFirsts names firsts → first ≡ get_or firsts (slot_of (wire_of name)) 0
    → offset_of name (drop first names) ≡ offset_of name names
searched names firsts name first h e =
    let none : offset_of name (take first names) ≡ None = ap (λ (n : ℕ). offset_of name (take n names)) e ∙ h.none name in
    sym (none_in_both name (take first names) (drop first names) none) ∙ ap (offset_of name) (take-append-drop first names)

-- no name stands from there on
pub none_behind : (names : Offsets) (name : List (List ℕ)) (first : ℕ) → length names ≤ first → None ≡ offset_of name (drop first names)
none_behind names name first past = sym (nowhere name) ∙ ap (offset_of name) (sym (drop_all first names past))

-- the same, of a name in wire form, by its slot
pub sought_behind : (names all : Offsets) (firsts table wire : List ℕ) (slot first : ℕ) → IsNameInWire wire → AreFirsts names firsts → slot ≡ slot_of wire
    → first ≡ get_or table slot 0 → table ≡ firsts → all ≡ names → offset_of (labels_of wire) (drop first all) ≡ offset_of (labels_of wire) names
sought_behind names all firsts table wire slot first kept h s f t a =
    let at : first ≡ get_or firsts (slot_of (wire_of (labels_of wire))) 0 =
    f ∙ ap (λ (l : List ℕ). get_or l slot 0) t ∙ ap (λ (i : ℕ). get_or firsts i 0) (s ∙ ap slot_of (sym kept.1)) in
    ap (λ (l : Offsets). offset_of (labels_of wire) (drop first l)) a ∙ searched names firsts (labels_of wire) first h at

-- One more name leaves what is known of a slot, where it has another slot or one of it stands before.
still_none : (names : Offsets) (name other : List (List ℕ)) (offset first : ℕ) → offset_of name (take first names) ≡ None
    → ((first ≤ length names) ⊎ (name ≡ other → ⊥)) → offset_of name (take first (names ++ (other, offset) ∷ [])) ≡ None
still_none names name other offset first none (inl h) = ap (offset_of name) (take-append-le first names ((other, offset) ∷ []) h) ∙ none
still_none names name other offset first none (inr differ) = at (leb_tells first (length names))
  where
    at : ((leb first (length names) ≡ true) × (first ≤ length names)) ⊎ ((leb first (length names) ≡ false) × (length names < first)) → offset_of name (take first (names ++ (other, offset) ∷ [])) ≡ None
    at (inl w) = ap (offset_of name) (take-append-le first names ((other, offset) ∷ []) w.1) ∙ none
    at (inr w) =
        let before : offset_of name names ≡ None = ap (offset_of name) (sym (take_all first names (omega (arith, w.1)))) ∙ none in
        none_in_fewer name first (names ++ (other, offset) ∷ []) (none_in_both name names ((other, offset) ∷ []) before ∙ other_name name other offset differ)

-- one more name, where one of its slot stands before, or none is known to
pub kept_first : (names : Offsets) (firsts : List ℕ) (other : List (List ℕ)) (offset : ℕ) → AreFirsts names firsts
    → get_or firsts (slot_of (wire_of other)) 0 ≤ length names → AreFirsts (names ++ (other, offset) ∷ []) firsts
kept_first names firsts other offset h before = record {
  none = λ name. still_none names name other offset (get_or firsts (slot_of (wire_of name)) 0) (h.none name) (at name (eqb_tells (slot_of (wire_of name)) (slot_of (wire_of other))));
}
  where
    at : (name : List (List ℕ))
        → ((eqb (slot_of (wire_of name)) (slot_of (wire_of other)) ≡ true) × (slot_of (wire_of name) ≡ slot_of (wire_of other)))
        ⊎ ((eqb (slot_of (wire_of name)) (slot_of (wire_of other)) ≡ false) × (slot_of (wire_of name) ≡ slot_of (wire_of other) → ⊥))
        → (get_or firsts (slot_of (wire_of name)) 0 ≤ length names) ⊎ (name ≡ other → ⊥)
    at name (inl w) = inl (omega (arith, ap (λ (n : ℕ). get_or firsts n 0) w.1))
    at name (inr w) = inr (λ e. w.1 (ap (λ (n : List (List ℕ)). slot_of (wire_of n)) e))

-- one more name, the first of its slot
pub new_first : (names : Offsets) (firsts : List ℕ) (other : List (List ℕ)) (offset : ℕ) → AreFirsts names firsts
    → slot_of (wire_of other) < length firsts → length names ≤ get_or firsts (slot_of (wire_of other)) 0
    → AreFirsts (names ++ (other, offset) ∷ []) (set firsts (slot_of (wire_of other)) (length names))
new_first names firsts other offset h within past = record {
  none = λ name. at name (eqb_tells (slot_of (wire_of name)) (slot_of (wire_of other)));
}
  where
    after : List ℕ
    after = set firsts (slot_of (wire_of other)) (length names)

    before : (name : List (List ℕ)) → slot_of (wire_of name) ≡ slot_of (wire_of other) → offset_of name names ≡ None
    before name e =
        ap (offset_of name) (sym (take_all (get_or firsts (slot_of (wire_of name)) 0) names (omega (arith, past, ap (λ (n : ℕ). get_or firsts n 0) e)))) ∙ h.none name

    at : (name : List (List ℕ))
        → ((eqb (slot_of (wire_of name)) (slot_of (wire_of other)) ≡ true) × (slot_of (wire_of name) ≡ slot_of (wire_of other)))
        ⊎ ((eqb (slot_of (wire_of name)) (slot_of (wire_of other)) ≡ false) × (slot_of (wire_of name) ≡ slot_of (wire_of other) → ⊥))
        → offset_of name (take (get_or after (slot_of (wire_of name)) 0) (names ++ (other, offset) ∷ [])) ≡ None
    at name (inl w) =
        let first : get_or after (slot_of (wire_of name)) 0 ≡ length names =
        ap (λ (n : ℕ). get_or after n 0) w.1 ∙ get_or-set_same firsts (slot_of (wire_of other)) (length names) 0 within in
        ap (λ (n : ℕ). offset_of name (take n (names ++ (other, offset) ∷ []))) first
        ∙ ap (offset_of name) (take-append-le (length names) names ((other, offset) ∷ []) (omega arith) ∙ take-length names) ∙ before name w.1
    at name (inr w) =
        let first : get_or after (slot_of (wire_of name)) 0 ≡ get_or firsts (slot_of (wire_of name)) 0 =
        get_or-set_other firsts (slot_of (wire_of other)) (slot_of (wire_of name)) (length names) 0 w.1 in
        ap (λ (n : ℕ). offset_of name (take n (names ++ (other, offset) ∷ []))) first
        ∙ still_none names name other offset (get_or firsts (slot_of (wire_of name)) 0) (h.none name) (inr (λ e. w.1 (ap (λ (n : List (List ℕ)). slot_of (wire_of n)) e)))

-- The number that a slot is mixed of.
pub mixed_step : (bytes : List ℕ) (i : ℕ) (x slot : ℕ) → i < length bytes → x ≡ get_or bytes i 0
    → mixed slot (drop i bytes) ≡ mixed ((slot * 33 + x) % 1024) (drop (i + 1) bytes)
unfolding mixed
mixed_step bytes i x slot h e =
    let one : i + 1 ≡ suc i = omega arith in
    rw one (ap (mixed slot) (drop-cons bytes i 0 h) ∙ ap (λ (y : ℕ). mixed ((slot * 33 + y) % 1024) (drop (suc i) bytes)) (sym e))

pub mixed_end : (bytes : List ℕ) (i slot : ℕ) → length bytes ≤ i → mixed slot (drop i bytes) ≡ slot
unfolding mixed
mixed_end bytes i slot h = ap (mixed slot) (drop_all i bytes h)

-- what is told of a name that was found, and of one that wasn't
pub told_found : (A B : Type 0) (found : Option ℕ) (offset : ℕ) → found ≡ Some offset → MatchOption found A (λ _. B) → B
told_found A B found offset e h = subst (λ (o : Option ℕ). MatchOption o A (λ _. B)) e h

pub none_told : (A B : Type 0) (found : Option ℕ) → found ≡ None → MatchOption found A (λ _. B) → A
none_told A B found e h = subst (λ (o : Option ℕ). MatchOption o A (λ _. B)) e h

pub told_none : (found : Option ℕ) → ((offset : ℕ) → found ≡ Some offset → ⊥) → found ≡ None
told_none None none = refl
told_none (Some offset) none = absurd (none offset refl)
