-- A service type read piece by piece.
use Rattle.std.proofs.Common.{◌≡◌, ℕ, ◌<◌, ◌≤◌, ◌++◌, ◌==◌, Bool, true, false, cond, List, [], ◌∷◌, ◌∙◌, length, refl, ap, sym, arith, Some, None, IfSome, option_and_then, append_assoc, append-nil, length-append}
use Rattle.std.proofs.lemmas.List.Folds.{list_all-append}
use Rattle.std.specs.List.{list_all, slice_split}
use Rattle.sd_name.specs.ServiceTypes.{ServiceType, service_type, type_of_pieces, type_with, type_name, is_subtype}

-- the text spells this name with the subtypes read and the pieces left, and those read are subtypes, and few
pub record HasRead (text : List ℕ) (name read left : List (List ℕ)) : Type 0 where
  pub spells : service_type text ≡ type_with (read ++ left) name
  pub fine : list_all is_subtype read ≡ true
  pub few : length read ≤ 16

pub read_none : (text first : List ℕ) (name left : List (List ℕ)) → slice_split (λ b. b == 44) text ≡ first ∷ left → Some name ≡ type_name (slice_split (λ b. b == 46) first) → HasRead text name [] left
unfolding service_type
read_none text first name left pieces is = record {
  spells = ap type_of_pieces pieces ∙ ap (option_and_then (type_with left)) (sym is);
  fine = refl;
  few = omega arith;
}

pub read_more : (text : List ℕ) (name read left rest now : List (List ℕ)) (piece : List ℕ) → HasRead text name read left → left ≡ piece ∷ rest → is_subtype piece ≡ true → length read < 16 → now ≡ read ++ piece ∷ [] → HasRead text name now rest
read_more text name read left rest now piece h pieces this room e = rw e record {
  spells = h.spells ∙ ap (λ l. type_with l name) (ap (λ l. read ++ l) pieces ∙ sym (append_assoc read (piece ∷ []) rest));
  fine = list_all-append is_subtype read (piece ∷ []) ∙ rw (h.fine, this) refl;
  few = omega (arith, length-append read (piece ∷ []));
}

-- a type has more than 16 subtypes, if the text is one
abbrev pub IsTooMany : List ℕ → Type 0
IsTooMany text = IfSome (service_type text) (λ type. 16 < length type.subtypes)

pub read_no_name : (text first : List ℕ) (left : List (List ℕ)) → slice_split (λ b. b == 44) text ≡ first ∷ left → None ≡ type_name (slice_split (λ b. b == 46) first) → IsTooMany text
unfolding service_type
read_no_name text first left pieces none =
    rw (pieces, ← none) tt

pub read_bad : (text : List ℕ) (name read left rest : List (List ℕ)) (piece : List ℕ) → HasRead text name read left → left ≡ piece ∷ rest → is_subtype piece ≡ false → IsTooMany text
read_bad text name read left rest piece h pieces bad =
    let spoilt : list_all is_subtype (read ++ left) ≡ false =
    ap (λ l. list_all is_subtype (read ++ l)) pieces ∙ list_all-append is_subtype read (piece ∷ rest) ∙ rw (h.fine, bad) refl in
    rw (h.spells, spoilt) tt

pub read_full : (text : List ℕ) (name read left rest : List (List ℕ)) (piece : List ℕ) → HasRead text name read left → left ≡ piece ∷ rest → length read ≡ 16 → IsTooMany text
read_full text name read left rest piece h pieces full =
    rw h.spells (many (list_all is_subtype (read ++ left)))
  where
    many : (b : Bool) → IfSome (cond b (Some (record { name = name; subtypes = read ++ left })) None) (λ (type : ServiceType). 16 < length type.subtypes)
    many true = omega (arith, length-append read left, ap length pieces)
    many false = tt

pub read_all : (text : List ℕ) (name read left : List (List ℕ)) → HasRead text name read left → left ≡ [] → service_type text ≡ Some (record { name = name; subtypes = read })
read_all text name read left h none =
    h.spells ∙ ap (λ l. type_with l name) (ap (λ l. read ++ l) none ∙ append-nil read) ∙ rw h.fine refl
