-- The names that were written are spelled where they are said to be.
use Rattle.std.proofs.Common.{◌≡◌, ◌⊎◌, inl, inr, ⊎_elim, ℕ, ◌+◌, ◌<◌, ◌≤◌, ◌++◌, List, [], ◌∷◌, Bool, true, false, cond, length, refl, arith, ap, sym, Some, None, Ok}
use Rattle.dns_name.specs.Names.{wire_of, exact_eq}
use Rattle.dns_name.proofs.Folding.{exact_eq-tells}
use Rattle.dns_pointers.specs.Reading.{labels_at}
use Rattle.dns_pointers.specs.Writing.{Offsets, offset_of}

-- The name is read at the offset, up to stop; its pointers aim below low.
pub record IsSpelledFrom (bytes : List ℕ) (low at : ℕ) (name : List (List ℕ)) (stop : ℕ) : Type 0 where
  pub read : (start turns used : ℕ) → low ≤ start → start + length name < turns → used + length (wire_of name) ≤ 255 → labels_at turns bytes start at used ≡ Ok (name, stop)

-- the name is read at the offset, as one to which a pointer aims
pub record IsAimedAt (bytes : List ℕ) (name : List (List ℕ)) (offset : ℕ) : Type 0 where
  pub stop : ℕ
  pub spelled : IsSpelledFrom bytes offset offset name stop

-- each name of the table is read at its offset, which is below a limit
pub record IsTable (bytes : List ℕ) (names : Offsets) (limit : ℕ) : Type 0 where
  pub each : (name : List (List ℕ)) (offset : ℕ) → offset_of name names ≡ Some offset → (offset < limit) × IsAimedAt bytes name offset

-- the same of the names of so many labels at most
pub record IsTableOf (bytes : List ℕ) (names : Offsets) (limit most : ℕ) : Type 0 where
  pub each : (name : List (List ℕ)) (offset : ℕ) → length name ≤ most → offset_of name names ≡ Some offset → (offset < limit) × IsAimedAt bytes name offset

pub no_names : (bytes : List ℕ) (limit : ℕ) → IsTable bytes [] limit
unfolding offset_of
no_names bytes limit = record { each = none }
  where
    none : (name : List (List ℕ)) (offset : ℕ) → offset_of name [] ≡ Some offset → (offset < limit) × IsAimedAt bytes name offset
    none name offset e = absurd (cc)

pub of_all : (bytes : List ℕ) (names : Offsets) (limit most : ℕ) → IsTable bytes names limit → IsTableOf bytes names limit most
of_all bytes names limit most t = record { each = λ name offset short e. t.each name offset e }

pub of_fewer : (bytes : List ℕ) (names : Offsets) (limit most fewer : ℕ) → fewer ≤ most → IsTableOf bytes names limit most → IsTableOf bytes names limit fewer
of_fewer bytes names limit most fewer h t = record { each = λ name offset short e. t.each name offset (omega arith) e }

pub raised : (bytes : List ℕ) (names : Offsets) (limit higher : ℕ) → limit ≤ higher → IsTable bytes names limit → IsTable bytes names higher
raised bytes names limit higher h t = record { each = λ name offset e. let r = t.each name offset e in ((omega (arith, r.0)), r.1) }

-- what is found with one more name was found before, or is that name
pub offset_pushed : (name : List (List ℕ)) (names : Offsets) (new : List (List ℕ)) (at offset : ℕ) → offset_of name (names ++ (new, at) ∷ []) ≡ Some offset
    → (offset_of name names ≡ Some offset) ⊎ ((name ≡ new) × (at ≡ offset))
unfolding offset_of
offset_pushed name [] new at offset e = tried (exact_eq name new) refl e
  where
    tried : (b : Bool) → b ≡ exact_eq name new → cond b (Some at) None ≡ Some offset → (offset_of name [] ≡ Some offset) ⊎ ((name ≡ new) × (at ≡ offset))
    tried true t f = inr ((exact_eq-tells name new).0 (sym t), (cc))
    tried false t f = absurd (cc)
offset_pushed name (first ∷ names) new at offset e = tried (exact_eq name first.0) refl e (offset_pushed name names new at offset)
  where
    tried : (b : Bool) → b ≡ exact_eq name first.0 → cond b (Some first.1) (offset_of name (names ++ (new, at) ∷ [])) ≡ Some offset
        → (offset_of name (names ++ (new, at) ∷ []) ≡ Some offset → (offset_of name names ≡ Some offset) ⊎ ((name ≡ new) × (at ≡ offset)))
        → (offset_of name (first ∷ names) ≡ Some offset) ⊎ ((name ≡ new) × (at ≡ offset))
    tried true t f more = inl (rw (sym t) f)
    tried false t f more = ⊎_elim (λ h. inl (rw (sym t) h)) (λ h. inr h) (more f)

-- a longer name put into the table
pub pushed_longer : (bytes : List ℕ) (names : Offsets) (limit most : ℕ) (new : List (List ℕ)) (at : ℕ) → most < length new
    → IsTableOf bytes names limit most → IsTableOf bytes (names ++ (new, at) ∷ []) limit most
pushed_longer bytes names limit most new at h t = record {
  each = λ name offset short e. ⊎_elim (λ was. t.each name offset short was) (λ now. absurd (omega (arith, ap length now.0))) (offset_pushed name names new at offset e);
}
