-- Reading so many things in a row, one by one.
use Rattle.std.proofs.Common.{◌≡◌, inl, inr, ℕ, suc, ◌+◌, ◌-◌, ◌<◌, ◌++◌, List, [], ◌∷◌, ◌∙◌, refl, arith, ap, sym, subst, append-nil, append_assoc, Option, Some, None, Result, Ok, Err}
use Rattle.dns_message.specs.declared.message.MessageError.{MessageError}
use Rattle.dns_message.specs.declared.message.MessageError.TheVariants.{NoMemory}
use Rattle.dns_pointers.specs.Reading.{◌>>=◌}
use Rattle.dns_message.specs.Reading.{all_at, IsReadAs}

-- things that were read, and those read behind them
abbrev pub behind : {X : Type 0} → List X → Result (List X × ℕ) MessageError → Result (List X × ℕ) MessageError
behind front rest = rest >>= λ found. Ok (front ++ found.0, found.1)

-- what is left to read gives all the things
pub record ArePartRead {X : Type 0} (thing_at : ℕ → Result (Option X × ℕ) MessageError) (more : ℕ) (front : List X) (place count at : ℕ) : Type 0 where
  pub same : behind front (all_at thing_at more place) ≡ all_at thing_at count at

pub none_read : {X : Type 0} (thing_at : ℕ → Result (Option X × ℕ) MessageError) (count at : ℕ) → ArePartRead thing_at count [] at count at
none_read {X} thing_at count at = record { same = whole (all_at thing_at count at) }
  where
    whole : (r : Result (List X × ℕ) MessageError) → behind [] r ≡ r
    whole (Ok found) = refl
    whole (Err e) = refl

-- one more is left
pub one_left : {X : Type 0} (thing_at : ℕ → Result (Option X × ℕ) MessageError) (read : ℕ) (front : List X) (place count at : ℕ)
    → read < count → ArePartRead thing_at (count - read) front place count at → ArePartRead thing_at (suc (count - (read + 1))) front place count at
one_left thing_at read front place count at h w =
    let e : count - read ≡ suc (count - (read + 1)) = omega arith in subst (λ (n : ℕ). ArePartRead thing_at n front place count at) e w

pub all_read : {X : Type 0} (thing_at : ℕ → Result (Option X × ℕ) MessageError) (front : List X) (place count at : ℕ)
    → ArePartRead thing_at 0 front place count at → Ok (front, place) ≡ all_at thing_at count at
unfolding all_at
all_read {X} thing_at front place count at w =
    let named : List X → Result (List X × ℕ) MessageError = λ l. Ok (l, place) in ap named (sym (append-nil front)) ∙ w.same

pub one_fault : {X : Type 0} (thing_at : ℕ → Result (Option X × ℕ) MessageError) (more : ℕ) (front : List X) (place count at : ℕ) (fault : MessageError)
    → ArePartRead thing_at (suc more) front place count at → Err fault ≡ thing_at place → Err fault ≡ all_at thing_at count at
unfolding all_at
one_fault thing_at more front place count at fault w e = rw (sym e) at w.same

-- the same, where memory may have been refused
pub one_refused : {X : Type 0} (thing_at : ℕ → Result (Option X × ℕ) MessageError) (more : ℕ) (front : List X) (place count at : ℕ) (fault : MessageError)
    → ArePartRead thing_at (suc more) front place count at → IsReadAs (Err fault) (thing_at place) → IsReadAs (Err fault) (all_at thing_at count at)
one_refused thing_at more front place count at fault w (inl e) = inl (let same : fault ≡ NoMemory = cc in ap Err same)
one_refused thing_at more front place count at fault w (inr e) = inr (one_fault thing_at more front place count at fault w e)

pub one_passed : {X : Type 0} (thing_at : ℕ → Result (Option X × ℕ) MessageError) (more : ℕ) (front : List X) (place end count at : ℕ)
    → ArePartRead thing_at (suc more) front place count at → Ok (None, end) ≡ thing_at place → ArePartRead thing_at more front end count at
unfolding all_at
one_passed {X} thing_at more front place end count at w e =
    let h = rw (sym e) at w.same in
    record { same = moved (all_at thing_at more end) ∙ h }
  where
    moved : (r : Result (List X × ℕ) MessageError) → behind front r ≡ behind front (r >>= λ rest. Ok (rest.0, rest.1))
    moved (Ok found) = refl
    moved (Err e) = refl

pub one_kept : {X : Type 0} (thing_at : ℕ → Result (Option X × ℕ) MessageError) (more : ℕ) (front : List X) (x : X) (place end count at : ℕ)
    → ArePartRead thing_at (suc more) front place count at → Ok (Some x, end) ≡ thing_at place → ArePartRead thing_at more (front ++ x ∷ []) end count at
unfolding all_at
one_kept {X} thing_at more front x place end count at w e =
    let h = rw (sym e) at w.same in
    record { same = moved (all_at thing_at more end) ∙ h }
  where
    moved : (r : Result (List X × ℕ) MessageError) → behind (front ++ x ∷ []) r ≡ behind front (r >>= λ rest. Ok (x ∷ rest.0, rest.1))
    moved (Ok found) = let named : List X → Result (List X × ℕ) MessageError = λ l. Ok (l, found.1) in ap named (append_assoc front (x ∷ []) found.0)
    moved (Err e) = refl

-- what was read is the wanted thing
pub read_is : {X : Type 0} (x : X) (wanted : Result X MessageError) → IsReadAs (Ok x) wanted → Ok x ≡ wanted
read_is x wanted (inl e) = absurd cc
read_is x wanted (inr e) = e
