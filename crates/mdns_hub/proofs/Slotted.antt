-- What stands in the slots once one is set, or an empty one put behind them.
use Rattle.std.proofs.Common.{◌≡◌, ℕ, zero, suc, ◌<◌, ◌≤◌, ◌++◌, ◌==◌, Bool, true, false, cond, List, [], ◌∷◌, length, set, get_or, Option, Some, None, Result, Ok, Err, OnOk, OnErr, eq-eqb, subst, refl, sym, ◌∙◌, ap, arith}
use Rattle.std.specs.Option.{is_some, unwrap_or}
use Rattle.std.proofs.lemmas.Bool.{false≢true}
use Rattle.mdns_history.specs.declared.event.Event.{Event}
use Rattle.mdns_history.specs.declared.entry.Entry.{Entry}
use Rattle.mdns_hub.specs.Stepped.{IsStep}
use Rattle.mdns_hub.specs.declared.daemons.Booted.{Booted}
use Rattle.mdns_hub.specs.Slots.{slot_at, is_kept, due_at, AreBehind}

pub set_here : {T : Type 0} (slots : List (Option T)) (place : ℕ) (slot : Option T) → place < length slots → slot_at (set slots place slot) place ≡ slot
set_here [] place slot l = absurd (omega (arith, l))
set_here (first ∷ slots) zero slot l = refl
set_here (first ∷ slots) (suc place) slot l = set_here slots place slot (omega (arith, l))

pub set_there : {T : Type 0} (slots : List (Option T)) (place other : ℕ) (slot : Option T) → (other ≡ place → ⊥) → slot_at (set slots place slot) other ≡ slot_at slots other
set_there [] place other slot d = refl
set_there (first ∷ slots) zero zero slot d = absurd (d refl)
set_there (first ∷ slots) zero (suc other) slot d = refl
set_there (first ∷ slots) (suc place) zero slot d = refl
set_there (first ∷ slots) (suc place) (suc other) slot d = set_there slots place other slot (λ e. d (ap suc e))

pub put_empty : {T : Type 0} (slots : List (Option T)) (other : ℕ) → slot_at (slots ++ None ∷ []) other ≡ slot_at slots other
put_empty [] zero = refl
put_empty [] (suc other) = refl
put_empty (first ∷ slots) zero = refl
put_empty (first ∷ slots) (suc other) = put_empty slots other

-- a slot that isn't empty is there
pub kept_within : (slots : List (Option Booted)) (number : ℕ) → is_kept slots number ≡ true → number < length slots
kept_within [] number h = cc
kept_within (first ∷ slots) zero h = omega arith
kept_within (first ∷ slots) (suc number) h = let l : number < length slots = kept_within slots number h in omega (arith, l)

pub none_past : (slots : List (Option Booted)) (number : ℕ) → length slots ≤ number → slot_at slots number ≡ None
none_past [] number l = refl
none_past (first ∷ slots) zero l = absurd (omega (arith, l))
none_past (first ∷ slots) (suc number) l = none_past slots number (omega (arith, l))

-- the slot that stands at a place
pub slot_read : {T : Type 0} (slots : List (Option T)) (number : ℕ) (d : Option T) → number < length slots → slot_at slots number ≡ get_or slots number d
slot_read [] number d l = absurd (omega (arith, l))
slot_read (first ∷ slots) zero d l = refl
slot_read (first ∷ slots) (suc number) d l = slot_read slots number d (omega (arith, l))

-- a slot at which something is due is one of the few
pub due_within : (slots : List (Option Booted)) (number due : ℕ) → due_at slots number ≡ Some due → number < length slots
due_within [] number due h = cc
due_within (first ∷ slots) zero due h = omega arith
due_within (first ∷ slots) (suc number) due h = let l : number < length slots = due_within slots number due h in omega (arith, l)

-- a step keeps whom it finds
pub kept_step : (number moment word : ℕ) (ev : Event) (old new : List (Option Booted)) (entry : Entry) → IsStep number moment word ev old new entry → (other : ℕ) → is_kept old other ≡ true → is_kept new other ≡ true
kept_step number moment word ev old new entry s other h = of (other == number) refl
  where
    of : (b : Bool) → (other == number) ≡ b → is_kept new other ≡ true
    of true e = let same : other ≡ number = grind (arith, e) in ap (is_kept new) same ∙ ap is_some s.is
    of false e = ap is_some (s.others other (λ (one : other ≡ number). absurd (false≢true (sym e ∙ eq-eqb other number one)))) ∙ h

-- so does a boot
pub kept_boot : (number : ℕ) (old new : List (Option Booted)) (daemon : Booted) → ((other : ℕ) → slot_at new other ≡ cond (other == number) (Some daemon) (slot_at old other))
    → (other : ℕ) → is_kept old other ≡ true → is_kept new other ≡ true
kept_boot number old new daemon put other h = ap is_some (put other) ∙ of (other == number)
  where
    of : (b : Bool) → is_some (cond b (Some daemon) (slot_at old other)) ≡ true
    of true = refl
    of false = h

some_same : (a b : Booted) → Some a ≡ Some b → a ≡ b
some_same a b e = ap (λ (o : Option Booted). unwrap_or o a) e

pub behind_boot : (number clock : ℕ) (old new : List (Option Booted)) (daemon : Booted) → ((other : ℕ) → slot_at new other ≡ cond (other == number) (Some daemon) (slot_at old other))
    → daemon.daemon.last ≤ clock → AreBehind clock old → AreBehind clock new
behind_boot number clock old new daemon put last behind = λ other booted e. of other (other == number) booted (sym (put other) ∙ e)
  where
    of : (other : ℕ) (b : Bool) (booted : Booted) → cond b (Some daemon) (slot_at old other) ≡ Some booted → booted.daemon.last ≤ clock
    of other true booted e = let same : daemon ≡ booted = some_same daemon booted e in subst (λ (d : Booted). d.daemon.last ≤ clock) same last
    of other false booted e = behind other booted e

-- slots that are the same each
pub behind_same : (clock : ℕ) (old new : List (Option Booted)) → ((other : ℕ) → slot_at new other ≡ slot_at old other) → AreBehind clock old → AreBehind clock new
behind_same clock old new same behind = λ other booted e. behind other booted (sym (same other) ∙ e)

-- whether something was done or not
pub done_or_not : {T E P Q G : Type 0} (r : Result T E) → OnOk r P → OnErr r Q → (P → G) → (Q → G) → G
done_or_not (Ok x) p q f g = f p
done_or_not (Err e) p q f g = g q

-- a slot that is set among slots that are the same as others
pub set_slot : {T : Type 0} (slots old : List (Option T)) (place other : ℕ) (slot : Option T) → place < length slots → ((o : ℕ) → slot_at slots o ≡ slot_at old o)
    → slot_at (set slots place slot) other ≡ cond (other == place) slot (slot_at old other)
set_slot slots old place other slot l same = of (other == place) refl
  where
    of : (b : Bool) → (other == place) ≡ b → slot_at (set slots place slot) other ≡ cond b slot (slot_at old other)
    of true e = let one : other ≡ place = grind (arith, e) in ap (slot_at (set slots place slot)) one ∙ set_here slots place slot l
    of false e = set_there slots place other slot (λ (one : other ≡ place). absurd (false≢true (sym e ∙ eq-eqb other place one))) ∙ same other
