-- The history of a daemon is taken out, and put back with one more entry.
use Rattle.std.proofs.Common.{◌≡◌, ℕ, zero, suc, ◌+◌, ◌<◌, ◌≤◌, Bool, true, false, cond, not, nat_lt, eqb, List, [], ◌∷◌, length, get_or, Some, None, refl, ap, sym, ◌∙◌, arith}
use Rattle.std.specs.List.{position, position_or_len, remove}
use Rattle.std.proofs.lemmas.List.Quantifiers.{position-Some}
use Rattle.std.proofs.lemmas.Bool.{ltb-false, eqb-true}
use Rattle.mdns_history.specs.declared.entry.Entry.{Entry}
use Rattle.mdns_transcript.specs.declared.row.Row.{Row}
use Rattle.plain_check.specs.declared.histories.Held.{Held}
use Rattle.plain_check.specs.Held.{is_of, history_in, without, with_row}

-- the first history of a daemon stands at a place
record IsFirst (daemon : ℕ) (all : List Held) (place : ℕ) (held : Held) : Type 0 where
  within : place < length all
  here : is_of daemon (get_or all place held) ≡ true
  before : (k : ℕ) → k < place → is_of daemon (get_or all k held) ≡ false

next_first : (daemon : ℕ) (one : Held) (all : List Held) (place : ℕ) (held : Held) → IsFirst daemon (one ∷ all) (suc place) held → IsFirst daemon all place held
next_first daemon one all place held first = record {
  within = let l : suc place < length (one ∷ all) = first.within in omega (arith, l);
  here = first.here;
  before = λ k below. first.before (suc k) (omega (arith, below));
}

taken : (daemon : ℕ) (all : List Held) (place : ℕ) (held : Held) → IsFirst daemon all place held → ((get_or all place held).history.items ≡ history_in daemon all) × (remove all place ≡ without daemon all)
taken daemon [] place held first = absurd (let l : place < 0 = first.within in omega (arith, l))
taken daemon (one ∷ all) zero held first =
    (sym (ap (λ (b : Bool). cond b one.history.items (history_in daemon all)) first.here), sym (ap (λ (b : Bool). cond b all (one ∷ without daemon all)) first.here))
taken daemon (one ∷ all) (suc place) held first =
    let ih = taken daemon all place held (next_first daemon one all place held first) in
    let none = first.before 0 (omega arith) in (
      ih.0 ∙ sym (ap (λ (b : Bool). cond b one.history.items (history_in daemon all)) none),
      ap (λ (l : List Held). one ∷ l) ih.1 ∙ sym (ap (λ (b : Bool). cond b all (one ∷ without daemon all)) none),
    )

pub taken_at : (daemon : ℕ) (all : List Held) (place : ℕ) (held : Held) → Some place ≡ position (is_of daemon) all → ((get_or all place held).history.items ≡ history_in daemon all) × (remove all place ≡ without daemon all)
taken_at daemon all place held e =
    let first = position-Some (is_of daemon) all place held (sym e) in taken daemon all place held (record { within = first.0; here = first.1; before = first.2 })

none_passes : (daemon : ℕ) (all : List Held) → None ≡ position (is_of daemon) all → length all ≤ position_or_len (is_of daemon) all
none_passes daemon all e = of (nat_lt (position_or_len (is_of daemon) all) (length all)) refl e
  where
    of : (b : Bool) → nat_lt (position_or_len (is_of daemon) all) (length all) ≡ b → None ≡ cond b (Some (position_or_len (is_of daemon) all)) None → length all ≤ position_or_len (is_of daemon) all
    of true t e = absurd (cc)
    of false t e = ltb-false (position_or_len (is_of daemon) all) (length all) t

none_there : (daemon : ℕ) (one : Held) (all : List Held) → length (one ∷ all) ≤ position_or_len (is_of daemon) (one ∷ all) → (is_of daemon one ≡ false) × (length all ≤ position_or_len (is_of daemon) all)
none_there daemon one all long = of (is_of daemon one) refl long
  where
    of : (b : Bool) → is_of daemon one ≡ b → length (one ∷ all) ≤ cond (not b) (1 + position_or_len (is_of daemon) all) 0 → (is_of daemon one ≡ false) × (length all ≤ position_or_len (is_of daemon) all)
    of true e long = absurd (omega (arith, long))
    of false e long = (e, omega (arith, long))

all_left : (daemon : ℕ) (all : List Held) → length all ≤ position_or_len (is_of daemon) all → ([] ≡ history_in daemon all) × (all ≡ without daemon all)
all_left daemon [] long = (refl, refl)
all_left daemon (one ∷ all) long =
    let both = none_there daemon one all long in
    let rest = all_left daemon all both.1 in (
      rest.0 ∙ sym (ap (λ (b : Bool). cond b one.history.items (history_in daemon all)) both.0),
      ap (λ (l : List Held). one ∷ l) rest.1 ∙ sym (ap (λ (b : Bool). cond b all (one ∷ without daemon all)) both.0),
    )

pub none_held : (daemon : ℕ) (all : List Held) → None ≡ position (is_of daemon) all → ([] ≡ history_in daemon all) × (all ≡ without daemon all)
none_held daemon all e = all_left daemon all (none_passes daemon all e)

-- the histories of other daemons stay
others_stay : (daemon other : ℕ) (all : List Held) → eqb daemon other ≡ false → history_in other (without daemon all) ≡ history_in other all
others_stay daemon other [] h = refl
others_stay daemon other (one ∷ all) h = go (eqb one.daemon daemon) refl (others_stay daemon other all h)
  where
    go : (b : Bool) → eqb one.daemon daemon ≡ b → history_in other (without daemon all) ≡ history_in other all →
        history_in other (cond b all (one ∷ without daemon all)) ≡ cond (eqb one.daemon other) one.history.items (history_in other all)
    go true e rest =
        let same : one.daemon ≡ daemon = eqb-true one.daemon daemon e in
        let no : eqb one.daemon other ≡ false = ap (λ (n : ℕ). eqb n other) same ∙ h in
        sym (ap (λ (b : Bool). cond b one.history.items (history_in other all)) no)
    go false e rest = ap (λ (l : List Entry). cond (eqb one.daemon other) one.history.items l) rest

-- a history that was put back with one more entry
put_back : (row : Row) (all : List Held) (held : Held) → held.daemon ≡ row.daemon → held.history.items ≡ row.entry ∷ history_in row.daemon all →
    (daemon : ℕ) → history_in daemon (held ∷ without row.daemon all) ≡ with_row row daemon (history_in daemon all)
put_back row all held is has daemon = ap (λ (n : ℕ). cond (eqb n daemon) held.history.items (history_in daemon (without row.daemon all))) is ∙ go (eqb row.daemon daemon) refl
  where
    go : (b : Bool) → eqb row.daemon daemon ≡ b → cond b held.history.items (history_in daemon (without row.daemon all)) ≡ cond b (row.entry ∷ history_in daemon all) (history_in daemon all)
    go true e = has ∙ ap (λ (n : ℕ). row.entry ∷ history_in n all) (eqb-true row.daemon daemon e)
    go false e = others_stay row.daemon daemon all e

-- the same of a list that a call made
pub put_all : (row : Row) (all rest after : List Held) (held : Held) → after ≡ held ∷ rest → rest ≡ without row.daemon all → held.daemon ≡ row.daemon →
    held.history.items ≡ row.entry ∷ history_in row.daemon all → (daemon : ℕ) → history_in daemon after ≡ with_row row daemon (history_in daemon all)
put_all row all rest after held put taken is has daemon = ap (history_in daemon) (put ∙ ap (λ (l : List Held). held ∷ l) taken) ∙ put_back row all held is has daemon
