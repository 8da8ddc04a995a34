-- Where no entry is later than a moment, no live record was renewed later.
use Rattle.std.proofs.Common.{◌≡◌, ℕ, leb, Bool, true, false, not, cond, List, [], ◌∷◌, ◌++◌, reverse, refl, ap, ◌∙◌}
use mathlib.Core.List.{reverse-cons}
use Rattle.std.specs.Prelude.{filter, map}
use Rattle.std.specs.List.{list_all, flat_map}
use Rattle.std.proofs.lemmas.Bool.{and_from, and_parts}
use Rattle.lists.specs.Lists.{each_once}
use Rattle.dns_record.specs.declared.record.Rr.{Rr}
use Rattle.mdns_history.specs.declared.entry.Entry.{Entry}
use Rattle.mdns_history.specs.declared.held.Held.{Held}
use Rattle.mdns_history.specs.Hearings.{Hearing, hearing_of, hearings_in, hearings, counted_records, heard_in}
use Rattle.mdns_history.specs.Lifetimes.{held_from, is_live_at, renewals, live_of, live_records}
use Rattle.plain_history.specs.Last.{are_by, are_held_by}

all_append : {X : Type 0} (p : X → Bool) (xs ys : List X) → list_all p xs ≡ true → list_all p ys ≡ true → list_all p (xs ++ ys) ≡ true
all_append p [] ys h k = k
all_append p (x ∷ xs) ys h k = let parts = and_parts (p x) (list_all p xs) h in and_from (p x) (list_all p (xs ++ ys)) parts.0 (all_append p xs ys parts.1 k)

pub all_filter : {X : Type 0} (p q : X → Bool) (xs : List X) → list_all p xs ≡ true → list_all p (filter q xs) ≡ true
all_filter p q [] h = refl
all_filter p q (x ∷ xs) h = let parts = and_parts (p x) (list_all p xs) h in one (q x) parts.0 (all_filter p q xs parts.1)
  where
    one : (b : Bool) → p x ≡ true → list_all p (filter q xs) ≡ true → list_all p (cond b (x ∷ filter q xs) (filter q xs)) ≡ true
    one true u v = and_from (p x) (list_all p (filter q xs)) u v
    one false u v = v

all_once : {X : Type 0} (p : X → Bool) (eq : X → X → Bool) (xs : List X) → list_all p xs ≡ true → list_all p (each_once eq xs) ≡ true
all_once p eq [] h = refl
all_once p eq (x ∷ xs) h =
    let parts = and_parts (p x) (list_all p xs) h in
    and_from (p x) (list_all p (filter (λ y. not (eq x y)) (each_once eq xs))) parts.0 (all_filter p (λ y. not (eq x y)) (each_once eq xs) (all_once p eq xs parts.1))

-- the hearings of a moment
abbrev is_heard_by : ℕ → Hearing → Bool
is_heard_by limit hearing = leb hearing.moment limit

of_entry : (limit : ℕ) (entry : Entry) (rrs : List Rr) → leb entry.moment limit ≡ true → list_all (is_heard_by limit) (map (hearing_of entry) rrs) ≡ true
of_entry limit entry [] h = refl
of_entry limit entry (rr ∷ rrs) h = and_from (leb entry.moment limit) (list_all (is_heard_by limit) (map (hearing_of entry) rrs)) h (of_entry limit entry rrs h)

all_turned : {X : Type 0} (p : X → Bool) (xs : List X) → list_all p xs ≡ true → list_all p (reverse xs) ≡ true
all_turned p [] h = refl
all_turned p (x ∷ xs) h =
    let parts = and_parts (p x) (list_all p xs) h in
    ap (list_all p) (reverse-cons x xs) ∙ all_append p (reverse xs) (x ∷ []) (all_turned p xs parts.1) (and_from (p x) true parts.0 refl)

heard_by : (limit : ℕ) (history : List Entry) → are_by limit history ≡ true → list_all (is_heard_by limit) (flat_map hearings_in history) ≡ true
heard_by limit [] h = refl
heard_by limit (entry ∷ past) h =
    let parts = and_parts (leb entry.moment limit) (are_by limit past) h in
    all_append (is_heard_by limit) (hearings_in entry) (flat_map hearings_in past)
    (all_turned (is_heard_by limit) (map (hearing_of entry) (counted_records (heard_in entry))) (of_entry limit entry (counted_records (heard_in entry)) parts.0)) (heard_by limit past parts.1)

of_renewals : (limit : ℕ) (heard some : List Hearing) → list_all (is_heard_by limit) some ≡ true → are_held_by limit (map (held_from heard) some) ≡ true
of_renewals limit heard [] h = refl
of_renewals limit heard (hearing ∷ some) h =
    let parts = and_parts (leb hearing.moment limit) (list_all (is_heard_by limit) some) h in
    and_from (leb hearing.moment limit) (are_held_by limit (map (held_from heard) some)) parts.0 (of_renewals limit heard some parts.1)

pub live_by : (history : List Entry) (moment limit : ℕ) → are_by limit history ≡ true → are_held_by limit (live_records history moment) ≡ true
unfolding live_records live_of hearings
live_by history moment limit h =
    all_filter (λ (one : Held). leb one.heard limit) (is_live_at moment) (map (held_from (flat_map hearings_in history)) (renewals (flat_map hearings_in history)))
    (of_renewals limit (flat_map hearings_in history) (renewals (flat_map hearings_in history))
    (all_once (is_heard_by limit) _ _ (all_filter (is_heard_by limit) _ (flat_map hearings_in history) (heard_by limit history h))))
