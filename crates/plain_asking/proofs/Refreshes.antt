-- The refresh points of records: how far they move, and one of those of some records is one of those of one of them.
use Rattle.std.proofs.Common.{◌≡◌, ℕ, zero, ◌+◌, ◌*◌, ◌%◌, ◌<◌, ◌≤◌, Bool, true, false, ◌&&◌, ◌||◌, cond, List, [], ◌∷◌, ◌++◌, refl, ap, sym, ◌∙◌, arith}
use Rattle.std.specs.Prelude.{filter}
use Rattle.std.specs.List.{list_any, flat_map}
use Rattle.std.proofs.Math.Nat.{mod-lt}
use Rattle.dns_record.specs.Records.{matches}
use Rattle.mdns_history.specs.declared.held.Held.{Held}
use Rattle.mdns_history.specs.declared.entry.Entry.{Entry}
use Rattle.mdns_history.specs.Lifetimes.{is_uncut, live_records}
use Rattle.mdns_history.specs.Questions.{Active}
use Rattle.mdns_history.specs.Asking.{asking_moments, calls_at, fresh_matches, is_refresh_due, refresh_points}

pub jitter_within : (word ttl : ℕ) → word % (20 * ttl + 1) ≤ 20 * ttl
jitter_within word ttl =
    let positive : zero < 20 * ttl + 1 = omega arith in
    let less : word % (20 * ttl + 1) < 20 * ttl + 1 = mod-lt word positive in
    omega arith

-- one of two lists has an element that passes a test
any_append : {X : Type 0} (p : X → Bool) (xs ys : List X) → list_any p (xs ++ ys) ≡ list_any p xs || list_any p ys
any_append p [] ys = refl
any_append p (x ∷ xs) ys = one (p x) (any_append p xs ys)
  where
    one : (b : Bool) → list_any p (xs ++ ys) ≡ list_any p xs || list_any p ys → b || list_any p (xs ++ ys) ≡ (b || list_any p xs) || list_any p ys
    one true ih = refl
    one false ih = ih

-- one of the elements that the kept ones make passes a test
pub any_made : {X Y : Type 0} (p : Y → Bool) (f : X → List Y) (q : X → Bool) (xs : List X) → list_any (λ x. q x && list_any p (f x)) xs ≡ list_any p (flat_map f (filter q xs))
any_made p f q [] = refl
any_made {X = X} {Y = Y} p f q (x ∷ xs) = one (q x) (any_made p f q xs)
  where
    one : (b : Bool) → list_any (λ x. q x && list_any p (f x)) xs ≡ list_any p (flat_map f (filter q xs))
        → (b && list_any p (f x)) || list_any (λ x. q x && list_any p (f x)) xs ≡ list_any p (flat_map f (cond b (x ∷ filter q xs) (filter q xs)))
    one true ih = ap (λ c. list_any p (f x) || c) ih ∙ sym (any_append p (f x) (flat_map f (filter q xs)))
    one false ih = ih

-- whether a record that answers a question is to be refreshed, told record by record
pub refresh_told : (active : Active) (history : List Entry) (moment : ℕ) (askings : List ℕ) (live : List Held) → askings ≡ asking_moments active.key history → live ≡ live_records history moment →
    is_refresh_due active history moment ≡ list_any (λ (held : Held). (matches active.key held.rr && is_uncut held) && list_any (calls_at active askings moment) (refresh_points held)) live
unfolding is_refresh_due fresh_matches
refresh_told active history moment askings live e f =
    sym (any_made (calls_at active (asking_moments active.key history) moment) refresh_points (λ (held : Held). matches active.key held.rr && is_uncut held) (live_records history moment))
    ∙ ap (λ (l : List Held). list_any (λ (held : Held). (matches active.key held.rr && is_uncut held) && list_any (calls_at active (asking_moments active.key history) moment) (refresh_points held)) l) (sym f)
    ∙ ap (λ (ms : List ℕ). list_any (λ (held : Held). (matches active.key held.rr && is_uncut held) && list_any (calls_at active ms moment) (refresh_points held)) live) (sym e)
