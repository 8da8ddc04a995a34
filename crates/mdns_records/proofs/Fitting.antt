-- Records that there is room for are heard.
use Rattle.std.proofs.Common.{◌≡◌, ℕ, ◌<◌, ◌≤◌, List, map, length, filter, Result, Ok, Err, refl, arith, IsPermutation}
use Rattle.std.specs.Prelude.{OnOk}
use Rattle.std.proofs.lemmas.List.Sorted.{length_permutation}
use Rattle.dns_record.specs.declared.record.Rr.{Rr}
use Rattle.mdns_history.specs.declared.held.Held.{Held}
use Rattle.mdns_history.specs.Lifetimes.{is_live_at}
use Rattle.mdns_cache.specs.declared.error.HearError.{HearError}
use Rattle.mdns_cache.specs.declared.error.HearError.TheVariants.{Full, NoMemory}
use Rattle.mdns_cache.specs.Lifetimes.{hearing_at, after_hearings}
use Rattle.mdns_cache.proofs.AfterHearings.{after_hearings-permuted}
use Rattle.mdns_records.specs.After.{held_after}

-- what is said of Ok, where nothing is refused
of_ok : {A : Type 0} (r : Result (Unit {0}) HearError) → OnOk r A → (r ≡ Err Full → ⊥) → (r ≡ Err NoMemory → ⊥) → A
of_ok (Ok u) h full memory = h
of_ok (Err Full) h full memory = absurd (full refl)
of_ok (Err NoMemory) h full memory = absurd (memory refl)

module _ (moment word : ℕ) (heard : List Rr) (old live : List Held) (left : IsPermutation live (filter (is_live_at moment) old)) where
  -- what is held after the hearings, in either order
  pub moved : IsPermutation (after_hearings live (map (hearing_at moment word) heard)) (held_after moment word heard old)
  moved = after_hearings-permuted (map (hearing_at moment word) heard) live (filter (is_live_at moment) old) left

  pub is_heard : {A : Type 0} (r : Result (Unit {0}) HearError) (limit most spare room : ℕ) → OnOk r A →
      (r ≡ Err Full → limit < length (after_hearings live (map (hearing_at moment word) heard))) → (r ≡ Err NoMemory → spare < length heard) →
      limit ≡ most → room ≤ spare → length heard ≤ room → length (held_after moment word heard old) ≤ most → A
  is_heard r limit most spare room h full memory is more enough fits =
      let same : length (held_after moment word heard old) ≡ length (after_hearings live (map (hearing_at moment word) heard)) = length_permutation _ _ moved in
      of_ok r h (λ e. let over : limit < length (after_hearings live (map (hearing_at moment word) heard)) = full e in absurd (omega arith)) (λ e. let few : spare < length heard = memory e in absurd (omega arith))
