-- What each question keeps while questions get users, lose them and are asked.
use Rattle.std.proofs.Common.{◌≡◌, ℕ, ◌-◌, Bool, true, false, cond, List, [], ◌∷◌, map, refl}
use Rattle.std.specs.List.{list_any, AllByRecursion}
use Rattle.std.specs.Ordering.{is_lt}
use Rattle.lists.specs.Lists.{insert_by}
use Rattle.dns_record.specs.declared.record.Key.{Key}
use Rattle.mdns_history.specs.declared.mark.Cause.{Cause}
use Rattle.mdns_cache.proofs.ListLemmas.{each-filter, each-map}
use Rattle.mdns_question.specs.declared.tracked.Tracked.{Tracked}
use Rattle.mdns_question.specs.Tracking.{is_for, tracked_cmp, begun, one_more, used_more, used_less, is_used, with_user, without_user, asked_at, noted, with_asking}
use Rattle.mdns_asking.specs.Asked.{all_begun, all_ended, all_asked}

module _ (P : Tracked → Type 0) (users_free : (one : Tracked) (users : ℕ) → P one → P (record one { users = users })) (moment word : ℕ) where
  each_inserted : (new : Tracked) (questions : List Tracked) → P new → AllByRecursion P questions → AllByRecursion P (insert_by tracked_cmp new questions)
  each_inserted new [] h k = (h, tt)
  each_inserted new (one ∷ questions) h k = of (is_lt (tracked_cmp one new)) (each_inserted new questions h k.1)
    where
      of : (b : Bool) → AllByRecursion P (insert_by tracked_cmp new questions) → AllByRecursion P (cond b (one ∷ insert_by tracked_cmp new questions) (new ∷ one ∷ questions))
      of true rest = (k.0, rest)
      of false rest = (h, k)

  each_user : (question : Key) (questions : List Tracked) → P (begun moment word question) → AllByRecursion P questions → AllByRecursion P (with_user moment word question questions)
  each_user question questions new h = of (list_any (is_for question) questions)
    where
      of : (b : Bool) → AllByRecursion P (cond b (map (used_more question) questions) (insert_by tracked_cmp (begun moment word question) questions))
      of true = each-map P P (used_more question) (λ one k. users_free one (cond (is_for question one) (one_more one.users) one.users) k) questions h
      of false = each_inserted (begun moment word question) questions new h

  each_begun : (keys : List Key) (questions : List Tracked) → AllByRecursion (λ (key : Key). P (begun moment word key)) keys → AllByRecursion P questions →
      AllByRecursion P (all_begun moment word keys questions)
  each_begun [] questions new h = h
  each_begun (key ∷ keys) questions new h = each_begun keys (with_user moment word key questions) new.1 (each_user key questions new.0 h)

  each_ended : (keys : List Key) (questions : List Tracked) → AllByRecursion P questions → AllByRecursion P (all_ended keys questions)
  each_ended [] questions h = h
  each_ended (key ∷ keys) questions h =
      each_ended keys (without_user key questions)
      (each-filter P is_used (map (used_less key) questions)
      (each-map P P (used_less key) (λ one k. users_free one (cond (is_for key one) (one.users - 1) one.users) k) questions h))

  -- an asking keeps it in each question that is asked
  abbrev pub StaysAsked : Key × Cause → Type 0
  StaysAsked asking = (one : Tracked) → is_for asking.0 one ≡ true → P one → P (asked_at moment asking.1 one)

  each_asked : (asked : List (Key × Cause)) (questions : List Tracked) → AllByRecursion StaysAsked asked → AllByRecursion P questions → AllByRecursion P (all_asked moment asked questions)
  each_asked [] questions stays h = h
  each_asked (asking ∷ more) questions stays h =
      each_asked more (with_asking moment asking.0 asking.1 questions) stays.1 (each-map P P (noted moment asking.0 asking.1) noted_stays questions h)
    where
      noted_stays : (one : Tracked) → P one → P (noted moment asking.0 asking.1 one)
      noted_stays one k = of (is_for asking.0 one) refl
        where
          of : (b : Bool) → is_for asking.0 one ≡ b → P (cond b (asked_at moment asking.1 one) one)
          of true e = stays.0 one e k
          of false e = k

  -- Each question keeps it that has it before, where what begins has it.
  pub each_told : (begins ends : List Key) (asked : List (Key × Cause)) (questions : List Tracked) →
      AllByRecursion (λ (key : Key). P (begun moment word key)) begins → AllByRecursion StaysAsked asked → AllByRecursion P questions →
      AllByRecursion P (all_asked moment asked (all_ended ends (all_begun moment word begins questions)))
  each_told begins ends asked questions new stays h =
      each_asked asked (all_ended ends (all_begun moment word begins questions)) stays
      (each_ended ends (all_begun moment word begins questions) (each_begun begins questions new h))
