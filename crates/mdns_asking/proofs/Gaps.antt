-- Each question keeps a gap in its series.
use Rattle.std.proofs.Common.{◌≡◌, ℕ, ◌+◌, ◌*◌, ◌<◌, min, Bool, true, false, cond, List, [], ◌∷◌, map, Option, Some, None, refl, arith}
use Rattle.std.specs.List.{AllByRecursion}
use Rattle.dns_record.specs.declared.record.Key.{Key}
use Rattle.mdns_history.specs.declared.mark.Cause.{Cause}
use Rattle.mdns_history.specs.Asking.{is_counted, series_gap}
use Rattle.mdns_happened.specs.declared.walk.Walk.{Walk}
use Rattle.mdns_cache.proofs.ListLemmas.{each-map}
use Rattle.mdns_question.specs.declared.tracked.Tracked.{Tracked}
use Rattle.mdns_question.specs.Tracking.{begun, longest_gap, asked_at}
use Rattle.mdns_asking.specs.Asked.{all_begun, all_ended, all_asked}
use Rattle.mdns_asking.specs.Kept.{HaveGaps}
use Rattle.mdns_asking.specs.ByWalks.{timed_in, timed_by}
use Rattle.mdns_happened.specs.Walks.{walk_of}
use Rattle.mdns_asking.proofs.EachTold.{StaysAsked, each_told}

begun_gap : (moment word : ℕ) (question : Key) → 0 < (begun moment word question).gap
begun_gap moment word question = let is : series_gap 1 ≡ 1000 = refl in omega arith

pub asked_gap : (moment : ℕ) (why : Cause) (one : Tracked) → 0 < one.gap → 0 < (asked_at moment why one).gap
asked_gap moment why one h = of (is_counted why)
  where
    of : (b : Bool) → 0 < (cond b (record one { next = moment + min one.gap longest_gap; gap = 2 * min one.gap longest_gap; last = Some moment }) (record one { last = Some moment })).gap
    of true = omega arith
    of false = h

-- Each question keeps a gap in its series, whatever begins, ends and is asked.
pub gaps_told : (moment word : ℕ) (begins ends : List Key) (asked : List (Key × Cause)) (questions : List Tracked) → HaveGaps questions →
    HaveGaps (all_asked moment asked (all_ended ends (all_begun moment word begins questions)))
gaps_told moment word begins ends asked questions h =
    each_told (λ (one : Tracked). 0 < one.gap) (λ one users k. k) moment word begins ends asked questions (new begins) (stay asked) h
  where
    new : (keys : List Key) → AllByRecursion (λ (key : Key). 0 < (begun moment word key).gap) keys
    new [] = tt
    new (key ∷ keys) = (begun_gap moment word key, new keys)

    stay : (more : List (Key × Cause)) → AllByRecursion (StaysAsked (λ (one : Tracked). 0 < one.gap) (λ one users k. k) moment word) more
    stay [] = tt
    stay (asking ∷ more) = (λ one e k. asked_gap moment asking.1 one k, stay more)

-- So it does when it is told a refresh point.
pub gaps_timed : (walks : List Walk) (questions : List Tracked) → HaveGaps questions → HaveGaps (map (timed_by walks) questions)
gaps_timed walks questions h = each-map (λ (one : Tracked). 0 < one.gap) (λ (one : Tracked). 0 < one.gap) (timed_by walks) (λ one k. of one (walk_of one.key.name walks) k) questions h
  where
    of : (one : Tracked) (walk : Option Walk) → 0 < one.gap → 0 < (timed_in one walk).gap
    of one None k = k
    of one (Some walk) k = k
