-- When a tick sends nothing for what queries are owed, by what is kept of them and of last multicasts.
use Rattle.std.proofs.Common.{◌≡◌, ℕ, ◌≤◌, true, ◌&&◌, List, [], ◌∷◌, ◌++◌, map, refl, ap, ◌∙◌, sym, arith}
use Rattle.std.proofs.lemmas.List.Folds.{list_all-append, list_all-map}
use Rattle.std.specs.Prelude.{nat_lt}
use Rattle.std.specs.List.{list_all, flat_map}
use Rattle.mdns_history.specs.declared.event.Event.TheVariants as event
use Rattle.mdns_history.specs.declared.entry.Entry.{Entry}
use Rattle.mdns_history.specs.History.{now}
use Rattle.mdns_history.specs.Debts.{last_multicast}
use Rattle.mdns_history.specs.Multicasts.{released_records}
use Rattle.mdns_history.specs.Sending.{sent_unicasts}
use Rattle.mdns_history.specs.Fitting.{Fits}
use Rattle.mdns_history.specs.Due.{is_nothing}
use Rattle.mdns_reply.specs.Lasts.{Last}
use Rattle.mdns_reply.specs.Lasts as lasts
use Rattle.mdns_debts.specs.Queries.{Query, Placed, owed_queries, replies_at}
use Rattle.mdns_debts.specs.Following.{queries_in, moment_of}
use Rattle.mdns_debts.specs.Waiting.{waits}
use Rattle.mdns_debts.proofs.Debts.{are_released_by}
use Rattle.mdns_debts.proofs.Unicasts.{are_replied_to}
use Rattle.mdns_debts.proofs.Waits.{is_waiting, are_of_same}
use Rattle.mdns_debts.proofs.Ticked.{is_later_behind_ticks}
use Rattle.mdns_debts.proofs.Kept.{lasts_tell_no_more}
use Rattle.mdns_owing.specs.Owing.{last_in}
use Rattle.mdns_core.specs.InForce.{in_force}
use Rattle.mdns_core.specs.State.{reply_moments}

flat_map-map : {X Y Z : Type 0} (f : Y → List Z) (g : X → Y) (xs : List X) → flat_map f (map g xs) ≡ flat_map (λ x. f (g x)) xs
flat_map-map f g [] = refl
flat_map-map f g (x ∷ xs) = ap (λ l. f (g x) ++ l) (flat_map-map f g xs)

-- all that queries are owed waits exactly before the moment of each
all_wait : (kept : List Last) (moment : ℕ) (owing : List Query) → list_all (waits (last_in kept) moment) owing ≡ list_all (nat_lt moment) (reply_moments kept owing)
all_wait kept moment [] = refl
all_wait kept moment (query ∷ owing) =
    (λ i. sym (list_all-map (nat_lt moment) (moment_of (last_in kept) query) query.owed) i && all_wait kept moment owing i)
    ∙ sym (list_all-append (nat_lt moment) (map (moment_of (last_in kept) query) query.owed) (reply_moments kept owing))

module _ (past : List Entry) (moment : ℕ) (later : now past ≤ moment) (kept : List Last) (stands : lasts.Stands kept past) (owing : List Query) (owed : owing ≡ queries_in past) where
  unicasts-are : sent_unicasts past moment ≡ flat_map (replies_at moment) (queries_in past)
  unicasts-are = are_replied_to past moment ∙ sym (flat_map-map (replies_at moment) (λ (placed : Placed). placed.1) (owed_queries past))

  waiting-told : list_all (waits (λ rr. last_multicast rr past) moment) (queries_in past) ≡ list_all (nat_lt moment) (reply_moments kept owing)
  waiting-told =
      sym ((lasts_tell_no_more kept past stands).waiting moment (queries_in past) later)
      ∙ ap (list_all (waits (last_in kept) moment)) (sym owed)
      ∙ all_wait kept moment owing

  -- A tick releases nothing and replies to nobody exactly before the moments of all that is owed.
  pub replies-quiet : (is_nothing (released_records past moment) && is_nothing (sent_unicasts past moment)) ≡ list_all (nat_lt moment) (reply_moments kept owing)
  replies-quiet =
      (λ i. is_nothing (are_released_by past moment i) && is_nothing (unicasts-are i))
      ∙ is_waiting (λ rr. last_multicast rr past) (are_of_same past) (queries_in past) moment
      ∙ waiting-told

-- Behind a tick all that is owed has a later moment.
pub replies-later : (entry : Entry) (past : List Entry) → Fits in_force entry past → entry.event ≡ event.Tick → (kept : List Last) → lasts.Stands kept (entry ∷ past) → (owing : List Query) → owing ≡ queries_in (entry ∷ past) →
    list_all (nat_lt entry.moment) (reply_moments kept owing) ≡ true
unfolding in_force
replies-later entry past fits tick kept stands owing owed =
    sym (waiting-told (entry ∷ past) entry.moment (omega arith) kept stands owing owed)
    ∙ is_later_behind_ticks in_force entry past fits refl tick
