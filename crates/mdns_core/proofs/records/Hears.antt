-- What is heard of an event, told of the hearings before it: whether there is room, what is then live, and the mark of a refusal.
use Rattle.std.proofs.Common.{◌≡◌, ℕ, Bool, true, false, cond, List, [], ◌∷◌, ◌++◌, map, reverse, refl, ap, ◌∙◌, sym}
use Rattle.mdns_history.specs.declared.event.Event.{Event}
use Rattle.mdns_history.specs.declared.event.Event.TheVariants as event
use Rattle.mdns_history.specs.declared.entry.Entry.{Entry}
use Rattle.mdns_history.specs.Hearings.{Hearing, hearings, hearing_of, brought, counted_records}
use Rattle.mdns_history.specs.Lifetimes.{is_too_full, live_of, live_records}
use Rattle.mdns_history.specs.Fitting.{refusal_marks}
use Rattle.mdns_cache.specs.Lifetimes.{hearings_at}
use Rattle.mdns_core.specs.Next.{refusal_of, is_full, heard_with}
use Rattle.mdns_core.proofs.step.Stage.{bare, marked, entry_after}
use Rattle.mdns_core.proofs.records.Heard.{heard_now, hearings-marked, hearings-next, is_too_full-is}

-- an event that brings no record leaves what was heard
pub unheard : (moment word : ℕ) (ev : Event) (past : List Hearing) → counted_records (brought ev) ≡ [] → heard_with moment word ev past ≡ past
unheard moment word ev past none =
    ap (λ rrs. cond (is_full moment word ev past) past (hearings_at moment word rrs ++ past)) none ∙ of (is_full moment word ev past)
  where
    of : (b : Bool) → cond b past past ≡ past
    of true = refl
    of false = refl

module _ (history : List Entry) (moment word : ℕ) (ev : Event) where
  pub full-is : is_full moment word ev (hearings history) ≡ is_too_full (bare history moment word ev) history
  full-is = sym (is_too_full-is history moment word ev)

  pub heard-is : heard_with moment word ev (hearings history) ≡ heard_now history moment word ev ++ hearings history
  heard-is =
      ap (λ b. cond b (hearings history) (hearings_at moment word (counted_records (brought ev)) ++ hearings history)) full-is
      ∙ of (is_too_full (bare history moment word ev) history)
    where
      of : (b : Bool) → cond b (hearings history) (hearings_at moment word (counted_records (brought ev)) ++ hearings history)
          ≡ reverse (map (hearing_of (bare history moment word ev)) (cond b [] (counted_records (brought ev)))) ++ hearings history
      of true = refl
      of false = refl

  pub refusal-is : refusal_of (is_full moment word ev (hearings history)) ev ≡ refusal_marks (bare history moment word ev) history ev
  refusal-is = ap (λ b. refusal_of b ev) full-is ∙ of ev (is_too_full (bare history moment word ev) history) refl
    where
      of : (e : Event) (b : Bool) → is_too_full (bare history moment word ev) history ≡ b → refusal_of b e ≡ refusal_marks (bare history moment word ev) history e
      of (event.Boot config) true h = refl
      of (event.Boot config) false h = refl
      of event.Attach true h = refl
      of event.Attach false h = refl
      of (event.Detach session) true h = refl
      of (event.Detach session) false h = refl
      of (event.Call session op request) true h = refl
      of (event.Call session op request) false h = refl
      of (event.Hear from bytes) true h = rw h refl
      of (event.Hear from bytes) false h = rw h refl
      of event.Tick true h = refl
      of event.Tick false h = refl
      of (event.Take session max) true h = refl
      of (event.Take session max) false h = refl

  pub records-is : live_of (heard_with moment word ev (hearings history)) moment ≡ live_records (entry_after history moment word ev ∷ history) moment
  unfolding live_records
  records-is = ap (λ hs. live_of hs moment) (heard-is ∙ sym (hearings-next history moment word ev))

  pub records-marked : live_of (heard_with moment word ev (hearings history)) moment ≡ live_records (marked history moment word ev ∷ history) moment
  unfolding live_records
  records-marked = ap (λ hs. live_of hs moment) (heard-is ∙ sym (hearings-marked history moment word ev))
