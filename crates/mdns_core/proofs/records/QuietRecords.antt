-- An event that brings no message leaves the live records that haven't ended.
use Rattle.std.proofs.Common.{◌≡◌, ℕ, ◌≤◌, Bool, true, false, cond, ◌&&◌, List, [], ◌∷◌, ◌++◌, map, refl, ap, ◌∙◌}
use Rattle.std.specs.Prelude.{filter, reverse}
use Rattle.std.specs.List.{list_all}
use Rattle.mdns_history.specs.declared.event.Event.{Event}
use Rattle.mdns_history.specs.declared.held.Held.{Held}
use Rattle.mdns_history.specs.declared.entry.Entry.{Entry}
use Rattle.mdns_history.specs.Hearings.{brought, counted_records, hearing_of, hearings}
use Rattle.mdns_history.specs.Lifetimes.{is_too_full, is_live_at, live_of, live_records}
use Rattle.mdns_history.proofs.LifetimeSteps.{live_of-later}
use Rattle.mdns_core.proofs.step.Stage.{bare, entry_after}
use Rattle.mdns_core.proofs.records.Heard.{heard_now, hearings-next}

-- what passes a test all through
pub filter-all : (p : Held → Bool) (hs : List Held) → list_all p hs ≡ true → filter p hs ≡ hs
filter-all p [] h = refl
filter-all p (x ∷ hs) h = of (p x) refl h (filter-all p hs)
  where
    of : (b : Bool) → p x ≡ b → (b && list_all p hs) ≡ true → (list_all p hs ≡ true → filter p hs ≡ hs) → cond b (x ∷ filter p hs) (filter p hs) ≡ x ∷ hs
    of true e g rest = ap (λ zs. x ∷ zs) (rest g)
    of false e g rest = cc

module _ (past : List Entry) (moment word : ℕ) (ev : Event) where
  -- an entry that brings no message adds no hearing
  pub heard_now-none : counted_records (brought ev) ≡ [] → heard_now past moment word ev ≡ []
  heard_now-none quiet = of (is_too_full (bare past moment word ev) past)
    where
      of : (b : Bool) → reverse (map (hearing_of (bare past moment word ev)) (cond b [] (counted_records (brought ev)))) ≡ []
      of true = refl
      of false = ap (λ rs. reverse (map (hearing_of (bare past moment word ev)) rs)) quiet

  -- so the live records behind it are those before that haven't ended
  pub live_records-quiet : counted_records (brought ev) ≡ [] → (last : ℕ) → last ≤ moment → live_records (entry_after past moment word ev ∷ past) moment ≡ filter (is_live_at moment) (live_records past last)
  unfolding live_records
  live_records-quiet quiet last later =
      ap (λ hs. live_of hs moment) (hearings-next past moment word ev ∙ ap (λ hs. hs ++ hearings past) (heard_now-none quiet))
      ∙ live_of-later (hearings past) last moment later
