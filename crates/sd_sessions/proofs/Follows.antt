-- One entry carries the sessions on, for any duties and any host.
use Rattle.std.proofs.Common.{◌≡◌, ℕ, false, List, ◌∷◌, ◌++◌, map, Option, Some, None, refl, ap, ◌∙◌, sym}
use Rattle.std.specs.Option.{unwrap_or}
use Rattle.mdns_history.specs.declared.event.Event.{Event}
use Rattle.mdns_history.specs.declared.event.Event.TheVariants as event
use Rattle.mdns_history.specs.declared.entry.Outcome.{Outcome}
use Rattle.mdns_history.specs.declared.entry.Entry.{Entry}
use Rattle.mdns_history.specs.InForce.{Duties}
use Rattle.mdns_history.specs.Sessions.{opened, opened_count}
use Rattle.mdns_history.specs.Outcomes.{early_outcome}
use Rattle.mdns_history.specs.Fitting.{bare_entry, event_marks, is_boot, IsLegal}
use Rattle.sd_sessions.specs.declared.change.SessionChange.{SessionChange}
use Rattle.sd_sessions.specs.Sessions.{Session, State, Stands, sessions_in}
use Rattle.sd_sessions.specs.Settling.{change_for, cuts_of, gifts_of, all_settled, remaining, with_opened, shifted, outcome_then, sessions_after}
use Rattle.sd_sessions.specs.Laws.{answers_in, CarriesOn, SessionsFollow}
use Rattle.sd_sessions.proofs.EntryParts.{marked, entry_after}
use Rattle.sd_sessions.proofs.Attached.{opened_count-next, opened_count-opened, opened_count-kept}
use Rattle.sd_sessions.proofs.Takes.{outcome-early}
use Rattle.sd_sessions.proofs.KeptChanges.{marks-kept, given-kept}
use Rattle.sd_sessions.proofs.KeptSessions.{settled_sessions, sessions-untaken}
use Rattle.sd_sessions.proofs.Taken.{taken-outcome, taken-sessions}

module _ (duties : Duties) (history : List Entry) (moment word : ℕ) (ev : Event) where
  abbrev early : Outcome
  early = early_outcome ev history

  abbrev changes_of : List Session → List SessionChange
  changes_of sessions = map (change_for ev early (answers_in history) (answers_in (entry_after duties history moment word ev ∷ history))) sessions

  abbrev changes : List SessionChange
  changes = changes_of (sessions_in history)

  abbrev then_sessions : Outcome → List SessionChange → List Session
  then_sessions o cs = with_opened (opened o) (remaining ev o (all_settled (sessions_in history) cs))

  module _ (legal : IsLegal duties history) (no_boot : is_boot ev ≡ false) where
    pub outcome-is : (entry_after duties history moment word ev).outcome ≡ outcome_then ev early (then_sessions early changes)
    outcome-is = of ev refl
      where
        of : (e : Event) → ev ≡ e → (entry_after duties history moment word e).outcome
            ≡ outcome_then e (early_outcome e history) (with_opened (opened (early_outcome e history)) (remaining e (early_outcome e history) (settled_sessions duties history moment word e)))
        of (event.Boot config) h = outcome-early duties history moment word (event.Boot config) refl
        of event.Attach h = outcome-early duties history moment word event.Attach refl
        of (event.Detach session) h = outcome-early duties history moment word (event.Detach session) refl
        of (event.Call session op request) h = outcome-early duties history moment word (event.Call session op request) refl
        of (event.Hear from bytes) h = outcome-early duties history moment word (event.Hear from bytes) refl
        of event.Tick h = outcome-early duties history moment word event.Tick refl
        of (event.Take session max) h = taken-outcome duties history moment word session max legal

    pub opened-is : opened_count (entry_after duties history moment word ev ∷ history) ≡ unwrap_or (opened early) (opened_count history)
    opened-is = opened_count-next duties history moment word ev ∙ of (opened early) refl
      where
        of : (o : Option ℕ) → opened early ≡ o → opened_count (marked duties history moment word ev ∷ history) ≡ unwrap_or o (opened_count history)
        of None e = opened_count-kept duties history moment word ev e
        of (Some k) e = opened_count-opened duties history moment word ev k e

    pub sessions-is : sessions_in (entry_after duties history moment word ev ∷ history) ≡ sessions_after ev (then_sessions early changes)
    sessions-is = of ev no_boot
      where
        of : (e : Event) → is_boot e ≡ false → sessions_in (entry_after duties history moment word e ∷ history)
            ≡ sessions_after e (with_opened (opened (early_outcome e history)) (remaining e (early_outcome e history) (settled_sessions duties history moment word e)))
        of (event.Boot config) h = cc
        of event.Attach h = sessions-untaken duties history moment word event.Attach legal refl
        of (event.Detach session) h = sessions-untaken duties history moment word (event.Detach session) legal refl
        of (event.Call session op request) h = sessions-untaken duties history moment word (event.Call session op request) legal refl
        of (event.Hear from bytes) h = sessions-untaken duties history moment word (event.Hear from bytes) legal refl
        of event.Tick h = sessions-untaken duties history moment word event.Tick legal refl
        of (event.Take session max) h = taken-sessions duties history moment word session max legal

    carries : (state : State) → Stands state history → CarriesOn duties history moment word ev state (changes_of state.sessions) (entry_after duties history moment word ev)
    carries state stands =
        let same : sessions_in history ≡ state.sessions = sym stands.sessions in
        record {
          given = given-kept duties history moment word ev legal ∙ ap (λ ss. gifts_of (changes_of ss)) same;
          marks = marks-kept duties history moment word ev legal ∙ ap (λ ss. event_marks duties (bare_entry moment word ev history) history ++ cuts_of (changes_of ss)) same;
          outcome = outcome-is ∙ ap (λ ss. outcome_then ev early (shifted ev early ss (changes_of ss))) same;
          stands = record {
            opened = ap (λ n. unwrap_or (opened early) n) stands.opened ∙ sym opened-is;
            sessions = ap (λ ss. sessions_after ev (shifted ev early ss (changes_of ss))) stands.sessions ∙ sym sessions-is;
          };
        }

pub sessions_follow : SessionsFollow
sessions_follow duties past state legal stands moment word ev no_boot = carries duties past moment word ev legal no_boot state stands
