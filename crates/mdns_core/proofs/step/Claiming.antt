-- What the entry that follows makes of claims, and what its sessions are brought, by what is kept of claims that stand for the history.
use Rattle.std.proofs.Common.{◌≡◌, ℕ, ◌≤◌, false, List, ◌∷◌, map, refl}
use Rattle.mdns_history.specs.declared.event.Event.{Event}
use Rattle.mdns_history.specs.declared.entry.Outcome.{Outcome}
use Rattle.mdns_history.specs.declared.entry.Entry.{Entry}
use Rattle.mdns_history.specs.History.{now}
use Rattle.mdns_history.specs.Outcomes.{early_outcome}
use Rattle.mdns_history.specs.Fitting.{is_boot, IsLegal}
use Rattle.mdns_happened.specs.Told.{Told, is_tick}
use Rattle.mdns_claims.specs.State.{Contents, Stands}
use Rattle.mdns_claims.specs.Behind.{occasion_of, probes_told, contents_told}
use Rattle.mdns_claims.specs.Laws.{told_in, Follows}
use Rattle.mdns_claims.proofs.Following.{claims_follow}
use Rattle.sd_sessions.specs.Answered.{answered}
use Rattle.sd_sessions.specs.Laws.{answers_in}
use Rattle.sd_sessions.specs.Sessions.{sessions_in}
use Rattle.sd_sessions.specs.Settling.{change_for}
use Rattle.mdns_core.specs.InForce.{in_force}
use Rattle.mdns_core.specs.Viewed.{viewed}
use Rattle.mdns_core.proofs.step.Stage.{claim_marks, probes_by, entry_after}
use Rattle.mdns_core.proofs.step.Answered.{live, answers-kept}

module _ (past : List Entry) (legal : IsLegal in_force past) (moment word : ℕ) (ev : Event) (no_boot : is_boot ev ≡ false) (later : now past ≤ moment)
    (contents : Contents) (announces : contents.announces ≡ in_force.announcing) (stands : Stands contents past) where
  abbrev told : Told
  told = told_in past moment word ev

  -- what is then kept of claims
  abbrev pub contents_next : Contents
  contents_next = contents_told contents (occasion_of contents told moment word)

  follows : Follows in_force past moment word ev contents
  unfolding in_force
  follows = claims_follow in_force past moment word ev contents refl announces no_boot legal later stands

  -- The marks that the event gives to claims are those of the entry that follows.
  pub claim-marks-kept : (occasion_of contents told moment word).marks ≡ claim_marks past moment word ev
  claim-marks-kept = follows.marks

  -- So are the probes that it sends.
  pub probes-kept : probes_told (is_tick ev) contents.kept moment ≡ probes_by past moment ev
  probes-kept = follows.sent

  -- What is then kept stands for the history with the entry.
  pub claims-next : Stands contents_next (entry_after past moment word ev ∷ past)
  claims-next = follows.stands

  abbrev early : Outcome
  early = early_outcome ev past

  abbrev longer : List Entry
  longer = entry_after past moment word ev ∷ past

  -- The changes of the sessions are those over what is known before the entry and with it.
  pub changes-kept : map (change_for ev early (answered (viewed contents (live past))) (answered (viewed contents_next (live longer)))) (sessions_in past)
      ≡ map (change_for ev early (answers_in past) (answers_in longer)) (sessions_in past)
  changes-kept =
      λ i. map (change_for ev early (answers-kept past contents stands i) (answers-kept longer contents_next claims-next i)) (sessions_in past)
