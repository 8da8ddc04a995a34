-- The responses of the entry that follows, and the marks of the groups that it announces, by what is kept of groups, of last multicasts and of
-- queries that are owed something.
use Rattle.std.proofs.Common.{◌≡◌, ℕ, ◌≤◌, false, List, refl}
use Rattle.mdns_history.specs.declared.event.Event.{Event}
use Rattle.mdns_history.specs.declared.entry.Entry.{Entry}
use Rattle.mdns_history.specs.History.{now}
use Rattle.mdns_history.specs.Fitting.{is_boot, IsLegal}
use Rattle.mdns_happened.specs.Told.{Told}
use Rattle.mdns_claims.specs.State.{Contents, Stands}
use Rattle.mdns_claims.specs.Behind.{occasion_of, contents_told}
use Rattle.mdns_claims.specs.Laws.{told_in}
use Rattle.mdns_reply.specs.Lasts.{Last}
use Rattle.mdns_reply.specs.Lasts as lasts
use Rattle.mdns_debts.specs.Queries.{Query}
use Rattle.mdns_debts.specs.Following.{queries_in}
use Rattle.mdns_responding.specs.Told.{responses_told, announced_told}
use Rattle.mdns_responding.specs.Laws.{responses_of, Follows}
use Rattle.mdns_responding.proofs.Following.{responses_follow}
use Rattle.mdns_core.specs.InForce.{in_force}
use Rattle.mdns_core.proofs.step.Stage.{bare, announcing_marks}

module _ (past : List Entry) (legal : IsLegal in_force past) (moment word : ℕ) (ev : Event) (no_boot : is_boot ev ≡ false) (later : now past ≤ moment)
    (contents : Contents) (stands : Stands contents past) (multicasts : List Last) (lasting : lasts.Stands multicasts past)
    (owing : List Query) (owed : owing ≡ queries_in past) where
  abbrev told : Told
  told = told_in past moment word ev

  follows : Follows in_force past moment word ev contents multicasts owing
  unfolding in_force
  follows = responses_follow in_force past moment word ev contents multicasts owing refl refl refl no_boot legal later stands lasting owed

  -- The responses that the event sends are those that are told of what is kept.
  pub responses-kept : responses_told told moment multicasts owing contents.kept (contents_told contents (occasion_of contents told moment word)).kept
      ≡ responses_of in_force (bare past moment word ev) past ev
  unfolding contents_told
  responses-kept = follows.sent

  -- So are the marks of the groups that it announces.
  pub announced-kept : announced_told told moment contents.kept ≡ announcing_marks past moment word ev
  announced-kept = follows.marks
