-- Responses and the marks of announcements follow the history, over legal histories of a daemon that claims names, announces them and replies.
use Rattle.std.specs.Prelude.{◌≡◌, ℕ, ◌≤◌, true, false, List, ◌++◌}
use Rattle.mdns_history.specs.declared.event.Event.{Event}
use Rattle.mdns_history.specs.declared.event.Event.TheVariants as event
use Rattle.mdns_history.specs.declared.entry.Entry.{Entry}
use Rattle.mdns_history.specs.declared.entry.Sent.{Sent}
use Rattle.mdns_history.specs.InForce.{Duties}
use Rattle.mdns_history.specs.History.{now}
use Rattle.mdns_history.specs.Sending.{sent_multicasts, sent_unicasts, sent_goodbyes}
use Rattle.mdns_history.specs.Fitting.{bare_entry, announced_marks, is_boot, IsLegal}
use Rattle.mdns_claims.specs.State.{Contents, Stands}
use Rattle.mdns_claims.specs.Behind.{occasion_of, kept_told}
use Rattle.mdns_claims.specs.Laws.{told_in}
use Rattle.mdns_reply.specs.Lasts.{Last}
use Rattle.mdns_reply.specs.Lasts as lasts
use Rattle.mdns_debts.specs.Queries.{Query}
use Rattle.mdns_debts.specs.Following.{queries_in}
use Rattle.mdns_responding.specs.Told.{responses_told, announced_told}

-- the responses that an event sends behind a history: those of a tick to all and then those to askers, and the goodbyes of every other event
abbrev pub responses_of : Duties → Entry → List Entry → Event → List Sent
responses_of duties entry past event.Tick = sent_multicasts duties entry past ++ sent_unicasts past entry.moment
responses_of duties entry past _ = sent_goodbyes entry past

-- What is read off the groups, the last multicasts and the queries that are kept is what the event sends and marks behind each history for which they stand.
pub record Follows (duties : Duties) (past : List Entry) (moment word : ℕ) (ev : Event) (contents : Contents) (kept : List Last) (queries : List Query) : Type 0 where
  pub sent : responses_told (told_in past moment word ev) moment kept queries contents.kept (kept_told contents (occasion_of contents (told_in past moment word ev) moment word))
      ≡ responses_of duties (bare_entry moment word ev past) past ev
  pub marks : announced_told (told_in past moment word ev) moment contents.kept ≡ announced_marks (bare_entry moment word ev past) past ev

abbrev pub ResponsesFollow : Type 0
ResponsesFollow =
    (duties : Duties) (past : List Entry) (moment word : ℕ) (ev : Event) (contents : Contents) (kept : List Last) (queries : List Query)
    → duties.claiming ≡ true → duties.announcing ≡ true → duties.replying ≡ true → is_boot ev ≡ false → IsLegal duties past → now past ≤ moment
    → Stands contents past → lasts.Stands kept past → queries ≡ queries_in past → Follows duties past moment word ev contents kept queries
