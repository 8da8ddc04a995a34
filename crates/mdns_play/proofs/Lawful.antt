-- What the laws of histories say of a legal one, at each of its moments.
use Rattle.std.proofs.Common.{List, [], ◌∷◌, ap, sym, ◌∙◌}
use Rattle.mdns_history.specs.declared.entry.Entry.{Entry}
use Rattle.mdns_core.specs.InForce.{in_force}
use Rattle.mdns_history.specs.Fitting.{IsLegal}
use Rattle.mdns_history.specs.Replays.{IsReplayed, IsQueued}
use Rattle.mdns_history.specs.Calls.{GoodCallsSucceed}
use Rattle.mdns_asserts.specs.Earned.{AssertionsAreEarned}
use Rattle.mdns_groups.specs.Registered.{HaveGroups, GroupsAreFew}
use Rattle.mdns_play.specs.Histories.{AreServedThroughout, CallsSucceedThroughout, AreEarnedThroughout, HaveGroupsThroughout}

pub are_served : IsReplayed → IsQueued → (history : List Entry) → IsLegal in_force history → AreServedThroughout history
are_served replayed queued [] legal = tt
are_served replayed queued (entry ∷ []) legal = (
  λ session attached uncut. record {
    replayed = replayed in_force (entry ∷ []) session legal attached uncut;
    queued = queued in_force (entry ∷ []) session legal uncut;
  },
  tt,
)
are_served replayed queued (entry ∷ before ∷ past) legal = (
  λ session attached uncut. record {
    replayed = replayed in_force (entry ∷ before ∷ past) session legal attached uncut;
    queued = queued in_force (entry ∷ before ∷ past) session legal uncut;
  },
  are_served replayed queued (before ∷ past) legal.1,
)

pub calls_succeed : GoodCallsSucceed → (history : List Entry) → IsLegal in_force history → CallsSucceedThroughout history
calls_succeed law [] legal = tt
calls_succeed law (entry ∷ []) legal = (λ session op request called good. let booted = sym (ap (λ e. e.event) legal.3) ∙ called in cc, tt)
calls_succeed law (entry ∷ before ∷ past) legal = (λ session op request called good. law in_force entry (before ∷ past) session op request legal.0 called good, calls_succeed law (before ∷ past) legal.1)

pub are_earned : AssertionsAreEarned → (history : List Entry) → IsLegal in_force history → AreEarnedThroughout history
are_earned law [] legal = tt
are_earned law (entry ∷ []) legal = (law in_force entry [] legal, tt)
are_earned law (entry ∷ before ∷ past) legal = (law in_force entry (before ∷ past) legal, are_earned law (before ∷ past) legal.1)

pub have_groups : HaveGroups → GroupsAreFew → (history : List Entry) → IsLegal in_force history → HaveGroupsThroughout history
have_groups law few [] legal = tt
have_groups law few (entry ∷ []) legal = (law in_force (entry ∷ []) legal, few in_force (entry ∷ []) legal, tt)
have_groups law few (entry ∷ before ∷ past) legal =
    (law in_force (entry ∷ before ∷ past) legal, few in_force (entry ∷ before ∷ past) legal, have_groups law few (before ∷ past) legal.1)
