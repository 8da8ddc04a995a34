-- Good calls succeed.
use Rattle.std.proofs.Common.{◌≡◌, ℕ, Bool, true, false, cond, not, ◌&&◌, List, refl, ap, ◌∙◌}
use Rattle.std.specs.Option.{is_some}
use Rattle.sd_call.specs.declared.request.Request.{Request}
use Rattle.sd_call.specs.Requests.{bad_param, bad_reference, unsupported, invalid, well_formed, is_start}
use Rattle.mdns_history.specs.declared.event.Event.TheVariants as event
use Rattle.mdns_history.specs.declared.entry.Outcome.TheVariants as outcome
use Rattle.mdns_history.specs.declared.entry.Entry.{Entry}
use Rattle.mdns_history.specs.InForce.{Duties}
use Rattle.mdns_history.specs.Sessions.{operation_request, is_attached, is_cut}
use Rattle.mdns_history.specs.Outcomes.{call_code, call_outcome, early_outcome, is_bad_reference, is_unsupported}
use Rattle.mdns_history.specs.Fitting.{next_entry}
use Rattle.mdns_history.specs.Calls.{is_good_call, good_code, good_outcome, GoodCallsSucceed}

-- the outcome of an entry whose event is a call
outcome_of_call : (duties : Duties) (past : List Entry) (moment word session op : ℕ) (request : Request) → (next_entry duties past moment word (event.Call session op request)).outcome ≡ call_outcome session op request past
unfolding next_entry early_outcome
outcome_of_call duties past moment word session op request = refl

-- where the tests say so, the outcome is that of a good call
good_call : (session op : ℕ) (request : Request) (past : List Entry) → is_good_call session op request past ≡ true → call_outcome session op request past ≡ good_outcome session request past
unfolding call_code
good_call session op request past good =
    of (is_attached session past) (well_formed request) (is_start request && is_some (operation_request session op past)) (is_bad_reference session op request past) (is_unsupported request past) good
  where
    of : (a w i b u : Bool) → (a && w && not i && not b && not u) ≡ true →
        cond (not a) outcome.Closed (cond (is_cut session past) outcome.Cut (outcome.Code
        (cond i invalid (cond b bad_reference (cond (not w) bad_param (cond u unsupported (good_code session request past)))))))
        ≡ good_outcome session request past
    of true true false false false h = refl
    of false w i b u h = cc
    of true false i b u h = cc
    of true true true b u h = cc
    of true true false true u h = cc
    of true true false false true h = cc

pub good_calls_succeed : GoodCallsSucceed
good_calls_succeed duties entry past session op request fits called good =
    ap (λ e. e.outcome) fits.determined
    ∙ ap (λ e. (next_entry duties past entry.moment entry.word e).outcome) called
    ∙ outcome_of_call duties past entry.moment entry.word session op request
    ∙ good_call session op request past good
