use Rattle.std.proofs.Common.{◌≡◌, ◌∙◌, List, Option, ap, subst, sym}
use Rattle.std.specs.List.{AllByRecursion}
use Rattle.mdns_history.specs.declared.operation.Operation.{Operation}
use Rattle.mdns_happened.specs.Told.{Told, told_by}
use Rattle.sd_operations.specs.declared.call.Call.{Call}
use Rattle.sd_sessions.specs.Answered.{answered}
use Rattle.sd_sessions.specs.Changes.{items_between}
use Rattle.sd_sessions.specs.Settling.{left_to}
use Rattle.sd_operations.specs.Operations.{after_own}
use Rattle.sd_sessions.specs.Kept.{session_of}
use Rattle.sd_sessions.specs.Walked.{IsSeenOf}
use Rattle.sd_sessions.proofs.Seen.{seen-after}
use Rattle.sd_sessions.proofs.WalkAnswers.{brought-uncut}
use Rattle.sd_sessions.proofs.by_names.bring_by_names.Goals as goal

pub returns : goal.returns
returns c = λ earlier later seen is.
    let told : Told = told_by c.args.happened.now in
    let operations : List Operation = c.args.session.now.operations.items in
    let after : after_own c.args.session.now.number c.args.call.now operations ≡ left_to told.call c.args.session.now.number operations =
    ap (λ (call : Option Call). after_own c.args.session.now.number call operations) is in
    let all : AllByRecursion (IsSeenOf earlier later c.args.looked.now.around.now operations) (after_own c.args.session.now.number c.args.call.now operations) =
    subst (AllByRecursion (IsSeenOf earlier later c.args.looked.now.around.now operations)) (sym after) (seen-after told earlier later c.args.looked.now.around.now (session_of c.args.session.now) seen) in
    brought-uncut told (answered earlier) (answered later) (session_of c.args.session.now) c.in_ok-items.items (sym c.gets_nothing.ensures ∙ c.if-gets_nothing.false)
    (c.in_ok-items.ensures earlier later all ∙ (λ i. items_between (answered earlier) (answered later) (c.reply_to-reply.ensures i) operations (after i)))
