use Rattle.std.proofs.Common.{◌∙◌, List, ap, set, get_or}
use Rattle.sd_call.specs.declared.request.Request.{Request}
use Rattle.mdns_history.specs.declared.operation.Operation.{Operation}
use Rattle.sd_operations.proofs.OperationPlaces.{updated-at, updated-none}
use Rattle.sd_operations.proofs.running.replace_txt.Goals as goal

pub returns-in-Some : goal.returns-in-Some
returns-in-Some c =
    let os : List Operation = c.args.operations.now in
    let here : Operation = get_or os c.in-Some.place c.index-operations-place.result in
    ap (λ (request : Request). set os c.in-Some.place (record here { request = request })) c.update.ensures
    ∙ updated-at c.args.op c.args.txt os c.in-Some.place c.index-operations-place.result c.requires c.in-Some.ensures

pub returns-in-None : goal.returns-in-None
returns-in-None c = updated-none c.args.op c.args.txt c.args.operations.now c.in-None.ensures
