use Rattle.std.proofs.Common.{◌≡◌, ◌∙◌, Some, sym}
use Rattle.mdns_history.specs.declared.operation.Operation.{Operation}
use Rattle.mdns_happened.specs.Registrations.{registered_in}
use Rattle.sd_sessions.proofs.WalkAnswers.{same-untold, has-told, had-told}
use Rattle.sd_sessions.proofs.by_names.compare_registered.Goals as goal

pub returns-in_ok-has-in-Some-clause-value : goal.returns-in_ok-has-in-Some-clause-value
returns-in_ok-has-in-Some-clause-value c = λ earlier later seen.
    let o : Operation = c.args.operation.now in
    let found : registered_in c.args.around.now.registered.now o.session o.op ≡ Some c.in-Some.told.now = sym c.in-Some.ensures in (
      c.in_ok-had-in-Some.ensures.value ∙ had-told earlier later c.args.around.now c.args.before.now o seen c.requires c.in-Some.told.now found,
      c.in_ok-has-in-Some.ensures.value ∙ has-told earlier later c.args.around.now c.args.before.now o seen c.requires c.in-Some.told.now found,
    )

pub returns-in-None-clause-value : goal.returns-in-None-clause-value
returns-in-None-clause-value c = λ earlier later seen.
    same-untold earlier later c.args.around.now c.args.before.now c.args.operation.now seen c.requires (sym c.in-None.ensures)
