use Rattle.std.proofs.Common.{◌≡◌, map}
use Rattle.std.specs.Prelude.{filter}
use Rattle.mdns_history.specs.declared.mark.Cause.TheVariants as cause
use Rattle.mdns_history.specs.declared.mark.Mark.TheVariants as mark
use Rattle.mdns_history.specs.Asking.{is_asked_by}
use Rattle.plain_asking.proofs.heard.heard_askings.Given as goal

abbrev pub invariant-loop-active : goal.invariant-loop-active
invariant-loop-active l = l.marks.items ≡ map (λ active. mark.Asked active.key cause.Heard) (filter (is_asked_by l.history l.moment l.query) l.yielded)
