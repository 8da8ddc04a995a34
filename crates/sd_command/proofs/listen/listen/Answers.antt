use Rattle.std.proofs.Common.{◌∙◌}
use Rattle.sd_command.proofs.Listening.{heard_next, few_more}
use Rattle.sd_command.proofs.listen.listen.Goals as goal

pub items-preserved : goal.items-preserved
items-preserved g c =
    let s = c.in-Ok.ensures.step in record {
      heard = heard_next _ _ _ _ _ _ _ _ _ _ c.items.invariant.heard s;
      few = few_more _ _ _ s.0 c.items.invariant.few s.2.1;
      output = c.in-Ok.ensures.output_cause.quiet (λ e. cc) ∙ c.items.invariant.output;
    }
