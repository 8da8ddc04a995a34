use Rattle.std.proofs.Common.{inr}
use Rattle.sd_command.proofs.Talking.{spoken, heard_of_peer, plug_risen}
use Rattle.sd_command.proofs.top.ask.Goals as goal

pub returns : goal.returns
returns g c = inr (record {
  used = c.talk-ending.ensures.used;
  path = λ after e. c.in-Ok.ensures.asked after (c.back.ensures.asked after e);
  spoken = spoken _ _ _ _ _ _ _ _ c.in-Ok.ensures.said c.in-Ok.ensures.fresh.empty c.talk-ending.ensures.said c.parts-input.ensures.said c.back.ensures.said;
  heard = heard_of_peer _ _ _ _ _ _ _ _ c.in-Ok.ensures.coming c.back.ensures.coming c.talk-ending.ensures.heard;
  plug_cause = plug_risen _ c.talk-ending.new.client _ _ _ _ _ c.in-Ok.ensures.cause.quiet c.parts-input.ensures.source_faults c.parts-input.ensures.sink_faults c.back.ensures.counts
      c.talk-ending.ensures.fault c.talk-ending.ensures.quiet;
  output_cause = c.talk-ending.ensures.output_cause;
})
