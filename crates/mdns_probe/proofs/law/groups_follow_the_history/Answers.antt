use Rattle.mdns_probe.proofs.Probes.{others_probe_none}
use Rattle.mdns_probe.proofs.Ticking.{claims_follow_ticks, announcements_follow}
use Rattle.mdns_probe.proofs.Others.{claims_follow_others}
use Rattle.mdns_probe.proofs.Quieting.{ticks_settle, quiet_ticks_keep}
use Rattle.mdns_probe.proofs.Reading.{own_records_are, probes_are, disturbances_are}
use Rattle.mdns_probe.proofs.Dues.{dues_are_awaited, ticks_leave_the_rest}
use Rattle.mdns_probe.proofs.Ticks.{ticks_leave_nothing_due}
use Rattle.mdns_probe.proofs.law.groups_follow_the_history.Goals as goal

pub returns : goal.returns
returns c = record {
  ticks = claims_follow_ticks;
  others = claims_follow_others;
  announced = announcements_follow;
  settling = ticks_settle;
  quiet = quiet_ticks_keep;
  probes = λ duties past moment word ev name h. others_probe_none duties past moment word name ev h;
  own = own_records_are;
  probing = probes_are;
  disturbed = disturbances_are;
  awaited = dues_are_awaited;
  rest = ticks_leave_the_rest;
  done = ticks_leave_nothing_due;
}
