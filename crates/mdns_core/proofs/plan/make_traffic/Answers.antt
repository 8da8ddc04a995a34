use Rattle.std.proofs.Common.{List, subst}
use Rattle.mdns_history.specs.declared.entry.Sent.{Sent}
use Rattle.mdns_happened.specs.Told.{told_by}
use Rattle.mdns_asking.specs.Planned as asking
use Rattle.mdns_core.proofs.plan.make_traffic.Goals as goal

pub returns-clause-is : goal.returns-clause-is
returns-clause-is c = record {
  queried = c.plan.new.sent;
  asking = λ held later timed walks live enough.
      subst (λ (sent : List Sent). asking.IsPlan (told_by c.args.happened.now) c.args.when.moment c.args.kept.now.parts.now.sessions.sessions c.args.kept.now.parts.now.asking.questions later c.args.walks.now sent c.plan.new.sent c.in_ok-asking.asking)
      c.in_ok-sent.ensures
      (c.in_ok-asking.ensures.plan held later timed walks live enough);
  sent = c.in_ok-put_responses.ensures;
  multicasts = c.in_ok-multicasts.ensures;
}
