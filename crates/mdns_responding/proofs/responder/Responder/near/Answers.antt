use Rattle.std.proofs.Common.{[]}
use Rattle.std.proofs.lemmas.Result.{IfOk-weaker}
use Rattle.mdns_asked.specs.Asked.{AreOf, AreRight}
use Rattle.mdns_asked.proofs.Asking.{are_right}
use Rattle.mdns_claims.specs.Later.{groups_behind}
use Rattle.mdns_claims.specs.Owned.{own_in}
use Rattle.mdns_responding.proofs.Wanted.{none_right}
use Rattle.mdns_responding.proofs.responder.Responder.near.Goals as goal

pub returns-then-answers-le-FEW : goal.returns-then-answers-le-FEW
returns-then-answers-le-FEW c = IfOk-weaker c.new.result (λ asked. AreOf [] [] asked) (λ near. AreRight (own_in (groups_behind c.args.self.now.behind.now)) near) (none_right (own_in (groups_behind c.args.self.now.behind.now))) c.new.ensures

pub returns : goal.returns
returns c =
    are_right c.as_slice.result.now (own_in (groups_behind c.args.self.now.behind.now)) c.in_ok-near.near c.put_asked.new.asked c.in_ok-near.ensures c.in_ok-put_asked.ensures
