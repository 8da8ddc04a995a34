use Rattle.std.proofs.Common.{◌≡◌, true, subst}
use Rattle.std.proofs.lemmas.List.{take_all}
use Rattle.mdns_happened.specs.declared.around.Registered.{Registered}
use Rattle.sd_sessions.specs.Concerned.{asker_at, is_one_of, AreToldMet}
use Rattle.sd_sessions.proofs.Named.{each-next}
use Rattle.sd_sessions.proofs.concerned.put_told.Goals as goal

pub loop-one-preserved : goal.loop-one-preserved
loop-one-preserved c =
    let before : Registered → Type 0 = λ one. is_one_of c.loop-one.concerned.items (asker_at one.session one.op) ≡ true in
    let now : Registered → Type 0 = λ one. is_one_of c.put_one.new.concerned.items (asker_at one.session one.op) ≡ true in
    record {
      kept = λ one h. c.in_ok-put_one.ensures.kept one (c.loop-one.invariant.kept one h);
      put = each-next before now (λ one k. c.in_ok-put_one.ensures.kept (asker_at one.session one.op) k) c.args.told.now c.loop-one.one-index c.one-item.result c.loop-one-test.true c.one-item.is
          c.loop-one.invariant.put c.in_ok-put_one.ensures.put;
    }

pub returns-clause-put : goal.returns-clause-put
returns-clause-put c = subst (AreToldMet c.loop-one.concerned.items) (take_all c.loop-one.one-index c.args.told.now c.loop-one-test.false) c.loop-one.invariant.put
