use Rattle.std.proofs.Common.{◌≡◌, ◌++◌, ◌∷◌, [], subst}
use Rattle.std.specs.List.{list_any, filter_map}
use Rattle.dns_record.specs.declared.record.Rr.{Rr}
use Rattle.dns_record.specs.Records.{matches}
use Rattle.mdns_history.specs.Answers.{datum_of, matching}
use Rattle.sd_answer.proofs.Puts.{put_more, put_own, put_both}
use Rattle.sd_answer.proofs.answers.put_data.Goals as goal

pub loop-one-preserved : goal.loop-one-preserved
loop-one-preserved c =
    put_more datum_of (λ rr. list_any (λ key. matches key rr) c.args.questions.now) c.args.known.now.held.now c.loop-one.one-index c.one-item.result c.loop-one-test.true c.one-item.is _ _ _ c.loop-one.invariant
    (subst (λ (rr : Rr). c.put_datum.new.answers ≡ c.loop-one.answers ++ filter_map datum_of (matching c.args.questions.now (rr ∷ []))) c.deref.ensures c.in_ok-put_datum.ensures)

pub loop-rr-preserved : goal.loop-rr-preserved
loop-rr-preserved c =
    put_own datum_of (λ rr. list_any (λ key. matches key rr) c.args.questions.now) c.args.known.now.own.now c.loop-rr.rr-index c.rr-item.result c.loop-rr-test.true c.rr-item.is _ _ _ c.loop-rr.invariant
    c.in_ok-put_datum-2.ensures

pub returns : goal.returns
returns c =
    put_both datum_of (λ rr. list_any (λ key. matches key rr) c.args.questions.now) c.args.known.now.held.now c.loop-one.one-index c.args.known.now.own.now c.loop-rr.rr-index c.loop-one-test.false c.loop-rr-test.false _ _ _ c.loop-one.invariant c.loop-rr.invariant
