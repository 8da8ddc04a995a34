use Rattle.std.proofs.Common.{◌≡◌, ◌∙◌, ◌++◌, ◌∷◌, [], subst}
use Rattle.std.specs.List.{list_any, filter_map}
use Rattle.dns_record.specs.declared.record.Rr.{Rr}
use Rattle.dns_record.specs.Records.{matches}
use Rattle.mdns_history.specs.Answers.{matching, resolved_with}
use Rattle.sd_answer.specs.Known.{rrs_in}
use Rattle.sd_answer.proofs.Puts.{put_more, put_own, put_both, put_none, no_pairs}
use Rattle.sd_answer.proofs.answers.put_pairs.Goals as goal

pub loop-one-preserved : goal.loop-one-preserved
loop-one-preserved c =
    put_more (λ (txt : Rr). resolved_with c.args.place.now txt.rdata) (λ rr. list_any (λ key. matches key rr) c.args.questions.now) c.args.known.now.held.now c.loop-one.one-index c.one-item.result c.loop-one-test.true c.one-item.is _ _ _ c.loop-one.invariant
    (subst (λ (rr : Rr). c.put_pair.new.answers ≡ c.loop-one.answers ++ filter_map (λ (txt : Rr). resolved_with c.args.place.now txt.rdata) (matching c.args.questions.now (rr ∷ []))) c.deref.ensures c.in_ok-put_pair.ensures)

pub loop-rr-preserved : goal.loop-rr-preserved
loop-rr-preserved c =
    put_own (λ (txt : Rr). resolved_with c.args.place.now txt.rdata) (λ rr. list_any (λ key. matches key rr) c.args.questions.now) c.args.known.now.own.now c.loop-rr.rr-index c.rr-item.result c.loop-rr-test.true c.rr-item.is _ _ _ c.loop-rr.invariant
    c.in_ok-put_pair-2.ensures

pub returns : goal.returns
returns c =
    put_both (λ (txt : Rr). resolved_with c.args.place.now txt.rdata) (λ rr. list_any (λ key. matches key rr) c.args.questions.now) c.args.known.now.held.now c.loop-one.one-index c.args.known.now.own.now c.loop-rr.rr-index c.loop-one-test.false c.loop-rr-test.false _ _ _ c.loop-one.invariant c.loop-rr.invariant

pub returns-then-kind-ne-SRV : goal.returns-then-kind-ne-SRV
returns-then-kind-ne-SRV c =
    put_none c.args.answers.now _ (no_pairs c.args.place.now (matching c.args.questions.now (rrs_in c.args.known.now)) (λ e. c.if-kind-ne-SRV.true (c.kind.ensures ∙ e)))
