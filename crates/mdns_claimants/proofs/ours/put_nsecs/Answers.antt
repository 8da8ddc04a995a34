use Rattle.std.proofs.Common.{◌≡◌, ◌∙◌, ◌∷◌, ◌++◌, [], Bool, cond, append-nil, ap, sym}
use Rattle.dns_record.specs.declared.record.Rr.{Rr}
use Rattle.mdns_history.specs.Debts.{nsec_record}
use Rattle.mdns_probe.specs.declared.claim.Claim.{Claim}
use Rattle.mdns_claimants.specs.Owned.{nsec_for}
use Rattle.mdns_claimants.proofs.Sure.{nsecs_put}
use Rattle.mdns_claimants.proofs.ours.put_nsecs.Goals as goal
use Rattle.mdns_claimants.proofs.ours.put_nsecs.Goals.{then-is_sure_of+in_ok-nsec_of+in_ok-push, else-is_sure_of}

pub loop-one-preserved : goal.loop-one-preserved
loop-one-preserved c = elim c.if-is_sure_of.branch [
  | then-is_sure_of+in_ok-nsec_of+in_ok-push w ↦
      let nsec : w.in_ok-nsec_of.field-0 ≡ nsec_for c.one-item.result =
      w.in_ok-nsec_of.ensures ∙ (λ i. nsec_record (w.name.ensures i) ((w.as_slice.ensures ∙ ap (λ (k : Claim). k.unique) w.claim.ensures.claim) i)) in
      let put : c.if-is_sure_of.rrs ≡ c.loop-one.rrs ++ nsec_for c.one-item.result ∷ [] = w.rrs-is ∙ w.in_ok-push.ensures.ok ∙ ap (λ (rr : Rr). c.loop-one.rrs ++ rr ∷ []) nsec in
      nsecs_put c.args.name.now c.args.groups.now c.loop-one.one-index c.one-item.result c.loop-one.rrs c.if-is_sure_of.rrs c.is_sure_of.result c.loop-one-test.true c.one-item.is c.is_sure_of.ensures
      (put ∙ ap (λ (b : Bool). c.loop-one.rrs ++ cond b (nsec_for c.one-item.result ∷ []) []) (sym w.if-is_sure_of.true))
      ∙ c.loop-one.invariant
  | else-is_sure_of w ↦
      nsecs_put c.args.name.now c.args.groups.now c.loop-one.one-index c.one-item.result c.loop-one.rrs c.if-is_sure_of.rrs c.is_sure_of.result c.loop-one-test.true c.one-item.is c.is_sure_of.ensures
      (w.rrs-is ∙ sym (append-nil c.loop-one.rrs) ∙ ap (λ (b : Bool). c.loop-one.rrs ++ cond b (nsec_for c.one-item.result ∷ []) []) (sym w.if-is_sure_of.false))
      ∙ c.loop-one.invariant
]
