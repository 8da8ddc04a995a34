use Rattle.std.proofs.Common.{Bool, List, cond, ap, sym, ◌∙◌}
use Rattle.dns_name.specs.Names.{folded_eq}
use Rattle.dns_record.specs.declared.record.Rr.{Rr}
use Rattle.mdns_history.specs.declared.held.Held.{Held}
use Rattle.mdns_cache.specs.Lifetimes.{hearing_at, after_hearing}
use Rattle.mdns_records.proofs.Heard.{heard-more}
use Rattle.mdns_records.proofs.hear.hear_all.Goals as goal
use Rattle.mdns_records.proofs.hear.hear_all.Goals.{then-folded_eq+in_ok-hear_one, else-folded_eq}

pub loop-rr-preserved : goal.loop-rr-preserved
loop-rr-preserved c =
    let heard : List Held = after_hearing c.loop-rr.held.items (hearing_at c.args.when.moment c.args.when.word c.rr-item.result) in
    elim c.if-folded_eq.branch [
      | then-folded_eq+in_ok-hear_one w ↦
          heard-more c.args.when.moment c.args.when.word c.args.name.now c.args.heard.now c.loop-rr.rr-index c.rr-item.result c.loop-rr.held.items c.if-folded_eq.held.items c.folded_eq.result
          c.loop-rr-test.true c.rr-item.is (c.folded_eq.ensures.value ∙ ap (λ (rr : Rr). folded_eq rr.owner c.args.name.now) c.deref.ensures)
          (ap (λ v. v.items) w.held-is ∙ w.in_ok-hear_one.ensures ∙ ap (λ (b : Bool). cond b heard c.loop-rr.held.items) (sym w.if-folded_eq.true))
          ∙ c.loop-rr.invariant
      | else-folded_eq w ↦
          heard-more c.args.when.moment c.args.when.word c.args.name.now c.args.heard.now c.loop-rr.rr-index c.rr-item.result c.loop-rr.held.items c.if-folded_eq.held.items c.folded_eq.result
          c.loop-rr-test.true c.rr-item.is (c.folded_eq.ensures.value ∙ ap (λ (rr : Rr). folded_eq rr.owner c.args.name.now) c.deref.ensures)
          (ap (λ v. v.items) w.held-is ∙ ap (λ (b : Bool). cond b heard c.loop-rr.held.items) (sym w.if-folded_eq.false))
          ∙ c.loop-rr.invariant
    ]
