use Rattle.std.proofs.Common.{◌∙◌, ◌<◌, map, refl, sym, ap, arith}
use Rattle.std.specs.Map.{values_of}
use Rattle.dns_record.specs.declared.record.Rr.{Rr}
use Rattle.mdns_cache.specs.Lifetimes.{hearing_at, shortened}
use Rattle.mdns_cache.specs.Flushed.{without_flush}
use Rattle.mdns_cache.proofs.PuttingOff.{not_put_off, is_put_off}
use Rattle.mdns_cache.proofs.Turns.{nothing_cut}
use Rattle.mdns_cache.proofs.heard.shorten.Goals as goal

pub returns-then-is_flush_now-clause-values : goal.returns-then-is_flush_now-clause-values
returns-then-is_flush_now-clause-values c =
    c.shorten_all.ensures.values
    ∙ ap (λ (x : Rr). map (shortened (hearing_at c.args.now 0 x)) (values_of c.args.records.now.entries)) (sym (not_put_off c.args.later.now c.args.rr.now (cc (c.is_flush_now.ensures, c.if-is_flush_now.true))))

pub returns-then-rr-eq0-clause-values : goal.returns-then-rr-eq0-clause-values
returns-then-rr-eq0-clause-values c =
    c.take_back.ensures.values
    ∙ ap (λ (x : Rr). map (shortened (hearing_at c.args.now 0 x)) (values_of c.args.records.now.entries)) (sym (is_put_off c.args.later.now c.args.rr.now (cc (c.is_flush_now.ensures, c.if-is_flush_now.false))))

pub returns-else-rr-eq0-clause-values : goal.returns-else-rr-eq0-clause-values
returns-else-rr-eq0-clause-values c =
    let some = c.if-rr-eq0.false in
    let positive : 0 < c.args.rr.now.ttl = omega (arith, some) in
    sym (nothing_cut (hearing_at c.args.now 0 (without_flush c.args.rr.now)) positive refl (values_of c.args.records.now.entries))
    ∙ ap (λ (x : Rr). map (shortened (hearing_at c.args.now 0 x)) (values_of c.args.records.now.entries)) (sym (is_put_off c.args.later.now c.args.rr.now (cc (c.is_flush_now.ensures, c.if-is_flush_now.false))))
