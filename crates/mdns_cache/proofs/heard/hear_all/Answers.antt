use Rattle.std.proofs.Common.{◌≡◌, ◌+◌, List, [], ◌∷◌, ◌++◌, map, reverse, length, IsPermutation, refl, ap, subst, sym, ◌∙◌, arith, rules, length-append}
use Rattle.std.specs.Map.{values_of}
use Rattle.std.proofs.lemmas.List.Sorted.{IsPermutation-trans}
use Rattle.dns_record.specs.declared.record.Rr.{Rr}
use Rattle.mdns_history.specs.declared.held.Held.{Held}
use Rattle.mdns_history.specs.Hearings.{Hearing}
use Rattle.mdns_cache.specs.Lifetimes.{hearing_at, renewed, after_hearings}
use Rattle.mdns_cache.specs.Flushed.{after_put_off}
use Rattle.mdns_cache.proofs.PuttingOff.{cutting, next_put_off}
use Rattle.mdns_cache.proofs.Once.{AreOnce-after_cut, AreOnce-permuted}
use Rattle.mdns_cache.proofs.heard.hear_all.Goals as goal

pub hear_one-near-requires-clause-renewed : goal.hear_one-near-requires-clause-renewed
hear_one-near-requires-clause-renewed c = subst (λ (x : Held). x ≡ renewed (hearing_at x.heard x.word x.rr)) (sym c.renewed-one.ensures) refl

pub loop-rr-preserved : goal.loop-rr-preserved
loop-rr-preserved c =
    let rest : List Rr = c.pop.new.self.items in
    let items : c.loop-rr.heard.items ≡ rest ++ c.in-Some.rr ∷ [] = c.in-Some.ensures.items in
    let len : length c.loop-rr.heard.items ≡ length rest + 1 = ap length items ∙ length-append rest (c.in-Some.rr ∷ []) in
    let held = values_of c.loop-rr.records.entries in
    let hearing : Hearing = hearing_at c.args.now c.args.word c.in-Some.rr in
    let put : IsPermutation (after_put_off rest held hearing) (values_of c.hear_one-near.new.records.entries) =
    subst (λ (l : List Rr). IsPermutation (after_put_off l held hearing) (values_of c.hear_one-near.new.records.entries)) c.as_slice.ensures.value
    (subst (λ (x : Held). IsPermutation (after_put_off c.as_slice.result.now held (hearing_at x.heard x.word x.rr)) (values_of c.hear_one-near.new.records.entries)) c.renewed-one.ensures c.hear_one-near.ensures.held) in
    let next = next_put_off c.args.now c.args.word rest c.in-Some.rr held (values_of c.hear_one-near.new.records.entries) put in
    record {
      moved = IsPermutation-trans _ _ _ c.loop-rr.invariant.moved
          (subst (λ (l : List Rr). IsPermutation (after_hearings (values_of c.loop-rr.records.entries) (map (hearing_at c.args.now c.args.word) (reverse l))) (after_hearings (values_of c.hear_one-near.new.records.entries) (map (hearing_at c.args.now c.args.word) (reverse rest)))) (sym items) next);
      filed = c.hear_one-near.ensures.filed;
      once = AreOnce-permuted (after_put_off rest held hearing) (values_of c.hear_one-near.new.records.entries) put (AreOnce-after_cut (cutting rest hearing) hearing held c.loop-rr.invariant.once);
      played = c.hear_one-near.ensures.played;
      size = search rules;
      room = c.hear_one-near.ensures.room ∙ c.loop-rr.invariant.room;
      enough = omega (arith, len, c.hear_one-near.ensures.spare, c.loop-rr.invariant.enough);
      left = omega (arith, len, c.hear_one-near.ensures.spare, c.loop-rr.invariant.left);
    }
