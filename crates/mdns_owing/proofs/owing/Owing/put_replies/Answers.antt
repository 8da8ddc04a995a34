use Rattle.std.proofs.Common.{◌≡◌, ◌<◌, ◌∙◌, List, ℕ, length, get_or, arith, ap, subst}
use Rattle.mdns_timer.specs.Parts.{NoneDue}
use Rattle.mdns_debts.specs.Queries.{Query, replies_at}
use Rattle.mdns_owing.specs.Owing.{State, moments_of}
use Rattle.mdns_owing.proofs.Due.{length_timed, flat_next, flat_all, replies_undue}
use Rattle.mdns_owing.proofs.owing.Owing.put_replies.Goals as goal

pub loop-place-preserved : goal.loop-place-preserved
loop-place-preserved c =
    let queries : List Query = c.args.self.now.queries in
    let moments : List ℕ = c.self.inside.deadlines.moments in
    let timed : moments ≡ moments_of queries = c.self.invariant.timed ∙ ap (λ (s : State). moments_of s.queries) c.self.view_is in
    let len : length moments ≡ length queries = length_timed queries moments timed in
    let there : c.in-Some.place < length queries = omega (arith, len, c.in-Some.ensures.within) in
    let found = c.in-Some.ensures.some in
    record {
      within = omega (arith, there);
      sent = flat_next (replies_at c.args.now) queries c.loop-place.from c.in-Some.place c.index.result.now c.args.sent.now c.loop-place.sent c.put_reply.new.sent
          found.behind there
          (c.index.ensures ∙ ap (λ (s : State). get_or s.queries c.in-Some.place c.index.result.now) c.self.view_is)
          (replies_undue c.args.now queries moments c.loop-place.from c.in-Some.place timed (omega (arith, there)) (subst (λ (n : ℕ). NoneDue moments n c.loop-place.from c.in-Some.place) c.ms.ensures.value found.first))
          c.loop-place.invariant.sent c.in_ok-put_reply.ensures;
    }

pub returns : goal.returns
returns c =
    let queries : List Query = c.args.self.now.queries in
    let moments : List ℕ = c.self.inside.deadlines.moments in
    let timed : moments ≡ moments_of queries = c.self.invariant.timed ∙ ap (λ (s : State). moments_of s.queries) c.self.view_is in
    let len : length moments ≡ length queries = length_timed queries moments timed in
    flat_all (replies_at c.args.now) queries c.loop-place.from c.args.sent.now c.loop-place.sent c.loop-place.invariant.within
    (replies_undue c.args.now queries moments c.loop-place.from (length queries) timed (omega arith) (subst (NoneDue moments c.args.now c.loop-place.from) len (subst (λ (n : ℕ). NoneDue moments n c.loop-place.from (length moments)) c.ms.ensures.value c.in_default.ensures.none)))
    c.loop-place.invariant.sent
