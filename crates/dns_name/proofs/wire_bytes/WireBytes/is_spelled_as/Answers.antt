use Rattle.std.proofs.Common.{◌≡◌, ◌∙◌, take, sym, arith}
use Rattle.std.proofs.lemmas.Bool.{false≢true}
use Rattle.dns_name.proofs.Eights.{agree_behind, not_unlike}
use Rattle.dns_name.proofs.wire_bytes.WireBytes.is_spelled_as.Goals as goal

pub returns-then-not-are_same : goal.returns-then-not-are_same
returns-then-not-are_same c =
    let our = rw c.unwrap.ensures at c.split_first_chunk.ensures.cases in
    let their = rw c.unwrap-in-chunks.ensures at c.split_first_chunk-in-chunks.ensures.cases in (
      λ no. absurd (false≢true no),
      λ same. absurd (false≢true (sym c.if-not-are_same.true ∙ c.are_same.ensures.1 (our.0 ∙ not_unlike c.chunks.left c.chunks.ours.now c.chunks.theirs.now c.chunks-test.true (c.chunks.invariant.same.1 same) ∙ sym their.0))),
    )

pub chunks-preserved : goal.chunks-preserved
chunks-preserved c =
    let our = rw c.unwrap.ensures at c.split_first_chunk.ensures.cases in
    let their = rw c.unwrap-in-chunks.ensures at c.split_first_chunk-in-chunks.ensures.cases in
    let same : take 8 c.chunks.ours.now ≡ take 8 c.chunks.theirs.now = sym our.0 ∙ c.are_same.ensures.0 c.if-not-are_same.false ∙ their.0 in
    let behind = agree_behind c.chunks.left c.chunks.ours.now c.chunks.theirs.now c.chunks-test.true same in
    record {
      ours = omega (arith, our.2, c.chunks.invariant.ours);
      theirs = omega (arith, their.2, c.chunks.invariant.theirs);
      same = rw (our.1, their.1) (λ rest. c.chunks.invariant.same.0 (behind.0 rest), λ whole. behind.1 (c.chunks.invariant.same.1 whole));
    }
