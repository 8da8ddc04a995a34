use Rattle.std.proofs.Common.{ap, sym, ◌∙◌, take}
use Rattle.std.proofs.lemmas.List.{take_rest}
use Rattle.std.specs.Int.{from_be_bytes, w128}
use Rattle.dns_pointers.proofs.Chunks.{range_chunk}
use Rattle.dns_pointers.proofs.packet.Packet.u128_at.Goals as goal

pub returns : goal.returns
returns c =
    let parts = rw c.unwrap.ensures at c.split_first_chunk.ensures.cases in
    let rest = take_rest c.self.inside.bytes.now c.args.at in
    rw (← c.self.view_is)
    (c.from_be_bytes.ensures ∙ ap (from_be_bytes w128) (parts.0 ∙ ap (take 16) rest ∙ sym (range_chunk c.self.inside.bytes.now c.args.at 16)))
