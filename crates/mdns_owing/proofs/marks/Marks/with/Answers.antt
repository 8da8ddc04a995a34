use Rattle.std.proofs.Common.{◌≡◌, ℕ, ◌*◌, ◌%◌, ◌^◌, w64, bit_or, sym, subst}
use Rattle.std.specs.Int.{bit_at}
use Rattle.std.proofs.lemmas.Nat.Bits.{bit_at_set_same}
use Rattle.mdns_owing.specs.Marks.{mark_of}
use Rattle.mdns_owing.proofs.Marked.{mark_stays, mark_small}
use Rattle.mdns_owing.proofs.marks.Marks.with.Goals as goal

pub returns-clause-has : goal.returns-clause-has
returns-clause-has c =
    subst (λ (k : ℕ). bit_at (bit_or c.args.self.bits (1 * 2 ^ k % 2 ^ 64)) (mark_of c.args.rr.now) ≡ 1) (sym c.mark_of.ensures) (bit_at_set_same w64 c.args.self.bits (mark_of c.args.rr.now) (mark_small c.args.rr.now))

pub returns-clause-kept : goal.returns-clause-kept
returns-clause-kept c = λ other has. mark_stays c.args.self.bits _ (mark_of other) has
