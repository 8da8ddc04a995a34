use Rattle.std.proofs.Common.{refl}
use Rattle.dns_message.proofs.Drafts.{nothing_drafted}
use Rattle.dns_message.proofs.draft.Draft.of.Goals as goal

pub invariant_of-result : goal.invariant_of-result
invariant_of-result c = (λ _. nothing_drafted _ c.in_ok-so_far.so_far c.in_ok-so_far.ensures c.new-2.ensures (rw (c.new-3.ensures, c.new-4.ensures, c.new-5.ensures) refl), λ e. absurd cc)
