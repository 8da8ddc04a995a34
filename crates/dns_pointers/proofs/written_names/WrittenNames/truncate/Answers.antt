use Rattle.std.proofs.Common.{sym, subst}
use Rattle.dns_pointers.specs.Writing.{Offsets}
use Rattle.dns_pointers.specs.Compressing.{AreFirsts}
use Rattle.dns_pointers.proofs.Searching.{fewer_names}
use Rattle.dns_pointers.proofs.written_names.WrittenNames.truncate.Goals as goal

pub invariant_of-self : goal.invariant_of-self
invariant_of-self c =
    subst (λ (names : Offsets). AreFirsts names c.self.inside.firsts.items) (sym c.truncate.ensures.items) (fewer_names c.self.inside.suffixes.items c.self.inside.firsts.items c.args.len c.self.invariant)
