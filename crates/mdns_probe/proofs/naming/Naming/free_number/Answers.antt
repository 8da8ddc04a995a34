use Rattle.std.proofs.Common.{ap, ◌∙◌, arith}
use Rattle.mdns_history.specs.Groups.{numbered_name, is_taken}
use Rattle.mdns_asserts.proofs.FreeNumbers.{free_number-free}
use Rattle.mdns_probe.proofs.naming.Naming.free_number.Goals as goal

pub returns-clause-free : goal.returns-clause-free
returns-clause-free c first =
    ap (λ n. is_taken c.args.names.now (numbered_name c.args.self.now n)) c.first_free.ensures
    ∙ free_number-free c.args.from c.args.names.now c.args.self.now first (omega (arith, c.requires))
