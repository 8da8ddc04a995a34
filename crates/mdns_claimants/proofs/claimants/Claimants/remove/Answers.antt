use Rattle.std.proofs.Common.{◌∙◌, List, ℕ, map, ap, sym}
use Rattle.std.specs.List.{remove}
use Rattle.mdns_claimants.specs.Due.{moment_of}
use Rattle.mdns_claimants.proofs.Places.{map_remove}
use Rattle.mdns_claimants.proofs.claimants.Claimants.remove.Goals as goal

pub invariant_of-self : goal.invariant_of-self
invariant_of-self c =
    c.remove-2.ensures.moments
    ∙ ap (λ (l : List ℕ). remove l c.args.place) c.self.invariant
    ∙ sym (map_remove moment_of c.self.inside.groups.items c.args.place)
    ∙ ap (map moment_of) (sym c.remove.ensures.items)
