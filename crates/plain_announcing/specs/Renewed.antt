-- Whether the last entry of a history renews a group's claim.
use Rattle.std.specs.Prelude.{Bool, false, List, [], ◌∷◌}
use Rattle.mdns_history.specs.declared.entry.Entry.{Entry}
use Rattle.mdns_history.specs.Groups.{Group}
use Rattle.mdns_history.specs.Announcing.{renews_claim}

-- whether a group became sure with the last entry, or its records changed while it was sure
abbrev pub renews_last : Group → List Entry → Bool
renews_last group [] = false
renews_last group (entry ∷ past) = renews_claim group entry past
