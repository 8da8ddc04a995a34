-- Laws of legal histories.
use Rattle.std.specs.Prelude.{◌≡◌, true, List, [], ◌∷◌}
use Rattle.mdns_history.specs.declared.entry.Entry.{Entry}
use Rattle.mdns_history.specs.InForce.{Duties}
use Rattle.mdns_history.specs.Fitting.{IsLegalFrom}
use Rattle.plain_history.specs.Standing.{may_stand}

-- Each entry of a legal history may stand in one.
abbrev pub EntriesMayStand : Type 0
EntriesMayStand = (duties : Duties) (entry : Entry) (past : List Entry) → IsLegalFrom duties entry past → may_stand entry ≡ true

-- There are no entries, or they are legal.
abbrev pub IsLegalOrNone : Duties → List Entry → Type 0
IsLegalOrNone duties [] = Unit {0}
IsLegalOrNone duties (entry ∷ past) = IsLegalFrom duties entry past
