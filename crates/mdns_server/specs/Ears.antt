-- How the ear's loop ended.
use Rattle.std.specs.Prelude.{ℕ, ◌==◌, nat_lt, Bool}
use Rattle.mdns_serve.specs.declared.hearing.HearEnd.{HearEnd}
use Rattle.mdns_serve.specs.declared.hearing.HearEnd.TheVariants.{Ended, LinkFault}

-- whether an end has its cause: an ear has faults exactly where its link failed
abbrev pub has_cause : HearEnd → ℕ → Bool
has_cause Ended faults = faults == 0
has_cause LinkFault faults = nat_lt 0 faults
