use Rattle.std.proofs.Common.{refl}
use Rattle.mdns_claims.proofs.Booted.{boot_stands}
use Rattle.mdns_claims.proofs.claims.Claims.new.Goals as goal

pub returns-clause-stands : goal.returns-clause-stands
returns-clause-stands c =
    boot_stands c.args.when.moment c.args.when.word c.args.config.now
    (record { config = c.copy_config.result; announces = c.args.announces; number = 1; registered = 0; kept = c.in_ok-first_groups.field-0.kept; storm = c.new.result })
    c.copy_config.ensures refl refl c.in_ok-first_groups.ensures.value c.new.ensures.stands
