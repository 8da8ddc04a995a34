-- An event as groups see it, in code.
use Rattle.mdns_happened.specs.Told.{told_by}
use Rattle.mdns_renewals.specs.declared.renew.Seen.{Seen}
use Rattle.mdns_renewals.specs.Occasions.{Occasion}

-- what it means
abbrev pub occasion_in : Seen → Occasion
occasion_in seen =
    record {
      moment = seen.when.moment;
      word = seen.when.word;
      told = told_by seen.happened.now;
      marks = seen.marks.now;
      config = seen.config.now;
      host = seen.host;
      stormy = seen.stormy;
      announces = seen.announces;
    }
