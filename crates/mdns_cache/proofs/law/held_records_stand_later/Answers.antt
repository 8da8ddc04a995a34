use Rattle.mdns_cache.proofs.Hearing.{Stands-from_held, AllLive-from_holds, Holds-from_stands}
use Rattle.mdns_cache.proofs.law.held_records_stand_later.Goals as goal

pub returns-clause-later : goal.returns-clause-later
returns-clause-later c = Stands-from_held

pub returns-clause-live : goal.returns-clause-live
returns-clause-live c = λ held heard moment holds. AllLive-from_holds moment held heard holds

pub returns-clause-exact : goal.returns-clause-exact
returns-clause-exact c = λ held heard moment live stands. Holds-from_stands moment held heard live stands
