use Rattle.std.proofs.Common.{take}
use Rattle.sd_sessions.specs.Walked.{AreWithin}
use Rattle.mdns_cache.specs.Ended.{is_among}
use Rattle.sd_sessions.specs.Indexed.{ArePut}
use Rattle.sd_sessions.specs.Put.{ArePutOnce, ArePutOnly}
use Rattle.sd_sessions.proofs.names.put_touched.Given as goal

abbrev pub invariant-loop-name : goal.invariant-loop-name
invariant-loop-name l =
    record {
      kept : AreWithin l.initial.names.items l.names.items;
      only : ArePutOnly (is_among (take l.name-index l.touched)) l.initial.names.items l.names.items;
      once : ArePutOnce l.initial.names.items l.names.items;
      put : ArePut (take l.name-index l.touched) l.askers.entries l.names.items;
    }
