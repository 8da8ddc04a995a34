use Rattle.std.proofs.Common.{◌≡◌, take}
use Rattle.std.specs.List.{flat_map}
use Rattle.mdns_known.specs.Known.{listed_of}
use Rattle.mdns_asking.specs.ByWalks.{later_of}
use Rattle.mdns_asking.proofs.queries.all_known.Given as goal

abbrev pub invariant-loop-key : goal.invariant-loop-key
invariant-loop-key l = l.all.items ≡ flat_map (λ key. listed_of key (later_of key.name l.walks) l.now) (take l.key-index l.keys)
