use Rattle.std.proofs.Common.{◌-◌, ◌*◌, length}
use Rattle.mdns_cache.proofs.ended.+put_ended.Given as goal

abbrev pub decreases-put_ended : goal.decreases-put_ended
decreases-put_ended l = 2 * length l.nodes.now - l.node
