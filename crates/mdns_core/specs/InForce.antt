-- Which duties of a Multicast DNS host this daemon has: all of them. It is said here alone.
use Rattle.std.specs.Prelude.{true}
use Rattle.mdns_history.specs.InForce.{Duties}

-- the duties that the daemon has: it asks the questions of its operations, claims names, announces what it claims, and replies to queries
unfoldable pub in_force : Duties
in_force = record { asking = true; claiming = true; announcing = true; replying = true }
