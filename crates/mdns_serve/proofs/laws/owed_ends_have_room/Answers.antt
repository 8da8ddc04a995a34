-- It is a law of turns.
use Rattle.mdns_serve.proofs.OwedRoom as rooms
use Rattle.mdns_serve.proofs.laws.owed_ends_have_room.Goals as goal

pub returns : goal.returns
returns c = rooms.owed_ends_have_room
