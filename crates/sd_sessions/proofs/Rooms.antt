-- The room of sessions, as contracts see it and as it is kept.
use Rattle.std.proofs.Common.{ℕ, ◌-◌, ◌<◌, List, [], ◌∷◌, map, vec_len, vec_capacity, arith}
use Rattle.sd_sessions.specs.declared.session.SessionState.{SessionState}
use Rattle.sd_sessions.specs.declared.change.SessionChange.{SessionChange}
use Rattle.sd_sessions.specs.Kept.{HasRoom, HavePlaces, HaveRoom}

-- for how many more operations a session has room
abbrev pub spare_of : SessionState → ℕ
spare_of one = vec_capacity one.operations - vec_len one.operations

pub room-seen : (states : List SessionState) (changes : List SessionChange) → HaveRoom states changes → HasRoom (map (λ one. one.outbox.spare) states) changes
room-seen [] changes room = tt
room-seen (state ∷ states) [] room = tt
room-seen (state ∷ states) (change ∷ changes) room = (room.0.queue, room-seen states changes room.1)

pub places-seen : (states : List SessionState) (changes : List SessionChange) → HaveRoom states changes → HavePlaces (map spare_of states) changes
places-seen [] changes room = tt
places-seen (state ∷ states) [] room = tt
places-seen (state ∷ states) (change ∷ changes) room =
    ((λ calls. let less : vec_len state.operations < vec_capacity state.operations = room.0.place calls in omega arith), places-seen states changes room.1)

pub room-kept : (states : List SessionState) (changes : List SessionChange) → HasRoom (map (λ one. one.outbox.spare) states) changes → HavePlaces (map spare_of states) changes →
    HaveRoom states changes
room-kept [] changes room places = tt
room-kept (state ∷ states) [] room places = tt
room-kept (state ∷ states) (change ∷ changes) room places = (
  record {
    queue = room.0;
    place = λ calls. let more : 0 < vec_capacity state.operations - vec_len state.operations = places.0 calls in omega arith;
  },
  room-kept states changes room.1 places.1,
)
