-- Which duties of a Multicast DNS host a daemon may have. Whatever it has, it keeps received records, sessions and operations, and gives what they
-- bring; a duty that it lacks gives no marks and sends nothing. Every law of this crate holds for any duties.
use Rattle.std.specs.Prelude.{Bool, true, false, List, []}

-- the duties: to ask questions, to claim names, to announce what is claimed, and to reply to queries (RFC 6762 5, 8.1, 8.3 and 6)
pub record Duties : Type 0 where
  pub asking : Bool
  pub claiming : Bool
  pub announcing : Bool
  pub replying : Bool

-- the duties of the finished daemon: all of them
unfoldable pub all_duties : Duties
all_duties = record { asking = true; claiming = true; announcing = true; replying = true }

-- none of the duties
unfoldable pub no_duties : Duties
no_duties = record { asking = false; claiming = false; announcing = false; replying = false }

-- a list where a duty is there, and nothing where it isn't
abbrev pub only_if : {X : Type 0} → Bool → List X → List X
only_if true xs = xs
only_if false xs = []
