-- Which entries may stand in a history.
use Rattle.std.specs.Prelude.{nat_le, Bool, true, ◌&&◌, Option, Some, None}
use Rattle.std.specs.List.{list_all}
use Rattle.sd_call.specs.Requests.{well_formed}
use Rattle.mdns_history.specs.declared.mark.Mark.{Mark}
use Rattle.mdns_history.specs.declared.mark.Mark.TheVariants as mark
use Rattle.mdns_history.specs.declared.entry.Entry.{Entry}
use Rattle.mdns_history.specs.Sessions.{Accepted, accepted_in}
use Rattle.mdns_history.specs.Claims.{greatest_number}
use Rattle.mdns_history.specs.Fitting.{last_moment}

-- the request of a call that was answered with code 0 is well formed
abbrev pub is_sound_call : Option Accepted → Bool
is_sound_call None = true
is_sound_call (Some call) = well_formed call.request

-- no number above the greatest is given to a name
abbrev pub is_small : Mark → Bool
is_small (mark.Renamed group number) = nat_le number greatest_number
is_small _ = true

-- An entry may stand in a history where its moment isn't past the last one, the call that it accepted is well formed, and the numbers that it gives are small.
abbrev pub may_stand : Entry → Bool
may_stand entry = nat_le entry.moment last_moment && is_sound_call (accepted_in entry) && list_all is_small entry.marks
