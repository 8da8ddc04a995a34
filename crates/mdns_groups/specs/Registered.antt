-- Which live groups there are: the host's, and one of each live registration that hasn't failed. (RFC 6762 9, RFC 6763 4 to 7)
use Rattle.std.specs.Prelude.{◌≡◌, ℕ, ◌+◌, ◌*◌, ◌≤◌, ◌==◌, Bool, true, false, ◌&&◌, ◌||◌, List, [], ◌∷◌, map, length, filter, Option, Some, None, if◌then◌else◌}
use Rattle.std.specs.List.{list_all, list_any}
use Rattle.std.specs.Option.{option_map_or}
use Rattle.sd_call.specs.Requests.{is_register}
use Rattle.mdns_history.specs.declared.entry.Entry.{Entry}
use Rattle.mdns_history.specs.InForce.{Duties}
use Rattle.mdns_history.specs.History.{last_at, has_mark}
use Rattle.mdns_history.specs.Sessions.{operation_request}
use Rattle.mdns_history.specs.Groups.{Group, Registration, groups, registration_in, registered_count, is_failure_of}
use Rattle.mdns_history.specs.Outcomes.{most_sessions, most_operations}
use Rattle.mdns_history.specs.Fitting.{IsLegal}

-- whether a group is that of an operation
abbrev pub is_of : ℕ → ℕ → Group → Bool
is_of session op group = (group.session == session) && (group.op == op)

-- the live groups of an operation
abbrev pub groups_of : ℕ → ℕ → List Entry → List Group
groups_of session op history = filter (is_of session op) (groups history)

-- whether an operation is a live registration
abbrev pub is_registration : ℕ → ℕ → List Entry → Bool
is_registration session op history = option_map_or is_register (operation_request session op history) false

-- whether a registration, if there is one, is that of an operation
abbrev pub is_registered_by : ℕ → ℕ → Option Registration → Bool
is_registered_by session op None = false
is_registered_by session op (Some r) = (r.session == session) && (r.op == op)

-- the number of the group that began with an entry, where that registered this operation
abbrev pub number_begun : ℕ → ℕ → Entry → List Entry → Option ℕ
number_begun session op entry past = if is_registered_by session op (registration_in entry) then Some (registered_count past + 1) else None

-- the number of the group that began with the last registration of an operation
abbrev pub number_of_registration : ℕ → ℕ → List Entry → Option ℕ
number_of_registration session op history = last_at (number_begun session op) history

-- whether a group has a mark Failed. No number is given to two groups.
abbrev pub has_failed : ℕ → List Entry → Bool
has_failed id history = list_any (has_mark (is_failure_of id)) history

-- the live groups of a registration whose group began under a number: that one, until it failed
abbrev pub numbers_left : ℕ → List Entry → List ℕ
numbers_left number history = if has_failed number history then [] else number ∷ []

-- An operation has at most one live group. Each live group but the host's is that of a live registration. And a live registration has the one group
-- that began with it, or none where that failed.
pub record AreRegistered (history : List Entry) : Type 0 where
  pub one : (session op : ℕ) → length (groups_of session op history) ≤ 1
  pub owned : list_all (λ group. (group.id == 0) || is_registration group.session group.op history) (groups history) ≡ true
  pub registered : (session op : ℕ) → is_registration session op history ≡ true →
      (number : ℕ) × (number_of_registration session op history ≡ Some number) × (map (λ group. group.id) (groups_of session op history) ≡ numbers_left number history)

-- the law that so it is in each legal history
abbrev pub HaveGroups : Type 0
HaveGroups = (duties : Duties) (history : List Entry) → IsLegal duties history → AreRegistered history

-- The law that a legal history has no more live groups than its sessions may have operations, and the host's.
abbrev pub GroupsAreFew : Type 0
GroupsAreFew = (duties : Duties) (history : List Entry) → IsLegal duties history → length (groups history) ≤ most_sessions * most_operations + 1
