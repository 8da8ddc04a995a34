-- Which names are put behind others: such as pass a test, and none twice.
use Rattle.std.specs.Prelude.{◌≡◌, ℕ, Bool, true, false, ◌||◌, List, Option, Some, None}
use Rattle.std.specs.List.{list_any, IsDistinct}
use Rattle.dns_name.specs.Names.{folded_eq}
use Rattle.dns_record.specs.declared.record.Key.{Key}
use Rattle.mdns_history.specs.Questions.{keys_of}
use Rattle.mdns_history.specs.Sessions.{Accepted}
use Rattle.mdns_cache.specs.Ended.{is_among}

-- a name is that of a question, case aside
abbrev pub is_name_of : List (List ℕ) → Key → Bool
is_name_of name key = folded_eq name key.name

-- a name is that of one of these questions
abbrev pub is_name_in : List Key → List (List ℕ) → Bool
is_name_in keys name = list_any (is_name_of name) keys

-- a name is that of a question that an accepted call asks
abbrev pub is_called : Option Accepted → List (List ℕ) → Bool
is_called None name = false
is_called (Some call) name = is_name_in (keys_of call.request) name

-- the names that were put behind others pass a test
abbrev pub ArePutOnly : (List (List ℕ) → Bool) → List (List (List ℕ)) → List (List (List ℕ)) → Type 0
ArePutOnly test names more = (name : List (List ℕ)) → is_among more name ≡ true → (is_among names name || test name) ≡ true

-- no name is put that is there, case aside
abbrev pub ArePutOnce : List (List (List ℕ)) → List (List (List ℕ)) → Type 0
ArePutOnce names more = IsDistinct folded_eq names → IsDistinct folded_eq more
