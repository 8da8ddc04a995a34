-- The records that questions ask for. (RFC 6762 6)
use Rattle.std.specs.Prelude.{◌≡◌, ℕ, Bool, false, List, [], ◌∷◌, ◌++◌, filter, Option, Some, None, IfSome, if◌then◌else◌}
use Rattle.std.specs.List.{list_any}
use Rattle.std.specs.Map.{lookup}
use Rattle.std.specs.Option.{option_map}
use Rattle.dns_record.specs.declared.record.Key.{Key}
use Rattle.dns_record.specs.declared.record.Question.{Question}
use Rattle.dns_record.specs.declared.record.Rr.{Rr}
use Rattle.dns_record.specs.Records.{any_kind, key_eq, matches}
use Rattle.by_name.specs.At.{At, at, at_eq, owner_of}

-- what a question asks for: its name and its type
abbrev pub key_of : Question → Key
key_of question = record { name = question.name; kind = question.kind }

-- a question by its folded name and its type
abbrev pub place_of : Question → At
place_of question = at (owner_of question.name) question.kind

-- What contracts see: each question that is asked, with its records.
abbrev pub Contents : Type 0
Contents = List (At × List Rr)

-- the records of a question, if it is asked
abbrev pub records_of : Question → Contents → Option (List Rr)
records_of question listed = lookup (at_eq (place_of question)) listed

-- whether a question asks for what one of these asks for
abbrev pub is_asked : List Question → Question → Bool
is_asked questions question = list_any (λ one. key_eq (key_of question) (key_of one)) questions

-- Each of these questions has, of these records, those that match it, in their order; no other question is asked.
abbrev pub AreOf : List Question → List Rr → Contents → Type 0
AreOf questions rrs listed =
    (question : Question) → records_of question listed ≡ (if is_asked questions question then Some (filter (matches (key_of question)) rrs) else None)

-- Records were put behind those that each question had: of each the ones that match it, in their order.
abbrev pub IsPut : List Rr → Contents → Contents → Type 0
IsPut rrs before after = (question : Question) → records_of question after ≡ option_map (λ had. had ++ filter (matches (key_of question)) rrs) (records_of question before)

-- records with one more behind them, where it is to be put
abbrev pub with_one : Bool → Rr → Option (List Rr) → Option (List Rr)
with_one is_put rr before = if is_put then option_map (λ rrs. rrs ++ rr ∷ []) before else before

-- the question for all records of a name
abbrev pub any_for : List (List ℕ) → Question
any_for name = record { name = name; kind = any_kind; unicast = false }

-- The records of each question that is asked are those of these that match it.
abbrev pub AreRight : List Rr → Contents → Type 0
AreRight rrs asked = (question : Question) → IfSome (records_of question asked) (λ found. found ≡ filter (matches (key_of question)) rrs)
