-- Which questions are active: those of the live operations. (RFC 6762 5.2, RFC 6763 4, 5 and 7.1)
use Rattle.std.specs.Prelude.{ℕ, ◌==◌, Bool, not, ◌&&◌, List, [], ◌∷◌, Option, Some, None, if◌then◌else◌}
use Rattle.std.specs.List.{list_any, find, flat_map, filter_map}
use Rattle.std.specs.Option.{option_map, option_and_then}
use Rattle.lists.specs.Lists.{ordered}
use Rattle.dns_record.specs.declared.record.Key.{Key}
use Rattle.dns_record.specs.Records.{key_eq, key_cmp}
use Rattle.sd_name.specs.ServiceTypes.{ServiceType, service_type, subtype_name, instance_name}
use Rattle.sd_call.specs.declared.request.Request.{Request}
use Rattle.sd_call.specs.declared.request.Request.TheVariants as request
use Rattle.mdns_history.specs.declared.entry.Entry.{Entry}
use Rattle.mdns_history.specs.History.{last_at}
use Rattle.mdns_history.specs.Sessions.{operations, accepted_in}

-- a question of a type and a name
abbrev pub key_of : ℕ → List (List ℕ) → Key
key_of kind name = record { name = name; kind = kind }

-- the addresses asked for: IPv4 by 1, IPv6 by 2, both by 3
abbrev pub address_keys : ℕ → List (List ℕ) → List Key
address_keys families name = if families == 1 then key_of 1 name ∷ [] else if families == 2 then key_of 28 name ∷ [] else key_of 1 name ∷ key_of 28 name ∷ []

-- where a type is browsed: at its first subtype, if it has one
abbrev pub browsed_name : List (List ℕ) → ServiceType → List (List ℕ)
browsed_name [] type = type.name
browsed_name (subtype ∷ more) type = subtype_name subtype type

-- the question of a browse
abbrev pub browse_keys : Option ServiceType → List Key
browse_keys None = []
browse_keys (Some type) = key_of 12 (browsed_name type.subtypes type) ∷ []

-- the questions of a resolve: SRV and TXT of the instance
abbrev pub resolve_keys : List ℕ → Option ServiceType → List Key
resolve_keys label None = []
resolve_keys label (Some type) = key_of 33 (instance_name label type) ∷ key_of 16 (instance_name label type) ∷ []

-- the questions of a request
unfoldable pub keys_of : Request → List Key
keys_of (request.Query kind name) = key_of kind name ∷ []
keys_of (request.Address families name) = address_keys families name
keys_of (request.Browse regtype) = browse_keys (service_type regtype)
keys_of (request.Resolve label regtype) = resolve_keys label (service_type regtype)
keys_of _ = []

-- whether a live operation asks a question
unfoldable pub is_active : Key → List Entry → Bool
is_active question history = list_any (λ operation. list_any (key_eq question) (keys_of operation.request)) (operations history)

-- whether a question gets its first operation with an entry
abbrev pub begins_asking : Key → Entry → List Entry → Bool
begins_asking question entry past = is_active question (entry ∷ past) && not (is_active question past)

-- an active question: as its first operation spells it, and the moment and the word with which it began
pub record Active : Type 0 where
  pub key : Key
  pub start : ℕ
  pub word : ℕ

-- a question that became active with an entry
abbrev pub active_from : Entry → Key → Active
active_from entry key = record { key = key; start = entry.moment; word = entry.word }

-- a question as the call of an entry spells it, where it begins with that entry
abbrev pub begun_with : Key → Entry → List Entry → Option Active
begun_with question entry past =
    if begins_asking question entry past then option_map (active_from entry) (option_and_then (λ call. find (key_eq question) (keys_of call.request)) (accepted_in entry)) else None

-- the active questions, by folded name and then by type
unfoldable pub active_questions : List Entry → List Active
active_questions history =
    filter_map (λ question. last_at (begun_with question) history) (ordered key_cmp (flat_map (λ operation. keys_of operation.request) (operations history)))
