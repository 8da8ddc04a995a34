-- Which operations ask for a name.
use Rattle.std.specs.Prelude.{ℕ, ◌==◌, Bool, ◌&&◌, List, [], ◌∷◌, if◌then◌else◌}
use Rattle.std.specs.List.{list_any, flat_map}
use Rattle.std.specs.Str.{bytes_eq}
use Rattle.dns_record.specs.declared.record.Key.{Key}
use Rattle.sd_call.specs.declared.request.Request.{Request}
use Rattle.mdns_history.specs.Questions.{keys_of}
use Rattle.by_name.specs.At.{At, owner_of}
use Rattle.sd_index.specs.declared.asker.Asker.{Asker}

-- two are one operation
abbrev pub asker_eq : Asker → Asker → Bool
asker_eq one other = (one.session == other.session) && (one.op == other.op)

-- the operation of an entry, if it is filed under a name, which is written as places have it
abbrev pub asker_of : List ℕ → At × Asker → List Asker
asker_of owner entry = if bytes_eq owner entry.0.owner then entry.1 ∷ [] else []

-- the operations that are filed under a name
abbrev pub askers_of : List ℕ → List (At × Asker) → List Asker
askers_of owner entries = flat_map (asker_of owner) entries

-- whether a request asks for a name
abbrev pub asks : List ℕ → Request → Bool
asks owner request = list_any (λ (key : Key). bytes_eq owner (owner_of key.name)) (keys_of request)

-- an operation, if its request asks for a name
abbrev pub if_asks : List ℕ → Request → Asker → List Asker
if_asks owner request asker = if asks owner request then asker ∷ [] else []
