-- The unique records of a group have its name, and which records clash with them.
use Rattle.std.proofs.Common.{◌≡◌, ℕ, ◌==◌, Bool, true, false, cond, ◌&&◌, ◌||◌, List, [], ◌∷◌, ◌++◌, map, refl, Option, Some, None}
use Rattle.std.specs.List.{list_all, flat_map}
use Rattle.std.specs.Option.{option_and_then, option_to_list}
use Rattle.std.proofs.lemmas.List.Folds.{list_any-append}
use Rattle.dns_name.specs.Names.{folded_eq}
use Rattle.dns_name.proofs.Folding.{folded_eq-tells}
use Rattle.dns_record.specs.declared.record.Rdata.TheVariants.{A, Aaaa}
use Rattle.dns_record.specs.declared.record.Rr.{Rr}
use Rattle.dns_record.specs.Conflicts.{clashes, record_clashes}
use Rattle.mdns_history.specs.declared.config.Config.{Config}
use Rattle.mdns_history.specs.declared.entry.Entry.{Entry}
use Rattle.mdns_history.specs.History.{config_of}
use Rattle.mdns_history.specs.Sessions.{present_txt}
use Rattle.mdns_history.specs.Groups.{Group, group_name, host_name, unique_records, unique_record, host_ttl, address_records, service_unique}

itself : (name : List (List ℕ)) → folded_eq name name ≡ true
itself name = (folded_eq-tells name name).1 refl

-- all of them have it
pub unique_named : (group : Group) (history : List Entry) → list_all (λ rr. folded_eq rr.owner (group_name group history)) (unique_records group history) ≡ true
unfolding unique_records
unique_named group history = of (group_name group history) (group.id == 0)
  where
    addresses : (name : List (List ℕ)) (address : ℕ) (o : Option ℕ) →
        list_all (λ rr. folded_eq rr.owner name) ((unique_record name host_ttl (A address) ∷ map (λ v6. unique_record name host_ttl (Aaaa v6)) (option_to_list o)) ++ []) ≡ true
    addresses name address None = λ i. itself name i && true
    addresses name address (Some v6) = λ i. itself name i && (itself name i && true)

    host : (name : List (List ℕ)) (o : Option Config) → list_all (λ rr. folded_eq rr.owner name) (flat_map (address_records name) (option_to_list o)) ≡ true
    host name None = refl
    host name (Some config) = addresses name config.address (option_and_then (λ one. one.v6) config.host)

    of : (name : List (List ℕ)) (b : Bool) → list_all (λ rr. folded_eq rr.owner name)
        (cond b (flat_map (address_records name) (option_to_list (config_of history))) (service_unique name group.port (present_txt group.session group.op history) (host_name history))) ≡ true
    of name true = host name (config_of history)
    of name false = λ i. itself name i && (itself name i && true)

-- no record clashes where there is none
pub no_clashes : (name : List (List ℕ)) (unique : List Rr) → clashes name unique [] ≡ false
unfolding clashes
no_clashes name unique = refl

-- one of two lists of records clashes
pub clashes_both : (name : List (List ℕ)) (unique some more : List Rr) → clashes name unique (some ++ more) ≡ (clashes name unique some || clashes name unique more)
unfolding clashes
clashes_both name unique some more = list_any-append (record_clashes name unique) some more
