-- The unique records of a group under a name have it.
use Rattle.std.proofs.Common.{◌≡◌, ℕ, ◌==◌, Bool, true, false, cond, ◌&&◌, List, map, refl, ap, ◌∙◌, Option, Some, None}
use Rattle.std.specs.List.{list_all}
use Rattle.std.specs.Option.{option_and_then, option_to_list}
use Rattle.dns_name.specs.Names.{folded_eq}
use Rattle.dns_name.proofs.Folding.{folded_eq-tells}
use Rattle.dns_record.specs.declared.record.Rdata.TheVariants.{Aaaa}
use Rattle.mdns_history.specs.declared.config.Config.{Config}
use Rattle.mdns_history.specs.Groups.{Group, unique_record, host_ttl, address_records, service_unique}
use Rattle.dns_record.specs.declared.record.Rr.{Rr}
use Rattle.mdns_probe.specs.Kept.{Kept, name_of}
use Rattle.mdns_probe.specs.Naming.{unique_named}
use Rattle.mdns_claimants.specs.Named.{IsNamed}

itself : (name : List (List ℕ)) → folded_eq name name ≡ true
itself name = (folded_eq-tells name name).1 refl

pub named_unique : (config : Config) (host : List (List ℕ)) (group : Group) (name : List (List ℕ)) (txt : List ℕ) → list_all (λ rr. folded_eq rr.owner name) (unique_named config host group name txt) ≡ true
named_unique config host group name txt = of (group.id == 0)
  where
    addresses : (o : Option ℕ) → (folded_eq name name && list_all (λ rr. folded_eq rr.owner name) (map (λ v6. unique_record name host_ttl (Aaaa v6)) (option_to_list o))) ≡ true
    addresses None = ap (λ b. b && true) (itself name)
    addresses (Some v6) = λ i. itself name i && (itself name i && true)

    of : (b : Bool) → list_all (λ rr. folded_eq rr.owner name) (cond b (address_records name config) (service_unique name group.port txt host)) ≡ true
    of true = addresses (option_and_then (λ host. host.v6) config.host)
    of false = λ i. itself name i && (itself name i && true)

pub is_named : (one : Kept) (config : Config) (host : List (List ℕ)) (name : List (List ℕ)) (txt : List ℕ) → one.claim.unique ≡ unique_named config host one.group name txt → name ≡ name_of one → IsNamed one
is_named one config host name txt unique named =
    ap (λ (rrs : List Rr). list_all (λ rr. folded_eq rr.owner (name_of one)) rrs) (unique ∙ ap (λ n. unique_named config host one.group n txt) named)
    ∙ named_unique config host one.group (name_of one) txt
