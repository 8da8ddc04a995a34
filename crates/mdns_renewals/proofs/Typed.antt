-- Records whose data are as their types allow: of renewals, and of those that are made.
use Rattle.std.proofs.Common.{◌≡◌, ℕ, ◌==◌, Bool, true, cond, ◌&&◌, List, [], ◌∷◌, ◌++◌, map, false, refl, Option, Some, None}
use Rattle.std.specs.List.{list_all}
use Rattle.std.specs.Option.{option_and_then, option_to_list}
use Rattle.lists.proofs.InOrder.{all-ordered}
use Rattle.dns_record.proofs.Same.{record_cmp_total}
use Rattle.dns_record.specs.declared.record.Rdata.TheVariants.{Aaaa, Ptr}
use Rattle.dns_record.specs.declared.record.Rr.{Rr}
use Rattle.dns_record.specs.Records.{record_cmp}
use Rattle.sd_name.specs.ServiceTypes.{ServiceType, types_name, subtype_name}
use Rattle.mdns_history.specs.declared.config.Config.{Config}
use Rattle.mdns_history.specs.Groups.{Group, unique_record, host_ttl, address_records, service_unique, service_shared, shared_record, other_ttl}
use Rattle.mdns_probe.specs.Naming.{unique_named, shared_named}
use Rattle.mdns_claimants.specs.declared.renewal.Renewal.{Renewal}
use Rattle.mdns_claimants.specs.Typed.{is_typed, is_plain, are_plain}
use Rattle.mdns_renewals.proofs.Pushed.{push_passes}

-- one renewal more
pub typed_push : (renewals after : List (Option Renewal)) (renewal : Option Renewal) → after ≡ renewals ++ renewal ∷ [] → list_all is_typed renewals ≡ true → is_typed renewal ≡ true → list_all is_typed after ≡ true
typed_push renewals after renewal put h k = push_passes is_typed renewals after renewal put h k

-- the records that are made have data with variants of their own

pub unique_plain : (config : Config) (host : List (List ℕ)) (group : Group) (name : List (List ℕ)) (txt : List ℕ) → are_plain (unique_named config host group name txt) ≡ true
unique_plain config host group name txt = of (group.id == 0)
  where
    addresses : (o : Option ℕ) → (true && are_plain (map (λ v6. unique_record name host_ttl (Aaaa v6)) (option_to_list o))) ≡ true
    addresses None = refl
    addresses (Some v6) = refl

    of : (b : Bool) → are_plain (cond b (address_records name config) (service_unique name group.port txt host)) ≡ true
    of true = addresses (option_and_then (λ host. host.v6) config.host)
    of false = refl

subtypes_plain : (name : List (List ℕ)) (type : ServiceType) (subtypes : List (List ℕ)) → are_plain (map (λ subtype. shared_record (subtype_name subtype type) other_ttl (Ptr name)) subtypes) ≡ true
subtypes_plain name type [] = refl
subtypes_plain name type (subtype ∷ subtypes) = subtypes_plain name type subtypes

pub shared_plain : (group : Group) (name : List (List ℕ)) → are_plain (shared_named group name) ≡ true
shared_plain group name = of (group.id == 0)
  where
    of : (b : Bool) → are_plain (cond b [] (service_shared name group.type)) ≡ true
    of true = refl
    of false =
        all-ordered record_cmp record_cmp_total (λ (rr : Rr). is_plain rr.rdata)
        (shared_record group.type.name other_ttl (Ptr name) ∷ shared_record types_name other_ttl (Ptr group.type.name) ∷ map (λ subtype. shared_record (subtype_name subtype group.type) other_ttl (Ptr name)) group.type.subtypes)
        (subtypes_plain name group.type group.type.subtypes)
