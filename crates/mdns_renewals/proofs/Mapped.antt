-- Unique records whose types stand in a bitmap: of renewals, and of those that are made.
use Rattle.std.proofs.Common.{◌≡◌, ℕ, ◌==◌, Bool, true, false, cond, List, [], ◌∷◌, ◌++◌, map, Option, Some, None, refl}
use Rattle.std.specs.List.{list_all}
use Rattle.std.specs.Option.{option_and_then, option_to_list}
use Rattle.dns_record.specs.declared.record.Rdata.TheVariants.{A, Aaaa}
use Rattle.sd_service.specs.Bitmaps.{have_bitmap}
use Rattle.mdns_history.specs.declared.config.Config.{Config}
use Rattle.mdns_history.specs.Groups.{Group, unique_record, host_ttl, address_records, service_unique}
use Rattle.mdns_probe.specs.Naming.{unique_named}
use Rattle.mdns_claimants.specs.declared.renewal.Renewal.{Renewal}
use Rattle.mdns_claimants.specs.Typed.{is_mapped}
use Rattle.mdns_renewals.proofs.Pushed.{push_passes}

-- one renewal more
pub mapped_push : (renewals after : List (Option Renewal)) (renewal : Option Renewal) → after ≡ renewals ++ renewal ∷ [] → list_all is_mapped renewals ≡ true → is_mapped renewal ≡ true → list_all is_mapped after ≡ true
mapped_push renewals after renewal put h k = push_passes is_mapped renewals after renewal put h k

-- the unique records that are made
pub unique_mapped : (config : Config) (host : List (List ℕ)) (group : Group) (name : List (List ℕ)) (txt : List ℕ) → have_bitmap (unique_named config host group name txt) ≡ true
unique_mapped config host group name txt = of (group.id == 0)
  where
    addresses : (o : Option ℕ) → have_bitmap (unique_record name host_ttl (A config.address) ∷ map (λ v6. unique_record name host_ttl (Aaaa v6)) (option_to_list o)) ≡ true
    addresses None = refl
    addresses (Some v6) = refl

    of : (b : Bool) → have_bitmap (cond b (address_records name config) (service_unique name group.port txt host)) ≡ true
    of true = addresses (option_and_then (λ host. host.v6) config.host)
    of false = refl
