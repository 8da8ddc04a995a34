-- No record that is the daemon's to send has a greater TTL than own records have.
use Rattle.std.proofs.Common.{◌≡◌, ℕ, ◌≤◌, ◌==◌, ◌⊎◌, inl, inr, Bool, true, false, cond, List, [], ◌∷◌, map, refl, ap, arith}
use Rattle.std.specs.List.{flat_map}
use Rattle.std.specs.Option.{option_and_then, option_to_list}
use Rattle.dns_record.specs.declared.record.Rdata.TheVariants.{Aaaa, Ptr}
use Rattle.dns_record.specs.declared.record.Rr.{Rr}
use Rattle.dns_record.specs.Records.{record_cmp}
use Rattle.sd_name.specs.ServiceTypes.{ServiceType, subtype_name, types_name}
use Rattle.mdns_history.specs.declared.config.Config.{Config}
use Rattle.mdns_history.specs.declared.entry.Entry.{Entry}
use Rattle.mdns_history.specs.History.{config_of}
use Rattle.mdns_history.specs.Sessions.{present_txt}
use Rattle.mdns_history.specs.Groups.{Group, group_name, host_name, unique_record, shared_record, host_ttl, other_ttl, address_records, service_unique, service_shared, unique_records, shared_records, group_records}
use Rattle.mdns_history.specs.Sureness.{sure_groups, own_records}
use Rattle.mdns_history.specs.Debts.{nsec_record}
use Rattle.mdns_reply.specs.Lasts.{most_ttl}
use Rattle.mdns_asserts.proofs.Elements.{In, of_append, of_map, of_flat_map, of_ordered}
use Rattle.mdns_debts.specs.Following.{own_in}
use Rattle.mdns_debts.specs.Keeping.{HaveOwnTtls, OursHaveOwnTtls}

have_ttls : (rrs : List Rr) → ((rr : Rr) → In rr rrs → rr.ttl ≤ most_ttl) → HaveOwnTtls rrs
have_ttls [] h = tt
have_ttls (rr ∷ rrs) h = (h rr (inl refl), have_ttls rrs (λ r m. h r (inr m)))

-- records by what they are
is_low : (rr : Rr) (ttl : ℕ) → rr.ttl ≡ ttl → ttl ≤ 4500 → rr.ttl ≤ most_ttl
is_low rr ttl e l = omega (arith, e, l)

of_addresses : (name : List (List ℕ)) (config : Config) (rr : Rr) → In rr (address_records name config) → rr.ttl ≤ most_ttl
of_addresses name config rr (inl e) = is_low rr 120 (ap (λ r. r.ttl) e) (omega arith)
of_addresses name config rr (inr m) =
    let found : (v6 : ℕ) × In v6 (option_to_list (option_and_then (λ host. host.v6) config.host)) × (rr ≡ unique_record name host_ttl (Aaaa v6)) =
    of_map (λ v6. unique_record name host_ttl (Aaaa v6)) rr (option_to_list (option_and_then (λ host. host.v6) config.host)) m in
    is_low rr 120 (ap (λ r. r.ttl) found.2) (omega arith)

of_service : (name : List (List ℕ)) (port : ℕ) (txt : List ℕ) (target : List (List ℕ)) (rr : Rr) → In rr (service_unique name port txt target) → rr.ttl ≤ most_ttl
of_service name port txt target rr (inl e) = is_low rr 4500 (ap (λ r. r.ttl) e) (omega arith)
of_service name port txt target rr (inr (inl e)) = is_low rr 120 (ap (λ r. r.ttl) e) (omega arith)
of_service name port txt target rr (inr (inr m)) = absurd m

of_unique : (group : Group) (history : List Entry) (rr : Rr) → In rr (unique_records group history) → rr.ttl ≤ most_ttl
unfolding unique_records
of_unique group history rr m = of (group.id == 0) m
  where
    of : (b : Bool) →
        In rr (cond b (flat_map (address_records (group_name group history)) (option_to_list (config_of history))) (service_unique (group_name group history) group.port (present_txt group.session group.op history) (host_name history))) →
        rr.ttl ≤ most_ttl
    of true n =
        let found : (config : Config) × In config (option_to_list (config_of history)) × In rr (address_records (group_name group history) config) =
        of_flat_map (address_records (group_name group history)) rr (option_to_list (config_of history)) n in
        of_addresses (group_name group history) found.0 rr found.2
    of false n = of_service (group_name group history) group.port (present_txt group.session group.op history) (host_name history) rr n

of_service_shared : (name : List (List ℕ)) (type : ServiceType) (rr : Rr) → In rr (service_shared name type) → rr.ttl ≤ most_ttl
of_service_shared name type rr m =
    of (of_ordered record_cmp rr (shared_record type.name other_ttl (Ptr name) ∷ shared_record types_name other_ttl (Ptr type.name) ∷ map (λ subtype. shared_record (subtype_name subtype type) other_ttl (Ptr name)) type.subtypes) m)
  where
    of : In rr (shared_record type.name other_ttl (Ptr name) ∷ shared_record types_name other_ttl (Ptr type.name) ∷ map (λ subtype. shared_record (subtype_name subtype type) other_ttl (Ptr name)) type.subtypes) → rr.ttl ≤ most_ttl
    of (inl e) = is_low rr 4500 (ap (λ r. r.ttl) e) (omega arith)
    of (inr (inl e)) = is_low rr 4500 (ap (λ r. r.ttl) e) (omega arith)
    of (inr (inr n)) =
        let found : (subtype : List ℕ) × In subtype type.subtypes × (rr ≡ shared_record (subtype_name subtype type) other_ttl (Ptr name)) =
        of_map (λ subtype. shared_record (subtype_name subtype type) other_ttl (Ptr name)) rr type.subtypes n in
        is_low rr 4500 (ap (λ r. r.ttl) found.2) (omega arith)

of_shared : (group : Group) (history : List Entry) (rr : Rr) → In rr (shared_records group history) → rr.ttl ≤ most_ttl
unfolding shared_records
of_shared group history rr m = of (group.id == 0) m
  where
    of : (b : Bool) → In rr (cond b [] (service_shared (group_name group history) group.type)) → rr.ttl ≤ most_ttl
    of true n = absurd n
    of false n = of_service_shared (group_name group history) group.type rr n

of_group : (group : Group) (history : List Entry) (rr : Rr) → In rr (group_records group history) → rr.ttl ≤ most_ttl
unfolding group_records
of_group group history rr m = of (of_append rr (unique_records group history) (shared_records group history) m)
  where
    of : In rr (unique_records group history) ⊎ In rr (shared_records group history) → rr.ttl ≤ most_ttl
    of (inl n) = of_unique group history rr n
    of (inr n) = of_shared group history rr n

of_own : (history : List Entry) (rr : Rr) → In rr (own_records history) → rr.ttl ≤ most_ttl
unfolding own_records
of_own history rr m =
    let found : (group : Group) × In group (sure_groups history) × In rr (group_records group history) = of_flat_map (λ group. group_records group history) rr (sure_groups history) m in
    of_group found.0 history rr found.2

of_names : (history : List Entry) (rr : Rr) → In rr (own_in history).names → rr.ttl ≤ most_ttl
unfolding nsec_record
of_names history rr m =
    let found : (group : Group) × In group (sure_groups history) × (rr ≡ nsec_record (group_name group history) (unique_records group history)) =
    of_map (λ group. nsec_record (group_name group history) (unique_records group history)) rr (sure_groups history) m in
    is_low rr 120 (ap (λ r. r.ttl) found.2) (omega arith)

-- What is the daemon's to send has such TTLs.
pub ours_have_own_ttls : OursHaveOwnTtls
ours_have_own_ttls history = (have_ttls (own_in history).records (of_own history), have_ttls (own_in history).names (of_names history))
