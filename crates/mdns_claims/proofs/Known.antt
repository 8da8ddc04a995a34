-- The groups that are kept tell which records are the daemon's to send.
use Rattle.std.proofs.Common.{◌≡◌, ◌∙◌, ℕ, ◌==◌, nat_le, Bool, true, false, cond, ◌&&◌, ◌||◌, List, [], ◌∷◌, ◌++◌, map, Option, Some, None, refl, ap, sym, lit≤}
use Rattle.std.specs.Prelude.{filter}
use Rattle.std.specs.List.{list_all, list_any, flat_map}
use Rattle.std.specs.Option.{option_and_then, option_to_list}
use Rattle.std.proofs.lemmas.Bool.{and_parts, leb-true}
use Rattle.std.proofs.lemmas.List.Folds.{list_all-append}
use Rattle.dns_name.specs.Names.{folded_eq}
use Rattle.dns_name.proofs.Folding.{folded_eq-equivalence}
use Rattle.lists.proofs.InOrder.{all-ordered}
use Rattle.dns_record.specs.declared.record.Rdata.TheVariants.{A, Aaaa, Ptr}
use Rattle.dns_record.specs.declared.record.Rr.{Rr}
use Rattle.dns_record.specs.Records.{same, data_eq, record_cmp}
use Rattle.dns_record.proofs.Same.{record_cmp_total}
use Rattle.sd_name.specs.ServiceTypes.{types_name, subtype_name}
use Rattle.mdns_history.specs.declared.config.Config.{Config}
use Rattle.mdns_history.specs.declared.config.HostConfig.{HostConfig}
use Rattle.mdns_history.specs.declared.entry.Entry.{Entry}
use Rattle.mdns_history.specs.History.{config_of}
use Rattle.mdns_history.specs.Sessions.{present_txt}
use Rattle.mdns_history.specs.Groups.{Group, groups, group_name, host_name, unique_record, shared_record, host_ttl, other_ttl, address_records, service_unique, service_shared, unique_records, shared_records, group_records}
use Rattle.mdns_history.specs.Sureness.{is_sure, sure_groups, own_records, is_own}
use Rattle.mdns_history.specs.Debts.{nsec_record, is_nsec}
use Rattle.mdns_history.specs.Debts as debts
use Rattle.mdns_probe.specs.declared.claim.Claim.{Claim}
use Rattle.mdns_probe.specs.Standing.{claim_in}
use Rattle.mdns_probe.specs.Kept.{Kept, kept_in, own_of}
use Rattle.mdns_probe.proofs.Reading.{own_records_are}
use Rattle.mdns_claimants.specs.Owned.{own_in, nsec_for, nsecs_in}
use Rattle.mdns_claims.specs.Laws.{HaveOwnTtls, OwnIsKnown, NsecsAreKnown, OursIsKnown, OwnTtlsAreKnown}

pub own_known : OwnIsKnown
own_known contents history stands =
    ap own_in stands.kept
    ∙ ap own_of (sym (claims_kept (groups history)))
    ∙ sym (own_records_are history)
  where
    claims_kept : (gs : List Group) → map (claim_in history) gs ≡ map (λ one. one.claim) (map (kept_in history) gs)
    claims_kept [] = refl
    claims_kept (group ∷ gs) = ap (λ (l : List Claim). claim_in history group ∷ l) (claims_kept gs)

pub nsecs_known : NsecsAreKnown
unfolding sure_groups group_name
nsecs_known contents history stands = ap nsecs_in stands.kept ∙ of (groups history)
  where
    nsec_in : Group → Rr
    nsec_in group = nsec_record (group_name group history) (unique_records group history)

    of : (gs : List Group) → nsecs_in (map (kept_in history) gs) ≡ map nsec_in (filter (λ group. is_sure group history) gs)
    of [] = refl
    of (group ∷ gs) = at (is_sure group history) (of gs)
      where
        at : (b : Bool) → nsecs_in (map (kept_in history) gs) ≡ map nsec_in (filter (λ one. is_sure one history) gs) →
            map nsec_for (cond b (kept_in history group ∷ filter (λ one. one.claim.sure) (map (kept_in history) gs)) (filter (λ one. one.claim.sure) (map (kept_in history) gs)))
            ≡ map nsec_in (cond b (group ∷ filter (λ one. is_sure one history) gs) (filter (λ one. is_sure one history) gs))
        at true rest = ap (λ (l : List Rr). nsec_in group ∷ l) rest
        at false rest = rest

-- the same holds of no record with another name
others_apart : (name : List (List ℕ)) (rr nsec : Rr) → nsec.owner ≡ name → folded_eq name rr.owner ≡ false → same rr nsec ≡ false
unfolding same
others_apart name rr nsec owner apart =
    ap (λ (b : Bool). b && data_eq rr.rdata nsec.rdata) (ap (folded_eq rr.owner) owner ∙ sym (folded_eq-equivalence.symm name rr.owner) ∙ apart)

pub ours_known : OursIsKnown
unfolding debts.is_ours is_own nsec_record
ours_known contents history stands rr =
    λ i. cond (is_nsec rr) ((ap (list_any (same rr)) (nsecs_known contents history stands) ∙ of (sure_groups history)) i) (list_any (same rr) (own_known contents history stands i))
  where
    nsec_in : Group → Rr
    nsec_in group = nsec_record (group_name group history) (unique_records group history)

    of : (gs : List Group) → list_any (same rr) (map nsec_in gs) ≡ list_any (same rr) (map nsec_in (filter (λ group. folded_eq (group_name group history) rr.owner) gs))
    of [] = refl
    of (group ∷ gs) = at (folded_eq (group_name group history) rr.owner) refl (of gs)
      where
        named : Group → Bool
        named one = folded_eq (group_name one history) rr.owner

        at : (b : Bool) → named group ≡ b → list_any (same rr) (map nsec_in gs) ≡ list_any (same rr) (map nsec_in (filter named gs)) →
            (same rr (nsec_in group) || list_any (same rr) (map nsec_in gs)) ≡ list_any (same rr) (map nsec_in (cond b (group ∷ filter named gs) (filter named gs)))
        at true e rest = ap (λ (b : Bool). same rr (nsec_in group) || b) rest
        at false e rest = ap (λ (b : Bool). b || list_any (same rr) (map nsec_in gs)) (others_apart (group_name group history) rr (nsec_in group) refl e) ∙ rest

-- whether a TTL is no greater than those of own records
abbrev is_short : Rr → Bool
is_short rr = nat_le rr.ttl other_ttl

both : (a b : Bool) → a ≡ true → b ≡ true → (a && b) ≡ true
both true true h k = refl
both false b h k = cc
both true false h k = cc

have_ttls : (rrs : List Rr) → list_all is_short rrs ≡ true → HaveOwnTtls rrs
have_ttls [] h = tt
have_ttls (rr ∷ rrs) h = let parts = and_parts (is_short rr) (list_all is_short rrs) h in (leb-true rr.ttl other_ttl parts.0, have_ttls rrs parts.1)

unique_short : (group : Group) (history : List Entry) → list_all is_short (unique_records group history) ≡ true
unfolding unique_records
unique_short group history = of (group.id == 0)
  where
    addresses : (name : List (List ℕ)) (address : ℕ) (v6 : Option ℕ) → list_all is_short ((unique_record name host_ttl (A address) ∷ map (λ (a : ℕ). unique_record name host_ttl (Aaaa a)) (option_to_list v6)) ++ []) ≡ true
    addresses name address None = refl
    addresses name address (Some v6) = refl

    hosts : (name : List (List ℕ)) (config : Option Config) → list_all is_short (flat_map (address_records name) (option_to_list config)) ≡ true
    hosts name None = refl
    hosts name (Some config) = addresses name config.address (option_and_then (λ (host : HostConfig). host.v6) config.host)

    of : (b : Bool) → list_all is_short (cond b (flat_map (address_records (group_name group history)) (option_to_list (config_of history))) (service_unique (group_name group history) group.port (present_txt group.session group.op history) (host_name history))) ≡ true
    of true = hosts (group_name group history) (config_of history)
    of false = refl

shared_short : (group : Group) (history : List Entry) → list_all is_short (shared_records group history) ≡ true
unfolding shared_records
shared_short group history = of (group.id == 0)
  where
    pointers : (name : List (List ℕ)) (subtypes : List (List ℕ)) → list_all is_short (map (λ subtype. shared_record (subtype_name subtype group.type) other_ttl (Ptr name)) subtypes) ≡ true
    pointers name [] = refl
    pointers name (subtype ∷ subtypes) = pointers name subtypes

    of : (b : Bool) → list_all is_short (cond b [] (service_shared (group_name group history) group.type)) ≡ true
    of true = refl
    of false =
        all-ordered record_cmp record_cmp_total is_short
        (shared_record group.type.name other_ttl (Ptr (group_name group history)) ∷ shared_record types_name other_ttl (Ptr group.type.name)
        ∷ map (λ subtype. shared_record (subtype_name subtype group.type) other_ttl (Ptr (group_name group history))) group.type.subtypes)
        (pointers (group_name group history) group.type.subtypes)

own_short : (history : List Entry) → list_all is_short (own_records history) ≡ true
unfolding own_records group_records
own_short history = of (sure_groups history)
  where
    of : (gs : List Group) → list_all is_short (flat_map (λ group. unique_records group history ++ shared_records group history) gs) ≡ true
    of [] = refl
    of (group ∷ gs) =
        list_all-append is_short (unique_records group history ++ shared_records group history) (flat_map (λ one. unique_records one history ++ shared_records one history) gs)
        ∙ both (list_all is_short (unique_records group history ++ shared_records group history)) (list_all is_short (flat_map (λ one. unique_records one history ++ shared_records one history) gs))
        (list_all-append is_short (unique_records group history) (shared_records group history)
        ∙ both (list_all is_short (unique_records group history)) (list_all is_short (shared_records group history)) (unique_short group history) (shared_short group history))
        (of gs)

nsecs_short : (kept : List Kept) → HaveOwnTtls (nsecs_in kept)
unfolding nsec_record
nsecs_short [] = tt
nsecs_short (one ∷ kept) = of one.claim.sure (nsecs_short kept)
  where
    of : (b : Bool) → HaveOwnTtls (nsecs_in kept) → HaveOwnTtls (map nsec_for (cond b (one ∷ filter (λ k. k.claim.sure) kept) (filter (λ k. k.claim.sure) kept)))
    of true rest = (lit≤ tt, rest)
    of false rest = rest

pub ttls_known : OwnTtlsAreKnown
ttls_known contents history stands =
    (have_ttls (own_in contents.kept) (ap (list_all is_short) (own_known contents history stands) ∙ own_short history), nsecs_short contents.kept)
