-- What queries are owed is the daemon's to send.
use Rattle.std.proofs.Common.{◌≡◌, ℕ, ◌==◌, ◌⊎◌, inl, inr, Bool, true, false, cond, ◌&&◌, List, [], ◌∷◌, ◌++◌, map, Option, Some, None, refl, ap, subst, ◌∙◌, sym}
use Rattle.std.specs.Prelude.{filter, not}
use Rattle.std.specs.List.{list_any, list_all, flat_map}
use Rattle.std.specs.Option.{option_to_list, option_and_then}
use Rattle.lists.specs.Lists.{each_once}
use Rattle.dns_name.specs.Names.{folded_eq}
use Rattle.dns_record.specs.declared.record.Rdata.TheVariants.{A, Aaaa, Ptr, Srv, Txt}
use Rattle.dns_record.specs.declared.record.Rr.{Rr}
use Rattle.dns_record.specs.declared.record.Question.{Question}
use Rattle.dns_record.specs.Records.{any_kind, same, matches, kind_of, record_cmp}
use Rattle.dns_record.proofs.Same.{same_tells}
use Rattle.sd_name.specs.ServiceTypes.{ServiceType, types_name, subtype_name}
use Rattle.mdns_history.specs.declared.config.Config.{Config}
use Rattle.mdns_history.specs.declared.entry.Entry.{Entry}
use Rattle.mdns_history.specs.History.{config_of}
use Rattle.mdns_history.specs.Hearings.{Heard, query_of}
use Rattle.mdns_history.specs.Sessions.{present_txt}
use Rattle.mdns_history.specs.Groups.{Group, group_name, unique_record, shared_record, host_ttl, other_ttl, published_txt, address_records, service_unique, service_shared, unique_records, shared_records, group_records, host_name}
use Rattle.mdns_history.specs.Sureness.{sure_groups, own_records}
use Rattle.mdns_history.specs.Debts.{nsec_record, own_or_nsec, is_struck, is_nsec, last_multicast, Owed, owed_eq}
use Rattle.mdns_asserts.proofs.Elements.{In, all_in, of_all, any_in, of_append, of_filter, of_each_once, of_map, of_flat_map, of_ordered}
use Rattle.mdns_debts.specs.Queries.{Query, owed_queries}
use Rattle.mdns_debts.specs.Following.{Ours, News, own_in, news_of, owed_to, way_for, owed_by, query_from, queries_from, is_among, left_by, leaves, has_owed, queries_in, queries_after, all_among}
use Rattle.mdns_debts.proofs.Followed.{are_followed}

same_itself : (rr : Rr) → same rr rr ≡ true
same_itself rr = (same_tells rr rr).1 refl

-- a unique record with other data than NSEC, and a shared one, is no NSEC record
module _ (rr : Rr) where
  abbrev IsPlain : Type 0
  IsPlain = is_nsec rr ≡ false

plain_addresses : (name : List (List ℕ)) (config : Config) (rr : Rr) → In rr (address_records name config) → IsPlain rr
plain_addresses name config rr (inl e) = subst IsPlain (sym e) refl
plain_addresses name config rr (inr m) =
    let found : (v6 : ℕ) × In v6 (option_to_list (option_and_then (λ host. host.v6) config.host)) × (rr ≡ unique_record name host_ttl (Aaaa v6)) =
    of_map (λ v6. unique_record name host_ttl (Aaaa v6)) rr (option_to_list (option_and_then (λ host. host.v6) config.host)) m in
    subst IsPlain (sym found.2) refl

plain_service : (name : List (List ℕ)) (port : ℕ) (txt : List ℕ) (target : List (List ℕ)) (rr : Rr) → In rr (service_unique name port txt target) → IsPlain rr
plain_service name port txt target rr (inl e) = subst IsPlain (sym e) refl
plain_service name port txt target rr (inr (inl e)) = subst IsPlain (sym e) refl
plain_service name port txt target rr (inr (inr m)) = absurd m

plain_unique : (group : Group) (h : List Entry) (rr : Rr) → In rr (unique_records group h) → IsPlain rr
unfolding unique_records
plain_unique group h rr m = of (group.id == 0) m
  where
    of : (b : Bool) →
        In rr (cond b (flat_map (address_records (group_name group h)) (option_to_list (config_of h))) (service_unique (group_name group h) group.port (present_txt group.session group.op h) (host_name h))) →
        IsPlain rr
    of true n =
        let found : (config : Config) × In config (option_to_list (config_of h)) × In rr (address_records (group_name group h) config) = of_flat_map (address_records (group_name group h)) rr (option_to_list (config_of h)) n in
        plain_addresses (group_name group h) found.0 rr found.2
    of false n = plain_service (group_name group h) group.port (present_txt group.session group.op h) (host_name h) rr n

plain_shared : (name : List (List ℕ)) (type : ServiceType) (rr : Rr) → In rr (service_shared name type) → IsPlain rr
plain_shared name type rr m =
    of (of_ordered record_cmp rr (shared_record type.name other_ttl (Ptr name) ∷ shared_record types_name other_ttl (Ptr type.name) ∷ map (λ subtype. shared_record (subtype_name subtype type) other_ttl (Ptr name)) type.subtypes) m)
  where
    of : In rr (shared_record type.name other_ttl (Ptr name) ∷ shared_record types_name other_ttl (Ptr type.name) ∷ map (λ subtype. shared_record (subtype_name subtype type) other_ttl (Ptr name)) type.subtypes) →
        IsPlain rr
    of (inl e) = subst IsPlain (sym e) refl
    of (inr (inl e)) = subst IsPlain (sym e) refl
    of (inr (inr n)) =
        let found : (subtype : List ℕ) × In subtype type.subtypes × (rr ≡ shared_record (subtype_name subtype type) other_ttl (Ptr name)) =
        of_map (λ subtype. shared_record (subtype_name subtype type) other_ttl (Ptr name)) rr type.subtypes n in
        subst IsPlain (sym found.2) refl

plain_group : (group : Group) (h : List Entry) (rr : Rr) → In rr (group_records group h) → IsPlain rr
unfolding group_records shared_records
plain_group group h rr m = of (of_append rr (unique_records group h) (shared_records group h) m)
  where
    if_service : (b : Bool) → In rr (cond b [] (service_shared (group_name group h) group.type)) → IsPlain rr
    if_service true n = absurd n
    if_service false n = plain_shared (group_name group h) group.type rr n

    of : In rr (unique_records group h) ⊎ In rr (shared_records group h) → IsPlain rr
    of (inl n) = plain_unique group h rr n
    of (inr n) = if_service (group.id == 0) n

-- an own record is no NSEC record
plain_own : (h : List Entry) (rr : Rr) → In rr (own_records h) → IsPlain rr
unfolding own_records
plain_own h rr m =
    let found : (group : Group) × In group (sure_groups h) × In rr (group_records group h) = of_flat_map (λ group. group_records group h) rr (sure_groups h) m in
    plain_group found.0 h rr found.2

among_own : (h : List Entry) (rr : Rr) → In rr (own_records h) → is_among (own_in h) rr ≡ true
among_own h rr m =
    ap (λ (b : Bool). cond b (list_any (same rr) (own_in h).names) (list_any (same rr) (own_records h))) (plain_own h rr m)
    ∙ any_in (same rr) (own_records h) rr m (same_itself rr)

named_nsec : (h : List Entry) (rr : Rr) → In rr (own_in h).names → is_nsec rr ≡ true
unfolding nsec_record
named_nsec h rr m =
    let found : (group : Group) × In group (sure_groups h) × (rr ≡ nsec_record (group_name group h) (unique_records group h)) =
    of_map (λ group. nsec_record (group_name group h) (unique_records group h)) rr (sure_groups h) m in
    subst (λ (r : Rr). is_nsec r ≡ true) (sym found.2) refl

among_names : (h : List Entry) (rr : Rr) → In rr (own_in h).names → is_among (own_in h) rr ≡ true
among_names h rr m =
    ap (λ (b : Bool). cond b (list_any (same rr) (own_in h).names) (list_any (same rr) (own_records h))) (named_nsec h rr m)
    ∙ any_in (same rr) (own_in h).names rr m (same_itself rr)

-- what a question is owed is the daemon's to send
among_owed : (h : List Entry) (question : Question) (rr : Rr) → In rr (owed_to (own_in h) question) → is_among (own_in h) rr ≡ true
among_owed h question rr m = of (filter (matches (record { name = question.name; kind = question.kind })) (own_records h)) refl m
  where
    asked : List Rr
    asked = filter (λ r. folded_eq r.owner question.name) (own_in h).names

    if_any : (b : Bool) → In rr (cond b [] asked) → is_among (own_in h) rr ≡ true
    if_any true n = absurd n
    if_any false n = among_names h rr (of_filter (λ r. folded_eq r.owner question.name) rr (own_in h).names n).0

    of : (rrs : List Rr) → filter (matches (record { name = question.name; kind = question.kind })) (own_records h) ≡ rrs → In rr (own_or_nsec rrs asked question) → is_among (own_in h) rr ≡ true
    of [] e n = if_any (question.kind == any_kind) n
    of (one ∷ rrs) e n =
        let there : In rr (filter (matches (record { name = question.name; kind = question.kind })) (own_records h)) = subst (In rr) (sym e) n in
        among_own h rr (of_filter (matches (record { name = question.name; kind = question.kind })) rr (own_records h) there).0

-- What a query is owed as it is heard is the daemon's to send.
pub come_among : (h : List Entry) (lasts : Rr → Option ℕ) (news : News) (heard : Option Heard) → all_among (own_in h) (queries_from (own_in h) lasts news heard) ≡ true
come_among h lasts news None = refl
come_among h lasts news (Some heard) =
    ap (λ (b : Bool). b && true) (all_in (λ (owed : Owed). is_among (own_in h) owed.0) (owed_by (own_in h) lasts heard news.moment) each)
  where
    unstruck : Rr → Bool
    unstruck rr = not (is_struck heard.message.answers rr)

    with_way : Question → Rr → Owed
    with_way question rr = (rr, way_for lasts heard news.moment question rr)

    each : (owed : Owed) → In owed (owed_by (own_in h) lasts heard news.moment) → is_among (own_in h) owed.0 ≡ true
    each owed m =
        let found : (question : Question) × In question heard.message.questions × In owed (map (with_way question) (filter unstruck (owed_to (own_in h) question))) =
        of_flat_map (λ question. map (with_way question) (filter unstruck (owed_to (own_in h) question))) owed heard.message.questions
        (of_each_once owed_eq owed (flat_map (λ question. map (with_way question) (filter unstruck (owed_to (own_in h) question))) heard.message.questions) m) in
        let one : (rr : Rr) × In rr (filter unstruck (owed_to (own_in h) found.0)) × (owed ≡ with_way found.0 rr) = of_map (with_way found.0) owed (filter unstruck (owed_to (own_in h) found.0)) found.2 in
        subst (λ (o : Owed). is_among (own_in h) o.0 ≡ true) (sym one.2) (among_owed h found.0 one.0 (of_filter unstruck one.0 (owed_to (own_in h) found.0) one.1).0)

-- what is left of what queries are owed passes the test
left_among : (ours : Ours) (queries : List Query) → all_among ours (filter has_owed (map (left_by (λ query owed. is_among ours owed.0)) queries)) ≡ true
left_among ours queries = all_in (λ (query : Query). list_all (λ (owed : Owed). is_among ours owed.0) query.owed) (filter has_owed (map (left_by (λ query owed. is_among ours owed.0)) queries)) each
  where
    each : (query : Query) → In query (filter has_owed (map (left_by (λ query owed. is_among ours owed.0)) queries)) → list_all (λ (owed : Owed). is_among ours owed.0) query.owed ≡ true
    each query m =
        let found : (one : Query) × In one queries × (query ≡ left_by (λ q owed. is_among ours owed.0) one) =
        of_map (left_by (λ q owed. is_among ours owed.0)) query queries (of_filter has_owed query (map (left_by (λ q owed. is_among ours owed.0)) queries) m).0 in
        subst (λ (q : Query). list_all (λ (owed : Owed). is_among ours owed.0) q.owed ≡ true) (sym found.2)
        (all_in (λ (owed : Owed). is_among ours owed.0) (filter (λ owed. is_among ours owed.0) (found.0).owed) (λ owed n. (of_filter (λ (o : Owed). is_among ours o.0) owed (found.0).owed n).1))

after_among : (before after : Ours) (lasts : Rr → Option ℕ) (news : News) (queries : List Query) → all_among after (queries_after before after lasts news queries) ≡ true
unfolding queries_after
after_among before after lasts news queries = left_among after (map (left_by (leaves news)) queries ++ queries_from before lasts news (query_of news.heard))

-- What queries are owed is the daemon's to send.
pub owed_among : (h : List Entry) → all_among (own_in h) (queries_in h) ≡ true
unfolding owed_queries
owed_among [] = refl
owed_among (entry ∷ past) =
    ap (all_among (own_in (entry ∷ past))) (are_followed entry past) ∙ after_among (own_in past) (own_in (entry ∷ past)) (λ rr. last_multicast rr past) (news_of entry) (queries_in past)
