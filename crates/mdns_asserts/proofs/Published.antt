-- The daemon's own records, its NSEC records and what it owes: each lasts, and is a PTR record or has the name of a sure group.
use Rattle.std.proofs.Common.{◌≡◌, ℕ, ◌==◌, ◌⊎◌, inl, inr, Bool, true, false, cond, not, List, [], ◌∷◌, ◌++◌, map, Option, Some, None, refl, ap, subst, ◌∙◌, sym, arith}
use Rattle.std.specs.Prelude.{filter, nat_lt}
use Rattle.std.specs.List.{list_any, list_all, flat_map}
use Rattle.std.specs.Option.{option_to_list, option_and_then}
use Rattle.dns_name.specs.Names.{folded_eq}
use Rattle.dns_name.proofs.Folding.{folded_eq-equivalence}
use Rattle.dns_record.specs.declared.record.Rdata.{Rdata}
use Rattle.dns_record.specs.declared.record.Rdata.TheVariants.{A, Aaaa, Ptr, Srv, Txt}
use Rattle.dns_record.specs.declared.record.Rr.{Rr}
use Rattle.dns_record.specs.declared.record.Question.{Question}
use Rattle.dns_record.specs.Records.{any_kind, same, data_eq, matches, kind_of, record_cmp}
use Rattle.sd_name.specs.ServiceTypes.{ServiceType, types_name, subtype_name}
use Rattle.mdns_history.specs.declared.config.Config.{Config}
use Rattle.mdns_history.specs.declared.entry.Entry.{Entry}
use Rattle.mdns_history.specs.History.{config_of}
use Rattle.mdns_history.specs.Hearings.{Heard, heard_in, query_of}
use Rattle.mdns_history.specs.Sessions.{present_txt}
use Rattle.mdns_history.specs.Groups.{Group, group_name, unique_record, shared_record, host_ttl, other_ttl, published_txt, address_records, service_unique, service_shared, unique_records, shared_records, group_records, host_name}
use Rattle.mdns_history.specs.Sureness.{sure_groups, own_records, is_own}
use Rattle.mdns_history.specs.Debts.{nsec_record, nsecs_of, own_or_nsec, owed_to, is_struck, is_nsec, is_ours, Debt, Owed, owed_eq, way_of, owed_for, owed_by, is_unique, debt_of, debts_from, debts_made, stays_open, standing_debts}
use Rattle.mdns_asserts.specs.Earned.{has_sure_name}
use Rattle.mdns_asserts.proofs.Elements.{In, of_append, of_map, of_flat_map, of_filter, of_ordered, of_each_once, any_in, of_any, and_first, and_second, both_no}

-- a record as groups have it: it is to last, and a PTR record is shared
pub record IsPublished (rr : Rr) : Type 0 where
  pub lasts : nat_lt 0 rr.ttl ≡ true
  pub shared : kind_of rr.rdata ≡ 12 → rr.flush ≡ false

-- a record of a group of a name
pub record IsOfGroup (name : List (List ℕ)) (rr : Rr) : Type 0 where
  pub published : IsPublished rr
  pub named : (kind_of rr.rdata ≡ 12) ⊎ (rr.owner ≡ name)

of_unique : (name : List (List ℕ)) (ttl : ℕ) (rdata : Rdata) → nat_lt 0 ttl ≡ true → (kind_of rdata == 12) ≡ false → IsOfGroup name (unique_record name ttl rdata)
of_unique name ttl rdata h other = record { published = record { lasts = h; shared = λ k. absurd (both_no (kind_of rdata == 12) (grind (arith, k)) other) }; named = inr refl }

of_addresses : (name : List (List ℕ)) (config : Config) (rr : Rr) → In rr (address_records name config) → IsOfGroup name rr
of_addresses name config rr (inl e) = subst (IsOfGroup name) (sym e) (of_unique name host_ttl (A config.address) refl refl)
of_addresses name config rr (inr m) =
    let found : (v6 : ℕ) × In v6 (option_to_list (option_and_then (λ host. host.v6) config.host)) × (rr ≡ unique_record name host_ttl (Aaaa v6)) =
    of_map (λ v6. unique_record name host_ttl (Aaaa v6)) rr (option_to_list (option_and_then (λ host. host.v6) config.host)) m in
    subst (IsOfGroup name) (sym found.2) (of_unique name host_ttl (Aaaa found.0) refl refl)

of_service : (name : List (List ℕ)) (port : ℕ) (txt : List ℕ) (target : List (List ℕ)) (rr : Rr) → In rr (service_unique name port txt target) → IsOfGroup name rr
of_service name port txt target rr (inl e) = subst (IsOfGroup name) (sym e) (of_unique name other_ttl (Txt (published_txt txt)) refl refl)
of_service name port txt target rr (inr (inl e)) = subst (IsOfGroup name) (sym e) (of_unique name host_ttl (Srv 0 0 port target) refl refl)
of_service name port txt target rr (inr (inr m)) = absurd m

-- a unique record of a group
pub of_unique_records : (group : Group) (h : List Entry) (rr : Rr) → In rr (unique_records group h) → IsOfGroup (group_name group h) rr
unfolding unique_records
of_unique_records group h rr m = of (group.id == 0) m
  where
    of : (b : Bool) →
        In rr (cond b (flat_map (address_records (group_name group h)) (option_to_list (config_of h))) (service_unique (group_name group h) group.port (present_txt group.session group.op h) (host_name h))) →
        IsOfGroup (group_name group h) rr
    of true n =
        let found : (config : Config) × In config (option_to_list (config_of h)) × In rr (address_records (group_name group h) config) = of_flat_map (address_records (group_name group h)) rr (option_to_list (config_of h)) n in
        of_addresses (group_name group h) found.0 rr found.2
    of false n = of_service (group_name group h) group.port (present_txt group.session group.op h) (host_name h) rr n

of_shared : (name owner target : List (List ℕ)) (rr : Rr) → rr ≡ shared_record owner other_ttl (Ptr target) → IsOfGroup name rr
of_shared name owner target rr e = subst (IsOfGroup name) (sym e) (record { published = record { lasts = refl; shared = λ k. refl }; named = inl refl })

of_service_shared : (name : List (List ℕ)) (type : ServiceType) (rr : Rr) → In rr (service_shared name type) → IsOfGroup name rr
of_service_shared name type rr m =
    of (of_ordered record_cmp rr (shared_record type.name other_ttl (Ptr name) ∷ shared_record types_name other_ttl (Ptr type.name) ∷ map (λ subtype. shared_record (subtype_name subtype type) other_ttl (Ptr name)) type.subtypes) m)
  where
    of : In rr (shared_record type.name other_ttl (Ptr name) ∷ shared_record types_name other_ttl (Ptr type.name) ∷ map (λ subtype. shared_record (subtype_name subtype type) other_ttl (Ptr name)) type.subtypes) →
        IsOfGroup name rr
    of (inl e) = of_shared name type.name name rr e
    of (inr (inl e)) = of_shared name types_name type.name rr e
    of (inr (inr n)) =
        let found : (subtype : List ℕ) × In subtype type.subtypes × (rr ≡ shared_record (subtype_name subtype type) other_ttl (Ptr name)) =
        of_map (λ subtype. shared_record (subtype_name subtype type) other_ttl (Ptr name)) rr type.subtypes n in
        of_shared name (subtype_name found.0 type) name rr found.2

of_shared_records : (group : Group) (h : List Entry) (rr : Rr) → In rr (shared_records group h) → IsOfGroup (group_name group h) rr
unfolding shared_records
of_shared_records group h rr m = of (group.id == 0) m
  where
    of : (b : Bool) → In rr (cond b [] (service_shared (group_name group h) group.type)) → IsOfGroup (group_name group h) rr
    of true n = absurd n
    of false n = of_service_shared (group_name group h) group.type rr n

-- a record of a group
pub of_group_records : (group : Group) (h : List Entry) (rr : Rr) → In rr (group_records group h) → IsOfGroup (group_name group h) rr
unfolding group_records
of_group_records group h rr m = of (of_append rr (unique_records group h) (shared_records group h) m)
  where
    of : In rr (unique_records group h) ⊎ In rr (shared_records group h) → IsOfGroup (group_name group h) rr
    of (inl n) = of_unique_records group h rr n
    of (inr n) = of_shared_records group h rr n

-- a published record that is a PTR record or has the name of a sure group
pub record IsNamed (h : List Entry) (rr : Rr) : Type 0 where
  pub published : IsPublished rr
  pub named : (kind_of rr.rdata ≡ 12) ⊎ (has_sure_name h rr ≡ true)

-- names are one with themselves
pub name_refl : (name : List (List ℕ)) → folded_eq name name ≡ true
name_refl name = folded_eq-equivalence.refl name

pub name_symm : (left right : List (List ℕ)) → folded_eq left right ≡ true → folded_eq right left ≡ true
name_symm left right h = folded_eq-equivalence.symm right left ∙ h

pub name_trans : (left middle right : List (List ℕ)) → folded_eq left middle ≡ true → folded_eq middle right ≡ true → folded_eq left right ≡ true
name_trans left middle right h g = folded_eq-equivalence.congr left middle right h ∙ g

pub named_by : (group : Group) (h : List Entry) (rr : Rr) → In group (sure_groups h) → rr.owner ≡ group_name group h → has_sure_name h rr ≡ true
named_by group h rr m e = any_in (λ g. folded_eq (group_name g h) rr.owner) (sure_groups h) group m (ap (folded_eq (group_name group h)) e ∙ name_refl (group_name group h))

pub of_sure : (group : Group) (h : List Entry) (rr : Rr) → In group (sure_groups h) → IsOfGroup (group_name group h) rr → IsNamed h rr
of_sure group h rr m of_group = record { published = of_group.published; named = of of_group.named }
  where
    of : (kind_of rr.rdata ≡ 12) ⊎ (rr.owner ≡ group_name group h) → (kind_of rr.rdata ≡ 12) ⊎ (has_sure_name h rr ≡ true)
    of (inl k) = inl k
    of (inr e) = inr (named_by group h rr m e)

pub own_named : (h : List Entry) (rr : Rr) → In rr (own_records h) → IsNamed h rr
unfolding own_records
own_named h rr m =
    let found : (group : Group) × In group (sure_groups h) × In rr (group_records group h) = of_flat_map (λ group. group_records group h) rr (sure_groups h) m in
    of_sure found.0 h rr found.1 (of_group_records found.0 h rr found.2)

pub nsec_named : (name : List (List ℕ)) (h : List Entry) (rr : Rr) → In rr (nsecs_of name h) → IsNamed h rr
unfolding nsec_record
nsec_named name h rr m =
    let named : List Group = filter (λ group. folded_eq (group_name group h) name) (sure_groups h) in
    let found : (group : Group) × In group named × (rr ≡ nsec_record (group_name group h) (unique_records group h)) =
    of_map (λ group. nsec_record (group_name group h) (unique_records group h)) rr named m in
    let sure : In found.0 (sure_groups h) = (of_filter (λ group. folded_eq (group_name group h) name) found.0 (sure_groups h) found.1).0 in
    let nsec : IsOfGroup (group_name found.0 h) (nsec_record (group_name found.0 h) (unique_records found.0 h)) = of_unique (group_name found.0 h) host_ttl (nsec_record (group_name found.0 h) (unique_records found.0 h)).rdata refl refl in
    of_sure found.0 h rr sure (subst (IsOfGroup (group_name found.0 h)) (sym found.2) nsec)

-- the parts of sameness
pub same_owner : (left right : Rr) → same left right ≡ true → folded_eq left.owner right.owner ≡ true
unfolding same
same_owner left right h = and_first (folded_eq left.owner right.owner) (data_eq left.rdata right.rdata) h

pub same_kind : (left right : Rr) → same left right ≡ true → kind_of left.rdata ≡ kind_of right.rdata
unfolding same data_eq
same_kind left right h =
    let equal : data_eq left.rdata right.rdata ≡ true = and_second (folded_eq left.owner right.owner) (data_eq left.rdata right.rdata) h in
    let kinds : (kind_of left.rdata == kind_of right.rdata) ≡ true = and_first (kind_of left.rdata == kind_of right.rdata) _ equal in
    grind (arith, kinds)

-- what is the same as a named record is named
pub same_named : (h : List Entry) (rr own : Rr) → same rr own ≡ true → IsNamed h own → (kind_of rr.rdata ≡ 12) ⊎ (has_sure_name h rr ≡ true)
same_named h rr own s named = of named.named
  where
    of : (kind_of own.rdata ≡ 12) ⊎ (has_sure_name h own ≡ true) → (kind_of rr.rdata ≡ 12) ⊎ (has_sure_name h rr ≡ true)
    of (inl k) = inl (same_kind rr own s ∙ k)
    of (inr n) =
        let found : (group : Group) × In group (sure_groups h) × (folded_eq (group_name group h) own.owner ≡ true) = of_any (λ g. folded_eq (group_name g h) own.owner) (sure_groups h) n in
        inr (any_in (λ g. folded_eq (group_name g h) rr.owner) (sure_groups h) found.0 found.1
        (name_trans (group_name found.0 h) own.owner rr.owner found.2 (name_symm rr.owner own.owner (same_owner rr own s))))

pub ours_named : (h : List Entry) (rr : Rr) → is_ours rr h ≡ true → (kind_of rr.rdata ≡ 12) ⊎ (has_sure_name h rr ≡ true)
unfolding is_ours is_own
ours_named h rr ours = of (is_nsec rr) ours
  where
    of : (b : Bool) → cond b (list_any (same rr) (nsecs_of rr.owner h)) (list_any (same rr) (own_records h)) ≡ true → (kind_of rr.rdata ≡ 12) ⊎ (has_sure_name h rr ≡ true)
    of true e = let found : (own : Rr) × In own (nsecs_of rr.owner h) × (same rr own ≡ true) = of_any (same rr) (nsecs_of rr.owner h) e in same_named h rr found.0 found.2 (nsec_named rr.owner h found.0 found.1)
    of false e = let found : (own : Rr) × In own (own_records h) × (same rr own ≡ true) = of_any (same rr) (own_records h) e in same_named h rr found.0 found.2 (own_named h found.0 found.1)

owed_named : (h : List Entry) (question : Question) (rr : Rr) → In rr (owed_to h question) → IsNamed h rr
unfolding owed_to
owed_named h question rr m = of (filter (matches (record { name = question.name; kind = question.kind })) (own_records h)) refl m
  where
    silent : (b : Bool) → In rr (cond b [] (nsecs_of question.name h)) → IsNamed h rr
    silent true n = absurd n
    silent false n = nsec_named question.name h rr n

    of : (rrs : List Rr) → filter (matches (record { name = question.name; kind = question.kind })) (own_records h) ≡ rrs → In rr (own_or_nsec rrs (nsecs_of question.name h) question) → IsNamed h rr
    of [] e n = silent (question.kind == any_kind) n
    of (r ∷ rs) e n = own_named h rr (of_filter (matches (record { name = question.name; kind = question.kind })) rr (own_records h) (subst (λ zs. In rr zs) (sym e) n)).0

-- what a question is owed is published
question_published : (heard : Heard) (entry : Entry) (past : List Entry) (question : Question) (one : Owed) → In one (owed_for heard entry past question) → IsPublished one.0
question_published heard entry past question one m =
    let unstruck : Rr → Bool = λ rr. not (is_struck heard.message.answers rr) in
    let found : (rr : Rr) × In rr (filter unstruck (owed_to past question)) × (one ≡ (rr, way_of heard entry.moment past question rr)) =
    of_map (λ rr. (rr, way_of heard entry.moment past question rr)) one (filter unstruck (owed_to past question)) m in
    let named : IsNamed past found.0 = owed_named past question found.0 (of_filter unstruck found.0 (owed_to past question) found.1).0 in
    subst IsPublished (sym (ap (λ (o : Owed). o.0) found.2)) named.published

owed_published : (heard : Heard) (entry : Entry) (past : List Entry) (one : Owed) → In one (owed_by heard entry past) → IsPublished one.0
owed_published heard entry past one m =
    let all : List Owed = flat_map (owed_for heard entry past) heard.message.questions in
    let found : (question : Question) × In question heard.message.questions × In one (owed_for heard entry past question) =
    of_flat_map (owed_for heard entry past) one heard.message.questions (of_each_once owed_eq one all m) in
    question_published heard entry past found.0 one found.2

debts_published : (heard : Heard) (entry : Entry) (past : List Entry) (unique : Bool) (owed : List Owed) → ((one : Owed) → In one owed → IsPublished one.0) →
    (debt : Debt) → In debt (map (debt_of heard entry past unique) owed) → IsPublished debt.rr
debts_published heard entry past unique owed all debt m =
    let found : (one : Owed) × In one owed × (debt ≡ debt_of heard entry past unique one) = of_map (debt_of heard entry past unique) debt owed m in
    subst IsPublished (sym (ap (λ (d : Debt). d.rr) found.2)) (all found.0 found.1)

-- what a query makes owed is published
made_published : (entry : Entry) (past : List Entry) (debt : Debt) → In debt (debts_made entry past) → IsPublished debt.rr
unfolding debts_made
made_published entry past debt m = of (query_of (heard_in entry)) m
  where
    of : (o : Option Heard) → In debt (debts_from o entry past) → IsPublished debt.rr
    of None n = absurd n
    of (Some heard) n = let owed : List Owed = owed_by heard entry past in
        debts_published heard entry past (list_all (λ o. is_unique o.0) owed) owed (owed_published heard entry past) debt n

debt_published : (h : List Entry) (debt : Debt) → In debt (standing_debts h) → IsPublished debt.rr
unfolding standing_debts
debt_published [] debt m = absurd m
debt_published (entry ∷ past) debt m =
    of (of_append debt (filter (stays_open entry) (standing_debts past)) (debts_made entry past)
    (of_filter (λ d. is_ours d.rr (entry ∷ past)) debt (filter (stays_open entry) (standing_debts past) ++ debts_made entry past) m).0) (debt_published past debt)
  where
    of : In debt (filter (stays_open entry) (standing_debts past)) ⊎ In debt (debts_made entry past) → (In debt (standing_debts past) → IsPublished debt.rr) → IsPublished debt.rr
    of (inl n) rest = rest (of_filter (stays_open entry) debt (standing_debts past) n).0
    of (inr n) rest = made_published entry past debt n

debt_ours : (h : List Entry) (debt : Debt) → In debt (standing_debts h) → is_ours debt.rr h ≡ true
unfolding standing_debts
debt_ours [] debt m = absurd m
debt_ours (entry ∷ past) debt m = (of_filter (λ d. is_ours d.rr (entry ∷ past)) debt (filter (stays_open entry) (standing_debts past) ++ debts_made entry past) m).1

-- What is owed is published, and is a PTR record or has the name of a sure group.
pub debt_named : (h : List Entry) (debt : Debt) → In debt (standing_debts h) → IsNamed h debt.rr
debt_named h debt m = record { published = debt_published h debt m; named = ours_named h debt.rr (debt_ours h debt m) }
