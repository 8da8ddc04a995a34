-- What the responses of a tick tell: published records that are PTR records or have the name of a sure group, before the tick or with it.
use Rattle.std.proofs.Common.{◌≡◌, ℕ, ◌==◌, ◌⊎◌, inl, inr, Bool, true, false, cond, ◌&&◌, List, [], ◌∷◌, ◌++◌, map, zip, min, Option, Some, None, refl, ap, subst, ◌∙◌, sym, arith}
use Rattle.std.specs.Prelude.{filter, nat_lt}
use Rattle.std.specs.List.{flat_map, filter_map}
use Rattle.std.specs.Option.{option_and_then}
use Rattle.mdns_base.specs.Hosts.{mdns_port}
use Rattle.lists.specs.Lists.{ordered, each_once}
use Rattle.dns_name.specs.Names.{folded_eq}
use Rattle.dns_record.specs.declared.record.Rdata.{Rdata}
use Rattle.dns_record.specs.declared.record.Rdata.TheVariants.{A, Aaaa, Ptr, Cname, Srv, Txt, Nsec, Raw}
use Rattle.dns_record.specs.declared.record.Rr.{Rr}
use Rattle.dns_record.specs.declared.record.Key.{Key}
use Rattle.dns_record.specs.Records.{kind_of, record_cmp}
use Rattle.dns_message.specs.declared.message.Message.{Message}
use Rattle.dns_message.specs.Packing.{pack_query, pack_reply, pack_plain, pack_legacy, plain_record}
use Rattle.mdns_history.specs.declared.entry.Sent.{Sent}
use Rattle.mdns_history.specs.declared.entry.Entry.{Entry}
use Rattle.mdns_history.specs.InForce.{Duties, only_if}
use Rattle.mdns_history.specs.Hearings.{Heard, heard_in}
use Rattle.mdns_history.specs.Groups.{Group, group_records}
use Rattle.mdns_history.specs.Sureness.{sure_groups, own_records}
use Rattle.mdns_history.specs.Probing.{probed_groups}
use Rattle.mdns_history.specs.Announcing.{announced_groups, is_announced_at}
use Rattle.mdns_history.specs.Asking.{known_answers, tick_askings}
use Rattle.mdns_history.specs.Debts.{Debt, sections, standing_debts}
use Rattle.mdns_history.specs.Multicasts.{due_multicasts, due_unicasts, may_go, released_records}
use Rattle.mdns_history.specs.Sending.{to_all, to_one, probe_message, sent_probes, key_in_mark, sent_queries, own_of, addresses_of, srv_addresses, wanted_by, is_free, announced_records, multicast_answers, sent_multicasts, entry_at, reply_to, reply_to_heard, reply_at, sent_unicasts, tick_sends}
use Rattle.mdns_asserts.specs.Earned.{has_sure_name}
use Rattle.mdns_asserts.proofs.Elements.{In, of_append, of_map, of_flat_map, of_filter, of_ordered, of_zip_left, of_zip_right, both_no}
use Rattle.mdns_asserts.proofs.Followed.{of_only_if}
use Rattle.mdns_asserts.proofs.Packed.{IsFrom, of_plain, of_reply, of_legacy, query_opens}
use Rattle.mdns_asserts.proofs.Published.{IsPublished, IsNamed, own_named, of_sure, of_group_records, debt_named}

-- a published record that is a PTR record or has a sure name in one of two histories
pub record IsTold (past later : List Entry) (rr : Rr) : Type 0 where
  pub published : IsPublished rr
  pub named : (kind_of rr.rdata ≡ 12) ⊎ ((has_sure_name past rr ≡ true) ⊎ (has_sure_name later rr ≡ true))

told_before : (past later : List Entry) (rr : Rr) → IsNamed past rr → IsTold past later rr
told_before past later rr named = record { published = named.published; named = of named.named }
  where
    of : (kind_of rr.rdata ≡ 12) ⊎ (has_sure_name past rr ≡ true) → (kind_of rr.rdata ≡ 12) ⊎ ((has_sure_name past rr ≡ true) ⊎ (has_sure_name later rr ≡ true))
    of (inl k) = inl k
    of (inr n) = inr (inl n)

told_later : (past later : List Entry) (rr : Rr) → IsNamed later rr → IsTold past later rr
told_later past later rr named = record { published = named.published; named = of named.named }
  where
    of : (kind_of rr.rdata ≡ 12) ⊎ (has_sure_name later rr ≡ true) → (kind_of rr.rdata ≡ 12) ⊎ ((has_sure_name past rr ≡ true) ⊎ (has_sure_name later rr ≡ true))
    of (inl k) = inl k
    of (inr n) = inr (inr n)

least_lasts : (n : ℕ) → nat_lt 0 n ≡ true → nat_lt 0 (min n 10) ≡ true
least_lasts n h = grind (arith, h)

-- a record as a reply to another port lists it
told_plainly : (past later : List Entry) (rr : Rr) → IsTold past later rr → IsTold past later (plain_record rr)
told_plainly past later rr t = record { published = record { lasts = least_lasts rr.ttl t.published.lasts; shared = λ k. refl }; named = t.named }

-- what an answer wants is own
of_own_of : (own : List Rr) (kind : ℕ) (name : List (List ℕ)) (rr : Rr) → In rr (own_of own kind name) → In rr own
of_own_of own kind name rr m = (of_filter (λ r. folded_eq r.owner name && (kind_of r.rdata == kind)) rr own m).0

of_addresses_of : (own : List Rr) (name : List (List ℕ)) (rr : Rr) → In rr (addresses_of own name) → In rr own
of_addresses_of own name rr m = of (of_append rr (own_of own 1 name) (own_of own 28 name) m)
  where
    of : In rr (own_of own 1 name) ⊎ In rr (own_of own 28 name) → In rr own
    of (inl n) = of_own_of own 1 name rr n
    of (inr n) = of_own_of own 28 name rr n

of_srv_addresses : (own : List Rr) (rdata : Rdata) (rr : Rr) → In rr (srv_addresses own rdata) → In rr own
of_srv_addresses own (Srv priority weight port target) rr m = of_addresses_of own target rr m
of_srv_addresses own (A address) rr m = absurd m
of_srv_addresses own (Aaaa address) rr m = absurd m
of_srv_addresses own (Ptr name) rr m = absurd m
of_srv_addresses own (Cname name) rr m = absurd m
of_srv_addresses own (Txt bytes) rr m = absurd m
of_srv_addresses own (Nsec next bitmap) rr m = absurd m
of_srv_addresses own (Raw kind bytes) rr m = absurd m

of_wanted_by : (own : List Rr) (rdata : Rdata) (rr : Rr) → In rr (wanted_by own rdata) → In rr own
of_wanted_by own (Srv priority weight port target) rr m = of_addresses_of own target rr m
of_wanted_by own (Ptr target) rr m = of (of_append rr (own_of own 33 target ++ own_of own 16 target) (flat_map (λ r. srv_addresses own r.rdata) (own_of own 33 target)) m)
  where
    first : In rr (own_of own 33 target) ⊎ In rr (own_of own 16 target) → In rr own
    first (inl n) = of_own_of own 33 target rr n
    first (inr n) = of_own_of own 16 target rr n

    of : In rr (own_of own 33 target ++ own_of own 16 target) ⊎ In rr (flat_map (λ r. srv_addresses own r.rdata) (own_of own 33 target)) → In rr own
    of (inl n) = first (of_append rr (own_of own 33 target) (own_of own 16 target) n)
    of (inr n) = let found : (r : Rr) × In r (own_of own 33 target) × In rr (srv_addresses own r.rdata) = of_flat_map (λ r. srv_addresses own r.rdata) rr (own_of own 33 target) n in of_srv_addresses own (found.0).rdata rr found.2
of_wanted_by own (A address) rr m = absurd m
of_wanted_by own (Aaaa address) rr m = absurd m
of_wanted_by own (Cname name) rr m = absurd m
of_wanted_by own (Txt bytes) rr m = absurd m
of_wanted_by own (Nsec next bitmap) rr m = absurd m
of_wanted_by own (Raw kind bytes) rr m = absurd m

module _ (duties : Duties) (tick : Entry) (past : List Entry) where
  announced_told : (rr : Rr) → In rr (announced_records tick past) → IsTold past (tick ∷ past) rr
  unfolding announced_groups
  announced_told rr m =
      let all : List Rr = flat_map (λ group. group_records group (tick ∷ past)) (announced_groups (tick ∷ past) tick.moment) in
      let found : (group : Group) × In group (announced_groups (tick ∷ past) tick.moment) × In rr (group_records group (tick ∷ past)) =
      of_flat_map (λ group. group_records group (tick ∷ past)) rr (announced_groups (tick ∷ past) tick.moment) (of_filter (is_free past tick.moment) rr all m).0 in
      let sure : In found.0 (sure_groups (tick ∷ past)) = (of_filter (is_announced_at (tick ∷ past) tick.moment) found.0 (sure_groups (tick ∷ past)) found.1).0 in
      told_later past (tick ∷ past) rr (of_sure found.0 (tick ∷ past) rr sure (of_group_records found.0 (tick ∷ past) rr found.2))

  released_told : (rr : Rr) → In rr (released_records past tick.moment) → IsTold past (tick ∷ past) rr
  unfolding released_records due_multicasts
  released_told rr m =
      let due : List Debt = due_multicasts past tick.moment in
      let kept : In rr (filter (may_go past tick.moment due) (map (λ debt. debt.rr) due)) = of_ordered record_cmp rr (filter (may_go past tick.moment due) (map (λ debt. debt.rr) due)) m in
      let found : (debt : Debt) × In debt due × (rr ≡ debt.rr) = of_map (λ debt. debt.rr) rr due (of_filter (may_go past tick.moment due) rr (map (λ debt. debt.rr) due) kept).0 in
      told_before past (tick ∷ past) rr (subst (IsNamed past) (sym found.2) (debt_named past found.0 (of_filter _ found.0 (standing_debts past) found.1).0))

  answer_told : (rr : Rr) → In rr (multicast_answers duties tick past) → IsTold past (tick ∷ past) rr
  answer_told rr m =
      of (of_append rr (only_if duties.announcing (announced_records tick past)) (only_if duties.replying (released_records past tick.moment))
      (of_ordered record_cmp rr (only_if duties.announcing (announced_records tick past) ++ only_if duties.replying (released_records past tick.moment)) m))
    where
      of : In rr (only_if duties.announcing (announced_records tick past)) ⊎ In rr (only_if duties.replying (released_records past tick.moment)) → IsTold past (tick ∷ past) rr
      of (inl n) = announced_told rr (of_only_if duties.announcing (announced_records tick past) rr n)
      of (inr n) = released_told rr (of_only_if duties.replying (released_records past tick.moment) rr n)

  multicast_told : (sent : Sent) (rr : Rr) → In sent (sent_multicasts duties tick past) → In rr (sections sent.message) → IsTold past (tick ∷ past) rr
  multicast_told sent rr n m =
      let answers : List Rr = multicast_answers duties tick past in
      let own : List Rr = own_records (tick ∷ past) in
      let wants : Rr → List Rr = λ r. filter (is_free past tick.moment) (wanted_by own r.rdata) in
      let found : (message : Message) × In message (pack_reply answers (map wants answers)) × (sent ≡ to_all message) = of_map to_all sent (pack_reply answers (map wants answers)) n in
      of (of_reply answers (map wants answers) found.0 rr found.1 (subst (λ s. In rr (sections s.message)) found.2 m))
    where
      of : IsFrom rr (zip (multicast_answers duties tick past) (map (λ r. filter (is_free past tick.moment) (wanted_by (own_records (tick ∷ past)) r.rdata)) (multicast_answers duties tick past))) → IsTold past (tick ∷ past) rr
      of from = by from.2
        where
          wants : Rr → List Rr
          wants r = filter (is_free past tick.moment) (wanted_by (own_records (tick ∷ past)) r.rdata)

          by : (rr ≡ (from.0).0) ⊎ In rr (from.0).1 → IsTold past (tick ∷ past) rr
          by (inl e) = answer_told rr (subst (λ r. In r (multicast_answers duties tick past)) (sym e) (of_zip_left (from.0).0 (from.0).1 (multicast_answers duties tick past) (map wants (multicast_answers duties tick past)) from.1))
          by (inr k) =
              let listed : In (from.0).1 (map wants (multicast_answers duties tick past)) = of_zip_right (from.0).0 (from.0).1 (multicast_answers duties tick past) (map wants (multicast_answers duties tick past)) from.1 in
              let found : (r : Rr) × In r (multicast_answers duties tick past) × ((from.0).1 ≡ wants r) = of_map wants (from.0).1 (multicast_answers duties tick past) listed in
              let wanted : In rr (wanted_by (own_records (tick ∷ past)) (found.0).rdata) = (of_filter (is_free past tick.moment) rr (wanted_by (own_records (tick ∷ past)) (found.0).rdata) (subst (λ zs. In rr zs) found.2 k)).0 in
              told_later past (tick ∷ past) rr (own_named (tick ∷ past) rr (of_wanted_by (own_records (tick ∷ past)) (found.0).rdata rr wanted))

  -- the records that are due to askers
  due_told : (due : List Debt) → ((debt : Debt) → In debt due → In debt (standing_debts past)) → (place : ℕ) (rr : Rr) →
      In rr (ordered record_cmp (map (λ debt. debt.rr) (filter (λ debt. debt.place == place) due))) → IsTold past (tick ∷ past) rr
  due_told due stands place rr m =
      let here : List Debt = filter (λ debt. debt.place == place) due in
      let found : (debt : Debt) × In debt here × (rr ≡ debt.rr) = of_map (λ debt. debt.rr) rr here (of_ordered record_cmp rr (map (λ debt. debt.rr) here) m) in
      told_before past (tick ∷ past) rr (subst (IsNamed past) (sym found.2) (debt_named past found.0 (stands found.0 (of_filter (λ debt. debt.place == place) found.0 due found.1).0)))

  replied_told : (heard : Heard) (rrs : List Rr) → ((rr : Rr) → In rr rrs → IsTold past (tick ∷ past) rr) → (sent : Sent) (rr : Rr) →
      In sent (reply_to heard rrs) → In rr (sections sent.message) → IsTold past (tick ∷ past) rr
  replied_told heard rrs all sent rr n m = of (heard.from.port == mdns_port) n
    where
      of : (b : Bool) → In sent (cond b (map (to_one heard.from) (pack_plain rrs)) (to_one heard.from (pack_legacy heard.message.id heard.message.questions rrs) ∷ [])) → IsTold past (tick ∷ past) rr
      of true k =
          let found : (message : Message) × In message (pack_plain rrs) × (sent ≡ to_one heard.from message) = of_map (to_one heard.from) sent (pack_plain rrs) k in
          all rr (of_plain rrs found.0 rr found.1 (subst (λ s. In rr (sections s.message)) found.2 m))
      of false (inl e) =
          let found : (r : Rr) × In r rrs × (rr ≡ plain_record r) = of_legacy heard.message.id heard.message.questions rrs rr (subst (λ s. In rr (sections s.message)) e m) in
          subst (IsTold past (tick ∷ past)) (sym found.2) (told_plainly past (tick ∷ past) found.0 (all found.0 found.1))
      of false (inr k) = absurd k

  unicast_told : (sent : Sent) (rr : Rr) → In sent (sent_unicasts past tick.moment) → In rr (sections sent.message) → IsTold past (tick ∷ past) rr
  unfolding due_unicasts
  unicast_told sent rr n m =
      let due : List Debt = due_unicasts past tick.moment in
      let places : List ℕ = each_once (λ a b. a == b) (map (λ debt. debt.place) due) in
      let found : (place : ℕ) × In place places × In sent (reply_at past due place) = of_flat_map (reply_at past due) sent places n in
      of found.0 (option_and_then heard_in (entry_at found.0 past)) found.2
    where
      rrs : ℕ → List Rr
      rrs place = ordered record_cmp (map (λ debt. debt.rr) (filter (λ debt. debt.place == place) (due_unicasts past tick.moment)))

      of : (place : ℕ) (heard : Option Heard) → In sent (reply_to_heard heard (rrs place)) → IsTold past (tick ∷ past) rr
      of place None k = absurd k
      of place (Some heard) k =
          replied_told heard (rrs place) (due_told (due_unicasts past tick.moment) (λ debt d. (of_filter _ debt (standing_debts past) d).0) place) sent rr k m

  -- What a tick's responses tell is published, and is a PTR record or has the name of a sure group.
  pub tick_told : (sent : Sent) (rr : Rr) → In sent (tick_sends duties tick past) → sent.message.response ≡ true → In rr (sections sent.message) → IsTold past (tick ∷ past) rr
  unfolding tick_sends
  tick_told sent rr n response m =
      first (of_append sent (only_if duties.claiming (sent_probes past tick.moment)) _ n)
    where
      queries : List Sent
      queries = sent_queries (tick_askings past tick.moment) past tick.moment

      unicasts : List Sent
      unicasts = sent_unicasts past tick.moment

      third : In sent (sent_multicasts duties tick past) ⊎ In sent (only_if duties.replying unicasts) → IsTold past (tick ∷ past) rr
      third (inl k) = multicast_told sent rr k m
      third (inr k) = unicast_told sent rr (of_only_if duties.replying unicasts sent k) m

      second : In sent (only_if duties.asking queries) ⊎ In sent (sent_multicasts duties tick past ++ only_if duties.replying unicasts) → IsTold past (tick ∷ past) rr
      second (inl k) =
          let keys : List Key = filter_map key_in_mark (tick_askings past tick.moment) in
          let known : List Rr = ordered record_cmp (flat_map (λ key. known_answers key past tick.moment) keys) in
          let found : (message : Message) × In message (pack_query keys known) × (sent ≡ to_all message) = of_map to_all sent (pack_query keys known) (of_only_if duties.asking queries sent k) in
          let silent : (found.0).response ≡ false = (query_opens keys known found.0 found.1).query in
          absurd (both_no sent.message.response response (ap (λ s. s.message.response) found.2 ∙ silent))
      second (inr k) = third (of_append sent (sent_multicasts duties tick past) (only_if duties.replying unicasts) k)

      first : In sent (only_if duties.claiming (sent_probes past tick.moment)) ⊎ In sent (only_if duties.asking queries ++ (sent_multicasts duties tick past ++ only_if duties.replying unicasts)) → IsTold past (tick ∷ past) rr
      first (inl k) =
          let found : (group : Group) × In group (probed_groups past tick.moment) × (sent ≡ to_all (probe_message group past)) =
          of_map (λ group. to_all (probe_message group past)) sent (probed_groups past tick.moment) (of_only_if duties.claiming (sent_probes past tick.moment) sent k) in
          absurd (both_no sent.message.response response (ap (λ s. s.message.response) found.2))
      first (inr k) = second (of_append sent (only_if duties.asking queries) (sent_multicasts duties tick past ++ only_if duties.replying unicasts) k)
