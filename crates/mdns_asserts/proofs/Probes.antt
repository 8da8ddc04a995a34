-- What a daemon probes: names of groups that are due, and nothing where claiming is no duty.
use Rattle.std.proofs.Common.{◌≡◌, ℕ, ◌==◌, ◌⊎◌, inl, inr, Bool, true, false, cond, not, ◌&&◌, ◌||◌, List, [], ◌∷◌, ◌++◌, map, Option, Some, None, refl, ap, subst, ◌∙◌, sym}
use Rattle.std.specs.Prelude.{filter, nat_lt, length}
use Rattle.std.specs.List.{list_any, flat_map, filter_map, cons_option}
use Rattle.std.specs.Option.{option_and_then}
use Rattle.mdns_base.specs.Hosts.{mdns_port}
use Rattle.dns_name.specs.Names.{folded_eq}
use Rattle.lists.specs.Lists.{ordered, each_once, without}
use Rattle.dns_record.specs.declared.record.Rr.{Rr}
use Rattle.dns_record.specs.declared.record.Key.{Key}
use Rattle.dns_record.specs.Records.{any_kind, same, record_cmp}
use Rattle.dns_message.specs.declared.message.Message.{Message}
use Rattle.dns_message.specs.Packing.{pack_query, pack_reply, pack_plain, pack_legacy}
use Rattle.mdns_history.specs.declared.event.Event.{Event}
use Rattle.mdns_history.specs.declared.event.Event.TheVariants as event
use Rattle.mdns_history.specs.declared.entry.Sent.{Sent}
use Rattle.mdns_history.specs.declared.entry.Entry.{Entry}
use Rattle.mdns_history.specs.InForce.{Duties, only_if}
use Rattle.mdns_history.specs.History.{since, moment_if}
use Rattle.mdns_history.specs.Hearings.{Heard, heard_in}
use Rattle.mdns_history.specs.Groups.{Group, group_name, group_records}
use Rattle.mdns_history.specs.Sureness.{sets_back, is_any_question, is_probe, probes, probe_moments, own_records}
use Rattle.mdns_history.specs.Probing.{probed_groups}
use Rattle.mdns_history.specs.Claims.{was_probed}
use Rattle.mdns_history.specs.Asking.{known_answers, tick_askings}
use Rattle.mdns_history.specs.Debts.{Debt}
use Rattle.mdns_history.specs.Multicasts.{due_unicasts}
use Rattle.mdns_history.specs.Sending.{to_all, to_one, probe_message, sent_probes, key_in_mark, sent_queries, wanted_by, is_free, multicast_answers, sent_multicasts, entry_at, reply_to, reply_to_heard, reply_at, sent_unicasts, tick_sends, taken_back, ended_groups, sent_goodbyes}
use Rattle.mdns_history.specs.Fitting.{bare_entry, event_sends, next_entry, IsLegalFrom}
use Rattle.mdns_asserts.proofs.Elements.{In, none_in, of_any, of_append, of_map, of_flat_map, both_no}
use Rattle.mdns_asserts.proofs.Packed.{plain_responds, reply_responds, legacy_responds, IsOpenQuery, query_opens}
use Rattle.mdns_asserts.proofs.Followed.{sent-next, of_only_if}

-- a probe of a name by a group that is due at a moment, where claiming is a duty
pub record IsProbing (claiming : Bool) (past : List Entry) (moment : ℕ) (name : List (List ℕ)) (sent : Sent) : Type 0 where
  pub dutiful : claiming ≡ true
  pub group : Group
  pub due : In group (probed_groups past moment)
  pub named : folded_eq (group_name group past) name ≡ true
  pub sends : sent ≡ to_all (probe_message group past)

response_no_probe : (name : List (List ℕ)) (message : Message) → message.response ≡ true → is_probe name message ≡ false
response_no_probe name message e = ap (λ b. not b && list_any (is_any_question name) message.questions) e

open_no_probe : (name : List (List ℕ)) (message : Message) → IsOpenQuery message → is_probe name message ≡ false
open_no_probe name message o =
    ap (λ b. not b && list_any (is_any_question name) message.questions) o.query
    ∙ none_in (is_any_question name) message.questions (λ question m. ap (λ b. folded_eq question.name name && (question.kind == any_kind) && b) (o.asked question m) ∙ no (folded_eq question.name name && (question.kind == any_kind)))
  where
    no : (b : Bool) → (b && false) ≡ false
    no true = refl
    no false = refl

module _ (name : List (List ℕ)) (duties : Duties) (tick : Entry) (past : List Entry) where
  replies_no_probe : (heard : Heard) (rrs : List Rr) (sent : Sent) → In sent (reply_to heard rrs) → sent.message.response ≡ true
  replies_no_probe heard rrs sent n = of (heard.from.port == mdns_port) n
    where
      of : (b : Bool) → In sent (cond b (map (to_one heard.from) (pack_plain rrs)) (to_one heard.from (pack_legacy heard.message.id heard.message.questions rrs) ∷ [])) → sent.message.response ≡ true
      of true k =
          let found : (message : Message) × In message (pack_plain rrs) × (sent ≡ to_one heard.from message) = of_map (to_one heard.from) sent (pack_plain rrs) k in
          ap (λ s. s.message.response) found.2 ∙ plain_responds rrs found.0 found.1
      of false (inl e) = ap (λ s. s.message.response) e ∙ legacy_responds heard.message.id heard.message.questions rrs
      of false (inr k) = absurd k

  unicast_responds : (sent : Sent) → In sent (sent_unicasts past tick.moment) → sent.message.response ≡ true
  unicast_responds sent n =
      let due : List Debt = due_unicasts past tick.moment in
      let found : (place : ℕ) × In place (each_once (λ a b. a == b) (map (λ debt. debt.place) due)) × In sent (reply_at past due place) =
      of_flat_map (reply_at past due) sent (each_once (λ a b. a == b) (map (λ debt. debt.place) due)) n in
      of (option_and_then heard_in (entry_at found.0 past)) _ found.2
    where
      of : (heard : Option Heard) (rrs : List Rr) → In sent (reply_to_heard heard rrs) → sent.message.response ≡ true
      of None rrs k = absurd k
      of (Some heard) rrs k = replies_no_probe heard rrs sent k

  multicast_responds : (sent : Sent) → In sent (sent_multicasts duties tick past) → sent.message.response ≡ true
  multicast_responds sent n =
      let answers : List Rr = multicast_answers duties tick past in
      let wanted : List (List Rr) = map (λ rr. filter (is_free past tick.moment) (wanted_by (own_records (tick ∷ past)) rr.rdata)) answers in
      let found : (message : Message) × In message (pack_reply answers wanted) × (sent ≡ to_all message) = of_map to_all sent (pack_reply answers wanted) n in
      ap (λ s. s.message.response) found.2 ∙ reply_responds answers wanted found.0 found.1

  -- a probe among what a tick sends is of a group that is due, and claiming is a duty
  pub tick_probe : (sent : Sent) → In sent (tick_sends duties tick past) → is_probe name sent.message ≡ true → IsProbing duties.claiming past tick.moment name sent
  unfolding tick_sends
  tick_probe sent n probing = first (of_append sent (only_if duties.claiming (sent_probes past tick.moment)) _ n)
    where
      queries : List Sent
      queries = sent_queries (tick_askings past tick.moment) past tick.moment

      none : is_probe name sent.message ≡ false → IsProbing duties.claiming past tick.moment name sent
      none e = absurd (both_no (is_probe name sent.message) probing e)

      third : In sent (sent_multicasts duties tick past) ⊎ In sent (only_if duties.replying (sent_unicasts past tick.moment)) → IsProbing duties.claiming past tick.moment name sent
      third (inl k) = none (response_no_probe name sent.message (multicast_responds sent k))
      third (inr k) = none (response_no_probe name sent.message (unicast_responds sent (of_only_if duties.replying (sent_unicasts past tick.moment) sent k)))

      second : In sent (only_if duties.asking queries) ⊎ In sent (sent_multicasts duties tick past ++ only_if duties.replying (sent_unicasts past tick.moment)) → IsProbing duties.claiming past tick.moment name sent
      second (inl k) = none (asks duties.asking k)
        where
          asks : (b : Bool) → In sent (only_if b queries) → is_probe name sent.message ≡ false
          asks false m = absurd m
          asks true m =
              let keys : List Key = filter_map key_in_mark (tick_askings past tick.moment) in
              let known : List Rr = ordered record_cmp (flat_map (λ key. known_answers key past tick.moment) keys) in
              let found : (message : Message) × In message (pack_query keys known) × (sent ≡ to_all message) = of_map to_all sent (pack_query keys known) m in
              ap (λ s. is_probe name s.message) found.2 ∙ open_no_probe name found.0 (query_opens keys known found.0 found.1)
      second (inr k) = third (of_append sent (sent_multicasts duties tick past) _ k)

      first : In sent (only_if duties.claiming (sent_probes past tick.moment)) ⊎ In sent (only_if duties.asking queries ++ (sent_multicasts duties tick past ++ only_if duties.replying (sent_unicasts past tick.moment))) →
          IsProbing duties.claiming past tick.moment name sent
      first (inl k) = claimed duties.claiming refl k
        where
          claimed : (b : Bool) → duties.claiming ≡ b → In sent (only_if b (sent_probes past tick.moment)) → IsProbing duties.claiming past tick.moment name sent
          claimed false e m = absurd m
          claimed true e m =
              let found : (group : Group) × In group (probed_groups past tick.moment) × (sent ≡ to_all (probe_message group past)) = of_map (λ group. to_all (probe_message group past)) sent (probed_groups past tick.moment) m in
              let asked : is_probe name (probe_message found.0 past) ≡ true = sym (ap (λ s. is_probe name s.message) found.2) ∙ probing in
              record { dutiful = e; group = found.0; due = found.1; named = named found.0 asked; sends = found.2 }
            where
              named : (group : Group) → is_probe name (probe_message group past) ≡ true → folded_eq (group_name group past) name ≡ true
              named group h = of (folded_eq (group_name group past) name) h
                where
                  of : (b : Bool) → ((b && true && true) || false) ≡ true → b ≡ true
                  of true g = refl
                  of false g = cc
      first (inr k) = second (of_append sent (only_if duties.asking queries) _ k)

  goodbye_no_probe : (sent : Sent) → In sent (only_if duties.announcing (sent_goodbyes tick past)) → is_probe name sent.message ≡ false
  unfolding sent_goodbyes
  goodbye_no_probe sent n = of duties.announcing n
    where
      of : (b : Bool) → In sent (only_if b (sent_goodbyes tick past)) → is_probe name sent.message ≡ false
      of false m = absurd m
      of true m =
          let rrs : List Rr = map taken_back (without same (ordered record_cmp (flat_map (λ group. group_records group past) (ended_groups tick past))) (own_records (tick ∷ past))) in
          let found : (message : Message) × In message (pack_plain rrs) × (sent ≡ to_all message) = of_map to_all sent (pack_plain rrs) m in
          ap (λ s. is_probe name s.message) found.2 ∙ response_no_probe name found.0 (plain_responds rrs found.0 found.1)

  -- a probe among what an entry sends
  pub sent_probe : (ev : Event) (sent : Sent) → In sent (event_sends duties tick past ev) → is_probe name sent.message ≡ true → IsProbing duties.claiming past tick.moment name sent
  sent_probe event.Tick sent n probing = tick_probe sent n probing
  sent_probe (event.Boot config) sent n probing = absurd (both_no (is_probe name sent.message) probing (goodbye_no_probe sent n))
  sent_probe event.Attach sent n probing = absurd (both_no (is_probe name sent.message) probing (goodbye_no_probe sent n))
  sent_probe (event.Detach session) sent n probing = absurd (both_no (is_probe name sent.message) probing (goodbye_no_probe sent n))
  sent_probe (event.Call session op request) sent n probing = absurd (both_no (is_probe name sent.message) probing (goodbye_no_probe sent n))
  sent_probe (event.Hear from bytes) sent n probing = absurd (both_no (is_probe name sent.message) probing (goodbye_no_probe sent n))
  sent_probe (event.Take session max) sent n probing = absurd (both_no (is_probe name sent.message) probing (goodbye_no_probe sent n))

-- a probe that an entry that follows sends
pub probe_sent : (name : List (List ℕ)) (duties : Duties) (entry : Entry) (past : List Entry) → entry ≡ next_entry duties past entry.moment entry.word entry.event →
    (sent : Sent) → In sent entry.sent → is_probe name sent.message ≡ true → IsProbing duties.claiming past entry.moment name sent
probe_sent name duties entry past determined sent n probing =
    let b : Entry = bare_entry entry.moment entry.word entry.event past in
    let sent_is : entry.sent ≡ event_sends duties b past entry.event = ap (λ e. e.sent) determined ∙ sent-next duties past entry.moment entry.word entry.event in
    sent_probe name duties b past entry.event sent (subst (λ sends. In sent sends) sent_is n) probing

-- what such an entry probes
pub entry_probes : (name : List (List ℕ)) (duties : Duties) (entry : Entry) (past : List Entry) → entry ≡ next_entry duties past entry.moment entry.word entry.event → probes name entry ≡ true →
    (sent : Sent) × IsProbing duties.claiming past entry.moment name sent
entry_probes name duties entry past determined probing =
    let found : (sent : Sent) × In sent entry.sent × (is_probe name sent.message ≡ true) = of_any (λ sent. is_probe name sent.message) entry.sent probing in
    (found.0, probe_sent name duties entry past determined found.0 found.1 found.2)

-- where claiming is no duty no probe is sent
pub unprobed : (name : List (List ℕ)) (duties : Duties) (entry : Entry) (past : List Entry) → entry ≡ next_entry duties past entry.moment entry.word entry.event → duties.claiming ≡ false → probes name entry ≡ false
unprobed name duties entry past determined idle = of (probes name entry) refl
  where
    of : (b : Bool) → probes name entry ≡ b → probes name entry ≡ false
    of true e = let claims : duties.claiming ≡ true = (entry_probes name duties entry past determined e).1.dutiful in absurd (both_no duties.claiming claims idle)
    of false e = e

-- nothing is said of entries of which nothing is said
since_none : {X : Type 0} (test : Entry → List Entry → Bool) (f : Entry → Option X) (entry : Entry) (past : List Entry) → f entry ≡ None → since test f past ≡ [] → since test f (entry ∷ past) ≡ []
since_none test f entry past e h = of (test entry past)
  where
    of : (b : Bool) → cond b [] (cons_option (f entry) (since test f past)) ≡ []
    of true = refl
    of false = ap (λ o. cons_option o (since test f past)) e ∙ h

never_since : (name : List (List ℕ)) (duties : Duties) → duties.claiming ≡ false → (test : Entry → List Entry → Bool) (entry : Entry) (past : List Entry) → IsLegalFrom duties entry past →
    since test (λ e. moment_if (probes name e) e.moment) (entry ∷ past) ≡ []
never_since name duties idle test entry [] legal =
    since_none test (λ e. moment_if (probes name e) e.moment) entry [] (ap (λ e. moment_if (probes name e) entry.moment) legal.3) refl
never_since name duties idle test entry (before ∷ past) legal =
    since_none test (λ e. moment_if (probes name e) e.moment) entry (before ∷ past)
    (ap (λ b. moment_if b entry.moment) (unprobed name duties entry (before ∷ past) (legal.0).determined idle)) (never_since name duties idle test before past legal.1)

pub never_probed : (duties : Duties) → duties.claiming ≡ false → (group : Group) (entry : Entry) (past : List Entry) → IsLegalFrom duties entry past → was_probed group (entry ∷ past) ≡ false
unfolding was_probed probe_moments
never_probed duties idle group entry past legal =
    ap (λ (ms : List ℕ). nat_lt 0 (length ms)) (never_since (group_name group (entry ∷ past)) duties idle (sets_back group.id) entry past legal)
