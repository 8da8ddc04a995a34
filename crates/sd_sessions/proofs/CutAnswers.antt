-- The marks of sessions that an entry cuts, what it gives and the outcome of a take change no answer: no test of groups, sureness and hearings sees them.
use Rattle.std.proofs.Common.{◌≡◌, ℕ, ◌==◌, Bool, true, false, cond, not, ◌&&◌, ◌||◌, List, [], ◌∷◌, ◌++◌, map, refl, ap, ◌∙◌, append-nil, None}
use Rattle.std.specs.Prelude.{filter, reverse, slice_get, ◌+◌}
use Rattle.std.specs.List.{list_any, find, flat_map, filter_map, cons_option}
use Rattle.std.specs.Option.{option_or, option_map, option_map_or, option_to_list, unwrap_or}
use Rattle.std.proofs.lemmas.List.Folds.{list_any-append}
use Rattle.std.proofs.lemmas.List.Elements.{filter_map-append}
use Rattle.sd_call.specs.Requests.{is_register}
use Rattle.sd_call.specs.declared.answer.Answer.TheVariants.{Conflict}
use Rattle.mdns_history.specs.declared.mark.Mark.{Mark}
use Rattle.mdns_history.specs.declared.mark.Mark.TheVariants as mark
use Rattle.mdns_history.specs.declared.operation.Operation.{Operation}
use Rattle.mdns_history.specs.declared.entry.Entry.{Entry}
use Rattle.mdns_history.specs.History.{latest, since, has_mark, moment_if, is_tick, config_of}
use Rattle.mdns_history.specs.Hearings.{is_refusal, brought, counted_records, hearing_of, hearings_in, heard_in, hearings}
use Rattle.mdns_history.specs.Lifetimes.{live_of, live_records}
use Rattle.mdns_history.specs.Sessions.{ends_operation, present_txt, operation_request, operations_of}
use Rattle.mdns_history.specs.Groups.{Group, groups, group_name, group_records, numbered_name, number_of, number_in_mark, renaming, names_of, is_failure_of, begun_in, registration_in, registered_count, host_group, host_of, host_name, unique_records, shared_records, address_records, service_unique, service_shared}
use Rattle.mdns_history.specs.Sureness.{registers, is_setback_of, sets_back, probes, probe_moments, tick_moments, are_settled, is_sure, sure_groups, own_records}
use Rattle.mdns_history.specs.Answers.{answers_over, known_records, named_if, answers}
use Rattle.mdns_history.specs.InForce.{Duties}
use Rattle.mdns_history.specs.Items.{cut_marks}
use Rattle.mdns_history.specs.Outcomes.{late_outcome}
use Rattle.mdns_history.specs.declared.event.Event.{Event}
use Rattle.mdns_history.specs.declared.event.Event.TheVariants as event
use Rattle.mdns_history.specs.declared.entry.Given.{Given}
use Rattle.mdns_history.specs.declared.entry.Sent.{Sent}
use Rattle.mdns_history.specs.declared.entry.Outcome.{Outcome}
use Rattle.mdns_history.proofs.AllOpen.{all_open}
use Rattle.sd_sessions.proofs.EntryParts.{marked, cutting, giving, entry_after, entry_is}

module _ (entry : Entry) (past : List Entry) (ns : List ℕ) where
  abbrev cuts : List Mark
  cuts = map (λ session. mark.Cut session) ns

  abbrev cut : Entry
  cut = record entry { marks = entry.marks ++ cuts }

  abbrev before : List Entry
  before = entry ∷ past

  abbrev after : List Entry
  after = cut ∷ past

  -- a test that no such mark passes
  same_mark : (test : Mark → Bool) → ((session : ℕ) → test (mark.Cut session) ≡ false) → has_mark test cut ≡ has_mark test entry
  same_mark test never = list_any-append test entry.marks cuts ∙ ap (λ b. list_any test entry.marks || b) (none ns) ∙ or_false (list_any test entry.marks)
    where
      none : (sessions : List ℕ) → list_any test (map (λ session. mark.Cut session) sessions) ≡ false
      none [] = refl
      none (session ∷ sessions) = (λ i. never session i || none sessions i)

      or_false : (b : Bool) → (b || false) ≡ b
      or_false true = refl
      or_false false = refl

  same_renaming : (id : ℕ) → renaming id cut ≡ renaming id entry
  same_renaming id = ap (λ l. slice_get l 0) (filter_map-append (number_in_mark id) entry.marks cuts ∙ ap (λ l. filter_map (number_in_mark id) entry.marks ++ l) (none ns) ∙ append-nil (filter_map (number_in_mark id) entry.marks))
    where
      none : (sessions : List ℕ) → filter_map (number_in_mark id) (map (λ session. mark.Cut session) sessions) ≡ []
      none [] = refl
      none (session ∷ sessions) = none sessions

  same_groups : groups after ≡ groups before
  unfolding groups registration_in
  same_groups = λ i. filter (λ group. not (ends_operation group.session group.op entry || same_mark (is_failure_of group.id) (λ session. refl) i)) (groups past) ++ option_to_list (begun_in entry (registered_count past + 1) (names_of (groups past) past))

  same_name : (group : Group) → group_name group after ≡ group_name group before
  unfolding group_name number_of
  same_name group = λ i. numbered_name group (unwrap_or (option_or (same_renaming group.id i) (latest (renaming group.id) past)) group.first)

  same_setback : (id : ℕ) → sets_back id cut past ≡ sets_back id entry past
  unfolding registration_in
  same_setback id = λ i. registers id entry past || same_mark (is_setback_of id) (λ session. refl) i

  same_probes : (group : Group) → probe_moments group after ≡ probe_moments group before
  unfolding probe_moments
  same_probes group = λ i. cond (same_setback group.id i) [] (cons_option (moment_if (probes (same_name group i) entry) entry.moment) (since (sets_back group.id) (λ x. moment_if (probes (same_name group i) x) x.moment) past))

  same_ticks : (group : Group) → tick_moments group after ≡ tick_moments group before
  unfolding tick_moments
  same_ticks group = λ i. cond (same_setback group.id i) [] (cons_option (moment_if (is_tick entry.event) entry.moment) (since (sets_back group.id) (λ x. moment_if (is_tick x.event) x.moment) past))

  same_sure : (group : Group) → is_sure group after ≡ is_sure group before
  unfolding is_sure
  same_sure group = λ i. list_any (λ one. one.id == group.id) (same_groups i) && are_settled (same_probes group i) (same_ticks group i)

  same_txt : (session op : ℕ) → present_txt session op after ≡ present_txt session op before
  unfolding present_txt operation_request operations_of
  same_txt session op = refl

  same_host : host_name after ≡ host_name before
  unfolding host_name
  same_host = λ i. unwrap_or (option_map (λ host. same_name (host_group host) i) (host_of before)) []

  same_unique : (group : Group) → unique_records group after ≡ unique_records group before
  unfolding unique_records
  same_unique group = λ i. cond (group.id == 0) (flat_map (address_records (same_name group i)) (option_to_list (config_of before))) (service_unique (same_name group i) group.port (same_txt group.session group.op i) (same_host i))

  same_shared : (group : Group) → shared_records group after ≡ shared_records group before
  unfolding shared_records
  same_shared group = λ i. cond (group.id == 0) [] (service_shared (same_name group i) group.type)

  same_own : own_records after ≡ own_records before
  unfolding own_records sure_groups group_records
  same_own = λ i. flat_map (λ group. same_unique group i ++ same_shared group i) (filter (λ group. same_sure group i) (same_groups i))

  same_live : live_records after entry.moment ≡ live_records before entry.moment
  unfolding live_records hearings heard_in
  same_live = λ i. live_of (reverse (map (hearing_of entry) (counted_records (cond (same_mark is_refusal (λ session. refl) i) None (brought entry.event)))) ++ flat_map hearings_in past) entry.moment

  same_answers : (operation : Operation) → answers operation after ≡ answers operation before
  unfolding answers known_records
  same_answers operation = λ i.
      cond (is_register operation.request)
      (option_map_or (λ group. named_if (same_sure group i) (same_name group i)) (find (λ group. (group.session == operation.session) && (group.op == operation.op)) (same_groups i)) (Conflict ∷ []))
      (answers_over operation.request (map (λ held. held.rr) (same_live i) ++ same_own i))

-- an entry from its parts
abbrev entry_with : ℕ → ℕ → List Mark → List Sent → List Given → Event → Outcome → Entry
entry_with moment word marks sent given event outcome = record { moment = moment; word = word; event = event; marks = marks; sent = sent; given = given; outcome = outcome }

answers-late : (operation : Operation) (moment word : ℕ) (marks : List Mark) (sent : List Sent) (given : List Given) (ev : Event) (early : Outcome) (history past : List Entry) →
    answers operation (entry_with moment word marks sent given ev (late_outcome ev early history) ∷ past) ≡ answers operation (entry_with moment word marks sent [] ev early ∷ past)
unfolding all_open
answers-late operation moment word marks sent given (event.Boot config) early history past = refl
answers-late operation moment word marks sent given event.Attach early history past = refl
answers-late operation moment word marks sent given (event.Detach session) early history past = refl
answers-late operation moment word marks sent given (event.Call session op request) early history past = refl
answers-late operation moment word marks sent given (event.Hear from bytes) early history past = refl
answers-late operation moment word marks sent given event.Tick early history past = refl
answers-late operation moment word marks sent given (event.Take session max) early history past = refl

module _ (duties : Duties) (past : List Entry) (moment word : ℕ) (ev : Event) where
  -- The marks of cut sessions change no answer.
  pub answers-cutting : (operation : Operation) → answers operation (cutting duties past moment word ev ∷ past) ≡ answers operation (marked duties past moment word ev ∷ past)
  unfolding cut_marks
  answers-cutting operation = same_answers (marked duties past moment word ev) past _ operation

  -- Nor does what the entry gives, nor a take's outcome.
  pub answers-after : (operation : Operation) → answers operation (entry_after duties past moment word ev ∷ past) ≡ answers operation (marked duties past moment word ev ∷ past)
  answers-after operation =
      let e : Entry = cutting duties past moment word ev in
      let g : Entry = giving duties past moment word ev in
      ap (λ whole. answers operation (whole ∷ past)) (entry_is duties past moment word ev)
      ∙ answers-late operation moment word e.marks e.sent g.given ev e.outcome (g ∷ past) past
      ∙ answers-cutting operation
