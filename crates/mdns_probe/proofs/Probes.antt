-- Which names an entry probes: a tick those of the groups whose probe is due, and every other entry none.
use Rattle.std.proofs.Common.{◌≡◌, ℕ, ◌==◌, Bool, true, false, cond, ◌&&◌, ◌||◌, List, [], ◌∷◌, ◌++◌, map, zip, refl, ap, sym, subst, ◌∙◌, Option, Some, None}
use Rattle.std.specs.Prelude.{filter}
use Rattle.std.specs.List.{list_any, flat_map, filter_map}
use Rattle.std.specs.Option.{option_and_then}
use Rattle.std.proofs.lemmas.List.Folds.{list_any-append}
use Rattle.mdns_base.specs.Hosts.{mdns_port}
use Rattle.lists.specs.Lists.{without, each_once, ordered}
use Rattle.dns_name.specs.Names.{folded_eq}
use Rattle.dns_record.specs.declared.record.Rr.{Rr}
use Rattle.dns_record.specs.declared.record.Key.{Key}
use Rattle.dns_record.specs.Records.{same, any_kind, matches, record_cmp}
use Rattle.dns_message.specs.declared.message.Message.{Message}
use Rattle.dns_message.specs.Packing.{question_for, query_chain, batch_messages, pack_query, bare_reply, bare_query, fits, parts_from, parts_of, pack_plain, pack_reply, replies_of, Wanting, answers_in, wanted_in, fitting_additional, pack_legacy}
use Rattle.mdns_history.specs.declared.event.Event.{Event}
use Rattle.mdns_history.specs.declared.event.Event.TheVariants as event
use Rattle.mdns_history.specs.declared.mark.Mark.{Mark}
use Rattle.mdns_history.specs.declared.entry.Sent.{Sent}
use Rattle.mdns_history.specs.declared.entry.Entry.{Entry}
use Rattle.mdns_history.specs.InForce.{Duties, only_if}
use Rattle.mdns_history.specs.History.{is_tick}
use Rattle.mdns_history.specs.Hearings.{Heard, heard_in}
use Rattle.mdns_history.specs.Groups.{Group, groups, group_records, group_name, names_of, is_taken}
use Rattle.mdns_history.specs.Sureness.{own_records, is_any_question, is_probe, probes}
use Rattle.mdns_history.specs.Probing.{is_probed_at, probed_groups}
use Rattle.mdns_history.specs.Asking.{known_answers, tick_askings}
use Rattle.mdns_history.specs.Debts.{Debt}
use Rattle.mdns_history.specs.Multicasts.{due_unicasts}
use Rattle.mdns_history.specs.Sending.{to_all, to_one, probe_message, sent_probes, sent_queries, sent_multicasts, sent_unicasts, reply_to, reply_to_heard, reply_at, entry_at, key_in_mark, multicast_answers, tick_sends, taken_back, ended_groups, is_free, wanted_by, sent_goodbyes}
use Rattle.mdns_history.specs.Fitting.{next_entry}
use Rattle.mdns_probe.proofs.Settling.{and_false}
use Rattle.dns_name.proofs.Folding.{folded_eq-tells}
use Rattle.lists.proofs.InOrder.{none-filter}
use Rattle.std.proofs.lemmas.List.{map-append}
use Rattle.std.proofs.lemmas.List.Elements.{filter-append}
use Rattle.mdns_probe.proofs.Distinct.{AreApart, neither, taken-append, turned_about}
use Rattle.mdns_probe.proofs.Legal.{entry_after, bare}

module _ (name : List (List ℕ)) where
  abbrev probing : Sent → Bool
  probing sent = is_probe name sent.message

  none_of : {X : Type 0} (f : X → Message) → ((x : X) → is_probe name (f x) ≡ false) → (xs : List X) → list_any (is_probe name) (map f xs) ≡ false
  none_of f never [] = refl
  none_of f never (x ∷ xs) = (λ i. never x i || none_of f never xs i)

  sent_all : (ms : List Message) → list_any probing (map to_all ms) ≡ list_any (is_probe name) ms
  sent_all [] = refl
  sent_all (m ∷ ms) = ap (λ b. is_probe name m || b) (sent_all ms)

  -- no reply is a probe

  plain_none : (rrs : List Rr) → list_any (is_probe name) (pack_plain rrs) ≡ false
  unfolding pack_plain
  plain_none rrs = none_of bare_reply (λ part. refl) (parts_of (λ part. fits (bare_reply part)) rrs)

  replies_none : (all before : List Rr) (parts : List (List Wanting)) → list_any (is_probe name) (replies_of all before parts) ≡ false
  replies_none all before [] = refl
  replies_none all before (part ∷ parts) = replies_none all (before ++ fitting_additional (answers_in part) [] (without same (wanted_in part) (all ++ before))) parts

  reply_none : (rrs : List Rr) (wanted : List (List Rr)) → list_any (is_probe name) (pack_reply rrs wanted) ≡ false
  unfolding pack_reply
  reply_none rrs wanted = replies_none rrs [] (parts_of (λ part. fits (bare_reply (answers_in part))) (zip rrs wanted))

  -- no query of questions is a probe

  questions_none : (keys : List Key) → list_any (is_any_question name) (map question_for keys) ≡ false
  questions_none [] = refl
  questions_none (key ∷ keys) = (λ i. and_false (folded_eq key.name name && (key.kind == any_kind)) i || questions_none keys i)

  chain_none : (keys : List Key) (parts : List (List Rr)) → list_any (is_probe name) (query_chain (map question_for keys) parts) ≡ false
  chain_none keys [] = refl
  chain_none keys (part ∷ []) = (λ i. questions_none keys i || false)
  chain_none keys (part ∷ next ∷ more) = (λ i. questions_none keys i || chain_none [] (next ∷ more) i)

  batch_none : (known : List Rr) (batch : List Key) → list_any (is_probe name) (batch_messages known batch) ≡ false
  batch_none known batch =
      chain_none batch (parts_from (λ rrs. fits (bare_query (map question_for batch) rrs)) (λ rrs. fits (bare_query [] rrs)) [] (filter (λ rr. list_any (λ key. matches key rr) batch) known))

  batches_none : (known : List Rr) (batches : List (List Key)) → list_any (is_probe name) (flat_map (batch_messages known) batches) ≡ false
  batches_none known [] = refl
  batches_none known (batch ∷ batches) =
      list_any-append (is_probe name) (batch_messages known batch) (flat_map (batch_messages known) batches)
      ∙ (λ i. batch_none known batch i || batches_none known batches i)

  query_none : (keys : List Key) (known : List Rr) → list_any (is_probe name) (pack_query keys known) ≡ false
  unfolding pack_query
  query_none keys known = batches_none known (parts_of (λ batch. fits (bare_query (map question_for batch) [])) keys)

  -- a probe of a group is one of each name that is one with its own
  probes_of : (past : List Entry) (gs : List Group) → list_any probing (map (λ group. to_all (probe_message group past)) gs) ≡ list_any (λ group. folded_eq (group_name group past) name) gs
  probes_of past [] = refl
  probes_of past (group ∷ gs) = (λ i. own (folded_eq (group_name group past) name) i || probes_of past gs i)
    where
      own : (b : Bool) → (b && true && true || false) ≡ b
      own true = refl
      own false = refl

  if_none : (b : Bool) (sent : List Sent) → list_any probing sent ≡ false → list_any probing (only_if b sent) ≡ false
  if_none true sent e = e
  if_none false sent e = refl

  to_one_none : (heard : Heard) (ms : List Message) → list_any (is_probe name) ms ≡ false → list_any probing (map (to_one heard.from) ms) ≡ false
  to_one_none heard [] e = refl
  to_one_none heard (m ∷ ms) e = let parts = neither (is_probe name m) (list_any (is_probe name) ms) e in (λ i. parts.0 i || to_one_none heard ms parts.1 i)

  reply_to_none : (heard : Heard) (rrs : List Rr) → list_any probing (reply_to heard rrs) ≡ false
  unfolding pack_legacy
  reply_to_none heard rrs = of (heard.from.port == mdns_port)
    where
      of : (b : Bool) → list_any probing (cond b (map (to_one heard.from) (pack_plain rrs)) (to_one heard.from (pack_legacy heard.message.id heard.message.questions rrs) ∷ [])) ≡ false
      of true = to_one_none heard (pack_plain rrs) (plain_none rrs)
      of false = refl

  heard_none : (o : Option Heard) (rrs : List Rr) → list_any probing (reply_to_heard o rrs) ≡ false
  heard_none None rrs = refl
  heard_none (Some heard) rrs = reply_to_none heard rrs

  unicasts_none : (past : List Entry) (due : List Debt) (places : List ℕ) → list_any probing (flat_map (reply_at past due) places) ≡ false
  unicasts_none past due [] = refl
  unicasts_none past due (place ∷ places) =
      list_any-append probing (reply_at past due place) (flat_map (reply_at past due) places)
      ∙ (λ i. heard_none (option_and_then heard_in (entry_at place past)) (ordered record_cmp (map (λ debt. debt.rr) (filter (λ debt. debt.place == place) due))) i || unicasts_none past due places i)

  goodbyes_none : (entry : Entry) (past : List Entry) → list_any probing (sent_goodbyes entry past) ≡ false
  unfolding sent_goodbyes
  goodbyes_none entry past =
      let rrs : List Rr = map taken_back (without same (ordered record_cmp (flat_map (λ group. group_records group past) (ended_groups entry past))) (own_records (entry ∷ past))) in
      sent_all (pack_plain rrs) ∙ plain_none rrs

  multicasts_none : (duties : Duties) (entry : Entry) (past : List Entry) → list_any probing (sent_multicasts duties entry past) ≡ false
  multicasts_none duties entry past =
      let answers : List Rr = multicast_answers duties entry past in
      let wanted : List (List Rr) = map (λ rr. filter (is_free past entry.moment) (wanted_by (own_records (entry ∷ past)) rr.rdata)) answers in
      sent_all (pack_reply answers wanted) ∙ reply_none answers wanted

-- what an entry probes

module _ (duties : Duties) (past : List Entry) (moment word : ℕ) (name : List (List ℕ)) where
  -- A tick probes the names of the groups whose probe is due.
  pub tick_probes : duties.claiming ≡ true → probes name (entry_after duties past moment word event.Tick) ≡ list_any (λ group. folded_eq (group_name group past) name) (probed_groups past moment)
  unfolding next_entry tick_sends
  tick_probes claiming =
      let entry : Entry = bare duties past moment word event.Tick in
      let askings : List Mark = tick_askings past moment in
      let keys : List Key = filter_map key_in_mark askings in
      let replies : List Sent = sent_multicasts duties entry past ++ only_if duties.replying (sent_unicasts past moment) in
      ap (λ b. list_any (probing name) (only_if b (sent_probes past moment) ++ (only_if duties.asking (sent_queries askings past moment) ++ replies))) claiming
      ∙ list_any-append (probing name) (sent_probes past moment) (only_if duties.asking (sent_queries askings past moment) ++ replies)
      ∙ (λ i. probes_of name past (probed_groups past moment) i || list_any-append (probing name) (only_if duties.asking (sent_queries askings past moment)) replies i)
      ∙ (λ i. list_any (λ group. folded_eq (group_name group past) name) (probed_groups past moment)
      || (if_none name duties.asking (sent_queries askings past moment) (sent_all name (pack_query keys (ordered record_cmp (flat_map (λ key. known_answers key past moment) keys))) ∙ query_none name keys (ordered record_cmp (flat_map (λ key. known_answers key past moment) keys))) i
      || list_any-append (probing name) (sent_multicasts duties entry past) (only_if duties.replying (sent_unicasts past moment)) i))
      ∙ (λ i. list_any (λ group. folded_eq (group_name group past) name) (probed_groups past moment)
      || (multicasts_none name duties entry past i
      || if_none name duties.replying (sent_unicasts past moment) (unicasts_none name past (due_unicasts past moment) (each_once (λ a b. a == b) (map (λ debt. debt.place) (due_unicasts past moment)))) i))
      ∙ or_false (list_any (λ group. folded_eq (group_name group past) name) (probed_groups past moment))
    where
      or_false : (b : Bool) → (b || false) ≡ b
      or_false true = refl
      or_false false = refl

  -- No other entry probes.
  pub others_probe_none : (ev : Event) → is_tick ev ≡ false → probes name (entry_after duties past moment word ev) ≡ false
  unfolding next_entry
  others_probe_none event.Tick h = absurd (cc)
  others_probe_none (event.Boot config) h = if_none name duties.announcing (sent_goodbyes (bare duties past moment word (event.Boot config)) past) (goodbyes_none name (bare duties past moment word (event.Boot config)) past)
  others_probe_none event.Attach h = if_none name duties.announcing (sent_goodbyes (bare duties past moment word event.Attach) past) (goodbyes_none name (bare duties past moment word event.Attach) past)
  others_probe_none (event.Detach session) h = if_none name duties.announcing (sent_goodbyes (bare duties past moment word (event.Detach session)) past) (goodbyes_none name (bare duties past moment word (event.Detach session)) past)
  others_probe_none (event.Call session op asked) h = if_none name duties.announcing (sent_goodbyes (bare duties past moment word (event.Call session op asked)) past) (goodbyes_none name (bare duties past moment word (event.Call session op asked)) past)
  others_probe_none (event.Hear from bytes) h = if_none name duties.announcing (sent_goodbyes (bare duties past moment word (event.Hear from bytes)) past) (goodbyes_none name (bare duties past moment word (event.Hear from bytes)) past)
  others_probe_none (event.Take session max) h = if_none name duties.announcing (sent_goodbyes (bare duties past moment word (event.Take session max)) past) (goodbyes_none name (bare duties past moment word (event.Take session max)) past)

-- Where names lie apart, the name of a group is probed exactly where its own probe is due.

alone : (past : List Entry) (due : Group → Bool) (front back : List Group) (group : Group) → AreApart (names_of (front ++ group ∷ back) past) →
    list_any (λ one. folded_eq (group_name one past) (group_name group past)) (filter due (front ++ group ∷ back)) ≡ due group
alone past due front back group apart =
    ap (list_any test) (filter-append due front (group ∷ back))
    ∙ list_any-append test (filter due front) (filter due (group ∷ back))
    ∙ (λ i. none_in front (parts front apart).0 i || here i)
  where
    test : Group → Bool
    test one = folded_eq (group_name one past) (group_name group past)

    -- names before and behind are others
    parts : (front : List Group) → AreApart (names_of (front ++ group ∷ back) past) → (list_any test front ≡ false) × (list_any test back ≡ false)
    parts [] h = (refl, turned back h.0)
      where
        turned : (gs : List Group) → is_taken (names_of gs past) (group_name group past) ≡ false → list_any test gs ≡ false
        turned [] k = refl
        turned (one ∷ gs) k =
            let both = neither (folded_eq (group_name group past) (group_name one past)) (is_taken (names_of gs past) (group_name group past)) k in
            (λ i. (turned_about (group_name one past) (group_name group past) ∙ both.0) i || turned gs both.1 i)
    parts (one ∷ front) h =
        let both = neither (is_taken (names_of front past) (group_name one past)) (folded_eq (group_name one past) (group_name group past) || is_taken (names_of back past) (group_name one past))
        (sym (taken-append (names_of front past) (names_of (group ∷ back) past) (group_name one past)) ∙ sym (ap (λ l. is_taken l (group_name one past)) (map-append (λ g. group_name g past) front (group ∷ back))) ∙ h.0) in
        let own = neither (folded_eq (group_name one past) (group_name group past)) (is_taken (names_of back past) (group_name one past)) both.1 in
        let rest = parts front h.1 in
        ((λ i. own.0 i || rest.0 i), rest.1)

    none_in : (gs : List Group) → list_any test gs ≡ false → list_any test (filter due gs) ≡ false
    none_in gs h = none-filter test due gs h

    here : list_any test (cond (due group) (group ∷ filter due back) (filter due back)) ≡ due group
    here = of (due group)
      where
        of : (b : Bool) → list_any test (cond b (group ∷ filter due back) (filter due back)) ≡ b
        of true = ap (λ b. b || list_any test (filter due back)) ((folded_eq-tells (group_name group past) (group_name group past)).1 refl)
        of false = none_in back (parts front apart).1

-- A tick of a daemon that claims names probes a group exactly where its probe is due.
pub probed_where_due : (duties : Duties) (past : List Entry) (moment word : ℕ) (front back : List Group) (group : Group) → duties.claiming ≡ true → front ++ group ∷ back ≡ groups past → AreApart (names_of (groups past) past) →
    probes (group_name group past) (entry_after duties past moment word event.Tick) ≡ is_probed_at past moment group
unfolding probed_groups
probed_where_due duties past moment word front back group claiming is apart =
    tick_probes duties past moment word (group_name group past) claiming
    ∙ ap (λ (gs : List Group). list_any (λ one. folded_eq (group_name one past) (group_name group past)) (filter (is_probed_at past moment) gs)) (sym is)
    ∙ alone past (is_probed_at past moment) front back group (subst (λ (gs : List Group). AreApart (names_of gs past)) (sym is) apart)
