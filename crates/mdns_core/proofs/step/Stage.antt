-- The entry that follows a history, by its stages: the marks of a refusal, of claims, of questions that are asked and of groups that are announced, and
-- what is sent; then the marks of cut sessions, then what is given. All duties are in force.
use Rattle.std.proofs.Common.{◌≡◌, ℕ, ◌≤◌, false, cond, List, [], ◌∷◌, ◌++◌, refl, ap, sym, append_assoc}
use Rattle.mdns_history.specs.declared.event.Event.{Event}
use Rattle.mdns_history.specs.declared.event.Event.TheVariants as event
use Rattle.mdns_history.specs.declared.mark.Mark.{Mark}
use Rattle.mdns_history.specs.declared.entry.Sent.{Sent}
use Rattle.mdns_history.specs.declared.entry.Entry.{Entry}
use Rattle.mdns_history.specs.History.{now}
use Rattle.mdns_happened.specs.Told.{is_tick}
use Rattle.mdns_core.specs.InForce.{in_force}
use Rattle.mdns_history.specs.Asking.{tick_askings}
use Rattle.mdns_history.specs.Sending.{sent_probes, sent_queries, sent_multicasts, sent_unicasts, tick_sends}
use Rattle.mdns_responding.specs.Laws.{responses_of}
use Rattle.mdns_history.specs.Fitting.{bare_entry, refusal_marks, disturbed_marks, asked_marks, announced_marks, event_marks, event_sends, noted, with_cuts, with_items, with_outcome, next_entry, last_moment, is_boot, Fits, IsLegal}
use Rattle.mdns_history.proofs.Determined.{next_entry-fits}

-- the queries that an event sends: those of the questions that a tick asks
abbrev pub queries_by : List Entry → ℕ → Event → List Sent
queries_by past moment event.Tick = sent_queries (tick_askings past moment) past moment
queries_by past moment _ = []

-- the probes that an event sends: those of the groups that are due in a tick
abbrev pub probes_by : List Entry → ℕ → Event → List Sent
probes_by past moment ev = cond (is_tick ev) (sent_probes past moment) []

-- what the entry of an event sends: probes, then queries, then responses
abbrev pub sent_by : Entry → List Entry → Event → List Sent
sent_by entry past ev = probes_by past entry.moment ev ++ queries_by past entry.moment ev ++ responses_of in_force entry past ev

sends_are : (entry : Entry) (past : List Entry) (ev : Event) → event_sends in_force entry past ev ≡ sent_by entry past ev
unfolding in_force tick_sends
sends_are entry past (event.Boot config) = refl
sends_are entry past event.Attach = refl
sends_are entry past (event.Detach session) = refl
sends_are entry past (event.Call session op request) = refl
sends_are entry past (event.Hear from bytes) = refl
sends_are entry past event.Tick =
    let probes : List Sent = sent_probes past entry.moment in
    let queries : List Sent = sent_queries (tick_askings past entry.moment) past entry.moment in
    let responses : List Sent = sent_multicasts in_force entry past ++ sent_unicasts past entry.moment in
    sym (append_assoc probes queries responses)
sends_are entry past (event.Take session max) = refl

module _ (past : List Entry) (moment word : ℕ) (ev : Event) where
  abbrev pub bare : Entry
  bare = bare_entry moment word ev past

  -- the marks that the event gives to claims, those of the questions that it asks, and those of the groups that it announces
  abbrev pub claim_marks : List Mark
  claim_marks = disturbed_marks bare past

  abbrev pub asking_marks : List Mark
  asking_marks = asked_marks bare past ev

  abbrev pub announcing_marks : List Mark
  announcing_marks = announced_marks bare past ev

  -- the marks of the daemon's duties
  abbrev pub duty_marks : List Mark
  duty_marks = claim_marks ++ (asking_marks ++ announcing_marks)

  -- the marks of a refusal and of the duties
  abbrev pub noted_marks : List Mark
  noted_marks = refusal_marks bare past ev ++ duty_marks

  -- the entry with these marks and what it sends
  abbrev pub marked : Entry
  marked = record bare { marks = noted_marks; sent = sent_by bare past ev }

  -- the same with the marks of the sessions that are cut
  abbrev pub cutting : Entry
  cutting = with_cuts marked past

  -- the same with what it gives
  abbrev pub giving : Entry
  giving = with_items cutting past

  -- the whole entry
  abbrev pub entry_after : Entry
  entry_after = next_entry in_force past moment word ev

  -- the same marks, by the definition for any duties
  pub marks_are : event_marks in_force bare past ≡ noted_marks
  unfolding in_force
  marks_are = refl

  noted_is : noted in_force bare past ≡ marked
  unfolding in_force
  noted_is = ap (λ (s : List Sent). let e : Entry = record bare { marks = noted_marks; sent = s } in e) (sends_are bare past ev)

  -- the entry, by its stages
  pub entry_is : entry_after ≡ with_outcome giving past
  unfolding next_entry
  entry_is = ap (λ e. with_outcome (with_items (with_cuts e past) past) past) noted_is

  -- what the entry sends
  pub sent-next : entry_after.sent ≡ sent_by bare past ev
  sent-next = ap (λ e. e.sent) entry_is

  -- the longer history is legal
  pub IsLegal-next : IsLegal in_force past → now past ≤ moment → moment ≤ last_moment → is_boot ev ≡ false → IsLegal in_force (entry_after ∷ past)
  IsLegal-next legal later in_time no_boot = of past legal (next_entry-fits in_force past moment word ev later in_time no_boot)
    where
      of : (h : List Entry) → IsLegal in_force h → Fits in_force entry_after h → IsLegal in_force (entry_after ∷ h)
      of [] l fits = absurd l
      of (before ∷ rest) l fits = (fits, l)
