-- What an entry adds to the hearings, and that no more records are live than there is room for.
use Rattle.std.proofs.Common.{◌≡◌, ℕ, ◌≤◌, Bool, true, false, cond, List, [], ◌∷◌, ◌++◌, map, length, Option, Some, None, Result, Ok, Err, refl, ap, subst, ◌∙◌, sym, arith, suc, ◌||◌, append_assoc}
use Rattle.std.specs.Prelude.{reverse, filter, nat_lt}
use Rattle.std.specs.List.{list_any}
use Rattle.std.specs.Option.{option_map_or}
use Rattle.std.proofs.lemmas.List.Folds.{list_any-append}
use Rattle.dns_message.specs.declared.message.Message.{Message}
use Rattle.dns_message.specs.declared.message.MessageError.{MessageError}
use Rattle.mdns_base.specs.declared.host.Host.{Host}
use Rattle.dns_message.specs.Reading.{spelled, fault, fault_of}
use Rattle.mdns_history.specs.declared.config.Config.{Config}
use Rattle.mdns_history.specs.declared.event.Event.{Event}
use Rattle.mdns_history.specs.declared.event.Event.TheVariants as event
use Rattle.mdns_history.specs.declared.mark.Mark.{Mark}
use Rattle.mdns_history.specs.declared.mark.Mark.TheVariants as mark
use Rattle.mdns_history.specs.declared.entry.Entry.{Entry}
use Rattle.mdns_history.specs.Hearings.{Heard, brought, counted, counted_records, heard_in, is_refusal, hearing_of, Hearing, hearings}
use Rattle.mdns_history.specs.Lifetimes.{is_too_full, is_live_at, live_of, live_records}
use Rattle.mdns_history.specs.History.{now}
use Rattle.mdns_core.specs.InForce.{in_force}
use Rattle.mdns_history.specs.Items.{cut_marks, served_sessions, would_pass}
use Rattle.mdns_history.specs.Fitting.{refusal_marks, with_outcome, boot_entry, IsLegalFrom, IsLegal}
use Rattle.mdns_history.proofs.LifetimeSteps.{live_of-later}
use Rattle.mdns_happened.specs.Told.{unless, heard_of}
use Rattle.mdns_core.specs.Next.{admitted_records}
use Rattle.mdns_core.proofs.step.Stage.{bare, duty_marks, marked, cutting, giving, entry_after, entry_is}
use Rattle.mdns_core.proofs.step.Duties.{duties_refuse_none}

-- the marks of cut sessions refuse nothing
cuts_refuse_none : (ns : List ℕ) → list_any is_refusal (map (λ n. mark.Cut n) ns) ≡ false
cuts_refuse_none [] = refl
cuts_refuse_none (n ∷ ns) = cuts_refuse_none ns

nothing : (b c : Bool) → counted_records (cond b None None) ≡ cond c [] []
nothing true true = refl
nothing true false = refl
nothing false true = refl
nothing false false = refl

of_none : (b : Bool) → ◌≡◌ {A = Option Heard} (cond b None None) None
of_none true = refl
of_none false = refl

-- the records that count, behind the marks of a refusal and others that refuse nothing
counted_marked : (entry : Entry) (past : List Entry) (ev : Event) (more : List Mark) → list_any is_refusal more ≡ false →
    counted_records (cond (list_any is_refusal (refusal_marks entry past ev ++ more)) None (brought ev)) ≡ admitted_records entry past ev
counted_marked entry past (event.Boot config) more none = nothing (list_any is_refusal more) (is_too_full entry past)
counted_marked entry past event.Attach more none = nothing (list_any is_refusal more) (is_too_full entry past)
counted_marked entry past (event.Detach session) more none = nothing (list_any is_refusal more) (is_too_full entry past)
counted_marked entry past (event.Call session op request) more none = nothing (list_any is_refusal more) (is_too_full entry past)
counted_marked entry past (event.Hear from bytes) more none = of (is_too_full entry past) (spelled bytes)
  where
    of : (b : Bool) (r : Result Message MessageError) →
        counted_records (cond (list_any is_refusal (cond b (mark.Full ∷ []) (option_map_or (λ number. mark.Bad number ∷ []) (fault_of r) []) ++ more)) None (counted from r))
        ≡ cond b [] (counted_records (counted from r))
    of true r = refl
    of false (Ok message) = ap (λ c. counted_records (cond c None (counted from (Ok message)))) none
    of false (Err e) = refl
counted_marked entry past event.Tick more none = nothing (list_any is_refusal more) (is_too_full entry past)
counted_marked entry past (event.Take session max) more none = nothing (list_any is_refusal more) (is_too_full entry past)

-- an entry hears what its event brings, unless its packet was refused
heard_marked : (entry : Entry) (past : List Entry) (ev : Event) (more : List Mark) → list_any is_refusal more ≡ false →
    cond (list_any is_refusal (refusal_marks entry past ev ++ more)) None (brought ev) ≡ heard_of (refusal_marks entry past ev) ev
heard_marked entry past (event.Boot config) more none = of_none (list_any is_refusal more)
heard_marked entry past event.Attach more none = of_none (list_any is_refusal more)
heard_marked entry past (event.Detach session) more none = of_none (list_any is_refusal more)
heard_marked entry past (event.Call session op request) more none = of_none (list_any is_refusal more)
heard_marked entry past (event.Hear from bytes) more none = of (is_too_full entry past) (spelled bytes)
  where
    of : (b : Bool) (r : Result Message MessageError) →
        cond (list_any is_refusal (cond b (mark.Full ∷ []) (option_map_or (λ number. mark.Bad number ∷ []) (fault_of r) []) ++ more)) None (counted from r)
        ≡ unless (cond b (mark.Full ∷ []) (option_map_or (λ number. mark.Bad number ∷ []) (fault_of r) [])) (counted from r)
    of true r = refl
    of false (Ok message) = ap (λ c. cond c None (counted from (Ok message))) none
    of false (Err e) = refl
heard_marked entry past event.Tick more none = of_none (list_any is_refusal more)
heard_marked entry past (event.Take session max) more none = of_none (list_any is_refusal more)

-- the mark of a packet: for want of room, by its fault, or none
pub refusal-full : (entry : Entry) (past : List Entry) (from : Host) (bytes : List ℕ) → is_too_full entry past ≡ true → refusal_marks entry past (event.Hear from bytes) ≡ mark.Full ∷ []
refusal-full entry past from bytes full = rw full refl

pub refusal-bad : (entry : Entry) (past : List Entry) (from : Host) (bytes : List ℕ) (number : ℕ) → is_too_full entry past ≡ false → fault bytes ≡ Some number →
    refusal_marks entry past (event.Hear from bytes) ≡ mark.Bad number ∷ []
refusal-bad entry past from bytes number room bad = rw (room, bad) refl

pub refusal-none : (entry : Entry) (past : List Entry) (from : Host) (bytes : List ℕ) → is_too_full entry past ≡ false → fault bytes ≡ None →
    refusal_marks entry past (event.Hear from bytes) ≡ []
refusal-none entry past from bytes room good = rw (room, good) refl

length-filter_le : {X : Type 0} (p : X → Bool) (xs : List X) → length (filter p xs) ≤ length xs
length-filter_le p [] = omega arith
length-filter_le p (x ∷ xs) = of (p x) (length-filter_le p xs)
  where
    of : (b : Bool) → length (filter p xs) ≤ length xs → length (cond b (x ∷ filter p xs) (filter p xs)) ≤ suc (length xs)
    of true l = omega arith
    of false l = omega arith

room_boot : (moment word : ℕ) (config : Config) (t : ℕ) → length (live_of (hearings (boot_entry moment word config ∷ [])) t) ≤ 32768
unfolding live_of hearings heard_in
room_boot moment word config t = omega arith

module _ (past : List Entry) (moment word : ℕ) (ev : Event) where
  -- the hearings that the entry adds
  abbrev pub heard_now : List Hearing
  heard_now = reverse (map (hearing_of (bare past moment word ev)) (admitted_records (bare past moment word ev) past ev))

  -- the hearings that it would add if there were room
  abbrev pub heard_with_room : List Hearing
  heard_with_room = reverse (map (hearing_of (bare past moment word ev)) (counted_records (brought ev)))

  marked_records : List Mark → List Hearing
  marked_records marks = reverse (map (hearing_of (bare past moment word ev)) (counted_records (cond (list_any is_refusal marks) None (brought ev)))) ++ hearings past

  counted_with : (more : List Mark) → list_any is_refusal more ≡ false → marked_records (refusal_marks (bare past moment word ev) past ev ++ more) ≡ heard_now ++ hearings past
  unfolding marked_records
  counted_with more none = ap (λ rs. reverse (map (hearing_of (bare past moment word ev)) rs) ++ hearings past) (counted_marked (bare past moment word ev) past ev more none)

  pub hearings-marked : hearings (marked past moment word ev ∷ past) ≡ heard_now ++ hearings past
  unfolding hearings heard_in marked_records
  hearings-marked = counted_with (duty_marks past moment word ev) (duties_refuse_none past moment word ev)

  pub hearings-cutting : hearings (cutting past moment word ev ∷ past) ≡ heard_now ++ hearings past
  unfolding hearings heard_in cut_marks marked_records
  hearings-cutting =
      let cut_by : List ℕ = filter (would_pass (marked past moment word ev) past) (served_sessions (marked past moment word ev) past) in
      let duties : List Mark = duty_marks past moment word ev in
      let cut_marked : List Mark = map (λ n. mark.Cut n) cut_by in
      ap marked_records (append_assoc (refusal_marks (bare past moment word ev) past ev) duties cut_marked)
      ∙ counted_with (duties ++ cut_marked)
      (list_any-append is_refusal duties cut_marked ∙ ap (λ b. b || list_any is_refusal cut_marked) (duties_refuse_none past moment word ev) ∙ cuts_refuse_none cut_by)

  outcome_unheard : hearings (with_outcome (giving past moment word ev) past ∷ past) ≡ hearings (cutting past moment word ev ∷ past)
  unfolding hearings heard_in
  outcome_unheard = refl

  -- The entry adds the records that it takes in.
  pub hearings-next : hearings (entry_after past moment word ev ∷ past) ≡ heard_now ++ hearings past
  hearings-next = ap (λ e. hearings (e ∷ past)) (entry_is past moment word ev) ∙ outcome_unheard ∙ hearings-cutting

  heard_cutting : heard_in (cutting past moment word ev) ≡ heard_of (refusal_marks (bare past moment word ev) past ev) ev
  unfolding heard_in cut_marks
  heard_cutting =
      let cut_by : List ℕ = filter (would_pass (marked past moment word ev) past) (served_sessions (marked past moment word ev) past) in
      let duties : List Mark = duty_marks past moment word ev in
      let cut_marked : List Mark = map (λ n. mark.Cut n) cut_by in
      ap (λ (marks : List Mark). cond (list_any is_refusal marks) None (brought ev)) (append_assoc (refusal_marks (bare past moment word ev) past ev) duties cut_marked)
      ∙ heard_marked (bare past moment word ev) past ev (duties ++ cut_marked)
      (list_any-append is_refusal duties cut_marked ∙ ap (λ b. b || list_any is_refusal cut_marked) (duties_refuse_none past moment word ev) ∙ cuts_refuse_none cut_by)

  unheard : heard_in (with_outcome (giving past moment word ev) past) ≡ heard_in (cutting past moment word ev)
  unfolding heard_in
  unheard = refl

  -- The entry hears what its event brings, unless its packet was refused.
  pub heard-next : heard_in (entry_after past moment word ev) ≡ heard_of (refusal_marks (bare past moment word ev) past ev) ev
  heard-next = ap heard_in (entry_is past moment word ev) ∙ unheard ∙ heard_cutting

  -- whether there is room, by the records that would be live
  pub is_too_full-is : is_too_full (bare past moment word ev) past ≡ nat_lt 32768 (length (live_of (heard_with_room ++ hearings past) moment))
  unfolding is_too_full live_records hearings heard_in
  is_too_full-is = refl

  -- no more records are live behind the entry than there is room for, where that was so before it
  room_next : ((t : ℕ) → now past ≤ t → length (live_of (hearings past) t) ≤ 32768) → now past ≤ moment →
      (t : ℕ) → moment ≤ t → length (live_of (hearings (entry_after past moment word ev ∷ past)) t) ≤ 32768
  room_next before later t l = of (is_too_full (bare past moment word ev) past) refl
    where
      of : (b : Bool) → is_too_full (bare past moment word ev) past ≡ b → length (live_of (hearings (entry_after past moment word ev ∷ past)) t) ≤ 32768
      of true e =
          let same : hearings (entry_after past moment word ev ∷ past) ≡ hearings past = hearings-next ∙ ap (λ b. reverse (map (hearing_of (bare past moment word ev)) (cond b [] (counted_records (brought ev)))) ++ hearings past) e in
          subst (λ hs. length (live_of hs t) ≤ 32768) (sym same) (before t (omega arith))
      of false e =
          let same : hearings (entry_after past moment word ev ∷ past) ≡ heard_with_room ++ hearings past = hearings-next ∙ ap (λ b. reverse (map (hearing_of (bare past moment word ev)) (cond b [] (counted_records (brought ev)))) ++ hearings past) e in
          let room : nat_lt 32768 (length (live_of (heard_with_room ++ hearings past) moment)) ≡ false = sym is_too_full-is ∙ e in
          let few : length (live_of (heard_with_room ++ hearings past) moment) ≤ 32768 = grind (arith, room) in
          let less : length (filter (is_live_at t) (live_of (heard_with_room ++ hearings past) moment)) ≤ length (live_of (heard_with_room ++ hearings past) moment) =
          length-filter_le (is_live_at t) (live_of (heard_with_room ++ hearings past) moment) in
          subst (λ hs. length (live_of hs t) ≤ 32768) (sym same)
          (subst (λ live. length live ≤ 32768) (sym (live_of-later (heard_with_room ++ hearings past) moment t l)) (omega arith))

room_from : (entry : Entry) (past : List Entry) → IsLegalFrom in_force entry past → (t : ℕ) → entry.moment ≤ t → length (live_of (hearings (entry ∷ past)) t) ≤ 32768
room_from entry [] legal t l = subst (λ e. length (live_of (hearings (e ∷ [])) t) ≤ 32768) (sym legal.3) (room_boot entry.moment entry.word legal.0 t)
room_from entry (before ∷ past) legal t l = subst (λ e. length (live_of (hearings (e ∷ before ∷ past)) t) ≤ 32768) (sym (legal.0).determined)
    (room_next (before ∷ past) entry.moment entry.word entry.event (room_from before past legal.1) (legal.0).later t l)

-- In a legal history no more records are live, now or later, than there is room for.
pub live_records-few : (past : List Entry) → IsLegal in_force past → (t : ℕ) → now past ≤ t → length (live_records past t) ≤ 32768
unfolding live_records
live_records-few [] legal t l = absurd legal
live_records-few (entry ∷ past) legal t l = room_from entry past legal t l
