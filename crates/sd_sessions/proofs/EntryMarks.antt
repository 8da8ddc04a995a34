-- The marks of duties refuse no packet and cut no session, whichever duties there are; and so no mark that an entry has before it cuts sessions cuts one.
use Rattle.std.proofs.Common.{◌≡◌, ℕ, Bool, true, false, cond, not, ◌&&◌, ◌||◌, List, [], ◌∷◌, ◌++◌, map, Option, Some, None, refl, ap, ◌∙◌}
use Rattle.std.proofs.lemmas.List.Folds.{list_any-append}
use Rattle.std.specs.Prelude.{filter}
use Rattle.std.specs.List.{list_any, list_all, filter_map, cons_option}
use Rattle.std.specs.Option.{option_map_or}
use Rattle.dns_message.specs.Reading.{spelled, fault_of}
use Rattle.mdns_history.specs.declared.event.Event.{Event}
use Rattle.mdns_history.specs.declared.event.Event.TheVariants as event
use Rattle.mdns_history.specs.declared.mark.Cause.{Cause}
use Rattle.mdns_history.specs.declared.mark.Cause.TheVariants as cause
use Rattle.mdns_history.specs.declared.mark.Mark.{Mark}
use Rattle.mdns_history.specs.declared.mark.Mark.TheVariants as mark
use Rattle.mdns_history.specs.declared.entry.Entry.{Entry}
use Rattle.mdns_history.specs.InForce.{Duties, only_if}
use Rattle.mdns_history.specs.Hearings.{Heard, brought, is_refusal}
use Rattle.mdns_history.specs.Lifetimes.{is_too_full}
use Rattle.mdns_history.specs.Sessions.{is_cut_of}
use Rattle.mdns_history.specs.Groups.{Group, groups}
use Rattle.mdns_history.specs.Questions.{Active, active_questions}
use Rattle.mdns_history.specs.Asking.{tick_cause, asked_mark, tick_askings, is_asked_by, heard_askings}
use Rattle.mdns_history.specs.Claims.{Holding, holding_of, held_by_others, holdings_after, claim_mark, marks_in_turn, claim_marks}
use Rattle.mdns_history.specs.Announcing.{announced_groups}
use Rattle.mdns_history.specs.Fitting.{bare_entry, admitted, refusal_marks, disturbed_marks, asked_marks, announced_marks, event_marks}

-- whether a mark is one of a duty: it refuses no packet and cuts no session
abbrev pub is_duty : Mark → Bool
is_duty (mark.Bad number) = false
is_duty mark.Full = false
is_duty (mark.Cut session) = false
is_duty _ = true

-- what no mark of a duty is, none of several of them is
pub no_duty : (test : Mark → Bool) → ((m : Mark) → is_duty m ≡ true → test m ≡ false) → (ms : List Mark) → list_all is_duty ms ≡ true → list_any test ms ≡ false
no_duty test never [] all = refl
no_duty test never (m ∷ ms) all = of (is_duty m) refl all (no_duty test never ms)
  where
    of : (b : Bool) → is_duty m ≡ b → (b && list_all is_duty ms) ≡ true → (list_all is_duty ms ≡ true → list_any test ms ≡ false) → (test m || list_any test ms) ≡ false
    of true e h rest = ap (λ b. b || list_any test ms) (never m e) ∙ rest h
    of false e h rest = cc

pub refuses_not : (m : Mark) → is_duty m ≡ true → is_refusal m ≡ false
refuses_not (mark.Bad number) h = cc
refuses_not mark.Full h = cc
refuses_not _ h = refl

pub cuts_not : (n : ℕ) (m : Mark) → is_duty m ≡ true → is_cut_of n m ≡ false
cuts_not n (mark.Cut session) h = cc
cuts_not n _ h = refl

-- a mark that may be there is one of a duty
abbrev may_be_duty : Option Mark → Bool
may_be_duty None = true
may_be_duty (Some m) = is_duty m

cons_pass : (o : Option Mark) (ms : List Mark) → may_be_duty o ≡ true → list_all is_duty ms ≡ true → list_all is_duty (cons_option o ms) ≡ true
cons_pass None ms one all = all
cons_pass (Some m) ms one all = ap (λ b. b && list_all is_duty ms) one ∙ all

ticks_pass : (past : List Entry) (moment : ℕ) (actives : List Active) → list_all is_duty (filter_map (λ active. asked_mark active (tick_cause past moment active)) actives) ≡ true
ticks_pass past moment [] = refl
ticks_pass past moment (active ∷ actives) = cons_pass (asked_mark active (tick_cause past moment active)) _ (of (tick_cause past moment active)) (ticks_pass past moment actives)
  where
    of : (o : Option Cause) → may_be_duty (asked_mark active o) ≡ true
    of None = refl
    of (Some why) = refl

asked_pass : (actives : List Active) → list_all is_duty (map (λ active. mark.Asked active.key cause.Heard) actives) ≡ true
asked_pass [] = refl
asked_pass (active ∷ actives) = asked_pass actives

heard_pass : (past : List Entry) (moment : ℕ) (heard : Option Heard) → list_all is_duty (heard_askings past moment heard) ≡ true
unfolding heard_askings
heard_pass past moment None = refl
heard_pass past moment (Some heard) = asked_pass (filter (is_asked_by past moment heard) (active_questions past))

-- the marks of questions that are asked
pub askings_pass : (past : List Entry) (moment word : ℕ) (ev : Event) → list_all is_duty (asked_marks (bare_entry moment word ev past) past ev) ≡ true
unfolding tick_askings
askings_pass past moment word event.Tick = ticks_pass past moment (active_questions past)
askings_pass past moment word (event.Boot config) = heard_pass past moment None
askings_pass past moment word event.Attach = heard_pass past moment None
askings_pass past moment word (event.Detach session) = heard_pass past moment None
askings_pass past moment word (event.Call session op request) = heard_pass past moment None
askings_pass past moment word (event.Hear from bytes) = heard_pass past moment (admitted (bare_entry moment word (event.Hear from bytes) past) past (brought (event.Hear from bytes)))
askings_pass past moment word (event.Take session max) = heard_pass past moment None

-- the marks of claims that a packet disturbs
claim_passes : (heard : Heard) (past : List Entry) (group : Group) (others : List (List (List ℕ))) → may_be_duty (claim_mark heard past group others) ≡ true
claim_passes heard past group others = of _ _ _ _ _ _
  where
    of : (number : ℕ) (sure clashed probed tied fails : Bool) →
        may_be_duty (cond sure (cond clashed (Some (mark.Contested group.id)) None)
        (cond (not probed) None (cond clashed (Some (cond fails (mark.Failed group.id) (mark.Renamed group.id number))) (cond tied (Some (mark.TieLost group.id)) None)))) ≡ true
    of number true true p t f = refl
    of number true false p t f = refl
    of number false c false t f = refl
    of number false true true t true = refl
    of number false true true t false = refl
    of number false false true true f = refl
    of number false false true false f = refl

turns_pass : (heard : Heard) (past : List Entry) (gs : List Group) (holdings : List Holding) → list_all is_duty (marks_in_turn heard past gs holdings) ≡ true
turns_pass heard past [] holdings = refl
turns_pass heard past (group ∷ rest) holdings =
    let verdict : Option Mark = claim_mark heard past group (held_by_others group.id holdings) in
    cons_pass verdict (marks_in_turn heard past rest (holdings_after group verdict holdings)) (claim_passes heard past group (held_by_others group.id holdings))
    (turns_pass heard past rest (holdings_after group verdict holdings))

claims_pass : (heard : Option Heard) (past : List Entry) → list_all is_duty (claim_marks heard past) ≡ true
unfolding claim_marks
claims_pass None past = refl
claims_pass (Some heard) past = turns_pass heard past (groups past) (map (holding_of past) (groups past))

-- the marks of groups that are announced
groups_pass : (gs : List Group) → list_all is_duty (map (λ group. mark.Announced group.id) gs) ≡ true
groups_pass [] = refl
groups_pass (group ∷ gs) = groups_pass gs

announcements_pass : (entry : Entry) (past : List Entry) (ev : Event) → list_all is_duty (announced_marks entry past ev) ≡ true
announcements_pass entry past event.Tick = groups_pass (announced_groups (entry ∷ past) entry.moment)
announcements_pass entry past (event.Boot config) = refl
announcements_pass entry past event.Attach = refl
announcements_pass entry past (event.Detach session) = refl
announcements_pass entry past (event.Call session op request) = refl
announcements_pass entry past (event.Hear from bytes) = refl
announcements_pass entry past (event.Take session max) = refl

none_if : (test : Mark → Bool) (b : Bool) (ms : List Mark) → list_any test ms ≡ false → list_any test (only_if b ms) ≡ false
none_if test true ms none = none
none_if test false ms none = refl

none_of_both : (test : Mark → Bool) (xs ys : List Mark) → list_any test xs ≡ false → list_any test ys ≡ false → list_any test (xs ++ ys) ≡ false
none_of_both test xs ys first second = list_any-append test xs ys ∙ ap (λ b. b || list_any test ys) first ∙ second

-- a refusal cuts no session
refusal_cuts_none : (n : ℕ) (entry : Entry) (past : List Entry) (ev : Event) → list_any (is_cut_of n) (refusal_marks entry past ev) ≡ false
refusal_cuts_none n entry past (event.Boot config) = refl
refusal_cuts_none n entry past event.Attach = refl
refusal_cuts_none n entry past (event.Detach session) = refl
refusal_cuts_none n entry past (event.Call session op request) = refl
refusal_cuts_none n entry past (event.Hear from bytes) = of (is_too_full entry past) (fault_of (spelled bytes))
  where
    of : (b : Bool) (o : Option ℕ) → list_any (is_cut_of n) (cond b (mark.Full ∷ []) (option_map_or (λ number. mark.Bad number ∷ []) o [])) ≡ false
    of true o = refl
    of false None = refl
    of false (Some number) = refl
refusal_cuts_none n entry past event.Tick = refl
refusal_cuts_none n entry past (event.Take session max) = refl

-- No mark that an entry has before it cuts sessions cuts one, whichever duties there are.
pub noted_cuts_none : (duties : Duties) (past : List Entry) (moment word : ℕ) (ev : Event) (n : ℕ) → list_any (is_cut_of n) (event_marks duties (bare_entry moment word ev past) past) ≡ false
noted_cuts_none duties past moment word ev n =
    let bare : Entry = bare_entry moment word ev past in
    let none : (ms : List Mark) → list_all is_duty ms ≡ true → list_any (is_cut_of n) ms ≡ false = no_duty (is_cut_of n) (cuts_not n) in
    none_of_both (is_cut_of n) (refusal_marks bare past ev) _ (refusal_cuts_none n bare past ev)
    (none_of_both (is_cut_of n) (only_if duties.claiming (disturbed_marks bare past)) _
    (none_if (is_cut_of n) duties.claiming (disturbed_marks bare past) (none (disturbed_marks bare past) (claims_pass (admitted bare past (brought ev)) past)))
    (none_of_both (is_cut_of n) (only_if duties.asking (asked_marks bare past ev)) _
    (none_if (is_cut_of n) duties.asking (asked_marks bare past ev) (none (asked_marks bare past ev) (askings_pass past moment word ev)))
    (none_if (is_cut_of n) duties.announcing (announced_marks bare past ev) (none (announced_marks bare past ev) (announcements_pass bare past ev)))))
