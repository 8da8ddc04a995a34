-- The marks that an event gives to claims: they rename, set back or end a group, and say nothing else. And those of the groups that it announces.
use Rattle.std.proofs.Common.{◌≡◌, ℕ, Bool, true, false, cond, not, ◌&&◌, ◌||◌, List, [], ◌∷◌, map, Option, Some, None, refl, ap, ◌∙◌}
use Rattle.std.specs.List.{list_any, list_all, cons_option}
use Rattle.mdns_history.specs.declared.event.Event.{Event}
use Rattle.mdns_history.specs.declared.mark.Mark.{Mark}
use Rattle.mdns_history.specs.declared.mark.Mark.TheVariants as mark
use Rattle.mdns_history.specs.declared.event.Event.TheVariants as event
use Rattle.mdns_history.specs.declared.entry.Entry.{Entry}
use Rattle.mdns_history.specs.Hearings.{Heard, brought, is_refusal}
use Rattle.mdns_history.specs.Groups.{Group, groups}
use Rattle.mdns_history.specs.Claims.{Holding, holding_of, held_by_others, holdings_after, claim_mark, marks_in_turn, claim_marks}
use Rattle.mdns_history.specs.Announcing.{announced_groups}
use Rattle.mdns_history.specs.Fitting.{bare_entry, admitted, disturbed_marks, announced_marks}
use Rattle.mdns_claims.proofs.Marks.{is_claimed}

-- a mark that may be there is one of claims
abbrev may_be_claimed : Option Mark → Bool
may_be_claimed None = true
may_be_claimed (Some m) = is_claimed m

cons_claimed : (o : Option Mark) (ms : List Mark) → may_be_claimed o ≡ true → list_all is_claimed ms ≡ true → list_all is_claimed (cons_option o ms) ≡ true
cons_claimed None ms one all = all
cons_claimed (Some m) ms one all = ap (λ b. b && list_all is_claimed ms) one ∙ all

one_claimed : (heard : Heard) (past : List Entry) (group : Group) (others : List (List (List ℕ))) → may_be_claimed (claim_mark heard past group others) ≡ true
one_claimed heard past group others = of _ _ _ _ _ _
  where
    of : (number : ℕ) (sure clashed probed tied fails : Bool) →
        may_be_claimed (cond sure (cond clashed (Some (mark.Contested group.id)) None)
        (cond (not probed) None (cond clashed (Some (cond fails (mark.Failed group.id) (mark.Renamed group.id number))) (cond tied (Some (mark.TieLost group.id)) None)))) ≡ true
    of number true true p t f = refl
    of number true false p t f = refl
    of number false c false t f = refl
    of number false true true t true = refl
    of number false true true t false = refl
    of number false false true true f = refl
    of number false false true false f = refl

turns_claimed : (heard : Heard) (past : List Entry) (gs : List Group) (holdings : List Holding) → list_all is_claimed (marks_in_turn heard past gs holdings) ≡ true
turns_claimed heard past [] holdings = refl
turns_claimed heard past (group ∷ rest) holdings =
    let verdict : Option Mark = claim_mark heard past group (held_by_others group.id holdings) in
    cons_claimed verdict (marks_in_turn heard past rest (holdings_after group verdict holdings)) (one_claimed heard past group (held_by_others group.id holdings))
    (turns_claimed heard past rest (holdings_after group verdict holdings))

all_claimed : (heard : Option Heard) (past : List Entry) → list_all is_claimed (claim_marks heard past) ≡ true
unfolding claim_marks
all_claimed None past = refl
all_claimed (Some heard) past = turns_claimed heard past (groups past) (map (holding_of past) (groups past))

none_of : (test : Mark → Bool) → ((m : Mark) → is_claimed m ≡ true → test m ≡ false) → (ms : List Mark) → list_all is_claimed ms ≡ true → list_any test ms ≡ false
none_of test never [] all = refl
none_of test never (m ∷ ms) all = of (is_claimed m) refl all (none_of test never ms)
  where
    of : (b : Bool) → is_claimed m ≡ b → (b && list_all is_claimed ms) ≡ true → (list_all is_claimed ms ≡ true → list_any test ms ≡ false) → (test m || list_any test ms) ≡ false
    of true e h rest = ap (λ b. b || list_any test ms) (never m e) ∙ rest h
    of false e h rest = cc

-- What no mark of claims passes, none of those that an event gives passes.
pub claims_pass_none : (test : Mark → Bool) → ((m : Mark) → is_claimed m ≡ true → test m ≡ false) → (past : List Entry) (moment word : ℕ) (ev : Event) →
    list_any test (disturbed_marks (bare_entry moment word ev past) past) ≡ false
claims_pass_none test never past moment word ev =
    none_of test never (disturbed_marks (bare_entry moment word ev past) past) (all_claimed (admitted (bare_entry moment word ev past) past (brought ev)) past)

all_announced : (test : Mark → Bool) → ((group : ℕ) → test (mark.Announced group) ≡ false) → (gs : List Group) → list_any test (map (λ (group : Group). mark.Announced group.id) gs) ≡ false
all_announced test never [] = refl
all_announced test never (group ∷ gs) = ap (λ b. b || list_any test (map (λ (other : Group). mark.Announced other.id) gs)) (never group.id) ∙ all_announced test never gs

-- What the mark of an announcement doesn't pass, no mark of the groups that an event announces passes.
pub announced_pass_none : (test : Mark → Bool) → ((group : ℕ) → test (mark.Announced group) ≡ false) → (entry : Entry) (past : List Entry) (ev : Event) → list_any test (announced_marks entry past ev) ≡ false
announced_pass_none test never entry past event.Tick = all_announced test never (announced_groups (entry ∷ past) entry.moment)
announced_pass_none test never entry past (event.Boot config) = refl
announced_pass_none test never entry past event.Attach = refl
announced_pass_none test never entry past (event.Detach session) = refl
announced_pass_none test never entry past (event.Call session op request) = refl
announced_pass_none test never entry past (event.Hear from bytes) = refl
announced_pass_none test never entry past (event.Take session max) = refl

-- a mark of claims refuses nothing
pub claims_refuse_not : (m : Mark) → is_claimed m ≡ true → is_refusal m ≡ false
claims_refuse_not (mark.Renamed group number) h = refl
claims_refuse_not (mark.Contested group) h = refl
claims_refuse_not (mark.TieLost group) h = refl
claims_refuse_not (mark.Failed group) h = refl
claims_refuse_not (mark.Bad number) h = cc
claims_refuse_not mark.Full h = cc
claims_refuse_not (mark.Asked key why) h = refl
claims_refuse_not (mark.Announced group) h = refl
claims_refuse_not (mark.Cut session) h = refl
