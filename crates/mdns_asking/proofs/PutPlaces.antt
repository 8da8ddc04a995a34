-- Places of questions that are put one behind the other.
use Rattle.std.proofs.Common.{◌≡◌, ◌⊎◌, inl, inr, ℕ, ◌+◌, ◌-◌, ◌^◌, ◌<◌, ◌≤◌, Bool, true, false, cond, ◌&&◌, ◌||◌, List, [], ◌∷◌, ◌++◌, length, get_or, map, take, Option, Some, None, is_some, refl, sym, ap, ◌∙◌, arith, subst, ⊎_elim, true≢false}
use Rattle.std.specs.Prelude.{◌==◌, nat_le, not}
use Rattle.std.specs.List.{Contains, list_any, All}
use Rattle.std.specs.Option.{option_to_list}
use Rattle.std.proofs.lemmas.Bool.{cases_lt, lt-leb, le-leb}
use Rattle.std.proofs.lemmas.List.{get_or_default, get_or-map}
use Rattle.std.proofs.lemmas.List.Elements.{Contains-append_left, Contains-push, Contains-push_cases, Contains-get_or}
use Rattle.std.proofs.lemmas.List.Folds.{list_any_more}
use Rattle.mdns_base.specs.Hosts.{mdns_port}
use Rattle.dns_name.specs.Names.{folded_eq}
use Rattle.lists.specs.Lists.{least_of}
use Rattle.dns_name.proofs.Folding.{folded_eq-equivalence}
use Rattle.dns_record.specs.declared.record.Question.{Question}
use Rattle.dns_record.specs.Records.{key_eq}
use Rattle.mdns_history.specs.declared.mark.Cause.TheVariants as cause
use Rattle.mdns_history.specs.Hearings.{Heard}
use Rattle.mdns_history.specs.Asking.{asks_openly}
use Rattle.mdns_timer.specs.Tree.{moment_at}
use Rattle.mdns_timer.specs.Parts.{NoneDue, IsFirstDue}
use Rattle.mdns_happened.specs.declared.happened.Happened.{Happened}
use Rattle.mdns_happened.specs.declared.happened.Happened.TheVariants as happened
use Rattle.mdns_happened.specs.declared.happened.Heard.{Heard as Said}
use Rattle.mdns_happened.specs.declared.walk.Walk.{Walk}
use Rattle.mdns_happened.specs.Told.{Told, told_by}
use Rattle.mdns_happened.specs.Walks.{is_walked}
use Rattle.mdns_question.specs.declared.tracked.Tracked.{Tracked}
use Rattle.mdns_question.specs.Placed.{AreOfName}
use Rattle.mdns_question.specs.Refreshing.{moment_of, cause_of}
use Rattle.mdns_asking.specs.Walked.{may_stand_for, may_be_asked}
use Rattle.mdns_asking.specs.Places.{IsPlaceOf, ArePut, is_near}

-- there is an element where there is a place
pub element_at : {X : Type 0} (xs : List X) (i : ℕ) → i < length xs → X
element_at [] i h = absurd (omega arith)
element_at (x ∷ xs) i h = x

or_left : (a b : Bool) → a ≡ true → (a || b) ≡ true
or_left true b e = refl
or_left false b e = absurd (true≢false (sym e))

or_right : (a b : Bool) → b ≡ true → (a || b) ≡ true
or_right true b e = refl
or_right false b e = e

-- whether a test holds at a place is decided, whatever stands behind the list
pub place_at : (test : Tracked → Bool) (questions : List Tracked) (place : ℕ) (d : Tracked) → place < length questions → test (get_or questions place d) ≡ true → IsPlaceOf test questions place
place_at test questions place d within e = record { within = within; passes = λ other. ap test (get_or_default questions place other d within) ∙ e }

place_either : (one other : Tracked → Bool) (questions : List Tracked) (place : ℕ) → IsPlaceOf (λ x. one x || other x) questions place → IsPlaceOf one questions place ⊎ IsPlaceOf other questions place
place_either one other questions place is = of (one x) refl (is.passes d)
  where
    d : Tracked
    d = element_at questions place is.within

    x : Tracked
    x = get_or questions place d

    of : (b : Bool) → one x ≡ b → (b || other x) ≡ true → IsPlaceOf one questions place ⊎ IsPlaceOf other questions place
    of true e h = inl (place_at one questions place d is.within e)
    of false e h = inr (place_at other questions place d is.within h)

pub put_like : (one other : Tracked → Bool) (questions : List Tracked) (before after : List ℕ) → ((x : Tracked) → one x ≡ other x) → ArePut one questions before after → ArePut other questions before after
put_like one other questions before after same put = record {
  kept = put.kept;
  put = λ place is. put.put place (record { within = is.within; passes = λ d. same (get_or questions place d) ∙ is.passes d });
  only = λ place h. ⊎_elim (λ there. inl there) (λ is. inr (record { within = is.within; passes = λ d. sym (same (get_or questions place d)) ∙ is.passes d })) (put.only place h);
}

-- nothing is put for a test that nothing passes
pub put_none : (test : Tracked → Bool) (questions : List Tracked) (places : List ℕ) → ((x : Tracked) → test x ≡ false) → ArePut test questions places places
put_none test questions places none = record {
  kept = λ place h. h;
  put = λ place is. let d : Tracked = element_at questions place is.within in absurd (true≢false (sym (is.passes d) ∙ none (get_or questions place d)));
  only = λ place h. inl h;
}

-- what is put for one test and then for another
pub put_both : (one other : Tracked → Bool) (questions : List Tracked) (before between after : List ℕ) → ArePut one questions before between → ArePut other questions between after →
    ArePut (λ x. one x || other x) questions before after
put_both one other questions before between after first second = record {
  kept = λ place h. second.kept place (first.kept place h);
  put = λ place is. ⊎_elim (λ here. second.kept place (first.put place here)) (λ here. second.put place here) (place_either one other questions place is);
  only = λ place h.
      ⊎_elim
      (λ there. ⊎_elim (λ old. inl old)
      (λ is. inr (record { within = is.within; passes = λ d. or_left (one (get_or questions place d)) (other (get_or questions place d)) (is.passes d) })) (first.only place there))
      (λ is. inr (record { within = is.within; passes = λ d. or_right (one (get_or questions place d)) (other (get_or questions place d)) (is.passes d) }))
      (second.only place h);
}

-- one more of those for which places are put
pub put_more : {X : Type 0} (test : Tracked → X → Bool) (xs : List X) (i : ℕ) (x : X) (questions : List Tracked) (before between after : List ℕ) → i < length xs → x ≡ get_or xs i x →
    ArePut (λ one. list_any (test one) (take i xs)) questions before between → ArePut (λ one. test one x) questions between after → ArePut (λ one. list_any (test one) (take (i + 1) xs)) questions before after
put_more {X} test xs i x questions before between after within is first second =
    put_like (λ one. list_any (test one) (take i xs) || test one x) (λ one. list_any (test one) (take (i + 1) xs)) questions before after
    (λ one. sym (list_any_more (test one) xs i x within ∙ ap (λ (y : X). list_any (test one) (take i xs) || test one y) (sym is)))
    (put_both (λ one. list_any (test one) (take i xs)) (λ one. test one x) questions before between after first second)

-- What a loop over places of a name has put, each that passes a test: those up to one.
pub record ArePutTo (test : Tracked → Bool) (questions : List Tracked) (first end : ℕ) (before after : List ℕ) : Type 0 where
  pub kept : (place : ℕ) → Contains before place → Contains after place
  pub put : (place : ℕ) → IsPlaceOf test questions place → first ≤ place → place < end → Contains after place
  pub only : (place : ℕ) → Contains after place → Contains before place ⊎ IsPlaceOf test questions place

pub put_to_none : (test : Tracked → Bool) (questions : List Tracked) (first : ℕ) (places : List ℕ) → ArePutTo test questions first first places places
put_to_none test questions first places = record { kept = λ place h. h; put = λ place is past below. absurd (omega arith); only = λ place h. inl h }

-- a place that is put
pub put_to_here : (test : Tracked → Bool) (questions : List Tracked) (first place : ℕ) (before between after : List ℕ) → ArePutTo test questions first place before between → IsPlaceOf test questions place →
    after ≡ between ++ place ∷ [] → ArePutTo test questions first (place + 1) before after
put_to_here test questions first place before between after so_far is pushed = record {
  kept = λ other h. stays other (so_far.kept other h);
  put = λ other here past below. ⊎_elim (λ less. stays other (so_far.put other here past less)) (λ more. let same : place ≡ other = omega arith in ap_place other same) (cases_lt other place);
  only = λ other h. ⊎_elim (λ there. so_far.only other there) (λ same. inr (moved other same)) (Contains-push_cases between place other (back other h));
}
  where
    stays : (other : ℕ) → Contains between other → Contains after other
    stays other h = subst (λ (xs : List ℕ). Contains xs other) (sym pushed) (Contains-append_left between (place ∷ []) other h)

    back : (other : ℕ) → Contains after other → Contains (between ++ place ∷ []) other
    back other h = subst (λ (xs : List ℕ). Contains xs other) pushed h

    ap_place : (other : ℕ) → place ≡ other → Contains after other
    ap_place other same = subst (Contains after) same (subst (λ (xs : List ℕ). Contains xs place) (sym pushed) (Contains-push between place))

    moved : (other : ℕ) → place ≡ other → IsPlaceOf test questions other
    moved other same = subst (IsPlaceOf test questions) same is

-- one that isn't
pub put_to_else : (test : Tracked → Bool) (questions : List Tracked) (first place : ℕ) (d : Tracked) (before between : List ℕ) → ArePutTo test questions first place before between →
    test (get_or questions place d) ≡ false → ArePutTo test questions first (place + 1) before between
put_to_else test questions first place d before between so_far not = record {
  kept = so_far.kept;
  put = λ other here past below. ⊎_elim (λ less. so_far.put other here past less) (λ more. let same : other ≡ place = omega arith in absurd (clash other same here)) (cases_lt other place);
  only = so_far.only;
}
  where
    clash : (other : ℕ) → other ≡ place → IsPlaceOf test questions other → ⊥
    clash other same here = true≢false (sym (here.passes d) ∙ ap (λ (k : ℕ). test (get_or questions k d)) same ∙ not)

-- and several that aren't
pub put_to_gap : (test : Tracked → Bool) (questions : List Tracked) (first from place : ℕ) (before between : List ℕ) → ArePutTo test questions first from before between →
    ((k : ℕ) (d : Tracked) → from ≤ k → k < place → k < length questions → test (get_or questions k d) ≡ false) → ArePutTo test questions first place before between
put_to_gap test questions first from place before between so_far none = record {
  kept = so_far.kept;
  put = λ other here past below.
      let d : Tracked = element_at questions other here.within in
      ⊎_elim (λ less. so_far.put other here past less) (λ more. absurd (true≢false (sym (here.passes d) ∙ none other d more below here.within))) (cases_lt other from);
  only = so_far.only;
}

-- all places that pass are put where no other passes
pub put_to_all : (test : Tracked → Bool) (questions : List Tracked) (first end : ℕ) (before after : List ℕ) → ArePutTo test questions first end before after →
    ((place : ℕ) (d : Tracked) → place < first → test (get_or questions place d) ≡ false) → ((place : ℕ) (d : Tracked) → end ≤ place → place < length questions → test (get_or questions place d) ≡ false) →
    ArePut test questions before after
put_to_all test questions first end before after so_far low high = record {
  kept = so_far.kept;
  put = λ place is.
      let d : Tracked = element_at questions place is.within in
      ⊎_elim (λ less. absurd (true≢false (sym (is.passes d) ∙ low place d less)))
      (λ past. ⊎_elim (λ below. so_far.put place is past below) (λ over. absurd (true≢false (sym (is.passes d) ∙ high place d over is.within))) (cases_lt place end)) (cases_lt place first);
  only = so_far.only;
}

-- there is nothing in an empty list
pub none_in : {X : Type 0} (x : X) → Contains [] x → ⊥
none_in x h = omega (arith, h.1)

-- a place is put of a question that passes a test
pub is_put : (test : Tracked → Bool) (questions : List Tracked) (places : List ℕ) (place : ℕ) → ArePut test questions [] places → Contains places place → IsPlaceOf test questions place
is_put test questions places place put h = ⊎_elim (λ there. absurd (none_in place there)) (λ is. is) (put.only place h)

-- the places lie within the questions
pub all_within : (test : Tracked → Bool) (questions : List Tracked) (places : List ℕ) → ArePut test questions [] places → All (λ place. place < length questions) places
all_within test questions places put = λ k d h. (is_put test questions places (get_or places k d) put (Contains-get_or places k d h)).within

-- ---- which questions pass

not_named : (one : Tracked) (asked : Question) (b : Bool) → folded_eq asked.name one.key.name ≡ false → (asks_openly one.key asked && b) ≡ false
unfolding key_eq
not_named one asked b other = ap (λ (c : Bool). ((c && (one.key.kind == asked.kind)) && not asked.unicast) && b) (folded_eq-equivalence.symm one.key.name asked.name ∙ other)

-- a message asks no question of another name
pub asked_of_name : (questions : List Tracked) (asked : Question) (until first end from : ℕ) (before after : List ℕ) → AreOfName questions asked.name first end → end ≤ from →
    ArePutTo (λ one. asks_openly one.key asked && nat_le one.next until) questions first from before after → ArePut (λ one. asks_openly one.key asked && nat_le one.next until) questions before after
asked_of_name questions asked until first end from before after at past so_far =
    put_to_all (λ one. asks_openly one.key asked && nat_le one.next until) questions first from before after so_far
    (λ k d h. not_named (get_or questions k d) asked (nat_le (get_or questions k d).next until) (at.before k d h))
    (λ k d h within. not_named (get_or questions k d) asked (nat_le (get_or questions k d).next until) (at.behind k d (omega (arith, h, past)) within))

pub due_is : (now : ℕ) (one : Tracked) → moment_of one ≤ now → is_some (cause_of now one) ≡ true
due_is now one h = of (nat_le one.next now)
  where
    yes : nat_le (moment_of one) now ≡ true
    yes = le-leb (moment_of one) now h

    of : (b : Bool) → is_some (cond b (Some cause.Series) (cond (nat_le (moment_of one) now) (Some cause.Refresh) None)) ≡ true
    of true = refl
    of false = ap (λ (c : Bool). is_some (cond c (Some cause.Refresh) None)) yes

moment_first : (one : Tracked) → moment_of one ≤ one.next
moment_first one = of one.refresh
  where
    of : (refresh : Option ℕ) → least_of one.next (option_to_list refresh) ≤ one.next
    of None = omega arith
    of (Some point) = omega arith

undue_is : (now : ℕ) (one : Tracked) → now < moment_of one → is_some (cause_of now one) ≡ false
undue_is now one later =
    let first : moment_of one ≤ one.next = moment_first one in
    ap (λ (b : Bool). is_some (cond b (Some cause.Series) (cond (nat_le (moment_of one) now) (Some cause.Refresh) None))) (lt-leb one.next now (omega (arith, first, later)))
    ∙ ap (λ (b : Bool). is_some (cond b (Some cause.Refresh) None)) (lt-leb (moment_of one) now later)

moment_there : (questions : List Tracked) (k : ℕ) (d : Tracked) → k < length questions → moment_at (map moment_of questions) k ≡ moment_of (get_or questions k d)
moment_there questions k d within = get_or-map moment_of questions k d (2 ^ 64 - 1) within

-- the next question that is due
pub due_next : (now : ℕ) (questions : List Tracked) (from place : ℕ) (before between after : List ℕ) → place < length questions → IsFirstDue (map moment_of questions) now from place →
    ArePutTo (λ one. is_some (cause_of now one)) questions 0 from before between → after ≡ between ++ place ∷ [] → ArePutTo (λ one. is_some (cause_of now one)) questions 0 (place + 1) before after
due_next now questions from place before between after within found so_far pushed =
    put_to_here (λ one. is_some (cause_of now one)) questions 0 place before between after
    (put_to_gap (λ one. is_some (cause_of now one)) questions 0 from place before between so_far
    (λ k d behind below inside. undue_is now (get_or questions k d) (subst (λ (n : ℕ). now < n) (moment_there questions k d inside) (found.first k behind below))))
    (record { within = within; passes = λ d. due_is now (get_or questions place d) (subst (λ (n : ℕ). n ≤ now) (moment_there questions place d within) found.due) })
    pushed

-- there is no more
pub due_all : (now : ℕ) (questions : List Tracked) (from : ℕ) (before after : List ℕ) → NoneDue (map moment_of questions) now from (length questions) →
    ArePutTo (λ one. is_some (cause_of now one)) questions 0 from before after → ArePut (λ one. is_some (cause_of now one)) questions before after
due_all now questions from before after none so_far =
    put_to_all (λ one. is_some (cause_of now one)) questions 0 from before after so_far (λ k d h. absurd (omega (arith, h)))
    (λ k d behind within. undue_is now (get_or questions k d) (subst (λ (n : ℕ). now < n) (moment_there questions k d within) (none k behind within)))

-- what a message may stand for
pub all_heard : (moment : ℕ) (heard : Heard) (questions : List Tracked) (before after : List ℕ) → (not heard.message.response && ((heard.from.port == mdns_port) && not heard.message.truncated)) ≡ true →
    ArePut (λ one. list_any (λ asked. asks_openly one.key asked && nat_le one.next (moment + 1000)) heard.message.questions) questions before after → ArePut (may_stand_for moment heard) questions before after
all_heard moment heard questions before after ours =
    put_like (λ one. list_any (λ asked. asks_openly one.key asked && nat_le one.next (moment + 1000)) heard.message.questions) (may_stand_for moment heard) questions before after
    (λ one. and_last (asks_openly one.key) (nat_le one.next (moment + 1000)) heard.message.questions
    ∙ of (not heard.message.response) (heard.from.port == mdns_port) (not heard.message.truncated) (list_any (asks_openly one.key) heard.message.questions) (nat_le one.next (moment + 1000)) ours)
  where
    and_last : (test : Question → Bool) (b : Bool) (them : List Question) → list_any (λ asked. test asked && b) them ≡ (list_any test them && b)
    and_last test b [] = refl
    and_last test b (one ∷ them) = ap (λ c. (test one && b) || c) (and_last test b them) ∙ join (test one) (list_any test them)
      where
        join : (x y : Bool) → ((x && b) || (y && b)) ≡ ((x || y) && b)
        join true y = both b y
          where
            both : (b y : Bool) → (b || (y && b)) ≡ b
            both true y = refl
            both false true = refl
            both false false = refl
        join false y = refl

    of : (a b c d e : Bool) → (a && (b && c)) ≡ true → (d && e) ≡ (a && b && c && d && e)
    of true true true d e h = refl
    of true true false d e h = absurd (true≢false (sym h))
    of true false c d e h = absurd (true≢false (sym h))
    of false b c d e h = absurd (true≢false (sym h))

pub none_heard : (moment : ℕ) (heard : Heard) (questions : List Tracked) (places : List ℕ) → (not heard.message.response && ((heard.from.port == mdns_port) && not heard.message.truncated)) ≡ false →
    ArePut (may_stand_for moment heard) questions places places
none_heard moment heard questions places not_ours =
    put_none (may_stand_for moment heard) questions places
    (λ one. of (not heard.message.response) (heard.from.port == mdns_port) (not heard.message.truncated) (list_any (asks_openly one.key) heard.message.questions) (nat_le one.next (moment + 1000)) not_ours)
  where
    of : (a b c d e : Bool) → (a && (b && c)) ≡ false → (a && b && c && d && e) ≡ false
    of true true true d e h = absurd (true≢false h)
    of true true false d e h = refl
    of true false c d e h = refl
    of false b c d e h = refl

or_none : (b : Bool) → (b || false) ≡ b
or_none true = refl
or_none false = refl

-- once time has passed what was walked is near, too
pub near_ticked : (told : Told) (moment : ℕ) (walks : List Walk) (questions : List Tracked) (before between after : List ℕ) → told.ticks ≡ true →
    ArePut (may_be_asked told moment) questions before between → ArePut (λ one. is_walked walks one.key.name) questions between after → ArePut (is_near told moment walks) questions before after
near_ticked told moment walks questions before between after ticks may walked =
    put_like (λ one. may_be_asked told moment one || is_walked walks one.key.name) (is_near told moment walks) questions before after
    (λ one. ap (λ (t : Bool). may_be_asked told moment one || (t && is_walked walks one.key.name)) (sym ticks))
    (put_both (may_be_asked told moment) (λ one. is_walked walks one.key.name) questions before between after may walked)

pub near_else : (told : Told) (moment : ℕ) (walks : List Walk) (questions : List Tracked) (before after : List ℕ) → told.ticks ≡ false →
    ArePut (may_be_asked told moment) questions before after → ArePut (is_near told moment walks) questions before after
near_else told moment walks questions before after ticks may =
    put_like (may_be_asked told moment) (is_near told moment walks) questions before after
    (λ one. sym (ap (λ (t : Bool). may_be_asked told moment one || (t && is_walked walks one.key.name)) ticks ∙ or_none (may_be_asked told moment one))) may

-- by nothing else that happens a question may be asked
pub none_asked : (it : Happened) (moment : ℕ) (questions : List Tracked) (places : List ℕ) → (it ≡ happened.Ticked → ⊥) → ((said : Said) → it ≡ happened.Heard said → ⊥) →
    ArePut (may_be_asked (told_by it) moment) questions places places
none_asked happened.Ticked moment questions places ticked heard = absurd (ticked refl)
none_asked (happened.Heard said) moment questions places ticked heard = absurd (heard said refl)
none_asked (happened.Refused why) moment questions places ticked heard = put_none (may_be_asked (told_by (happened.Refused why)) moment) questions places (λ one. refl)
none_asked (happened.Opened session) moment questions places ticked heard = put_none (may_be_asked (told_by (happened.Opened session)) moment) questions places (λ one. refl)
none_asked (happened.Called session op request code) moment questions places ticked heard =
    put_none (may_be_asked (told_by (happened.Called session op request code)) moment) questions places (λ one. refl)
none_asked (happened.Detached session) moment questions places ticked heard = put_none (may_be_asked (told_by (happened.Detached session)) moment) questions places (λ one. refl)
none_asked (happened.Took session max) moment questions places ticked heard = put_none (may_be_asked (told_by (happened.Took session max)) moment) questions places (λ one. refl)
none_asked (happened.Nothing why) moment questions places ticked heard = put_none (may_be_asked (told_by (happened.Nothing why)) moment) questions places (λ one. refl)

-- places that were put to none are so in any order
pub put_moved : (test : Tracked → Bool) (questions : List Tracked) (places moved : List ℕ) → ArePut test questions [] places → ((place : ℕ) → Contains places place → Contains moved place) →
    ((place : ℕ) → Contains moved place → Contains places place) → ArePut test questions [] moved
put_moved test questions places moved put there back = record {
  kept = λ place h. absurd (none_in place h);
  put = λ place is. there place (put.put place is);
  only = λ place h. put.only place (back place h);
}
