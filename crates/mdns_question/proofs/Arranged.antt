-- Questions in strict order: what a change at the place of a question makes of them.
use Rattle.std.proofs.Common.{◌≡◌, ℕ, ◌+◌, ◌-◌, ◌*◌, ◌<◌, ◌≤◌, min, Some, Bool, true, false, cond, not, List, [], ◌∷◌, length, map, get_or, set, refl, ap, subst, ◌∙◌, sym, arith, Result, Ok, Err}
use Rattle.std.specs.Prelude.{filter, nat_lt, IfOk, IfErr, OnOk, OnErr}
use Rattle.std.specs.List.{insert, remove, list_any, AllByRecursion}
use Rattle.std.specs.List.Sorted.{IsBinarySearchResult, IsSearchInRange}
use Rattle.std.specs.Ordering.{is_eq}
use Rattle.std.proofs.lemmas.List.{map-set, get_or-set_same, get_or_default}
use Rattle.std.proofs.Math.Seq.{map-set_same}
use Rattle.std.proofs.lemmas.Bool.{lt-ltb, le-ltb}
use Rattle.lists.specs.Lists.{insert_by}
use Rattle.dns_record.specs.declared.record.Key.{Key}
use Rattle.dns_record.specs.Records.{key_cmp}
use Rattle.mdns_history.specs.declared.mark.Cause.{Cause}
use Rattle.mdns_history.specs.Asking.{is_counted}
use Rattle.mdns_timer.specs.Strict.{IsStrict}
use Rattle.mdns_timer.proofs.Placed.{searchable, found_any, found_map, found_filter, apart, none_any, none_map, inserted, strict_inserted, strict_keys, strict_filter}
use Rattle.mdns_question.specs.declared.tracked.Tracked.{Tracked}
use Rattle.mdns_question.specs.Tracking.{tracked_cmp, is_for, is_used, one_more, used_more, used_less, begun, with_user, without_user, longest_gap, asked_at}
use Rattle.mdns_question.specs.Refreshing.{moment_of}
use Rattle.mdns_question.specs.Arranged.{IsArranged, IsAt, IsBetween, IsChangedAt, with_more, with_less}
use Rattle.mdns_question.proofs.Order.{key_cmp_total, key_eq_is, key_turned}
use Rattle.mdns_question.proofs.Places.{element, each_at, each_set, each_insert, each_remove, map_insert, map_remove, all_pass, all_but_one}

abbrev key_in : Tracked → Key
key_in one = one.key

-- a change of the question alone
abbrev pub only : Key → (Tracked → Tracked) → Tracked → Tracked
only question change one = cond (is_for question one) (change one) one

more_is : (question : Key) (one : Tracked) → used_more question one ≡ only question with_more one
more_is question one = of (is_for question one)
  where
    of : (b : Bool) → record one { users = cond b (one_more one.users) one.users } ≡ cond b (with_more one) one
    of true = refl
    of false = refl

less_is : (question : Key) (one : Tracked) → used_less question one ≡ only question with_less one
less_is question one = of (is_for question one)
  where
    of : (b : Bool) → record one { users = cond b (one.users - 1) one.users } ≡ cond b (with_less one) one
    of true = refl
    of false = refl

-- a question that stands at a place
module _ (questions : List Tracked) (question : Key) (place : ℕ) (order : IsStrict tracked_cmp questions) (at : IsAt questions question place) where
  pub there : true ≡ list_any (is_for question) questions
  there =
      let one = element questions place at.within in
      sym (found_any key_in key_cmp key_cmp_total question (is_for question) (λ x. key_eq_is question x.key) questions place one.0 at.within (key_turned (get_or questions place one.0).key question (at.same one.0)))

  pub set_is : (change : Tracked → Tracked) (one : Tracked) → one ≡ get_or questions place one → set questions place (change one) ≡ map (only question change) questions
  set_is change one is =
      ap (λ x. set questions place (change x)) is
      ∙ sym (found_map key_in key_cmp key_cmp_total question (is_for question) (λ x. key_eq_is question x.key) change questions place one at.within (key_turned (get_or questions place one).key question (at.same one)) order)

  pub changed_is : (change : Tracked → Tracked) (after : List Tracked) → IsChangedAt change place questions after → after ≡ map (only question change) questions
  changed_is change after changed = let one = element questions place at.within in changed one.0 one.1 ∙ set_is change one.0 one.1

  pub more_user : (moment word : ℕ) (after : List Tracked) → IsChangedAt with_more place questions after → after ≡ with_user moment word question questions
  more_user moment word after changed =
      changed_is with_more after changed
      ∙ (λ i. map (λ one. sym (more_is question one) i) questions)
      ∙ ap (λ (b : Bool). cond b (map (used_more question) questions) (insert_by tracked_cmp (begun moment word question) questions)) there

  less_map : (one : Tracked) → one ≡ get_or questions place one → map (used_less question) questions ≡ set questions place (with_less one)
  less_map one is = (λ i. map (λ x. less_is question x i) questions) ∙ sym (set_is with_less one is)

  module _ (used : AllByRecursion (λ one. is_used one ≡ true) questions) (one : Tracked) (is : one ≡ get_or questions place one) where
    pub less_user : is_used (with_less one) ≡ true → set questions place (with_less one) ≡ without_user question questions
    less_user left =
        sym (all_pass is_used (set questions place (with_less one)) (each_set (λ x. is_used x ≡ true) questions place (with_less one) left used))
        ∙ ap (filter is_used) (sym (less_map one is))

    pub last_user : is_used (with_less one) ≡ false → remove questions place ≡ without_user question questions
    last_user none =
        sym (all_but_one is_used questions place (with_less one) at.within none used)
        ∙ ap (filter is_used) (sym (less_map one is))

  pub strict_removed : IsStrict tracked_cmp (remove questions place)
  strict_removed =
      let one = element questions place at.within in
      subst (IsStrict tracked_cmp)
      (found_filter key_in key_cmp key_cmp_total question (is_for question) (λ x. key_eq_is question x.key) questions place one.0 at.within (key_turned (get_or questions place one.0).key question (at.same one.0)) order)
      (strict_filter tracked_cmp (λ x. not (is_for question x)) questions order)

-- a question that isn't there
module _ (questions : List Tracked) (question : Key) (place : ℕ) (at : IsBetween questions question place) where
  none : AllByRecursion (λ x. is_for question x ≡ false) questions
  none = apart key_in key_cmp key_cmp_total question (is_for question) (λ x. key_eq_is question x.key) questions place at.less at.more

  pub not_there : false ≡ list_any (is_for question) questions
  not_there = sym (none_any key_in key_cmp key_cmp_total question (is_for question) (λ x. key_eq_is question x.key) questions none)

  pub only_none : (change : Tracked → Tracked) → questions ≡ map (only question change) questions
  only_none change = sym (none_map key_in key_cmp key_cmp_total question (is_for question) (λ x. key_eq_is question x.key) change questions none)

  pub no_user : AllByRecursion (λ one. is_used one ≡ true) questions → questions ≡ without_user question questions
  no_user used =
      sym (all_pass is_used questions used)
      ∙ ap (filter is_used) (only_none with_less ∙ (λ i. map (λ x. sym (less_is question x) i) questions))

  -- a question that begins
  module _ (new : Tracked) (key_is : new.key ≡ question) where
    in_place : insert questions place new ≡ insert_by tracked_cmp new questions
    in_place =
        inserted key_in key_cmp key_cmp_total new questions place at.within
        (λ k d h. ap (key_cmp (get_or questions k d).key) key_is ∙ at.less k d h) (λ k d h g. ap (key_cmp (get_or questions k d).key) key_is ∙ at.more k d h g)

    pub strict_begun : IsStrict tracked_cmp questions → IsStrict tracked_cmp (insert questions place new)
    strict_begun order =
        subst (IsStrict tracked_cmp) (sym in_place)
        (strict_inserted key_in key_cmp key_cmp_total new questions
        (none_any key_in key_cmp key_cmp_total new.key (λ x. is_eq (key_cmp new.key x.key)) (λ x. refl) questions
        (subst (λ (k : Key). AllByRecursion (λ x. is_eq (key_cmp k x.key) ≡ false) questions) (sym key_is) (none_by questions none))) order)
      where
        none_by : (qs : List Tracked) → AllByRecursion (λ x. is_for question x ≡ false) qs → AllByRecursion (λ x. is_eq (key_cmp question x.key) ≡ false) qs
        none_by [] h = tt
        none_by (q ∷ qs) h = (sym (key_eq_is question q.key) ∙ h.0, none_by qs h.1)

    pub begun_user : (moment word : ℕ) → new ≡ begun moment word question → insert questions place new ≡ with_user moment word question questions
    begun_user moment word is =
        in_place
        ∙ ap (λ (x : Tracked). insert_by tracked_cmp x questions) is
        ∙ ap (λ (b : Bool). cond b (map (used_more question) questions) (insert_by tracked_cmp (begun moment word question) questions)) not_there

-- Questions stay arranged.
module _ (questions : List Tracked) (moments : List ℕ) (arranged : IsArranged questions moments) where
  module _ (place : ℕ) (one new : Tracked) (is : one ≡ get_or questions place one) (same : new.key ≡ one.key) (used : is_used new ≡ true) where
    strict_set : IsStrict tracked_cmp (set questions place new)
    strict_set = strict_keys key_in key_cmp key_cmp_total questions (set questions place new) (sym (map-set_same key_in questions place new one (same ∙ ap key_in is))) arranged.order

    -- with a question that is due at another moment
    pub arranged_set : IsArranged (set questions place new) (set moments place (moment_of new))
    arranged_set = record {
      order = strict_set;
      used = each_set (λ x. is_used x ≡ true) questions place new used arranged.used;
      timed = ap (λ (l : List ℕ). set l place (moment_of new)) arranged.timed ∙ sym (map-set moment_of questions place new);
    }

    -- with a question that is due at the same moment
    pub arranged_kept : moment_of new ≡ moment_of one → IsArranged (set questions place new) moments
    arranged_kept due = record {
      order = strict_set;
      used = each_set (λ x. is_used x ≡ true) questions place new used arranged.used;
      timed = arranged.timed ∙ sym (map-set_same moment_of questions place new one (due ∙ ap moment_of is));
    }

  pub arranged_begun : (question : Key) (place : ℕ) → IsBetween questions question place → (new : Tracked) → new.key ≡ question → is_used new ≡ true → IsArranged (insert questions place new) (insert moments place (moment_of new))
  arranged_begun question place at new same used = record {
    order = strict_begun questions question place at new same arranged.order;
    used = each_insert (λ x. is_used x ≡ true) questions place new at.within used arranged.used;
    timed = ap (λ (l : List ℕ). insert l place (moment_of new)) arranged.timed ∙ sym (map_insert moment_of questions place new at.within);
  }

  pub arranged_ended : (question : Key) (place : ℕ) → IsAt questions question place → IsArranged (remove questions place) (remove moments place)
  arranged_ended question place at = record {
    order = strict_removed questions question place arranged.order at;
    used = each_remove (λ x. is_used x ≡ true) questions place arranged.used;
    timed = ap (λ (l : List ℕ). remove l place) arranged.timed ∙ sym (map_remove moment_of questions place);
  }

  pub used_at : (place : ℕ) (one : Tracked) → place < length questions → one ≡ get_or questions place one → is_used one ≡ true
  used_at place one within is = ap is_used is ∙ each_at (λ x. is_used x ≡ true) questions place one within arranged.used

-- an asking keeps the question and its users
pub asked_key : (moment : ℕ) (cause : Cause) (one : Tracked) → (asked_at moment cause one).key ≡ one.key
asked_key moment cause one = of (is_counted cause)
  where
    of : (b : Bool) → (cond b (record one { next = moment + min one.gap longest_gap; gap = 2 * min one.gap longest_gap; last = Some moment }) (record one { last = Some moment })).key ≡ one.key
    of true = refl
    of false = refl

pub asked_users : (moment : ℕ) (cause : Cause) (one : Tracked) → (asked_at moment cause one).users ≡ one.users
asked_users moment cause one = of (is_counted cause)
  where
    of : (b : Bool) → (cond b (record one { next = moment + min one.gap longest_gap; gap = 2 * min one.gap longest_gap; last = Some moment }) (record one { last = Some moment })).users ≡ one.users
    of true = refl
    of false = refl

-- what a binary search for a question says
pub found_at : (questions : List Tracked) (question : Key) (r : Result ℕ ℕ) → IsSearchInRange r (length questions) → IsBinarySearchResult (λ one. key_cmp one.key question) questions r → IfOk r (IsAt questions question)
found_at questions question (Ok i) within at = record { within = within; same = at }
found_at questions question (Err i) within at = tt

pub found_between : (questions : List Tracked) (question : Key) (r : Result ℕ ℕ) → IsStrict tracked_cmp questions → IsSearchInRange r (length questions) → IsBinarySearchResult (λ one. key_cmp one.key question) questions r →
    IfErr r (IsBetween questions question)
found_between questions question (Ok i) order within at = tt
found_between questions question (Err i) order within at =
    let parts = at (searchable key_in key_cmp key_cmp_total question questions order) in
    record { within = within; less = λ k d h. parts.0 k d (omega arith) h; more = λ k d h g. parts.1 k d h g }

-- What the calls leave, told by what their steps ensure.
module _ (questions : List Tracked) (moments : List ℕ) (arranged : IsArranged questions moments) (place : ℕ) (within : place < length questions) (after : List Tracked) where
  -- a question at a place that was changed, and the moment at which it is due then
  pub retimed : (change : Tracked → Tracked) → ((one : Tracked) → (change one).key ≡ one.key) → ((one : Tracked) → (change one).users ≡ one.users) → IsChangedAt change place questions after →
      (later : List ℕ) (m : ℕ) (r : Tracked) → m ≡ moment_of (get_or after place r) → later ≡ set moments place m → IsArranged after later
  retimed change same_key same_users changed later m r m_is later_is =
      subst (λ (qs : List Tracked). IsArranged qs later) (sym after_is) (subst (λ (ms : List ℕ). IsArranged (set questions place (change one.0)) ms) (sym moments_are) whole)
    where
      one : (x : Tracked) × (x ≡ get_or questions place x)
      one = element questions place within

      after_is : after ≡ set questions place (change one.0)
      after_is = changed one.0 one.1

      moments_are : later ≡ set moments place (moment_of (change one.0))
      moments_are = later_is ∙ ap (λ n. set moments place n) (m_is ∙ ap moment_of (ap (λ (l : List Tracked). get_or l place r) after_is ∙ get_or-set_same questions place (change one.0) r within))

      whole : IsArranged (set questions place (change one.0)) (set moments place (moment_of (change one.0)))
      whole = arranged_set questions moments arranged place one.0 (change one.0) one.1 (same_key one.0) (ap (λ n. nat_lt 0 n) (same_users one.0) ∙ used_at questions moments arranged place one.0 within one.1)

  pub arranged_more : IsChangedAt with_more place questions after → IsArranged after moments
  arranged_more changed =
      let one = element questions place within in
      subst (λ (qs : List Tracked). IsArranged qs moments) (sym (changed one.0 one.1))
      (arranged_kept questions moments arranged place one.0 (with_more one.0) one.1 refl (some one.0.users) refl)
    where
      some : (users : ℕ) → nat_lt 0 (one_more users) ≡ true
      some users = lt-ltb 0 (one_more users) (omega arith)

  -- a question with several users loses one, and one with a single user ends
  pub less_of_several : (one : Tracked) → one ≡ get_or questions place one → 1 < one.users → is_used (with_less one) ≡ true
  less_of_several one is more = lt-ltb 0 (one.users - 1) (omega arith)

  pub arranged_less : (d : Tracked) → 1 < (get_or questions place d).users → IsChangedAt with_less place questions after → IsArranged after moments
  arranged_less d more changed =
      let one = element questions place within in
      let same : get_or questions place d ≡ one.0 = get_or_default questions place d one.0 within ∙ sym one.1 in
      let several : 1 < one.0.users = subst (λ (x : Tracked). 1 < x.users) same more in
      subst (λ (qs : List Tracked). IsArranged qs moments) (sym (changed one.0 one.1))
      (arranged_kept questions moments arranged place one.0 (with_less one.0) one.1 refl (less_of_several one.0 one.1 several) refl)

  pub without_several : (question : Key) (d : Tracked) → 1 < (get_or questions place d).users → IsChangedAt with_less place questions after → IsAt questions question place → after ≡ without_user question questions
  without_several question d more changed at =
      let one = element questions place within in
      let same : get_or questions place d ≡ one.0 = get_or_default questions place d one.0 within ∙ sym one.1 in
      let several : 1 < one.0.users = subst (λ (x : Tracked). 1 < x.users) same more in
      changed one.0 one.1 ∙ less_user questions question place arranged.order at arranged.used one.0 one.1 (less_of_several one.0 one.1 several)

  pub without_last : (question : Key) (d : Tracked) → (get_or questions place d).users ≤ 1 → after ≡ remove questions place → IsAt questions question place → after ≡ without_user question questions
  without_last question d few removed at =
      let one = element questions place within in
      let same : get_or questions place d ≡ one.0 = get_or_default questions place d one.0 within ∙ sym one.1 in
      let single : one.0.users ≤ 1 = subst (λ (x : Tracked). x.users ≤ 1) same few in
      removed ∙ last_user questions question place arranged.order at arranged.used one.0 one.1 (no_less one.0.users single)
    where
      no_less : (users : ℕ) → users ≤ 1 → nat_lt 0 (users - 1) ≡ false
      no_less users h = le-ltb 0 (users - 1) (omega arith)

-- a question that begins, or for which there was no memory
module _ (questions : List Tracked) (moments : List ℕ) (arranged : IsArranged questions moments) (question : Key) (place : ℕ) (at : IsBetween questions question place) (new : Tracked) (moment word : ℕ) (is : new ≡ begun moment word question) where
  pub begun_ok : {E : Type 0} (r : Result (Unit {0}) E) (after : List Tracked) → OnOk r (after ≡ insert questions place new) → OnOk r (after ≡ with_user moment word question questions)
  begun_ok (Ok done) after h = h ∙ begun_user questions question place at new (ap key_in is) moment word is
  begun_ok (Err e) after h = tt

  pub arranged_either : {E : Type 0} (r : Result (Unit {0}) E) (after : List Tracked) (later : List ℕ) → OnOk r (after ≡ insert questions place new) → OnOk r (later ≡ insert moments place (moment_of new)) → OnErr r (after ≡ questions) → OnErr r (later ≡ moments) → IsArranged after later
  arranged_either (Ok done) after later a b c d =
      subst (λ (qs : List Tracked). IsArranged qs later) (sym a) (subst (λ (ms : List ℕ). IsArranged (insert questions place new) ms) (sym b)
      (arranged_begun questions moments arranged question place at new (ap key_in is) (ap is_used is)))
  arranged_either (Err e) after later a b c d = subst (λ (qs : List Tracked). IsArranged qs later) (sym c) (subst (λ (ms : List ℕ). IsArranged questions ms) (sym d) arranged)

pub ended : {after questions : List Tracked} {later moments : List ℕ} → after ≡ questions → later ≡ moments → IsArranged questions moments → IsArranged after later
ended {questions = questions} {later = later} a b h = subst (λ (qs : List Tracked). IsArranged qs later) (sym a) (subst (λ (ms : List ℕ). IsArranged questions ms) (sym b) h)
