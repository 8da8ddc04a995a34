-- What users and askings make of the tracked question that is found for a question.
use Rattle.std.proofs.Common.{◌≡◌, ℕ, suc, ◌+◌, ◌-◌, ◌<◌, Bool, true, false, cond, ◌&&◌, ◌||◌, List, [], ◌∷◌, map, Option, Some, None, refl, ap, ◌∙◌, sym, subst, arith}
use Rattle.std.specs.Prelude.{filter, nat_lt}
use Rattle.std.specs.List.{list_any, find, filter_map, cons_option}
use Rattle.std.specs.Option.{option_map, option_map_or, is_some, option_to_list}
use Rattle.std.proofs.lemmas.Simd.{map-map}
use Rattle.lists.specs.Lists.{insert_by}
use Rattle.dns_record.specs.declared.record.Key.{Key}
use Rattle.dns_record.specs.Records.{key_eq}
use Rattle.mdns_history.specs.declared.mark.Cause.{Cause}
use Rattle.mdns_history.specs.Asking.{is_counted}
use Rattle.mdns_history.specs.Questions.{Active}
use Rattle.mdns_question.specs.declared.tracked.Tracked.{Tracked}
use Rattle.mdns_question.specs.Tracking.{active_of, is_for, tracked_cmp, begun, one_more, used_more, used_less, is_used, with_user, without_user, with_asking, noted, asked_at}
use Rattle.mdns_asking.specs.Asked.{all_begun, all_ended, all_asked}
use Rattle.mdns_asking.proofs.KeyOrder.{key_eq-itself, key_eq-same, key_eq-turned}
use Rattle.mdns_asking.proofs.KeyLists.{IsStrict, looked, has_key, if_passes, looked_found, looked_none, looked_has, looked_same, none_same, strict_inserted, looked_inserted, strict_map, looked_map, strict_filter, looked_filter}
use Rattle.mdns_asking.proofs.KeyUses.{times}

-- the question of a tracked one
abbrev pub key_of : Tracked → Key
key_of one = one.key

-- a question with one user more, where it may be there
abbrev pub user_more : ℕ → ℕ → Key → Option Tracked → Tracked
user_more moment word k None = begun moment word k
user_more moment word k (Some one) = record one { users = one_more one.users }

-- what is found for a question after more users, and after less
abbrev pub after_begun : ℕ → ℕ → Key → List Key → Option Tracked → Option Tracked
after_begun moment word q [] found = found
after_begun moment word q (k ∷ ks) found = after_begun moment word q ks (cond (key_eq q k) (Some (user_more moment word k found)) found)

abbrev pub after_ended : List Key → Option Tracked → Option Tracked
after_ended [] found = found
after_ended (k ∷ ks) found = after_ended ks (if_passes is_used (option_map (used_less k) found))

strict_user : (moment word : ℕ) (k : Key) (tracked : List Tracked) → IsStrict key_of tracked → IsStrict key_of (with_user moment word k tracked)
strict_user moment word k tracked s = of (list_any (is_for k) tracked) refl
  where
    of : (b : Bool) → list_any (is_for k) tracked ≡ b → IsStrict key_of (cond b (map (used_more k) tracked) (insert_by tracked_cmp (begun moment word k) tracked))
    of true e = strict_map key_of (used_more k) tracked s
    of false e = strict_inserted key_of (begun moment word k) tracked e s

looked_user : (moment word : ℕ) (k : Key) (tracked : List Tracked) (q : Key) →
    looked key_of q (with_user moment word k tracked) ≡ cond (key_eq q k) (Some (user_more moment word k (looked key_of q tracked))) (looked key_of q tracked)
looked_user moment word k tracked q = of (list_any (is_for k) tracked) refl
  where
    used : (b : Bool) (o : Option Tracked) → key_eq q k ≡ b → looked key_of q tracked ≡ o → list_any (is_for k) tracked ≡ true →
        option_map (used_more k) o ≡ cond b (Some (user_more moment word k o)) o
    used true None f g e =
        let gone : looked key_of k tracked ≡ None = sym (looked_same key_of q k tracked f) ∙ g in
        let not_there : list_any (is_for k) tracked ≡ false = sym (looked_has key_of k tracked) ∙ ap is_some gone in absurd (cc)
    used false None f g e = refl
    used true (Some one) f g e =
        let same : key_eq k one.key ≡ true = sym (key_eq-same q k f one.key) ∙ looked_found key_of q tracked one g in
        ap (λ b. Some (record one { users = cond b (one_more one.users) one.users })) same
    used false (Some one) f g e =
        let other : key_eq k one.key ≡ false = key_eq-turned k one.key ∙ sym (key_eq-same q one.key (looked_found key_of q tracked one g) k) ∙ f in
        ap (λ b. Some (record one { users = cond b (one_more one.users) one.users })) other

    new : (b : Bool) → key_eq q k ≡ b → list_any (is_for k) tracked ≡ false → cond b (Some (begun moment word k)) (looked key_of q tracked) ≡ cond b (Some (user_more moment word k (looked key_of q tracked))) (looked key_of q tracked)
    new true f e = ap (λ o. Some (user_more moment word k o)) (sym (looked_same key_of q k tracked f ∙ looked_none key_of k tracked e))
    new false f e = refl

    of : (b : Bool) → list_any (is_for k) tracked ≡ b →
        looked key_of q (cond b (map (used_more k) tracked) (insert_by tracked_cmp (begun moment word k) tracked)) ≡ cond (key_eq q k) (Some (user_more moment word k (looked key_of q tracked))) (looked key_of q tracked)
    of true e = looked_map key_of (used_more k) q tracked ∙ used (key_eq q k) (looked key_of q tracked) refl refl e
    of false e = looked_inserted key_of q (begun moment word k) tracked e ∙ new (key_eq q k) refl e

pub strict_begun : (moment word : ℕ) (ks : List Key) (tracked : List Tracked) → IsStrict key_of tracked → IsStrict key_of (all_begun moment word ks tracked)
strict_begun moment word [] tracked s = s
strict_begun moment word (k ∷ ks) tracked s = strict_begun moment word ks (with_user moment word k tracked) (strict_user moment word k tracked s)

pub looked_begun : (moment word : ℕ) (ks : List Key) (tracked : List Tracked) (q : Key) → looked key_of q (all_begun moment word ks tracked) ≡ after_begun moment word q ks (looked key_of q tracked)
looked_begun moment word [] tracked q = refl
looked_begun moment word (k ∷ ks) tracked q = looked_begun moment word ks (with_user moment word k tracked) q ∙ ap (after_begun moment word q ks) (looked_user moment word k tracked q)

pub strict_ended : (ks : List Key) (tracked : List Tracked) → IsStrict key_of tracked → IsStrict key_of (all_ended ks tracked)
strict_ended [] tracked s = s
strict_ended (k ∷ ks) tracked s = strict_ended ks (without_user k tracked) (strict_filter key_of is_used (map (used_less k) tracked) (strict_map key_of (used_less k) tracked s))

pub looked_ended : (ks : List Key) (tracked : List Tracked) → IsStrict key_of tracked → (q : Key) → looked key_of q (all_ended ks tracked) ≡ after_ended ks (looked key_of q tracked)
looked_ended [] tracked s q = refl
looked_ended (k ∷ ks) tracked s q =
    looked_ended ks (without_user k tracked) (strict_filter key_of is_used (map (used_less k) tracked) (strict_map key_of (used_less k) tracked s)) q
    ∙ ap (after_ended ks) (looked_filter key_of is_used q (map (used_less k) tracked) (strict_map key_of (used_less k) tracked s) ∙ ap (if_passes is_used) (looked_map key_of (used_less k) q tracked))

-- more users, by how often the question is among the keys
pub begun_none : (moment word : ℕ) (q : Key) (ks : List Key) (o : Option Tracked) → times q ks ≡ 0 → after_begun moment word q ks o ≡ o
begun_none moment word q [] o h = refl
begun_none moment word q (k ∷ ks) o h = of (key_eq q k) h (begun_none moment word q ks)
  where
    of : (b : Bool) → cond b (suc (times q ks)) (times q ks) ≡ 0 → ((p : Option Tracked) → times q ks ≡ 0 → after_begun moment word q ks p ≡ p) → after_begun moment word q ks (cond b (Some (user_more moment word k o)) o) ≡ o
    of true g rest = absurd (omega arith)
    of false g rest = rest o g

pub begun_once : (moment word : ℕ) (q : Key) (ks : List Key) (o : Option Tracked) (k : Key) → times q ks ≡ 1 → find (key_eq q) ks ≡ Some k → after_begun moment word q ks o ≡ Some (user_more moment word k o)
begun_once moment word q [] o k h g = absurd (cc)
begun_once moment word q (j ∷ ks) o k h g = of (key_eq q j) h g (begun_once moment word q ks o k)
  where
    of : (b : Bool) → cond b (suc (times q ks)) (times q ks) ≡ 1 → cond b (Some j) (find (key_eq q) ks) ≡ Some k → (times q ks ≡ 1 → find (key_eq q) ks ≡ Some k → after_begun moment word q ks o ≡ Some (user_more moment word k o)) →
        after_begun moment word q ks (cond b (Some (user_more moment word j o)) o) ≡ Some (user_more moment word k o)
    of true f e rest =
        let one : j ≡ k = cc in
        begun_none moment word q ks (Some (user_more moment word j o)) (omega arith) ∙ ap (λ i. Some (user_more moment word i o)) one
    of false f e rest = rest f e

-- less users
pub ended_none : (ks : List Key) → after_ended ks None ≡ None
ended_none [] = refl
ended_none (k ∷ ks) = ended_none ks

-- a question with so many users
abbrev pub with_users : ℕ → Tracked → Tracked
with_users n one = record one { users = n }

-- what is left of a question once these keys have lost it users
abbrev LeftBehind : Key → List Key → Tracked → Type 0
LeftBehind q ks one = (n : ℕ) → 0 < n → (left : ℕ) → left + times q ks ≡ n → after_ended ks (Some (with_users n one)) ≡ if_passes is_used (Some (with_users left one))

pub ended_left : (q : Key) (ks : List Key) (one : Tracked) → key_eq q one.key ≡ true → 0 < one.users → (left : ℕ) → left + times q ks ≡ one.users → after_ended ks (Some one) ≡ if_passes is_used (Some (with_users left one))
ended_left q [] one same used left sum =
    let all : left ≡ one.users = omega arith in
    let some : nat_lt 0 one.users ≡ true = grind arith in
    sym (ap (λ b. cond b (Some one) None) some) ∙ sym (ap (λ n. if_passes is_used (Some (with_users n one))) all)
ended_left q (k ∷ ks) one same used left sum = of (key_eq q k) refl sum (λ n. ended_left q ks (with_users n one) same)
  where
    for : (b : Bool) → key_eq q k ≡ b → key_eq k one.key ≡ b
    for b e = key_eq-turned k one.key ∙ sym (key_eq-same q one.key same k) ∙ e

    last : (n : ℕ) → one.users ≡ suc n → nat_lt 0 n ≡ false → left + suc (times q ks) ≡ one.users → left ≡ 0
    last n e f g = let none : n ≡ 0 = grind arith in omega arith

    less : (c : Bool) → nat_lt 0 (one.users - 1) ≡ c → left + suc (times q ks) ≡ one.users → LeftBehind q ks one →
        after_ended ks (cond c (Some (with_users (one.users - 1) one)) None) ≡ if_passes is_used (Some (with_users left one))
    less true f g rest =
        let positive : 0 < one.users - 1 = grind arith in
        rest (one.users - 1) positive left (omega arith)
    less false f g rest =
        let few : one.users - 1 ≡ 0 = grind arith in
        let gone : left ≡ 0 = omega arith in
        ended_none ks ∙ sym (ap (λ n. if_passes is_used (Some (with_users n one))) gone)

    of : (b : Bool) → key_eq q k ≡ b → left + cond b (suc (times q ks)) (times q ks) ≡ one.users → LeftBehind q ks one →
        after_ended ks (if_passes is_used (Some (used_less k one))) ≡ if_passes is_used (Some (with_users left one))
    of true e g rest =
        ap (λ b. after_ended ks (if_passes is_used (Some (with_users (cond b (one.users - 1) one.users) one)))) (for true e) ∙ less (nat_lt 0 (one.users - 1)) refl g rest
    of false e g rest =
        let some : nat_lt 0 one.users ≡ true = grind arith in
        ap (λ b. after_ended ks (if_passes is_used (Some (with_users (cond b (one.users - 1) one.users) one)))) (for false e)
        ∙ ap (λ b. after_ended ks (cond b (Some one) None)) some ∙ rest one.users used left g

-- askings
abbrev pub all_noted : ℕ → List (Key × Cause) → Tracked → Tracked
all_noted moment [] one = one
all_noted moment (due ∷ dues) one = all_noted moment dues (noted moment due.0 due.1 one)

cond_key : (k : Key) (b : Bool) (x y : Tracked) → x.key ≡ k → y.key ≡ k → (cond b x y).key ≡ k
cond_key k true x y e f = e
cond_key k false x y e f = f

pub asked_key : (moment : ℕ) (why : Cause) (one : Tracked) → (asked_at moment why one).key ≡ one.key
asked_key moment why one = cond_key one.key (is_counted why) _ _ refl refl

cond_active : (a : Active) (b : Bool) (x y : Tracked) → active_of x ≡ a → active_of y ≡ a → active_of (cond b x y) ≡ a
cond_active a true x y e f = e
cond_active a false x y e f = f

pub asked_active : (moment : ℕ) (why : Cause) (one : Tracked) → active_of (asked_at moment why one) ≡ active_of one
asked_active moment why one = cond_active (active_of one) (is_counted why) _ _ refl refl

noted_key : (moment : ℕ) (k : Key) (why : Cause) (one : Tracked) → (noted moment k why one).key ≡ one.key
noted_key moment k why one = cond_key one.key (is_for k one) (asked_at moment why one) one (asked_key moment why one) refl

all_noted_key : (moment : ℕ) (dues : List (Key × Cause)) (one : Tracked) → (all_noted moment dues one).key ≡ one.key
all_noted_key moment [] one = refl
all_noted_key moment (due ∷ dues) one = all_noted_key moment dues (noted moment due.0 due.1 one) ∙ noted_key moment due.0 due.1 one

map_itself : (tracked : List Tracked) → tracked ≡ map (λ one. one) tracked
map_itself [] = refl
map_itself (one ∷ tracked) = ap (λ l. one ∷ l) (map_itself tracked)

asked_all : (moment : ℕ) (dues : List (Key × Cause)) (tracked : List Tracked) → all_asked moment dues tracked ≡ map (all_noted moment dues) tracked
asked_all moment [] tracked = map_itself tracked
asked_all moment (due ∷ dues) tracked =
    asked_all moment dues (with_asking moment due.0 due.1 tracked) ∙ map-map (all_noted moment dues) (noted moment due.0 due.1) tracked

keys_stay : (moment : ℕ) (dues : List (Key × Cause)) → ◌≡◌ {A = Tracked → Key} (λ one. key_of (all_noted moment dues one)) key_of
keys_stay moment dues = λ i one. all_noted_key moment dues one i

pub strict_asked : (moment : ℕ) (dues : List (Key × Cause)) (tracked : List Tracked) → IsStrict key_of tracked → IsStrict key_of (all_asked moment dues tracked)
strict_asked moment dues tracked s =
    subst (λ l. IsStrict key_of l) (sym (asked_all moment dues tracked))
    (strict_map key_of (all_noted moment dues) tracked (subst (λ (key : Tracked → Key). IsStrict key tracked) (sym (keys_stay moment dues)) s))

pub looked_asked : (moment : ℕ) (dues : List (Key × Cause)) (tracked : List Tracked) (q : Key) → looked key_of q (all_asked moment dues tracked) ≡ option_map (all_noted moment dues) (looked key_of q tracked)
looked_asked moment dues tracked q =
    ap (looked key_of q) (asked_all moment dues tracked) ∙ looked_map key_of (all_noted moment dues) q tracked
    ∙ ap (λ (key : Tracked → Key). option_map (all_noted moment dues) (looked key q tracked)) (keys_stay moment dues)

-- askings that are chosen for the questions that are kept
abbrev pub chosen : (Tracked → Option Cause) → Tracked → Option (Key × Cause)
chosen choose one = option_map (λ why. (one.key, why)) (choose one)

abbrev is_due : Key → Key × Cause → Bool
is_due q due = key_eq q due.0

noted_picked : (moment : ℕ) (q : Key) (dues : List (Key × Cause)) (one : Tracked) → key_eq q one.key ≡ true → all_noted moment dues one ≡ all_noted moment (filter (is_due q) dues) one
noted_picked moment q [] one same = refl
noted_picked moment q (due ∷ dues) one same =
    of (key_eq q due.0) refl (noted_picked moment q dues (noted moment due.0 due.1 one) (ap (key_eq q) (noted_key moment due.0 due.1 one) ∙ same)) (noted_picked moment q dues one same)
  where
    of : (b : Bool) → key_eq q due.0 ≡ b → all_noted moment dues (noted moment due.0 due.1 one) ≡ all_noted moment (filter (is_due q) dues) (noted moment due.0 due.1 one) →
        all_noted moment dues one ≡ all_noted moment (filter (is_due q) dues) one →
        all_noted moment dues (noted moment due.0 due.1 one) ≡ all_noted moment (cond b (due ∷ filter (is_due q) dues) (filter (is_due q) dues)) one
    of true e noting keeping = noting
    of false e noting keeping =
        let other : key_eq due.0 one.key ≡ false = key_eq-turned due.0 one.key ∙ sym (key_eq-same q one.key same due.0) ∙ e in
        ap (λ b. all_noted moment dues (cond b (asked_at moment due.1 one) one)) other ∙ keeping

any_picked : (q : Key) (dues : List (Key × Cause)) → list_any (is_due q) dues ≡ list_any (λ due. true) (filter (is_due q) dues)
any_picked q [] = refl
any_picked q (due ∷ dues) = of (key_eq q due.0) (any_picked q dues)
  where
    of : (b : Bool) → list_any (is_due q) dues ≡ list_any (λ d. true) (filter (is_due q) dues) → (b || list_any (is_due q) dues) ≡ list_any (λ d. true) (cond b (due ∷ filter (is_due q) dues) (filter (is_due q) dues))
    of true ih = refl
    of false ih = ih

any_counted : (q : Key) (dues : List (Key × Cause)) → list_any (λ due. key_eq q due.0 && is_counted due.1) dues ≡ list_any (λ due. is_counted due.1) (filter (is_due q) dues)
any_counted q [] = refl
any_counted q (due ∷ dues) = of (key_eq q due.0) (any_counted q dues)
  where
    of : (b : Bool) → list_any (λ d. key_eq q d.0 && is_counted d.1) dues ≡ list_any (λ d. is_counted d.1) (filter (is_due q) dues) →
        ((b && is_counted due.1) || list_any (λ d. key_eq q d.0 && is_counted d.1) dues) ≡ list_any (λ d. is_counted d.1) (cond b (due ∷ filter (is_due q) dues) (filter (is_due q) dues))
    of true ih = ap (λ c. is_counted due.1 || c) ih
    of false ih = ih

module _ (choose : Tracked → Option Cause) where
  none_picked : (q : Key) (tracked : List Tracked) → has_key key_of q tracked ≡ false → filter (is_due q) (filter_map (chosen choose) tracked) ≡ []
  none_picked q [] none = refl
  none_picked q (one ∷ tracked) none = of (choose one) (key_eq q one.key) refl none (none_picked q tracked)
    where
      rest : List (Key × Cause)
      rest = filter_map (chosen choose) tracked

      of : (o : Option Cause) (b : Bool) → key_eq q one.key ≡ b → (b || has_key key_of q tracked) ≡ false → (has_key key_of q tracked ≡ false → filter (is_due q) rest ≡ []) →
          filter (is_due q) (cons_option (option_map (λ why. (one.key, why)) o) rest) ≡ []
      of None true e h ih = absurd (cc)
      of None false e h ih = ih h
      of (Some why) true e h ih = absurd (cc)
      of (Some why) false e h ih = ap (λ b. cond b ((one.key, why) ∷ filter (is_due q) rest) (filter (is_due q) rest)) e ∙ ih h

  picked : (q : Key) (tracked : List Tracked) (one : Tracked) → IsStrict key_of tracked → looked key_of q tracked ≡ Some one → filter (is_due q) (filter_map (chosen choose) tracked) ≡ option_to_list (chosen choose one)
  picked q [] one s h = absurd (cc)
  picked q (first ∷ tracked) one s h = of (key_eq q first.key) refl h (picked q tracked one s.1)
    where
      rest : List (Key × Cause)
      rest = filter_map (chosen choose) tracked

      here : (o : Option Cause) → key_eq q first.key ≡ true → filter (is_due q) (cons_option (option_map (λ why. (first.key, why)) o) rest) ≡ option_to_list (option_map (λ why. (first.key, why)) o)
      here None e = none_picked q tracked (none_same key_of q first.key tracked e s.0)
      here (Some why) e =
          ap (λ b. cond b ((first.key, why) ∷ filter (is_due q) rest) (filter (is_due q) rest)) e ∙ ap (λ l. (first.key, why) ∷ l) (none_picked q tracked (none_same key_of q first.key tracked e s.0))

      there : (o : Option Cause) → key_eq q first.key ≡ false → filter (is_due q) (cons_option (option_map (λ why. (first.key, why)) o) rest) ≡ filter (is_due q) rest
      there None e = refl
      there (Some why) e = ap (λ b. cond b ((first.key, why) ∷ filter (is_due q) rest) (filter (is_due q) rest)) e

      of : (b : Bool) → key_eq q first.key ≡ b → cond b (Some first) (looked key_of q tracked) ≡ Some one →
          (looked key_of q tracked ≡ Some one → filter (is_due q) rest ≡ option_to_list (chosen choose one)) →
          filter (is_due q) (filter_map (chosen choose) (first ∷ tracked)) ≡ option_to_list (chosen choose one)
      of true e g ih = let same : first ≡ one = cc in here (choose first) e ∙ ap (λ x. option_to_list (chosen choose x)) same
      of false e g ih = there (choose first) e ∙ ih g

  -- A tracked question with a cause is asked, and every other is as before.
  pub noted-chosen : (moment : ℕ) (tracked : List Tracked) (one : Tracked) → IsStrict key_of tracked → looked key_of one.key tracked ≡ Some one →
      all_noted moment (filter_map (chosen choose) tracked) one ≡ option_map_or (λ why. asked_at moment why one) (choose one) one
  noted-chosen moment tracked one s h =
      noted_picked moment one.key (filter_map (chosen choose) tracked) one (key_eq-itself one.key)
      ∙ ap (λ dues. all_noted moment dues one) (picked one.key tracked one s h) ∙ of (choose one)
    where
      of : (o : Option Cause) → all_noted moment (option_to_list (option_map (λ why. (one.key, why)) o)) one ≡ option_map_or (λ why. asked_at moment why one) o one
      of None = refl
      of (Some why) = ap (λ b. cond b (asked_at moment why one) one) (key_eq-itself one.key)

  -- It is asked where it has a cause, and that counts in the series where its cause does.
  pub asked-chosen : (tracked : List Tracked) (one : Tracked) → IsStrict key_of tracked → looked key_of one.key tracked ≡ Some one →
      list_any (λ (due : Key × Cause). key_eq one.key due.0) (filter_map (chosen choose) tracked) ≡ is_some (choose one)
  asked-chosen tracked one s h =
      any_picked one.key (filter_map (chosen choose) tracked) ∙ ap (list_any (λ (due : Key × Cause). true)) (picked one.key tracked one s h) ∙ of (choose one)
    where
      of : (o : Option Cause) → list_any (λ (due : Key × Cause). true) (option_to_list (option_map (λ why. (one.key, why)) o)) ≡ is_some o
      of None = refl
      of (Some why) = refl

  pub counted-chosen : (tracked : List Tracked) (one : Tracked) → IsStrict key_of tracked → looked key_of one.key tracked ≡ Some one →
      list_any (λ (due : Key × Cause). key_eq one.key due.0 && is_counted due.1) (filter_map (chosen choose) tracked) ≡ option_map_or is_counted (choose one) false
  counted-chosen tracked one s h =
      any_counted one.key (filter_map (chosen choose) tracked) ∙ ap (list_any (λ (due : Key × Cause). is_counted due.1)) (picked one.key tracked one s h) ∙ of (choose one)
    where
      or_false : (b : Bool) → (b || false) ≡ b
      or_false true = refl
      or_false false = refl

      of : (o : Option Cause) → list_any (λ (due : Key × Cause). is_counted due.1) (option_to_list (option_map (λ why. (one.key, why)) o)) ≡ option_map_or is_counted o false
      of None = refl
      of (Some why) = or_false (is_counted why)
