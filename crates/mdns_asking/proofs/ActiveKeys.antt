-- The active questions of a history, by what is found among them, and behind an entry.
use Rattle.std.proofs.Common.{◌≡◌, ℕ, suc, ◌+◌, ◌<◌, Bool, true, false, cond, not, ◌&&◌, ◌||◌, List, [], ◌∷◌, Option, Some, None, refl, ap, ◌∙◌, sym, subst, arith}
use Rattle.std.specs.Prelude.{nat_lt}
use Rattle.std.specs.List.{list_any, flat_map, find}
use Rattle.std.specs.Option.{option_map, option_and_then, option_or, is_some}
use Rattle.std.proofs.lemmas.List.Folds.{list_any-append}
use Rattle.lists.specs.Lists.{count_where, ordered}
use Rattle.dns_record.specs.declared.record.Key.{Key}
use Rattle.dns_record.specs.Records.{key_eq, key_cmp}
use Rattle.mdns_history.specs.declared.event.Event.{Event}
use Rattle.mdns_history.specs.declared.config.Config.{Config}
use Rattle.mdns_history.specs.declared.entry.Entry.{Entry}
use Rattle.mdns_history.specs.History.{last_at}
use Rattle.mdns_history.specs.Sessions.{Accepted, accepted_in, accepted_call, operations, attached_sessions}
use Rattle.mdns_history.specs.Questions.{Active, keys_of, is_active, begins_asking, active_from, begun_with, active_questions}
use Rattle.mdns_history.specs.Outcomes.{early_outcome}
use Rattle.mdns_history.specs.Fitting.{boot_entry, next_entry, IsLegalFrom, IsLegal}
use Rattle.mdns_history.specs.InForce.{Duties}
use Rattle.mdns_history.proofs.CallFacts.{opened-late}
use Rattle.mdns_history.proofs.LegalReplay.{detached-late}
use Rattle.mdns_question.specs.Standing.{uses}
use Rattle.sd_sessions.specs.Sessions.{sessions_in}
use Rattle.mdns_asking.specs.Asked.{begun_keys, ended_keys}
use Rattle.sd_sessions.proofs.Operations.{accepted-late}
use Rattle.mdns_asking.proofs.KeyOrder.{key_eq-same}
use Rattle.mdns_asking.proofs.KeyLists.{IsStrict, looked, has_ordered, strict_ordered, strict_given, looked_given}
use Rattle.mdns_asking.proofs.KeyUses.{IsMove, times, uses-next}

-- a question is active where it is used
any_count : {X : Type 0} (p : X → Bool) (xs : List X) → list_any p xs ≡ nat_lt 0 (count_where p xs)
any_count p [] = refl
any_count p (x ∷ xs) = of (p x) (any_count p xs)
  where
    of : (b : Bool) → list_any p xs ≡ nat_lt 0 (count_where p xs) → (b || list_any p xs) ≡ nat_lt 0 (cond b (suc (count_where p xs)) (count_where p xs))
    of true ih = let more : nat_lt 0 (suc (count_where p xs)) ≡ true = grind arith in sym more
    of false ih = ih

any_flat : {X Y : Type 0} (p : Y → Bool) (f : X → List Y) (xs : List X) → list_any (λ x. list_any p (f x)) xs ≡ list_any p (flat_map f xs)
any_flat p f [] = refl
any_flat p f (x ∷ xs) = ap (λ b. list_any p (f x) || b) (any_flat p f xs) ∙ sym (list_any-append p (f x) (flat_map f xs))

active_keys : (q : Key) (history : List Entry) → is_active q history ≡ list_any (key_eq q) (flat_map (λ o. keys_of o.request) (operations history))
unfolding is_active
active_keys q history = any_flat (key_eq q) (λ o. keys_of o.request) (operations history)

pub active_used : (q : Key) (history : List Entry) → is_active q history ≡ nat_lt 0 (uses q history)
unfolding uses
active_used q history = active_keys q history ∙ any_count (key_eq q) (flat_map (λ o. keys_of o.request) (operations history))

pub same_uses : (j k : Key) → key_eq j k ≡ true → (history : List Entry) → uses j history ≡ uses k history
unfolding uses
same_uses j k e history = ap (λ (p : Key → Bool). count_where p (flat_map (λ o. keys_of o.request) (operations history))) (λ i c. key_eq-same j k e c i)

-- a question's beginning is the same for each spelling, and is spelled as that question
abbrev begun_by : (Key → Bool) → Entry → List Entry → Option Active
begun_by test entry past =
    cond (list_any (λ o. list_any test (keys_of o.request)) (operations (entry ∷ past)) && not (list_any (λ o. list_any test (keys_of o.request)) (operations past)))
    (option_map (active_from entry) (option_and_then (λ call. find test (keys_of call.request)) (accepted_in entry))) None

same_begun : (j k : Key) → key_eq j k ≡ true → (entry : Entry) (past : List Entry) → begun_with j entry past ≡ begun_with k entry past
unfolding is_active
same_begun j k e entry past = ap (λ (p : Key → Bool). begun_by p entry past) (λ i c. key_eq-same j k e c i)

pub same_last : (j k : Key) → key_eq j k ≡ true → (history : List Entry) → last_at (begun_with j) history ≡ last_at (begun_with k) history
same_last j k e [] = refl
same_last j k e (entry ∷ past) =
    ap (λ o. option_or o (last_at (begun_with j) past)) (same_begun j k e entry past) ∙ ap (λ o. option_or (begun_with k entry past) o) (same_last j k e past)

pub found_passes : (p : Key → Bool) (ks : List Key) (k : Key) → find p ks ≡ Some k → p k ≡ true
found_passes p [] k h = absurd (cc)
found_passes p (j ∷ ks) k h = of (p j) refl h (found_passes p ks k)
  where
    of : (b : Bool) → p j ≡ b → cond b (Some j) (find p ks) ≡ Some k → (find p ks ≡ Some k → p k ≡ true) → p k ≡ true
    of true e g rest = let one : j ≡ k = cc in ap p (sym one) ∙ e
    of false e g rest = rest g

begun_own : (q : Key) (entry : Entry) (past : List Entry) (a : Active) → begun_with q entry past ≡ Some a → key_eq q a.key ≡ true
begun_own q entry past a h = of (begins_asking q entry past) (accepted_in entry) h
  where
    from : (o : Option Key) → ((k : Key) → o ≡ Some k → key_eq q k ≡ true) → option_map (active_from entry) o ≡ Some a → key_eq q a.key ≡ true
    from None found g = absurd (cc)
    from (Some k) found g =
        let one : active_from entry k ≡ a = cc in ap (λ (b : Active). key_eq q b.key) (sym one) ∙ found k refl

    of : (b : Bool) (c : Option Accepted) → cond b (option_map (active_from entry) (option_and_then (λ call. find (key_eq q) (keys_of call.request)) c)) None ≡ Some a → key_eq q a.key ≡ true
    of true None g = absurd (cc)
    of true (Some call) g = from (find (key_eq q) (keys_of call.request)) (found_passes (key_eq q) (keys_of call.request)) g
    of false c g = absurd (cc)

last_own : (history : List Entry) (q : Key) (a : Active) → last_at (begun_with q) history ≡ Some a → key_eq q a.key ≡ true
last_own [] q a h = absurd (cc)
last_own (entry ∷ past) q a h = of (begun_with q entry past) refl h (last_own past q a)
  where
    of : (o : Option Active) → begun_with q entry past ≡ o → option_or o (last_at (begun_with q) past) ≡ Some a → (last_at (begun_with q) past ≡ Some a → key_eq q a.key ≡ true) → key_eq q a.key ≡ true
    of None e g rest = rest g
    of (Some b) e g rest = begun_own q entry past a (e ∙ g)

-- the question of an active one
abbrev pub key_in : Active → Key
key_in active = active.key

pub strict_active : (history : List Entry) → IsStrict key_in (active_questions history)
unfolding active_questions
strict_active history =
    strict_given key_in (λ q. last_at (begun_with q) history) (λ q a h. last_own history q a h) (ordered key_cmp (flat_map (λ o. keys_of o.request) (operations history)))
    (strict_ordered (flat_map (λ o. keys_of o.request) (operations history)))

-- An active question is found as it last began.
pub looked_active : (q : Key) (history : List Entry) → looked key_in q (active_questions history) ≡ cond (is_active q history) (last_at (begun_with q) history) None
unfolding active_questions
looked_active q history =
    looked_given key_in (λ k. last_at (begun_with k) history) (λ k a h. last_own history k a h) (λ j k e. same_last j k e history) q (ordered key_cmp (flat_map (λ o. keys_of o.request) (operations history)))
    ∙ ap (λ b. cond b (last_at (begun_with q) history) None) (has_ordered q (flat_map (λ o. keys_of o.request) (operations history)) ∙ sym (active_keys q history))

-- whether a question begins behind an entry, by how often it is used
pub begins-is : (q : Key) (entry : Entry) (past : List Entry) → begins_asking q entry past ≡ (nat_lt 0 (uses q (entry ∷ past)) && not (nat_lt 0 (uses q past)))
begins-is q entry past = ap (λ b. b && not (is_active q past)) (active_used q (entry ∷ past)) ∙ ap (λ b. nat_lt 0 (uses q (entry ∷ past)) && not b) (active_used q past)

pub goes_on : (q : Key) (entry : Entry) (past : List Entry) → 0 < uses q past → begins_asking q entry past ≡ false
goes_on q entry past used =
    let before : nat_lt 0 (uses q past) ≡ true = grind arith in begins-is q entry past ∙ ap (λ b. nat_lt 0 (uses q (entry ∷ past)) && not b) before ∙ none (nat_lt 0 (uses q (entry ∷ past)))
  where
    none : (b : Bool) → (b && false) ≡ false
    none true = refl
    none false = refl

pub unused : (q : Key) (entry : Entry) (past : List Entry) → uses q (entry ∷ past) ≡ 0 → begins_asking q entry past ≡ false
unused q entry past none =
    let after : nat_lt 0 (uses q (entry ∷ past)) ≡ false = grind arith in begins-is q entry past ∙ ap (λ b. b && not (nat_lt 0 (uses q past))) after

pub begins : (q : Key) (entry : Entry) (past : List Entry) → uses q past ≡ 0 → 0 < uses q (entry ∷ past) → begins_asking q entry past ≡ true
begins q entry past none used =
    let before : nat_lt 0 (uses q past) ≡ false = grind arith in
    let after : nat_lt 0 (uses q (entry ∷ past)) ≡ true = grind arith in
    begins-is q entry past ∙ ap (λ b. b && not (nat_lt 0 (uses q past))) after ∙ ap not before

-- the key of which a question has a use is found
pub found_counted : (q : Key) (ks : List Key) → 0 < times q ks → (k : Key) × (find (key_eq q) ks ≡ Some k)
found_counted q [] h = absurd (omega arith)
found_counted q (k ∷ ks) h = of (key_eq q k) h (found_counted q ks)
  where
    of : (b : Bool) → 0 < cond b (suc (times q ks)) (times q ks) → (0 < times q ks → (j : Key) × (find (key_eq q) ks ≡ Some j)) → (j : Key) × (cond b (Some k) (find (key_eq q) ks) ≡ Some j)
    of true g rest = (k, refl)
    of false g rest = rest g

-- a question that begins does so with the key that the call gives it
pub begun_found : (q : Key) (entry : Entry) (past : List Entry) (k : Key) → begins_asking q entry past ≡ true → find (key_eq q) (begun_keys (accepted_in entry)) ≡ Some k →
    begun_with q entry past ≡ Some (active_from entry k)
begun_found q entry past k b found =
    ap (λ c. cond c (option_map (active_from entry) (option_and_then (λ call. find (key_eq q) (keys_of call.request)) (accepted_in entry))) None) b
    ∙ ap (option_map (active_from entry)) (of (accepted_in entry) found)
  where
    of : (o : Option Accepted) → find (key_eq q) (begun_keys o) ≡ Some k → option_and_then (λ call. find (key_eq q) (keys_of call.request)) o ≡ Some k
    of None h = absurd (cc)
    of (Some call) h = h

-- the next entry is of its event with the outcome that the history decides
pub move-next : (duties : Duties) (past : List Entry) (moment word : ℕ) (ev : Event) → IsMove past ev (next_entry duties past moment word ev)
unfolding next_entry
move-next duties past moment word ev = record {
  accepts = accepted-late ev (early_outcome ev past) _;
  ends = detached-late ev (early_outcome ev past) _;
  opens = opened-late ev past _;
}

-- an active question began at some entry
begun_step : (duties : Duties) (past : List Entry) → IsLegal duties past → (ev : Event) (entry : Entry) → IsMove past ev entry → (q : Key) → (is_active q past ≡ true → is_some (last_at (begun_with q) past) ≡ true) →
    is_active q (entry ∷ past) ≡ true → is_some (last_at (begun_with q) (entry ∷ past)) ≡ true
begun_step duties past legal ev entry move q before h = of (is_active q past) refl
  where
    later : (o p : Option Active) → is_some p ≡ true → is_some (option_or o p) ≡ true
    later None p e = e
    later (Some a) p e = refl

    given_by : (k : Key) → find (key_eq q) (begun_keys (accepted_call ev (early_outcome ev past))) ≡ Some k → find (key_eq q) (begun_keys (accepted_in entry)) ≡ Some k
    given_by k f = ap (λ a. find (key_eq q) (begun_keys a)) move.accepts ∙ f

    sooner : (o p : Option Active) (a : Active) → o ≡ Some a → is_some (option_or o p) ≡ true
    sooner None p a e = absurd (cc)
    sooner (Some b) p a e = refl

    of : (b : Bool) → is_active q past ≡ b → is_some (option_or (begun_with q entry past) (last_at (begun_with q) past)) ≡ true
    of true e = later (begun_with q entry past) (last_at (begun_with q) past) (before e)
    of false e =
        let none : nat_lt 0 (uses q past) ≡ false = sym (active_used q past) ∙ e in
        let some : nat_lt 0 (uses q (entry ∷ past)) ≡ true = sym (active_used q (entry ∷ past)) ∙ h in
        let sum : uses q (entry ∷ past) + times q (ended_keys ev (early_outcome ev past) (sessions_in past)) ≡ uses q past + times q (begun_keys (accepted_call ev (early_outcome ev past))) = uses-next duties past legal ev entry move q in
        let zero : uses q past ≡ 0 = grind arith in
        let positive : 0 < uses q (entry ∷ past) = grind arith in
        let given : 0 < times q (begun_keys (accepted_call ev (early_outcome ev past))) = omega arith in
        let found = found_counted q (begun_keys (accepted_call ev (early_outcome ev past))) given in
        let begin : begins_asking q entry past ≡ true = begins q entry past zero positive in
        sooner (begun_with q entry past) (last_at (begun_with q) past) (active_from entry found.0)
        (begun_found q entry past found.0 begin (given_by found.0 found.1))

none_asked : (moment word : ℕ) (config : Config) (q : Key) → is_active q (boot_entry moment word config ∷ []) ≡ true → is_some (last_at (begun_with q) (boot_entry moment word config ∷ [])) ≡ true
unfolding is_active operations attached_sessions
none_asked moment word config q h = absurd (cc)

active_begun-from : (duties : Duties) (entry : Entry) (past : List Entry) → IsLegalFrom duties entry past → (q : Key) → is_active q (entry ∷ past) ≡ true → is_some (last_at (begun_with q) (entry ∷ past)) ≡ true
active_begun-from duties entry [] legal q =
    subst (λ e. is_active q (e ∷ []) ≡ true → is_some (last_at (begun_with q) (e ∷ [])) ≡ true) (sym legal.3) (none_asked entry.moment entry.word legal.0 q)
active_begun-from duties entry (before ∷ past) legal q =
    begun_step duties (before ∷ past) legal.1 entry.event entry
    (subst (λ e. IsMove (before ∷ past) entry.event e) (sym (legal.0).determined) (move-next duties (before ∷ past) entry.moment entry.word entry.event)) q (active_begun-from duties before past legal.1 q)

-- In a legal history each active question began at some entry.
pub active_begun : (duties : Duties) (past : List Entry) → IsLegal duties past → (q : Key) → is_active q past ≡ true → is_some (last_at (begun_with q) past) ≡ true
active_begun duties [] legal q = absurd legal
active_begun duties (entry ∷ past) legal q = active_begun-from duties entry past legal q
