-- What the lists that a client holds stand for, as operations and answers come and go.
use Rattle.std.proofs.Common.{◌≡◌, ℕ, Bool, true, false, cond, not, eqb, ◌&&◌, ◌||◌, List, [], ◌∷◌, ◌++◌, map, refl, ap, ◌∙◌, sym, Option, Some, None}
use Rattle.std.proofs.Math.Bool.{or-false}
use Rattle.std.specs.Prelude.{filter}
use Rattle.std.specs.List.{list_any}
use Rattle.std.specs.Option.{option_and_then}
use Rattle.std.specs.Ordering.{nat_cmp}
use Rattle.std.specs.Cmp.{nat_cmp_total, unsigned_tied, unsigned_Decides, nat_eq_equiv}
use Rattle.std.specs.Cmp.Lexicographic.{nat_list_cmp_total}
use Rattle.std.specs.FinMap as fin
use Rattle.std.specs.FinSet as set
use Rattle.std.proofs.lemmas.List.Folds.{list_any-append}
use Rattle.lists.proofs.InOrder.{any-filter}
use Rattle.sd_call.specs.declared.answer.Answer.{Answer}
use Rattle.sd_call.specs.declared.replayed.Kept.{Kept}
use Rattle.sd_call.specs.declared.item.Item.TheVariants.{Add, Remove}
use Rattle.sd_call.specs.Answers.{answer_bytes, answer_eq}
use Rattle.sd_call.specs.Replay.{AnswerSet, AnswerSets, replay_item, set_at, put_answer, take_answer}
use Rattle.sd_call.specs.Holding.{has, answers_of, is_it, sets_in}
use Rattle.sd_call.proofs.AnswerLists.{eq, eq_symm, eq_path, any_of, answer_eq-is}
use Rattle.sd_call.proofs.ReplayLaws.{set_of, contains-set_of}
use Rattle.sd_call.proofs.ReplayRuns.{get-insert, same_sets}

list_any-ext : {X : Type 0} (p q : X → Bool) → ((x : X) → p x ≡ q x) → (xs : List X) → list_any p xs ≡ list_any q xs
list_any-ext p q same [] = refl
list_any-ext p q same (x ∷ xs) = λ i. same x i || list_any-ext p q same xs i

list_any-none : {X : Type 0} (p : X → Bool) → ((x : X) → p x ≡ false) → (xs : List X) → list_any p xs ≡ false
list_any-none p none [] = refl
list_any-none p none (x ∷ xs) = ap (λ b. b || list_any p xs) (none x) ∙ list_any-none p none xs

one_number : (m n : ℕ) → eqb m n ≡ true → m ≡ n
one_number m n e = (unsigned_Decides m n).0 e

pub turned : (m n : ℕ) → eqb m n ≡ eqb n m
turned m n = nat_eq_equiv.symm m n

-- whether an answer of these bytes is one of the operation
abbrev pub holds : ℕ → List ℕ → Kept → Bool
holds op bytes one = eqb one.op op && eq bytes (answer_bytes one.answer)

any_in : (op : ℕ) (bytes : List ℕ) (kept : List Kept) → any_of bytes (answers_of op kept) ≡ list_any (holds op bytes) kept
any_in op bytes [] = refl
any_in op bytes (one ∷ kept) = at (eqb one.op op) (any_in op bytes kept)
  where
    at : (b : Bool) → any_of bytes (answers_of op kept) ≡ list_any (holds op bytes) kept →
        any_of bytes (map (λ (k : Kept). k.answer) (cond b (one ∷ filter (λ k. eqb k.op op) kept) (filter (λ k. eqb k.op op) kept))) ≡ ((b && eq bytes (answer_bytes one.answer)) || list_any (holds op bytes) kept)
    at true ih = ap (λ b. eq bytes (answer_bytes one.answer) || b) ih
    at false ih = ih

contains-in : (op : ℕ) (bytes : List ℕ) (kept : List Kept) → set.contains (set_of (answers_of op kept)) bytes ≡ list_any (holds op bytes) kept
contains-in op bytes kept = contains-set_of (answers_of op kept) bytes ∙ any_in op bytes kept

pub is_it-holds : (op : ℕ) (answer : Answer) (one : Kept) → is_it op answer one ≡ holds op (answer_bytes answer) one
is_it-holds op answer one = ap (λ b. eqb one.op op && b) (answer_eq-is answer one.answer)

contains-it : (op : ℕ) (answer : Answer) (kept : List Kept) → set.contains (set_of (answers_of op kept)) (answer_bytes answer) ≡ list_any (is_it op answer) kept
contains-it op answer kept = contains-in op (answer_bytes answer) kept ∙ sym (list_any-ext (is_it op answer) (holds op (answer_bytes answer)) (is_it-holds op answer) kept)

same_answers : (s t : AnswerSet) → ((bytes : List ℕ) → set.contains s bytes ≡ set.contains t bytes) → s ≡ t
same_answers s t h = set.same_set nat_list_cmp_total (set.slice_cmp-IsAntisymmetric set.nat_cmp-IsAntisymmetric) s t h

-- the set of an operation, if it was started and not stopped
abbrev set_in : ℕ → List ℕ → List Kept → Option AnswerSet
set_in op operations kept = cond (has op operations) (Some (set_of (answers_of op kept))) None

get-sets_in : (operations : List ℕ) (kept : List Kept) (q : ℕ) → fin.get (sets_in operations kept) q ≡ set_in q operations kept
unfolding sets_in
get-sets_in [] kept q = fin.get-empty nat_cmp q
get-sets_in (op ∷ operations) kept q =
    get-insert (sets_in operations kept) op (set_of (answers_of op kept)) q
    ∙ ap (λ b. cond b (Some (set_of (answers_of op kept))) (fin.get (sets_in operations kept) q)) (unsigned_tied q op ∙ turned q op)
    ∙ at (eqb op q) refl (get-sets_in operations kept q)
  where
    at : (b : Bool) → eqb op q ≡ b → fin.get (sets_in operations kept) q ≡ set_in q operations kept →
        cond b (Some (set_of (answers_of op kept))) (fin.get (sets_in operations kept) q) ≡ cond (b || has q operations) (Some (set_of (answers_of q kept))) None
    at true e ih = ap (λ n. Some (set_of (answers_of n kept))) (one_number op q e)
    at false e ih = ih

sets_are : (sets : AnswerSets) (operations : List ℕ) (kept : List Kept) → ((q : ℕ) → fin.get sets q ≡ set_in q operations kept) → sets ≡ sets_in operations kept
sets_are sets operations kept h = same_sets sets (sets_in operations kept) (λ q. h q ∙ sym (get-sets_in operations kept q))

-- sets with that of one operation changed
changed : (operations : List ℕ) (kept after : List Kept) (op : ℕ) (s : AnswerSet) → has op operations ≡ true →
    ((bytes : List ℕ) → set.contains s bytes ≡ list_any (holds op bytes) after) →
    ((q : ℕ) (bytes : List ℕ) → eqb q op ≡ false → list_any (holds q bytes) after ≡ list_any (holds q bytes) kept) →
    fin.insert (sets_in operations kept) op s ≡ sets_in operations after
changed operations kept after op s there this others =
    sets_are (fin.insert (sets_in operations kept) op s) operations after (λ q.
    get-insert (sets_in operations kept) op s q
    ∙ ap (λ b. cond b (Some s) (fin.get (sets_in operations kept) q)) (unsigned_tied q op)
    ∙ at q (eqb q op) refl)
  where
    at : (q : ℕ) (b : Bool) → eqb q op ≡ b → cond b (Some s) (fin.get (sets_in operations kept) q) ≡ set_in q operations after
    at q true e =
        let same : op ≡ q = sym (one_number q op e) in
        ap Some (same_answers s (set_of (answers_of op after)) (λ bytes. this bytes ∙ sym (contains-in op bytes after)))
        ∙ ap (λ b. cond b (Some (set_of (answers_of op after))) None) (sym there)
        ∙ ap (λ n. set_in n operations after) same
    at q false e =
        get-sets_in operations kept q
        ∙ ap (λ (s : AnswerSet). cond (has q operations) (Some s) None)
        (same_answers (set_of (answers_of q kept)) (set_of (answers_of q after)) (λ bytes. contains-in q bytes kept ∙ sym (others q bytes e) ∙ sym (contains-in q bytes after)))

-- ---- answers that come and go

-- an operation that isn't under way has no answers that change
pub add_away : (operations : List ℕ) (kept : List Kept) (op : ℕ) (answer : Answer) → has op operations ≡ false → replay_item (Add op answer) (sets_in operations kept) ≡ None
add_away operations kept op answer away =
    ap (λ g. set_at op (sets_in operations kept) (option_and_then (put_answer (answer_bytes answer)) g))
    (get-sets_in operations kept op ∙ ap (λ b. cond b (Some (set_of (answers_of op kept))) None) away)

pub remove_away : (operations : List ℕ) (kept : List Kept) (op : ℕ) (answer : Answer) → has op operations ≡ false → replay_item (Remove op answer) (sets_in operations kept) ≡ None
remove_away operations kept op answer away =
    ap (λ g. set_at op (sets_in operations kept) (option_and_then (take_answer (answer_bytes answer)) g))
    (get-sets_in operations kept op ∙ ap (λ b. cond b (Some (set_of (answers_of op kept))) None) away)

add_is : (operations : List ℕ) (kept : List Kept) (op : ℕ) (answer : Answer) → has op operations ≡ true →
    replay_item (Add op answer) (sets_in operations kept) ≡ set_at op (sets_in operations kept) (cond (list_any (is_it op answer) kept) None (Some (set.insert (set_of (answers_of op kept)) (answer_bytes answer))))
add_is operations kept op answer there =
    ap (λ g. set_at op (sets_in operations kept) (option_and_then (put_answer (answer_bytes answer)) g))
    (get-sets_in operations kept op ∙ ap (λ b. cond b (Some (set_of (answers_of op kept))) None) there)
    ∙ ap (λ b. set_at op (sets_in operations kept) (cond b None (Some (set.insert (set_of (answers_of op kept)) (answer_bytes answer))))) (contains-it op answer kept)

remove_is : (operations : List ℕ) (kept : List Kept) (op : ℕ) (answer : Answer) → has op operations ≡ true →
    replay_item (Remove op answer) (sets_in operations kept) ≡ set_at op (sets_in operations kept) (cond (list_any (is_it op answer) kept) (Some (set.remove (set_of (answers_of op kept)) (answer_bytes answer))) None)
remove_is operations kept op answer there =
    ap (λ g. set_at op (sets_in operations kept) (option_and_then (take_answer (answer_bytes answer)) g))
    (get-sets_in operations kept op ∙ ap (λ b. cond b (Some (set_of (answers_of op kept))) None) there)
    ∙ ap (λ b. set_at op (sets_in operations kept) (cond b (Some (set.remove (set_of (answers_of op kept)) (answer_bytes answer))) None)) (contains-it op answer kept)

-- an answer that is there can't be added
pub add_there : (operations : List ℕ) (kept : List Kept) (op : ℕ) (answer : Answer) → has op operations ≡ true → list_any (is_it op answer) kept ≡ true →
    replay_item (Add op answer) (sets_in operations kept) ≡ None
add_there operations kept op answer there found =
    add_is operations kept op answer there
    ∙ ap (λ b. set_at op (sets_in operations kept) (cond b None (Some (set.insert (set_of (answers_of op kept)) (answer_bytes answer))))) found

-- an answer that isn't there can't be removed
pub remove_missing : (operations : List ℕ) (kept : List Kept) (op : ℕ) (answer : Answer) → has op operations ≡ true → list_any (is_it op answer) kept ≡ false →
    replay_item (Remove op answer) (sets_in operations kept) ≡ None
remove_missing operations kept op answer there missing =
    remove_is operations kept op answer there
    ∙ ap (λ b. set_at op (sets_in operations kept) (cond b (Some (set.remove (set_of (answers_of op kept)) (answer_bytes answer))) None)) missing

pub added : (operations : List ℕ) (kept : List Kept) (op : ℕ) (answer : Answer) → has op operations ≡ true → list_any (is_it op answer) kept ≡ false →
    replay_item (Add op answer) (sets_in operations kept) ≡ Some (sets_in operations (kept ++ record { op = op; answer = answer } ∷ []))
added operations kept op answer there missing =
    add_is operations kept op answer there
    ∙ ap (λ b. set_at op (sets_in operations kept) (cond b None (Some (set.insert (set_of (answers_of op kept)) (answer_bytes answer))))) missing
    ∙ ap Some (changed operations kept (kept ++ one ∷ []) op (set.insert (set_of (answers_of op kept)) (answer_bytes answer)) there this others)
  where
    one : Kept
    one = record { op = op; answer = answer }

    this : (bytes : List ℕ) → set.contains (set.insert (set_of (answers_of op kept)) (answer_bytes answer)) bytes ≡ list_any (holds op bytes) (kept ++ one ∷ [])
    this bytes =
        set.contains-insert nat_list_cmp_total (set_of (answers_of op kept)) (answer_bytes answer) bytes
        ∙ ap (λ b. eq bytes (answer_bytes answer) || b) (contains-in op bytes kept)
        ∙ swap (eq bytes (answer_bytes answer)) (list_any (holds op bytes) kept)
        ∙ ap (λ b. list_any (holds op bytes) kept || ((b && eq bytes (answer_bytes answer)) || false)) (sym ((unsigned_Decides op op).1 refl))
        ∙ sym (list_any-append (holds op bytes) kept (one ∷ []))
      where
        swap : (a b : Bool) → (a || b) ≡ (b || (a || false))
        swap true true = refl
        swap true false = refl
        swap false true = refl
        swap false false = refl

    others : (q : ℕ) (bytes : List ℕ) → eqb q op ≡ false → list_any (holds q bytes) (kept ++ one ∷ []) ≡ list_any (holds q bytes) kept
    others q bytes e =
        list_any-append (holds q bytes) kept (one ∷ [])
        ∙ ap (λ b. list_any (holds q bytes) kept || ((b && eq bytes (answer_bytes answer)) || false)) (turned op q ∙ e)
        ∙ or-false (list_any (holds q bytes) kept)

pub removed : (operations : List ℕ) (kept : List Kept) (op : ℕ) (answer : Answer) → has op operations ≡ true → list_any (is_it op answer) kept ≡ true →
    replay_item (Remove op answer) (sets_in operations kept) ≡ Some (sets_in operations (filter (λ one. not (is_it op answer one)) kept))
removed operations kept op answer there found =
    remove_is operations kept op answer there
    ∙ ap (λ b. set_at op (sets_in operations kept) (cond b (Some (set.remove (set_of (answers_of op kept)) (answer_bytes answer))) None)) found
    ∙ ap Some (changed operations kept (filter (λ one. not (is_it op answer one)) kept) op (set.remove (set_of (answers_of op kept)) (answer_bytes answer)) there this others)
  where
    both_and : (b : Bool) (p : Kept → Bool) (xs : List Kept) → (b && list_any p xs) ≡ list_any (λ x. b && p x) xs
    both_and true p xs = refl
    both_and false p xs = sym (list_any-none (λ x. false) (λ x. refl) xs)

    this : (bytes : List ℕ) → set.contains (set.remove (set_of (answers_of op kept)) (answer_bytes answer)) bytes ≡ list_any (holds op bytes) (filter (λ one. not (is_it op answer one)) kept)
    this bytes =
        set.contains-remove nat_list_cmp_total (set_of (answers_of op kept)) (answer_bytes answer) bytes
        ∙ ap (λ b. not (eq bytes (answer_bytes answer)) && b) (contains-in op bytes kept)
        ∙ both_and (not (eq bytes (answer_bytes answer))) (holds op bytes) kept
        ∙ list_any-ext (λ x. not (eq bytes (answer_bytes answer)) && holds op bytes x) (λ x. not (is_it op answer x) && holds op bytes x) each kept
        ∙ sym (any-filter (holds op bytes) (λ one. not (is_it op answer one)) kept)
      where
        each : (x : Kept) → (not (eq bytes (answer_bytes answer)) && holds op bytes x) ≡ (not (is_it op answer x) && holds op bytes x)
        each x = at (eqb x.op op) (eq bytes (answer_bytes x.answer)) refl ∙ ap (λ b. not b && holds op bytes x) (sym (is_it-holds op answer x))
          where
            at : (b c : Bool) → eq bytes (answer_bytes x.answer) ≡ c → (not (eq bytes (answer_bytes answer)) && (b && c)) ≡ (not (b && eq (answer_bytes answer) (answer_bytes x.answer)) && (b && c))
            at false c e = none (not (eq bytes (answer_bytes answer)))
              where
                none : (b : Bool) → (b && false) ≡ false
                none true = refl
                none false = refl
            at true false e = none (not (eq bytes (answer_bytes answer))) ∙ sym (none (not (eq (answer_bytes answer) (answer_bytes x.answer))))
              where
                none : (b : Bool) → (b && false) ≡ false
                none true = refl
                none false = refl
            at true true e =
                ap (λ b. not b && true) (eq_symm bytes (answer_bytes answer) ∙ ap (λ (l : List ℕ). eq (answer_bytes answer) l) (eq_path bytes (answer_bytes x.answer) e))

    others : (q : ℕ) (bytes : List ℕ) → eqb q op ≡ false → list_any (holds q bytes) (filter (λ one. not (is_it op answer one)) kept) ≡ list_any (holds q bytes) kept
    others q bytes e =
        any-filter (holds q bytes) (λ one. not (is_it op answer one)) kept
        ∙ list_any-ext (λ x. not (is_it op answer x) && holds q bytes x) (holds q bytes) each kept
      where
        each : (x : Kept) → (not (is_it op answer x) && holds q bytes x) ≡ holds q bytes x
        each x = at (eqb x.op q) refl
          where
            at : (b : Bool) → eqb x.op q ≡ b → (not (is_it op answer x) && (b && eq bytes (answer_bytes x.answer))) ≡ (b && eq bytes (answer_bytes x.answer))
            at false f = none (not (is_it op answer x))
              where
                none : (b : Bool) → (b && false) ≡ false
                none true = refl
                none false = refl
            at true f =
                let other : eqb x.op op ≡ false = ap (λ n. eqb n op) (one_number x.op q f) ∙ e in
                ap (λ b. not (b && answer_eq answer x.answer) && eq bytes (answer_bytes x.answer)) other

-- ---- operations that begin and end

-- without an operation's answers
without_op : (op : ℕ) (kept : List Kept) (q : ℕ) (bytes : List ℕ) → list_any (holds q bytes) (filter (λ one. not (eqb one.op op)) kept) ≡ cond (eqb q op) false (list_any (holds q bytes) kept)
without_op op kept q bytes =
    any-filter (holds q bytes) (λ one. not (eqb one.op op)) kept ∙ at (eqb q op) refl
  where
    at : (b : Bool) → eqb q op ≡ b → list_any (λ x. not (eqb x.op op) && holds q bytes x) kept ≡ cond b false (list_any (holds q bytes) kept)
    at true e = list_any-none (λ x. not (eqb x.op op) && holds q bytes x) each kept
      where
        each : (x : Kept) → (not (eqb x.op op) && holds q bytes x) ≡ false
        each x = ap (λ n. not (eqb x.op n) && holds q bytes x) (sym (one_number q op e)) ∙ never (eqb x.op q) (eq bytes (answer_bytes x.answer))
          where
            never : (b c : Bool) → (not b && (b && c)) ≡ false
            never true c = refl
            never false c = refl
    at false e = list_any-ext (λ x. not (eqb x.op op) && holds q bytes x) (holds q bytes) each kept
      where
        each : (x : Kept) → (not (eqb x.op op) && holds q bytes x) ≡ holds q bytes x
        each x = split (eqb x.op q) refl
          where
            split : (b : Bool) → eqb x.op q ≡ b → (not (eqb x.op op) && (b && eq bytes (answer_bytes x.answer))) ≡ (b && eq bytes (answer_bytes x.answer))
            split true f = ap (λ b. not b && eq bytes (answer_bytes x.answer)) (ap (λ n. eqb n op) (one_number x.op q f) ∙ e)
            split false f = none (not (eqb x.op op))
              where
                none : (b : Bool) → (b && false) ≡ false
                none true = refl
                none false = refl

others_stay : (op : ℕ) (kept : List Kept) (q : ℕ) → eqb q op ≡ false → set_of (answers_of q (filter (λ one. not (eqb one.op op)) kept)) ≡ set_of (answers_of q kept)
others_stay op kept q e = same_answers (set_of (answers_of q (filter (λ one. not (eqb one.op op)) kept))) (set_of (answers_of q kept)) (λ bytes.
    contains-in q bytes (filter (λ one. not (eqb one.op op)) kept)
    ∙ without_op op kept q bytes ∙ ap (λ b. cond b false (list_any (holds q bytes) kept)) e
    ∙ sym (contains-in q bytes kept))

none_left : (op : ℕ) (kept : List Kept) (q : ℕ) → eqb q op ≡ true → set_of (answers_of q (filter (λ one. not (eqb one.op op)) kept)) ≡ set.empty
none_left op kept q e = same_answers (set_of (answers_of q (filter (λ one. not (eqb one.op op)) kept))) set.empty (λ bytes.
    contains-in q bytes (filter (λ one. not (eqb one.op op)) kept)
    ∙ without_op op kept q bytes ∙ ap (λ b. cond b false (list_any (holds q bytes) kept)) e
    ∙ sym (set.contains-empty _ bytes))

started : (before operations : List ℕ) (kept : List Kept) (op : ℕ) → has op operations ≡ true → ((q : ℕ) → eqb q op ≡ false → has q operations ≡ has q before) →
    sets_in operations (filter (λ one. not (eqb one.op op)) kept) ≡ fin.insert (sets_in before kept) op set.empty
started before operations kept op there others =
    sym (sets_are (fin.insert (sets_in before kept) op set.empty) operations (filter (λ one. not (eqb one.op op)) kept) (λ q.
    get-insert (sets_in before kept) op set.empty q
    ∙ ap (λ b. cond b (Some set.empty) (fin.get (sets_in before kept) q)) (unsigned_tied q op)
    ∙ at q (eqb q op) refl))
  where
    at : (q : ℕ) (b : Bool) → eqb q op ≡ b → cond b (Some set.empty) (fin.get (sets_in before kept) q) ≡ set_in q operations (filter (λ one. not (eqb one.op op)) kept)
    at q true e =
        ap Some (sym (none_left op kept q e))
        ∙ ap (λ b. cond b (Some (set_of (answers_of q (filter (λ one. not (eqb one.op op)) kept)))) None) (sym (ap (λ n. has n operations) (one_number q op e) ∙ there))
    at q false e =
        get-sets_in before kept q
        ∙ ap (λ b. cond b (Some (set_of (answers_of q kept))) None) (sym (others q e))
        ∙ ap (λ (s : AnswerSet). cond (has q operations) (Some s) None) (sym (others_stay op kept q e))

-- a start of an operation that is under way leaves it without answers
pub started_again : (operations : List ℕ) (kept : List Kept) (op : ℕ) → has op operations ≡ true →
    sets_in operations (filter (λ one. not (eqb one.op op)) kept) ≡ fin.insert (sets_in operations kept) op set.empty
started_again operations kept op there = started operations operations kept op there (λ q e. refl)

pub started_newly : (operations : List ℕ) (kept : List Kept) (op : ℕ) →
    sets_in (operations ++ op ∷ []) (filter (λ one. not (eqb one.op op)) kept) ≡ fin.insert (sets_in operations kept) op set.empty
started_newly operations kept op = started operations (operations ++ op ∷ []) kept op there others
  where
    or_true : (b : Bool) → (b || (true || false)) ≡ true
    or_true true = refl
    or_true false = refl

    there : has op (operations ++ op ∷ []) ≡ true
    there =
        list_any-append (λ other. eqb other op) operations (op ∷ [])
        ∙ ap (λ b. has op operations || (b || false)) ((unsigned_Decides op op).1 refl) ∙ or_true (has op operations)

    others : (q : ℕ) → eqb q op ≡ false → has q (operations ++ op ∷ []) ≡ has q operations
    others q e =
        list_any-append (λ other. eqb other q) operations (op ∷ [])
        ∙ ap (λ b. has q operations || (b || false)) (turned op q ∙ e) ∙ or-false (has q operations)

pub stopped : (operations : List ℕ) (kept : List Kept) (op : ℕ) →
    sets_in (filter (λ other. not (eqb other op)) operations) (filter (λ one. not (eqb one.op op)) kept) ≡ fin.remove (sets_in operations kept) op
stopped operations kept op =
    sym (sets_are (fin.remove (sets_in operations kept) op) (filter (λ other. not (eqb other op)) operations) (filter (λ one. not (eqb one.op op)) kept) (λ q.
    fin.get-remove nat_cmp_total (sets_in operations kept) op q
    ∙ ap (λ b. cond b None (fin.get (sets_in operations kept) q)) (unsigned_tied q op)
    ∙ at q (eqb q op) refl))
  where
    left : (q : ℕ) → has q (filter (λ other. not (eqb other op)) operations) ≡ list_any (λ other. not (eqb other op) && eqb other q) operations
    left q = any-filter (λ other. eqb other q) (λ other. not (eqb other op)) operations

    gone : (q : ℕ) → eqb q op ≡ true → has q (filter (λ other. not (eqb other op)) operations) ≡ false
    gone q e = left q ∙ list_any-none (λ other. not (eqb other op) && eqb other q) (λ other. ap (λ n. not (eqb other n) && eqb other q) (sym (one_number q op e)) ∙ never (eqb other q)) operations
      where
        never : (b : Bool) → (not b && b) ≡ false
        never true = refl
        never false = refl

    stays : (q : ℕ) → eqb q op ≡ false → has q (filter (λ other. not (eqb other op)) operations) ≡ has q operations
    stays q e = left q ∙ list_any-ext (λ other. not (eqb other op) && eqb other q) (λ other. eqb other q) (λ other. split other (eqb other q) refl) operations
      where
        split : (other : ℕ) (b : Bool) → eqb other q ≡ b → (not (eqb other op) && b) ≡ b
        split other true f = ap (λ b. not b && true) (ap (λ n. eqb n op) (one_number other q f) ∙ e)
        split other false f = none (not (eqb other op))
          where
            none : (b : Bool) → (b && false) ≡ false
            none true = refl
            none false = refl

    at : (q : ℕ) (b : Bool) → eqb q op ≡ b → cond b None (fin.get (sets_in operations kept) q) ≡ set_in q (filter (λ other. not (eqb other op)) operations) (filter (λ one. not (eqb one.op op)) kept)
    at q true e = ap (λ b. cond b (Some (set_of (answers_of q (filter (λ one. not (eqb one.op op)) kept)))) None) (sym (gone q e))
    at q false e =
        get-sets_in operations kept q
        ∙ ap (λ b. cond b (Some (set_of (answers_of q kept))) None) (sym (stays q e))
        ∙ ap (λ (s : AnswerSet). cond (has q (filter (λ other. not (eqb other op)) operations)) (Some s) None) (sym (others_stay op kept q e))
