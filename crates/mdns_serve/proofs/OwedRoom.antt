-- The sessions whose end is owed are attached, each stands once, and so there is room for one more.
use Rattle.std.proofs.Common.{◌≡◌, ℕ, ◌≤◌, ◌==◌, Bool, true, false, cond, not, ◌&&◌, ◌||◌, List, [], ◌∷◌, ◌++◌, length, Option, Some, None, refl, ap, ◌∙◌, sym, arith}
use Rattle.std.specs.Prelude.{nat_lt}
use Rattle.std.specs.Option.{option_or, unwrap_or}
use Rattle.std.proofs.lemmas.Bool.{and_parts}
use Rattle.std.proofs.lemmas.List.Folds.{list_any-append}
use Rattle.mdns_history.specs.declared.entry.Entry.{Entry}
use Rattle.mdns_history.specs.History as history
use Rattle.mdns_history.specs.History.{Turn, entries, latest}
use Rattle.mdns_history.specs.Sessions.{opened, detached, is_number, attaching, is_attached, attached_sessions}
use Rattle.mdns_core.specs.InForce.{in_force}
use Rattle.mdns_serve.specs.Turns.{owed, is_owed, drop_number}
use Rattle.mdns_serve.specs.Room.{OwedEndsHaveRoom}
use Rattle.mdns_serve.proofs.OnceEach.{has, IsOnce, has-filter, IsOnce-filter, IsOnce-append, no_longer}
use Rattle.mdns_serve.proofs.AttachedCount.{few_attached, attached_stands}

-- each of the numbers once, and each is of an attached session
record AreOwed (ns : List ℕ) (past : List Entry) : Type 0 where
  pub once : IsOnce ns
  pub attached : (n : ℕ) → has n ns ≡ true → is_attached n past ≡ true

-- a session that an entry doesn't detach stays attached
stays_attached : (entry : Entry) (past : List Entry) (n : ℕ) → is_number n (detached entry.event entry.outcome) ≡ false → is_attached n past ≡ true → is_attached n (entry ∷ past) ≡ true
unfolding is_attached
stays_attached entry past n kept h = of (is_number n (opened entry.outcome)) (is_number n (detached entry.event entry.outcome)) kept
  where
    of : (b c : Bool) → c ≡ false → unwrap_or (option_or (cond b (Some true) (cond c (Some false) None)) (latest (attaching n) past)) false ≡ true
    of true c e = refl
    of false true e = absurd (cc)
    of false false e = h

after_entry : (entry : Entry) (past : List Entry) (ns : List ℕ) → AreOwed ns past → (d : Option ℕ) → detached entry.event entry.outcome ≡ d → AreOwed (drop_number d ns) (entry ∷ past)
after_entry entry past ns are None e = record { once = are.once; attached = λ n h. stays_attached entry past n (ap (is_number n) e) (are.attached n h) }
after_entry entry past ns are (Some s) e = record { once = IsOnce-filter (λ n. not (n == s)) ns are.once; attached = λ n h. each n (and_parts (not (n == s)) (has n ns) (sym (has-filter n (λ m. not (m == s)) ns) ∙ h)) }
  where
    unlike : (n : ℕ) (b : Bool) → (n == s) ≡ b → not b ≡ true → (s == n) ≡ false
    unlike n true f g = absurd (cc)
    unlike n false f g = grind arith

    each : (n : ℕ) → (not (n == s) ≡ true) × (has n ns ≡ true) → is_attached n (entry ∷ past) ≡ true
    each n both = stays_attached entry past n (ap (is_number n) e ∙ unlike n (n == s) refl both.0) (are.attached n both.1)

after_missed : (past : List Entry) (ns : List ℕ) (s : ℕ) → AreOwed ns past → (b : Bool) → is_owed past s ns ≡ b → AreOwed (cond b (ns ++ s ∷ []) ns) past
after_missed past ns s are false e = are
after_missed past ns s are true e = record { once = IsOnce-append ns s are.once (absent (has s ns) new.1); attached = each }
  where
    parts : ((nat_lt (length ns) 64 && not (has s ns)) ≡ true) × (is_attached s past ≡ true)
    parts = and_parts (nat_lt (length ns) 64 && not (has s ns)) (is_attached s past) e

    new : (nat_lt (length ns) 64 ≡ true) × (not (has s ns) ≡ true)
    new = and_parts (nat_lt (length ns) 64) (not (has s ns)) parts.0

    absent : (b : Bool) → not b ≡ true → b ≡ false
    absent true f = cc
    absent false f = refl

    each : (n : ℕ) → has n (ns ++ s ∷ []) ≡ true → is_attached n past ≡ true
    each n h = of (has n ns) refl (s == n) refl (sym (list_any-append (λ m. m == n) ns (s ∷ [])) ∙ h)
      where
        of : (b : Bool) → has n ns ≡ b → (c : Bool) → (s == n) ≡ c → (b || (c || false)) ≡ true → is_attached n past ≡ true
        of true f c g i = are.attached n f
        of false f true g i = let one : s ≡ n = grind arith in sym (ap (λ m. is_attached m past) one) ∙ parts.1
        of false f false g i = cc

are_owed : (turns : List Turn) → AreOwed (owed turns) (entries turns)
are_owed [] = record { once = tt; attached = λ n h. absurd (cc) }
are_owed (history.Entered entry ∷ past) = after_entry entry (entries past) (owed past) (are_owed past) (detached entry.event entry.outcome) refl
are_owed (history.Missed None ∷ past) = are_owed past
are_owed (history.Missed (Some s) ∷ past) = after_missed (entries past) (owed past) s (are_owed past) (is_owed (entries past) s (owed past)) refl

pub owed_ends_have_room : OwedEndsHaveRoom
owed_ends_have_room turns session legal attached absent =
    let are = are_owed turns in
    let few : length (attached_sessions (entries turns)) ≤ 64 = few_attached in_force (entries turns) legal.1 in
    let all = no_longer (session ∷ owed turns) (attached_sessions (entries turns)) (absent, are.once) each in
    omega (arith, few, all)
  where
    each : (n : ℕ) → has n (session ∷ owed turns) ≡ true → has n (attached_sessions (entries turns)) ≡ true
    each n h = attached_stands in_force (entries turns) legal.1 n (of (session == n) refl h)
      where
        of : (b : Bool) → (session == n) ≡ b → (b || has n (owed turns)) ≡ true → is_attached n (entries turns) ≡ true
        of true e g = let one : session ≡ n = grind arith in sym (ap (λ m. is_attached m (entries turns)) one) ∙ attached
        of false e g = (are_owed turns).attached n g
