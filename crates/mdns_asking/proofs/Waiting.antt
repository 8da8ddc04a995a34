-- When nothing is due, where every held record is live: before the first moment of each question, and before the end of each record.
use Rattle.std.proofs.Common.{◌≡◌, ℕ, min, Bool, true, false, cond, not, ◌&&◌, ◌||◌, List, [], ◌∷◌, ◌++◌, map, nat_le, Option, Some, None, refl, ap, ◌∙◌, sym, arith}
use Rattle.std.specs.Prelude.{filter, nat_lt}
use Rattle.std.specs.List.{list_any, list_all, flat_map, filter_map, cons_option}
use Rattle.std.specs.Option.{option_map, option_to_list}
use Rattle.std.proofs.lemmas.List.Folds.{list_all-append, list_all-map}
use Rattle.lists.specs.Lists.{least_of}
use Rattle.dns_record.specs.declared.record.Key.{Key}
use Rattle.mdns_history.specs.declared.mark.Cause.{Cause}
use Rattle.mdns_history.specs.declared.mark.Cause.TheVariants as cause
use Rattle.mdns_history.specs.declared.held.Held.{Held}
use Rattle.mdns_history.specs.Lifetimes.{is_live_at}
use Rattle.mdns_history.specs.Asking.{refresh_points, calls_at, is_behind}
use Rattle.mdns_history.specs.Due.{is_nothing}
use Rattle.mdns_question.specs.declared.tracked.Tracked.{Tracked}
use Rattle.mdns_question.specs.Tracking.{active_of, is_refreshed, due_cause, due_with, due_at}
use Rattle.mdns_question.specs.Next.{is_wanted, is_open, open_in, next_of}
use Rattle.mdns_question.proofs.Refreshes.{refreshed_by}
use Rattle.mdns_asking.specs.State.{asker_of}

-- What is below a number and below each of several is below the least of them.
pub below_least : (t n : ℕ) (ms : List ℕ) → (nat_lt t n && list_all (nat_lt t) ms) ≡ nat_lt t (least_of n ms)
below_least t n [] = and_true (nat_lt t n)
  where
    and_true : (b : Bool) → (b && true) ≡ b
    and_true true = refl
    and_true false = refl
below_least t n (m ∷ ms) =
    swap (nat_lt t n) (nat_lt t m) (list_all (nat_lt t) ms)
    ∙ ap (λ b. nat_lt t m && b) (below_least t n ms)
    ∙ both (nat_lt t m) refl (nat_lt t (least_of n ms)) refl
  where
    swap : (a b c : Bool) → (a && (b && c)) ≡ (b && (a && c))
    swap true true c = refl
    swap true false c = refl
    swap false true c = refl
    swap false false c = refl

    both : (a : Bool) → nat_lt t m ≡ a → (b : Bool) → nat_lt t (least_of n ms) ≡ b → (a && b) ≡ nat_lt t (min m (least_of n ms))
    both true e true f = grind arith
    both true e false f = grind arith
    both false e b f = grind arith

-- whether a refresh point calls for an asking of a question
abbrev calls : Tracked → ℕ → ℕ → Bool
calls one t = calls_at (active_of one) (option_to_list one.last) t

-- whether a held record does
abbrev called : Tracked → ℕ → Held → Bool
called one t told = is_live_at t told && is_wanted one told && list_any (calls one t) (refresh_points told)

-- of a record that lives no point calls while the open ones are later
quiet_points : (one : Tracked) (told : Held) (t : ℕ) → is_live_at t told ≡ true → (ps : List ℕ) → list_all (nat_lt t) (filter (is_open one told) ps) ≡ not (list_any (calls one t) ps)
quiet_points one told t live [] = refl
quiet_points one told t live (p ∷ ps) = of (nat_le p t) (nat_lt p told.end) (nat_lt one.start p) (is_behind p (option_to_list one.last)) refl refl (quiet_points one told t live ps)
  where
    ms : List ℕ
    ms = filter (is_open one told) ps

    of : (le lt s b : Bool) → nat_le p t ≡ le → nat_lt p told.end ≡ lt → list_all (nat_lt t) ms ≡ not (list_any (calls one t) ps) →
        list_all (nat_lt t) (cond (lt && s && b) (p ∷ ms) ms) ≡ not ((le && s && b) || list_any (calls one t) ps)
    of false true true true e f rest = let later : nat_lt t p ≡ true = grind arith in ap (λ c. c && list_all (nat_lt t) ms) later ∙ rest
    of false true true false e f rest = rest
    of false true false b e f rest = rest
    of false false s b e f rest = rest
    of true true true true e f rest = let come : nat_lt t p ≡ false = grind arith in ap (λ c. c && list_all (nat_lt t) ms) come
    of true true true false e f rest = rest
    of true true false b e f rest = rest
    of true false s b e f rest = let no : true ≡ false = sym live ∙ (let ended : nat_lt t told.end ≡ false = grind arith in ended) in cc

quiet_held : (one : Tracked) (t : ℕ) (held : List Held) → list_all (is_live_at t) held ≡ true → list_all (nat_lt t) (flat_map (open_in one) held) ≡ not (list_any (called one t) held)
quiet_held one t [] live = refl
quiet_held one t (told ∷ held) live = of (is_live_at t told) refl live (quiet_held one t held)
  where
    rest : List ℕ
    rest = flat_map (open_in one) held

    wanted : is_live_at t told ≡ true → (w : Bool) →
        list_all (nat_lt t) (cond w (filter (is_open one told) (refresh_points told)) []) ≡ not (w && list_any (calls one t) (refresh_points told))
    wanted e true = quiet_points one told t e (refresh_points told)
    wanted e false = refl

    nor : (a b : Bool) → (not a && not b) ≡ not (a || b)
    nor true b = refl
    nor false b = refl

    of : (l : Bool) → is_live_at t told ≡ l → (l && list_all (is_live_at t) held) ≡ true → (list_all (is_live_at t) held ≡ true → list_all (nat_lt t) rest ≡ not (list_any (called one t) held)) →
        list_all (nat_lt t) (open_in one told ++ rest) ≡ not ((l && is_wanted one told && list_any (calls one t) (refresh_points told)) || list_any (called one t) held)
    of true e h ih =
        list_all-append (nat_lt t) (open_in one told) rest
        ∙ ap (λ c. c && list_all (nat_lt t) rest) (wanted e (is_wanted one told))
        ∙ ap (λ c. not (is_wanted one told && list_any (calls one t) (refresh_points told)) && c) (ih h)
        ∙ nor (is_wanted one told && list_any (calls one t) (refresh_points told)) (list_any (called one t) held)
    of false e h ih = cc

-- whether there is no cause
abbrev is_causeless : Option Cause → Bool
is_causeless None = true
is_causeless (Some why) = false

-- a question isn't due while its first moment is later
quiet_question : (held : List Held) (one : Tracked) (t : ℕ) → list_all (is_live_at t) held ≡ true → is_causeless (due_cause held t one) ≡ nat_lt t (next_of held one)
quiet_question held one t live =
    causeless (nat_le one.next t) (is_refreshed held t one)
    ∙ ap (λ b. not (nat_le one.next t) && not b) (refreshed_by held t one)
    ∙ ap (λ b. not (nat_le one.next t) && b) (sym (quiet_held one t held live))
    ∙ ap (λ b. b && list_all (nat_lt t) (flat_map (open_in one) held)) later
    ∙ below_least t one.next (flat_map (open_in one) held)
  where
    causeless : (a b : Bool) → is_causeless (cond a (Some cause.Series) (cond b (Some cause.Refresh) None)) ≡ (not a && not b)
    causeless true b = refl
    causeless false true = refl
    causeless false false = refl

    later : not (nat_le one.next t) ≡ nat_lt t one.next
    later = of (nat_le one.next t) refl
      where
        of : (b : Bool) → nat_le one.next t ≡ b → not b ≡ nat_lt t one.next
        of true e = grind arith
        of false e = grind arith

quiet_questions : (held : List Held) (t : ℕ) → list_all (is_live_at t) held ≡ true → (questions : List Tracked) →
    is_nothing (filter_map (due_with held t) questions) ≡ list_all (nat_lt t) (map (next_of held) questions)
quiet_questions held t live [] = refl
quiet_questions held t live (one ∷ questions) =
    nothing (due_cause held t one) (filter_map (due_with held t) questions)
    ∙ ap (λ b. b && is_nothing (filter_map (due_with held t) questions)) (quiet_question held one t live)
    ∙ ap (λ b. nat_lt t (next_of held one) && b) (quiet_questions held t live questions)
  where
    nothing : (o : Option Cause) (more : List (Key × Cause)) → is_nothing (cons_option (option_map (λ why. (one.key, why)) o) more) ≡ (is_causeless o && is_nothing more)
    nothing None more = refl
    nothing (Some why) more = refl

-- No held record has ended and no question is due exactly before each end and each first moment.
pub quiet_before : (questions : List Tracked) (held : List Held) (t : ℕ) →
    (list_all (is_live_at t) held && is_nothing (due_at (asker_of questions held) t)) ≡ list_all (nat_lt t) (map (λ one. one.end) held ++ map (next_of held) questions)
quiet_before questions held t =
    of (list_all (is_live_at t) held) refl
    ∙ ap (λ b. b && list_all (nat_lt t) (map (next_of held) questions)) (sym (list_all-map (nat_lt t) (λ (one : Held). one.end) held))
    ∙ sym (list_all-append (nat_lt t) (map (λ one. one.end) held) (map (next_of held) questions))
  where
    of : (b : Bool) → list_all (is_live_at t) held ≡ b → (b && is_nothing (due_at (asker_of questions held) t)) ≡ (list_all (is_live_at t) held && list_all (nat_lt t) (map (next_of held) questions))
    of true e = quiet_questions held t e questions ∙ ap (λ b. b && list_all (nat_lt t) (map (next_of held) questions)) (sym e)
    of false e = ap (λ b. b && list_all (nat_lt t) (map (next_of held) questions)) (sym e)
