-- The questions that are due, found one behind the other.
use Rattle.std.proofs.Common.{◌≡◌, ℕ, zero, suc, ◌+◌, ◌<◌, ◌≤◌, Bool, cond, List, [], ◌∷◌, ◌++◌, length, map, take, get_or, Option, Some, None, refl, ap, ◌∙◌, sym, subst, arith}
use Rattle.std.specs.Prelude.{nat_le}
use Rattle.std.specs.List.{filter_map, cons_option}
use Rattle.std.specs.Option.{option_map, option_to_list}
use Rattle.std.proofs.Math.Seq.{take-length}
use Rattle.std.proofs.lemmas.List.{length-map}
use Rattle.std.proofs.lemmas.Bool.{lt-leb}
use Rattle.lists.specs.Lists.{least_of}
use Rattle.dns_record.specs.declared.record.Key.{Key}
use Rattle.mdns_history.specs.declared.mark.Cause.{Cause}
use Rattle.mdns_history.specs.declared.mark.Cause.TheVariants as cause
use Rattle.mdns_timer.specs.Tree.{moment_at}
use Rattle.mdns_timer.specs.Parts.{NoneDue}
use Rattle.mdns_question.specs.declared.tracked.Tracked.{Tracked}
use Rattle.mdns_question.specs.Refreshing.{moment_of, with_cause, due_by_kept}
use Rattle.mdns_question.proofs.Loops.{filter_map-next}

moment_first : (one : Tracked) → moment_of one ≤ one.next
moment_first one = of one.refresh
  where
    of : (refresh : Option ℕ) → least_of one.next (option_to_list refresh) ≤ one.next
    of None = omega arith
    of (Some point) = omega arith

not_due : (now : ℕ) (one : Tracked) → now < moment_of one → with_cause now one ≡ None
not_due now one later =
    let first : moment_of one ≤ one.next = moment_first one in
    ap (λ (b : Bool). option_map (λ c. (one.key, c)) (cond b (Some cause.Series) (cond (nat_le (moment_of one) now) (Some cause.Refresh) None))) (lt-leb one.next now (omega (arith, first, later)))
    ∙ ap (λ (b : Bool). option_map (λ c. (one.key, c)) (cond b (Some cause.Refresh) None)) (lt-leb (moment_of one) now later)

-- where none is due between two places
skipped : (now : ℕ) (questions : List Tracked) (from place : ℕ) → from ≤ place → place ≤ length questions → NoneDue (map moment_of questions) now from place →
    filter_map (with_cause now) (take place questions) ≡ filter_map (with_cause now) (take from questions)
skipped now questions zero zero h within none = refl
skipped now questions (suc from) zero h within none = absurd (omega arith)
skipped now [] zero (suc place) h within none = absurd (omega arith)
skipped now [] (suc from) (suc place) h within none = absurd (omega arith)
skipped now (one ∷ questions) zero (suc place) h within none =
    ap (λ o. cons_option o (filter_map (with_cause now) (take place questions))) (not_due now one (none 0 (omega arith) (omega arith)))
    ∙ skipped now questions zero place (omega arith) (omega arith) (λ k behind below. none (suc k) (omega arith) (omega arith))
skipped now (one ∷ questions) (suc from) (suc place) h within none =
    ap (λ l. cons_option (with_cause now one) l) (skipped now questions from place (omega arith) (omega arith) (λ k behind below. none (suc k) (omega arith) (omega arith)))

one_more : {X : Type 0} (o : Option X) → option_to_list o ≡ cons_option o []
one_more None = refl
one_more (Some x) = refl

length_timed : (questions : List Tracked) (moments : List ℕ) → moments ≡ map moment_of questions → length moments ≡ length questions
length_timed questions moments timed = ap length timed ∙ length-map questions moment_of

-- one more that is due
pub next_put : (now : ℕ) (questions : List Tracked) (moments : List ℕ) (from place : ℕ) (one : Tracked) (before after : List (Key × Cause)) → moments ≡ map moment_of questions → from ≤ place → place < length questions →
    NoneDue moments now from place → one ≡ get_or questions place one → before ≡ filter_map (with_cause now) (take from questions) → after ≡ before ++ option_to_list (with_cause now one) →
    after ≡ filter_map (with_cause now) (take (place + 1) questions)
next_put now questions moments from place one before after timed h within none is had put =
    put
    ∙ ap (λ l. l ++ option_to_list (with_cause now one)) (had ∙ sym (skipped now questions from place h (omega arith) (subst (λ (ms : List ℕ). NoneDue ms now from place) timed none)))
    ∙ ap (λ l. filter_map (with_cause now) (take place questions) ++ l) (one_more (with_cause now one))
    ∙ sym (filter_map-next (with_cause now) questions place one within is)

-- no more is due
pub none_left : (now : ℕ) (questions : List Tracked) (moments : List ℕ) (from : ℕ) (before : List (Key × Cause)) → moments ≡ map moment_of questions → from ≤ length questions → NoneDue moments now from (length moments) →
    before ≡ filter_map (with_cause now) (take from questions) → before ≡ due_by_kept now questions
none_left now questions moments from before timed h none had =
    had
    ∙ sym (skipped now questions from (length questions) h (omega arith) (λ k behind below. subst (λ (ms : List ℕ). now < moment_at ms k) timed (none k behind (omega (arith, below, len)))))
    ∙ ap (filter_map (with_cause now)) (take-length questions)
  where
    len : length moments ≡ length questions
    len = length_timed questions moments timed

pub within_timed : (questions : List Tracked) (moments : List ℕ) (place : ℕ) → moments ≡ map moment_of questions → place < length moments → place < length questions
within_timed questions moments place timed h = let len : length moments ≡ length questions = length_timed questions moments timed in omega (arith, h, len)
