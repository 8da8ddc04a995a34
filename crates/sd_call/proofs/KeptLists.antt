-- What is kept, as a list: at which place an answer of an operation stands, and that none stands there twice.
use Rattle.std.proofs.Common.{◌≡◌, ◌<◌, ◌≤◌, ℕ, zero, suc, arith, length, take, get_or, Bool, true, false, cond, not, eqb, ◌&&◌, ◌||◌, List, [], ◌∷◌, ◌++◌, refl, ap, ◌∙◌, sym, Some, None}
use Rattle.std.specs.Prelude.{filter, slice_get}
use Rattle.std.specs.List.{list_any}
use Rattle.std.proofs.lemmas.List.Folds.{list_any-append}
use Rattle.std.proofs.lemmas.Bool.{and_parts, not-true, or_parts}
use Rattle.lists.proofs.InOrder.{none-filter}
use Rattle.sd_call.specs.declared.replayed.Kept.{Kept}
use Rattle.sd_call.specs.Answers.{answer_bytes}
use Rattle.sd_call.specs.Holding.{is_it, are_once}
use Rattle.sd_call.proofs.AnswerLists.{eq, eq_symm}
use Rattle.sd_call.proofs.Holdings.{turned, is_it-holds}

-- ---- places

-- the answer behind so many of its operation
pub place_found : (op : ℕ) (kept : List Kept) (i place : ℕ) (one : Kept) → i < length kept → one ≡ get_or kept i one → eqb one.op op ≡ true →
    place ≡ length (filter (λ k. eqb k.op op) (take i kept)) → Some one ≡ slice_get (filter (λ k. eqb k.op op) kept) place
place_found op [] i place one h e t p = absurd (omega arith)
place_found op (first ∷ kept) zero place one h e t p =
    let here : eqb first.op op ≡ true = ap (λ (k : Kept). eqb k.op op) (sym e) ∙ t in
    ap Some e ∙ ap (λ (b : Bool). slice_get (cond b (first ∷ filter (λ k. eqb k.op op) kept) (filter (λ k. eqb k.op op) kept)) 0) (sym here)
    ∙ ap (λ (n : ℕ). slice_get (filter (λ k. eqb k.op op) (first ∷ kept)) n) (sym p)
place_found op (first ∷ kept) (suc i) place one h e t p =
    at (eqb first.op op) (place_found op kept i (length (filter (λ k. eqb k.op op) (take i kept))) one (omega arith) e t refl)
    ∙ ap (λ (n : ℕ). slice_get (filter (λ k. eqb k.op op) (first ∷ kept)) n) (sym p)
  where
    rest : List Kept
    rest = filter (λ k. eqb k.op op) kept

    before : List Kept
    before = filter (λ k. eqb k.op op) (take i kept)

    at : (b : Bool) → Some one ≡ slice_get rest (length before) → Some one ≡ slice_get (cond b (first ∷ rest) rest) (length (cond b (first ∷ before) before))
    at true ih = ih
    at false ih = ih

pub past_end : (answers : List Kept) (place : ℕ) → length answers ≤ place → slice_get answers place ≡ None
past_end [] place h = refl
past_end (first ∷ answers) zero h = absurd (omega arith)
past_end (first ∷ answers) (suc place) h = past_end answers place (omega arith)

-- ---- no answer twice

-- fewer answers are none of them twice
pub once_kept : (p : Kept → Bool) (kept : List Kept) → are_once kept ≡ true → are_once (filter p kept) ≡ true
once_kept p [] h = refl
once_kept p (one ∷ kept) h = at (p one) (once_kept p kept parts.1)
  where
    parts : (not (list_any (is_it one.op one.answer) kept) ≡ true) × (are_once kept ≡ true)
    parts = and_parts (not (list_any (is_it one.op one.answer) kept)) (are_once kept) h

    at : (b : Bool) → are_once (filter p kept) ≡ true → are_once (cond b (one ∷ filter p kept) (filter p kept)) ≡ true
    at true ih = ap (λ b. not b && are_once (filter p kept)) (none-filter (is_it one.op one.answer) p kept (not-true (list_any (is_it one.op one.answer) kept) parts.0)) ∙ ih
    at false ih = ih

is_it-turned : (one other : Kept) → is_it one.op one.answer other ≡ is_it other.op other.answer one
is_it-turned one other =
    is_it-holds one.op one.answer other
    ∙ ap (λ b. b && eq (answer_bytes one.answer) (answer_bytes other.answer)) (turned other.op one.op)
    ∙ ap (λ b. eqb one.op other.op && b) (eq_symm (answer_bytes one.answer) (answer_bytes other.answer))
    ∙ sym (is_it-holds other.op other.answer one)

-- an answer that isn't there is there once behind the others
pub once_added : (kept : List Kept) (last : Kept) → list_any (is_it last.op last.answer) kept ≡ false → are_once kept ≡ true → are_once (kept ++ last ∷ []) ≡ true
once_added [] last away h = refl
once_added (one ∷ kept) last away h =
    ap (λ b. not b && are_once (kept ++ last ∷ []))
    (list_any-append (is_it one.op one.answer) kept (last ∷ [])
    ∙ ap (λ b. b || (is_it one.op one.answer last || false)) (not-true (list_any (is_it one.op one.answer) kept) parts.0)
    ∙ ap (λ b. b || false) (is_it-turned one last ∙ others.0))
    ∙ once_added kept last others.1 parts.1
  where
    parts : (not (list_any (is_it one.op one.answer) kept) ≡ true) × (are_once kept ≡ true)
    parts = and_parts (not (list_any (is_it one.op one.answer) kept)) (are_once kept) h

    others : (is_it last.op last.answer one ≡ false) × (list_any (is_it last.op last.answer) kept ≡ false)
    others = or_parts (is_it last.op last.answer one) (list_any (is_it last.op last.answer) kept) away
