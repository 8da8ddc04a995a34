-- What is put together of groups one by one, where nothing is put of a group of which nothing is due: only those are looked at of which something is.
use Rattle.std.proofs.Common.{◌≡◌, ℕ, suc, ◌+◌, ◌<◌, ◌≤◌, List, [], ◌∷◌, ◌++◌, length, map, drop, get_or, ap, subst, sym, ◌∙◌, append-nil, append_assoc, arith}
use Rattle.std.proofs.lemmas.List.{drop_all, drop_more}
use Rattle.mdns_timer.specs.Parts.{NoneDue}
use Rattle.mdns_probe.specs.Kept.{Kept}
use Rattle.mdns_claimants.specs.Due.{moment_of}
use Rattle.mdns_claimants.proofs.Places.{element, moment_here, same_from}

-- what is put of several groups is what is put of each, and of one whose moment hasn't come nothing is
pub record IsOfDue {X : Type 0} (put : List Kept → List X) (now : ℕ) : Type 0 where
  pub none : put [] ≡ []
  pub first : (one : Kept) (kept : List Kept) → put (one ∷ kept) ≡ put (one ∷ []) ++ put kept
  pub still : (one : Kept) → now < moment_of one → put (one ∷ []) ≡ []

module _ {X : Type 0} (put : List Kept → List X) (now : ℕ) (of_due : IsOfDue put now) (kept : List Kept) where
  next_first : (place : ℕ) (one : Kept) → place < length kept → one ≡ get_or kept place one → put (drop place kept) ≡ put (one ∷ []) ++ put (drop (place + 1) kept)
  next_first place one within is = ap put (drop_more kept place one within ∙ ap (λ (k : Kept). k ∷ drop (place + 1) kept) (sym is)) ∙ of_due.first one (drop (place + 1) kept)

  passed : (from place : ℕ) → from ≤ place → place ≤ length kept → NoneDue (map moment_of kept) now from place → put (drop place kept) ≡ put (drop from kept)
  passed from place h within none =
      same_from (λ k. put (drop k kept)) from place h (λ k low high.
      let there : k < length kept = omega arith in
      let one = element kept k there in
      let next : suc k ≡ k + 1 = omega arith in
      ap (λ (j : ℕ). put (drop j kept)) next
      ∙ ap (λ (l : List X). l ++ put (drop (k + 1) kept)) (sym (of_due.still one.0 (subst (λ (m : ℕ). now < m) (moment_here kept k one.0 there ∙ ap moment_of (sym one.1)) (none k low high))))
      ∙ sym (next_first k one.0 there one.1))

  -- the next one of which something is due
  pub put_more : (from place : ℕ) (one : Kept) (before after : List X) → from ≤ place → place < length kept → NoneDue (map moment_of kept) now from place → one ≡ get_or kept place one → after ≡ before ++ put (one ∷ []) →
      after ++ put (drop (place + 1) kept) ≡ before ++ put (drop from kept)
  put_more from place one before after h within none is e =
      ap (λ (l : List X). l ++ put (drop (place + 1) kept)) e
      ∙ append_assoc before (put (one ∷ [])) (put (drop (place + 1) kept))
      ∙ ap (λ (l : List X). before ++ l) (sym (next_first place one within is) ∙ passed from place h (omega arith) none)

  -- there is none
  pub put_all : (from : ℕ) (before : List X) → from ≤ length kept → NoneDue (map moment_of kept) now from (length kept) → before ≡ before ++ put (drop from kept)
  put_all from before h none =
      sym (append-nil before)
      ∙ ap (λ (l : List X). before ++ l) (sym (ap put (drop_all (length kept) kept (omega arith)) ∙ of_due.none) ∙ passed from (length kept) h (omega arith) none)
