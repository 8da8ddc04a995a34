-- Records of names, walked one after another.
use Rattle.std.proofs.Common.{◌≡◌, ℕ, ◌+◌, ◌<◌, ◌≤◌, List, [], ◌∷◌, ◌++◌, take, length, Some, None, refl, ap, subst, sym, ◌∙◌, ⊎_elim, arith}
use Rattle.std.specs.Prelude.{slice_get}
use Rattle.std.proofs.lemmas.List.{take_more, take_all, length-append}
use Rattle.std.proofs.lemmas.List.Sums.{sum_by-append, sum_by-cons}
use Rattle.std.proofs.lemmas.Option.{slice_get_within, slice_get_cases, get_or_from_slice_get}
use Rattle.dns_record.specs.declared.record.Rr.{Rr}
use Rattle.mdns_history.specs.declared.held.Held.{Held}
use Rattle.mdns_cache.proofs.ListLemmas.{each-append}
use Rattle.mdns_happened.specs.declared.walk.Walk.{Walk}
use Rattle.mdns_records.specs.Visits.{visits_of, visits_of_all}
use Rattle.mdns_happened.specs.Walks.{IsWalk, IsOwnWalk, AreWalks, AreOwnWalks}

-- one walk more
pub walks-push : (held later : List Held) (walks : List Walk) (walk : Walk) → AreWalks held later walks → IsWalk held later walk → AreWalks held later (walks ++ walk ∷ [])
walks-push held later walks walk all one = each-append (IsWalk held later) walks (walk ∷ []) all (one, tt)

pub own_walks-push : (own later : List Rr) (walks : List Walk) (walk : Walk) → AreOwnWalks own later walks → IsOwnWalk own later walk → AreOwnWalks own later (walks ++ walk ∷ [])
own_walks-push own later walks walk all one = each-append (IsOwnWalk own later) walks (walk ∷ []) all (one, tt)

-- so many records of a list were copied
pub record AreCopied (all copied : List Held) : Type 0 where
  pub items : copied ≡ take (length copied) all
  pub within : length copied ≤ length all

-- one record more
pub copied-more : (all copied : List Held) (place : ℕ) (one : Held) → place ≡ length copied → slice_get all place ≡ Some one → AreCopied all copied → AreCopied all (copied ++ one ∷ [])
copied-more all copied place one at is h =
    let there : slice_get all (length copied) ≡ Some one = subst (λ (n : ℕ). slice_get all n ≡ Some one) at is in
    let inside : length copied < length all = slice_get_within all (length copied) one there in
    let more : length (copied ++ one ∷ []) ≡ length copied + 1 = length-append copied (one ∷ []) in
    let front : take (length copied + 1) all ≡ take (length copied) all ++ one ∷ [] =
    take_more all (length copied) one inside ∙ ap (λ (x : Held). take (length copied) all ++ x ∷ []) (get_or_from_slice_get all (length copied) one one there) in
    record {
      items = ap (λ (l : List Held). l ++ one ∷ []) h.items ∙ sym front ∙ ap (λ (n : ℕ). take n all) (sym more);
      within = omega (arith, more, inside);
    }

past : (all : List Held) (place : ℕ) → slice_get all place ≡ None → length all ≤ place
past all place none = ⊎_elim (λ found. absurd (cc (none, found.2))) (λ h. h.0) (slice_get_cases all place).1

-- and no record more
pub copied-all : (all copied : List Held) (place : ℕ) → place ≡ length copied → slice_get all place ≡ None → AreCopied all copied → copied ≡ all
copied-all all copied place at none h =
    h.items ∙ take_all (length copied) all (past all (length copied) (subst (λ (n : ℕ). slice_get all n ≡ None) at none))

pub copied-none : (all : List Held) → AreCopied all []
copied-none all = record { items = refl; within = omega arith }

-- The visits of a walk of some names, and of one name more, are at most those of all names.
pub visits-more : (held : List Held) (walked : List (List (List ℕ))) (name : List (List ℕ)) (left rest names : List (List (List ℕ))) → left ≡ name ∷ rest → walked ++ left ≡ names →
    visits_of_all held walked + visits_of held name ≤ visits_of_all held names
visits-more held walked name left rest names first all =
    let whole : visits_of_all held names ≡ visits_of_all held walked + visits_of_all held left = ap (visits_of_all held) (sym all) ∙ sum_by-append (visits_of held) walked left in
    let one : visits_of_all held left ≡ visits_of held name + visits_of_all held rest = ap (visits_of_all held) first ∙ sum_by-cons (visits_of held) name rest in
    omega (arith, whole, one)
