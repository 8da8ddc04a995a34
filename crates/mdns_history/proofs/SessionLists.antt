-- Picking the items of one session out of those given.
use Rattle.std.proofs.Common.{◌≡◌, ℕ, zero, suc, ◌+◌, ◌<◌, ◌≤◌, ◌==◌, Bool, true, false, cond, List, [], ◌∷◌, ◌++◌, map, Some, None, refl, ap, ◌∙◌, arith, append-nil}
use Rattle.std.specs.Prelude.{filter}
use Rattle.std.specs.List.{filter_map, flat_map, cons_option}
use Rattle.std.proofs.lemmas.List.Elements.{filter_map-append}
use Rattle.lists.specs.Lists.{count_up}
use Rattle.sd_call.specs.declared.item.Item.{Item}
use Rattle.mdns_history.specs.Items.{item_for, given_to}

-- the items that are given to a session are all for it, or none
pub items_for : (session other : ℕ) (items : List Item) → filter_map (item_for session) (map (given_to other) items) ≡ cond (other == session) items []
items_for session other [] = none (other == session)
  where
    none : (b : Bool) → ◌≡◌ {A = List Item} [] (cond b [] [])
    none true = refl
    none false = refl
items_for session other (item ∷ items) = one (other == session) (items_for session other items)
  where
    one : (b : Bool) → filter_map (item_for session) (map (given_to other) items) ≡ cond b items [] →
        cons_option (cond b (Some item) None) (filter_map (item_for session) (map (given_to other) items)) ≡ cond b (item ∷ items) []
    one true e = ap (λ zs. item ∷ zs) e
    one false e = e

module _ (session : ℕ) (brought : ℕ → List Item) (p q : ℕ → Bool) where
  -- the items of a session among those of sessions from a number on
  abbrev pub picked : ℕ → ℕ → List Item
  picked first many = filter_map (item_for session) (flat_map (λ s. map (given_to s) (brought s)) (filter p (filter q (count_up first many))))

  -- the first of the sessions, which is served or not
  picked-first : (first many : ℕ) → picked first (suc many) ≡ cond (q first) (cond (p first) (cond (first == session) (brought first) []) []) [] ++ picked (first + 1) many
  picked-first first many = served (q first) (p first)
    where
      rest : List ℕ
      rest = filter q (count_up (first + 1) many)

      served : (b c : Bool) →
          filter_map (item_for session) (flat_map (λ s. map (given_to s) (brought s)) (filter p (cond b (first ∷ filter q (count_up (first + 1) many)) (filter q (count_up (first + 1) many)))))
          ≡ cond b (cond (p first) (cond (first == session) (brought first) []) []) [] ++ picked (first + 1) many
      served true c = kept (p first)
        where
          kept : (d : Bool) →
              filter_map (item_for session) (flat_map (λ s. map (given_to s) (brought s)) (cond d (first ∷ filter p (filter q (count_up (first + 1) many))) (filter p (filter q (count_up (first + 1) many)))))
              ≡ cond d (cond (first == session) (brought first) []) [] ++ picked (first + 1) many
          kept true = filter_map-append (item_for session) (map (given_to first) (brought first)) (flat_map (λ s. map (given_to s) (brought s)) (filter p (filter q (count_up (first + 1) many))))
              ∙ ap (λ zs. zs ++ picked (first + 1) many) (items_for session first (brought first))
          kept false = refl
      served false c = refl

  nothing : (b c : Bool) (xs : List Item) → cond b (cond c (cond false xs []) []) [] ≡ []
  nothing true true xs = refl
  nothing true false xs = refl
  nothing false c xs = refl

  -- sessions with higher numbers
  pub picked-above : (many first : ℕ) → session < first → picked first many ≡ []
  picked-above zero first above = refl
  picked-above (suc many) first above =
      let other : (first == session) ≡ false = grind arith in
      picked-first first many
      ∙ ap (λ b. cond (q first) (cond (p first) (cond b (brought first) []) []) [] ++ picked (first + 1) many) other
      ∙ ap (λ zs. zs ++ picked (first + 1) many) (nothing (q first) (p first) (brought first))
      ∙ picked-above many (first + 1) (omega arith)

  -- sessions with lower numbers
  pub picked-below : (many first : ℕ) → first + many ≤ session → picked first many ≡ []
  picked-below zero first below = refl
  picked-below (suc many) first below =
      let lt : first < session = omega arith in
      let other : (first == session) ≡ false = grind arith in
      picked-first first many
      ∙ ap (λ b. cond (q first) (cond (p first) (cond b (brought first) []) []) [] ++ picked (first + 1) many) other
      ∙ ap (λ zs. zs ++ picked (first + 1) many) (nothing (q first) (p first) (brought first))
      ∙ picked-below many (first + 1) (omega arith)

  -- the session itself
  pub picked-in : (many first : ℕ) → first ≤ session → session < first + many → q session ≡ true → p session ≡ true → picked first many ≡ brought session
  picked-in zero first low high served kept = let no : ⊥ = omega arith in absurd no
  picked-in (suc many) first low high served kept = at (first == session) refl
      (λ lt. picked-in many (first + 1) lt (omega arith) served kept)
    where
      at : (b : Bool) → (first == session) ≡ b → (first + 1 ≤ session → picked (first + 1) many ≡ brought session) → picked first (suc many) ≡ brought session
      at true e later =
          let here : first ≡ session = grind arith in
          picked-first first many
          ∙ ap (λ b. cond b (cond (p first) (cond (first == session) (brought first) []) []) [] ++ picked (first + 1) many) (ap q here ∙ served)
          ∙ ap (λ b. cond b (cond (first == session) (brought first) []) [] ++ picked (first + 1) many) (ap p here ∙ kept)
          ∙ ap (λ b. cond b (brought first) [] ++ picked (first + 1) many) e
          ∙ ap (λ zs. brought first ++ zs) (picked-above many (first + 1) (omega (arith, here)))
          ∙ append-nil (brought first)
          ∙ ap brought here
      at false e later =
          picked-first first many
          ∙ ap (λ b. cond (q first) (cond (p first) (cond b (brought first) []) []) [] ++ picked (first + 1) many) e
          ∙ ap (λ zs. zs ++ picked (first + 1) many) (nothing (q first) (p first) (brought first))
          ∙ later (grind arith)
