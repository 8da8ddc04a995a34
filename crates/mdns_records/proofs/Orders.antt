-- Names in order, each once, case aside.
use Rattle.std.proofs.Common.{◌≡◌, ℕ, Bool, true, false, ◌||◌, List, [], ◌∷◌, ◌++◌, map, refl, sym, ap, ◌∙◌}
use Rattle.std.specs.List.{AllByRecursion, list_any, list_all, IsDistinct}
use Rattle.std.specs.Ordering.{is_eq, is_lt}
use Rattle.std.specs.declared.cmp.Ordering.{Ordering}
use Rattle.std.specs.declared.cmp.Ordering.TheVariants.{Less, Equal, Greater}
use Rattle.std.proofs.lemmas.Bool.{and_from, and_parts}
use Rattle.std.proofs.lemmas.List.Folds.{list_any-append, list_all-append}
use Rattle.lists.specs.Lists.{ordered}
use Rattle.dns_name.specs.Names.{folded_eq, name_cmp}
use Rattle.dns_name.proofs.Folding.{folded_eq-tells, name_cmp-equal, name_cmp-total}
use Rattle.lists.proofs.InOrder.{any-ordered, all-ordered, rising-ordered, IsRising, below}
use Rattle.dns_record.specs.declared.record.Rr.{Rr}
use Rattle.mdns_history.specs.declared.held.Held.{Held}
use Rattle.mdns_cache.specs.Ended.{is_among, is_of_ended, HasEnded, AreOfEnded}
use Rattle.mdns_cache.proofs.ListLemmas.{each-weaker}
use Rattle.mdns_records.specs.After.{is_named, is_of_event}

both : (a b : Bool) → (a ≡ true → b ≡ true) → (b ≡ true → a ≡ true) → a ≡ b
both true b h k = sym (h refl)
both false true h k = k refl
both false false h k = refl

equal_from : (r : Ordering) → is_eq r ≡ true → r ≡ Equal
equal_from Less h = absurd (cc)
equal_from Equal h = refl
equal_from Greater h = absurd (cc)

pub tied_alike : (one other : List (List ℕ)) → folded_eq one other ≡ is_eq (name_cmp one other)
tied_alike one other =
    both (folded_eq one other) (is_eq (name_cmp one other))
    (λ e. ap is_eq ((name_cmp-equal one other).1 ((folded_eq-tells one other).0 e)))
    (λ e. (folded_eq-tells one other).1 ((name_cmp-equal one other).0 (equal_from (name_cmp one other) e)))

among_tied : (names : List (List (List ℕ))) (name : List (List ℕ)) → is_among names name ≡ list_any (λ other. is_eq (name_cmp name other)) names
among_tied [] name = refl
among_tied (one ∷ names) name = λ i. tied_alike name one i || among_tied names name i

-- the same names are among those in order
pub among_ordered : (names : List (List (List ℕ))) (name : List (List ℕ)) → is_among (ordered name_cmp names) name ≡ is_among names name
among_ordered names name = among_tied (ordered name_cmp names) name ∙ any-ordered name_cmp name_cmp-total name names ∙ sym (among_tied names name)

or_first : (a b : Bool) → a ≡ true → (a || b) ≡ true
or_first true b h = refl
or_first false b h = cc

or_second : (a b : Bool) → b ≡ true → (a || b) ≡ true
or_second true b h = refl
or_second false b h = h

-- the owners of records that are put behind other names
abbrev owners_of : List Rr → List (List (List ℕ))
owners_of heard = map (λ (rr : Rr). rr.owner) heard

pub ended_among : (moment : ℕ) (held : List Held) (names : List (List (List ℕ))) (heard : List Rr) → HasEnded held moment names → HasEnded held moment (ordered name_cmp (names ++ owners_of heard))
ended_among moment held names heard all =
    each-weaker _ _ (λ one k ended. among_ordered (names ++ owners_of heard) one.rr.owner ∙ list_any-append (folded_eq one.rr.owner) names (owners_of heard)
    ∙ or_first (is_among names one.rr.owner) (is_among (owners_of heard) one.rr.owner) (k ended)) held all

own : (heard : List Rr) → AllByRecursion (λ (rr : Rr). is_among (owners_of heard) rr.owner ≡ true) heard
own [] = tt
own (rr ∷ heard) = (
  or_first (folded_eq rr.owner rr.owner) (is_among (owners_of heard) rr.owner) ((folded_eq-tells rr.owner rr.owner).1 refl),
  each-weaker _ _ (λ one k. or_second (folded_eq one.owner rr.owner) (is_among (owners_of heard) one.owner) k) heard (own heard),
)

pub heard_among : (names : List (List (List ℕ))) (heard : List Rr) → AllByRecursion (λ (rr : Rr). is_among (ordered name_cmp (names ++ owners_of heard)) rr.owner ≡ true) heard
heard_among names heard =
    each-weaker _ _ (λ one k. among_ordered (names ++ owners_of heard) one.owner ∙ list_any-append (folded_eq one.owner) names (owners_of heard)
    ∙ or_second (is_among names one.owner) (is_among (owners_of heard) one.owner) k) heard (own heard)

-- ---- no other name is among them, and each stands there once

module _ (moment : ℕ) (held : List Held) (heard : List Rr) where
  ended_only : (names : List (List (List ℕ))) → AreOfEnded held moment names → list_all (is_of_event moment heard held) names ≡ true
  ended_only [] all = refl
  ended_only (name ∷ names) all =
      and_from (is_of_event moment heard held name) (list_all (is_of_event moment heard held) names)
      (or_first (is_of_ended held moment name) (list_any (is_named name) heard) all.0) (ended_only names all.1)

  heard_only : (more : List Rr) → AllByRecursion (λ (rr : Rr). list_any (is_named rr.owner) heard ≡ true) more → list_all (is_of_event moment heard held) (owners_of more) ≡ true
  heard_only [] all = refl
  heard_only (rr ∷ more) all =
      and_from (is_of_event moment heard held rr.owner) (list_all (is_of_event moment heard held) (owners_of more))
      (or_second (is_of_ended held moment rr.owner) (list_any (is_named rr.owner) heard) all.0) (heard_only more all.1)

itself_heard : (heard : List Rr) → AllByRecursion (λ (rr : Rr). list_any (is_named rr.owner) heard ≡ true) heard
itself_heard [] = tt
itself_heard (rr ∷ heard) = (
  or_first (folded_eq rr.owner rr.owner) (list_any (is_named rr.owner) heard) ((folded_eq-tells rr.owner rr.owner).1 refl),
  each-weaker _ _ (λ one k. or_second (folded_eq rr.owner one.owner) (list_any (is_named one.owner) heard) k) heard (itself_heard heard),
)

pub touched_only : (moment : ℕ) (held : List Held) (names : List (List (List ℕ))) (heard : List Rr) → AreOfEnded held moment names →
    list_all (is_of_event moment heard held) (ordered name_cmp (names ++ owners_of heard)) ≡ true
touched_only moment held names heard all =
    all-ordered name_cmp name_cmp-total (is_of_event moment heard held) (names ++ owners_of heard)
    (list_all-append (is_of_event moment heard held) names (owners_of heard)
    ∙ and_from (list_all (is_of_event moment heard held) names) (list_all (is_of_event moment heard held) (owners_of heard)) (ended_only moment held heard names all) (heard_only moment held heard heard (itself_heard heard)))

not_both : (r : Ordering) → is_lt r ≡ true → is_eq r ≡ false
not_both Less h = refl
not_both Equal h = absurd (cc)
not_both Greater h = absurd (cc)

others_apart : (name : List (List ℕ)) (names : List (List (List ℕ))) → list_all (below name_cmp name_cmp-total name) names ≡ true → AllByRecursion (λ (other : List (List ℕ)). folded_eq name other ≡ false) names
others_apart name [] h = tt
others_apart name (other ∷ names) h =
    let parts = and_parts (is_lt (name_cmp name other)) (list_all (below name_cmp name_cmp-total name) names) h in
    (tied_alike name other ∙ not_both (name_cmp name other) parts.0, others_apart name names parts.1)

rising_apart : (names : List (List (List ℕ))) → IsRising name_cmp name_cmp-total names → IsDistinct folded_eq names
unfolding IsDistinct
rising_apart [] h = tt
rising_apart (name ∷ names) h = (others_apart name names h.0, rising_apart names h.1)

pub touched_once : (names : List (List (List ℕ))) → IsDistinct folded_eq (ordered name_cmp names)
touched_once names = rising_apart (ordered name_cmp names) (rising-ordered name_cmp name_cmp-total names)
