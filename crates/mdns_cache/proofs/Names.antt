-- The names of ended records, put together one after another.
use Rattle.std.proofs.Common.{◌≡◌, ℕ, ◌+◌, ◌<◌, ◌≤◌, ◌&&◌, ◌||◌, Bool, true, false, nat_le, List, [], ◌∷◌, ◌++◌, take, length, get_or, refl, sym, ap, subst, ◌∙◌, arith}
use Rattle.std.specs.List.{list_any}
use Rattle.std.proofs.lemmas.Bool.{le-leb}
use Rattle.std.proofs.lemmas.List.{take_more}
use Rattle.std.proofs.lemmas.List.Folds.{list_any-append, list_any_at}
use Rattle.dns_name.specs.Names.{folded_eq}
use Rattle.dns_name.proofs.Folding.{folded_eq-tells}
use Rattle.mdns_history.specs.declared.held.Held.{Held}
use Rattle.mdns_cache.specs.Ended.{is_among, is_of_ended, HasEnded, AreOfEnded}
use Rattle.mdns_cache.proofs.ListLemmas.{each-append, each-weaker}

name_itself : (name : List (List ℕ)) → folded_eq name name ≡ true
name_itself name = (folded_eq-tells name name).1 refl

-- a name stays among others when one more is put behind them
among_more : (names : List (List (List ℕ))) (more name : List (List ℕ)) → is_among names name ≡ true → is_among (names ++ more ∷ []) name ≡ true
among_more names more name h = list_any-append (folded_eq name) names (more ∷ []) ∙ ap (λ b. b || list_any (folded_eq name) (more ∷ [])) h

-- the one that was put there is among them
among_pushed : (names : List (List (List ℕ))) (name : List (List ℕ)) → is_among (names ++ name ∷ []) name ≡ true
among_pushed names name =
    list_any-append (folded_eq name) names (name ∷ []) ∙ ap (λ b. list_any (folded_eq name) names || (b || false)) (name_itself name) ∙ last (list_any (folded_eq name) names)
  where
    last : (b : Bool) → (b || true) ≡ true
    last true = refl
    last false = refl

-- one record more that hasn't ended
pub all_passed : (held : List Held) (now i : ℕ) (one : Held) (names : List (List (List ℕ))) → i < length held → one ≡ get_or held i one → now < one.end →
    HasEnded (take i held) now names → HasEnded (take (i + 1) held) now names
all_passed held now i one names within is live h =
    subst (λ (l : List Held). HasEnded l now names) (ap (λ x. take i held ++ x ∷ []) is ∙ sym (take_more held i one within))
    (each-append _ (take i held) (one ∷ []) h ((λ ended. absurd (omega arith)), tt))

-- one record more that has
pub all_pushed : (held : List Held) (now i : ℕ) (one : Held) (names : List (List (List ℕ))) → i < length held → one ≡ get_or held i one →
    HasEnded (take i held) now names → HasEnded (take (i + 1) held) now (names ++ one.rr.owner ∷ [])
all_pushed held now i one names within is h =
    subst (λ (l : List Held). HasEnded l now (names ++ one.rr.owner ∷ [])) (ap (λ x. take i held ++ x ∷ []) is ∙ sym (take_more held i one within))
    (each-append _ (take i held) (one ∷ []) (each-weaker _ _ (λ other k ended. among_more names one.rr.owner other.rr.owner (k ended)) (take i held) h)
    ((λ ended. among_pushed names one.rr.owner), tt))

-- its owner is that of a record that has ended
pub only_pushed : (held : List Held) (now i : ℕ) (one : Held) (names : List (List (List ℕ))) → i < length held → one ≡ get_or held i one → one.end ≤ now →
    AreOfEnded held now names → AreOfEnded held now (names ++ one.rr.owner ∷ [])
only_pushed held now i one names within is ended h = each-append _ names (one.rr.owner ∷ []) h (found, tt)
  where
    found : is_of_ended held now one.rr.owner ≡ true
    found =
        list_any_at (λ (other : Held). nat_le other.end now && folded_eq one.rr.owner other.rr.owner) held i one within
        (subst (λ (other : Held). (nat_le other.end now && folded_eq one.rr.owner other.rr.owner) ≡ true) is
        (ap (λ b. b && folded_eq one.rr.owner one.rr.owner) (le-leb one.end now ended) ∙ name_itself one.rr.owner))
