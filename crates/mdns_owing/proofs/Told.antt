-- Which queries are owed nothing any more is told place by place, and those are dropped.
use Rattle.std.proofs.Common.{◌≡◌, ℕ, zero, suc, ◌+◌, ◌<◌, ◌≤◌, true, false, cond, List, [], ◌∷◌, length, set, get_or, refl, ap, sym, subst, ◌∙◌, arith, ⊎_elim}
use Rattle.std.specs.Prelude.{filter}
use Rattle.std.specs.List.{All, remove}
use Rattle.std.proofs.lemmas.Bool.{cases_eq}
use Rattle.std.proofs.lemmas.List.{length-set, get_or-set_same, get_or-set_other}
use Rattle.std.proofs.lemmas.List.Elements.{All-set}
use Rattle.mdns_debts.specs.Queries.{Query}
use Rattle.mdns_debts.specs.Following.{has_owed}
use Rattle.mdns_owing.specs.Satisfied.{IsOwed, AreTold}
use Rattle.mdns_owing.specs.Owing.{moments_of}
use Rattle.mdns_owing.specs.declared.satisfied.Satisfied.{Satisfied}
use Rattle.mdns_owing.specs.declared.satisfied.Satisfied.TheVariants.{Nobody, One, Many}
use Rattle.mdns_owing.proofs.Due.{each_stays}

-- what is told up to a place is told up to any further one
pub told_further : (from place : ℕ) (satisfied : Satisfied) (queries : List Query) → from ≤ place → AreTold from satisfied queries → AreTold place satisfied queries
told_further from place Nobody queries h told = told
told_further from place (One at) queries h told = record { before = omega (arith, told.before); within = told.within; gone = told.gone; others = told.others }
told_further from place Many queries h told = tt

-- what is at each place but one, where one that is owed something is put
set_owed : (queries : List Query) (place : ℕ) (query : Query) (k : ℕ) (d : Query) → has_owed query ≡ true → IsOwed (get_or queries k d) → k < length queries → IsOwed (get_or (set queries place query) k d)
set_owed queries place query k d owed before within = ⊎_elim
    (λ e. subst (λ (j : ℕ). IsOwed (get_or (set queries j query) k d)) e (ap has_owed (get_or-set_same queries k query d within) ∙ owed))
    (λ other. ap has_owed (get_or-set_other queries place k query d other) ∙ before) (cases_eq k place)

-- the next query is owed something still
pub told_owed : (place : ℕ) (satisfied : Satisfied) (queries : List Query) (query : Query) → place < length queries → has_owed query ≡ true → AreTold place satisfied queries →
    AreTold (place + 1) satisfied (set queries place query)
told_owed place Nobody queries query within owed told = All-set IsOwed queries place query owed told
told_owed place (One at) queries query within owed told = record {
  before = omega (arith, told.before);
  within = omega (arith, told.within, length-set queries place query);
  gone = λ d. ap has_owed (get_or-set_other queries place at query d (λ e. omega (arith, e, told.before))) ∙ told.gone d;
  others = λ k d below other. set_owed queries place query k d owed (told.others k d (omega (arith, below, length-set queries place query)) other) (omega (arith, below, length-set queries place query));
}
told_owed place Many queries query within owed told = tt

-- the next query is the first that is owed nothing any more
pub told_first : (place : ℕ) (queries : List Query) (query : Query) → place < length queries → has_owed query ≡ false → All IsOwed queries → AreTold (place + 1) (One place) (set queries place query)
told_first place queries query within gone owed = record {
  before = omega arith;
  within = omega (arith, within, length-set queries place query);
  gone = λ d. ap has_owed (get_or-set_same queries place query d within) ∙ gone;
  others = λ k d below other. ap has_owed (get_or-set_other queries place k query d other) ∙ owed k d (omega (arith, below, length-set queries place query));
}

pub moments_removed : (queries : List Query) (place : ℕ) → remove (moments_of queries) place ≡ moments_of (remove queries place)
moments_removed [] zero = refl
moments_removed [] (suc place) = refl
moments_removed (query ∷ queries) zero = refl
moments_removed (query ∷ queries) (suc place) = ap (λ l. query.due ∷ l) (moments_removed queries place)

-- the only one that is owed nothing is taken out
pub alone_removed : (queries : List Query) (place : ℕ) → place < length queries → ((d : Query) → has_owed (get_or queries place d) ≡ false) →
    ((k : ℕ) (d : Query) → k < length queries → (k ≡ place → ⊥) → IsOwed (get_or queries k d)) → remove queries place ≡ filter has_owed queries
alone_removed [] place within gone others = absurd (omega (arith, within))
alone_removed (query ∷ queries) zero within gone others =
    sym (ap (λ b. cond b (query ∷ filter has_owed queries) (filter has_owed queries)) (gone query)
    ∙ each_stays has_owed queries (λ k d below. others (suc k) d (omega (arith, below)) (λ e. absurd (omega (arith, e)))))
alone_removed (query ∷ queries) (suc place) within gone others =
    ap (λ l. query ∷ l) (alone_removed queries place (omega (arith, within)) gone (λ k d below other. others (suc k) d (omega (arith, below)) (λ e. other (omega (arith, e)))))
    ∙ sym (ap (λ b. cond b (query ∷ filter has_owed queries) (filter has_owed queries)) (others 0 query (omega arith) (λ e. absurd (omega (arith, e)))))
