-- Whether a probe that is due asks for a record, query by query.
use Rattle.std.proofs.Common.{◌≡◌, ℕ, Bool, true, false, cond, ◌&&◌, ◌||◌, List, [], ◌∷◌, ◌++◌, map, refl, ap, ◌∙◌, sym}
use Rattle.std.proofs.lemmas.List.{map-append}
use Rattle.std.proofs.lemmas.List.Folds.{list_any-append}
use Rattle.std.specs.Prelude.{filter, nat_le}
use Rattle.std.specs.List.{list_any, flat_map}
use Rattle.dns_record.specs.declared.record.Rr.{Rr}
use Rattle.dns_record.specs.Records.{same}
use Rattle.mdns_history.specs.Debts.{Owed}
use Rattle.mdns_debts.specs.Queries.{Query, is_to_all}
use Rattle.mdns_debts.specs.Releasing.{Wanted, wanted_of}
use Rattle.mdns_owing.specs.Owing.{is_probing_for}

module _ (rr : Rr) where
  abbrev pub is_probe_for : Wanted → Bool
  is_probe_for wanted = (wanted.0).probing && same wanted.1 rr

  abbrev is_wanted : Owed → Bool
  is_wanted owed = is_to_all owed && same owed.0 rr

  asked_of : (query : Query) (owed : List Owed) → list_any is_probe_for (map (λ (one : Owed). (query, one.0)) (filter is_to_all owed)) ≡ (query.probing && list_any is_wanted owed)
  asked_of query [] = none query.probing
    where
      none : (b : Bool) → false ≡ (b && false)
      none true = refl
      none false = refl
  asked_of query (one ∷ owed) = of query.probing (is_to_all one) (same one.0 rr) (asked_of query owed)
    where
      rest : List Wanted
      rest = map (λ (o : Owed). (query, o.0)) (filter is_to_all owed)

      of : (p t s : Bool) → list_any is_probe_for rest ≡ (query.probing && list_any is_wanted owed)
          → list_any is_probe_for (map (λ (o : Owed). (query, o.0)) (cond (is_to_all one) (one ∷ filter is_to_all owed) (filter is_to_all owed))) ≡ (query.probing && (is_wanted one || list_any is_wanted owed))
      of p t s e = by (is_to_all one) query.probing (same one.0 rr) (list_any is_wanted owed) e
        where
          by : (a b c d : Bool) → list_any is_probe_for rest ≡ (query.probing && list_any is_wanted owed) → list_any is_probe_for (map (λ (o : Owed). (query, o.0)) (cond a (one ∷ filter is_to_all owed) (filter is_to_all owed))) ≡ (query.probing && ((a && same one.0 rr) || list_any is_wanted owed))
          by true b c d h = ap (λ x. (query.probing && same one.0 rr) || x) h ∙ spread query.probing (same one.0 rr) (list_any is_wanted owed)
            where
              spread : (x y z : Bool) → ((x && y) || (x && z)) ≡ (x && (y || z))
              spread true y z = refl
              spread false y z = refl
          by false b c d h = h

  -- What a query that is due asks for to all, where it is a probe.
  pub probed_by : (moment : ℕ) (query : Query) → list_any is_probe_for (wanted_of moment query) ≡ (nat_le query.due moment && (query.probing && list_any is_wanted query.owed))
  probed_by moment query = of (nat_le query.due moment)
    where
      of : (b : Bool) → list_any is_probe_for (cond b (map (λ (one : Owed). (query, one.0)) (filter is_to_all query.owed)) []) ≡ (b && (query.probing && list_any is_wanted query.owed))
      of true = asked_of query query.owed
      of false = refl

any_flat_map : {X Y : Type 0} (p : Y → Bool) (f : X → List Y) (xs : List X) → list_any p (flat_map f xs) ≡ list_any (λ x. list_any p (f x)) xs
any_flat_map p f [] = refl
any_flat_map p f (x ∷ xs) = list_any-append p (f x) (flat_map f xs) ∙ ap (λ b. list_any p (f x) || b) (any_flat_map p f xs)

any_like : {X : Type 0} (p q : X → Bool) (xs : List X) → ((x : X) → p x ≡ q x) → list_any p xs ≡ list_any q xs
any_like p q [] same = refl
any_like p q (x ∷ xs) same = (λ i. same x i || any_like p q xs same i)

-- Whether a probe that is due asks for a record is told query by query.
pub all_probed : (moment : ℕ) (rr : Rr) (queries : List Query) → list_any (is_probing_for moment rr) queries ≡ list_any (is_probe_for rr) (flat_map (wanted_of moment) queries)
all_probed moment rr queries =
    any_like (is_probing_for moment rr) (λ query. list_any (is_probe_for rr) (wanted_of moment query)) queries (λ query. sym (probed_by rr moment query))
    ∙ sym (any_flat_map (is_probe_for rr) (wanted_of moment) queries)

filter_over : {X : Type 0} (p : X → Bool) (xs ys : List X) → filter p (xs ++ ys) ≡ filter p xs ++ filter p ys
filter_over p [] ys = refl
filter_over p (x ∷ xs) ys = of (p x) (filter_over p xs ys)
  where
    of : (b : Bool) → filter p (xs ++ ys) ≡ filter p xs ++ filter p ys → cond b (x ∷ filter p (xs ++ ys)) (filter p (xs ++ ys)) ≡ cond b (x ∷ filter p xs) (filter p xs) ++ filter p ys
    of true e = ap (λ l. x ∷ l) e
    of false e = e

-- What a tick releases is told query by query.
pub released_in_turn : (p : Rr → Bool) (moment : ℕ) (queries : List Query) → flat_map (λ query. filter p (map (λ (wanted : Wanted). wanted.1) (wanted_of moment query))) queries
    ≡ filter p (map (λ (wanted : Wanted). wanted.1) (flat_map (wanted_of moment) queries))
released_in_turn p moment [] = refl
released_in_turn p moment (query ∷ queries) =
    ap (λ l. filter p (map (λ (wanted : Wanted). wanted.1) (wanted_of moment query)) ++ l) (released_in_turn p moment queries)
    ∙ sym (filter_over p (map (λ (wanted : Wanted). wanted.1) (wanted_of moment query)) (map (λ (wanted : Wanted). wanted.1) (flat_map (wanted_of moment) queries)))
    ∙ ap (filter p) (sym (map-append (λ (wanted : Wanted). wanted.1) (wanted_of moment query) (flat_map (wanted_of moment) queries)))

-- a record goes after a quarter of a second where it doesn't after a second but a probe asks for it
pub told_by_probes : (second probed quarter : Bool) → second ≡ false → quarter ≡ true → probed ≡ (second || (probed && quarter))
told_by_probes true probed quarter h k = cc
told_by_probes false true true h k = refl
told_by_probes false false true h k = refl
told_by_probes false probed false h k = cc

records_wanted : (query : Query) (owed : List Owed) → map (λ (wanted : Wanted). wanted.1) (map (λ (one : Owed). (query, one.0)) owed) ≡ map (λ (one : Owed). one.0) owed
records_wanted query [] = refl
records_wanted query (one ∷ owed) = ap (λ l. one.0 ∷ l) (records_wanted query owed)

-- What a query that is due wants to all.
pub wanted_when_due : (moment : ℕ) (query : Query) → nat_le query.due moment ≡ true → map (λ (wanted : Wanted). wanted.1) (wanted_of moment query) ≡ map (λ (one : Owed). one.0) (filter is_to_all query.owed)
wanted_when_due moment query due =
    ap (λ (b : Bool). map (λ (wanted : Wanted). wanted.1) (cond b (map (λ (one : Owed). (query, one.0)) (filter is_to_all query.owed)) [])) due
    ∙ records_wanted query (filter is_to_all query.owed)
