-- Whether a record is refreshed, told record by record.
use Rattle.std.proofs.Common.{◌≡◌, ℕ, Bool, true, false, cond, ◌&&◌, ◌||◌, List, [], ◌∷◌, refl, ap, ◌∙◌}
use Rattle.std.specs.Prelude.{filter}
use Rattle.std.specs.List.{list_any, flat_map}
use Rattle.std.specs.Option.{option_to_list}
use Rattle.std.proofs.lemmas.List.Folds.{list_any-append}
use Rattle.mdns_history.specs.declared.held.Held.{Held}
use Rattle.mdns_history.specs.Lifetimes.{is_live_at}
use Rattle.mdns_history.specs.Asking.{refresh_points, calls_at}
use Rattle.mdns_question.specs.declared.tracked.Tracked.{Tracked}
use Rattle.mdns_question.specs.Tracking.{active_of, is_refreshed}
use Rattle.mdns_question.specs.Next.{is_wanted}

-- a test of what some elements give, over those that pass two tests
any_given : {X Y : Type 0} (test : Y → Bool) (f : X → List Y) (p q : X → Bool) (xs : List X) →
    list_any test (flat_map f (filter q (filter p xs))) ≡ list_any (λ x. p x && q x && list_any test (f x)) xs
any_given test f p q [] = refl
any_given {X = X} test f p q (x ∷ xs) = of (p x) (any_given test f p q xs)
  where
    rest : List X
    rest = filter q (filter p xs)

    inner : (b : Bool) → list_any test (flat_map f rest) ≡ list_any (λ y. p y && q y && list_any test (f y)) xs →
        list_any test (flat_map f (cond b (x ∷ rest) rest)) ≡ ((b && list_any test (f x)) || list_any (λ y. p y && q y && list_any test (f y)) xs)
    inner true ih = list_any-append test (f x) (flat_map f rest) ∙ ap (λ r. list_any test (f x) || r) ih
    inner false ih = ih

    of : (a : Bool) → list_any test (flat_map f rest) ≡ list_any (λ y. p y && q y && list_any test (f y)) xs →
        list_any test (flat_map f (filter q (cond a (x ∷ filter p xs) (filter p xs)))) ≡ ((a && q x && list_any test (f x)) || list_any (λ y. p y && q y && list_any test (f y)) xs)
    of true ih = inner (q x) ih
    of false ih = ih

pub refreshed_by : (held : List Held) (moment : ℕ) (one : Tracked) →
    is_refreshed held moment one
    ≡ list_any (λ (told : Held). is_live_at moment told && is_wanted one told && list_any (calls_at (active_of one) (option_to_list one.last) moment) (refresh_points told)) held
refreshed_by held moment one = any_given (calls_at (active_of one) (option_to_list one.last) moment) refresh_points (is_live_at moment) (is_wanted one) held
