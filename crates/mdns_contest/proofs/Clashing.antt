-- Clashes with the records of two sections.
use Rattle.std.proofs.Common.{◌≡◌, ℕ, false, ◌||◌, List, [], ◌++◌, refl}
use Rattle.std.proofs.lemmas.List.Folds.{list_any-append}
use Rattle.dns_record.specs.declared.record.Rr.{Rr}
use Rattle.dns_record.specs.Conflicts.{record_clashes, clashes}

pub both : (name : List (List ℕ)) (unique xs ys : List Rr) → clashes name unique (xs ++ ys) ≡ (clashes name unique xs || clashes name unique ys)
unfolding clashes
both name unique xs ys = list_any-append (record_clashes name unique) xs ys

pub none : (name : List (List ℕ)) (unique : List Rr) → clashes name unique [] ≡ false
unfolding clashes
none name unique = refl
