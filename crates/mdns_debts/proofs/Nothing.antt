-- Lists that are empty exactly where others are.
use Rattle.std.proofs.Common.{◌≡◌, Bool, true, false, cond, ◌&&◌, List, [], ◌∷◌, ◌++◌, map, refl, ap, ◌∙◌}
use Rattle.std.specs.Prelude.{filter, not}
use Rattle.std.specs.List.{list_all, flat_map}
use Rattle.std.specs.Ordering.{is_lt, is_eq}
use Rattle.lists.specs.Lists.{each_once, insert_by, sorted_by, ordered}
use Rattle.dns_record.specs.declared.record.Rr.{Rr}
use Rattle.dns_record.specs.Records.{record_cmp}
use Rattle.dns_message.specs.Packing.{parts_from}
use Rattle.mdns_history.specs.Due.{is_nothing}

pub map_nothing : {X Y : Type 0} (f : X → Y) (xs : List X) → is_nothing (map f xs) ≡ is_nothing xs
map_nothing f [] = refl
map_nothing f (x ∷ xs) = refl

pub append_nothing : {X : Type 0} (xs ys : List X) → is_nothing (xs ++ ys) ≡ (is_nothing xs && is_nothing ys)
append_nothing [] ys = refl
append_nothing (x ∷ xs) ys = refl

insert_some : (rr : Rr) (rrs : List Rr) → is_nothing (insert_by record_cmp rr rrs) ≡ false
insert_some rr [] = refl
insert_some rr (y ∷ ys) = of (is_lt (record_cmp y rr))
  where
    of : (b : Bool) → is_nothing (cond b (y ∷ insert_by record_cmp rr ys) (rr ∷ y ∷ ys)) ≡ false
    of true = refl
    of false = refl

pub ordered_nothing : (rrs : List Rr) → is_nothing (ordered record_cmp rrs) ≡ is_nothing rrs
ordered_nothing [] = refl
ordered_nothing (rr ∷ rrs) = insert_some rr (sorted_by record_cmp (filter (λ y. not (is_eq (record_cmp rr y))) (each_once (λ a b. is_eq (record_cmp a b)) rrs)))

-- a list has a part with each element that it has
pub parts_some : {X : Type 0} (fitting later : List X → Bool) (part xs : List X) → is_nothing (parts_from fitting later part xs) ≡ false
parts_some fitting later part [] = refl
parts_some fitting later part (x ∷ xs) = of (fitting (part ++ x ∷ [])) (parts_some fitting later (part ++ x ∷ []) xs)
  where
    of : (b : Bool) → is_nothing (parts_from fitting later (part ++ x ∷ []) xs) ≡ false → is_nothing (cond b (parts_from fitting later (part ++ x ∷ []) xs) (part ∷ parts_from later later (x ∷ []) xs)) ≡ false
    of true h = h
    of false h = refl
