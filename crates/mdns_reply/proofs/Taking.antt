-- A record that is taken out of the kept ones.
use Rattle.std.proofs.Common.{◌≡◌, ◌∙◌, ◌<◌, inr, ℕ, Bool, true, false, cond, if◌then◌else◌, List, [], ◌∷◌, length, filter, get_or, Option, Some, None, is_some, slice_get, position, refl, sym, ap}
use Rattle.std.specs.Prelude.{IfSome}
use Rattle.std.specs.List.{IsDistinct}
use Rattle.std.proofs.lemmas.Bool.{false≢true}
use Rattle.std.proofs.lemmas.Map.Entries.{option_filter, lookup-filter-values}
use Rattle.std.specs.Map.{keys_of}
use Rattle.std.specs.Option.{option_map}
use Rattle.std.proofs.lemmas.Option.{slice_get-map, slice_get-get_or}
use Rattle.std.proofs.lemmas.Map.Made.{lookup_key_passes}
use Rattle.indexmap.specs.IndexMap.{IndexMap, Updates}
use Rattle.indexmap.proofs.MapLemmas.{Found-position}
use Rattle.dns_record.specs.declared.record.Rr.{Rr}
use Rattle.dns_record.specs.Records.{same}
use Rattle.mdns_reply.specs.Lasts.{Last, last_of, is_kept, if_kept, IsLeft}
use Rattle.mdns_reply.specs.Marks.{same_is_equivalence}

-- records that are the same have one moment
same_last : (one other : Rr) (es : List Last) → same one other ≡ true → last_of one es ≡ last_of other es
same_last one other [] h = refl
same_last one other (x ∷ es) h = λ i. cond (same_is_equivalence.congr one other x.0 h i) (Some x.1) (same_last one other es h i)

pub missing : (rr other : Rr) (es : List Last) → last_of rr es ≡ None → last_of other es ≡ (if same rr other then None else last_of other es)
missing rr other es none = by (same rr other) refl
  where
    by : (b : Bool) → same rr other ≡ b → last_of other es ≡ (if b then None else last_of other es)
    by true h = sym (same_last rr other es h) ∙ none
    by false h = refl

pub taken : (rr other : Rr) (es after : List Last) (i : ℕ) (p : Last) → position (same rr) (keys_of es) ≡ Some i → slice_get es i ≡ Some p
    → last_of other after ≡ cond (same p.0 other) None (last_of other es) → last_of other after ≡ (if same rr other then None else last_of other es)
taken rr other es after i p found at without =
    let own : same rr p.0 ≡ true = lookup_key_passes (same rr) es p.0 ((Found-position (same rr) es i found).key ∙ slice_get-map (λ (l : Last). l.0) es i ∙ ap (option_map (λ (l : Last). l.0)) at) in
    without ∙ ap (λ b. cond b None (last_of other es)) (sym (same_is_equivalence.congr rr p.0 other own))

-- the same, of a map without the entry at the index of the record
pub taken_out : {S : Type 0} (old new : IndexMap Rr ℕ S) (rr other : Rr) (i : ℕ) (r : Option Last) → Some i ≡ position (same rr) (keys_of old.entries) → i < length old.entries
    → r ≡ slice_get old.entries i → IfSome r (λ p. Updates same old new p.0 None) → last_of other new.entries ≡ (if same rr other then None else last_of other old.entries)
taken_out old new rr other i None found within at updates =
    let no : None ≡ Some (get_or old.entries i (rr, 0)) = at ∙ slice_get-get_or old.entries i (rr, 0) within in
    let never : ⊥ = cc in absurd never
taken_out old new rr other i (Some p) found within at updates = taken rr other old.entries new.entries i p (sym found) (sym at) (updates.0 other)

-- of a record that isn't found there is no moment
pub none_found : (o : Option ℕ) → false ≡ is_some o → o ≡ None
none_found None e = refl
none_found (Some n) e = absurd (false≢true e)

-- what is left of a moment when what is old is forgotten
pub left_of : (moment : ℕ) (es after : List Last) → IsDistinct same (keys_of es) → after ≡ filter (λ (one : Last). is_kept moment one.1) es → (rr : Rr) → IsLeft moment (last_of rr es) (last_of rr after)
left_of moment es after once is rr = inr (ap (last_of rr) is ∙ lookup-filter-values same_is_equivalence (is_kept moment) rr es once ∙ as_kept (last_of rr es))
  where
    as_kept : (o : Option ℕ) → option_filter (is_kept moment) o ≡ if_kept moment o
    as_kept None = refl
    as_kept (Some last) = refl
