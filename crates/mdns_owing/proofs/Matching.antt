-- Of the records of a question's name those of its type match it.
use Rattle.std.proofs.Common.{◌≡◌, ℕ, ◌==◌, Bool, true, false, ◌&&◌, ◌||◌, cond, List, [], ◌∷◌, filter, refl, ap, ◌∙◌}
use Rattle.dns_name.specs.Names.{folded_eq}
use Rattle.dns_name.proofs.Folding.{folded_eq-equivalence}
use Rattle.dns_record.specs.declared.record.Rr.{Rr}
use Rattle.dns_record.specs.declared.record.Key.{Key}
use Rattle.dns_record.specs.Records.{any_kind, kind_of, matches}
use Rattle.mdns_claims.specs.Owned.{of_name}

-- whether a question asks for a record's type
abbrev pub asks_for : ℕ → Rr → Bool
asks_for kind rr = (kind == any_kind) || (kind == kind_of rr.rdata)

pub of_name_asked : (key : Key) (rrs : List Rr) → filter (asks_for key.kind) (of_name key.name rrs) ≡ filter (matches key) rrs
unfolding matches
of_name_asked key [] = refl
of_name_asked key (rr ∷ rrs) = of (folded_eq rr.owner key.name) (folded_eq-equivalence.symm rr.owner key.name) (of_name_asked key rrs)
  where
    rest : List Rr
    rest = filter (matches key) rrs

    of : (b : Bool) → b ≡ folded_eq key.name rr.owner → filter (asks_for key.kind) (of_name key.name rrs) ≡ rest
        → filter (asks_for key.kind) (cond b (rr ∷ of_name key.name rrs) (of_name key.name rrs)) ≡ cond (folded_eq key.name rr.owner && asks_for key.kind rr) (rr ∷ rest) rest
    of true e ih = (λ i. cond (e i && asks_for key.kind rr) (rr ∷ ih i) (ih i))
    of false e ih = ih ∙ ap (λ c. cond (c && asks_for key.kind rr) (rr ∷ rest) rest) e
