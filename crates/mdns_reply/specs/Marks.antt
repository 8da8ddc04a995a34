-- Records as keys: the same ones are equal.
use Rattle.std.specs.Prelude.{◌≡◌, ℕ, ◌==◌, true, ◌||◌, List, [], ◌∷◌, ◌++◌, map, IsTrue, if◌then◌else◌}
use Rattle.std.proofs.Common.{◌∙◌, sym, refl, ap}
use Rattle.std.specs.Cmp.{IsEquivalence, IsPartialEquivalence, both_ways}
use Rattle.std.specs.Hash as fed
use Rattle.dns_record.specs.declared.record.Rr.{Rr}
use Rattle.dns_record.specs.Records.{Identity, identity_of, same}
use Rattle.dns_record.proofs.Same.{same_tells}
use Rattle.mdns_reply.specs.declared.mark.Side.{Side}
use Rattle.mdns_reply.specs.declared.mark.Side.TheVariants.{Kept, Sought}

-- the record of a key
abbrev pub record_of : Side → Rr
record_of (Kept rr) = rr
record_of (Sought rr) = rr.now

-- bytes, one at a time
abbrev pub each_byte : List ℕ → List (List ℕ)
each_byte bytes = map (λ byte. byte ∷ []) bytes

-- what is hashed of data, by their type: those that stand in pieces, of SRV and NSEC, byte by byte
abbrev pub data_writes : ℕ → List ℕ → List (List ℕ)
data_writes kind bytes = if (kind == 33) || (kind == 47) then each_byte bytes else bytes ∷ []

-- what is hashed of what makes a record the same as another
abbrev pub identity_writes : Identity → List (List ℕ)
identity_writes one = one.owner ∷ [] ++ (fed.u16 one.kind ++ data_writes one.kind one.bytes)

-- what is hashed of a record
unfoldable pub record_writes : Rr → List (List ℕ)
record_writes rr = identity_writes (identity_of rr)

-- Being the same is an equivalence of records.
pub same_is_equivalence : IsEquivalence same
same_is_equivalence = record { refl = itself; symm = turned; congr = through }
  where
    itself : (one : Rr) → same one one ≡ true
    itself one = (same_tells one one).1 refl

    back : (one other : Rr) → same one other ≡ true → same other one ≡ true
    back one other h = (same_tells other one).1 (sym ((same_tells one other).0 h))

    turned : (one other : Rr) → same one other ≡ same other one
    turned one other = both_ways (same one other) (same other one) (back one other) (back other one)

    through : (one other third : Rr) → same one other ≡ true → same one third ≡ same other third
    through one other third h =
        let e = (same_tells one other).0 h in
        both_ways (same one third) (same other third) (λ k. (same_tells other third).1 (sym e ∙ (same_tells one third).0 k)) (λ k. (same_tells one third).1 (e ∙ (same_tells other third).0 k))

-- So is equality of keys, as it is wanted of each equality.
pub same_is_partial : IsPartialEquivalence same
same_is_partial = record { symm = same_is_equivalence.symm; trans = λ one other third h k. same_is_equivalence.congr one other third h ∙ k }

-- Of records that are the same the same is hashed.
pub same_writes : (one other : Rr) → IsTrue (same one other) → record_writes one ≡ record_writes other
unfolding record_writes
same_writes one other h = ap identity_writes ((same_tells one other).0 h)
