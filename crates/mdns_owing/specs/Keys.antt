-- What is owed as keys: the same records that go one way are equal. What is hashed of it is what is hashed of its record.
use Rattle.std.specs.Prelude.{◌≡◌, ℕ, ◌==◌, true, ◌&&◌, List, IsTrue}
use Rattle.std.proofs.Common.{◌∙◌, refl, subst, eqb-true, arith}
use Rattle.std.proofs.lemmas.Bool.{and_parts, and_from}
use Rattle.std.specs.Cmp.{IsEquivalence, IsPartialEquivalence, both_ways}
use Rattle.mdns_base.specs.declared.host.Dest.{Dest}
use Rattle.mdns_base.specs.declared.host.Dest.TheVariants.{All, One}
use Rattle.mdns_base.specs.Hosts.{dest_eq}
use Rattle.dns_record.specs.Records.{same}
use Rattle.mdns_history.specs.Debts.{Owed, owed_eq}
use Rattle.mdns_reply.specs.Marks.{record_writes, same_is_equivalence, same_writes as same_record_writes}

-- what is hashed of what is owed
abbrev pub owed_writes : Owed → List (List ℕ)
owed_writes owed = record_writes owed.0

one_itself : (n : ℕ) → (n == n) ≡ true
one_itself n = grind arith

way_itself : (way : Dest) → dest_eq way way ≡ true
way_itself All = refl
way_itself (One host) = and_from (host.ip == host.ip) (host.port == host.port) (one_itself host.ip) (one_itself host.port)

ways_are : (left right : Dest) → dest_eq left right ≡ true → left ≡ right
ways_are All All h = refl
ways_are All (One other) h = cc
ways_are (One one) All h = cc
ways_are (One one) (One other) h =
    let parts = and_parts (one.ip == other.ip) (one.port == other.port) h in
    let ip : one.ip ≡ other.ip = eqb-true one.ip other.ip parts.0 in
    let port : one.port ≡ other.port = eqb-true one.port other.port parts.1 in
    (λ i. One (record { ip = ip i; port = port i }))

-- Being owed one way is an equivalence.
pub owed_is_equivalence : IsEquivalence owed_eq
owed_is_equivalence = record { refl = itself; symm = turned; congr = through }
  where
    itself : (one : Owed) → owed_eq one one ≡ true
    itself one = and_from (same one.0 one.0) (dest_eq one.1 one.1) (same_is_equivalence.refl one.0) (way_itself one.1)

    back : (one other : Owed) → owed_eq one other ≡ true → owed_eq other one ≡ true
    back one other h =
        let parts = and_parts (same one.0 other.0) (dest_eq one.1 other.1) h in
        and_from (same other.0 one.0) (dest_eq other.1 one.1) (same_is_equivalence.symm other.0 one.0 ∙ parts.0)
        (subst (λ (way : Dest). dest_eq way one.1 ≡ true) (ways_are one.1 other.1 parts.1) (way_itself one.1))

    turned : (one other : Owed) → owed_eq one other ≡ owed_eq other one
    turned one other = both_ways (owed_eq one other) (owed_eq other one) (back one other) (back other one)

    through : (one other third : Owed) → owed_eq one other ≡ true → owed_eq one third ≡ owed_eq other third
    through one other third h =
        let parts = and_parts (same one.0 other.0) (dest_eq one.1 other.1) h in
        (λ i. same_is_equivalence.congr one.0 other.0 third.0 parts.0 i && dest_eq (ways_are one.1 other.1 parts.1 i) third.1)

-- So it is as it is wanted of each equality.
pub owed_is_partial : IsPartialEquivalence owed_eq
owed_is_partial = record { symm = owed_is_equivalence.symm; trans = λ one other third h k. owed_is_equivalence.congr one other third h ∙ k }

-- Of what is equal the same is hashed.
pub same_writes : (one other : Owed) → IsTrue (owed_eq one other) → owed_writes one ≡ owed_writes other
same_writes one other h = same_record_writes one.0 other.0 (and_parts (same one.0 other.0) (dest_eq one.1 other.1) h).0
