-- What answers want, name by name and type by type.
use Rattle.std.proofs.Common.{◌≡◌, ℕ, ◌==◌, ◌&&◌, Bool, true, false, cond, List, [], ◌∷◌, ◌++◌, map, refl, ap, ◌∙◌, sym, append_assoc, Option, Some, None}
use Rattle.std.specs.Prelude.{filter, IfSome}
use Rattle.std.specs.List.{flat_map}
use Rattle.std.proofs.lemmas.List.Elements.{filter-append}
use Rattle.dns_name.specs.Names.{folded_eq}
use Rattle.dns_record.specs.declared.record.Rdata.{Rdata}
use Rattle.dns_record.specs.declared.record.Rdata.TheVariants as rdata
use Rattle.dns_record.specs.declared.record.Rr.{Rr}
use Rattle.dns_record.specs.Records.{kind_of, matches}
use Rattle.mdns_asked.specs.Asked.{Contents, records_of, key_of, AreOf, AreRight}
use Rattle.mdns_history.specs.Sending.{own_of, addresses_of, srv_addresses}
use Rattle.mdns_claims.specs.Owned.{of_name}

-- the records of a type
abbrev pub of_kind : ℕ → List Rr → List Rr
of_kind kind rrs = filter (λ rr. kind_of rr.rdata == kind) rrs

own_of-is : (own : List Rr) (kind : ℕ) (name : List (List ℕ)) → own_of own kind name ≡ of_kind kind (of_name name own)
own_of-is [] kind name = refl
own_of-is (rr ∷ own) kind name = of (folded_eq rr.owner name) (kind_of rr.rdata == kind) refl (own_of-is own kind name)
  where
    of : (a b : Bool) → (kind_of rr.rdata == kind) ≡ b → own_of own kind name ≡ of_kind kind (of_name name own) →
        cond (a && b) (rr ∷ own_of own kind name) (own_of own kind name) ≡ of_kind kind (cond a (rr ∷ of_name name own) (of_name name own))
    of true true e rest = ap (λ l. rr ∷ l) rest ∙ ap (λ c. cond c (rr ∷ of_kind kind (of_name name own)) (of_kind kind (of_name name own))) (sym e)
    of true false e rest = rest ∙ ap (λ c. cond c (rr ∷ of_kind kind (of_name name own)) (of_kind kind (of_name name own))) (sym e)
    of false b e rest = rest

-- what the targets of SRV records have, and other records want nothing here
targets-is : (own rrs : List Rr) → flat_map (λ rr. srv_addresses own rr.rdata) (of_kind 33 rrs) ≡ flat_map (λ rr. srv_addresses own rr.rdata) rrs
targets-is own [] = refl
targets-is own (rr ∷ rrs) = of rr.rdata (targets-is own rrs)
  where
    of : (data_of : Rdata) → flat_map (λ rr. srv_addresses own rr.rdata) (of_kind 33 rrs) ≡ flat_map (λ rr. srv_addresses own rr.rdata) rrs →
        flat_map (λ rr. srv_addresses own rr.rdata) (cond (kind_of data_of == 33) (record rr { rdata = data_of } ∷ of_kind 33 rrs) (of_kind 33 rrs))
        ≡ srv_addresses own data_of ++ flat_map (λ rr. srv_addresses own rr.rdata) rrs
    of (rdata.A address) rest = rest
    of (rdata.Aaaa address) rest = rest
    of (rdata.Ptr name) rest = rest
    of (rdata.Cname name) rest = rest
    of (rdata.Srv priority weight port target) rest = ap (λ l. addresses_of own target ++ l) rest
    of (rdata.Txt bytes) rest = rest
    of (rdata.Nsec next bitmap) rest = rest
    of (rdata.Raw kind bytes) rest = raw (kind == 33)
      where
        raw : (b : Bool) → flat_map (λ rr. srv_addresses own rr.rdata) (cond b (record rr { rdata = rdata.Raw kind bytes } ∷ of_kind 33 rrs) (of_kind 33 rrs)) ≡ flat_map (λ rr. srv_addresses own rr.rdata) rrs
        raw true = rest
        raw false = rest

module _ (test : Rr → Bool) (own old : List Rr) (name : List (List ℕ)) where
  -- The SRV and TXT records of a name and the addresses of the targets, each put behind the ones before.
  pub service_put : ((old ++ filter test (of_kind 33 (of_name name own))) ++ filter test (of_kind 16 (of_name name own))) ++ filter test (flat_map (λ rr. srv_addresses own rr.rdata) (of_name name own))
      ≡ old ++ filter test (own_of own 33 name ++ own_of own 16 name ++ flat_map (λ rr. srv_addresses own rr.rdata) (own_of own 33 name))
  service_put =
      ap (λ l. l ++ filter test targets) (append_assoc old (filter test srv) (filter test txt) ∙ ap (λ l. old ++ l) (sym (filter-append test srv txt)))
      ∙ append_assoc old (filter test (srv ++ txt)) (filter test targets)
      ∙ ap (λ l. old ++ l) (sym (filter-append test (srv ++ txt) targets))
      ∙ (λ i. old ++ filter test (sym (own_of-is own 33 name) i ++ sym (own_of-is own 16 name) i ++ targets-of i))
    where
      srv : List Rr
      srv = of_kind 33 (of_name name own)

      txt : List Rr
      txt = of_kind 16 (of_name name own)

      targets : List Rr
      targets = flat_map (λ rr. srv_addresses own rr.rdata) (of_name name own)

      targets-of : targets ≡ flat_map (λ rr. srv_addresses own rr.rdata) (own_of own 33 name)
      targets-of = sym (targets-is own (of_name name own)) ∙ ap (flat_map (λ rr. srv_addresses own rr.rdata)) (sym (own_of-is own 33 name))

  -- The addresses of a name, those of each type put behind the ones before.
  pub addresses_put : (old ++ filter test (of_kind 1 (of_name name own))) ++ filter test (of_kind 28 (of_name name own)) ≡ old ++ filter test (addresses_of own name)
  addresses_put =
      append_assoc old (filter test (of_kind 1 (of_name name own))) (filter test (of_kind 28 (of_name name own)))
      ∙ ap (λ l. old ++ l) (sym (filter-append test (of_kind 1 (of_name name own)) (of_kind 28 (of_name name own))))
      ∙ (λ i. old ++ filter test (sym (own_of-is own 1 name) i ++ sym (own_of-is own 28 name) i))

-- answers with what each wants: the answers, and what they want
pub answers_of : {X Y : Type 0} (f : X → Y) (xs : List X) → map (λ (w : X × Y). w.0) (map (λ x. (x, f x)) xs) ≡ xs
answers_of f [] = refl
answers_of f (x ∷ xs) = ap (λ l. x ∷ l) (answers_of f xs)

pub wanted_of : {X Y : Type 0} (f : X → Y) (xs : List X) → map (λ (w : X × Y). w.1) (map (λ x. (x, f x)) xs) ≡ map f xs
wanted_of f [] = refl
wanted_of f (x ∷ xs) = ap (λ l. f x ∷ l) (wanted_of f xs)

-- Where no question is asked, what is found is right.
pub none_right : (own : List Rr) (asked : Contents) → AreOf [] [] asked → AreRight own asked
none_right own asked none question = of (records_of question asked) (none question)
  where
    of : (o : Option (List Rr)) → o ≡ None → IfSome o (λ found. found ≡ filter (matches (key_of question)) own)
    of None e = tt
    of (Some found) e = cc
