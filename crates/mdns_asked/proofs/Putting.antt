-- What one more record makes of the records of each question.
use Rattle.std.proofs.Common.{◌≡◌, ◌≢◌, ℕ, ◌==◌, Bool, true, false, ◌&&◌, ◌||◌, cond, List, [], ◌∷◌, ◌++◌, filter, Option, Some, None, refl, ap, sym, ◌∙◌, append-nil, append_assoc, eqb-true, true≢false}
use Rattle.std.specs.Option.{option_map}
use Rattle.std.proofs.lemmas.Cmp.{nat_eq_equiv}
use Rattle.std.proofs.lemmas.List.Elements.{filter-append}
use Rattle.dns_name.specs.Names.{folded_eq}
use Rattle.dns_name.proofs.Folding.{folded_eq-equivalence}
use Rattle.dns_record.specs.declared.record.Question.{Question}
use Rattle.dns_record.specs.declared.record.Rr.{Rr}
use Rattle.dns_record.specs.Records.{any_kind, kind_of, matches}
use Rattle.by_name.specs.At.{at, at_eq, owner_of}
use Rattle.mdns_asked.specs.Asked.{key_of, place_of, with_one}

-- records behind those before, if there are such
abbrev pub behind : List Rr → Option (List Rr) → Option (List Rr)
behind more before = option_map (λ rrs. rrs ++ more) before

pub nothing_behind : (before : Option (List Rr)) → before ≡ behind [] before
nothing_behind None = refl
nothing_behind (Some rrs) = ap Some (sym (append-nil rrs))

more_behind : (one more : List Rr) (before : Option (List Rr)) → behind more (behind one before) ≡ behind (one ++ more) before
more_behind one more None = refl
more_behind one more (Some rrs) = ap Some (append_assoc rrs one more)

-- Once some were put and then more, all were.
pub then_more : (test : Rr → Bool) (some more : List Rr) (before now after : Option (List Rr)) → now ≡ behind (filter test some) before → after ≡ behind (filter test more) now
    → after ≡ behind (filter test (some ++ more)) before
then_more test some more before now after put then =
    then ∙ ap (behind (filter test more)) put ∙ more_behind (filter test some) (filter test more) before ∙ ap (λ (rrs : List Rr). behind rrs before) (sym (filter-append test some more))

one_put : (b : Bool) (rr : Rr) (before : Option (List Rr)) → with_one b rr before ≡ behind (cond b (rr ∷ []) []) before
one_put true rr before = refl
one_put false rr before = nothing_behind before

-- A record that is put where its type is asked for, and where any is, is put once where these are apart.
two_put : (n any own : Bool) → (any && own) ≡ false → (rr : Rr) (before : Option (List Rr)) → with_one (n && own) rr (with_one (n && any) rr before) ≡ behind (cond (n && (any || own)) (rr ∷ []) []) before
two_put false any own h rr before = nothing_behind before
two_put true true true h rr before = absurd (true≢false h)
two_put true true false h rr before = refl
two_put true false true h rr before = refl
two_put true false false h rr before = nothing_behind before

-- whether a question has a record's name and this type
asks : (question : Question) (rr : Rr) (kind : ℕ) → at_eq (at (owner_of rr.owner) kind) (place_of question) ≡ (folded_eq question.name rr.owner && (question.kind == kind))
unfolding folded_eq
asks question rr kind = (λ i. folded_eq-equivalence.symm rr.owner question.name i && nat_eq_equiv.symm kind question.kind i)

not_both : (asked kind : ℕ) → kind ≢ any_kind → ((asked == any_kind) && (asked == kind)) ≡ false
not_both asked kind apart = of (asked == any_kind) refl (asked == kind) refl
  where
    of : (b : Bool) → (asked == any_kind) ≡ b → (c : Bool) → (asked == kind) ≡ c → (b && c) ≡ false
    of true e true f = absurd (apart (sym (eqb-true asked kind f) ∙ eqb-true asked any_kind e))
    of true e false f = refl
    of false e c f = refl

module _ (question : Question) (rr : Rr) (before : Option (List Rr)) where
  -- what a record is put behind, where it matches
  abbrev pub with_matching : Option (List Rr)
  with_matching = behind (filter (matches (key_of question)) (rr ∷ [])) before

  -- A record goes to the question of its type and to the one of any type.
  pub put_both : kind_of rr.rdata ≢ any_kind
      → with_one (at_eq (at (owner_of rr.owner) (kind_of rr.rdata)) (place_of question)) rr (with_one (at_eq (at (owner_of rr.owner) any_kind) (place_of question)) rr before) ≡ with_matching
  unfolding matches
  put_both apart =
      (λ i. with_one (asks question rr (kind_of rr.rdata) i) rr (with_one (asks question rr any_kind i) rr before))
      ∙ two_put (folded_eq question.name rr.owner) (question.kind == any_kind) (question.kind == kind_of rr.rdata) (not_both question.kind (kind_of rr.rdata) apart) rr before

  twice : (b : Bool) → b ≡ (b || b)
  twice true = refl
  twice false = refl

  -- One of the type 255 itself goes to that question alone.
  pub put_once : kind_of rr.rdata ≡ any_kind → with_one (at_eq (at (owner_of rr.owner) any_kind) (place_of question)) rr before ≡ with_matching
  unfolding matches
  put_once is =
      ap (λ b. with_one b rr before) (asks question rr any_kind)
      ∙ one_put (folded_eq question.name rr.owner && (question.kind == any_kind)) rr before
      ∙ ap (λ b. behind (cond (folded_eq question.name rr.owner && b) (rr ∷ []) []) before)
      (twice (question.kind == any_kind) ∙ ap (λ (k : ℕ). (question.kind == any_kind) || (question.kind == k)) (sym is))
