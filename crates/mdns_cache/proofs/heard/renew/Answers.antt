use Rattle.std.proofs.Common.{◌≡◌, ◌∙◌, ◌++◌, false, List, [], ◌∷◌, filter, sym, ap, subst, IsPermutation}
use Rattle.std.specs.List.{AllByRecursion}
use Rattle.std.specs.Map.{values_of}
use Rattle.std.proofs.lemmas.List.Sorted.{IsPermutation-refl}
use Rattle.dns_record.specs.declared.record.Rr.{Rr}
use Rattle.dns_record.specs.Records.{same}
use Rattle.mdns_history.specs.declared.held.Held.{Held}
use Rattle.mdns_history.specs.Lifetimes.{is_other}
use Rattle.by_name.proofs.Pushing.{values_push}
use Rattle.mdns_cache.proofs.Once.{none_same}
use Rattle.mdns_cache.proofs.heard.renew.Goals as goal

pub returns-in-Err-clause-held : goal.returns-in-Err-clause-held
returns-in-Err-clause-held c =
    let held : List Held = values_of c.args.records.now.entries in
    let values : values_of c.push.new.records.entries ≡ held ++ c.args.one ∷ [] = ap values_of c.push.ensures.entries ∙ values_push c.args.records.now.entries (c.in-Err.place, c.args.one) in
    let none = subst (λ (rr : Rr). AllByRecursion (λ (h : Held). same h.rr rr ≡ false) held) c.deref.ensures c.in-Err.ensures.none in
    subst (λ (l : List Held). IsPermutation (filter (is_other c.args.one.rr) held ++ c.args.one ∷ []) l) (sym values)
    (subst (λ (l : List Held). IsPermutation (l ++ c.args.one ∷ []) (held ++ c.args.one ∷ [])) (sym (none_same c.args.one.rr held none)) (IsPermutation-refl (held ++ c.args.one ∷ [])))
