use Rattle.std.proofs.Common.{◌≡◌, ◌∙◌, ⊎_elim, inl, inr, ℕ, List, [], ◌∷◌, ◌++◌, Option, Some, None, false, cond, eqb, length, is_some, refl, sym, ap, subst}
use Rattle.dns_record.specs.Records.{identity_of}
use Rattle.by_name.proofs.Pushing.{on_ok}
use Rattle.std.proofs.lemmas.Bool.{false≢true}
use Rattle.mdns_cache.specs.Printed.{print_of, prints_of, noted, IsIndexed}
use Rattle.mdns_cache.proofs.Indexing.{indexed_push, prints-push, length-prints}
use Rattle.mdns_cache.proofs.prints.Prints.push.Goals as goal

no_some : (o : Option ℕ) → is_some o ≡ false → o ≡ None
no_some None e = refl
no_some (Some x) e = absurd (false≢true (sym e))

pub returns-else-contains_key-clause-indexed : goal.returns-else-contains_key-clause-indexed
returns-else-contains_key-clause-indexed c = λ held one is len room was.
    let start = c.args.self.now.start in
    let before : List (ℕ × ℕ) = c.args.self.now.indexes.entries in
    let after : List (ℕ × ℕ) = c.insert.new.self.entries in
    let print : ℕ = c.print-print.result in
    let print_is : print_of start (identity_of one.rr) ≡ print = ap (λ r. print_of start (identity_of r)) is ∙ sym c.print-print.ensures in
    let none : noted before print ≡ None = no_some (noted before print) (sym c.contains_key.ensures ∙ c.if-contains_key.false) in
    let put : (q : ℕ) → noted after q ≡ cond (eqb print q) (Some c.args.index) (noted before q) = (on_ok c.insert.result _ (c.insert.ensures.succeeds room) c.insert.ensures.updates).0 in
    let index : c.args.index ≡ length (prints_of start held) = sym len ∙ sym (length-prints start held) in
    ⊎_elim inl
    (λ indexed. inr (subst (IsIndexed [] after) (sym (prints-push start held one ∙ ap (λ (p : ℕ). prints_of start held ++ p ∷ []) print_is))
    (indexed_push before after print (prints_of start held) indexed none (λ q. put q ∙ ap (λ (n : ℕ). cond (eqb print q) (Some n) (noted before q)) index)))) was
