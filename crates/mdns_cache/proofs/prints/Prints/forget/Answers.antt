use Rattle.std.proofs.Common.{◌≡◌, ◌∙◌, ⊎_elim, inl, inr, ℕ, ◌∷◌, sym, ap, subst, IsPermutation}
use Rattle.std.proofs.lemmas.List.Sorted.{IsPermutation-map}
use Rattle.dns_record.specs.Records.{identity_of}
use Rattle.mdns_history.specs.declared.held.Held.{Held}
use Rattle.mdns_cache.specs.Printed.{print_of, prints_of}
use Rattle.mdns_cache.proofs.Indexing.{indexed_forget, agree-prints}
use Rattle.mdns_cache.proofs.prints.Prints.forget.Goals as goal

pub returns-clause-indexed : goal.returns-clause-indexed
returns-clause-indexed c = λ held after one places is moved agree was.
    let start = c.args.self.now.start in
    let print : print_of start (identity_of one.rr) ≡ c.print-print.result = ap (λ r. print_of start (identity_of r)) is ∙ sym c.print-print.ensures in
    ⊎_elim inl
    (λ indexed. inr (indexed_forget c.args.self.now.indexes.entries c.swap_remove.new.self.entries c.print-print.result (prints_of start held) (prints_of start after) places
    (subst (λ (p : ℕ). IsPermutation (prints_of start held) (p ∷ prints_of start after)) print (IsPermutation-map (λ (x : Held). print_of start (identity_of x.rr)) held (one ∷ after) moved))
    (agree-prints start held after places agree) indexed c.swap_remove.ensures.updates.0)) was
