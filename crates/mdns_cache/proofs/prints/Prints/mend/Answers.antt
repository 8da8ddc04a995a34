use Rattle.std.proofs.Common.{◌≡◌, ◌∙◌, ⊎_elim, inl, inr, ℕ, List, ◌∷◌, Some, slice_get, sym, ap, subst}
use Rattle.std.proofs.lemmas.Option.{slice_get-get_or, slice_get_past}
use Rattle.dns_record.specs.declared.record.Rr.{Rr}
use Rattle.dns_record.specs.Records.{identity_of}
use Rattle.mdns_history.specs.declared.held.Held.{Held}
use Rattle.mdns_cache.specs.Printed.{print_of, prints_of, IsIndexed}
use Rattle.mdns_cache.proofs.Indexing.{indexed_mend, indexed_past, slice_get-prints, slice_get-no_print, there_at}
use Rattle.mdns_cache.proofs.prints.Prints.mend.Goals as goal

pub returns-in-Some-clause-indexed : goal.returns-in-Some-clause-indexed
returns-in-Some-clause-indexed c = λ dirty was.
    let start = c.args.self.now.start in
    let before : List (ℕ × ℕ) = c.args.self.now.indexes.entries in
    let held : List Held = c.args.held.now in
    let here : slice_get (prints_of start held) c.args.index ≡ Some c.print-print.result =
    slice_get-prints start held c.args.index c.in-Some.one.now (slice_get-get_or held c.args.index c.in-Some.one.now c.in-Some.ensures.lookup.3.0 ∙ ap Some (sym c.in-Some.ensures.lookup.1)) ∙ ap Some (sym (c.print-print.ensures ∙ ap (λ (rr : Rr). print_of start (identity_of rr)) c.deref.ensures)) in
    ⊎_elim (λ mixed. inl (c.note.ensures.mixed ∙ mixed))
    (λ indexed. inr (subst (λ s. IsIndexed dirty c.note.new.self.indexes.entries (prints_of s held)) (sym c.note.ensures.start)
    (indexed_mend before c.note.new.self.indexes.entries c.print-print.result (prints_of start held) c.args.index dirty here indexed
    (λ q. c.note.ensures.noted q (there_at (prints_of start held) (c.args.index ∷ dirty) before c.args.index c.print-print.result indexed here))))) was

pub returns-in_default-clause-indexed : goal.returns-in_default-clause-indexed
returns-in_default-clause-indexed c = λ dirty was.
    let start = c.args.self.now.start in
    ⊎_elim inl
    (λ indexed. inr (indexed_past (prints_of start c.args.held.now) c.args.index dirty c.args.self.now.indexes.entries
    (slice_get-no_print start c.args.held.now c.args.index (slice_get_past c.args.held.now c.args.index c.in_default.ensures.lookup.3)) indexed)) was
