use Rattle.std.proofs.Common.{◌≡◌, ◌∙◌, ◌<◌, ◌+◌, ℕ, min, List, [], ◌∷◌, Some, length, get_or, slice_get, subst, sym, ap, arith}
use Rattle.std.specs.Map.{values_of}
use Rattle.std.proofs.lemmas.Map.Entries.{length-values_of}
use Rattle.std.proofs.lemmas.Option.{get_or_from_slice_get, slice_get-get_or}
use Rattle.indexmap.specs.Layout.{set_value_at}
use Rattle.mdns_history.specs.declared.held.Held.{Held}
use Rattle.by_name.specs.Filed.{AgreeBut}
use Rattle.by_name.proofs.Changes.{agree-set}
use Rattle.mdns_cache.specs.Ends.{IsPlayed}
use Rattle.mdns_cache.specs.Named.{Entry}
use Rattle.mdns_cache.proofs.heard.cut_at.Goals as goal

pub returns-clause-entries : goal.returns-clause-entries
returns-clause-entries c = λ one there.
    let es : List Entry = c.args.records.now.entries in
    let same : get_or c.values.result.now c.args.index c.index-values-index.result ≡ one =
    ap (λ (l : List Held). get_or l c.args.index c.index-values-index.result) c.values.ensures ∙ get_or_from_slice_get (values_of es) c.args.index one c.index-values-index.result there in
    c.set_end.ensures.entries one there
    ∙ ap (λ (e : ℕ). set_value_at es c.args.index (record { rr = one.rr; heard = one.heard; word = one.word; end = e })) (c.min.ensures ∙ ap (λ (n : ℕ). min (n + 1000) (get_or c.values.result.now c.args.index c.index-values-index.result).end) c.ms.ensures.value ∙ ap (λ (h : Held). min (c.args.now + 1000) h.end) same)

pub returns-clause-played : goal.returns-clause-played
returns-clause-played c =
    let es : List Entry = c.args.records.now.entries in
    let index : ℕ = c.args.index in
    let old : Held = get_or (values_of es) index c.index-values-index.result in
    let len : length (values_of es) ≡ length es = length-values_of es in
    let within : index < length es = c.requires.index in
    let there : slice_get (values_of es) index ≡ Some old = slice_get-get_or (values_of es) index c.index-values-index.result (omega (arith, len, within)) in
    let new : Held = record { rr = old.rr; heard = old.heard; word = old.word; end = c.min.result } in
    let is : c.set_end.new.self.entries ≡ set_value_at es index new = c.set_end.ensures.entries old there in
    let same : c.values-2.result.now ≡ values_of (set_value_at es index new) = c.values-2.ensures ∙ ap values_of is in
    subst (λ (h : List Held). IsPlayed h [] c.mend_changed.new.nodes) c.values-2.ensures
    (c.mend_changed.ensures (values_of es) (subst (λ (h : List Held). AgreeBut (index ∷ []) (values_of es) h) (sym same) (agree-set es index new)) c.requires.played)
