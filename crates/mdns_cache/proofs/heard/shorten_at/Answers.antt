use Rattle.std.proofs.Common.{◌≡◌, ◌+◌, min, Bool, cond, List, get_or, sym, ap, ◌∙◌}
use Rattle.std.specs.Map.{values_of}
use Rattle.std.proofs.lemmas.Option.{get_or_from_slice_get}
use Rattle.indexmap.specs.Layout.{set_value_at}
use Rattle.mdns_history.specs.declared.held.Held.{Held}
use Rattle.mdns_history.specs.Lifetimes.{cuts}
use Rattle.by_name.proofs.Pushing.{set_same}
use Rattle.mdns_cache.specs.Lifetimes.{hearing_at}
use Rattle.mdns_cache.proofs.heard.shorten_at.Goals as goal

pub returns-else-is_cut_by-clause-entries : goal.returns-else-is_cut_by-clause-entries
returns-else-is_cut_by-clause-entries c = λ one there.
    let held : List Held = values_of c.args.records.now.entries in
    let same : c.index-values-index.result ≡ one =
    c.index-values-index.is ∙ ap (λ (l : List Held). get_or l c.args.index c.index-values-index.result) c.values.ensures ∙ get_or_from_slice_get held c.args.index one c.index-values-index.result there in
    let uncut : cuts one.rr one.heard (hearing_at c.args.now 0 c.args.rr.now) ≡ _ =
    ap (λ (x : Held). cuts x.rr x.heard (hearing_at c.args.now 0 c.args.rr.now)) (sym same) ∙ sym c.is_cut_by.ensures ∙ c.if-is_cut_by.false in
    sym (ap (λ (b : Bool). set_value_at c.args.records.now.entries c.args.index (record { rr = one.rr; heard = one.heard; word = one.word; end = cond b (min (c.args.now + 1000) one.end) one.end })) uncut
    ∙ set_same c.args.records.now.entries c.args.index one there)
