use Rattle.std.proofs.Common.{◌≡◌, ◌∙◌, ◌++◌, List, [], ◌∷◌, filter, length, IsPermutation, subst, sym, ap}
use Rattle.std.specs.Map.{values_of}
use Rattle.indexmap.specs.Layout.{set_value_at}
use Rattle.dns_record.proofs.Same.{same_tells}
use Rattle.mdns_history.specs.declared.held.Held.{Held}
use Rattle.mdns_history.specs.Lifetimes.{is_other}
use Rattle.by_name.specs.Filed.{AgreeBut}
use Rattle.by_name.proofs.Changes.{agree-set, values-set_value_at}
use Rattle.by_name.proofs.Removed.{length-put}
use Rattle.mdns_cache.specs.Ends.{IsPlayed}
use Rattle.mdns_cache.specs.Named.{Entry, AreFiled}
use Rattle.mdns_cache.proofs.Once.{one_same}
use Rattle.mdns_cache.proofs.Visiting.{filed_put}
use Rattle.mdns_cache.proofs.heard.put_at.Goals as goal

pub returns-clause-held : goal.returns-clause-held
returns-clause-held c =
    let held : List Held = values_of c.args.records.now.entries in
    subst (λ (l : List Held). IsPermutation (filter (is_other c.args.one.rr) held ++ c.args.one ∷ []) l) (sym (ap values_of c.put.ensures.entries ∙ values-set_value_at c.args.records.now.entries c.args.index c.args.one))
    (one_same c.args.one.rr held c.args.index c.requires.same.0 c.args.one c.requires.once c.requires.same.1 c.requires.same.2)

pub returns-clause-filed : goal.returns-clause-filed
returns-clause-filed c =
    let owners = ap (λ i. i.owner) ((same_tells c.requires.same.0.rr c.args.one.rr).0 c.requires.same.2) in
    subst AreFiled (sym c.put.ensures.entries) (filed_put c.args.records.now.entries c.args.index c.requires.same.0 c.args.one c.requires.same.1 (sym owners) c.requires.filed)

pub returns-clause-played : goal.returns-clause-played
returns-clause-played c =
    let entries : List Entry = c.args.records.now.entries in
    let after : List Held = values_of (set_value_at entries c.args.index c.args.one) in
    let same : c.values.result.now ≡ after = c.values.ensures ∙ ap values_of c.put.ensures.entries in
    subst (λ (h : List Held). IsPlayed h [] c.mend_changed.new.nodes) c.values.ensures
    (c.mend_changed.ensures (values_of entries) (subst (λ (h : List Held). AgreeBut (c.args.index ∷ []) (values_of entries) h) (sym same) (agree-set entries c.args.index c.args.one)) c.requires.played)

pub returns-clause-len : goal.returns-clause-len
returns-clause-len c = ap length c.put.ensures.entries ∙ length-put c.args.records.now.entries c.args.index c.args.one
