use Rattle.std.proofs.Common.{◌≡◌, ℕ, List, [], ◌∷◌, length, subst, sym}
use Rattle.std.specs.Map.{values_of}
use Rattle.mdns_history.specs.declared.held.Held.{Held}
use Rattle.by_name.specs.Filed.{AgreeBut}
use Rattle.by_name.proofs.Pushing.{agree-push}
use Rattle.mdns_cache.specs.Ends.{IsPlayed}
use Rattle.mdns_cache.specs.Named.{Entry}
use Rattle.mdns_cache.proofs.Played.{played_changed}
use Rattle.mdns_cache.proofs.heard.push.Goals as goal

pub returns-clause-played : goal.returns-clause-played
returns-clause-played c =
    let before : List Entry = c.args.records.now.entries in
    let after : List Entry = c.push.new.self.entries in
    let agree : AgreeBut (c.len-index.result ∷ []) (values_of before) (values_of after) =
    subst (λ (n : ℕ). AgreeBut (n ∷ []) (values_of before) (values_of after)) (sym c.len-index.ensures.len)
    (subst (λ (l : List Entry). AgreeBut (length before ∷ []) (values_of before) (values_of l)) (sym c.push.ensures.entries) (agree-push before (c.args.place, c.args.one))) in
    let same : c.values.result.now ≡ values_of after = c.values.ensures in
    subst (λ (h : List Held). IsPlayed h [] c.mend.new.nodes) same
    (c.mend.ensures [] (subst (λ (h : List Held). IsPlayed h (c.len-index.result ∷ []) c.args.nodes.now) (sym same)
    (played_changed (values_of before) (values_of after) (c.len-index.result ∷ []) c.args.nodes.now agree c.requires.played)))
