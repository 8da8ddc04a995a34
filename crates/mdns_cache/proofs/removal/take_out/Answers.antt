use Rattle.std.proofs.Common.{ℕ, List, [], ◌∷◌, length, subst, sym}
use Rattle.std.specs.Map.{values_of}
use Rattle.mdns_history.specs.declared.held.Held.{Held}
use Rattle.mdns_cache.specs.Ends.{IsPlayed}
use Rattle.mdns_cache.specs.Named.{Entry}
use Rattle.mdns_cache.proofs.EndsFirst.{values_without}
use Rattle.mdns_cache.proofs.Once.{AreOnce-permuted, AreOnce-tail}
use Rattle.mdns_cache.proofs.Played.{played_changed}
use Rattle.mdns_cache.proofs.Visiting.{is_named, told_named, named_told, filed_by}
use Rattle.mdns_cache.proofs.removal.take_out.Goals as goal

pub returns-clause-filed : goal.returns-clause-filed
returns-clause-filed c =
    let after : List Entry = c.take_out.new.self.entries in
    filed_by after c.take_out.ensures.filed (named_told after (c.take_out.ensures.owned is_named (told_named c.args.records.now.entries c.requires.filed.named)))

pub returns-clause-once : goal.returns-clause-once
returns-clause-once c = λ once.
    AreOnce-tail c.in_ok-taken.taken.one (values_of c.take_out.new.self.entries)
    (AreOnce-permuted (values_of c.args.records.now.entries) (c.in_ok-taken.taken.one ∷ values_of c.take_out.new.self.entries)
    (values_without c.args.place.now.owner c.args.place.now.number c.in_ok-taken.taken.one c.args.records.now.entries c.take_out.new.self.entries c.in_ok-taken.ensures.without) once)

pub returns-clause-played : goal.returns-clause-played
returns-clause-played c =
    let after : List Held = values_of c.take_out.new.self.entries in
    let filled : ℕ = c.in_ok-taken.taken.filled in
    let hole : ℕ = c.in_ok-taken.taken.hole in
    let last : ℕ = c.len.result in
    let start : IsPlayed after (filled ∷ hole ∷ last ∷ []) c.args.nodes.now =
    subst (λ (n : ℕ). IsPlayed after (filled ∷ hole ∷ n ∷ []) c.args.nodes.now) (sym c.len.ensures.len)
    (played_changed (values_of c.args.records.now.entries) after (filled ∷ hole ∷ length c.take_out.new.self.entries ∷ []) c.args.nodes.now c.in_ok-taken.ensures.agree c.requires.played) in
    let two : IsPlayed after (hole ∷ last ∷ []) c.mend.new.nodes =
    subst (λ (h : List Held). IsPlayed h (hole ∷ last ∷ []) c.mend.new.nodes) c.values.ensures
    (c.mend.ensures (hole ∷ last ∷ []) (subst (λ (h : List Held). IsPlayed h (filled ∷ hole ∷ last ∷ []) c.args.nodes.now) (sym c.values.ensures) start)) in
    let three : IsPlayed after (last ∷ []) c.mend-2.new.nodes =
    subst (λ (h : List Held). IsPlayed h (last ∷ []) c.mend-2.new.nodes) c.values-2.ensures
    (c.mend-2.ensures (last ∷ []) (subst (λ (h : List Held). IsPlayed h (hole ∷ last ∷ []) c.mend.new.nodes) (sym c.values-2.ensures) two)) in
    subst (λ (h : List Held). IsPlayed h [] c.mend-3.new.nodes) c.values-3.ensures
    (c.mend-3.ensures [] (subst (λ (h : List Held). IsPlayed h (last ∷ []) c.mend-2.new.nodes) (sym c.values-3.ensures) three))
