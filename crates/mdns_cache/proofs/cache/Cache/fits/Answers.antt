use Rattle.std.proofs.Common.{◌≡◌, ◌↔◌, ◌≤◌, ℕ, subst, ◌+◌, ◌∙◌, sym, ap, count_by, ◌&&◌, Bool, IsTrue}
use Rattle.std.specs.Map.{values_of}
use Rattle.mdns_history.specs.declared.held.Held.{Held}
use Rattle.mdns_history.specs.Lifetimes.{is_live_at}
use Rattle.mdns_cache.specs.Contents.{Contents}
use Rattle.mdns_cache.specs.Lifetimes.{count_renewed}
use Rattle.mdns_cache.proofs.Counting.{is_left, length-live_of, length-after}
use Rattle.by_name.proofs.Layers.{in_layers-permutes}
use Rattle.mdns_cache.proofs.AfterHearings.{count_permuted, length-after_ended}
use Rattle.mdns_cache.proofs.cache.Cache.fits.Goals as goal

pub returns-clause-live : goal.returns-clause-live
returns-clause-live c = λ past word stands.
    let Tells : ℕ → ℕ → Type 0 = λ left limit. IsTrue c.is_room.result ↔ (left + count_renewed c.args.heard.now ≤ limit) in
    let test : Held → Bool = λ one. is_live_at c.args.now one && is_left c.args.heard.now one in
    let counted : count_by test (values_of c.self.inside.records.entries) ≡ count_by test c.args.self.now.held =
    sym (count_permuted test _ _ (in_layers-permutes c.self.inside.records.entries)) ∙ ap (λ (v : Contents). count_by test v.held) c.self.view_is in
    let limit : c.self.inside.limit ≡ c.args.self.now.limit = ap (λ (v : Contents). v.limit) c.self.view_is in
    subst (λ (n : ℕ). IsTrue c.is_room.result ↔ (n ≤ c.args.self.now.limit)) (sym (length-live_of c.args.now word c.args.heard.now c.args.self.now.held past stands))
    (subst (λ (n : ℕ). Tells n c.args.self.now.limit) counted (subst (λ (n : ℕ). Tells (count_by test (values_of c.self.inside.records.entries)) n) limit c.is_room.ensures))

pub returns-clause-held : goal.returns-clause-held
returns-clause-held c = λ word live.
    let Tells : ℕ → ℕ → Type 0 = λ left limit. IsTrue c.is_room.result ↔ (left + count_renewed c.args.heard.now ≤ limit) in
    let test : Held → Bool = λ one. is_live_at c.args.now one && is_left c.args.heard.now one in
    let counted : count_by test (values_of c.self.inside.records.entries) ≡ count_by test c.args.self.now.held =
    sym (count_permuted test _ _ (in_layers-permutes c.self.inside.records.entries)) ∙ ap (λ (v : Contents). count_by test v.held) c.self.view_is in
    let limit : c.self.inside.limit ≡ c.args.self.now.limit = ap (λ (v : Contents). v.limit) c.self.view_is in
    subst (λ (n : ℕ). IsTrue c.is_room.result ↔ (n ≤ c.args.self.now.limit)) (sym (length-after c.args.now word c.args.heard.now c.args.self.now.held live))
    (subst (λ (n : ℕ). Tells n c.args.self.now.limit) counted (subst (λ (n : ℕ). Tells (count_by test (values_of c.self.inside.records.entries)) n) limit c.is_room.ensures))

pub returns-clause-ended : goal.returns-clause-ended
returns-clause-ended c = λ word.
    let Tells : ℕ → ℕ → Type 0 = λ left limit. IsTrue c.is_room.result ↔ (left + count_renewed c.args.heard.now ≤ limit) in
    let test : Held → Bool = λ one. is_live_at c.args.now one && is_left c.args.heard.now one in
    let counted : count_by test (values_of c.self.inside.records.entries) ≡ count_by test c.args.self.now.held =
    sym (count_permuted test _ _ (in_layers-permutes c.self.inside.records.entries)) ∙ ap (λ (v : Contents). count_by test v.held) c.self.view_is in
    let limit : c.self.inside.limit ≡ c.args.self.now.limit = ap (λ (v : Contents). v.limit) c.self.view_is in
    subst (λ (n : ℕ). IsTrue c.is_room.result ↔ (n ≤ c.args.self.now.limit)) (sym (length-after_ended c.args.now word c.args.heard.now c.args.self.now.held))
    (subst (λ (n : ℕ). Tells n c.args.self.now.limit) counted (subst (λ (n : ℕ). Tells (count_by test (values_of c.self.inside.records.entries)) n) limit c.is_room.ensures))
