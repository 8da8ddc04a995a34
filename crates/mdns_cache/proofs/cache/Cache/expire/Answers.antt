use Rattle.std.proofs.Common.{◌≡◌, ◌∙◌, ap, subst, List, ◌∷◌, IsPermutation}
use Rattle.std.specs.Prelude.{IfSome, IfNone}
use Rattle.mdns_history.specs.declared.held.Held.{Held}
use Rattle.mdns_cache.specs.Contents.{Contents}
use Rattle.mdns_cache.specs.Lifetimes.{AllLive, IsFirstEnded}
use Rattle.by_name.specs.Filed.{in_layers}
use Rattle.mdns_cache.proofs.Kept.{stands_after, holds_after, heard_still, if_none}
use Rattle.mdns_cache.proofs.cache.Cache.expire.Goals as goal

pub returns-clause-stands : goal.returns-clause-stands
returns-clause-stands g c =
    let new : List Held = in_layers c.expire_from.new.records.entries in
    let was : in_layers c.self.inside.records.entries ≡ c.args.self.now.held = ap (λ (v : Contents). v.held) c.self.view_is in
    let none : IfNone c.expire_from.result ((new ≡ c.args.self.now.held) × AllLive c.args.now c.args.self.now.held) =
    if_none c.expire_from.result _ _ (λ h. (ap (λ m. in_layers m.entries) h.0 ∙ was, subst (AllLive c.args.now) was h.1)) c.expire_from.ensures.none in
    let taken : IfSome c.expire_from.result (λ one. IsPermutation c.args.self.now.held (one ∷ new)) =
    subst (λ (l : List Held). IfSome c.expire_from.result (λ one. IsPermutation l (one ∷ new))) was c.expire_from.ensures.taken in
    let first : IfSome c.expire_from.result (IsFirstEnded c.args.now c.args.self.now.held) =
    subst (λ (l : List Held). IfSome c.expire_from.result (IsFirstEnded c.args.now l)) was c.expire_from.ensures.first in
    stands_after c.args.self.now.held new c.args.now c.expire_from.result none first taken

pub returns-clause-holds : goal.returns-clause-holds
returns-clause-holds g c =
    let new : List Held = in_layers c.expire_from.new.records.entries in
    let was : in_layers c.self.inside.records.entries ≡ c.args.self.now.held = ap (λ (v : Contents). v.held) c.self.view_is in
    let none : IfNone c.expire_from.result ((new ≡ c.args.self.now.held) × AllLive c.args.now c.args.self.now.held) =
    if_none c.expire_from.result _ _ (λ h. (ap (λ m. in_layers m.entries) h.0 ∙ was, subst (AllLive c.args.now) was h.1)) c.expire_from.ensures.none in
    holds_after c.args.self.now.held new c.args.now c.expire_from.result none

pub returns-clause-heard : goal.returns-clause-heard
returns-clause-heard g c =
    let new : List Held = in_layers c.expire_from.new.records.entries in
    let was : in_layers c.self.inside.records.entries ≡ c.args.self.now.held = ap (λ (v : Contents). v.held) c.self.view_is in
    let none : IfNone c.expire_from.result ((new ≡ c.args.self.now.held) × AllLive c.args.now c.args.self.now.held) =
    if_none c.expire_from.result _ _ (λ h. (ap (λ m. in_layers m.entries) h.0 ∙ was, subst (AllLive c.args.now) was h.1)) c.expire_from.ensures.none in
    let taken : IfSome c.expire_from.result (λ one. IsPermutation c.args.self.now.held (one ∷ new)) =
    subst (λ (l : List Held). IfSome c.expire_from.result (λ one. IsPermutation l (one ∷ new))) was c.expire_from.ensures.taken in
    heard_still c.args.self.now.held new c.args.now c.expire_from.result none taken
