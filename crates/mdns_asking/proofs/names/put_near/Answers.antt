use Rattle.std.proofs.Common.{◌≡◌, ℕ, true, List, refl, subst}
use Rattle.std.proofs.lemmas.List.Folds.{list_any_at}
use Rattle.dns_name.specs.Names.{folded_eq}
use Rattle.mdns_cache.specs.Ended.{is_among}
use Rattle.mdns_asking.proofs.names.put_near.Goals as goal

pub returns-then-is_name_at-clause-put : goal.returns-then-is_name_at-clause-put
returns-then-is_name_at-clause-put c =
    subst (λ (names : List (List (List ℕ))). is_among names c.args.name.now ≡ true) c.deref.ensures.value
    (list_any_at (folded_eq c.args.name.now) c.deref.result.now c.args.near c.args.name.now (c.if-is_name_at.ensures.within refl) (c.if-is_name_at.ensures.named refl c.args.name.now))
