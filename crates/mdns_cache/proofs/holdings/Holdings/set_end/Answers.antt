use Rattle.std.proofs.Common.{◌≡◌, ◌∙◌, ◌-◌, ℕ, List, length, refl, ap, arith}
use Rattle.indexmap.specs.Layout.{set_value_at}
use Rattle.mdns_history.specs.declared.held.Held.{Held}
use Rattle.by_name.specs.Filed.{Filing}
use Rattle.by_name.proofs.Removed.{length-put}
use Rattle.mdns_cache.specs.Named.{Entry}
use Rattle.mdns_cache.proofs.Indexing.{are_indexed-put}
use Rattle.mdns_cache.proofs.holdings.Holdings.set_end.Goals as goal

pub invariant_of-self : goal.invariant_of-self
invariant_of-self c =
    let es : List Entry = c.self.inside.named.entries in
    let one : Held = c.at_mut-one.result.now in
    let new : Held = record { rr = one.rr; heard = one.heard; word = one.word; end = c.args.end } in
    let len : length (set_value_at es c.args.index new) ≡ length es = length-put es c.args.index new in
    let all = c.self.invariant in (
      are_indexed-put c.self.inside.prints es c.args.index one new c.at_mut-one.ensures.value refl all.0,
      omega (arith, len, all.1),
      omega (arith, len, all.2),
      omega (arith, len, all.3),
    )

pub returns-clause-spare : goal.returns-clause-spare
returns-clause-spare c =
    let one : Held = c.at_mut-one.result.now in
    let new : Held = record { rr = one.rr; heard = one.heard; word = one.word; end = c.args.end } in
    ap (λ (n : ℕ). c.self.inside.room - n) (length-put c.self.inside.named.entries c.args.index new) ∙ ap (λ (v : Filing Held). v.spare) c.self.view_is
