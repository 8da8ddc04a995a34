use Rattle.std.proofs.Common.{◌≤◌, ◌+◌, ◌-◌, ◌∙◌, length, ap, refl, arith, rules}
use Rattle.indexmap.specs.Layout.{set_value_at}
use Rattle.indexmap.specs.IndexMap.{spare}
use Rattle.by_name.specs.Filed.{Filing}
use Rattle.by_name.specs.Lends.{with_value_at}
use Rattle.by_name.proofs.Removed.{filed_put, length-put}
use Rattle.by_name.proofs.filing.ByName.at_mut.Goals as goal

pub invariant_of-self-lent : goal.invariant_of-self-lent
invariant_of-self-lent g c = λ w.
    let len = length-put c.self.inside.values.entries c.args.index w in
    let all = c.self.invariant in
    let room : c.self.inside.room ≤ length c.self.inside.values.entries + spare c.self.inside.values = all.2 in
    (filed_put c.self.inside.values.entries c.args.index w all.0, omega (arith, len, all.1), omega (arith, len, room))

pub returns : goal.returns
returns g c = (
  (
    refl,
    λ w.
        let len = length-put c.self.inside.values.entries c.args.index w in
        ap (λ (n : _). record { entries = set_value_at c.self.inside.values.entries c.args.index w; spare = c.self.inside.room - n }) len
        ∙ ap (λ (v : Filing g.row.T.Denot). with_value_at v c.args.index w) c.self.view_is,
  ),
  search rules,
)
