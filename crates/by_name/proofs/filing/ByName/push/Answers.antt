use Rattle.std.proofs.Common.{◌≡◌, ◌∙◌, ◌++◌, ◌∷◌, ◌<◌, ◌≤◌, ◌+◌, ◌-◌, [], None, length, ap, arith}
use Rattle.std.specs.Map.{lookup}
use Rattle.indexmap.specs.IndexMap.{spare}
use Rattle.indexmap.proofs.CallerLemmas.{insert_entry-new}
use Rattle.by_name.specs.At.{at_eq}
use Rattle.by_name.proofs.Pushing.{on_ok}
use Rattle.by_name.proofs.filing.ByName.push.Goals as goal

pub returns-clause-entries : goal.returns-clause-entries
returns-clause-entries g c =
    let room : c.self.inside.room ≤ length c.self.inside.values.entries + spare c.self.inside.values = c.self.invariant.2 in
    let left : 0 < c.self.inside.room - length c.self.inside.values.entries = rw (← ap (λ v. v.spare) c.self.view_is) at c.requires.room in
    let absent : lookup (at_eq c.args.place) c.self.inside.values.entries ≡ None = ap (λ v. lookup (at_eq c.args.place) v.entries) c.self.view_is ∙ c.requires.absent in
    on_ok c.insert.result _ (c.insert.ensures.succeeds (omega arith)) c.insert.ensures.entries
    ∙ insert_entry-new at_eq c.self.inside.values c.args.place c.args.one absent
    ∙ ap (λ v. v.entries ++ (c.args.place, c.args.one) ∷ []) c.self.view_is
