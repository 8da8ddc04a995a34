use Rattle.std.proofs.Common.{◌++◌, List, IsPermutation, subst, sym}
use Rattle.by_name.specs.At.{At, at, owner_of}
use Rattle.sd_index.specs.declared.asker.Asker.{Asker}
use Rattle.sd_index.specs.Asked.{asker_of, askers_of}
use Rattle.sd_index.proofs.Named.{pushed}
use Rattle.sd_index.proofs.search.put_behind.Goals as goal

pub returns : goal.returns
returns c = λ owner.
    subst (λ (es : List (At × Asker)). IsPermutation (askers_of owner es) (asker_of owner (at (owner_of c.args.name.now) 0, c.args.asker) ++ askers_of owner c.args.filed.now.entries)) (sym c.push.ensures.entries)
    (pushed owner c.args.filed.now.entries c.end_of-place.result c.args.asker (owner_of c.args.name.now) c.end_of-place.ensures.owner)
