use Rattle.by_name.proofs.Removed.{found_at}
use Rattle.by_name.proofs.filing.ByName.index_of.Goals as goal

pub returns-clause-some : goal.returns-clause-some
returns-clause-some g c =
    rw (← c.self.view_is)
    (found_at c.self.inside.values.entries c.args.place.now c.get_index_of.result c.get_index_of.ensures.index c.get_index_of.ensures.found c.get_index_of.ensures.value)
