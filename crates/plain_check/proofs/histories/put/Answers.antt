use Rattle.std.proofs.Common.{List, ◌∷◌, refl, ap, ◌∙◌}
use Rattle.mdns_history.specs.declared.entry.Entry.{Entry}
use Rattle.plain_check.proofs.Taken.{put_all}
use Rattle.plain_check.proofs.histories.put.Goals as goal

pub returns-clause-put : goal.returns-clause-put
returns-clause-put c =
    λ fits daemon. put_all c.args.row c.args.histories.now.items c.take_out-history.new.histories.items c.insert.new.self.items _ c.in_ok-insert.ensures.items c.take_out-history.ensures.rest refl
    (c.in_ok-fits.ensures.put fits ∙ ap (λ (l : List Entry). c.args.row.entry ∷ l) c.take_out-history.ensures.history) daemon
