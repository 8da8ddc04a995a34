use Rattle.std.proofs.Common.{◌∙◌, ℕ, List, false, map, ap}
use Rattle.std.specs.Prelude.{filter}
use Rattle.mdns_history.specs.declared.mark.Mark.TheVariants as mark
use Rattle.mdns_history.specs.Items.{would_pass}
use Rattle.plain_items.specs.LastEntry.{of_last}
use Rattle.plain_items.proofs.LastEntries.{cuts_last}
use Rattle.plain_items.proofs.limit.cut_marks.Goals as goal

pub returns : goal.returns
returns c =
    let history = c.args.history.now in
    c.in_ok-marks.ensures
    ∙ ap (λ (sessions : List ℕ). map (λ session. mark.Cut session) (filter (λ session. of_last false (λ entry past. would_pass entry past session) history) sessions)) (c.deref.ensures.value ∙ c.in_ok-served.ensures)
    ∙ cuts_last history
