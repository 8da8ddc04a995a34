use Rattle.std.proofs.Common.{◌≡◌, false, take, map}
use Rattle.std.specs.Prelude.{filter}
use Rattle.mdns_history.specs.declared.mark.Mark.TheVariants as mark
use Rattle.mdns_history.specs.Items.{would_pass}
use Rattle.plain_items.specs.LastEntry.{of_last}
use Rattle.plain_items.proofs.limit.cuts_among.Given as goal

abbrev pub invariant-loop-session : goal.invariant-loop-session
invariant-loop-session l =
    l.marks.items ≡ map (λ session. mark.Cut session) (filter (λ session. of_last false (λ entry past. would_pass entry past session) l.history) (take l.session-index l.sessions))
