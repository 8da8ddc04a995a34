use Rattle.std.proofs.Common.{◌≡◌, ◌+◌, ◌-◌, ◌≤◌, not, length}
use Rattle.std.specs.List.{find}
use Rattle.lists.specs.Lists.{count_up}
use Rattle.mdns_history.specs.Groups.{is_taken, numbered_name}
use Rattle.plain_groups.proofs.names.free_number.Given as goal

abbrev pub invariant-loop-number : goal.invariant-loop-number
invariant-loop-number l =
    find (λ number. not (is_taken l.names (numbered_name l.group number))) (count_up l.number (l.from + (length l.names + 2) - l.number))
    ≡ find (λ number. not (is_taken l.names (numbered_name l.group number))) (count_up l.from (length l.names + 2))
