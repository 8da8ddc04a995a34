use Rattle.std.proofs.Common.{◌≡◌, ◌++◌, [], drop, map}
use Rattle.std.specs.List.{flat_map}
use Rattle.mdns_history.specs.Items.{change_items, given_to}
use Rattle.plain_items.specs.LastEntry.{of_last}
use Rattle.plain_items.proofs.served.gifts_for.Given as goal

abbrev pub invariant-loop-session : goal.invariant-loop-session
invariant-loop-session l =
    l.gifts.items ++ flat_map (λ session. map (given_to session) (of_last [] (change_items session) l.history)) (drop l.session-index l.sessions)
    ≡ flat_map (λ session. map (given_to session) (of_last [] (change_items session) l.history)) l.sessions
