use Rattle.mdns_timer.proofs.tree.+due_in.Given as goal

abbrev pub decreases-due_in : goal.decreases-due_in
decreases-due_in l = l.part.width
