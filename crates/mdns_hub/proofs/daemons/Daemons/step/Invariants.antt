use Rattle.mdns_hub.proofs.daemons.Daemons.step.Given as goal

abbrev pub ghosts-entry_of : goal.ghosts-entry_of
ghosts-entry_of a = record { name = a.blank.name; parts = a.blank.parts }
