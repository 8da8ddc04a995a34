use Rattle.std.proofs.Common.{◌≡◌, [], ◌∷◌, ◌++◌, take}
use Rattle.mdns_history.specs.EntryText.{section_lines}
use Rattle.mdns_history.proofs.print_sent.put_section.Given as goal

abbrev pub invariant-loop-rr : goal.invariant-loop-rr
invariant-loop-rr l = l.out.items ≡ l.fn.out.items ++ section_lines (l.letter ∷ []) (take l.rr-index l.rrs)
