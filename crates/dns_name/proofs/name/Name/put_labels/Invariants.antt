use Rattle.std.proofs.Common.{◌≡◌, ◌++◌, length}
use Rattle.dns_name.proofs.WrittenText.{labels_text}
use Rattle.dns_name.proofs.name.Name.put_labels.Given as goal

abbrev pub invariant-loop-label : goal.invariant-loop-label
invariant-loop-label l = l.out.items ++ labels_text l.labels ≡ l.initial.out.items ++ labels_text l.self

abbrev pub decreases-loop-label : goal.decreases-loop-label
decreases-loop-label l = length l.labels
