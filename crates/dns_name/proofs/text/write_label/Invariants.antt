use Rattle.std.proofs.Common.{◌≡◌, ◌+◌, ◌*◌, ◌≤◌, ◌++◌, length, take}
use Rattle.dns_name.specs.NameText.{label_text}
use Rattle.dns_name.proofs.text.write_label.Given as goal

abbrev pub invariant-loop-byte : goal.invariant-loop-byte
invariant-loop-byte l = record {
  told : l.out.bytes ≡ l.initial.out.bytes ++ label_text (take l.byte-index l.label);
  short : length l.out.bytes ≤ length l.initial.out.bytes + 4 * l.byte-index;
}
