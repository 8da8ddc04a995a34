use Rattle.std.proofs.Common.{◌≡◌, ◌+◌, ◌*◌, ◌≤◌, ◌++◌, length, true}
use Rattle.dns_name.specs.Names.{wire_of, is_name}
use Rattle.std.specs.Prelude.{IsTrue}
use Rattle.std.specs.List.{list_all}
use Rattle.dns_name.specs.NameText.{name_text}
use Rattle.dns_name.proofs.ReadBack.{are_bytes}
use Rattle.dns_name.proofs.WrittenText.{labels_text}
use Rattle.dns_name.proofs.name.Name.write_text.Given as goal

abbrev pub invariant-loop-label : goal.invariant-loop-label
invariant-loop-label l = record {
  told : l.out.bytes ++ labels_text l.labels ≡ name_text l.self;
  bytes : list_all are_bytes l.labels ≡ true → list_all are_bytes l.self ≡ true;
  name : IsTrue (is_name l.self);
  room : length l.out.bytes + 4 * length (wire_of l.labels) ≤ 1024;
}

abbrev pub decreases-loop-label : goal.decreases-loop-label
decreases-loop-label l = length l.labels
