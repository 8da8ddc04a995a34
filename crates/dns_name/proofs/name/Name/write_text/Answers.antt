use Rattle.std.proofs.Common.{◌≡◌, ◌++◌, ◌∙◌, sym, ap, append-nil, true, List, ℕ}
use Rattle.std.specs.List.{list_all}
use Rattle.dns_name.specs.NameText.{name_text}
use Rattle.dns_name.specs.ReadName.{read_name}
use Rattle.dns_name.proofs.ReadBack.{are_bytes, bytes_next, read_name-name_text}
use Rattle.dns_name.proofs.WrittenText.{labels_text, room_next, room_after, told_next}
use Rattle.dns_name.proofs.name.Name.write_text.Goals as goal

pub write_label-requires : goal.write_label-requires
write_label-requires c =
    room_next c.loop-label.out.bytes c.in-Some.label.now c.loop-label.labels c.next_label.new.self c.in-Some.ensures.0 c.loop-label.invariant.room

pub loop-label-preserved : goal.loop-label-preserved
loop-label-preserved c = record {
  told = told_next c.loop-label.out.bytes c.write_label.new.out.bytes c.in-Some.label.now (name_text c.args.self.now) c.loop-label.labels c.next_label.new.self c.in-Some.ensures.0 c.loop-label.invariant.told c.write_label.ensures.text;
  bytes = bytes_next c.in-Some.label.now c.loop-label.labels c.next_label.new.self (list_all are_bytes c.args.self.now ≡ true) c.in-Some.ensures.0 c.write_label.ensures.bytes c.loop-label.invariant.bytes;
  name = c.loop-label.invariant.name;
  room = room_after c.loop-label.out.bytes c.write_label.new.out.bytes c.in-Some.label.now c.loop-label.labels c.next_label.new.self c.in-Some.ensures.0 c.loop-label.invariant.room c.write_label.ensures.text;
}

-- all labels are written
written : (c : goal.In_default) → c.loop-label.out.bytes ≡ name_text c.args.self.now
written c =
    sym (append-nil c.loop-label.out.bytes) ∙ ap (λ (l : List (List ℕ)). c.loop-label.out.bytes ++ labels_text l) (sym c.in_default.ensures.0)
    ∙ c.loop-label.invariant.told

pub returns-clause-text : goal.returns-clause-text
returns-clause-text c = written c

pub returns-clause-read : goal.returns-clause-read
returns-clause-read c =
    ap read_name (written c)
    ∙ read_name-name_text c.args.self.now c.loop-label.invariant.name (c.loop-label.invariant.bytes (ap (list_all are_bytes) c.in_default.ensures.0))
