use Rattle.std.proofs.Common.{◌∙◌, ap}
use Rattle.dns_name.specs.Names.{labels_of}
use Rattle.dns_pointers.specs.Writing.{offset_of}
use Rattle.dns_pointers.proofs.Searching.{sought_behind}
use Rattle.dns_pointers.proofs.written_names.WrittenNames.find_or_push.Goals as goal

pub returns-in-Some-clause-found : goal.returns-in-Some-clause-found
returns-in-Some-clause-found c =
    c.in-Some.ensures.value
    ∙ sought_behind _ _ _ _ _ _ _ c.requires.name c.self.invariant c.slot_of-slot.ensures.value c.first_of-first.ensures c.deref.ensures.value c.deref-2.ensures.value
    ∙ ap (offset_of (labels_of c.args.wire.now)) c.self.view_is

pub returns-clause-found : goal.returns-clause-found
returns-clause-found c =
    c.in_default.ensures.value
    ∙ sought_behind _ _ _ _ _ _ _ c.requires.name c.self.invariant c.slot_of-slot.ensures.value c.first_of-first.ensures c.deref.ensures.value c.deref-2.ensures.value
    ∙ ap (offset_of (labels_of c.args.wire.now)) c.self.view_is
