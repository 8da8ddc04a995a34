use Rattle.std.proofs.Common.{◌≡◌, ◌∙◌, ◌<◌, ap, sym, refl, List, Some, None, length}
use Rattle.std.specs.Option.{is_some}
use Rattle.std.proofs.lemmas.Bool.{false≢true}
use Rattle.mdns_hub.specs.declared.daemons.Booted.{Booted}
use Rattle.mdns_history.specs.declared.entry.Given.{Given}
use Rattle.mdns_hub.specs.Slots.{slot_at}
use Rattle.mdns_hub.specs.Tallies.{with_gifts}
use Rattle.mdns_hub.proofs.Slotted.{kept_within, slot_read, set_here, set_there}
use Rattle.mdns_hub.proofs.daemons.Daemons.step.Goals as goal

pub entry_of-requires-clause-later : goal.entry_of-requires-clause-later
entry_of-requires-clause-later c =
    let within : c.args.number < length c.args.self.now.slots.items = kept_within c.args.self.now.slots.items c.args.number c.requires.kept in
    c.requires.behind c.args.number c.in-Some.booted
    (slot_read c.args.self.now.slots.items c.args.number c.index_mut.result.now within ∙ sym c.index_mut.ensures.value ∙ c.in-Some.is)

pub unreachable-requires : goal.unreachable-requires
unreachable-requires c =
    let within : c.args.number < length c.args.self.now.slots.items = kept_within c.args.self.now.slots.items c.args.number c.requires.kept in
    let none : slot_at c.args.self.now.slots.items c.args.number ≡ None =
    slot_read c.args.self.now.slots.items c.args.number c.index_mut.result.now within ∙ sym c.index_mut.ensures.value ∙ c.in-None.is in
    false≢true (sym (ap is_some none) ∙ c.requires.kept)

pub returns-clause-done : goal.returns-clause-done
returns-clause-done c =
    let within : c.args.number < length c.args.self.now.slots.items = kept_within c.args.self.now.slots.items c.args.number c.requires.kept in
    let now : Booted = record { address = c.in-Some.booted.address; daemon = c.entry_of.new.daemon; tally = c.count_all.new.self } in
    record {
      before = c.in-Some.booted;
      after = now;
      was = slot_read c.args.self.now.slots.items c.args.number c.index_mut.result.now within ∙ sym c.index_mut.ensures.value ∙ c.in-Some.is;
      is = set_here c.args.self.now.slots.items c.args.number (Some now) within;
      others = λ other different. set_there c.args.self.now.slots.items c.args.number other (Some now) different;
      address = refl;
      tally = c.count_all.ensures ∙ ap (λ (gifts : List Given). with_gifts gifts c.in-Some.booted.tally) c.as_slice.ensures;
      fits = c.in_ok-entry-in-Some.ensures.fits;
      moment_is = c.in_ok-entry-in-Some.ensures.is.0;
      word_is = c.in_ok-entry-in-Some.ensures.is.1;
      event_is = c.in_ok-entry-in-Some.ensures.is.2;
      last = c.in_ok-entry-in-Some.ensures.last;
      ticked = c.in_ok-entry-in-Some.ensures.ticked;
    }
