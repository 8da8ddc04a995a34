use Rattle.std.proofs.Common.{◌∙◌, sym, ap}
use Rattle.dns_message.specs.Reading.{fault_number}
use Rattle.mdns_history.specs.Hearings.{counted_records}
use Rattle.mdns_happened.specs.Told.{Told, told_by}
use Rattle.mdns_core.proofs.records.HeardPackets.{refused-message, refused-fault, data-message, data-fault, told-refused, room-left, ok_with, ok_two, ok_always}
use Rattle.mdns_core.proofs.reading.read_packet.Goals as goal

pub returns-in-Ok-clause-refused : goal.returns-in-Ok-clause-refused
returns-in-Ok-clause-refused c = ok_with c.read_message.result
    (λ reading h past before earlier holds. h past before earlier holds ∙ refused-message c.args.when.moment c.args.when.word c.args.from.now c.args.bytes.now c.in-Ok.message past c.in-Ok.ensures.found)
    c.read_message.ensures.refused

pub returns-in-Ok-clause-parts : goal.returns-in-Ok-clause-parts
returns-in-Ok-clause-parts c =
    ok_always _ c.read_message.result (data-message c.args.from.now c.args.bytes.now c.in-Ok.message c.in-Ok.ensures.found c.in-Ok.ensures.valid)

pub returns-in-Err-clause-told : goal.returns-in-Err-clause-told
returns-in-Err-clause-told c = ok_with c.read_fault.result (λ reading told. told-refused (told_by reading.happened) _ _ told) c.read_fault.ensures.told

pub returns-in-Err-clause-refused : goal.returns-in-Err-clause-refused
returns-in-Err-clause-refused c = ok_two c.read_fault.result
    (λ reading found told past before earlier holds.
    ap (λ (t : Told). t.refusal) told
    ∙ refused-fault c.args.when.moment c.args.when.word before c.args.from.now c.args.bytes.now (fault_number c.in-Err.fault) past c.args.records.now.held (c.in-Err.ensures.fault found) earlier holds c.requires.within)
    c.read_fault.ensures.found c.read_fault.ensures.told

pub returns-in-Err-clause-records : goal.returns-in-Err-clause-records
returns-in-Err-clause-records c = ok_two c.read_fault.result
    (λ reading told records. records ∙ ap (λ (t : Told). counted_records t.heard) (sym told))
    c.read_fault.ensures.told c.read_fault.ensures.records

pub returns-in-Err-clause-room : goal.returns-in-Err-clause-room
returns-in-Err-clause-room c = ok_with c.read_fault.result
    (λ reading none. room-left c.args.when.moment c.args.when.word reading.heard c.args.records.now.held none c.requires.within)
    c.read_fault.ensures.records

pub returns-in-Err-clause-parts : goal.returns-in-Err-clause-parts
returns-in-Err-clause-parts c = ok_with c.read_fault.result
    (λ reading found. data-fault c.args.from.now c.args.bytes.now (fault_number c.in-Err.fault) (c.in-Err.ensures.fault found))
    c.read_fault.ensures.found
