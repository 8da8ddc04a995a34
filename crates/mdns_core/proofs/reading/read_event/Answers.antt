use Rattle.mdns_core.proofs.records.HeardPackets.{room-left, ok_with}
use Rattle.std.proofs.Common.{subst, sym}
use Rattle.mdns_happened.specs.Told.{Told, told_by}
use Rattle.mdns_claims.specs.Planned.{IsAcceptable}
use Rattle.mdns_core.proofs.records.Begun.{acceptable-told}
use Rattle.mdns_core.proofs.reading.read_event.Goals as goal

pub returns-in-Call-clause-acceptable : goal.returns-in-Call-clause-acceptable
returns-in-Call-clause-acceptable c = ok_with c.brings_nothing-in-Call.result
    (λ reading same.
    subst (λ (t : Told). IsAcceptable c.args.kept.now.parts.now.claims.contents.registered t.call) (sym same)
    (acceptable-told c.args.kept.now.parts.now.claims.contents c.in-Call.session c.in-Call.op c.in-Call.request c.registering-known.result _ (told_by c.call.result)
    c.registering-known.ensures c.call.ensures.told c.call.ensures.well_formed))
    c.brings_nothing-in-Call.ensures.told

pub returns-in-Attach-clause-room : goal.returns-in-Attach-clause-room
returns-in-Attach-clause-room c = ok_with c.brings_nothing.result
    (λ reading none. room-left c.args.when.moment c.args.when.word reading.heard c.args.kept.now.parts.now.records.held none c.requires.within)
    c.brings_nothing.ensures.records

pub returns-in-Detach-clause-room : goal.returns-in-Detach-clause-room
returns-in-Detach-clause-room c = ok_with c.brings_nothing-in-Detach.result
    (λ reading none. room-left c.args.when.moment c.args.when.word reading.heard c.args.kept.now.parts.now.records.held none c.requires.within)
    c.brings_nothing-in-Detach.ensures.records

pub returns-in-Call-clause-room : goal.returns-in-Call-clause-room
returns-in-Call-clause-room c = ok_with c.brings_nothing-in-Call.result
    (λ reading none. room-left c.args.when.moment c.args.when.word reading.heard c.args.kept.now.parts.now.records.held none c.requires.within)
    c.brings_nothing-in-Call.ensures.records

pub returns-in-Take-clause-room : goal.returns-in-Take-clause-room
returns-in-Take-clause-room c = ok_with c.brings_nothing-in-Take.result
    (λ reading none. room-left c.args.when.moment c.args.when.word reading.heard c.args.kept.now.parts.now.records.held none c.requires.within)
    c.brings_nothing-in-Take.ensures.records

pub returns-in-Tick-clause-room : goal.returns-in-Tick-clause-room
returns-in-Tick-clause-room c = ok_with c.brings_nothing-in-Tick.result
    (λ reading none. room-left c.args.when.moment c.args.when.word reading.heard c.args.kept.now.parts.now.records.held none c.requires.within)
    c.brings_nothing-in-Tick.ensures.records

pub returns-in-Boot-clause-room : goal.returns-in-Boot-clause-room
returns-in-Boot-clause-room c = ok_with c.brings_nothing-in-Boot.result
    (λ reading none. room-left c.args.when.moment c.args.when.word reading.heard c.args.kept.now.parts.now.records.held none c.requires.within)
    c.brings_nothing-in-Boot.ensures.records
