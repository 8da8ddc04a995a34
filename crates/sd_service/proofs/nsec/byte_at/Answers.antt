use Rattle.std.proofs.Common.{◌≡◌, ◌<◌, take, ap, ◌∙◌, arith}
use Rattle.dns_record.specs.Records.{kind_of}
use Rattle.mdns_history.specs.Debts.{bit_of_type, bitmap_byte}
use Rattle.sd_service.specs.Bitmaps.{kinds_of}
use Rattle.sd_service.proofs.Bitmaps.{byte_below}
use Rattle.sd_service.proofs.nsec.byte_at.Goals as goal

pub overflow_add-byte : goal.overflow_add-byte
overflow_add-byte c =
    let below = byte_below c.args.unique.now c.loop-rr.rr-index c.rr-item.result c.args.place c.loop-rr-test.true c.rr-item.is in
    let bit : c.bit_of-byte.result ≡ bit_of_type c.args.place (kind_of c.rr-item.result.rdata) = c.bit_of-byte.ensures ∙ ap (bit_of_type c.args.place) c.kind.ensures in
    let before : c.loop-rr.byte ≡ bitmap_byte (kinds_of (take c.loop-rr.rr-index c.args.unique.now)) c.args.place = c.loop-rr.invariant in
    let all : bitmap_byte (kinds_of c.args.unique.now) c.args.place < 256 = c.requires in
    omega (arith, below)
