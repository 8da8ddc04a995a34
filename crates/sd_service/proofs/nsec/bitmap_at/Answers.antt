use Rattle.std.proofs.Common.{◌∙◌, ◌-◌, ◌<◌, sym, arith}
use Rattle.mdns_history.specs.Debts.{bitmap_byte}
use Rattle.sd_service.specs.Bitmaps.{kinds_of}
use Rattle.sd_service.proofs.Bitmaps.{byte_fits}
use Rattle.sd_service.proofs.Alike.{get_or-bitmap_of}
use Rattle.sd_service.proofs.nsec.bitmap_at.Goals as goal

pub byte_at-requires : goal.byte_at-requires
byte_at-requires c = byte_fits c.args.unique.now (c.args.place - 2) c.requires.types (omega arith)

pub overflow_cast-result-in_default : goal.overflow_cast-result-in_default
overflow_cast-result-in_default c =
    let fits : bitmap_byte (kinds_of c.args.unique.now) (c.args.place - 2) < 256 = byte_fits c.args.unique.now (c.args.place - 2) c.requires.types (omega arith) in
    omega (arith, c.byte_at.ensures)

pub returns-in_default : goal.returns-in_default
returns-in_default c = c.byte_at.ensures ∙ sym (get_or-bitmap_of (kinds_of c.args.unique.now) c.args.place (omega arith) (omega arith))
