use Rattle.std.proofs.Common.{◌≡◌, take}
use Rattle.mdns_history.specs.Debts.{bitmap_byte}
use Rattle.sd_service.specs.Bitmaps.{kinds_of}
use Rattle.sd_service.proofs.nsec.byte_at.Given as goal

abbrev pub invariant-loop-rr : goal.invariant-loop-rr
invariant-loop-rr l = l.byte ≡ bitmap_byte (kinds_of (take l.rr-index l.unique)) l.place
