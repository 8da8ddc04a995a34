use Rattle.std.proofs.Common.{◌≡◌, ◌∷◌, map}
use Rattle.lists.specs.Lists.{count_up}
use Rattle.mdns_history.specs.Debts.{bitmap_byte}
use Rattle.sd_service.specs.Bitmaps.{kinds_of}
use Rattle.sd_service.proofs.nsec.bitmap_of.Given as goal

abbrev pub invariant-loop-place : goal.invariant-loop-place
invariant-loop-place l = l.bytes.items ≡ 0 ∷ l.size ∷ map (bitmap_byte (kinds_of l.unique)) (count_up 0 l.place)
