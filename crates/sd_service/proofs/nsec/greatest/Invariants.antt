use Rattle.std.proofs.Common.{◌≡◌, take, max, fold}
use Rattle.sd_service.specs.Bitmaps.{kinds_of}
use Rattle.sd_service.proofs.nsec.greatest.Given as goal

abbrev pub invariant-loop-rr : goal.invariant-loop-rr
invariant-loop-rr l = l.most ≡ fold max 0 (kinds_of (take l.rr-index l.unique))
