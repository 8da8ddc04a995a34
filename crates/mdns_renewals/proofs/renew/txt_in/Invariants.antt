use Rattle.std.proofs.Common.{◌≡◌, drop}
use Rattle.mdns_renewals.specs.Occasions.{txt_in}
use Rattle.mdns_renewals.proofs.renew.txt_in.Given as goal

abbrev pub invariant-loop-rr : goal.invariant-loop-rr
invariant-loop-rr l = txt_in (drop l.rr-index l.rrs) ≡ txt_in l.rrs
