use Rattle.std.proofs.Common.{◌≡◌, ◌<◌, length, ap, sym, arith, get_or, Ok}
use Rattle.std.proofs.lemmas.Bool.{le-ltb}
use Rattle.std.proofs.lemmas.Grind.{get_or_default_zero}
use Rattle.std.proofs.lemmas.Option.{slice_get-get_or}
use Rattle.dns_pointers.specs.Reading.{byte_at, byte_or_end, target_at}
use Rattle.dns_pointers.proofs.Ends.{end_behind}
use Rattle.dns_pointers.proofs.chains.end_at.Goals as goal

pub returns : goal.returns
returns c =
    let bytes = c.args.bytes.now in
    let first = get_or bytes c.args.at 0 in
    let target = c.in-Ok.target in
    let here : byte_at bytes c.args.at ≡ Ok first = ap byte_or_end (slice_get-get_or bytes c.args.at 0 c.requires.within) in
    let low : target < length c.args.ends.now = omega (arith, c.in-Ok.ensures.below) in
    let aimed : target_at bytes c.args.at c.args.at ≡ Ok target = sym (rw (le-ltb first 192 c.if-first-ge192.true) at c.in-Ok.ensures.target) in
    rw (← get_or_default_zero c.args.ends.now target target low)
    (end_behind bytes c.args.at first target (get_or c.args.ends.now target target) here c.if-first-ge192.true aimed (c.requires.ends.each target))
