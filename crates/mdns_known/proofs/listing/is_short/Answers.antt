use Rattle.std.proofs.Common.{◌≡◌, ◌-◌, ◌≤◌, ℕ, length, arith}
use Rattle.std.specs.Prelude.{nat_le}
use Rattle.std.specs.List.{list_all}
use Rattle.std.proofs.lemmas.Bool.{and_parts, leb-true}
use Rattle.dns_name.specs.Names.{is_label, wire_of}
use Rattle.dns_record.specs.Records.{data_of}
use Rattle.mdns_known.proofs.Fits.{short_fits}
use Rattle.mdns_known.proofs.listing.is_short.Goals as goal

pub returns : goal.returns
returns c = λ short.
    let owner : ℕ = length (wire_of c.args.rr.now.owner) in
    let most : owner ≤ 255 = leb-true owner 255 (and_parts (list_all is_label c.args.rr.now.owner) (nat_le owner 255) c.wire_len.ensures.name).1 in
    let within : c.plain_len.result ≤ 8950 - c.wire_len.result = leb-true c.plain_len.result (8950 - c.wire_len.result) short in
    let size : c.wire_len.result ≡ owner = c.wire_len.ensures.value in
    let bytes : c.plain_len.result ≡ length (data_of c.args.rr.now.rdata) = c.plain_len.ensures in
    short_fits c.args.rr.now (omega (arith, most, within, size, bytes))
