use Rattle.std.proofs.Common.{◌≡◌, ◌∙◌, ◌++◌, ℕ, List, sym, ap}
use Rattle.std.specs.Int.{to_be_bytes, w16}
use Rattle.dns_name.specs.Names.{wire_of}
use Rattle.dns_record.specs.Records.{data_of}
use Rattle.mdns_cache.specs.Printed.{written}
use Rattle.mdns_cache.proofs.Indexing.{written_both}
use Rattle.mdns_cache.proofs.prints.write_data.Goals as goal

pub returns-in-Srv : goal.returns-in-Srv
returns-in-Srv c =
    let start = c.args.state.now in
    let one : List ℕ = to_be_bytes w16 c.in-Srv.priority in
    let two : List ℕ = to_be_bytes w16 c.in-Srv.weight in
    let three : List ℕ = to_be_bytes w16 c.in-Srv.port in
    let name : List ℕ = wire_of c.in-Srv.target in
    let first : c.write-in-Srv.new.self ≡ written start one = c.write-in-Srv.ensures ∙ ap (written start) c.to_be_bytes-in-Srv.ensures in
    let second : c.write-in-Srv-2.new.self ≡ written (written start one) two = c.write-in-Srv-2.ensures ∙ (λ i. written (first i) (c.to_be_bytes-in-Srv-2.ensures i)) in
    let third : c.write-in-Srv-3.new.self ≡ written (written (written start one) two) three = c.write-in-Srv-3.ensures ∙ (λ i. written (second i) (c.to_be_bytes-in-Srv-3.ensures i)) in
    c.write-in-Srv-4.ensures
    ∙ (λ i. written (third i) (c.as_wire.ensures.value i))
    ∙ sym (ap (λ r. written start (data_of r)) c.in-Srv.is ∙ written_both start one (two ++ (three ++ name)) ∙ written_both (written start one) two (three ++ name)
    ∙ written_both (written (written start one) two) three name)

pub returns-in-Nsec : goal.returns-in-Nsec
returns-in-Nsec c =
    let start = c.args.state.now in
    let name : List ℕ = wire_of c.in-Nsec.next in
    let bitmap : List ℕ = c.as_slice.result.now in
    c.write-in-Nsec-2.ensures
    ∙ ap (λ s. written s bitmap) (c.write-in-Nsec.ensures ∙ ap (written start) c.as_wire-in-Nsec.ensures.value)
    ∙ sym (written_both start name bitmap)
    ∙ ap (λ (l : List ℕ). written start (name ++ l)) c.as_slice.ensures
    ∙ sym (ap (λ r. written start (data_of r)) c.in-Nsec.is)
