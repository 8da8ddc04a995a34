use Rattle.std.proofs.Common.{◌≡◌, ◌∙◌, ◌&&◌, ◌==◌, Bool, true, List, ℕ, eq-eqb, ap, sym}
use Rattle.dns_record.specs.declared.record.Rdata.{Rdata}
use Rattle.dns_record.specs.declared.record.Rdata.TheVariants.{Nsec, Raw}
use Rattle.dns_record.specs.Records.{data_eq}
use Rattle.mdns_history.specs.Debts.{bitmap_of}
use Rattle.sd_service.specs.Bitmaps.{kinds_of}
use Rattle.sd_service.proofs.Alike.{nsec_alike, nsec_apart, raw_alike, raw_apart, others_apart, wires_told}
use Rattle.sd_service.proofs.nsec.is_data_of.Goals as goal

pub returns-then-eq : goal.returns-then-eq
returns-then-eq c =
    let bitmap = bitmap_of (kinds_of c.args.unique.now) in
    let names = wires_told c.in-Nsec.next c.args.name.now c.as_wire.result.now c.as_wire-in-Nsec.result.now c.eq.result c.as_wire.ensures.value c.as_wire-in-Nsec.ensures.value c.eq.ensures in
    sym (ap (λ (b : Bool). b && c.is_bitmap.result) c.if-eq.true)
    ∙ nsec_alike c.in-Nsec.next c.args.name.now c.as_slice.result.now bitmap c.eq.result c.is_bitmap.result c.as_wire.ensures.name c.as_wire-in-Nsec.ensures.name names c.is_bitmap.ensures
    ∙ ap (λ (bits : List ℕ). data_eq (Nsec c.in-Nsec.next bits) (Nsec c.args.name.now bitmap)) c.as_slice.ensures
    ∙ ap (λ (rdata : Rdata). data_eq rdata (Nsec c.args.name.now bitmap)) (sym c.in-Nsec.is)

pub returns-else-eq : goal.returns-else-eq
returns-else-eq c =
    let bitmap = bitmap_of (kinds_of c.args.unique.now) in
    let names = wires_told c.in-Nsec.next c.args.name.now c.as_wire.result.now c.as_wire-in-Nsec.result.now c.eq.result c.as_wire.ensures.value c.as_wire-in-Nsec.ensures.value c.eq.ensures in
    nsec_apart c.in-Nsec.next c.args.name.now c.in-Nsec.bitmap bitmap c.eq.result c.as_wire.ensures.name c.as_wire-in-Nsec.ensures.name names c.if-eq.false
    ∙ ap (λ (rdata : Rdata). data_eq rdata (Nsec c.args.name.now bitmap)) (sym c.in-Nsec.is)

pub returns-then-kind-eq-NSEC : goal.returns-then-kind-eq-NSEC
returns-then-kind-eq-NSEC c =
    let bitmap = bitmap_of (kinds_of c.args.unique.now) in
    let kind : (c.in-Raw.kind == 47) ≡ true = eq-eqb c.in-Raw.kind 47 c.if-kind-eq-NSEC.true in
    sym (ap (λ (b : Bool). b && c.is_in_bytes.result) kind)
    ∙ raw_alike c.in-Raw.kind c.as_slice-then-kind-eq-NSEC.result.now bitmap c.args.name.now c.is_in_bytes.result c.is_in_bytes.ensures
    ∙ ap (λ (bytes : List ℕ). data_eq (Raw c.in-Raw.kind bytes) (Nsec c.args.name.now bitmap)) c.as_slice-then-kind-eq-NSEC.ensures
    ∙ ap (λ (rdata : Rdata). data_eq rdata (Nsec c.args.name.now bitmap)) (sym c.in-Raw.is)

pub returns-else-kind-eq-NSEC : goal.returns-else-kind-eq-NSEC
returns-else-kind-eq-NSEC c =
    let bitmap = bitmap_of (kinds_of c.args.unique.now) in
    raw_apart c.in-Raw.kind c.in-Raw.bytes bitmap c.args.name.now c.if-kind-eq-NSEC.false
    ∙ ap (λ (rdata : Rdata). data_eq rdata (Nsec c.args.name.now bitmap)) (sym c.in-Raw.is)

pub returns-in_default : goal.returns-in_default
returns-in_default c = others_apart c.args.rdata.now c.args.name.now (bitmap_of (kinds_of c.args.unique.now)) c.in_default.not-Nsec c.in_default.not-Raw
