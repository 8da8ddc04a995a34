use Rattle.std.proofs.Common.{◌≡◌, ◌∙◌, ◌++◌, List, ℕ, Some, None, ap, sym}
use Rattle.std.proofs.lemmas.Bool.{false≢true}
use Rattle.std.proofs.lemmas.Bool.Decides.{Decides-eqb}
use Rattle.std.proofs.lemmas.Slice.Eq.{strip_prefix_is}
use Rattle.mdns_history.specs.Debts.{bitmap_of}
use Rattle.sd_service.specs.Bitmaps.{kinds_of}
use Rattle.sd_service.proofs.Alike.{behind_told}
use Rattle.sd_service.proofs.nsec.is_in_bytes.Goals as goal

pub returns-in-Some : goal.returns-in-Some
returns-in-Some c =
    let parts : c.args.bytes.now ≡ c.as_wire.result.now ++ c.in-Some.bitmap.now = strip_prefix_is Decides-eqb c.args.bytes.now c.as_wire.result.now (Some c.in-Some.bitmap) c.in-Some.ensures.cases in
    behind_told c.args.bytes.now c.as_wire.result.now c.in-Some.bitmap.now (bitmap_of (kinds_of c.args.unique.now)) c.args.name.now c.is_bitmap.result parts c.as_wire.ensures.value c.is_bitmap.ensures

pub returns-in-None : goal.returns-in-None
returns-in-None c =
    let bitmap : List ℕ = bitmap_of (kinds_of c.args.unique.now) in
    let none = strip_prefix_is Decides-eqb c.args.bytes.now c.as_wire.result.now None c.in-None.ensures.cases in
    (λ yes. absurd (false≢true yes), λ same. absurd (none bitmap (same ∙ ap (λ (w : List ℕ). w ++ bitmap) (sym c.as_wire.ensures.value))))
