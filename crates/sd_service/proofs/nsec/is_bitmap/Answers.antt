use Rattle.std.proofs.Common.{◌≡◌, ◌∙◌, ◌+◌, ◌/◌, ℕ, length, refl, ap, sym, arith}
use Rattle.std.proofs.lemmas.Bool.{false≢true}
use Rattle.std.proofs.lemmas.Grind.{same_number_lists}
use Rattle.mdns_history.specs.Debts.{bitmap_of}
use Rattle.sd_service.specs.Bitmaps.{kinds_of, bitmap_size}
use Rattle.sd_service.proofs.Alike.{length-bitmap_of}
use Rattle.sd_service.proofs.nsec.is_bitmap.Goals as goal

pub returns-then-bytes-from : goal.returns-then-bytes-from
returns-then-bytes-from c =
    let size : c.from.result ≡ bitmap_size (kinds_of c.args.unique.now) = c.from.ensures ∙ ap (λ (n : ℕ). n / 8 + 1) c.greatest.ensures in
    (λ yes. absurd (false≢true yes), λ same. absurd (c.if-bytes-from.true (ap length same ∙ length-bitmap_of (kinds_of c.args.unique.now) ∙ ap (λ (n : ℕ). n + 2) (sym size))))

pub returns : goal.returns
returns c =
    let size : c.from.result ≡ bitmap_size (kinds_of c.args.unique.now) = c.from.ensures ∙ ap (λ (n : ℕ). n / 8 + 1) c.greatest.ensures in
    let long : length c.args.bytes.now ≡ length (bitmap_of (kinds_of c.args.unique.now)) = c.if-bytes-from.false ∙ ap (λ (n : ℕ). n + 2) size ∙ sym (length-bitmap_of (kinds_of c.args.unique.now)) in
    (λ yes. same_number_lists c.args.bytes.now (bitmap_of (kinds_of c.args.unique.now)) long (λ k within. c.loop-place.invariant k (omega (arith, within))), λ same. refl)
