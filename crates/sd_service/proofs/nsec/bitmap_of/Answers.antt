use Rattle.std.proofs.Common.{◌≡◌, ◌∙◌, ◌+◌, ◌/◌, ◌<◌, ◌∷◌, ◌++◌, [], ℕ, List, ap, sym, subst, arith}
use Rattle.mdns_history.specs.Debts.{bitmap_byte}
use Rattle.sd_service.specs.Bitmaps.{kinds_of, bitmap_size}
use Rattle.sd_service.proofs.Bitmaps.{byte_fits, bytes_more}
use Rattle.sd_service.proofs.nsec.bitmap_of.Goals as goal

pub byte_at-requires : goal.byte_at-requires
byte_at-requires c =
    let size : c.greatest.result / 8 + 1 ≡ bitmap_size (kinds_of c.args.unique.now) = ap (λ (n : ℕ). n / 8 + 1) c.greatest.ensures in
    byte_fits c.args.unique.now c.loop-place.place c.requires.types (subst (λ (n : ℕ). c.loop-place.place < n) size c.loop-place-test.true)

pub overflow_cast-byte_at : goal.overflow_cast-byte_at
overflow_cast-byte_at c =
    let size : c.greatest.result / 8 + 1 ≡ bitmap_size (kinds_of c.args.unique.now) = ap (λ (n : ℕ). n / 8 + 1) c.greatest.ensures in
    let fits : bitmap_byte (kinds_of c.args.unique.now) c.loop-place.place < 256 =
    byte_fits c.args.unique.now c.loop-place.place c.requires.types (subst (λ (n : ℕ). c.loop-place.place < n) size c.loop-place-test.true) in
    omega (arith, c.byte_at.ensures)

pub loop-place-preserved : goal.loop-place-preserved
loop-place-preserved c =
    let items : c.push-in-loop-place.new.self.items ≡ c.loop-place.bytes.items ++ c.byte_at.result ∷ [] = c.in_ok-push-3.ensures.items in
    items
    ∙ (λ i. c.loop-place.invariant i ++ c.byte_at.ensures i ∷ [])
    ∙ ap (λ (l : List ℕ). 0 ∷ (c.greatest.result / 8 + 1) ∷ l) (sym (bytes_more (bitmap_byte (kinds_of c.args.unique.now)) c.loop-place.place))
