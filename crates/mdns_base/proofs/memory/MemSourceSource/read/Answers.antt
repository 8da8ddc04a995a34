use Rattle.std.proofs.Common.{◌≡◌, ◌+◌, ◌-◌, ◌<◌, ◌≤◌, ◌++◌, List, ℕ, [], ◌∙◌, ap, length, take, drop, min, arith, length-take, length-drop, length-append}
use Rattle.std.proofs.lemmas.List.{take-append-le, take_rest, take_all, drop_all}
use Rattle.std.proofs.lemmas.Simd.{chunk-drop}
use Rattle.mdns_base.proofs.memory.MemSourceSource.read.Goals as goal

-- the front of what is left, read over the front of a buffer, and what is left then
front : (xs into copied : List ℕ) (t n : ℕ) → copied ≡ take n (drop t xs) → length copied ≡ n → drop t xs ≡ take n (copied ++ drop n into) ++ drop (t + n) xs
front xs into copied t n is len =
    let fits : n ≤ length copied = omega arith in
    let fits_too : length copied ≤ n = omega arith in
    rw (take-append-le n copied (drop n into) fits, take_all n copied fits_too, is) (chunk-drop t n xs)

nothing : (xs into copied : List ℕ) (t n : ℕ) → n ≡ min (length (drop t xs)) (length into) → length copied ≡ n → t ≤ length xs → n ≡ 0 → 0 < length (copied ++ drop n into) → drop (t + n) xs ≡ []
nothing xs into copied t n is len within zero some =
    drop_all (t + n) xs (omega (arith, length-drop t xs, length-append copied (drop n into), length-drop n into))

pub returns-clause-bytes : goal.returns-clause-bytes
returns-clause-bytes c =
    let t = c.args.self.now.taken in
    let n = c.min-count.result in
    let bytes = c.args.self.now.bytes.items in
    let within : t ≤ length bytes = omega arith in
    let rest : take (length c.deref-2.result.now - t) (drop t c.deref-2.result.now) ≡ drop t bytes =
    take_rest c.deref-2.result.now t ∙ ap (drop t) c.deref-2.ensures.value in
    let copied : c.copy_from_slice.new.self ≡ take n (drop t bytes) =
    c.copy_from_slice.ensures.after ∙ ap (take n) rest in
    let least : n ≡ min (length (drop t bytes)) (length c.args.into.now) =
    c.min-count.ensures ∙ ap (λ (s : List ℕ). min (length s) (length c.args.into.now)) rest in
    let len : length c.copy_from_slice.new.self ≡ n = rw copied (omega (arith, length-take n (drop t bytes))) in (
      front bytes c.args.into.now c.copy_from_slice.new.self t n copied len,
      nothing bytes c.args.into.now c.copy_from_slice.new.self t n least len within,
    )
