-- The bytes of queued items.
use Rattle.std.proofs.Common.{◌≡◌, ℕ, zero, suc, ◌+◌, ◌-◌, ◌<◌, true, false, ◌≤◌, List, [], ◌∷◌, ◌++◌, take, drop, length, get_or, Option, Some, None, refl, ap, ◌∙◌, sym, arith, add-one}
use Rattle.std.proofs.lemmas.List.{take-append-drop, take_all}
use Rattle.std.specs.Prelude.{nat_lt}
use Rattle.sd_call.specs.declared.item.Item.{Item}
use Rattle.sd_call.specs.Answers.{frame_len, frames_len}
use Rattle.sd_outbox.specs.Queues.{queued, passes, bytes_of}

-- one item more
pub frames_len_pushed : (items : List Item) (item : Item) → frames_len (items ++ item ∷ []) ≡ frames_len items + frame_len item
frames_len_pushed [] item = omega arith
frames_len_pushed (first ∷ items) item = omega (arith, frames_len_pushed items item)

pub frames_len-append : (xs ys : List Item) → frames_len (xs ++ ys) ≡ frames_len xs + frames_len ys
frames_len-append [] ys = omega arith
frames_len-append (x ∷ xs) ys = omega (arith, frames_len-append xs ys)

pub frames_next : (xs : List Item) (i : ℕ) (x : Item) → i < length xs → x ≡ get_or xs i x → frames_len (take (i + 1) xs) ≡ frames_len (take i xs) + frame_len x
frames_next xs i x h e = ap (λ n. frames_len (take n xs)) (add-one i) ∙ next xs i x h e
  where
    next : (ys : List Item) (k : ℕ) (y : Item) → k < length ys → y ≡ get_or ys k y → frames_len (take (suc k) ys) ≡ frames_len (take k ys) + frame_len y
    next [] k y h e = absurd (omega arith)
    next (first ∷ ys) zero y h e = let same : frame_len first + 0 ≡ frame_len y + 0 = ap (λ z. frame_len z + 0) (sym e) in omega (arith, same)
    next (first ∷ ys) (suc k) y h e = let rest : frames_len (take (suc k) ys) ≡ frames_len (take k ys) + frame_len y = next ys k y (omega arith) e in omega (arith, rest)

pub frames_within : (xs : List Item) (i : ℕ) → frames_len (take i xs) ≤ frames_len xs
frames_within xs i =
    let whole : frames_len xs ≡ frames_len (take i xs) + frames_len (drop i xs) = ap frames_len (sym (take-append-drop i xs)) ∙ frames_len-append (take i xs) (drop i xs) in
    omega (arith, whole)

-- the bytes of a queue are those of its items
pub bytes_of-queued : (items : Option (List Item)) → bytes_of items ≡ frames_len (queued items)
bytes_of-queued None = refl
bytes_of-queued (Some items) = refl

-- items pass the limit where some of them leave no room for the next
pub passes_at : (xs : List Item) (queue : Option (List Item)) (i : ℕ) (x : Item) (room : ℕ) → i < length xs → x ≡ get_or xs i x → bytes_of queue ≤ 16777216 →
    room + frames_len (take i xs) ≡ 16777216 - bytes_of queue → room < frame_len x → true ≡ passes xs queue
passes_at xs queue i x room h e within left over =
    let next : frames_len (take (i + 1) xs) ≡ frames_len (take i xs) + frame_len x = frames_next xs i x h e in
    let few : frames_len (take (i + 1) xs) ≤ frames_len xs = frames_within xs (i + 1) in
    let whole : frames_len (queued queue ++ xs) ≡ frames_len (queued queue) + frames_len xs = frames_len-append (queued queue) xs in
    let same : bytes_of queue ≡ frames_len (queued queue) = bytes_of-queued queue in
    let past : 16777216 < frames_len (queued queue ++ xs) = omega (arith, next, few, whole, same, within, left, over) in
    let told : nat_lt 16777216 (frames_len (queued queue ++ xs)) ≡ true = grind (arith, past) in
    sym told

-- and they don't where there is room for all of them
pub passes_not : (xs : List Item) (queue : Option (List Item)) (i room : ℕ) → length xs ≤ i → bytes_of queue ≤ 16777216 → room + frames_len (take i xs) ≡ 16777216 - bytes_of queue → false ≡ passes xs queue
passes_not xs queue i room h within left =
    let all : frames_len (take i xs) ≡ frames_len xs = ap frames_len (take_all i xs h) in
    let whole : frames_len (queued queue ++ xs) ≡ frames_len (queued queue) + frames_len xs = frames_len-append (queued queue) xs in
    let same : bytes_of queue ≡ frames_len (queued queue) = bytes_of-queued queue in
    let few : frames_len (queued queue ++ xs) ≤ 16777216 = omega (arith, all, whole, same, within, left) in
    let told : nat_lt 16777216 (frames_len (queued queue ++ xs)) ≡ false = grind (arith, few) in
    sym told
