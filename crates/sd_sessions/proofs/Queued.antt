-- Items put behind a queue one after another, and taken from it.
use Rattle.std.proofs.Common.{◌≡◌, ◌↔◌, ℕ, zero, suc, ◌+◌, ◌<◌, ◌≤◌, true, false, List, [], ◌∷◌, ◌++◌, take, drop, Option, Some, None, Result, Ok, Err, refl, ap, ◌∙◌, sym, append_assoc, append-nil, arith, add-one, cond, is_ok, IsOk}
use Rattle.std.specs.Prelude.{OnOk}
use Rattle.std.specs.Option.{option_map}
use Rattle.std.proofs.lemmas.Bool.{ltb-true, ltb-false}
use Rattle.sd_call.specs.declared.item.Item.{Item}
use Rattle.sd_call.specs.Answers.{frame_len, frames_len}
use Rattle.sd_outbox.specs.declared.outbox.AppendError.{AppendError}
use Rattle.sd_outbox.specs.declared.outbox.AppendError.TheVariants.{Cut, NoMemory}
use Rattle.sd_outbox.specs.declared.outbox.Taken.TheVariants.{One}
use Rattle.sd_outbox.specs.Queues.{would_pass, with_item, first_of, rest_of}
use Rattle.sd_sessions.specs.Changes.{passes}
use Rattle.sd_sessions.specs.Kept.{queued, joined}

-- the frames of a queue are within its limit
abbrev pub Within : Option (List Item) → Type 0
Within None = Unit {0}
Within (Some items) = frames_len items ≤ 16777216

pub frames_len-append : (xs ys : List Item) → frames_len (xs ++ ys) ≡ frames_len xs + frames_len ys
frames_len-append [] ys = omega arith
frames_len-append (x ∷ xs) ys = let ih = frames_len-append xs ys in omega arith

pub within-joined : (queue : Option (List Item)) (items : List Item) → passes (queued queue) items ≡ false → Within (joined queue items)
within-joined None items h = tt
within-joined (Some before) items h = ltb-false 16777216 (frames_len (before ++ items)) h

-- one item more
pub queue-next : (r : Result (Unit {0}) AppendError) (before after : Option (List Item)) (item : Item) (rest : List Item) → OnOk r (after ≡ with_item item before) →
    (r ≡ Err Cut) ↔ (would_pass item before ≡ true) → (r ≡ Err Cut → after ≡ None) → (r ≡ Err NoMemory → ⊥) → Within (joined before (item ∷ rest)) →
    joined after rest ≡ joined before (item ∷ rest)
queue-next r None after item rest ok cut emptied reserved within = ap (λ q. joined q rest) (emptied (cut.1 refl))
queue-next (Ok u) (Some before) after item rest ok cut emptied reserved within =
    ap (λ q. joined q rest) ok ∙ ap (λ (items : List Item). Some items) (append_assoc before (item ∷ []) rest)
queue-next (Err NoMemory) (Some before) after item rest ok cut emptied reserved within = absurd (reserved refl)
queue-next (Err Cut) (Some before) after item rest ok cut emptied reserved within =
    let past : 16777216 < frames_len before + frame_len item = ltb-true 16777216 (frames_len before + frame_len item) (cut.0 refl) in
    let whole = frames_len-append before (item ∷ rest) in
    absurd (omega arith)

pub joined-none : (queue : Option (List Item)) → joined queue [] ≡ queue
joined-none None = refl
joined-none (Some items) = ap (λ (xs : List Item). Some xs) (append-nil items)

-- what a take does to what is left behind so many items
pub take-first : (queue : List Item) (n : ℕ) (item : Item) → first_of (Some (drop n queue)) ≡ One item →
    (take (suc n) queue ≡ take n queue ++ item ∷ []) × (rest_of (Some (drop n queue)) ≡ Some (drop (suc n) queue))
take-first [] zero item e = cc
take-first [] (suc n) item e = cc
take-first (first ∷ queue) zero item e = let same : first ≡ item = cc in (ap (λ (x : Item). x ∷ []) same, refl)
take-first (first ∷ queue) (suc n) item e = let rest = take-first queue n item e in (ap (λ xs. first ∷ xs) rest.0, rest.1)

pub take-next-of : (queue rest : Option (List Item)) (n : ℕ) (item : Item) → One item ≡ first_of (option_map (drop n) queue) → rest ≡ rest_of (option_map (drop n) queue) →
    (take (n + 1) (queued queue) ≡ take n (queued queue) ++ item ∷ []) × (rest ≡ option_map (drop (n + 1)) queue)
take-next-of None rest n item e left = cc
take-next-of (Some items) rest n item e left =
    let next = take-first items n item (sym e) in
    (ap (λ k. take k items) (add-one n) ∙ next.0, left ∙ next.1 ∙ ap (λ k. Some (drop k items)) (sym (add-one n)))

-- nothing is left behind so many items
none-left : (items : List Item) (n max : ℕ) → n ≤ max → drop n items ≡ [] → (take n items ≡ take max items) × (drop max items ≡ [])
none-left items zero max h e = (sym (ap (take max) e ∙ take-none max), ap (drop max) e ∙ drop-none max)
  where
    take-none : (k : ℕ) → take {A = Item} k [] ≡ []
    take-none zero = refl
    take-none (suc k) = refl

    drop-none : (k : ℕ) → drop {A = Item} k [] ≡ []
    drop-none zero = refl
    drop-none (suc k) = refl
none-left [] (suc n) zero h e = (refl, refl)
none-left [] (suc n) (suc max) h e = (refl, refl)
none-left (item ∷ items) (suc n) zero h e = absurd (omega arith)
none-left (item ∷ items) (suc n) (suc max) h e = let rest = none-left items n max (omega arith) e in (ap (λ xs. item ∷ xs) rest.0, rest.1)

pub take-end : (queue rest : Option (List Item)) (n max : ℕ) → n ≤ max → ((item : Item) → One item ≡ first_of (option_map (drop n) queue) → ⊥) → rest ≡ rest_of (option_map (drop n) queue) →
    (take n (queued queue) ≡ take max (queued queue)) × (rest ≡ option_map (drop max) queue)
take-end None rest n max h e left = (take-both n max, left)
  where
    take-none : (k : ℕ) → take {A = Item} k [] ≡ []
    take-none zero = refl
    take-none (suc k) = refl

    take-both : (j k : ℕ) → take {A = Item} j [] ≡ take k []
    take-both j k = take-none j ∙ sym (take-none k)
take-end (Some items) rest n max h e left = of (drop n items) refl
  where
    of : (dropped : List Item) → drop n items ≡ dropped → (take n items ≡ take max items) × (rest ≡ Some (drop max items))
    of [] none =
        let both = none-left items n max h none in
        (both.0, left ∙ ap (λ xs. rest_of (Some xs)) none ∙ ap (λ (xs : List Item). Some xs) (sym both.1))
    of (item ∷ others) some = absurd (e item (sym (ap (λ xs. first_of (Some xs)) some)))

pub if_ok : {X E : Type 0} {Y : Type 0} (r : Result X E) (x y : Y) → IsOk r → cond (is_ok r) x y ≡ x
if_ok (Ok u) x y h = refl
if_ok (Err e) x y h = cc
