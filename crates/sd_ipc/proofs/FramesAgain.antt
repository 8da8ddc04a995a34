-- Whole frames are read again, whatever follows.
use Rattle.std.proofs.Common.{◌≡◌, ℕ, ◌+◌, ◌^◌, ◌<◌, ◌≤◌, ◌++◌, ◌∙◌, false, eqb, ltb, List, [], ◌∷◌, Some, Result, Ok, Err, length, take, drop, refl, sym, ap, subst, arith, length-append, append_assoc}
use Rattle.std.specs.Prelude.{IsTrue, IfOk}
use Rattle.std.specs.Int.{to_be_bytes, from_be_bytes, w32}
use Rattle.std.specs.declared.alloc.AllocError.{AllocError}
use Rattle.std.proofs.Math.Seq.{take-append_seam, drop-append_seam}
use Rattle.std.proofs.lemmas.Bool.{le-leb, ne_eqb}
use Rattle.std.proofs.lemmas.Nat.{from_be_bytes-to_be_bytes_4}
use Rattle.sd_call.specs.declared.request.Request.{Request}
use Rattle.sd_call.specs.declared.item.Item.{Item}
use Rattle.sd_call.specs.declared.item.Item.TheVariants.{Reply, Add, Remove}
use Rattle.sd_call.specs.Answers.{frame_len}
use Rattle.sd_ipc.specs.declared.error.FrameError.{FrameError}
use Rattle.sd_ipc.specs.Frames.{frame_bytes, length_word, request_kind, item_kind, item_op, item_body}
use Rattle.sd_ipc.specs.Parts.{◌>>=◌, u32_part}
use Rattle.sd_ipc.specs.Reading.{word_at, whole_frame, behind_word, frame_of, size_behind, frame_size, request_of, item_of, framed_request, framed_item, if_any, request_in, item_in}
use Rattle.sd_ipc.specs.Again.{IsBody, IsItemBody, has_item_data}
use Rattle.sd_ipc.proofs.PartsAgain.{u32_again}

not_lt : (m n : ℕ) → n ≤ m → ltb m n ≡ false
not_lt m n h = grind arith

-- a length word
word_is : (w : List ℕ) (n : ℕ) → length w ≡ 4 → from_be_bytes w32 w ≡ n → 5 ≤ n → n ≤ 65536 → word_at w ≡ Ok (Some n)
unfolding word_at
word_is w n size is low high =
    let some : eqb (length w) 0 ≡ false = ne_eqb (length w) 0 (λ e. absurd (omega arith)) in
    let long : ltb (length w) 4 ≡ false = not_lt (length w) 4 (omega arith) in
    let all : take 4 w ≡ w = ap (λ (k : ℕ). take k w) (sym size) ∙ take_all w in
    let value : from_be_bytes w32 (take 4 w) ≡ n = ap (from_be_bytes w32) all ∙ is in
    rw (some, long, value, le-leb 5 n low, le-leb n 65536 high) refl
  where
    take_all : (l : List ℕ) → take (length l) l ≡ l
    take_all [] = refl
    take_all (x ∷ l) = ap (λ (t : List ℕ). x ∷ t) (take_all l)

-- a frame behind its length word
pub record IsRead (bytes rest : List ℕ) (n : ℕ) : Type 0 where
  pub frame : frame_of bytes ≡ Ok (Some rest)
  pub size : frame_size bytes ≡ 4 + n

frame_is : (w rest more : List ℕ) (n : ℕ) → length w ≡ 4 → from_be_bytes w32 w ≡ n → 5 ≤ n → n ≤ 65536 → length rest ≡ n → IsRead (w ++ (rest ++ more)) rest n
unfolding frame_of frame_size
frame_is w rest more n size is low high long =
    let front : take 4 (w ++ (rest ++ more)) ≡ w = ap (λ (k : ℕ). take k (w ++ (rest ++ more))) (sym size) ∙ take-append_seam w (rest ++ more) in
    let behind : drop 4 (w ++ (rest ++ more)) ≡ rest ++ more = ap (λ (k : ℕ). drop k (w ++ (rest ++ more))) (sym size) ∙ drop-append_seam w (rest ++ more) in
    let word : word_at (take 4 (w ++ (rest ++ more))) ≡ Ok (Some n) = ap word_at front ∙ word_is w n size is low high in
    let taken : take n (drop 4 (w ++ (rest ++ more))) ≡ rest = ap (take n) behind ∙ ap (λ (k : ℕ). take k (rest ++ more)) (sym long) ∙ take-append_seam rest more in
    let whole : whole_frame n rest ≡ Ok (Some rest) = rw (not_lt (length rest) n (omega arith)) refl in
    record {
      frame = ap (λ r. r >>= behind_word (w ++ (rest ++ more))) word ∙ ap (whole_frame n) taken ∙ whole;
      size = ap (λ r. 4 + size_behind r) word;
    }

pub frame_again : (kind op : ℕ) (body more : List ℕ) → length body ≤ 65531 → IsRead (frame_bytes kind op body ++ more) ((kind ∷ to_be_bytes w32 op) ++ body) (5 + length body)
frame_again kind op body more short =
    let w : List ℕ = to_be_bytes w32 (length_word body) in
    let rest : List ℕ = (kind ∷ to_be_bytes w32 op) ++ body in
    let n : length_word body ≡ 5 + length body = omega arith in
    let value : from_be_bytes w32 w ≡ 5 + length body = from_be_bytes-to_be_bytes_4 (length_word body) (omega arith) ∙ n in
    subst (λ (l : List ℕ). IsRead l rest (5 + length body)) (regrouped (to_be_bytes w32 (length_word body)) (kind ∷ to_be_bytes w32 op) body more)
    (frame_is w rest more (5 + length body) refl value (omega arith) (omega arith) (length-append (kind ∷ to_be_bytes w32 op) body))
  where
    regrouped : (w k b m : List ℕ) → w ++ ((k ++ b) ++ m) ≡ ((w ++ k) ++ b) ++ m
    regrouped w k b m = simp append_assoc

length-frame : (kind op : ℕ) (body : List ℕ) → length (frame_bytes kind op body) ≡ 9 + length body
length-frame kind op body =
    omega (arith, length-append (to_be_bytes w32 (length_word body) ++ kind ∷ to_be_bytes w32 op) body, length-append (to_be_bytes w32 (length_word body)) (kind ∷ to_be_bytes w32 op))

framed_request_again : (op : ℕ) (request : Request) (body : List ℕ) → op < 2 ^ 32 → IsBody request body → framed_request ((request_kind request ∷ to_be_bytes w32 op) ++ body) ≡ Ok (op, request)
unfolding framed_request
framed_request_again op request body fits b = at_parts (request_kind request) (to_be_bytes w32 op) (u32_again op body fits) b.again
  where
    at_parts : (kind : ℕ) (o : List ℕ) → u32_part (o ++ body) ≡ Ok (op, body) → request_of kind body ≡ Ok request
        → ◌≡◌ {A = Result (ℕ × Request) FrameError} (u32_part (o ++ body) >>= λ op. request_of kind op.1 >>= λ request. Ok (op.0, request)) (Ok (op, request))
    at_parts kind o e f = rw (e, f) refl

framed_item_again : (item : Item) (body : List ℕ) → item_op item < 2 ^ 32 → item_of (item_kind item) (item_op item) body ≡ Ok item → framed_item ((item_kind item ∷ to_be_bytes w32 (item_op item)) ++ body) ≡ Ok item
unfolding framed_item
framed_item_again item body fits b = at_parts (item_kind item) (item_op item) (to_be_bytes w32 (item_op item)) (u32_again (item_op item) body fits) b
  where
    at_parts : (kind op : ℕ) (o : List ℕ) → u32_part (o ++ body) ≡ Ok (op, body) → item_of kind op body ≡ Ok item → (u32_part (o ++ body) >>= λ op. item_of kind op.0 op.1) ≡ Ok item
    at_parts kind op o e f = rw (e, f) refl

request_again : (op : ℕ) (request : Request) (body more : List ℕ) → op < 2 ^ 32 → IsBody request body → request_in (frame_bytes (request_kind request) op body ++ more) ≡ Ok (Some (op, request))
unfolding request_in
request_again op request body more fits b =
    ap (λ r. r >>= if_any framed_request) (frame_again (request_kind request) op body more b.short).frame ∙ ap (λ r. r >>= λ v. Ok (Some v)) (framed_request_again op request body fits b)

item_again : (item : Item) (body more : List ℕ) → item_op item < 2 ^ 32 → length body ≤ 65531 → item_of (item_kind item) (item_op item) body ≡ Ok item → item_in (frame_bytes (item_kind item) (item_op item) body ++ more) ≡ Ok (Some item)
unfolding item_in
item_again item body more fits short b =
    ap (λ r. r >>= if_any framed_item) (frame_again (item_kind item) (item_op item) body more short).frame ∙ ap (λ r. r >>= λ v. Ok (Some v)) (framed_item_again item body fits b)

if_ok : {P Q : List ℕ → Type 0} (r : Result (List ℕ) AllocError) → ((x : List ℕ) → P x → Q x) → IfOk r P → IfOk r Q
if_ok (Ok x) f p = f x p
if_ok (Err e) f p = tt

-- what was written of a request
pub request_written : (op kind : ℕ) (request : Request) (held body : List ℕ) (frame : Result (List ℕ) AllocError) → op < 2 ^ 32 → kind ≡ request_kind request → held ≡ body → IsBody request body
    → IfOk frame (λ f. f ≡ frame_bytes kind op held) → IfOk frame (λ f. (more : List ℕ) → request_in (f ++ more) ≡ Ok (Some (op, request)))
request_written op kind request held body frame fits k h b =
    if_ok frame (λ f e more. ap (λ (l : List ℕ). request_in (l ++ more)) (e ∙ ap (λ (n : ℕ). frame_bytes n op held) k ∙ ap (frame_bytes (request_kind request) op) h) ∙ request_again op request body more fits b)

pub request_size : (op kind : ℕ) (request : Request) (held body : List ℕ) (frame : Result (List ℕ) AllocError) → held ≡ body → IsBody request body
    → IfOk frame (λ f. f ≡ frame_bytes kind op held) → IfOk frame (λ f. (more : List ℕ) → frame_size (f ++ more) ≡ length f)
request_size op kind request held body frame h b =
    if_ok frame (λ f e more. let same : f ≡ frame_bytes kind op body = e ∙ ap (frame_bytes kind op) h in
    ap (λ (l : List ℕ). frame_size (l ++ more)) same ∙ (frame_again kind op body more b.short).size ∙ sum_of kind op body ∙ ap length (sym same))
  where
    sum_of : (kind op : ℕ) (body : List ℕ) → 4 + (5 + length body) ≡ length (frame_bytes kind op body)
    sum_of kind op body = omega (arith, length-frame kind op body)

length-item_body : (item : Item) → 9 + length (item_body item) ≡ frame_len item
length-item_body (Reply op verb code) = refl
length-item_body (Add op answer) = refl
length-item_body (Remove op answer) = refl

-- what was written of an item
pub item_written : (item : Item) (kind op : ℕ) (held body : List ℕ) (frame : Result (List ℕ) AllocError) → op < 2 ^ 32 → kind ≡ item_kind item → op ≡ item_op item → held ≡ body → IsItemBody item body
    → IfOk frame (λ f. f ≡ frame_bytes kind op held) → IfOk frame (λ f. frame_len item ≤ 65540 → IsTrue (has_item_data item) → (more : List ℕ) → item_in (f ++ more) ≡ Ok (Some item))
item_written item kind op held body frame fits k o h b =
    if_ok frame (λ f e short valid more. ap (λ (l : List ℕ). item_in (l ++ more))
    (e ∙ ap (λ (n : ℕ). frame_bytes n op held) k ∙ ap (λ (n : ℕ). frame_bytes (item_kind item) n held) o ∙ ap (frame_bytes (item_kind item) (item_op item)) h)
    ∙ item_again item body more (subst (λ (n : ℕ). n < 2 ^ 32) o fits) (omega (arith, length-item_body item, ap length b.body)) (b.again valid))

pub item_size : (item : Item) (kind op : ℕ) (held body : List ℕ) (frame : Result (List ℕ) AllocError) → held ≡ body → IsItemBody item body
    → IfOk frame (λ f. f ≡ frame_bytes kind op held) → IfOk frame (λ f. frame_len item ≤ 65540 → (more : List ℕ) → frame_size (f ++ more) ≡ length f)
item_size item kind op held body frame h b =
    if_ok frame (λ f e short more. let same : f ≡ frame_bytes kind op body = e ∙ ap (frame_bytes kind op) h in
    ap (λ (l : List ℕ). frame_size (l ++ more)) same ∙ (frame_again kind op body more (omega (arith, length-item_body item, ap length b.body))).size ∙ sum_of kind op body ∙ ap length (sym same))
  where
    sum_of : (kind op : ℕ) (body : List ℕ) → 4 + (5 + length body) ≡ length (frame_bytes kind op body)
    sum_of kind op body = omega (arith, length-frame kind op body)
