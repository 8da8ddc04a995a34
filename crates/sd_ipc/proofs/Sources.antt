-- What was taken from a source, and what it has left.
use Rattle.std.proofs.Common.{◌≡◌, inl, inr, Bool, true, false, cond, eqb, leb, ltb, ◌&&◌, refl, ℕ, ◌+◌, ◌≤◌, ◌++◌, ◌∙◌, List, Option, Some, None, Result, Ok, Err, length, take, drop, sym, ap, subst, arith, length-append, length-take, append_assoc}
use Rattle.std.proofs.Math.Seq.{drop-append_seam}
use Rattle.std.specs.Io.KnownBytes.{Consumes}
use Rattle.std.proofs.lemmas.List.{drop-drop}
use Rattle.std.proofs.lemmas.Bool.{leb-true, and_parts}
use Rattle.std.specs.Int.{from_be_bytes, w32}
use Rattle.sd_ipc.specs.declared.error.FrameError.{FrameError}
use Rattle.sd_ipc.specs.declared.error.FrameError.TheVariants.{BadLength, Truncated, ReadFault, NoMemory}
use Rattle.sd_ipc.specs.Parts.{◌>>=◌, IsReadAs}
use Rattle.sd_ipc.specs.Reading.{word_at, whole_frame, behind_word, frame_of, size_behind, frame_size, if_any}
use Rattle.sd_ipc.specs.Taking.{Told, IsRefused, IsOf, TakesUpTo, TakesWhole}

-- one piece more was taken
pub takes_more : (old mid new : Option (List ℕ)) (taken buffer : List ℕ) (wanted count : ℕ)
    → ((bytes : List ℕ) → old ≡ Some bytes → (rest : List ℕ) × (bytes ≡ taken ++ rest) × (mid ≡ Some rest))
    → Consumes mid new (take count buffer) → length taken + count ≤ wanted → Told old (λ bytes. TakesUpTo wanted bytes new)
takes_more old mid new taken buffer wanted count so_far more room bytes e = at_new new (subst (λ (m : Option (List ℕ)). Consumes m new (take count buffer)) s.2 more)
  where
    piece : List ℕ
    piece = take count buffer

    s : (rest : List ℕ) × (bytes ≡ taken ++ rest) × (mid ≡ Some rest)
    s = so_far bytes e

    at_new : (new : Option (List ℕ)) → Consumes (Some s.0) new piece → TakesUpTo wanted bytes new
    at_new None h = absurd h
    at_new (Some left) h =
        let parts : bytes ≡ (taken ++ piece) ++ left = s.1 ∙ ap (λ (l : List ℕ). taken ++ l) h ∙ sym (append_assoc taken piece left) in
        let behind : drop (length (taken ++ piece)) bytes ≡ left = ap (drop (length (taken ++ piece))) parts ∙ drop-append_seam (taken ++ piece) left in
        (length (taken ++ piece), omega (arith, length-append taken piece, length-take count buffer), ap Some (sym behind))

-- what a take of the length word and of what is behind it comes to
pub record Comes {X : Type 0} (result wanted : X) (bytes : List ℕ) (left : Option (List ℕ)) : Type 0 where
  pub value : result ≡ wanted
  pub whole : left ≡ Some (drop (frame_size bytes) bytes)
  pub within : TakesUpTo (frame_size bytes) bytes left

comes : {X : Type 0} (result wanted : X) (bytes : List ℕ) (left : Option (List ℕ)) → wanted ≡ result → left ≡ Some (drop (frame_size bytes) bytes) → Comes result wanted bytes left
comes result wanted bytes left v w = record { value = sym v; whole = w; within = (frame_size bytes, omega arith, w) }

-- no frame behind the length word
pub bad_word : (bytes word : List ℕ) (e : FrameError) (left : Option (List ℕ)) → (word ≡ take 4 bytes) × (left ≡ Some (drop 4 bytes)) → Err e ≡ word_at word → Comes (Err e) (frame_of bytes) bytes left
unfolding frame_of frame_size
bad_word bytes word e left t is =
    let w : word_at (take 4 bytes) ≡ Err e = ap word_at (sym t.0) ∙ sym is in
    comes (Err e) (frame_of bytes) bytes left (ap (λ r. r >>= behind_word bytes) w) (t.1 ∙ ap (λ r. Some (drop (4 + size_behind r) bytes)) (sym w))

pub no_word : (bytes word : List ℕ) (left : Option (List ℕ)) → (word ≡ take 4 bytes) × (left ≡ Some (drop 4 bytes)) → Ok None ≡ word_at word → Comes (Ok None) (frame_of bytes) bytes left
unfolding frame_of frame_size
no_word bytes word left t is =
    let w : word_at (take 4 bytes) ≡ Ok None = ap word_at (sym t.0) ∙ sym is in
    comes (Ok None) (frame_of bytes) bytes left (ap (λ r. r >>= behind_word bytes) w) (t.1 ∙ ap (λ r. Some (drop (4 + size_behind r) bytes)) (sym w))

-- as many bytes as the length word says, or what is there of them
pub a_word : (bytes word frame : List ℕ) (size : ℕ) (mid left : Option (List ℕ)) → (word ≡ take 4 bytes) × (mid ≡ Some (drop 4 bytes)) → Ok (Some size) ≡ word_at word
    → ((behind : List ℕ) → mid ≡ Some behind → (frame ≡ take size behind) × (left ≡ Some (drop size behind))) → Comes (whole_frame size frame) (frame_of bytes) bytes left
unfolding frame_of frame_size
a_word bytes word frame size mid left t is next =
    let w : word_at (take 4 bytes) ≡ Ok (Some size) = ap word_at (sym t.0) ∙ sym is in
    let n = next (drop 4 bytes) t.1 in
    comes (whole_frame size frame) (frame_of bytes) bytes left (ap (λ r. r >>= behind_word bytes) w ∙ ap (whole_frame size) (sym n.0))
    (n.1 ∙ ap Some (drop-drop size 4 bytes) ∙ ap (λ r. Some (drop (4 + size_behind r) bytes)) (sym w))

-- the length word's bytes are within the frame's, and so are those behind it
pub word_within : (bytes : List ℕ) (left : Option (List ℕ)) → TakesUpTo 4 bytes left → TakesUpTo (frame_size bytes) bytes left
unfolding frame_size
word_within bytes left t = (t.0, omega (arith, t.1), t.2)

pub frame_within : (bytes word : List ℕ) (size : ℕ) (mid left : Option (List ℕ)) → (word ≡ take 4 bytes) × (mid ≡ Some (drop 4 bytes)) → Ok (Some size) ≡ word_at word
    → ((behind : List ℕ) → mid ≡ Some behind → TakesUpTo size behind left) → TakesUpTo (frame_size bytes) bytes left
unfolding frame_size
frame_within bytes word size mid left t is next =
    let w : word_at (take 4 bytes) ≡ Ok (Some size) = ap word_at (sym t.0) ∙ sym is in
    let n = next (drop 4 bytes) t.1 in
    (4 + n.0, omega (arith, n.1, ap size_behind w), n.2 ∙ ap Some (drop-drop n.0 4 bytes))

-- the frame is at most 65,540 bytes
word_most : (none short long : Bool) (size : ℕ) → (long ≡ true → size ≤ 65536)
    → size_behind (cond none (Ok None) (cond short (Err Truncated) (cond long (Ok (Some size)) (Err BadLength)))) ≤ 65536
word_most true short long size h = omega arith
word_most false true long size h = omega arith
word_most false false true size h = h refl
word_most false false false size h = omega arith

pub frame_most : (bytes : List ℕ) → frame_size bytes ≤ 65540
unfolding frame_size word_at
frame_most bytes =
    let size : ℕ = from_be_bytes w32 (take 4 (take 4 bytes)) in
    let most = word_most (eqb (length (take 4 bytes)) 0) (ltb (length (take 4 bytes)) 4) (leb 5 size && leb size 65536) size (λ h. leb-true size 65536 (and_parts (leb 5 size) (leb size 65536) h).1) in
    omega (arith, most)

-- an error passes
err_is : {X : Type 0} (e f : FrameError) → ◌≡◌ {A = Result X FrameError} (Err e) (Err f) → e ≡ f
err_is e f h = cc

never_ok : {X : Type 0} (x : X) (e : FrameError) → ◌≡◌ {A = Result X FrameError} (Ok x) (Err e) → ⊥
never_ok x e h = cc

refused_ok : {X : Type 0} (x : X) → IsRefused {X = X} (Ok x) → ⊥
refused_ok x (inl h) = never_ok x ReadFault h
refused_ok x (inr h) = never_ok x NoMemory h

refused_err : {X Y : Type 0} (e : FrameError) → IsRefused {X = X} (Err e) → IsRefused {X = Y} (Err e)
refused_err e (inl h) = inl (ap Err (err_is e ReadFault h))
refused_err e (inr h) = inr (ap Err (err_is e NoMemory h))

-- what comes of a frame that couldn't be had
pub no_frame : {X Y : Type 0} (e : FrameError) (wanted : Result X FrameError) (f : X → Result Y FrameError) → IsOf (Err e) wanted → IsOf (Err e) (wanted >>= f)
no_frame e wanted f (inl h) = inl (refused_err e h)
no_frame {X} {Y} e wanted f (inr h) = inr (ap (λ r. r >>= f) h)

pub no_frame_whole : {X Y : Type 0} (e : FrameError) (size : ℕ) (bytes : List ℕ) (left : Option (List ℕ)) → TakesWhole {X = X} (Err e) size bytes left → TakesWhole {X = Y} (Err e) size bytes left
no_frame_whole e size bytes left (inl h) = inl (refused_err e h)
no_frame_whole e size bytes left (inr h) = inr h

-- of no frame at all
pub none_of : {Y : Type 0} (wanted : Result (Option (List ℕ)) FrameError) (f : List ℕ → Result Y FrameError) → IsOf (Ok None) wanted → IsOf (Ok None) (wanted >>= if_any f)
none_of wanted f (inl h) = absurd (refused_ok None h)
none_of wanted f (inr h) = inr (ap (λ r. r >>= if_any f) h)

-- and of a frame
pub some_of : {Y : Type 0} (wanted : Result (Option (List ℕ)) FrameError) (f : List ℕ → Result Y FrameError) (frame : List ℕ) (y : Y) → IsOf (Ok (Some frame)) wanted → IsReadAs (Ok y) (f frame) → IsOf (Ok (Some y)) (wanted >>= if_any f)
some_of wanted f frame y (inl h) r = absurd (refused_ok (Some frame) h)
some_of wanted f frame y (inr h) (inl r) = absurd (never_ok y NoMemory r)
some_of wanted f frame y (inr h) (inr r) = inr (ap (λ v. v >>= λ x. Ok (Some x)) r ∙ ap (λ w. w >>= if_any f) h)

pub some_err : {Y : Type 0} (wanted : Result (Option (List ℕ)) FrameError) (f : List ℕ → Result Y FrameError) (frame : List ℕ) (e : FrameError) → IsOf (Ok (Some frame)) wanted → IsReadAs (Err e) (f frame) → IsOf (Err e) (wanted >>= if_any f)
some_err wanted f frame e (inl h) r = absurd (refused_ok (Some frame) h)
some_err wanted f frame e (inr h) (inl r) = inl (inr (ap Err (err_is e NoMemory r)))
some_err wanted f frame e (inr h) (inr r) = inr (ap (λ v. v >>= λ x. Ok (Some x)) r ∙ ap (λ w. w >>= if_any f) h)

pub whole_of : {X Y : Type 0} (x : X) (result : Result Y FrameError) (size : ℕ) (bytes : List ℕ) (left : Option (List ℕ)) → TakesWhole (Ok x) size bytes left → TakesWhole result size bytes left
whole_of x result size bytes left (inl h) = absurd (refused_ok x h)
whole_of x result size bytes left (inr h) = inr h

-- what is no failure of the source stays none
pub other_fault : {X Y : Type 0} (e : FrameError) → (◌≡◌ {A = Result X FrameError} (Err e) (Err ReadFault) → ⊥) → ◌≡◌ {A = Result Y FrameError} (Err e) (Err ReadFault) → ⊥
other_fault e n h = n (ap Err (err_is e ReadFault h))
