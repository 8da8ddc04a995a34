-- Writing things in a row, one by one.
use Rattle.std.proofs.Common.{◌≡◌, ℕ, suc, ◌+◌, ◌<◌, ◌≤◌, ◌++◌, List, [], ◌∷◌, ◌∙◌, length, drop, get_or, refl, arith, ap, sym, subst, append_assoc, append-nil, length-append, length-drop}
use Rattle.std.proofs.Math.Seq.{drop-cons}
use Rattle.std.proofs.lemmas.List.{nil_from_length}
use Rattle.dns_pointers.specs.Writing.{Offsets, Piece, onto}
use Rattle.dns_message.specs.Writing.{written_all}

-- the first things were written, and the rest are to come
pub record ArePartWritten {X : Type 0} (written : Offsets → ℕ → X → Piece) (before : Offsets) (start : List ℕ) (all : List X) (names : Offsets) (out : List ℕ) (rest : List X) : Type 0 where
  pub front : List ℕ
  pub out_is : out ≡ start ++ front
  pub same : onto front (written_all written names (length out) rest) ≡ written_all written before (length start) all

pub none_written : {X : Type 0} (written : Offsets → ℕ → X → Piece) (before : Offsets) (start : List ℕ) (all : List X)
    → ArePartWritten written before start all before start all
none_written written before start all = record { front = []; out_is = sym (append-nil start); same = refl }

pub one_written : {X : Type 0} (written : Offsets → ℕ → X → Piece) (before names now : Offsets) (start out after : List ℕ) (all : List X) (x : X) (rest : List X)
    → ArePartWritten written before start all names out (x ∷ rest)
    → after ≡ out ++ (written names (length out) x).bytes → now ≡ (written names (length out) x).names
    → ArePartWritten written before start all now after rest
unfolding written_all
one_written written before names now start out after all x rest w e n =
    let bytes = (written names (length out) x).bytes in
    let size : length after ≡ length out + length (written names (length out) x).bytes = omega (arith, ap length e, length-append out (written names (length out) x).bytes) in
    record {
      front = w.front ++ (written names (length out) x).bytes;
      out_is = e ∙ ap (λ (l : List ℕ). l ++ (written names (length out) x).bytes) w.out_is ∙ append_assoc start w.front (written names (length out) x).bytes;
      same = rw (size, n) (moved (written_all written (written names (length out) x).names (length out + length (written names (length out) x).bytes) rest) ∙ w.same);
    }
  where
    moved : (p : Piece) → onto (w.front ++ (written names (length out) x).bytes) p ≡ onto w.front (onto (written names (length out) x).bytes p)
    moved p = ap (λ (l : List ℕ). record { bytes = l; names = p.names }) (append_assoc w.front (written names (length out) x).bytes p.bytes)

-- what was written is no longer than the whole
pub part_short : {X : Type 0} (written : Offsets → ℕ → X → Piece) (before names : Offsets) (start out : List ℕ) (all rest : List X)
    → ArePartWritten written before start all names out rest → length out ≤ length start + length (written_all written before (length start) all).bytes
part_short written before names start out all rest w =
    let size = ap (λ (p : Piece). length p.bytes) w.same in
    omega (arith, ap length w.out_is, length-append start w.front, length-append w.front (written_all written names (length out) rest).bytes, size)

-- nor is it with the next thing
pub next_short : {X : Type 0} (written : Offsets → ℕ → X → Piece) (before names : Offsets) (start out : List ℕ) (all : List X) (x : X) (rest : List X)
    → ArePartWritten written before start all names out (x ∷ rest)
    → length out + length (written names (length out) x).bytes ≤ length start + length (written_all written before (length start) all).bytes
next_short written before names start out all x rest w =
    omega (
      arith,
      part_short written before (written names (length out) x).names start (out ++ (written names (length out) x).bytes) all rest
          (one_written written before names (written names (length out) x).names start out (out ++ (written names (length out) x).bytes) all x rest w refl refl),
      length-append out (written names (length out) x).bytes,
    )

pub bytes_written : {X : Type 0} (written : Offsets → ℕ → X → Piece) (before names : Offsets) (start out : List ℕ) (all : List X)
    → ArePartWritten written before start all names out [] → out ≡ start ++ (written_all written before (length start) all).bytes
unfolding written_all
bytes_written written before names start out all w =
    w.out_is ∙ ap (λ (l : List ℕ). start ++ l) (sym (append-nil w.front) ∙ ap (λ (p : Piece). p.bytes) w.same)

pub names_written : {X : Type 0} (written : Offsets → ℕ → X → Piece) (before names : Offsets) (start out : List ℕ) (all : List X)
    → ArePartWritten written before start all names out [] → names ≡ (written_all written before (length start) all).names
unfolding written_all
names_written written before names start out all w = ap (λ (p : Piece). p.names) w.same

-- the thing at an index, and those behind it
pub part_at : {X : Type 0} (written : Offsets → ℕ → X → Piece) (before names : Offsets) (start out : List ℕ) (all xs : List X) (i : ℕ) (x : X)
    → i < length xs → x ≡ get_or xs i x → ArePartWritten written before start all names out (drop i xs)
    → ArePartWritten written before start all names out (x ∷ drop (i + 1) xs)
part_at {X} written before names start out all xs i x h e w =
    let one : i + 1 ≡ suc i = omega arith in
    let cut : drop i xs ≡ x ∷ drop (i + 1) xs = rw one (drop-cons xs i x h ∙ ap (λ (y : X). y ∷ drop (suc i) xs) (sym e)) in
    subst (λ (l : List X). ArePartWritten written before start all names out l) cut w

-- nothing is left
pub part_end : {X : Type 0} (written : Offsets → ℕ → X → Piece) (before names : Offsets) (start out : List ℕ) (all xs : List X) (i : ℕ)
    → length xs ≤ i → ArePartWritten written before start all names out (drop i xs) → ArePartWritten written before start all names out []
part_end {X} written before names start out all xs i h w =
    let none : drop i xs ≡ [] = nil_from_length (drop i xs) (omega (arith, length-drop i xs)) in
    subst (λ (l : List X). ArePartWritten written before start all names out l) none w

-- Things in a row are those of a front, and the rest behind them.
pub all_append : {X : Type 0} (written : Offsets → ℕ → X → Piece) (names : Offsets) (at : ℕ) (xs ys : List X)
    → let front = written_all written names at xs in
    written_all written names at (xs ++ ys) ≡ onto front.bytes (written_all written front.names (at + length front.bytes) ys)
unfolding written_all
all_append written names at [] ys = let place : at + 0 ≡ at = omega arith in rw place refl
all_append written names at (x ∷ xs) ys =
    let first = written names at x in
    let rest = written_all written (written names at x).names (at + length (written names at x).bytes) xs in
    let place : at + length ((written names at x).bytes ++ (written_all written (written names at x).names (at + length (written names at x).bytes) xs).bytes)
    ≡ at + length (written names at x).bytes + length (written_all written (written names at x).names (at + length (written names at x).bytes) xs).bytes =
    omega (arith, length-append (written names at x).bytes (written_all written (written names at x).names (at + length (written names at x).bytes) xs).bytes) in
    ap (onto (written names at x).bytes) (all_append written (written names at x).names (at + length (written names at x).bytes) xs ys)
    ∙ rw place
    (moved (written_all written (written_all written (written names at x).names (at + length (written names at x).bytes) xs).names
    (at + length (written names at x).bytes + length (written_all written (written names at x).names (at + length (written names at x).bytes) xs).bytes) ys))
  where
    moved : (p : Piece) → onto (written names at x).bytes (onto (written_all written (written names at x).names (at + length (written names at x).bytes) xs).bytes p)
        ≡ onto ((written names at x).bytes ++ (written_all written (written names at x).names (at + length (written names at x).bytes) xs).bytes) p
    moved p =
        ap (λ (l : List ℕ). record { bytes = l; names = p.names })
        (sym (append_assoc (written names at x).bytes (written_all written (written names at x).names (at + length (written names at x).bytes) xs).bytes p.bytes))

-- each thing takes a byte at least
pub all_count : {X : Type 0} (written : Offsets → ℕ → X → Piece) → ((names : Offsets) (at : ℕ) (x : X) → 1 ≤ length (written names at x).bytes)
    → (names : Offsets) (at : ℕ) (xs : List X) → length xs ≤ length (written_all written names at xs).bytes
unfolding written_all
all_count written h names at [] = omega arith
all_count written h names at (x ∷ xs) =
    omega (
      arith,
      h names at x,
      all_count written h (written names at x).names (at + length (written names at x).bytes) xs,
      length-append (written names at x).bytes (written_all written (written names at x).names (at + length (written names at x).bytes) xs).bytes,
    )
