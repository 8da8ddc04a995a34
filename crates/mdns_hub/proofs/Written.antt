-- What was put, step by step.
use Rattle.std.proofs.Common.{◌≡◌, ℕ, ◌+◌, ◌++◌, ◌∙◌, take, length, List, [], ◌∷◌, Option, Result, Ok, Err, sym, ap, subst, append_assoc, append-nil}
use Rattle.std.specs.Result.{OnErr}
use Rattle.std.specs.Io.KnownBytes.{Appends}
use Rattle.std.proofs.KnownBytes.{Appends-nil, Appends-trans}
use Rattle.std.proofs.Math.Seq.{take-append-add, take-length}
use Rattle.mdns_history.specs.declared.entry.Entry.{Entry}
use Rattle.mdns_history.specs.EntryText.{entry_text, history_text}

-- nothing was put where the bytes are as before, and that is a beginning of every text
pub part_nothing : (old new : Option (List ℕ)) (text : List ℕ) → new ≡ old → (n : ℕ) × Appends old new (take n text)
part_nothing old new text same = (0, subst (λ (o : Option (List ℕ)). Appends old o []) (sym same) (Appends-nil old))

-- the whole of a text is a beginning of it
pub part_whole : (old mid new : Option (List ℕ)) (text : List ℕ) → Appends old mid text → new ≡ mid → (n : ℕ) × Appends old new (take n text)
part_whole old mid new text whole same =
    (length text, subst (λ (o : Option (List ℕ)). Appends old o (take (length text) text)) (sym same) (subst (λ (l : List ℕ). Appends old mid l) (sym (take-length text)) whole))

-- a beginning of one text behind the whole of another is a beginning of both
pub part_then : (a b c : Option (List ℕ)) (p q : List ℕ) → Appends a b p → (n : ℕ) × Appends b c (take n q) → (n : ℕ) × Appends a c (take n (p ++ q))
part_then a b c p q whole (n, part) =
    (length p + n, subst (λ (l : List ℕ). Appends a c l) (sym (take-append-add p q n)) (Appends-trans a b c p (take n q) whole part))

-- the text of further entries stands behind that of the history
pub history_text-append : (number : ℕ) (more history : List Entry) → history_text number (more ++ history) ≡ history_text number history ++ history_text number more
history_text-append number [] history = sym (append-nil (history_text number history))
history_text-append number (entry ∷ more) history =
    ap (λ (l : List ℕ). l ++ entry_text number entry) (history_text-append number more history)
    ∙ append_assoc (history_text number history) (history_text number more) (entry_text number entry)

pub on_err_from : {T E P : Type 0} (r : Result T E) → P → OnErr r P
on_err_from (Ok x) p = tt
on_err_from (Err e) p = p

-- a text that was put is a beginning of itself
pub all_is_part : (old new : Option (List ℕ)) (text : List ℕ) → Appends old new text → (n : ℕ) × Appends old new (take n text)
all_is_part old new text whole = (length text, subst (λ (l : List ℕ). Appends old new l) (sym (take-length text)) whole)
