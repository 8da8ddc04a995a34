-- Answers and items: their frames, and the order of answers.
use Rattle.std.specs.Prelude.{ℕ, ◌+◌, Bool, List, [], ◌∷◌, ◌++◌, length}
use Rattle.std.specs.Int.{to_be_bytes, w16}
use Rattle.std.specs.Ordering.{nat_cmp, is_eq}
use Rattle.std.specs.Cmp.Lexicographic.{slice_cmp}
use Rattle.std.specs.declared.cmp.Ordering.{Ordering}
use Rattle.dns_name.specs.Names.{wire_of}
use Rattle.dns_record.specs.Records.{kind_of, data_of}
use Rattle.sd_call.specs.declared.answer.Answer.{Answer}
use Rattle.sd_call.specs.declared.answer.Answer.TheVariants.{Datum, Found, Resolved, Named, Conflict}
use Rattle.sd_call.specs.declared.item.Item.{Item}
use Rattle.sd_call.specs.declared.item.Item.TheVariants.{Reply, Add, Remove}

-- an answer as its frame has it: a tag, and the parts
abbrev pub answer_bytes : Answer → List ℕ
answer_bytes (Datum rdata) = 1 ∷ to_be_bytes w16 (kind_of rdata) ++ data_of rdata
answer_bytes (Found instance) = 2 ∷ wire_of instance
answer_bytes (Resolved priority weight port target txt) =
    3 ∷ to_be_bytes w16 priority ++ to_be_bytes w16 weight ++ to_be_bytes w16 port ++ wire_of target ++ txt
answer_bytes (Named full) = 4 ∷ wire_of full
answer_bytes Conflict = 5 ∷ []

-- the order of an operation's answers is that of their bytes
unfoldable pub answer_cmp : Answer → Answer → Ordering
answer_cmp left right = slice_cmp nat_cmp (answer_bytes left) (answer_bytes right)

-- whether two answers have the same bytes
unfoldable pub answer_eq : Answer → Answer → Bool
answer_eq left right = is_eq (answer_cmp left right)

-- how many bytes an item's frame has: the length word, the kind, the operation, and the body
abbrev pub frame_len : Item → ℕ
frame_len (Reply op verb code) = 14
frame_len (Add op answer) = 9 + length (answer_bytes answer)
frame_len (Remove op answer) = 9 + length (answer_bytes answer)

-- how many bytes the frames of items have
abbrev pub frames_len : List Item → ℕ
frames_len [] = 0
frames_len (item ∷ items) = frame_len item + frames_len items

-- the most bytes of frames that are queued for a session
abbrev pub queue_limit : ℕ
queue_limit = 16777216
