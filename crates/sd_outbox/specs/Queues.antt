-- A session's queue: what was appended and not taken, in order, or cut.
use Rattle.std.specs.Prelude.{ℕ, ◌+◌, nat_lt, Bool, true, List, [], ◌∷◌, ◌++◌, length, Option, Some, None}
use Rattle.sd_call.specs.declared.item.Item.{Item}
use Rattle.sd_call.specs.Answers.{frame_len, frames_len, queue_limit}
use Rattle.sd_outbox.specs.declared.outbox.Taken.{Taken}
use Rattle.sd_outbox.specs.declared.outbox.Taken.TheVariants as taken

-- a queue: its items, the next to be taken first, or None where it was cut; and for how many more items it has room
pub record Queue : Type 0 where
  pub items : Option (List Item)
  pub spare : ℕ

-- the items of a queue, none of a cut one
abbrev pub queued : Option (List Item) → List Item
queued None = []
queued (Some items) = items

-- whether an item can't be queued: its frame and those that are queued would pass the limit, or the queue was cut
abbrev pub would_pass : Item → Option (List Item) → Bool
would_pass item None = true
would_pass item (Some items) = nat_lt queue_limit (frames_len items + frame_len item)

-- whether items would pass the limit behind those that are queued
abbrev pub passes : List Item → Option (List Item) → Bool
passes items queue = nat_lt queue_limit (frames_len (queued queue ++ items))

-- the items with one more behind them
abbrev pub with_item : Item → Option (List Item) → Option (List Item)
with_item item None = None
with_item item (Some items) = Some (items ++ item ∷ [])

-- what a take answers: the first item
abbrev pub first_of : Option (List Item) → Taken
first_of None = taken.Cut
first_of (Some []) = taken.Empty
first_of (Some (item ∷ items)) = taken.One item

-- the items that a take leaves
abbrev pub rest_of : Option (List Item) → Option (List Item)
rest_of None = None
rest_of (Some []) = Some []
rest_of (Some (item ∷ items)) = Some items

-- how many bytes the frames of the queued items have
abbrev pub bytes_of : Option (List Item) → ℕ
bytes_of None = 0
bytes_of (Some items) = frames_len items

-- how many items are queued
abbrev pub count_of : Option (List Item) → ℕ
count_of None = 0
count_of (Some items) = length items
