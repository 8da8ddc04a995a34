-- What the tool hears from the daemon, and what it prints of it.
use Rattle.std.specs.Prelude.{◌≡◌, ◌≢◌, ℕ, ◌+◌, ◌<◌, true, List, [], ◌∷◌, ◌++◌, take, drop, length, Option, Some, None, Ok}
use Rattle.std.specs.Io.KnownBytes.{Appends}
use Rattle.sd_call.specs.declared.item.Item.{Item}
use Rattle.sd_ipc.specs.Reading.{item_in, frame_size}
use Rattle.sd_client.specs.Connections.{IsNoItem}
use Rattle.sd_command.specs.Lines.{item_line, lines_of, is_answer, is_refusal, answer_count, GoesOn}
use Rattle.sd_command.specs.declared.ending.Ending.{Ending}
use Rattle.sd_command.specs.declared.ending.Ending.TheVariants.{Done, Usage, PeerFault, Refused, Ended, WriteFault, NoMemory, BadFrame, TooMany}

-- The items are those of the frames that the bytes begin with, one behind the other, and the rest is what is behind them.
abbrev pub AreRead : List ℕ → List Item → List ℕ → Type 0
AreRead bytes [] rest = rest ≡ bytes
AreRead bytes (item ∷ items) rest = (item_in bytes ≡ Ok (Some item)) × AreRead (drop (frame_size bytes) bytes) items rest

-- the item that the rest begins with
abbrev pub IsNext : List ℕ → Item → Type 0
IsNext rest item = item_in rest ≡ Ok (Some item)

-- the most items that are read
abbrev pub most_items : ℕ
most_items = 4294967295

-- Why the tool ended behind items that let it go on, and what it had printed: by the rest behind these items.
abbrev pub Closes : Option ℕ → List Item → List ℕ → Ending → Option (List ℕ) → Option (List ℕ) → Type 0
Closes count items rest Done old new = (last : Item) × IsNext rest last × (is_answer last ≡ true) × (count ≡ Some (answer_count items + 1)) × Appends old new (lines_of items ++ item_line last)
Closes count items rest Refused old new = (last : Item) × IsNext rest last × (is_refusal last ≡ true) × Appends old new (lines_of items ++ item_line last)
Closes count items rest WriteFault old new = (last : Item) × IsNext rest last × ((n : ℕ) × Appends old new (lines_of items ++ take n (item_line last)))
Closes count items rest Ended old new = (item_in rest ≡ Ok None) × Appends old new (lines_of items)
Closes count items rest BadFrame old new = IsNoItem rest × Appends old new (lines_of items)
Closes count items rest TooMany old new = (length items ≡ most_items) × Appends old new (lines_of items)
Closes count items rest PeerFault old new = Appends old new (lines_of items)
Closes count items rest NoMemory old new = Appends old new (lines_of items)
Closes count items rest Usage old new = ⊥

-- What was heard of bytes: items that let the tool go on, and then why it ended. It ends so before there are the most, or for their number.
pub record Heard (count : Option ℕ) (bytes : List ℕ) (ending : Ending) (old new : Option (List ℕ)) : Type 0 where
  pub items : List Item
  pub rest : List ℕ
  pub read : AreRead bytes items rest
  pub going : GoesOn count items
  pub few : ending ≢ TooMany → length items < most_items
  pub closed : Closes count items rest ending old new
