-- What taking and printing one item does.
use Rattle.std.specs.Prelude.{◌≡◌, true, false, ℕ, ◌+◌, ◌<◌, if◌then◌else◌, IfSome, List, take, Option, Some, None, Result, Ok, Err}
use Rattle.std.specs.Io.KnownBytes.{Appends}
use Rattle.sd_call.specs.declared.item.Item.{Item}
use Rattle.sd_ipc.specs.Reading.{item_in}
use Rattle.sd_ipc.specs.Taking.{Told}
use Rattle.sd_client.specs.Connections.{Connection, TakesItem, IsNoItem}
use Rattle.sd_command.specs.Lines.{item_line, is_answer, is_refusal}
use Rattle.sd_command.specs.declared.ending.Ending.{Ending}
use Rattle.sd_command.specs.declared.ending.Ending.TheVariants.{Done, PeerFault, Refused, Ended, WriteFault, NoMemory, BadFrame}

-- how many lines of answers there are with an item
abbrev pub counted : ℕ → Item → ℕ
counted lines item = if is_answer item then lines + 1 else lines

-- The line of an item was printed behind so many lines of answers; the answer is how many these are then, or why the tool ends.
abbrev pub Prints : Option ℕ → ℕ → Item → Option (List ℕ) → Option (List ℕ) → Result ℕ Ending → Type 0
Prints count lines item before after (Ok next) = (is_refusal item ≡ false) × (next ≡ counted lines item) × IfSome count (λ most. next < most) × Appends before after (item_line item)
Prints count lines item before after (Err Done) = (is_answer item ≡ true) × (count ≡ Some (lines + 1)) × Appends before after (item_line item)
Prints count lines item before after (Err Refused) = (is_refusal item ≡ true) × Appends before after (item_line item)
Prints count lines item before after (Err WriteFault) = (n : ℕ) × Appends before after (take n (item_line item))
Prints count lines item before after (Err NoMemory) = after ≡ before
Prints count lines item before after (Err ending) = ⊥

-- One item was taken and printed; or why the tool ends.
abbrev pub Steps : Option ℕ → ℕ → Connection → Connection → Option (List ℕ) → Option (List ℕ) → Result ℕ Ending → Type 0
Steps count lines old new before after (Ok next) = (item : Item) × TakesItem old new item × Prints count lines item before after (Ok next)
Steps count lines old new before after (Err Done) = (item : Item) × TakesItem old new item × Prints count lines item before after (Err Done)
Steps count lines old new before after (Err Refused) = (item : Item) × TakesItem old new item × Prints count lines item before after (Err Refused)
Steps count lines old new before after (Err WriteFault) = (item : Item) × TakesItem old new item × Prints count lines item before after (Err WriteFault)
Steps count lines old new before after (Err Ended) = Told old.left (λ bytes. item_in bytes ≡ Ok None) × (after ≡ before)
Steps count lines old new before after (Err BadFrame) = Told old.left IsNoItem × (after ≡ before)
Steps count lines old new before after (Err PeerFault) = after ≡ before
Steps count lines old new before after (Err NoMemory) = after ≡ before
Steps count lines old new before after (Err ending) = ⊥
