-- How many items of some kinds a daemon gave to its sessions.
use Rattle.std.specs.Prelude.{ℕ, ◌+◌, ◌-◌, ◌^◌, min, List, [], ◌∷◌}
use Rattle.sd_call.specs.declared.item.Item.{Item}
use Rattle.sd_call.specs.declared.item.Item.TheVariants.{Add, Remove}
use Rattle.sd_call.specs.declared.answer.Answer.TheVariants.{Found, Named}
use Rattle.mdns_history.specs.declared.entry.Given.{Given}
use Rattle.mdns_history.specs.declared.entry.Entry.{Entry}
use Rattle.mdns_hub.specs.declared.tally.Tally.{Tally}

-- nothing was counted
abbrev pub no_tally : Tally
no_tally = record { named = 0; found = 0; lost = 0 }

-- one more; a count stays at its last value
abbrev pub one_more : ℕ → ℕ
one_more count = min (count + 1) (2 ^ 64 - 1)

-- An item counts where it tells the name that a registration got, an instance that a browse found, or one that it no longer has.
abbrev pub with_item : Item → Tally → Tally
with_item (Add op (Named full)) tally = record tally { named = one_more tally.named }
with_item (Add op (Found instance)) tally = record tally { found = one_more tally.found }
with_item (Remove op (Found instance)) tally = record tally { lost = one_more tally.lost }
with_item _ tally = tally

-- the items of an entry, one after another
abbrev pub with_gifts : List Given → Tally → Tally
with_gifts [] tally = tally
with_gifts (gift ∷ gifts) tally = with_gifts gifts (with_item gift.item tally)

-- the items of all entries of a daemon
abbrev pub tally_of : List Entry → Tally
tally_of [] = no_tally
tally_of (entry ∷ past) = with_gifts entry.given (tally_of past)
