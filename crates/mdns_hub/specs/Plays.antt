-- What it is for a command to be played by up to sixteen daemons.
use Rattle.std.specs.Prelude.{◌≡◌, ◌≢◌, ◌⊎◌, ℕ, ◌+◌, ◌<◌, ◌≤◌, ◌==◌, zero, suc, max, nat_lt, nat_le, Bool, false, not, ◌&&◌, ◌||◌, List, [], ◌∷◌, ◌++◌, filter, true, IsTrue}
use Rattle.mdns_draw.specs.Drawing.{next_word, words_after}
use Rattle.mdns_draw.specs.declared.words.Words.TheVariants.{Same, Seeded}
use Rattle.mdns_history.specs.declared.config.Config.{Config}
use Rattle.mdns_history.specs.declared.event.Event.{Event}
use Rattle.mdns_history.specs.declared.event.Event.TheVariants as event
use Rattle.mdns_history.specs.declared.entry.Entry.{Entry}
use Rattle.mdns_history.specs.Fitting.{Fits, boot_entry, is_boot, is_host_label, last_moment}
use Rattle.mdns_history.specs.Due.{IsNextDue}
use Rattle.mdns_core.specs.InForce.{in_force}
use Rattle.mdns_script.specs.declared.command.Command.{Command}
use Rattle.mdns_script.specs.declared.command.Command.TheVariants.{Pass, Daemon, At, Word, Seed, Delay, Lose, Part, Meet, Attach, Event as Happening}
use Rattle.mdns_hub.specs.declared.delivery.Delivery.{Delivery}
use Rattle.mdns_hub.specs.Links.{LinkState, with_packets, is_pair, most_daemons}
use Rattle.mdns_hub.specs.Played.{Played, history_of, is_booted, address_in}

-- the furthest that one line goes ahead: a day
abbrev pub furthest : ℕ
furthest = 86400000

-- the longest that a packet is under way
abbrev pub longest_delay : ℕ
longest_delay = 10000

-- whether a moment can't be run to: it is past, after the last one, or too far ahead
abbrev pub is_out_of_reach : ℕ → ℕ → Bool
is_out_of_reach clock moment = nat_lt moment clock || nat_lt last_moment moment || nat_lt (clock + furthest) moment

-- Whether a command is bad at a moment, told of which daemons were booted: it boots one twice or one of another number than 1 to 16, or one whose host's label
-- isn't text of 1 to 63 bytes without control characters, names a daemon that wasn't booted, parts a daemon from itself, runs to a moment that is out of reach, lets packets be under way for another time
-- than 1 to 10,000 ms, or brings an event that is itself a boot.
unfoldable pub is_bad_at : ℕ → (ℕ → Bool) → Command → Bool
is_bad_at clock booted Pass = false
is_bad_at clock booted (Daemon number config) =
    not (nat_le 1 number && nat_le number most_daemons) || booted number || not (is_host_label config.host)
is_bad_at clock booted (At moment) = is_out_of_reach clock moment
is_bad_at clock booted (Word word) = false
is_bad_at clock booted (Seed seed) = false
is_bad_at clock booted (Delay ms) = not (nat_le 1 ms && nat_le ms longest_delay)
is_bad_at clock booted (Lose count) = false
is_bad_at clock booted (Part left right) = not (booted left) || not (booted right) || (left == right)
is_bad_at clock booted (Meet left right) = not (booted left) || not (booted right)
is_bad_at clock booted (Attach daemon) = not (booted daemon)
is_bad_at clock booted (Happening daemon event) = not (booted daemon) || is_boot event

-- whether a command is bad at its place of the script
abbrev pub is_bad : Played → Command → Bool
is_bad played command = is_bad_at played.clock (is_booted played.told) command

-- An entry of a daemon begins its history, or fits it where it has begun.
abbrev pub Follows : Entry → List Entry → Event → Type 0
Follows entry past (event.Boot config) = (past ≡ []) × (entry ≡ boot_entry entry.moment entry.word config)
Follows entry past _ = (past ≢ []) × Fits in_force entry past

-- what was played, and then an entry of a daemon, whose packets are under way then
abbrev pub with_entry : ℕ → Entry → Played → Played
with_entry daemon entry before =
    let told = record { daemon = daemon; entry = entry } ∷ before.told in
    record before { words = words_after before.words; told = told; link = with_packets (address_in told) before.clock daemon entry.sent before.link }

-- An event happens to a daemon at the current moment, with the next word, and what the entry sends is under way.
pub record Happens (daemon : ℕ) (event : Event) (before after : Played) : Type 0 where
  pub entry : Entry
  pub follows : Follows entry (history_of daemon before.told) event
  pub event_is : entry.event ≡ event
  pub moment_is : entry.moment ≡ before.clock
  pub word_is : entry.word ≡ next_word before.words
  pub after_is : after ≡ with_entry daemon entry before

-- a daemon's tick is due at a moment; what was due before is done at the current one
pub record IsTickDue (played : Played) (daemon moment : ℕ) : Type 0 where
  pub booted : IsTrue (is_booted played.told daemon)
  pub due : ℕ
  pub next : IsNextDue in_force (history_of daemon played.told) due
  pub moment_is : moment ≡ max due played.clock

-- what was played, but with other packets under way
abbrev pub with_under_way : List Delivery → Played → Played
with_under_way under_way played = record played { link = record (played.link) { under_way = under_way } }

-- A packet is heard before any tick of its moment.
pub record Delivers (until : ℕ) (before after : Played) : Type 0 where
  pub delivery : Delivery
  pub rest : List Delivery
  pub first : before.link.under_way ≡ delivery ∷ rest
  pub by : delivery.moment ≤ until
  pub before_ticks : (daemon moment : ℕ) → IsTickDue before daemon moment → delivery.moment ≤ moment
  pub happens : Happens delivery.daemon (event.Hear delivery.from delivery.bytes) (record (with_under_way rest before) { clock = delivery.moment }) after

-- whether a packet is heard by a moment
abbrev pub comes_by : ℕ → List Delivery → Bool
comes_by moment [] = false
comes_by moment (delivery ∷ rest) = not (nat_lt moment delivery.moment)

-- A tick is done where it is due before each packet and before the ticks of other daemons; at one moment the least number is first.
pub record Ticks (until : ℕ) (before after : Played) : Type 0 where
  pub daemon : ℕ
  pub moment : ℕ
  pub due : IsTickDue before daemon moment
  pub by : moment ≤ until
  pub no_packet : comes_by moment before.link.under_way ≡ false
  pub first : (other later : ℕ) → IsTickDue before other later → (moment < later) ⊎ ((moment ≡ later) × (daemon ≤ other))
  pub happens : Happens daemon event.Tick (record before { clock = moment }) after

-- so many packets and ticks up to a moment are done, one after another
abbrev pub AreDone : ℕ → ℕ → Played → Played → Type 0
AreDone until zero before after = after ≡ before
AreDone until (suc more) before after = (between : Played) × (Delivers until before between ⊎ Ticks until before between) × AreDone until more between after

-- some packets and ticks up to a moment are done
abbrev pub AreSomeDone : ℕ → Played → Played → Type 0
AreSomeDone until before after = (steps : ℕ) × AreDone until steps before after

-- nothing more is due by a moment
pub record IsQuiet (until : ℕ) (played : Played) : Type 0 where
  pub no_packet : comes_by until played.link.under_way ≡ false
  pub no_tick : (daemon moment : ℕ) → IsTickDue played daemon moment → until < moment

-- All is done that is due by a moment, and that is the current moment then.
pub record RunsTo (until : ℕ) (before after : Played) : Type 0 where
  pub reached : Played
  pub done : AreSomeDone until before reached
  pub quiet : IsQuiet until reached
  pub after_is : after ≡ record reached { clock = until }

-- the link, changed
abbrev pub with_link : LinkState → Played → Played
with_link link played = record played { link = link }

-- whether a command does nothing but set what later ones go by
abbrev pub is_setting : Command → Bool
is_setting (Daemon number config) = false
is_setting (At moment) = false
is_setting (Attach daemon) = false
is_setting (Happening daemon event) = false
is_setting _ = true

-- what a command sets: the words to come, or what the link does from now on
abbrev pub set_by : Command → Played → Played
set_by (Word word) played = record played { words = Same word }
set_by (Seed seed) played = record played { words = Seeded (record { seed = seed; taken = 0 }) }
set_by (Delay ms) played = with_link (record (played.link) { delay = ms }) played
set_by (Lose count) played = with_link (record (played.link) { losses = count }) played
set_by (Part left right) played = with_link (record (played.link) { parted = played.link.parted ++ record { left = left; right = right } ∷ [] }) played
set_by (Meet left right) played = with_link (record (played.link) { parted = filter (λ pair. not (is_pair left right pair)) played.link.parted }) played
set_by _ played = played

-- a daemon is booted at the current moment
abbrev pub Boots : ℕ → Config → Played → Played → Type 0
Boots number config before after = (before.clock ≤ last_moment) × Happens number (event.Boot config) before after

-- what a command does
abbrev pub Does : Command → Played → Played → Type 0
Does (Daemon number config) before after = Boots number config before after
Does (At moment) before after = RunsTo moment before after
Does (Attach daemon) before after = Happens daemon event.Attach before after
Does (Happening daemon event) before after = Happens daemon event before after
Does setting before after = after ≡ set_by setting before

-- A command is played: it isn't bad at its place, and is done.
pub record Plays (command : Command) (before after : Played) : Type 0 where
  pub good : is_bad before command ≡ false
  pub does : Does command before after
