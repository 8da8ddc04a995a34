-- The entry that fits a history, and which histories are legal.
use Rattle.std.specs.Prelude.{◌≡◌, ℕ, ◌^◌, ◌≤◌, Bool, true, false, not, ◌&&◌, List, [], ◌∷◌, ◌++◌, map, IsTrue, Option, Some, None, if◌then◌else◌}
use Rattle.std.specs.List.{list_all}
use Rattle.std.specs.Option.{option_map_or}
use Rattle.std.specs.Str.{is_utf8}
use Rattle.dns_name.specs.Names.{is_label}
use Rattle.sd_name.specs.ServiceTypes.{is_control}
use Rattle.dns_message.specs.Reading.{fault}
use Rattle.mdns_history.specs.declared.config.Config.{Config}
use Rattle.mdns_history.specs.declared.config.HostConfig.{HostConfig}
use Rattle.mdns_history.specs.declared.event.Event.{Event}
use Rattle.mdns_history.specs.declared.event.Event.TheVariants as event
use Rattle.mdns_history.specs.declared.mark.Mark.{Mark}
use Rattle.mdns_history.specs.declared.mark.Mark.TheVariants as mark
use Rattle.mdns_history.specs.declared.entry.Sent.{Sent}
use Rattle.mdns_history.specs.declared.entry.Outcome.TheVariants as outcome
use Rattle.mdns_history.specs.declared.entry.Entry.{Entry}
use Rattle.mdns_history.specs.History.{now, entries, Turn, Entered, Missed}
use Rattle.mdns_history.specs.InForce.{Duties, only_if}
use Rattle.mdns_history.specs.Hearings.{Heard, brought}
use Rattle.mdns_history.specs.Lifetimes.{is_too_full}
use Rattle.mdns_history.specs.Claims.{claim_marks}
use Rattle.mdns_history.specs.Announcing.{announced_groups}
use Rattle.mdns_history.specs.Asking.{tick_askings, heard_askings}
use Rattle.mdns_history.specs.Sending.{tick_sends, sent_goodbyes}
use Rattle.mdns_history.specs.Items.{given_items, cut_marks}
use Rattle.mdns_history.specs.Outcomes.{early_outcome, late_outcome}

-- an event with its outcome, and nothing else yet
abbrev pub bare_entry : ℕ → ℕ → Event → List Entry → Entry
bare_entry moment word event history =
    record { moment = moment; word = word; event = event; marks = []; sent = []; given = []; outcome = early_outcome event history }

-- the mark of bytes that spell no message
abbrev pub bad_mark : List ℕ → List Mark
bad_mark bytes = option_map_or (λ number. mark.Bad number ∷ []) (fault bytes) []

-- why a packet counts as not heard: it would leave too many live records, or spells no message
abbrev pub refusal_marks : Entry → List Entry → Event → List Mark
refusal_marks entry past (event.Hear from bytes) = if is_too_full entry past then mark.Full ∷ [] else bad_mark bytes
refusal_marks entry past _ = []

-- the message that an entry takes in, unless it would leave too many live records
abbrev pub admitted : Entry → List Entry → Option Heard → Option Heard
admitted entry past None = None
admitted entry past (Some heard) = if is_too_full entry past then None else Some heard

-- the marks of claims that a packet disturbs
abbrev pub disturbed_marks : Entry → List Entry → List Mark
disturbed_marks entry past = claim_marks (admitted entry past (brought entry.event)) past

-- the marks of questions that a tick asks, or that a packet asks in the daemon's stead
abbrev pub asked_marks : Entry → List Entry → Event → List Mark
asked_marks entry past event.Tick = tick_askings past entry.moment
asked_marks entry past event = heard_askings past entry.moment (admitted entry past (brought event))

-- the marks of the groups that a tick announces
abbrev pub announced_marks : Entry → List Entry → Event → List Mark
announced_marks entry past event.Tick = map (λ group. mark.Announced group.id) (announced_groups (entry ∷ past) entry.moment)
announced_marks entry past _ = []

-- all marks but those of cut sessions
abbrev pub event_marks : Duties → Entry → List Entry → List Mark
event_marks duties entry past =
    let disturbed = disturbed_marks entry past in
    let asked = asked_marks entry past entry.event in
    let announced = announced_marks entry past entry.event in
    refusal_marks entry past entry.event ++ (only_if duties.claiming disturbed ++ (only_if duties.asking asked ++ only_if duties.announcing announced))

-- what an entry sends: a tick what is due, every other entry the goodbyes of the groups that it ends
abbrev pub event_sends : Duties → Entry → List Entry → Event → List Sent
event_sends duties entry past event.Tick = tick_sends duties entry past
event_sends duties entry past _ = let goodbyes = sent_goodbyes entry past in only_if duties.announcing goodbyes

-- the entry with its marks and what it sends, both of which see it with its outcome alone
abbrev pub noted : Duties → Entry → List Entry → Entry
noted duties entry past = record entry { marks = event_marks duties entry past; sent = event_sends duties entry past entry.event }

-- the entry with the marks of the sessions that it cuts
abbrev pub with_cuts : Entry → List Entry → Entry
with_cuts entry past = record entry { marks = entry.marks ++ cut_marks entry past }

-- the entry with the items that it gives
abbrev pub with_items : Entry → List Entry → Entry
with_items entry past = record entry { given = given_items entry past }

-- the entry with the outcome of a take
abbrev pub with_outcome : Entry → List Entry → Entry
with_outcome entry past = record entry { outcome = late_outcome entry.event entry.outcome (entry ∷ past) }

-- The one entry that fits behind a history at a moment, with a word, for an event: its marks and what it sends, then the sessions that it cuts, then what it gives.
unfoldable pub next_entry : Duties → List Entry → ℕ → ℕ → Event → Entry
next_entry duties past moment word event =
    let cutting = with_cuts (noted duties (bare_entry moment word event past) past) past in
    with_outcome (with_items cutting past) past

-- the last moment that there is
abbrev pub last_moment : ℕ
last_moment = 2 ^ 53

-- whether an event is a boot
abbrev pub is_boot : Event → Bool
is_boot (event.Boot config) = true
is_boot _ = false

-- An entry fits a history: its moment isn't earlier and isn't past the last one, it isn't a boot, and all else is as the definitions make it.
pub record Fits (duties : Duties) (entry : Entry) (past : List Entry) : Type 0 where
  pub later : now past ≤ entry.moment
  pub in_time : entry.moment ≤ last_moment
  pub no_boot : is_boot entry.event ≡ false
  pub determined : entry ≡ next_entry duties past entry.moment entry.word entry.event

-- An entry fits a history at a moment, with a word, for an event.
pub record FitsAt (duties : Duties) (past : List Entry) (moment word : ℕ) (event : Event) (entry : Entry) : Type 0 where
  pub fits : Fits duties entry past
  pub at_moment : entry.moment ≡ moment
  pub with_word : entry.word ≡ word
  pub for_event : entry.event ≡ event

-- Exactly one entry fits a history at each moment from its last one on, with each word, for each event but a boot.
abbrev pub ExactlyOneFits : Type 0
ExactlyOneFits = (duties : Duties) (past : List Entry) (moment word : ℕ) (event : Event) → now past ≤ moment → moment ≤ last_moment → is_boot event ≡ false →
    (entry : Entry) × FitsAt duties past moment word event entry × ((other : Entry) → FitsAt duties past moment word event other → other ≡ entry)

-- a host's label is a label of text without control characters
abbrev pub is_host_label : Option HostConfig → Bool
is_host_label None = true
is_host_label (Some host) = is_label host.label && is_utf8 host.label && list_all (λ b. not (is_control b)) host.label

-- the entry with which a daemon begins
abbrev pub boot_entry : ℕ → ℕ → Config → Entry
boot_entry moment word config =
    record { moment = moment; word = word; event = event.Boot config; marks = []; sent = []; given = []; outcome = outcome.Done }

-- A history is legal where it began with a boot and every later entry fits the ones before it.
abbrev pub IsLegalFrom : Duties → Entry → List Entry → Type 0
IsLegalFrom duties entry [] = (config : Config) × (entry.moment ≤ last_moment) × IsTrue (is_host_label config.host) × (entry ≡ boot_entry entry.moment entry.word config)
IsLegalFrom duties entry (before ∷ past) = Fits duties entry (before ∷ past) × IsLegalFrom duties before past

-- A legal history has entries, and they are legal.
abbrev pub IsLegal : Duties → List Entry → Type 0
IsLegal duties [] = ⊥
IsLegal duties (entry ∷ past) = IsLegalFrom duties entry past

-- whether the first turn was an entry
abbrev pub begins_entered : List Turn → Bool
begins_entered [] = false
begins_entered (Entered entry ∷ []) = true
begins_entered (Missed session ∷ []) = false
begins_entered (turn ∷ before ∷ past) = begins_entered (before ∷ past)

-- Turns are legal where the first was an entry, the boot, and the entries are legal.
abbrev pub AreLegal : Duties → List Turn → Type 0
AreLegal duties turns = IsTrue (begins_entered turns) × IsLegal duties (entries turns)
