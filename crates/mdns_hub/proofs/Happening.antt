-- What an event of a daemon leads to, told of a hub.
use Rattle.std.proofs.Common.{◌≡◌, inl, inr, ℕ, ◌≤◌, ◌==◌, cond, false, Some, List, [], ◌∷◌, Option, take, refl, sym, ap, subst, ◌∙◌, append-nil}
use Rattle.std.specs.Io.KnownBytes.{Appends}
use Rattle.std.proofs.KnownBytes.{Appends-nil}
use Rattle.mdns_draw.specs.declared.words.Words.{Words}
use Rattle.mdns_draw.specs.Drawing.{next_word, words_after}
use Rattle.mdns_history.specs.declared.config.Config.{Config}
use Rattle.mdns_history.specs.declared.event.Event.{Event}
use Rattle.mdns_history.specs.declared.entry.Entry.{Entry}
use Rattle.mdns_history.specs.EntryText.{entry_text}
use Rattle.mdns_history.specs.Fitting.{is_boot, boot_entry, last_moment}
use Rattle.mdns_core.specs.State.{Stands}
use Rattle.mdns_hub.specs.declared.hub.Hub.{Hub}
use Rattle.mdns_hub.specs.declared.daemons.Booted.{Booted}
use Rattle.mdns_hub.specs.Links.{LinkState, with_packets}
use Rattle.mdns_hub.specs.Kept.{link_of}
use Rattle.mdns_hub.specs.Slots.{slot_at, is_kept, address_at}
use Rattle.mdns_hub.specs.Played.{Played, Told, history_of, address_in, transcript}
use Rattle.mdns_hub.specs.Stepped.{IsStep}
use Rattle.mdns_hub.specs.Tallies.{no_tally}
use Rattle.mdns_hub.specs.Plays.{Happens, Boots, with_entry}
use Rattle.mdns_hub.specs.Output.{OrNothing}
use Rattle.mdns_hub.specs.Hubs.{SlotsStand, Puts, PutsPart, Advances, BreaksIn}
use Rattle.mdns_hub.specs.Running.{HappensAt, IsFollowed}
use Rattle.mdns_hub.proofs.Written.{part_nothing}
use Rattle.mdns_hub.proofs.Standing.{telling, addresses_same, stands_step, stands_boot, no_history}

-- nothing was put, and the transcript is as before
pub puts_nothing : (o : Option (List ℕ)) (before after : Played) → transcript after ≡ transcript before → Puts o o before after
puts_nothing o before after same = ([], same ∙ sym (append-nil (transcript before)), Appends-nil o)

pub puts_no_part : (old new : Option (List ℕ)) (played : Played) → new ≡ old → PutsPart old new played played
puts_no_part old new played same = ([], sym (append-nil (transcript played)), part_nothing old new [] same)

-- a step that wasn't begun
pub breaks_at_once : (Step : Played → Played → Type 0) (hub : Hub) (old new : Option (List ℕ)) → new ≡ old → BreaksIn (OrNothing Step) hub old new
breaks_at_once Step hub old new same = λ played stands. (played, inr refl, puts_no_part old new played same)

-- what was played once the clock is at a moment
abbrev pub at_clock : ℕ → Played → Played
at_clock moment played = record played { clock = moment }

-- the event happens
event_happens : (number moment word : ℕ) (ev : Event) (words : Words) (old new : List (Option Booted)) (entry : Entry) (played : Played) → IsStep number moment word ev old new entry → is_boot ev ≡ false
    → word ≡ next_word words → words ≡ played.words → SlotsStand old played.told → HappensAt number ev moment played (with_entry number entry (at_clock moment played))
event_happens number moment word ev words old new entry played s no_boot drawn same stands = record {
  entry = entry;
  follows = (stands_step number moment word ev old new entry played.told s no_boot stands).1;
  event_is = s.event_is;
  moment_is = s.moment_is;
  word_is = s.word_is ∙ drawn ∙ ap next_word same;
  after_is = refl;
}

-- a daemon made a step, its entry was put, and its packets are under way
pub happen_done : (number moment word : ℕ) (ev : Event) (entry : Entry) (hub mid after : Hub) (old new : Option (List ℕ))
    → IsStep number moment word ev hub.daemons.slots.items mid.daemons.slots.items entry → is_boot ev ≡ false → word ≡ next_word hub.words → mid.words ≡ words_after hub.words
    → mid.clock ≡ moment → link_of mid.link ≡ link_of hub.link → IsFollowed number entry mid after old new → Advances (HappensAt number ev moment) hub after old new
happen_done number moment word ev entry hub mid after old new s no_boot drawn words clock link followed = λ played stands.
    let told : List Told = telling number entry played.told in
    let slots : SlotsStand mid.daemons.slots.items told = (stands_step number moment word ev hub.daemons.slots.items mid.daemons.slots.items entry played.told s no_boot stands.slots).0 in
    let addresses : address_in told ≡ address_at mid.daemons.slots.items = addresses_same mid.daemons.slots.items told slots in (
      with_entry number entry (at_clock moment played),
      event_happens number moment word ev hub.words hub.daemons.slots.items mid.daemons.slots.items entry played s no_boot drawn stands.words stands.slots,
      record {
        clock = followed.clock ∙ clock;
        words = followed.words ∙ words ∙ ap words_after stands.words;
        link = followed.link ∙ ap (λ (n : ℕ). with_packets (address_at mid.daemons.slots.items) n number entry.sent (link_of mid.link)) clock
            ∙ ap (λ (l : LinkState). with_packets (address_at mid.daemons.slots.items) moment number entry.sent l) (link ∙ stands.link)
            ∙ ap (λ (f : ℕ → Option ℕ). with_packets f moment number entry.sent played.link) (sym addresses);
        slots = subst (λ (s : List (Option Booted)). SlotsStand s told) (sym followed.slots) slots;
      },
      (entry_text number entry, refl, followed.put),
    )

-- the step was made, and a beginning of its entry was put
pub happen_broke : (number moment word : ℕ) (ev : Event) (entry : Entry) (hub : Hub) (slots : List (Option Booted)) (old new : Option (List ℕ))
    → IsStep number moment word ev hub.daemons.slots.items slots entry → is_boot ev ≡ false → word ≡ next_word hub.words → ((n : ℕ) × Appends old new (take n (entry_text number entry)))
    → BreaksIn (OrNothing (HappensAt number ev moment)) hub old new
happen_broke number moment word ev entry hub slots old new s no_boot drawn put = λ played stands. (
  with_entry number entry (at_clock moment played),
  inl (event_happens number moment word ev hub.words hub.daemons.slots.items slots entry played s no_boot drawn stands.words stands.slots),
  (entry_text number entry, refl, put),
)

-- at the current moment
pub now_done : (number moment : ℕ) (ev : Event) (hub after : Hub) (old new : Option (List ℕ)) → moment ≡ hub.clock → Advances (HappensAt number ev moment) hub after old new → Advances (Happens number ev) hub after old new
now_done number moment ev hub after old new now done = λ played stands.
    let d = done played stands in
    (d.0, subst (λ (n : ℕ). HappensAt number ev n played d.0) (now ∙ stands.clock) d.1, d.2, d.3)

pub now_broke : (number moment : ℕ) (ev : Event) (hub : Hub) (old new : Option (List ℕ)) → moment ≡ hub.clock → BreaksIn (OrNothing (HappensAt number ev moment)) hub old new → BreaksIn (OrNothing (Happens number ev)) hub old new
now_broke number moment ev hub old new now broke = λ played stands.
    let d = broke played stands in
    (d.0, at_now played d.0 (now ∙ stands.clock) d.1, d.2)
  where
    at_now : (played reached : Played) → moment ≡ played.clock → OrNothing (HappensAt number ev moment) played reached → OrNothing (Happens number ev) played reached
    at_now played reached e (inl h) = inl (subst (λ (n : ℕ). HappensAt number ev n played reached) e h)
    at_now played reached e (inr h) = inr h

-- a boot
boots_is : (number moment word : ℕ) (config : Config) (words : Words) (played : Played) → moment ≡ played.clock → moment ≤ last_moment → word ≡ next_word words → words ≡ played.words
    → history_of number played.told ≡ [] → Boots number config played (with_entry number (boot_entry moment word config) played)
boots_is number moment word config words played now in_time drawn same none = (
  subst (λ (n : ℕ). n ≤ last_moment) now in_time,
  record { entry = boot_entry moment word config; follows = (none, refl); event_is = refl; moment_is = now; word_is = drawn ∙ ap next_word same; after_is = refl },
)

pub boot_done : (number word : ℕ) (config : Config) (entry : Entry) (hub after : Hub) (daemon : Booted) (old new : Option (List ℕ)) → hub.clock ≤ last_moment → is_kept hub.daemons.slots.items number ≡ false
    → word ≡ next_word hub.words → ((other : ℕ) → slot_at after.daemons.slots.items other ≡ cond (other == number) (Some daemon) (slot_at hub.daemons.slots.items other)) → daemon.address ≡ config.address
    → daemon.tally ≡ no_tally → entry ≡ boot_entry hub.clock word config → Stands daemon.daemon (entry ∷ []) → after.clock ≡ hub.clock → after.words ≡ words_after hub.words → link_of after.link ≡ link_of hub.link
    → Appends old new (entry_text number entry) → Advances (Boots number config) hub after old new
boot_done number word config entry hub after daemon old new in_time free drawn put address empty is begun clock words link text = λ played stands.
    let first : Entry = boot_entry hub.clock word config in (
      with_entry number first played,
      boots_is number hub.clock word config hub.words played stands.clock in_time drawn stands.words (no_history hub.daemons.slots.items played.told number stands.slots free),
      record {
        clock = clock ∙ stands.clock;
        words = words ∙ ap words_after stands.words;
        link = link ∙ stands.link;
        slots = stands_boot number hub.clock word config hub.daemons.slots.items after.daemons.slots.items daemon played.told free put address empty (subst (λ (e : Entry). Stands daemon.daemon (e ∷ [])) is begun) stands.slots;
      },
      (entry_text number first, refl, subst (λ (e : Entry). Appends old new (entry_text number e)) is text),
    )

pub boot_broke : (number word : ℕ) (config : Config) (entry : Entry) (hub : Hub) (old new : Option (List ℕ)) → hub.clock ≤ last_moment → is_kept hub.daemons.slots.items number ≡ false
    → word ≡ next_word hub.words → entry ≡ boot_entry hub.clock word config → (n : ℕ) × Appends old new (take n (entry_text number entry)) → BreaksIn (OrNothing (Boots number config)) hub old new
boot_broke number word config entry hub old new in_time free drawn is text = λ played stands.
    let first : Entry = boot_entry hub.clock word config in (
      with_entry number first played,
      inl (boots_is number hub.clock word config hub.words played stands.clock in_time drawn stands.words (no_history hub.daemons.slots.items played.told number stands.slots free)),
      (entry_text number first, refl, subst (λ (e : Entry). (n : ℕ) × Appends old new (take n (entry_text number e))) is text),
    )
