-- What a command that isn't bad asks of a hub.
use Rattle.std.proofs.Common.{◌≡◌, ℕ, ◌+◌, ◌^◌, ◌≤◌, ◌&&◌, ◌||◌, Bool, true, false, not, nat_lt, nat_le, List, Option, inl, inr, refl, sym, ap, subst, ◌∙◌, arith}
use Rattle.std.proofs.lemmas.Bool.{false≢true}
use Rattle.mdns_history.specs.declared.config.Config.{Config}
use Rattle.mdns_history.specs.declared.event.Event.{Event}
use Rattle.mdns_history.specs.Fitting.{is_boot, is_host_label}
use Rattle.mdns_script.specs.declared.command.Command.{Command}
use Rattle.mdns_script.specs.declared.command.Command.TheVariants.{Pass, Daemon, At, Word, Seed, Delay, Lose, Part, Meet, Attach, Event as Happening}
use Rattle.mdns_hub.specs.declared.hub.Hub.{Hub}
use Rattle.mdns_hub.specs.Slots.{is_kept}
use Rattle.mdns_hub.specs.Played.{Played, told_text}
use Rattle.mdns_hub.specs.Plays.{is_bad_at, is_bad, is_setting, set_by, Does, Plays}
use Rattle.mdns_hub.specs.Output.{DoesPart, PlaysPart}
use Rattle.mdns_hub.specs.Hubs.{StandsFor, Advances, BreaksIn, is_bad_for}
use Rattle.mdns_hub.proofs.Standing.{booted_same}
use Rattle.mdns_hub.proofs.Happening.{puts_nothing, puts_no_part}

-- both are false where one of them would make it bad
neither : (a b : Bool) → (a || b) ≡ false → (a ≡ false) × (b ≡ false)
neither true b h = absurd (false≢true (sym h))
neither false b h = (refl, h)

not_false : (b : Bool) → not b ≡ false → b ≡ true
not_false true h = refl
not_false false h = absurd (false≢true (sym h))

both : (a b : Bool) → (a && b) ≡ true → (a ≡ true) × (b ≡ true)
both true b h = (refl, h)
both false b h = absurd (false≢true h)

within : (low n high : ℕ) → not (nat_le low n && nat_le n high) ≡ false → (low ≤ n) × (n ≤ high)
within low n high h =
    let b = both (nat_le low n) (nat_le n high) (not_false (nat_le low n && nat_le n high) h) in
    (grind (arith, b.0), grind (arith, b.1))

pub good_delay : (hub : Hub) (command : Command) (ms : ℕ) → command ≡ Delay ms → is_bad_for hub command ≡ false → (1 ≤ ms) × (ms ≤ 10000)
unfolding is_bad_at
good_delay hub command ms is good = within 1 ms 10000 (subst (λ (x : Command). is_bad_for hub x ≡ false) is good)

pub good_boot : (hub : Hub) (command : Command) (number : ℕ) (config : Config) → command ≡ Daemon number config → is_bad_for hub command ≡ false
    → ((1 ≤ number) × (number ≤ 16)) × (is_kept hub.daemons.slots.items number ≡ false) × (is_host_label config.host ≡ true)
unfolding is_bad_at
good_boot hub command number config is good =
    let low = not (nat_le 1 number && nat_le number 16) in
    let free = is_kept hub.daemons.slots.items number in
    let g = neither (low || free) (not (is_host_label config.host)) (subst (λ (x : Command). is_bad_for hub x ≡ false) is good) in
    let h = neither low free g.0 in
    (within 1 number 16 h.0, h.1, not_false (is_host_label config.host) g.1)

pub good_run : (hub : Hub) (command : Command) (moment : ℕ) → command ≡ At moment → is_bad_for hub command ≡ false → (hub.clock ≤ moment) × (moment ≤ 2 ^ 53)
unfolding is_bad_at
good_run hub command moment is good =
    let g = neither (nat_lt moment hub.clock || nat_lt (2 ^ 53) moment) (nat_lt (hub.clock + 86400000) moment) (subst (λ (x : Command). is_bad_for hub x ≡ false) is good) in
    let h = neither (nat_lt moment hub.clock) (nat_lt (2 ^ 53) moment) g.0 in
    (of moment hub.clock h.0, of (2 ^ 53) moment h.1)
  where
    of : (a b : ℕ) → nat_lt a b ≡ false → b ≤ a
    of a b e = grind (arith, e)

pub good_attach : (hub : Hub) (command : Command) (number : ℕ) → command ≡ Attach number → is_bad_for hub command ≡ false → is_kept hub.daemons.slots.items number ≡ true
unfolding is_bad_at
good_attach hub command number is good = not_false (is_kept hub.daemons.slots.items number) (subst (λ (x : Command). is_bad_for hub x ≡ false) is good)

pub good_event : (hub : Hub) (command : Command) (number : ℕ) (ev : Event) → command ≡ Happening number ev → is_bad_for hub command ≡ false → (is_kept hub.daemons.slots.items number ≡ true) × (is_boot ev ≡ false)
unfolding is_bad_at
good_event hub command number ev is good =
    let g = neither (not (is_kept hub.daemons.slots.items number)) (is_boot ev) (subst (λ (x : Command). is_bad_for hub x ≡ false) is good) in
    (not_false (is_kept hub.daemons.slots.items number) g.0, g.1)

-- Commands.

pub bad_same : (hub : Hub) (played : Played) (command : Command) → StandsFor hub played → is_bad_for hub command ≡ is_bad played command
bad_same hub played command stands =
    ap (λ (n : ℕ). is_bad_at n (is_kept hub.daemons.slots.items) command) stands.clock
    ∙ ap (λ (f : ℕ → Bool). is_bad_at played.clock f command) (sym (booted_same hub.daemons.slots.items played.told stands.slots))

-- what a setting sets is what it does
does_setting : (command : Command) (played : Played) → is_setting command ≡ true → Does command played (set_by command played)
does_setting Pass played h = refl
does_setting (Daemon number config) played h = absurd (false≢true h)
does_setting (At moment) played h = absurd (false≢true h)
does_setting (Word word) played h = refl
does_setting (Seed seed) played h = refl
does_setting (Delay ms) played h = refl
does_setting (Lose count) played h = refl
does_setting (Part left right) played h = refl
does_setting (Meet left right) played h = refl
does_setting (Attach daemon) played h = absurd (false≢true h)
does_setting (Happening daemon ev) played h = absurd (false≢true h)

told_stays : (command : Command) (played : Played) → (set_by command played).told ≡ played.told
told_stays Pass played = refl
told_stays (Daemon number config) played = refl
told_stays (At moment) played = refl
told_stays (Word word) played = refl
told_stays (Seed seed) played = refl
told_stays (Delay ms) played = refl
told_stays (Lose count) played = refl
told_stays (Part left right) played = refl
told_stays (Meet left right) played = refl
told_stays (Attach daemon) played = refl
told_stays (Happening daemon ev) played = refl

pub sets_done : (command : Command) (hub after : Hub) (o : Option (List ℕ)) → is_setting command ≡ true → ((played : Played) → StandsFor hub played → StandsFor after (set_by command played)) → Advances (Does command) hub after o o
sets_done command hub after o setting set = λ played stands.
    (set_by command played, does_setting command played setting, set played stands, puts_nothing o played (set_by command played) (ap told_text (told_stays command played)))

-- nothing of a setting was done
part_none : (command : Command) (played : Played) → is_setting command ≡ true → DoesPart command played played
part_none Pass played h = inr refl
part_none (Daemon number config) played h = absurd (false≢true h)
part_none (At moment) played h = absurd (false≢true h)
part_none (Word word) played h = inr refl
part_none (Seed seed) played h = inr refl
part_none (Delay ms) played h = inr refl
part_none (Lose count) played h = inr refl
part_none (Part left right) played h = inr refl
part_none (Meet left right) played h = inr refl
part_none (Attach daemon) played h = absurd (false≢true h)
part_none (Happening daemon ev) played h = absurd (false≢true h)

pub sets_broke : (command : Command) (hub : Hub) (o : Option (List ℕ)) → is_setting command ≡ true → BreaksIn (DoesPart command) hub o o
sets_broke command hub o setting = λ played stands. (played, part_none command played setting, puts_no_part o o played refl)

pub plays_good : (hub after : Hub) (command : Command) (old new : Option (List ℕ)) → is_bad_for hub command ≡ false → Advances (Does command) hub after old new → Advances (Plays command) hub after old new
plays_good hub after command old new good done = λ played stands.
    let next = done played stands in
    (next.0, record { good = sym (bad_same hub played command stands) ∙ good; does = next.1 }, next.2, next.3)

pub part_good : (hub : Hub) (command : Command) (old new : Option (List ℕ)) → is_bad_for hub command ≡ false → BreaksIn (DoesPart command) hub old new → BreaksIn (PlaysPart command) hub old new
part_good hub command old new good part = λ played stands.
    let reached = part played stands in
    (reached.0, inr (sym (bad_same hub played command stands) ∙ good, reached.1), reached.2)

-- a command that is bad leaves the output as it is
pub part_bad : (hub : Hub) (command : Command) (o : Option (List ℕ)) → BreaksIn (PlaysPart command) hub o o
part_bad hub command o = λ played stands. (played, inl refl, puts_no_part o o played refl)
