-- None of the commands of a generated script is bad at its place.
use Rattle.std.proofs.Common.{◌≡◌, ◌⊎◌, inl, inr, ℕ, zero, suc, ◌==◌, Bool, true, false, cond, not, ◌&&◌, ◌||◌, nat_le, List, [], ◌∷◌, ◌++◌, map, codes, Option, Some, None, refl, sym, ap, subst, ◌∙◌, rules}
use Rattle.std.specs.List.{cons_option}
use Rattle.std.specs.Option.{is_some, option_or}
use Rattle.std.specs.Str.{is_utf8, IsAscii}
use Rattle.std.proofs.lemmas.Str.{is_utf8-from_IsUtf8, IsUtf8-from_ascii}
use Rattle.lists.specs.Lists.{count_up}
use Rattle.mdns_history.specs.declared.config.Config.{Config}
use Rattle.mdns_history.specs.declared.event.Event.{Event}
use Rattle.mdns_history.specs.declared.event.Event.TheVariants as event
use Rattle.mdns_history.specs.declared.entry.Entry.{Entry}
use Rattle.mdns_history.specs.History.{config_of, booted}
use Rattle.mdns_history.specs.Fitting.{is_boot, is_host_label}
use Rattle.mdns_script.specs.declared.command.Command.{Command}
use Rattle.mdns_script.specs.declared.command.Command.TheVariants.{Daemon, At, Seed, Delay, Attach, Event as Happening}
use Rattle.mdns_hub.specs.Played.{Played, Told, start, history_of, is_booted}
use Rattle.mdns_hub.specs.Plays.{is_bad_at, is_bad, is_out_of_reach, Happens, Boots, Delivers, Ticks, AreDone, RunsTo, Does, with_under_way}
use Rattle.mdns_generator.specs.Generated.{generated, starting, booting, opening, registering, browsing, closing, session_count}
use Rattle.mdns_generator.specs.Goodness.{AreGood}
use Rattle.mdns_generator.proofs.Leading.{Lead, LeadsOn, lead_then, lead_none, lead_cons, lead_one, lead_map}

-- Who was booted stays booted.

abbrev telling : ℕ → Entry → List Told → List Told
telling daemon entry told = record { daemon = daemon; entry = entry } ∷ told

or_some : (a b : Option Config) → is_some b ≡ true → is_some (option_or a b) ≡ true
or_some None b h = h
or_some (Some x) b h = refl

stays : (daemon other : ℕ) (entry : Entry) (told : List Told) → is_booted told other ≡ true → is_booted (telling daemon entry told) other ≡ true
stays daemon other entry told h = of (daemon == other)
  where
    of : (b : Bool) → is_some (config_of (cons_option (cond b (Some entry) None) (history_of other told))) ≡ true
    of true = or_some (booted entry.event) (config_of (history_of other told)) h
    of false = h

told_after : (daemon : ℕ) (ev : Event) (before after : Played) (h : Happens daemon ev before after) → after.told ≡ telling daemon h.entry before.told
told_after daemon ev before after h = ap (λ (p : Played). p.told) h.after_is

happens_stays : (daemon other : ℕ) (ev : Event) (before after : Played) → Happens daemon ev before after → is_booted before.told other ≡ true → is_booted after.told other ≡ true
happens_stays daemon other ev before after h was =
    subst (λ (told : List Told). is_booted told other ≡ true) (sym (told_after daemon ev before after h)) (stays daemon other h.entry before.told was)

steps_stay : (until n other : ℕ) (before after : Played) → AreDone until n before after → is_booted before.told other ≡ true → is_booted after.told other ≡ true
steps_stay until zero other before after d was = subst (λ (p : Played). is_booted p.told other ≡ true) (sym d) was
steps_stay until (suc n) other before after d was = steps_stay until n other d.0 after d.2 (of d.1)
  where
    of : Delivers until before d.0 ⊎ Ticks until before d.0 → is_booted (d.0).told other ≡ true
    of (inl f) = happens_stays (f.delivery).daemon other (event.Hear (f.delivery).from (f.delivery).bytes) (record (with_under_way f.rest before) { clock = (f.delivery).moment }) d.0 f.happens was
    of (inr f) = happens_stays f.daemon other event.Tick (record before { clock = f.moment }) d.0 f.happens was

-- What holds between the commands.

-- the clock, and whether each of the two daemons was booted
abbrev Is : ℕ → Bool → Bool → Played → Type 0
Is clock one two p = (p.clock ≡ clock) × (is_booted p.told 1 ≡ one) × (is_booted p.told 2 ≡ two)

-- both were
abbrev Ready : ℕ → Played → Type 0
Ready clock = Is clock true true

ready_happens : (clock daemon : ℕ) (ev : Event) (p q : Played) → Ready clock p → Happens daemon ev p q → Ready clock q
ready_happens clock daemon ev p q r h =
    (ap (λ (x : Played). x.clock) h.after_is ∙ r.0, happens_stays daemon 1 ev p q h r.1, happens_stays daemon 2 ev p q h r.2)

good_attach : (p : Played) (daemon : ℕ) → is_booted p.told daemon ≡ true → is_bad p (Attach daemon) ≡ false
unfolding is_bad_at
good_attach p daemon h = ap not h

good_event : (p : Played) (daemon : ℕ) (ev : Event) → is_booted p.told daemon ≡ true → is_boot ev ≡ false → is_bad p (Happening daemon ev) ≡ false
unfolding is_bad_at
good_event p daemon ev h no_boot = ap (λ (b : Bool). not b || is_boot ev) h ∙ no_boot

one_attaches : (clock : ℕ) → LeadsOn (Ready clock) (Attach 1) (Ready clock)
one_attaches clock = λ p r. (good_attach p 1 r.1, λ q h. ready_happens clock 1 event.Attach p q r h)

two_attaches : (clock : ℕ) → LeadsOn (Ready clock) (Attach 2) (Ready clock)
two_attaches clock = λ p r. (good_attach p 2 r.2, λ q h. ready_happens clock 2 event.Attach p q r h)

one_happens : (clock : ℕ) (ev : Event) → is_boot ev ≡ false → LeadsOn (Ready clock) (Happening 1 ev) (Ready clock)
one_happens clock ev no_boot = λ p r. (good_event p 1 ev r.1 no_boot, λ q h. ready_happens clock 1 ev p q r h)

two_happens : (clock : ℕ) (ev : Event) → is_boot ev ≡ false → LeadsOn (Ready clock) (Happening 2 ev) (Ready clock)
two_happens clock ev no_boot = λ p r. (good_event p 2 ev r.2 no_boot, λ q h. ready_happens clock 2 ev p q r h)

good_at : (p : Played) (clock moment : ℕ) → p.clock ≡ clock → is_out_of_reach clock moment ≡ false → is_bad p (At moment) ≡ false
unfolding is_bad_at
good_at p clock moment e h = ap (λ (n : ℕ). is_out_of_reach n moment) e ∙ h

time_passes : (clock moment : ℕ) → is_out_of_reach clock moment ≡ false → LeadsOn (Ready clock) (At moment) (Ready moment)
time_passes clock moment reach = λ p r. (good_at p clock moment r.0 reach, λ q d. run p q r d)
  where
    run : (p q : Played) → Ready clock p → RunsTo moment p q → Ready moment q
    run p q r d = (
      ap (λ (x : Played). x.clock) d.after_is,
      subst (λ (x : Played). is_booted x.told 1 ≡ true) (sym d.after_is) (steps_stay moment (d.done).0 1 p d.reached (d.done).1 r.1),
      subst (λ (x : Played). is_booted x.told 2 ≡ true) (sym d.after_is) (steps_stay moment (d.done).0 2 p d.reached (d.done).1 r.2),
    )

-- The start.

seed_set : (n : ℕ) → LeadsOn (Is 0 false false) (Seed n) (Is 0 false false)
unfolding is_bad_at
seed_set n = λ p f. (refl, λ q e. subst (Is 0 false false) (sym e) f)

delay_set : LeadsOn (Is 0 false false) (Delay 5) (Is 0 false false)
unfolding is_bad_at
delay_set = λ p f. (refl, λ q e. subst (Is 0 false false) (sym e) f)

none_of : (a b c : Bool) → a ≡ false → b ≡ false → c ≡ true → (a || b || not c) ≡ false
none_of true b c e f g = cc
none_of false true c e f g = cc
none_of false false true e f g = refl
none_of false false false e f g = cc

good_boot : (p : Played) (number : ℕ) (config : Config) → not (nat_le 1 number && nat_le number 16) ≡ false → is_booted p.told number ≡ false → is_host_label config.host ≡ true → is_bad p (Daemon number config) ≡ false
unfolding is_bad_at
good_boot p number config within free label = none_of (not (nat_le 1 number && nat_le number 16)) (is_booted p.told number) (is_host_label config.host) within free label

-- an entry that boots has a configuration
boots_config : (ev : Event) (config : Config) (past : List Entry) → ev ≡ event.Boot config → is_some (option_or (booted ev) (config_of past)) ≡ true
boots_config ev config past e = ap (λ (x : Event). is_some (option_or (booted x) (config_of past))) e

first_booted : (config : Config) → is_host_label config.host ≡ true → LeadsOn (Is 0 false false) (Daemon 1 config) (Is 0 true false)
first_booted config label = λ p f. (good_boot p 1 config refl f.1 label, λ q d. run p q f d.1)
  where
    run : (p q : Played) → Is 0 false false p → Happens 1 (event.Boot config) p q → Is 0 true false q
    run p q f h = (
      ap (λ (x : Played). x.clock) h.after_is ∙ f.0,
      ap (λ (told : List Told). is_booted told 1) (told_after 1 (event.Boot config) p q h) ∙ boots_config h.entry.event config (history_of 1 p.told) h.event_is,
      ap (λ (told : List Told). is_booted told 2) (told_after 1 (event.Boot config) p q h) ∙ f.2,
    )

second_booted : (config : Config) → is_host_label config.host ≡ true → LeadsOn (Is 0 true false) (Daemon 2 config) (Ready 0)
second_booted config label = λ p f. (good_boot p 2 config refl f.2 label, λ q d. run p q f d.1)
  where
    run : (p q : Played) → Is 0 true false p → Happens 2 (event.Boot config) p q → Ready 0 q
    run p q f h = (
      ap (λ (x : Played). x.clock) h.after_is ∙ f.0,
      happens_stays 2 1 (event.Boot config) p q h f.1,
      ap (λ (told : List Told). is_booted told 2) (told_after 2 (event.Boot config) p q h) ∙ boots_config h.entry.event config (history_of 2 p.told) h.event_is,
    )

-- the labels of the hosts are text
one_label : is_host_label (Some (record { label = codes "g1"; v6 = None })) ≡ true
one_label = let ascii : IsAscii (codes "g1") = search rules in ap (λ (b : Bool). true && b && true) (is_utf8-from_IsUtf8 (codes "g1") (IsUtf8-from_ascii (codes "g1") ascii))

two_label : is_host_label (Some (record { label = codes "g2"; v6 = None })) ≡ true
two_label = let ascii : IsAscii (codes "g2") = search rules in ap (λ (b : Bool). true && b && true) (is_utf8-from_IsUtf8 (codes "g2") (IsUtf8-from_ascii (codes "g2") ascii))

starts : (n : ℕ) → Lead (Is 0 false false) (starting n) (Ready 0)
starts n =
    lead_cons (Is 0 false false) (Is 0 false false) (Ready 0) (Seed n) (Delay 5 ∷ booting 1 (codes "g1") ∷ booting 2 (codes "g2") ∷ []) (seed_set n)
    (lead_cons (Is 0 false false) (Is 0 false false) (Ready 0) (Delay 5) (booting 1 (codes "g1") ∷ booting 2 (codes "g2") ∷ []) delay_set
    (lead_cons (Is 0 false false) (Is 0 true false) (Ready 0) (booting 1 (codes "g1")) (booting 2 (codes "g2") ∷ []) (first_booted (record { address = 167772161; host = Some (record { label = codes "g1"; v6 = None }) }) one_label)
    (lead_one (Is 0 true false) (Ready 0) (booting 2 (codes "g2")) (second_booted (record { address = 167772162; host = Some (record { label = codes "g2"; v6 = None }) }) two_label))))

-- All of them.

all_lead : (n : ℕ) → Lead (Is 0 false false) (generated n) (Ready 20000)
unfolding generated
all_lead n =
    let sessions : List ℕ = count_up 1 (session_count n) in
    let opened : List Command = starting n ++ map opening sessions in
    let registered : List Command = opened ++ map registering (count_up 1 n) in
    let attached : List Command = registered ++ Attach 2 ∷ [] in
    let browsed : List Command = attached ++ map browsing (count_up 0 7) in
    let waited : List Command = browsed ++ At 10000 ∷ [] in
    let closed : List Command = waited ++ map closing sessions in
    lead_then (Is 0 false false) (Ready 10000) (Ready 20000) closed (At 20000 ∷ [])
    (lead_then (Is 0 false false) (Ready 10000) (Ready 10000) waited (map closing sessions)
    (lead_then (Is 0 false false) (Ready 0) (Ready 10000) browsed (At 10000 ∷ [])
    (lead_then (Is 0 false false) (Ready 0) (Ready 0) attached (map browsing (count_up 0 7))
    (lead_then (Is 0 false false) (Ready 0) (Ready 0) registered (Attach 2 ∷ [])
    (lead_then (Is 0 false false) (Ready 0) (Ready 0) opened (map registering (count_up 1 n))
    (lead_then (Is 0 false false) (Ready 0) (Ready 0) (starting n) (map opening sessions)
    (starts n)
    (lead_map (Ready 0) opening (λ i. one_attaches 0) sessions))
    (lead_map (Ready 0) registering (λ i. one_happens 0 _ refl) (count_up 1 n)))
    (lead_one (Ready 0) (Ready 0) (Attach 2) (two_attaches 0)))
    (lead_map (Ready 0) browsing (λ m. two_happens 0 _ refl) (count_up 0 7)))
    (lead_one (Ready 0) (Ready 10000) (At 10000) (time_passes 0 10000 refl)))
    (lead_map (Ready 10000) closing (λ i. one_happens 10000 (event.Detach i) refl) sessions))
    (lead_one (Ready 10000) (Ready 20000) (At 20000) (time_passes 10000 20000 refl))

pub generated_good : (n : ℕ) → AreGood start (generated n)
generated_good n = (all_lead n start (refl, refl, refl)).0
