-- The slots stand for the histories of their numbers, step by step.
use Rattle.std.proofs.Common.{◌≡◌, ◌≢◌, ℕ, ◌==◌, Bool, true, false, cond, List, [], ◌∷◌, Option, Some, None, option_map, eq-eqb, refl, sym, ap, subst, ◌∙◌, arith}
use Rattle.std.specs.List.{cons_option}
use Rattle.std.specs.Option.{is_some, option_or, option_map_or}
use Rattle.std.proofs.lemmas.Bool.{false≢true}
use Rattle.mdns_history.specs.declared.config.Config.{Config}
use Rattle.mdns_history.specs.declared.event.Event.{Event}
use Rattle.mdns_history.specs.declared.event.Event.TheVariants as event
use Rattle.mdns_history.specs.declared.entry.Entry.{Entry}
use Rattle.mdns_history.specs.History.{config_of, booted}
use Rattle.mdns_history.specs.Fitting.{Fits, boot_entry, is_boot}
use Rattle.mdns_core.specs.InForce.{in_force}
use Rattle.mdns_core.specs.State.{State, Stands}
use Rattle.mdns_hub.specs.declared.daemons.Booted.{Booted}
use Rattle.mdns_hub.specs.Played.{Told, history_of, config_in, is_booted, address_in}
use Rattle.mdns_hub.specs.Slots.{slot_at, is_kept, address_at, tally_at}
use Rattle.mdns_hub.specs.Tallies.{no_tally, with_gifts, tally_of}
use Rattle.mdns_hub.specs.Stepped.{IsStep}
use Rattle.mdns_hub.specs.Plays.{Follows}
use Rattle.mdns_hub.specs.Hubs.{SlotStands, SlotsStand}

-- functions of numbers that agree are one
pub same_function : {X : Type 0} (f g : ℕ → X) → ((n : ℕ) → f n ≡ g n) → f ≡ g
same_function f g h = λ i n. h n i

-- an entry of a daemon, told behind others
abbrev pub telling : ℕ → Entry → List Told → List Told
telling number entry told = record { daemon = number; entry = entry } ∷ told

-- it goes behind the history of that daemon
pub history_here : (number : ℕ) (entry : Entry) (told : List Told) → history_of number (telling number entry told) ≡ entry ∷ history_of number told
history_here number entry told = of (number == number) (eq-eqb number number refl)
  where
    of : (b : Bool) → b ≡ true → cons_option (cond b (Some entry) None) (history_of number told) ≡ entry ∷ history_of number told
    of true e = refl
    of false e = cc

-- and changes no other
pub history_there : (number other : ℕ) (entry : Entry) (told : List Told) → (other ≡ number → ⊥) → history_of other (telling number entry told) ≡ history_of other told
history_there number other entry told d = of (number == other) refl
  where
    of : (b : Bool) → (number == other) ≡ b → cons_option (cond b (Some entry) None) (history_of other told) ≡ history_of other told
    of true e = let same : number ≡ other = grind (arith, e) in absurd (d (sym same))
    of false e = refl

-- an entry that is no boot leaves the configuration
pub config_stays : (entry : Entry) (past : List Entry) → is_boot entry.event ≡ false → config_of (entry ∷ past) ≡ config_of past
config_stays entry past h = of entry.event h
  where
    of : (ev : Event) → is_boot ev ≡ false → option_or (booted ev) (config_of past) ≡ config_of past
    of (event.Boot config) e = cc
    of event.Attach e = refl
    of (event.Detach session) e = refl
    of (event.Call session op request) e = refl
    of (event.Hear from bytes) e = refl
    of event.Tick e = refl
    of (event.Take session max) e = refl

pub some_history : (state : State) (history : List Entry) → Stands state history → history ≢ []
some_history state [] stands e = stands.legal
some_history state (entry ∷ past) stands e = cc

-- an entry that fits where the history has begun follows it
pub follows_fit : (ev : Event) (entry : Entry) (past : List Entry) → is_boot ev ≡ false → past ≢ [] → Fits in_force entry past → Follows entry past ev
follows_fit (event.Boot config) entry past h some fits = cc
follows_fit event.Attach entry past h some fits = (some, fits)
follows_fit (event.Detach session) entry past h some fits = (some, fits)
follows_fit (event.Call session op request) entry past h some fits = (some, fits)
follows_fit (event.Hear from bytes) entry past h some fits = (some, fits)
follows_fit event.Tick entry past h some fits = (some, fits)
follows_fit (event.Take session max) entry past h some fits = (some, fits)

-- addresses, and who was booted

address_same : (slot : Option Booted) (history : List Entry) → SlotStands slot history → option_map (λ (config : Config). config.address) (config_of history) ≡ option_map (λ (b : Booted). b.address) slot
address_same None history h = ap (λ (es : List Entry). option_map (λ (config : Config). config.address) (config_of es)) h
address_same (Some b) history h = h.1

pub addresses_same : (slots : List (Option Booted)) (told : List Told) → SlotsStand slots told → address_in told ≡ address_at slots
addresses_same slots told h = same_function (address_in told) (address_at slots) (λ number. address_same (slot_at slots number) (history_of number told) (h number))

some_mapped : {X Y : Type 0} (f : X → Y) (o : Option X) → is_some (option_map f o) ≡ is_some o
some_mapped f None = refl
some_mapped f (Some x) = refl

pub booted_same : (slots : List (Option Booted)) (told : List Told) → SlotsStand slots told → is_booted told ≡ is_kept slots
booted_same slots told h = same_function (is_booted told) (is_kept slots) (λ number.
    sym (some_mapped (λ (config : Config). config.address) (config_in told number))
    ∙ ap is_some (address_same (slot_at slots number) (history_of number told) (h number))
    ∙ some_mapped (λ (b : Booted). b.address) (slot_at slots number))

-- what each daemon gave is counted

tally_same : (slot : Option Booted) (history : List Entry) → SlotStands slot history → option_map_or (λ (b : Booted). b.tally) slot no_tally ≡ tally_of history
tally_same None history h = ap tally_of (sym h)
tally_same (Some b) history h = h.2

pub tallies_same : (slots : List (Option Booted)) (told : List Told) (number : ℕ) → SlotsStand slots told → tally_at slots number ≡ tally_of (history_of number told)
tallies_same slots told number h = tally_same (slot_at slots number) (history_of number told) (h number)

-- A number is another, or the same.
by_number : {P : Type 0} (number other : ℕ) → (other ≡ number → P) → ((other ≡ number → ⊥) → P) → P
by_number {P = P} number other same apart = of (other == number) refl
  where
    of : (b : Bool) → (other == number) ≡ b → P
    of true e = same (grind (arith, e))
    of false e = apart (λ (one : other ≡ number). absurd (false≢true (sym e ∙ eq-eqb other number one)))

-- slots of which one was changed stand where that one does, and the others are as before
slots_changed : (number : ℕ) (old new : List (Option Booted)) (entry : Entry) (told : List Told) → SlotsStand old told
    → ((other : ℕ) → (other ≡ number → ⊥) → slot_at new other ≡ slot_at old other) → SlotStands (slot_at new number) (entry ∷ history_of number told)
    → SlotsStand new (telling number entry told)
slots_changed number old new entry told stands others here = λ other. by_number number other
    (λ same. subst (λ (n : ℕ). SlotStands (slot_at new n) (history_of n (telling number entry told))) (sym same)
    (subst (λ (h : List Entry). SlotStands (slot_at new number) h) (sym (history_here number entry told)) here))
    (λ apart. subst (λ (h : List Entry). SlotStands (slot_at new other) h) (sym (history_there number other entry told apart))
    (subst (λ (slot : Option Booted). SlotStands slot (history_of other told)) (sym (others other apart)) (stands other)))

-- the slots after a step stand for the histories with its entry, which follows
pub stands_step : (number moment word : ℕ) (ev : Event) (old new : List (Option Booted)) (entry : Entry) (told : List Told) → IsStep number moment word ev old new entry → is_boot ev ≡ false
    → SlotsStand old told → SlotsStand new (telling number entry told) × Follows entry (history_of number told) ev
stands_step number moment word ev old new entry told s no_boot stands =
    let past : List Entry = history_of number told in
    let before : SlotStands (Some s.before) past = subst (λ (slot : Option Booted). SlotStands slot past) s.was (stands number) in
    let fits : Fits in_force entry past × Stands (s.after).daemon (entry ∷ past) = s.fits past before.0 in
    let here : SlotStands (Some s.after) (entry ∷ past) =
    (fits.1, ap (option_map (λ (config : Config). config.address)) (config_stays entry past (ap is_boot s.event_is ∙ no_boot)) ∙ before.1 ∙ ap Some (sym s.address), s.tally ∙ ap (with_gifts entry.given) before.2) in (
      slots_changed number old new entry told stands s.others (subst (λ (slot : Option Booted). SlotStands slot (entry ∷ past)) (sym s.is) here),
      follows_fit ev entry past no_boot (some_history (s.before).daemon past before.0) fits.0,
    )

none_from : {T : Type 0} (o : Option T) → is_some o ≡ false → o ≡ None
none_from None h = refl
none_from (Some x) h = absurd (false≢true (sym h))

-- a slot that is empty has no history
pub no_history : (slots : List (Option Booted)) (told : List Told) (number : ℕ) → SlotsStand slots told → is_kept slots number ≡ false → history_of number told ≡ []
no_history slots told number stands free = subst (λ (slot : Option Booted). SlotStands slot (history_of number told)) (none_from (slot_at slots number) free) (stands number)

-- the slots after a boot stand for the histories with its entry
pub stands_boot : (number moment word : ℕ) (config : Config) (old new : List (Option Booted)) (daemon : Booted) (told : List Told) → is_kept old number ≡ false
    → ((other : ℕ) → slot_at new other ≡ cond (other == number) (Some daemon) (slot_at old other)) → daemon.address ≡ config.address
    → daemon.tally ≡ no_tally → Stands daemon.daemon (boot_entry moment word config ∷ []) → SlotsStand old told → SlotsStand new (telling number (boot_entry moment word config) told)
stands_boot number moment word config old new daemon told free put address empty stands before =
    slots_changed number old new (boot_entry moment word config) told before
    (λ other apart. put other ∙ ap (λ (b : Bool). cond b (Some daemon) (slot_at old other)) (differs other apart))
    (subst (λ (slot : Option Booted). SlotStands slot (boot_entry moment word config ∷ history_of number told)) (sym (put number ∙ ap (λ (b : Bool). cond b (Some daemon) (slot_at old number)) (eq-eqb number number refl))) (
      subst (λ (past : List Entry). Stands daemon.daemon (boot_entry moment word config ∷ past)) (sym (no_history old told number before free)) stands,
      ap Some (sym address),
      empty ∙ ap tally_of (sym (no_history old told number before free)),
    ))
  where
    differs : (other : ℕ) → (other ≡ number → ⊥) → (other == number) ≡ false
    differs other apart = of (other == number) refl
      where
        of : (b : Bool) → (other == number) ≡ b → b ≡ false
        of true e = absurd (apart (grind (arith, e)))
        of false e = refl
