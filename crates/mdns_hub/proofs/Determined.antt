-- A script is played in one way alone.
use Rattle.std.proofs.Common.{◌≡◌, ◌⊎◌, inl, inr, ℕ, zero, suc, ◌<◌, ◌≤◌, max, Bool, true, false, not, List, [], ◌∷◌, refl, ap, subst, ◌∙◌, sym, arith}
use Rattle.std.specs.Prelude.{nat_lt}
use Rattle.mdns_history.specs.declared.event.Event.{Event}
use Rattle.mdns_history.specs.declared.event.Event.TheVariants as event
use Rattle.mdns_history.specs.declared.entry.Entry.{Entry}
use Rattle.mdns_core.specs.InForce.{in_force}
use Rattle.mdns_history.specs.Fitting.{Fits, boot_entry, next_entry}
use Rattle.mdns_script.specs.declared.command.Command.{Command}
use Rattle.mdns_script.specs.declared.command.Command.TheVariants.{Pass, Daemon, At, Word, Seed, Delay, Lose, Part, Meet, Attach, Event as Happening}
use Rattle.mdns_hub.specs.declared.delivery.Delivery.{Delivery}
use Rattle.mdns_hub.specs.Played.{Played, history_of}
use Rattle.mdns_hub.specs.Plays.{Follows, Happens, Delivers, Ticks, comes_by, AreDone, IsQuiet, RunsTo, Does, with_entry, with_under_way}
use Rattle.mdns_hub.specs.Once.{PlaysCommands, IsPlayedOnce}

fits_once : (past : List Entry) (left right : Entry) → Fits in_force left past → Fits in_force right past → left.event ≡ right.event → left.moment ≡ right.moment → left.word ≡ right.word → left ≡ right
fits_once past left right f g e m w =
    f.determined ∙ ap (λ t. next_entry in_force past t left.word left.event) m ∙ ap (λ t. next_entry in_force past right.moment t left.event) w ∙ ap (next_entry in_force past right.moment right.word) e ∙ sym g.determined

-- two entries of one event at one moment, with one word
entry_once : (past : List Entry) (ev : Event) (left right : Entry) → Follows left past ev → Follows right past ev → left.event ≡ ev → right.event ≡ ev → left.moment ≡ right.moment → left.word ≡ right.word → left ≡ right
entry_once past (event.Boot config) left right f g le re m w = f.1 ∙ ap (λ t. boot_entry t left.word config) m ∙ ap (λ t. boot_entry right.moment t config) w ∙ sym g.1
entry_once past event.Attach left right f g le re m w = fits_once past left right f.1 g.1 (le ∙ sym re) m w
entry_once past (event.Detach session) left right f g le re m w = fits_once past left right f.1 g.1 (le ∙ sym re) m w
entry_once past (event.Call session op request) left right f g le re m w = fits_once past left right f.1 g.1 (le ∙ sym re) m w
entry_once past (event.Hear from bytes) left right f g le re m w = fits_once past left right f.1 g.1 (le ∙ sym re) m w
entry_once past event.Tick left right f g le re m w = fits_once past left right f.1 g.1 (le ∙ sym re) m w
entry_once past (event.Take session max) left right f g le re m w = fits_once past left right f.1 g.1 (le ∙ sym re) m w

happens_once : (daemon : ℕ) (ev : Event) (before left right : Played) → Happens daemon ev before left → Happens daemon ev before right → left ≡ right
happens_once daemon ev before left right f g =
    let same : f.entry ≡ g.entry = entry_once (history_of daemon before.told) ev f.entry g.entry f.follows g.follows f.event_is g.event_is (f.moment_is ∙ sym g.moment_is) (f.word_is ∙ sym g.word_is) in
    f.after_is ∙ ap (λ (e : Entry). with_entry daemon e before) same ∙ sym g.after_is

-- the first of a list, and the rest
abbrev head_or : Delivery → List Delivery → Delivery
head_or d [] = d
head_or d (x ∷ xs) = x

abbrev tail_of : List Delivery → List Delivery
tail_of [] = []
tail_of (x ∷ xs) = xs

delivers_once : (until : ℕ) (before left right : Played) → Delivers until before left → Delivers until before right → left ≡ right
delivers_once until before left right f g =
    let lists : f.delivery ∷ f.rest ≡ g.delivery ∷ g.rest = sym f.first ∙ g.first in
    let one : f.delivery ≡ g.delivery = ap (head_or f.delivery) lists in
    let rest : f.rest ≡ g.rest = ap tail_of lists in
    happens_once (g.delivery).daemon (event.Hear (g.delivery).from (g.delivery).bytes) (record (with_under_way g.rest before) { clock = (g.delivery).moment }) left right
    (subst (λ (ds : List Delivery). Happens (g.delivery).daemon (event.Hear (g.delivery).from (g.delivery).bytes) (record (with_under_way ds before) { clock = (g.delivery).moment }) left) rest
    (subst (λ (d : Delivery). Happens d.daemon (event.Hear d.from d.bytes) (record (with_under_way f.rest before) { clock = d.moment }) left) one f.happens))
    g.happens

-- a packet and a tick aren't both next
come_first : (delivery : Delivery) (rest under_way : List Delivery) (moment : ℕ) → under_way ≡ delivery ∷ rest → delivery.moment ≤ moment → comes_by moment under_way ≡ false → ⊥
come_first delivery rest under_way moment e l none = of (nat_lt moment delivery.moment) refl (sym (ap (comes_by moment) e) ∙ none)
  where
    of : (b : Bool) → nat_lt moment delivery.moment ≡ b → not b ≡ false → ⊥
    of true f g = let above : moment < delivery.moment = grind (arith, f) in omega (arith, above, l)
    of false f g = cc

one_next : (until : ℕ) (before left right : Played) → Delivers until before left → Ticks until before right → ⊥
one_next until before left right f g = come_first f.delivery f.rest before.link.under_way g.moment f.first (f.before_ticks g.daemon g.moment g.due) g.no_packet

moments_once : (a b c d : ℕ) → (a < b) ⊎ ((a ≡ b) × (c ≤ d)) → (b < a) ⊎ ((b ≡ a) × (d ≤ c)) → (a ≡ b) × (c ≡ d)
moments_once a b c d (inl l) (inl k) = absurd (no a b l k)
  where
    no : (x y : ℕ) → x < y → y < x → ⊥
    no x y p q = omega (arith, p, q)
moments_once a b c d (inl l) (inr k) = absurd (no a b l k.0)
  where
    no : (x y : ℕ) → x < y → y ≡ x → ⊥
    no x y p q = omega (arith, p, q)
moments_once a b c d (inr l) (inl k) = absurd (no a b l.0 k)
  where
    no : (x y : ℕ) → x ≡ y → y < x → ⊥
    no x y p q = omega (arith, p, q)
moments_once a b c d (inr l) (inr k) = (l.0, omega (arith, l.1, k.1))

ticks_once : (until : ℕ) (before left right : Played) → Ticks until before left → Ticks until before right → left ≡ right
ticks_once until before left right f g =
    let same : (f.moment ≡ g.moment) × (f.daemon ≡ g.daemon) = moments_once f.moment g.moment f.daemon g.daemon (f.first g.daemon g.moment g.due) (g.first f.daemon f.moment f.due) in
    happens_once g.daemon event.Tick (record before { clock = g.moment }) left right
    (subst (λ (d : ℕ). Happens d event.Tick (record before { clock = g.moment }) left) same.1 (subst (λ (t : ℕ). Happens f.daemon event.Tick (record before { clock = t }) left) same.0 f.happens))
    g.happens

step_once : (until : ℕ) (before left right : Played) → Delivers until before left ⊎ Ticks until before left → Delivers until before right ⊎ Ticks until before right → left ≡ right
step_once until before left right (inl f) (inl g) = delivers_once until before left right f g
step_once until before left right (inl f) (inr g) = absurd (one_next until before left right f g)
step_once until before left right (inr f) (inl g) = absurd (one_next until before right left g f)
step_once until before left right (inr f) (inr g) = ticks_once until before left right f g

-- where nothing is due no step is left
quiet_ends : (until : ℕ) (before after : Played) → IsQuiet until before → Delivers until before after ⊎ Ticks until before after → ⊥
quiet_ends until before after quiet (inl f) = come_first f.delivery f.rest before.link.under_way until f.first f.by quiet.no_packet
quiet_ends until before after quiet (inr f) = let over : until < f.moment = quiet.no_tick f.daemon f.moment f.due in let by : f.moment ≤ until = f.by in omega (arith, over, by)

done_once : (until m n : ℕ) (before left right : Played) → AreDone until m before left → AreDone until n before right → IsQuiet until left → IsQuiet until right → left ≡ right
done_once until zero zero before left right f g p q = f ∙ sym g
done_once until zero (suc n) before left right f g p q = absurd (quiet_ends until before g.0 (subst (IsQuiet until) f p) g.1)
done_once until (suc m) zero before left right f g p q = absurd (quiet_ends until before f.0 (subst (IsQuiet until) g q) f.1)
done_once until (suc m) (suc n) before left right f g p q =
    let same : f.0 ≡ g.0 = step_once until before f.0 g.0 f.1 g.1 in
    done_once until m n g.0 left right (subst (λ b. AreDone until m b left) same f.2) g.2 p q

runs_once : (until : ℕ) (before left right : Played) → RunsTo until before left → RunsTo until before right → left ≡ right
runs_once until before left right f g =
    f.after_is ∙ ap (λ (r : Played). let p : Played = record r { clock = until } in p) (done_once until (f.done).0 (g.done).0 before f.reached g.reached (f.done).1 (g.done).1 f.quiet g.quiet) ∙ sym g.after_is

does_once : (command : Command) (before left right : Played) → Does command before left → Does command before right → left ≡ right
does_once Pass before left right f g = f ∙ sym g
does_once (Daemon number config) before left right f g = happens_once number (event.Boot config) before left right f.1 g.1
does_once (At moment) before left right f g = runs_once moment before left right f g
does_once (Word word) before left right f g = f ∙ sym g
does_once (Seed seed) before left right f g = f ∙ sym g
does_once (Delay ms) before left right f g = f ∙ sym g
does_once (Lose count) before left right f g = f ∙ sym g
does_once (Part a b) before left right f g = f ∙ sym g
does_once (Meet a b) before left right f g = f ∙ sym g
does_once (Attach daemon) before left right f g = happens_once daemon event.Attach before left right f g
does_once (Happening daemon ev) before left right f g = happens_once daemon ev before left right f g

-- What commands play is determined.
pub is_played_once : IsPlayedOnce
is_played_once [] before left right f g = f ∙ sym g
is_played_once (command ∷ commands) before left right f g =
    let same : f.0 ≡ g.0 = does_once command before f.0 g.0 (f.1).does (g.1).does in
    is_played_once commands g.0 left right (subst (λ b. PlaysCommands b commands left) same f.2) g.2
