-- Each daemon of a script has a legal history.
use Rattle.std.proofs.Common.{◌≡◌, ◌⊎◌, inl, inr, ℕ, zero, suc, ◌≤◌, ◌≢◌, ◌==◌, ◌&&◌, Bool, true, false, cond, not, ◌||◌, List, [], ◌∷◌, nat_le, Some, None, refl, ap, subst, ◌∙◌, sym, arith}
use Rattle.std.specs.List.{cons_option}
use Rattle.std.proofs.lemmas.Bool.{false≢true}
use Rattle.mdns_history.specs.declared.config.Config.{Config}
use Rattle.mdns_history.specs.declared.event.Event.{Event}
use Rattle.mdns_history.specs.declared.event.Event.TheVariants as event
use Rattle.mdns_history.specs.declared.entry.Entry.{Entry}
use Rattle.mdns_history.specs.Fitting.{Fits, is_boot, is_host_label, last_moment, IsLegalFrom, IsLegal}
use Rattle.mdns_core.specs.InForce.{in_force}
use Rattle.mdns_script.specs.declared.command.Command.{Command}
use Rattle.mdns_script.specs.declared.command.Command.TheVariants.{Pass, Daemon, At, Word, Seed, Delay, Lose, Part, Meet, Attach, Event as Happening}
use Rattle.mdns_hub.specs.Played.{Played, Told, start, history_of, is_booted}
use Rattle.mdns_hub.specs.Plays.{is_bad_at, is_bad, Follows, Happens, Delivers, Ticks, AreDone, Does, with_under_way}
use Rattle.mdns_hub.specs.Once.{PlaysCommands, IsLegalOrNone, AreLegal}

-- each daemon's history is legal
abbrev AllLegal : List Told → Type 0
AllLegal told = (daemon : ℕ) → IsLegalOrNone (history_of daemon told)

fit : (entry : Entry) (past : List Entry) → IsLegalOrNone past → (past ≢ []) × Fits in_force entry past → IsLegal in_force (entry ∷ past)
fit entry [] legal f = absurd (f.0 refl)
fit entry (before ∷ past) legal f = (f.1, legal)

legal_more : (entry : Entry) (past : List Entry) → IsLegalOrNone past → (ev : Event) → Follows entry past ev → ((config : Config) → ev ≡ event.Boot config → (entry.moment ≤ last_moment) × (is_host_label config.host ≡ true)) → IsLegal in_force (entry ∷ past)
legal_more entry past legal (event.Boot config) follows boots = let b : (entry.moment ≤ last_moment) × (is_host_label config.host ≡ true) = boots config refl in
    subst (λ h. IsLegalFrom in_force entry h) (sym follows.0) (config, b.0, b.1, follows.1)
legal_more entry past legal event.Attach follows boots = fit entry past legal follows
legal_more entry past legal (event.Detach session) follows boots = fit entry past legal follows
legal_more entry past legal (event.Call session op request) follows boots = fit entry past legal follows
legal_more entry past legal (event.Hear from bytes) follows boots = fit entry past legal follows
legal_more entry past legal event.Tick follows boots = fit entry past legal follows
legal_more entry past legal (event.Take session max) follows boots = fit entry past legal follows

happens_legal : (daemon : ℕ) (ev : Event) (before after : Played) → AllLegal before.told → Happens daemon ev before after → ((config : Config) → ev ≡ event.Boot config → (before.clock ≤ last_moment) × (is_host_label config.host ≡ true)) → AllLegal after.told
happens_legal daemon ev before after legal h boots =
    subst AllLegal (sym (ap (λ (p : Played). p.told) h.after_is))
    (λ other. of other (daemon == other) refl (legal other))
  where
    more : IsLegal in_force (h.entry ∷ history_of daemon before.told)
    more = legal_more h.entry (history_of daemon before.told) (legal daemon) ev h.follows (λ config e. let b : (before.clock ≤ last_moment) × (is_host_label config.host ≡ true) = boots config e in (subst (λ m. m ≤ last_moment) (sym h.moment_is) b.0, b.1))

    of : (other : ℕ) (b : Bool) → (daemon == other) ≡ b → IsLegalOrNone (history_of other before.told) → IsLegalOrNone (cons_option (cond (daemon == other) (Some h.entry) None) (history_of other before.told))
    of other false e l = subst (λ c. IsLegalOrNone (cons_option (cond c (Some h.entry) None) (history_of other before.told))) (sym e) l
    of other true e l = let same : daemon ≡ other = grind (arith, e) in
        subst (λ c. IsLegalOrNone (cons_option (cond c (Some h.entry) None) (history_of other before.told))) (sym e) (subst (λ d. IsLegalOrNone (h.entry ∷ history_of d before.told)) same more)

no_boot : (moment : ℕ) (ev : Event) → is_boot ev ≡ false → (config : Config) → ev ≡ event.Boot config → (moment ≤ last_moment) × (is_host_label config.host ≡ true)
no_boot moment ev h config e = let boots : is_boot ev ≡ true = ap is_boot e in absurd (false≢true (sym h ∙ boots))

steps_legal : (until n : ℕ) (before after : Played) → AllLegal before.told → AreDone until n before after → AllLegal after.told
steps_legal until zero before after legal d = subst (λ (p : Played). AllLegal p.told) (sym d) legal
steps_legal until (suc n) before after legal d = steps_legal until n d.0 after (of d.1) d.2
  where
    of : Delivers until before d.0 ⊎ Ticks until before d.0 → AllLegal (d.0).told
    of (inl f) = happens_legal (f.delivery).daemon (event.Hear (f.delivery).from (f.delivery).bytes) (record (with_under_way f.rest before) { clock = (f.delivery).moment }) d.0 legal f.happens (no_boot (f.delivery).moment (event.Hear (f.delivery).from (f.delivery).bytes) refl)
    of (inr f) = happens_legal f.daemon event.Tick (record before { clock = f.moment }) d.0 legal f.happens (no_boot f.moment event.Tick refl)

last_of : (a b c : Bool) → (a || b || not c) ≡ false → c ≡ true
last_of true b c g = cc
last_of false true c g = cc
last_of false false true g = refl
last_of false false false g = cc

good_label : (before : Played) (number : ℕ) (config : Config) → is_bad before (Daemon number config) ≡ false → is_host_label config.host ≡ true
unfolding is_bad_at
good_label before number config h = last_of (not (nat_le 1 number && nat_le number 16)) (is_booted before.told number) (is_host_label config.host) h

good_event : (before : Played) (daemon : ℕ) (ev : Event) → is_bad before (Happening daemon ev) ≡ false → is_boot ev ≡ false
unfolding is_bad_at
good_event before daemon ev h = of (not (is_booted before.told daemon)) (is_boot ev) h
  where
    of : (a b : Bool) → (a || b) ≡ false → b ≡ false
    of true b g = cc
    of false b g = g

does_legal : (command : Command) (before after : Played) → AllLegal before.told → is_bad before command ≡ false → Does command before after → AllLegal after.told
does_legal Pass before after legal good d = subst (λ (p : Played). AllLegal p.told) (sym d) legal
does_legal (Daemon number config) before after legal good d =
    happens_legal number (event.Boot config) before after legal d.1 (λ other e. (d.0, subst (λ (c : Config). is_host_label c.host ≡ true) (same config other e) (good_label before number config good)))
  where
    config_of_event : Event → Config
    config_of_event (event.Boot c) = c
    config_of_event _ = config

    same : (a b : Config) → event.Boot a ≡ event.Boot b → a ≡ b
    same a b e = cc
does_legal (At moment) before after legal good d = subst (λ (p : Played). AllLegal p.told) (sym d.after_is) (steps_legal moment (d.done).0 before d.reached legal (d.done).1)
does_legal (Word word) before after legal good d = subst (λ (p : Played). AllLegal p.told) (sym d) legal
does_legal (Seed seed) before after legal good d = subst (λ (p : Played). AllLegal p.told) (sym d) legal
does_legal (Delay ms) before after legal good d = subst (λ (p : Played). AllLegal p.told) (sym d) legal
does_legal (Lose count) before after legal good d = subst (λ (p : Played). AllLegal p.told) (sym d) legal
does_legal (Part a b) before after legal good d = subst (λ (p : Played). AllLegal p.told) (sym d) legal
does_legal (Meet a b) before after legal good d = subst (λ (p : Played). AllLegal p.told) (sym d) legal
does_legal (Attach daemon) before after legal good d = happens_legal daemon event.Attach before after legal d (no_boot before.clock event.Attach refl)
does_legal (Happening daemon ev) before after legal good d = happens_legal daemon ev before after legal d (no_boot before.clock ev (good_event before daemon ev good))

all_legal : (commands : List Command) (before after : Played) → AllLegal before.told → PlaysCommands before commands after → AllLegal after.told
all_legal [] before after legal p = subst (λ (q : Played). AllLegal q.told) (sym p) legal
all_legal (command ∷ commands) before after legal p = all_legal commands p.0 after (does_legal command before p.0 legal (p.1).good (p.1).does) p.2

-- Each daemon of a script has a legal history.
pub are_legal : AreLegal
are_legal commands played p = all_legal commands start played (λ daemon. tt) p
