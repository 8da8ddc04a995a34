-- Commands that are good at their places, and what holds once they were played.
use Rattle.std.proofs.Common.{◌≡◌, ℕ, false, List, [], ◌∷◌, ◌++◌, map, refl, sym, subst}
use Rattle.mdns_script.specs.declared.command.Command.{Command}
use Rattle.mdns_hub.specs.Played.{Played}
use Rattle.mdns_hub.specs.Plays.{is_bad, Does, Plays}
use Rattle.mdns_hub.specs.Once.{PlaysCommands}
use Rattle.mdns_generator.specs.Goodness.{AreGood}

-- commands are good from here on, and lead to where Q holds
abbrev pub GoTo : (Played → Type 0) → Played → List Command → Type 0
GoTo Q p commands = AreGood p commands × ((q : Played) → PlaysCommands p commands q → Q q)

-- so they do wherever P holds
abbrev pub Lead : (Played → Type 0) → List Command → (Played → Type 0) → Type 0
Lead P commands Q = (p : Played) → P p → GoTo Q p commands

-- and one command does
abbrev pub LeadsOn : (Played → Type 0) → Command → (Played → Type 0) → Type 0
LeadsOn P command Q = (p : Played) → P p → (is_bad p command ≡ false) × ((q : Played) → Does command p q → Q q)

go_then : (Q R : Played → Type 0) (cs ds : List Command) (p : Played) → GoTo Q p cs → ((q : Played) → Q q → GoTo R q ds) → GoTo R p (cs ++ ds)
go_then Q R [] ds p h g = g p (h.1 p refl)
go_then Q R (c ∷ cs) ds p h g =
    let rest : (q : Played) → Plays c p q → GoTo R q (cs ++ ds) = λ q plays. go_then Q R cs ds q (h.0.1 q plays, λ r more. h.1 r (q, plays, more)) g in
    ((h.0.0, λ q plays. (rest q plays).0), λ r more. (rest more.0 more.1).1 r more.2)

pub lead_then : (P Q R : Played → Type 0) (cs ds : List Command) → Lead P cs Q → Lead Q ds R → Lead P (cs ++ ds) R
lead_then P Q R cs ds f g = λ p h. go_then Q R cs ds p (f p h) g

pub lead_none : (P : Played → Type 0) → Lead P [] P
lead_none P = λ p h. (tt, λ q e. subst P (sym e) h)

pub lead_cons : (P Q R : Played → Type 0) (c : Command) (cs : List Command) → LeadsOn P c Q → Lead Q cs R → Lead P (c ∷ cs) R
lead_cons P Q R c cs f g = λ p h.
    ((((f p h).0), λ q plays. (g q ((f p h).1 q plays.does)).0), λ r more. (g more.0 ((f p h).1 more.0 (more.1).does)).1 r more.2)

pub lead_one : (P Q : Played → Type 0) (c : Command) → LeadsOn P c Q → Lead P (c ∷ []) Q
lead_one P Q c f = lead_cons P Q Q c [] f (lead_none Q)

pub lead_map : (P : Played → Type 0) (of : ℕ → Command) → ((n : ℕ) → LeadsOn P (of n) P) → (ns : List ℕ) → Lead P (map of ns) P
lead_map P of one [] = lead_none P
lead_map P of one (n ∷ ns) = lead_cons P P P (of n) (map of ns) (one n) (lead_map P of one ns)
