-- Packets that are heard and ticks that are due, one after another.
use Rattle.std.proofs.Common.{◌≡◌, ◌⊎◌, inl, inr, ℕ, zero, suc, ◌+◌, ◌++◌, ◌<◌, ◌≤◌, max, Bool, true, false, List, ◌∷◌, Option, Some, None, nat_lt, refl, sym, ap, subst, ◌∙◌, append_assoc, arith}
use Rattle.std.proofs.KnownBytes.{Appends-trans}
use Rattle.mdns_history.specs.declared.event.Event.TheVariants as event
use Rattle.mdns_core.specs.Laws.{StatesAreDue}
use Rattle.mdns_hub.specs.declared.delivery.Delivery.{Delivery}
use Rattle.mdns_hub.specs.declared.hub.Hub.{Hub}
use Rattle.mdns_hub.specs.Links.{LinkState}
use Rattle.mdns_hub.specs.Kept.{link_of}
use Rattle.mdns_hub.specs.Order.{AreFit}
use Rattle.mdns_hub.specs.Slots.{is_kept, due_at, AreOver}
use Rattle.mdns_hub.specs.Played.{Played, transcript}
use Rattle.mdns_hub.specs.Plays.{Delivers, Ticks, AreDone, AreSomeDone, IsQuiet, RunsTo, with_under_way}
use Rattle.mdns_hub.specs.Output.{OrNothing}
use Rattle.mdns_hub.specs.Hubs.{StandsFor, SlotsStand, Puts, PutsPart, Advances, BreaksIn}
use Rattle.mdns_hub.specs.Running.{HappensAt, ComesFrom, is_over}
use Rattle.mdns_hub.proofs.Written.{part_then}
use Rattle.mdns_hub.proofs.Fitness.{fit_later}
use Rattle.mdns_hub.proofs.Happening.{puts_nothing}
use Rattle.mdns_hub.proofs.Dues.{tick_due, due_known}

-- One after another.

some_after : (until m : ℕ) (a b c : Played) → AreDone until m a b → AreSomeDone until b c → AreSomeDone until a c
some_after until zero a b c d rest = subst (λ (p : Played). AreSomeDone until p c) d rest
some_after until (suc m) a b c d rest = let r = some_after until m d.0 b c d.2 rest in (suc r.0, (d.0, d.1, r.1))

pub puts_then : (o m n : Option (List ℕ)) (a b c : Played) → Puts o m a b → Puts m n b c → Puts o n a c
puts_then o m n a b c (t, e, p) (u, f, q) =
    (t ++ u, f ∙ ap (λ (l : List ℕ). l ++ u) e ∙ append_assoc (transcript a) t u, Appends-trans o m n t u p q)

pub puts_part_then : (o m n : Option (List ℕ)) (a b c : Played) → Puts o m a b → PutsPart m n b c → PutsPart o n a c
puts_part_then o m n a b c (t, e, p) (u, f, q) =
    (t ++ u, f ∙ ap (λ (l : List ℕ). l ++ u) e ∙ append_assoc (transcript a) t u, part_then o m n t u p q)

pub advances_none : (until : ℕ) (hub : Hub) (o : Option (List ℕ)) → Advances (AreSomeDone until) hub hub o o
advances_none until hub o = λ played stands. (played, (zero, refl), stands, puts_nothing o played played refl)

pub advances_then : (until : ℕ) (a b c : Hub) (o m n : Option (List ℕ)) → Advances (AreSomeDone until) a b o m → Advances (AreSomeDone until) b c m n → Advances (AreSomeDone until) a c o n
advances_then until a b c o m n f g = λ played stands.
    let first = f played stands in
    let next = g first.0 first.2 in
    (next.0, some_after until (first.1).0 played first.0 next.0 (first.1).1 next.1, next.2, puts_then o m n played first.0 next.0 first.3 next.3)

pub breaks_then : (until : ℕ) (a b : Hub) (o m n : Option (List ℕ)) → Advances (AreSomeDone until) a b o m → BreaksIn (AreSomeDone until) b m n → BreaksIn (AreSomeDone until) a o n
breaks_then until a b o m n f g = λ played stands.
    let first = f played stands in
    let next = g first.0 first.2 in
    (next.0, some_after until (first.1).0 played first.0 next.0 (first.1).1 next.1, puts_part_then o m n played first.0 next.0 first.3 next.2)

-- Up to a later moment.

later_step : (from until : ℕ) → from ≤ until → (a b : Played) → Delivers from a b ⊎ Ticks from a b → Delivers until a b ⊎ Ticks until a b
later_step from until l a b (inl d) = inl (record {
  delivery = d.delivery;
  rest = d.rest;
  first = d.first;
  by = omega (arith, l, d.by);
  before_ticks = d.before_ticks;
  happens = d.happens;
})
later_step from until l a b (inr t) = inr (record {
  daemon = t.daemon;
  moment = t.moment;
  due = t.due;
  by = omega (arith, l, t.by);
  no_packet = t.no_packet;
  first = t.first;
  happens = t.happens;
})

later_steps : (from until m : ℕ) → from ≤ until → (a b : Played) → AreDone from m a b → AreDone until m a b
later_steps from until zero l a b d = d
later_steps from until (suc m) l a b d = (d.0, later_step from until l a d.0 d.1, later_steps from until m l d.0 b d.2)

pub advances_later : (from until : ℕ) (a b : Hub) (o n : Option (List ℕ)) → from ≤ until → Advances (AreSomeDone from) a b o n → Advances (AreSomeDone until) a b o n
advances_later from until a b o n l f = λ played stands.
    let d = f played stands in
    (d.0, ((d.1).0, later_steps from until (d.1).0 l played d.0 (d.1).1), d.2, d.3)

pub breaks_later : (from until : ℕ) (a : Hub) (o n : Option (List ℕ)) → from ≤ until → BreaksIn (AreSomeDone from) a o n → BreaksIn (AreSomeDone until) a o n
breaks_later from until a o n l f = λ played stands.
    let d = f played stands in
    (d.0, ((d.1).0, later_steps from until (d.1).0 l played d.0 (d.1).1), d.2)

-- Ticks.

-- a tick that is due is before another of a greater number, or at a later moment
before_other : (moment later number other due clock : ℕ) → later ≡ max due clock → moment ≤ max due clock → (other < number → moment < due) → (moment < later) ⊎ ((moment ≡ later) × (number ≤ other))
before_other moment later number other due clock is l lower = of (nat_lt moment later) (nat_lt other number) refl refl
  where
    of : (b d : Bool) → nat_lt moment later ≡ b → nat_lt other number ≡ d → (moment < later) ⊎ ((moment ≡ later) × (number ≤ other))
    of true d e f = inl (grind (arith, e))
    of false true e f = let below : other < number = grind (arith, f) in let m : moment < due = lower below in inl (omega (arith, is, m))
    of false false e f =
        let past : later ≤ moment = grind (arith, e) in
        let high : number ≤ other = grind (arith, f) in
        inr (omega (arith, past, is, l), high)

tick_is : StatesAreDue → (number moment due : ℕ) (hub : Hub) (played next : Played) → StandsFor hub played → due_at hub.daemons.slots.items number ≡ Some due → due ≤ moment → hub.clock ≤ moment
    → ComesFrom moment hub → AreFit (moment + 1) (is_kept hub.daemons.slots.items) hub.link.under_way.items → AreOver number moment hub.daemons.slots.items → HappensAt number event.Tick moment played next
    → Ticks moment played next
tick_is law number moment due hub played next stands e by clock from heard lower happens =
    let at : moment ≡ max due hub.clock = omega (arith, by, clock, from.ticks number due e) in
    record {
      daemon = number;
      moment = moment;
      due = tick_due law hub played number due moment stands e at;
      by = omega arith;
      no_packet = fit_later moment (is_kept hub.daemons.slots.items) played.link.under_way
          (subst (AreFit (moment + 1) (is_kept hub.daemons.slots.items)) (ap (λ (l : LinkState). l.under_way) stands.link) heard);
      first = λ other later t.
          let known = due_known law hub played other later stands t in
          before_other moment later number other t.due hub.clock known.1 (from.ticks other t.due known.0) (λ below. lower other t.due below known.0);
      happens = happens;
    }

pub tick_advances : StatesAreDue → (number moment due : ℕ) (hub after : Hub) (o n : Option (List ℕ)) → due_at hub.daemons.slots.items number ≡ Some due → due ≤ moment → hub.clock ≤ moment
    → ComesFrom moment hub → AreFit (moment + 1) (is_kept hub.daemons.slots.items) hub.link.under_way.items → AreOver number moment hub.daemons.slots.items
    → Advances (HappensAt number event.Tick moment) hub after o n → Advances (AreSomeDone moment) hub after o n
tick_advances law number moment due hub after o n e by clock from heard lower f = λ played stands.
    let d = f played stands in
    (d.0, (suc zero, (d.0, inr (tick_is law number moment due hub played d.0 stands e by clock from heard lower d.1), refl)), d.2, d.3)

pub tick_breaks : StatesAreDue → (number moment due : ℕ) (hub : Hub) (o n : Option (List ℕ)) → due_at hub.daemons.slots.items number ≡ Some due → due ≤ moment → hub.clock ≤ moment
    → ComesFrom moment hub → AreFit (moment + 1) (is_kept hub.daemons.slots.items) hub.link.under_way.items → AreOver number moment hub.daemons.slots.items
    → BreaksIn (OrNothing (HappensAt number event.Tick moment)) hub o n → BreaksIn (AreSomeDone moment) hub o n
tick_breaks law number moment due hub o n e by clock from heard lower f = λ played stands.
    let d = f played stands in
    (d.0, of played d.0 stands d.1, d.2)
  where
    of : (played next : Played) → StandsFor hub played → OrNothing (HappensAt number event.Tick moment) played next → AreSomeDone moment played next
    of played next stands (inl h) = (suc zero, (next, inr (tick_is law number moment due hub played next stands e by clock from heard lower h), refl))
    of played next stands (inr h) = (zero, h)

-- Packets.

-- the hub without its first packet stands for what was played without it
taken_stands : (hub mid : Hub) (played : Played) (rest : List Delivery) → mid.clock ≡ hub.clock → mid.words ≡ hub.words → mid.daemons.slots.items ≡ hub.daemons.slots.items
    → link_of mid.link ≡ record (link_of hub.link) { under_way = rest } → StandsFor hub played → StandsFor mid (with_under_way rest played)
taken_stands hub mid played rest clock words slots link stands = record {
  clock = clock ∙ stands.clock;
  words = words ∙ stands.words;
  link = link ∙ ap (λ (l : LinkState). let state : LinkState = record l { under_way = rest } in state) stands.link;
  slots = subst (λ s. SlotsStand s played.told) (sym slots) stands.slots;
}

delivery_is : StatesAreDue → (moment : ℕ) (delivery : Delivery) (rest : List Delivery) (hub : Hub) (played next : Played) → StandsFor hub played → hub.link.under_way.items ≡ delivery ∷ rest
    → delivery.moment ≡ moment → ComesFrom moment hub → HappensAt delivery.daemon (event.Hear delivery.from delivery.bytes) delivery.moment (with_under_way rest played) next → Delivers moment played next
delivery_is law moment delivery rest hub played next stands first at from happens = record {
  delivery = delivery;
  rest = rest;
  first = sym (ap (λ (l : LinkState). l.under_way) stands.link) ∙ first;
  by = omega (arith, at);
  before_ticks = λ daemon later t. let known = due_known law hub played daemon later stands t in omega (arith, at, known.1, from.ticks daemon t.due known.0);
  happens = happens;
}

-- what a delivery does at a moment that is its own
at_its_moment : (moment : ℕ) (delivery : Delivery) (before after : Played) → delivery.moment ≡ moment → HappensAt delivery.daemon (event.Hear delivery.from delivery.bytes) moment before after
    → HappensAt delivery.daemon (event.Hear delivery.from delivery.bytes) delivery.moment before after
at_its_moment moment delivery before after at h = subst (λ (m : ℕ). HappensAt delivery.daemon (event.Hear delivery.from delivery.bytes) m before after) (sym at) h

pub hear_advances : StatesAreDue → (moment : ℕ) (delivery : Delivery) (rest : List Delivery) (hub mid after : Hub) (o n : Option (List ℕ)) → hub.link.under_way.items ≡ delivery ∷ rest → delivery.moment ≡ moment
    → ComesFrom moment hub → mid.clock ≡ hub.clock → mid.words ≡ hub.words → mid.daemons.slots.items ≡ hub.daemons.slots.items → link_of mid.link ≡ record (link_of hub.link) { under_way = rest }
    → Advances (HappensAt delivery.daemon (event.Hear delivery.from delivery.bytes) moment) mid after o n → Advances (AreSomeDone moment) hub after o n
hear_advances law moment delivery rest hub mid after o n first at from clock words slots link f = λ played stands.
    let d = f (with_under_way rest played) (taken_stands hub mid played rest clock words slots link stands) in
    (d.0, (suc zero, (d.0, inl (delivery_is law moment delivery rest hub played d.0 stands first at from (at_its_moment moment delivery (with_under_way rest played) d.0 at d.1)), refl)), d.2, d.3)

pub hear_breaks : StatesAreDue → (moment : ℕ) (delivery : Delivery) (rest : List Delivery) (hub mid : Hub) (o n : Option (List ℕ)) → hub.link.under_way.items ≡ delivery ∷ rest → delivery.moment ≡ moment
    → ComesFrom moment hub → mid.clock ≡ hub.clock → mid.words ≡ hub.words → mid.daemons.slots.items ≡ hub.daemons.slots.items → link_of mid.link ≡ record (link_of hub.link) { under_way = rest }
    → BreaksIn (OrNothing (HappensAt delivery.daemon (event.Hear delivery.from delivery.bytes) moment)) mid o n → BreaksIn (AreSomeDone moment) hub o n
hear_breaks law moment delivery rest hub mid o n first at from clock words slots link f = λ played stands.
    let d = f (with_under_way rest played) (taken_stands hub mid played rest clock words slots link stands) in
    of played d.0 stands d.1 d.2
  where
    of : (played next : Played) → StandsFor hub played → OrNothing (HappensAt delivery.daemon (event.Hear delivery.from delivery.bytes) moment) (with_under_way rest played) next
        → PutsPart o n (with_under_way rest played) next → (reached : Played) × AreSomeDone moment played reached × PutsPart o n played reached
    of played next stands (inl h) put = (next, (suc zero, (next, inl (delivery_is law moment delivery rest hub played next stands first at from (at_its_moment moment delivery (with_under_way rest played) next at h)), refl)), put)
    of played next stands (inr h) put = (played, (zero, refl), subst (λ (p : Played). PutsPart o n played (record p { link = played.link })) h put)

-- The end of a run.

quiet_is : StatesAreDue → (until : ℕ) (hub : Hub) (played : Played) → ComesFrom (until + 1) hub → hub.clock ≤ until → StandsFor hub played → IsQuiet until played
quiet_is law until hub played from clock stands = record {
  no_packet = fit_later until (is_kept hub.daemons.slots.items) played.link.under_way
      (subst (AreFit (until + 1) (is_kept hub.daemons.slots.items)) (ap (λ (l : LinkState). l.under_way) stands.link) from.packets);
  no_tick = λ daemon moment t. let known = due_known law hub played daemon moment stands t in omega (arith, known.1, from.ticks daemon t.due known.0);
}

pub run_advances : StatesAreDue → (until : ℕ) (hub mid after : Hub) (o n : Option (List ℕ)) → ComesFrom (until + 1) mid → mid.clock ≤ until → after.clock ≡ until → after.words ≡ mid.words → after.link ≡ mid.link
    → after.daemons ≡ mid.daemons → Advances (AreSomeDone until) hub mid o n → Advances (RunsTo until) hub after o n
run_advances law until hub mid after o n from clock at words link daemons f = λ played stands.
    let d = f played stands in
    let stood : StandsFor mid d.0 = d.2 in (
      record (d.0) { clock = until },
      record { reached = d.0; done = d.1; quiet = quiet_is law until mid d.0 from clock stood; after_is = refl },
      record { clock = at; words = words ∙ stood.words; link = ap link_of link ∙ stood.link; slots = subst (λ s. SlotsStand s d.0.told) (sym (ap (λ s. s.slots.items) daemons)) stood.slots },
      d.3,
    )

-- another hub that keeps the same
pub advances_same : (until : ℕ) (a b c : Hub) (o n : Option (List ℕ)) → c.clock ≡ b.clock → c.words ≡ b.words → link_of c.link ≡ link_of b.link → c.daemons ≡ b.daemons
    → Advances (AreSomeDone until) a b o n → Advances (AreSomeDone until) a c o n
advances_same until a b c o n clock words link daemons f = λ played stands.
    let d = f played stands in
    let stood : StandsFor b d.0 = d.2 in
    (d.0, d.1, record { clock = clock ∙ stood.clock; words = words ∙ stood.words; link = link ∙ stood.link; slots = subst (λ s. SlotsStand s d.0.told) (sym (ap (λ s. s.slots.items) daemons)) stood.slots }, d.3)

-- a moment that is there and no later than another
pub over_due : (moment : ℕ) (o : Option ℕ) → is_over moment o ≡ true → (due : ℕ) × (o ≡ Some due) × (due ≤ moment)
over_due moment None h = cc
over_due moment (Some due) h = (due, refl, grind (arith, h))
