use Rattle.std.proofs.Common.{◌∙◌, inl, refl, ℕ, List, ap, subst, sym}
use Rattle.mdns_history.specs.declared.held.Held.{Held}
use Rattle.mdns_history.specs.Hearings.{counted_records}
use Rattle.mdns_happened.specs.declared.walk.Walk.{Walk}
use Rattle.mdns_happened.specs.Told.{Told, told_by}
use Rattle.mdns_records.specs.After.{held_after}
use Rattle.mdns_records.proofs.Holding.{after-holds}
use Rattle.mdns_claims.specs.State.{Contents}
use Rattle.mdns_claims.proofs.Typed.{own_data}
use Rattle.mdns_claims.specs.Behind.{probes_told}
use Rattle.mdns_claims.specs.Owned.{own_in}
use Rattle.mdns_asking.specs.Planned as asking
use Rattle.mdns_core.specs.Enough.{AreEnough, claims_told}
use Rattle.sd_answer.specs.Laws.{have_data}
use Rattle.mdns_core.proofs.records.HeldData.{data-after, data-counted}
use Rattle.mdns_core.proofs.records.HeardPackets.{heard-read}
use Rattle.mdns_core.specs.Kept.{state_of}
use Rattle.mdns_core.proofs.Counted.{bounded-walk}
use Rattle.mdns_core.proofs.plan.make_plan.Goals as goal

pub led_to-requires-clause-walked : goal.led_to-requires-clause-walked
led_to-requires-clause-walked g c =
    let held : List Held = c.args.kept.now.parts.now.records.held in
    let then = claims_told c.args.kept.now.parts.now.claims.contents (told_by c.in_ok-reading.reading.happened) c.args.when.moment c.args.when.word in
    subst (λ (ws : List Walk). AreEnough (told_by c.in_ok-reading.reading.happened) c.args.when.moment held (held_after c.args.when.moment c.args.when.word c.in_ok-reading.reading.heard held)
    (own_in c.args.kept.now.parts.now.claims.contents.kept) (own_in then.kept) c.args.kept.now.parts.now.asking.questions c.args.kept.now.parts.now.sessions.sessions ws)
    (sym c.deref.ensures.value) c.in_ok-walks.ensures.enough

pub led_to-requires-clause-owned : goal.led_to-requires-clause-owned
led_to-requires-clause-owned g c = own_data c.args.kept.now.parts.now.claims.contents.kept c.in_ok-claims.ensures.data

pub returns-clause-plan : goal.returns-clause-plan
returns-clause-plan g c =
    let told : Told = told_by c.in_ok-reading.reading.happened in
    let now : ℕ = c.args.when.moment in
    let word : ℕ = c.args.when.word in
    let held : List Held = c.args.kept.now.parts.now.records.held in
    let later : List Held = held_after now word c.in_ok-reading.reading.heard held in
    let contents : Contents = c.args.kept.now.parts.now.claims.contents in
    let led = c.in_ok-led.ensures in
    record {
      told = c.in_ok-reading.ensures.told;
      heard = λ past before since holds.
          heard-read now word before c.args.event.now past held later c.in_ok-reading.reading.heard told.refusal since holds c.requires.within
          (c.in_ok-reading.ensures.records ∙ ap (λ (t : Told). counted_records t.heard) c.in_ok-reading.ensures.told)
          (c.in_ok-reading.ensures.refused past before since holds)
          (λ room. after-holds now word c.in_ok-reading.reading.heard held past before since holds);
      within = c.in_ok-reading.ensures.room;
      typed = data-after now word c.in_ok-reading.reading.heard held
          (ap have_data (c.in_ok-reading.ensures.records ∙ ap (λ (t : Told). counted_records t.heard) c.in_ok-reading.ensures.told) ∙ data-counted c.args.event.now told.refusal c.in_ok-reading.ensures.parts)
          c.requires.typed;
      «data» = c.in_ok-reading.ensures.parts;
      claims = c.in_ok-claims.ensures.plan;
      fits = c.in_ok-claims.ensures.fits;
      owned = own_data contents.kept c.in_ok-claims.ensures.data;
      walks = c.in_ok-walks.ensures.enough;
      queried = led.queried;
      asking = subst (λ (ws : List Walk). asking.IsPlan told now c.args.kept.now.parts.now.sessions.sessions c.args.kept.now.parts.now.asking.questions later ws (probes_told told.ticks contents.kept now) led.queried c.in_ok-led.led.traffic.asking) c.deref.ensures.value led.asking;
      gaps = led.gaps;
      sessions = led.sessions;
      marks = led.marks;
      sent = led.sent;
      multicasts = led.multicasts;
      come = led.come;
      keeps = led.keeps;
      given = led.given;
    }

pub returns-in_err-reading-clause-visits : goal.returns-in_err-reading-clause-visits
returns-in_err-reading-clause-visits g c = inl refl

pub returns-in_err-claims-clause-visits : goal.returns-in_err-claims-clause-visits
returns-in_err-claims-clause-visits g c = inl refl

pub returns-in_err-walks-clause-visits : goal.returns-in_err-walks-clause-visits
returns-in_err-walks-clause-visits g c =
    bounded-walk (state_of c.args.kept.now.last c.args.kept.now.parts.now) c.args.when.moment c.args.when.word c.args.event.now (told_by c.in_ok-reading.reading.happened) c.in_ok-reading.reading.heard
    c.args.steps.now c.walk.new.steps c.in_ok-reading.ensures.told c.in_ok-reading.ensures.refused c.in_ok-reading.ensures.records c.walk.ensures.visits

pub returns-in_err-led-clause-visits : goal.returns-in_err-led-clause-visits
returns-in_err-led-clause-visits g c =
    bounded-walk (state_of c.args.kept.now.last c.args.kept.now.parts.now) c.args.when.moment c.args.when.word c.args.event.now (told_by c.in_ok-reading.reading.happened) c.in_ok-reading.reading.heard
    c.args.steps.now c.walk.new.steps c.in_ok-reading.ensures.told c.in_ok-reading.ensures.refused c.in_ok-reading.ensures.records c.walk.ensures.visits

pub returns-clause-visits : goal.returns-clause-visits
returns-clause-visits g c =
    bounded-walk (state_of c.args.kept.now.last c.args.kept.now.parts.now) c.args.when.moment c.args.when.word c.args.event.now (told_by c.in_ok-reading.reading.happened) c.in_ok-reading.reading.heard
    c.args.steps.now c.walk.new.steps c.in_ok-reading.ensures.told c.in_ok-reading.ensures.refused c.in_ok-reading.ensures.records c.walk.ensures.visits
