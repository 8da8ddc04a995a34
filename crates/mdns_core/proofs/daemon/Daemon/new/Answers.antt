use Rattle.std.proofs.Common.{◌≡◌, ℕ, [], ◌∷◌, List, refl, subst, sym}
use Rattle.mdns_history.specs.declared.held.Held.{Held}
use Rattle.mdns_history.specs.declared.entry.Entry.{Entry}
use Rattle.mdns_history.specs.declared.mark.Mark.{Mark}
use Rattle.mdns_history.specs.declared.entry.Sent.{Sent}
use Rattle.mdns_history.specs.declared.entry.Given.{Given}
use Rattle.mdns_history.specs.declared.entry.Outcome.TheVariants as outcome
use Rattle.mdns_history.specs.declared.event.Event.TheVariants as event
use Rattle.mdns_history.specs.Debts.{multicasts_in}
use Rattle.mdns_history.specs.Fitting.{boot_entry}
use Rattle.mdns_question.specs.declared.tracked.Tracked.{Tracked}
use Rattle.sd_sessions.specs.Sessions.{Session}
use Rattle.mdns_claims.specs.State.{Contents}
use Rattle.mdns_reply.specs.Lasts.{Last}
use Rattle.mdns_reply.specs.Lasts as lasts
use Rattle.mdns_debts.specs.Queries.{Query}
use Rattle.mdns_core.specs.InForce.{in_force}
use Rattle.mdns_core.specs.State.{Stands}
use Rattle.mdns_core.proofs.step.Standing.{booted_state, stands-boot}
use Rattle.mdns_core.proofs.daemon.Daemon.new.Goals as goal

pub returns-clause-stands : goal.returns-clause-stands
unfolding in_force multicasts_in
returns-clause-stands c =
    let claims : Contents = c.in_ok-new-2.field-0.contents in
    let boot : Entry = boot_entry c.args.when.moment c.args.when.word c.args.config in
    let lasting : lasts.Stands [] (boot ∷ []) = subst (λ (ls : List Last). lasts.Stands ls (boot ∷ [])) c.new-4.ensures.lasts (c.new-4.ensures.stands boot refl) in
    let stands : Stands (booted_state c.args.when.moment claims) (boot ∷ []) = stands-boot c.args.when.moment c.args.when.word c.args.config claims c.args.when.bound c.requires.host c.in_ok-new-2.ensures.stands c.in_ok-new-2.ensures.announces lasting in
    let made : (marks : List Mark) (sent : List Sent) (given : List Given) (count : ℕ) (states : List Session) (held : List Held) (questions : List Tracked) (multicasts : List Last) (owing : List Query)
    → [] ≡ marks → [] ≡ sent → [] ≡ given → 0 ≡ count → [] ≡ states → [] ≡ held → [] ≡ questions → [] ≡ multicasts → [] ≡ owing
    → Stands (record { last = c.args.when.moment; opened = count; sessions = states; held = held; questions = questions; claims = claims; multicasts = multicasts; queries = owing })
    (record { moment = c.args.when.moment; word = c.args.when.word; event = event.Boot c.args.config; marks = marks; sent = sent; given = given; outcome = outcome.Done } ∷ []) =
    λ marks sent given count states held questions multicasts owing m n g k s h q l o.
    subst (λ (X : Type 0). X) (λ i. Stands (record { last = c.args.when.moment; opened = k i; sessions = s i; held = h i; questions = q i; claims = claims; multicasts = l i; queries = o i })
    (record { moment = c.args.when.moment; word = c.args.when.word; event = event.Boot c.args.config; marks = m i; sent = n i; given = g i; outcome = outcome.Done } ∷ [])) stands in
    made c.new-6.result c.new-7.result c.new-8.result c.with_key.result.opened c.with_key.result.sessions c.in_ok-new.field-0.held c.new-3.result.questions c.new-4.result.lasts c.new-5.result.queries
    (sym c.new-6.ensures) (sym c.new-7.ensures) (sym c.new-8.ensures) (sym c.with_key.ensures.opened) (sym c.with_key.ensures.sessions) (sym c.in_ok-new.ensures.held) (sym c.new-3.ensures) (sym c.new-4.ensures.lasts) (sym c.new-5.ensures)
