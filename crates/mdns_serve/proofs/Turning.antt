-- The shared daemon after one more turn.
use Rattle.std.proofs.Common.{◌≡◌, List, [], ◌∷◌, ◌++◌, refl, ap, ◌∙◌, sym, subst, IsTrue}
use Rattle.mdns_history.specs.declared.entry.Entry.{Entry}
use Rattle.mdns_history.specs.History as history
use Rattle.mdns_history.specs.History.{Turn, entries}
use Rattle.mdns_history.specs.Fitting.{Fits, AreLegal, begins_entered}
use Rattle.mdns_history.specs.Sessions.{detached}
use Rattle.mdns_core.specs.InForce.{in_force}
use Rattle.mdns_core.specs.State.{Stands}
use Rattle.mdns_serve.specs.declared.happening.Happening.{Happening}
use Rattle.mdns_serve.specs.declared.happening.Happening.TheVariants.{Entered, Missed}
use Rattle.mdns_serve.specs.declared.shared.Shared.{Shared}
use Rattle.mdns_serve.specs.Turns.{turn_of, turns_from, turns_of, owed, drop_number, keep_missed}
use Rattle.mdns_serve.specs.Shares.{StandsFor}

turns_from-more : (done : List Turn) (past : List Happening) (turn : Happening) → turns_from done (past ++ turn ∷ []) ≡ turn_of turn ∷ turns_from done past
turns_from-more done [] turn = refl
turns_from-more done (first ∷ past) turn = turns_from-more (turn_of first ∷ done) past turn

-- the last turn stands first in the history
pub turns_of-more : (past : List Happening) (turn : Happening) → turns_of (past ++ turn ∷ []) ≡ turn_of turn ∷ turns_of past
turns_of-more past turn = turns_from-more [] past turn

begins-more : (turn : Turn) (turns : List Turn) → IsTrue (begins_entered turns) → IsTrue (begins_entered (turn ∷ turns))
begins-more turn [] begins = absurd (cc)
begins-more (history.Entered entry) (before ∷ past) begins = begins
begins-more (history.Missed session) (before ∷ past) begins = begins

-- after an entry
pub entered : (past : List Happening) (before after : Shared) (entry : Entry) → StandsFor past before
    → ((history : List Entry) → Stands before.daemon history → Fits in_force entry history × Stands after.daemon (entry ∷ history))
    → after.missed.items ≡ drop_number (detached entry.event entry.outcome) before.missed.items → StandsFor (past ++ Entered entry ∷ []) after
entered past before after entry stands fits kept =
    let next = fits (entries (turns_of past)) stands.stands in
    let more = sym (turns_of-more past (Entered entry)) in record {
      legal = subst (AreLegal in_force) more (begins-more (history.Entered entry) (turns_of past) stands.legal.0, next.1.legal);
      stands = subst (λ turns. Stands after.daemon (entries turns)) more next.1;
      missed = kept ∙ ap (drop_number (detached entry.event entry.outcome)) stands.missed ∙ ap owed more;
    }

-- after a turn that was missed
pub missed : (past : List Happening) (before after : Shared) (detaching : _) → StandsFor past before → after.daemon ≡ before.daemon
    → ((history : List Entry) → Stands before.daemon history → after.missed.items ≡ keep_missed history detaching before.missed.items)
    → StandsFor (past ++ Missed detaching ∷ []) after
missed past before after detaching stands same kept =
    let more = sym (turns_of-more past (Missed detaching)) in record {
      legal = subst (AreLegal in_force) more (begins-more (history.Missed detaching) (turns_of past) stands.legal.0, stands.legal.1);
      stands = subst (λ turns. Stands after.daemon (entries turns)) more (subst (λ daemon. Stands daemon (entries (turns_of past))) (sym same) stands.stands);
      missed = kept (entries (turns_of past)) stands.stands ∙ ap (keep_missed (entries (turns_of past)) detaching) stands.missed ∙ ap owed more;
    }
