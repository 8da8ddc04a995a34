-- What a daemon keeps follows the history that it stands for.
use Rattle.std.specs.Prelude.{◌≡◌, ℕ, ◌≤◌, true, false, List, ◌∷◌}
use Rattle.sd_answer.specs.Laws.{have_data}
use Rattle.sd_answer.specs.Known.{rrs_of}
use Rattle.mdns_history.specs.declared.event.Event.{Event}
use Rattle.mdns_history.specs.declared.held.Held.{Held}
use Rattle.mdns_history.specs.declared.mark.Mark.{Mark}
use Rattle.mdns_history.specs.declared.entry.Entry.{Entry}
use Rattle.mdns_history.specs.Hearings.{hearings}
use Rattle.mdns_history.specs.Fitting.{Fits, is_boot, last_moment}
use Rattle.mdns_history.specs.Due.{NextDue}
use Rattle.mdns_claims.specs.Owned.{own_in}
use Rattle.mdns_reply.specs.Lasts.{Last}
use Rattle.mdns_reply.specs.Lasts as lasts
use Rattle.mdns_core.specs.InForce.{in_force}
use Rattle.mdns_core.specs.State.{State, Stands, due_of}
use Rattle.mdns_core.specs.Next.{claims_then, entry_for, state_after, IsHeard}

-- What is kept makes the entry that fits each history that it stands for, and what is then kept stands for the history with it.
abbrev pub StepsFollow : Type 0
StepsFollow =
    (state : State) (history : List Entry) → Stands state history → (moment word : ℕ) (ev : Event) → state.last ≤ moment → moment ≤ last_moment → is_boot ev ≡ false
    → (after : List Held) (refusal : List Mark) → IsHeard moment word ev (hearings history) after refusal → have_data (rrs_of state.held) ≡ true → have_data (rrs_of after) ≡ true
    → have_data (own_in state.claims.kept) ≡ true → have_data (own_in (claims_then state moment word ev refusal).kept) ≡ true
    → (multicasts : List Last) → lasts.Stands multicasts (entry_for state moment word ev refusal after ∷ history)
    → Fits in_force (entry_for state moment word ev refusal after) history × Stands (state_after state moment word ev refusal after multicasts) (entry_for state moment word ev refusal after ∷ history)

-- The first moment at which something that is kept is due is that of the history.
abbrev pub StatesAreDue : Type 0
StatesAreDue = (state : State) (history : List Entry) → Stands state history → NextDue in_force history (due_of state)
