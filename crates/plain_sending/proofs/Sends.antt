-- What a tick sends, told by the history with the tick and the one before it.
use Rattle.std.proofs.Common.{◌≡◌, true, List, [], ◌∷◌, length, refl, ap, sym, ◌∙◌, arith}
use Rattle.mdns_history.specs.declared.entry.Entry.{Entry}
use Rattle.mdns_history.specs.InForce.{Duties}
use Rattle.mdns_history.specs.Sending.{tick_sends}
use Rattle.plain_history.specs.Last.{are_by}
use Rattle.plain_sending.specs.Ticked.{of_last, past_is_by, sends_in}

pub sends_none : (duties : Duties) (history : List Entry) → length history ≡ 0 → of_last (tick_sends duties) history ≡ []
sends_none duties [] h = refl
sends_none duties (entry ∷ past) h = absurd (omega arith)

pub sends_last : (duties : Duties) (history : List Entry) (tick : Entry) (past : List Entry) → history ≡ tick ∷ past →
    of_last (tick_sends duties) history ≡ sends_in duties history past tick.moment
unfolding tick_sends
sends_last duties history tick past e = ap (of_last (tick_sends duties)) e ∙ ap (λ (h : List Entry). sends_in duties h past tick.moment) (sym e)

-- the entries before the last one aren't later than it
pub past_by : (history : List Entry) (tick : Entry) (past : List Entry) → history ≡ tick ∷ past → past_is_by history ≡ true → are_by tick.moment past ≡ true
past_by history tick past e h = ap past_is_by (sym e) ∙ h
