-- What is said of the last entry of which something is said, looked for from the last entry on.
use Rattle.std.proofs.Common.{◌≡◌, List, [], ◌∷◌, length, refl, ap, sym, ◌∙◌, Option, Some, None, arith}
use Rattle.std.specs.Option.{option_or}
use Rattle.mdns_history.specs.declared.entry.Entry.{Entry}
use Rattle.mdns_history.specs.History.{last_at}

-- it is said of the last entry
pub last_here : {X : Type 0} (f : Entry → List Entry → Option X) (history : List Entry) (entry : Entry) (past : List Entry) (x : X) → history ≡ entry ∷ past → f entry past ≡ Some x → last_at f history ≡ Some x
last_here {X = X} f history entry past x e h = ap (last_at f) e ∙ ap (λ (o : Option X). option_or o (last_at f past)) h

-- it isn't said of the last entry
pub last_before : {X : Type 0} (f : Entry → List Entry → Option X) (history : List Entry) (entry : Entry) (past : List Entry) → history ≡ entry ∷ past → f entry past ≡ None → last_at f past ≡ last_at f history
last_before {X = X} f history entry past e h = ap (λ (o : Option X). option_or o (last_at f past)) (sym h) ∙ ap (last_at f) (sym e)

-- it is said of none
pub last_never : {X : Type 0} (f : Entry → List Entry → Option X) (history : List Entry) → length history ≡ 0 → last_at f history ≡ None
last_never f [] h = refl
last_never f (entry ∷ past) h = absurd (omega arith)
