-- What a seat knows once it has taken a turn.
use Rattle.std.proofs.Common.{◌≡◌, ◌∙◌, inl, inr, ◌++◌, sym, subst}
use Rattle.std.specs.Prelude.{◌⊎◌}
use Rattle.mdns_history.specs.Fitting.{AreLegal}
use Rattle.mdns_core.specs.InForce.{in_force}
use Rattle.mdns_turn.specs.History.{turns}
use Rattle.mdns_turn.specs.Models.{SeatModel}
use Rattle.mdns_serve.specs.declared.happening.Happening.{Happening}
use Rattle.mdns_serve.specs.declared.shared.Shared.{Shared}
use Rattle.mdns_serve.specs.Turns.{turns_of}
use Rattle.mdns_serve.specs.Shares.{StandsFor}

-- the turns that a seat has seen are legal behind those that the opening value stood for
abbrev pub SeesLegal : Shared → SeatModel Shared Happening → Type 0
SeesLegal opening seat = (past : _) → StandsFor past opening → AreLegal in_force (turns_of (past ++ turns seat.seen))

-- what is so after each turn, is so after turns, unless there was none
pub still_or : {S : Type 0} (P : S → Type 0) (a b c : S) → (b ≡ a) ⊎ P b → (c ≡ b) ⊎ P c → (c ≡ a) ⊎ P c
still_or P a b c first (inr p) = inr p
still_or P a b c (inl e) (inl f) = inl (f ∙ e)
still_or P a b c (inr p) (inl f) = inr (subst P (sym f) p)
