-- Bytes spell at most one message.
use Rattle.std.proofs.Common.{◌≡◌, ℕ, List, sym, ◌∙◌, Ok, Result}
use Rattle.dns_message.specs.declared.message.Message.{Message}
use Rattle.dns_message.specs.declared.message.MessageError.{MessageError}
use Rattle.dns_message.specs.Reading.{Spells}

same_ok : (left right : Message) → ◌≡◌ {A = Result Message MessageError} (Ok left) (Ok right) → left ≡ right
same_ok left right e = cc

pub spelled_once : (bytes : List ℕ) (left right : Message) → Spells bytes left → Spells bytes right → left ≡ right
spelled_once bytes left right h k = same_ok left right (sym h ∙ k)
