-- What answers operations have: a function of them, and what the answers are read off. (RFC 6763 4 to 6)
use Rattle.std.specs.Prelude.{ℕ, List, ◌++◌, if◌then◌else◌}
use Rattle.dns_record.specs.declared.record.Rr.{Rr}
use Rattle.sd_call.specs.declared.answer.Answer.{Answer}
use Rattle.sd_call.specs.Requests.{is_register}
use Rattle.sd_answer.specs.Known.{rrs_of}
use Rattle.mdns_history.specs.declared.held.Held.{Held}
use Rattle.mdns_history.specs.declared.operation.Operation.{Operation}
use Rattle.mdns_history.specs.Answers.{answers_over}

-- the answers of each operation
abbrev pub Answering : Type 0
Answering = Operation → List Answer

-- What answers are read off: the records that are held, those that are the daemon's own, and the answers of each registration, by its session
-- and its number.
pub record View : Type 0 where
  pub held : List Held
  pub own : List Rr
  pub registered : ℕ → ℕ → List Answer

-- the records that are live or own
abbrev pub known : View → List Rr
known view = rrs_of view.held ++ view.own

-- the answers of operations: a registration has its own, another operation those over the records that are live or own, each once
abbrev pub answered : View → Answering
answered view = λ operation. if is_register operation.request then view.registered operation.session operation.op else answers_over operation.request (known view)
