use Rattle.std.proofs.Common.{◌≡◌, ◌≢◌, ◌<◌, ◌^◌, subst, List, ℕ}
use Rattle.std.specs.Prelude.{decimal}
use Rattle.std.specs.Option.{MatchOption}
use Rattle.number_text.proofs.Decimals.{read_text, read_none}
use Rattle.number_text.proofs.decimal.number_of_str.Goals as goal

pub returns-in-Ok : goal.returns-in-Ok
returns-in-Ok c =
    read_text c.args.text.now c.printed.result c.in-Ok.number c.parse.result c.in-Ok.is c.parse.ensures.value.0
    (subst (λ (t : List ℕ). MatchOption c.printed.result (t ≢ decimal c.in-Ok.number) (λ m. (m ≡ c.in-Ok.number) × (m < 2 ^ 64) × (t ≡ decimal c.in-Ok.number))) c.as_bytes.ensures.value c.printed.ensures)

pub returns-in-Err : goal.returns-in-Err
returns-in-Err c = read_none c.args.text.now c.parse.result c.in-Err.field-0 c.in-Err.is c.parse.ensures.value.0
