use Rattle.std.proofs.Common.{sym, subst, List, ℕ}
use Rattle.std.specs.Str.{IsUtf8}
use Rattle.std.proofs.lemmas.Str.{IsUtf8-from_ascii}
use Rattle.std.proofs.lemmas.Fmt.{IsAscii-decimal}
use Rattle.number_text.proofs.Decimals.{decimal_none}
use Rattle.number_text.proofs.decimal.number.Goals as goal

pub returns-in-Err : goal.returns-in-Err
returns-in-Err c =
    decimal_none c.args.text.now (λ n small e. c.in-Err.ensures.cases.0 (subst (λ (t : List ℕ). IsUtf8 t) (sym e) (IsUtf8-from_ascii _ (IsAscii-decimal n small))))
