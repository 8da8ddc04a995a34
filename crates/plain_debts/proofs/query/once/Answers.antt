use Rattle.std.proofs.Common.{◌≡◌, ◌∙◌, ◌++◌, not, List, take, ap, sym}
use Rattle.std.specs.List.{list_any}
use Rattle.mdns_history.specs.Debts.{Owed, owed_eq}
use Rattle.plain_history.specs.Kept.{kept_if}
use Rattle.plain_debts.proofs.Steps.{once_at}
use Rattle.plain_debts.proofs.query.once.Goals as goal

pub loop-place-preserved : goal.loop-place-preserved
loop-place-preserved c =
    let owed = c.args.owed.now in
    let y = c.index-owed-place.result in
    let more = kept_if (not (list_any (λ (other : Owed). owed_eq other y) (take c.loop-place.place owed))) y in
    let put : c.put_once.new.kept.items ≡ c.loop-place.kept.items ++ more = c.in_ok-put_once.ensures in
    put ∙ ap (λ (l : List Owed). l ++ more) c.loop-place.invariant
    ∙ sym (once_at owed_eq owed c.loop-place.place y c.loop-place-test.true c.index-owed-place.is)
