use Rattle.std.proofs.Common.{◌≡◌, ◌∙◌, ◌+◌, ◌-◌, ◌∷◌, ◌++◌, List, drop, length, take, ap, sym, arith}
use Rattle.std.specs.Prelude.{filter}
use Rattle.mdns_history.specs.declared.entry.Entry.{Entry}
use Rattle.mdns_history.specs.Debts.{Debt, debts_made, is_ours, standing_debts, stays_open}
use Rattle.plain_history.proofs.Onces.{drop_front}
use Rattle.plain_groups.proofs.Steps.{slice_rest}
use Rattle.plain_debts.proofs.Steps.{debts_next}
use Rattle.plain_debts.proofs.standing.standing_debts.Goals as goal

pub loop-place-preserved : goal.loop-place-preserved
loop-place-preserved c =
    let history = c.args.history.now in
    let place = c.loop-place.place in
    let entry = c.index-history-place.result in
    let past = drop (place - 1 + 1) history in
    let before = c.loop-place.debts.items in
    let back : place - 1 + 1 ≡ place = omega arith in
    let at : drop (place - 1) history ≡ entry ∷ past = drop_front history (place - 1) entry (omega arith) c.index-history-place.is in
    let kept : before ≡ standing_debts past = c.loop-place.invariant.debts ∙ ap (λ n. standing_debts (drop n history)) (sym back) in
    let all : c.in_ok-all.all.items ≡ filter (stays_open entry) (standing_debts past) ++ debts_made entry past =
    c.in_ok-all.ensures ∙ ap (λ (l : List Entry). filter (stays_open entry) before ++ debts_made entry l) (slice_rest history (place - 1 + 1))
    ∙ ap (λ (l : List Debt). filter (stays_open entry) l ++ debts_made entry past) kept in
    let whole : take (length history - (place - 1)) (drop (place - 1) history) ≡ entry ∷ past = slice_rest history (place - 1) ∙ at in
    record {
      debts = c.in_ok-debts.ensures
          ∙ ap (λ (l : List Entry). filter (λ (debt : Debt). is_ours debt.rr l) c.in_ok-all.all.items) whole
          ∙ ap (filter (λ (debt : Debt). is_ours debt.rr (entry ∷ past))) all
          ∙ debts_next entry past ∙ ap standing_debts (sym at);
      within = omega arith;
    }
