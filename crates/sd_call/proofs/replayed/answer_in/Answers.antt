use Rattle.std.proofs.Common.{◌==◌, ◌∙◌, ap, sym, filter}
use Rattle.std.specs.Option.{option_map}
use Rattle.std.proofs.lemmas.Option.{slice_get-map}
use Rattle.sd_call.specs.declared.replayed.Kept.{Kept}
use Rattle.sd_call.proofs.replayed.answer_in.Goals as goal

pub returns-in-Some : goal.returns-in-Some
returns-in-Some c =
    ap (option_map (λ (k : Kept). k.answer)) c.in-Some.ensures
    ∙ sym (slice_get-map (λ (k : Kept). k.answer) (filter (λ (k : Kept). k.op == c.args.op) c.args.kept.now) c.args.place)

pub returns-in-None : goal.returns-in-None
returns-in-None c =
    ap (option_map (λ (k : Kept). k.answer)) c.in-None.ensures
    ∙ sym (slice_get-map (λ (k : Kept). k.answer) (filter (λ (k : Kept). k.op == c.args.op) c.args.kept.now) c.args.place)
