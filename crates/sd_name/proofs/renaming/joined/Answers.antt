use Rattle.std.proofs.Common.{◌≡◌, ◌-◌, length, subst, sym, arith}
use Rattle.std.proofs.lemmas.Grind.{common_steps}
use Rattle.std.proofs.lemmas.Str.{IsUtf8-append}
use Rattle.std.specs.Str.{IsUtf8}
use Rattle.sd_name.specs.Renaming.{with_suffix}
use Rattle.sd_name.proofs.Fronts.{IsUtf8-cut_to}
use Rattle.sd_name.proofs.renaming.joined.Goals as goal

pub returns-clause-text : goal.returns-clause-text
returns-clause-text c = λ label suffix.
    let value : c.unwrap.result ≡ with_suffix c.args.label.now c.args.suffix.now = grind (arith, common_steps) in
    subst IsUtf8 (sym value) (IsUtf8-append _ _ (IsUtf8-cut_to (63 - length c.args.suffix.now) c.args.label.now label) suffix)
