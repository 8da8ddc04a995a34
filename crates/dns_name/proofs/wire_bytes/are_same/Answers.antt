use Rattle.std.proofs.Common.{◌∙◌, sym, ap, rules}
use Rattle.std.proofs.lemmas.Bool.{eqb-true, eq-eqb}
use Rattle.std.specs.Int.{w64, from_le_bytes, to_le_bytes}
use Rattle.std.proofs.lemmas.Nat.{le_bytes_8}
use Rattle.dns_name.proofs.wire_bytes.are_same.Goals as goal

pub returns : goal.returns
returns c =
    let ours = le_bytes_8 c.args.ours.now _ (search rules) (search rules) c.from_le_bytes.ensures in
    let theirs = le_bytes_8 c.args.theirs.now _ (search rules) (search rules) c.from_le_bytes-2.ensures in (
      λ yes. sym ours ∙ ap (to_le_bytes w64) (eqb-true _ _ yes) ∙ theirs,
      λ same. eq-eqb _ _ (c.from_le_bytes.ensures ∙ ap (from_le_bytes w64) same ∙ sym c.from_le_bytes-2.ensures),
    )
