use Rattle.std.proofs.Common.{◌≡◌, ◌∙◌, ◌++◌, ◌∷◌, [], ap, sym, length, arith}
use Rattle.txt_record.specs.Strings.{txt_data}
use Rattle.txt_record.proofs.Runs.{is_txt-made, strings_of-made}
use Rattle.txt_record.proofs.txt.Txt.push.Goals as goal

-- the bytes that were made are the data of the new strings
made : (c : goal.After-drop-self-inside) → c.in_ok-self-inside.field-0.items ≡ txt_data (c.args.self.now ++ c.args.string.now ∷ [])
made c = c.in_ok-self-inside.ensures.ok ∙ sym (c.at_end.ensures.bytes c.args.string.now)

pub invariant_of-self : goal.invariant_of-self
invariant_of-self c = is_txt-made _ _ (made c) (omega (arith, ap length (made c), c.in_ok-self-inside.ensures.short))

pub returns-clause-ok : goal.returns-clause-ok
returns-clause-ok c = strings_of-made _ _ (made c)
