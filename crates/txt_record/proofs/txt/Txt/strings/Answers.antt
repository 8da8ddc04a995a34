use Rattle.std.proofs.Common.{ap, ◌∙◌, length, arith}
use Rattle.txt_record.specs.Strings.{strings_of}
use Rattle.txt_record.proofs.Runs.{short_data, length_le_data}
use Rattle.txt_record.proofs.txt.Txt.strings.Goals as goal

pub returns-clause-short : goal.returns-clause-short
returns-clause-short c = short_data c.self.inside.bytes.items _ c.self.invariant c.self.view_is

pub returns-clause-few : goal.returns-clause-few
returns-clause-few c =
    omega (arith, ap length (c.new.ensures ∙ ap strings_of c.as_slice.ensures.value ∙ c.self.view_is), short_data c.self.inside.bytes.items _ c.self.invariant c.self.view_is, length_le_data c.args.self.now)
