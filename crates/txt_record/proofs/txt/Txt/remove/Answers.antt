use Rattle.std.proofs.Common.{◌∙◌, length, ap, arith}
use Rattle.txt_record.proofs.Runs.{bytes_are, short_from_is_txt, is_txt-made, strings_of-made}
use Rattle.txt_record.proofs.Places.{taken_out, taken_out_short, without_key-none}
use Rattle.txt_record.proofs.txt.Txt.remove.Goals as goal

pub drain-requires-clause-in_bounds : goal.drain-requires-clause-in_bounds
drain-requires-clause-in_bounds c =
    omega (arith, c.in-Some.ensures.within, ap length (bytes_are c.self.inside.bytes.items c.args.self.now c.self.invariant c.self.view_is), c.self.inside.bytes.ok)

pub invariant_of-self : goal.invariant_of-self
invariant_of-self c =
    let bytes = c.self.inside.bytes.items in
    let are = bytes_are bytes c.args.self.now c.self.invariant c.self.view_is in
    let items = c.drop-drain.ensures.items ∙ c.drain.ensures.kept in
    let left = taken_out c.args.key.now _ _ _ _ bytes _ c.in-Some.ensures.place c.as_bytes.ensures.value are items in
    let short = taken_out_short _ _ _ _ bytes _ c.in-Some.ensures.place are items in
    is_txt-made _ _ left (omega (arith, ap length left, short, short_from_is_txt bytes c.self.invariant))

pub returns-in-Some-clause-strings : goal.returns-in-Some-clause-strings
returns-in-Some-clause-strings c =
    let bytes = c.self.inside.bytes.items in
    let are = bytes_are bytes c.args.self.now c.self.invariant c.self.view_is in
    strings_of-made _ _ (taken_out c.args.key.now _ _ _ _ bytes _ c.in-Some.ensures.place c.as_bytes.ensures.value are (c.drop-drain.ensures.items ∙ c.drain.ensures.kept))

pub returns-in-None-clause-strings : goal.returns-in-None-clause-strings
returns-in-None-clause-strings c = rw (← c.as_bytes.ensures.value) (without_key-none _ _ c.in-None.ensures.place)
