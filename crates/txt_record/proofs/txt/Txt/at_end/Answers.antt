use Rattle.std.proofs.Common.{◌∙◌, ◌++◌, ◌∷◌, [], List, ℕ, ap, length, sym, arith}
use Rattle.txt_record.proofs.Runs.{bytes_are, short_from_is_txt, txt_data-push}
use Rattle.txt_record.proofs.txt.Txt.at_end.Goals as goal

pub returns : goal.returns
returns c =
    let are = c.as_slice.ensures.value ∙ bytes_are c.self.inside.bytes.items c.args.self.now c.self.invariant c.self.view_is in
    record {
      bytes = λ string. txt_data-push c.args.self.now string ∙ ap (λ (bytes : List ℕ). bytes ++ length string ∷ string ++ []) (sym are);
      short = omega (arith, c.as_slice.ensures.len, ap length c.as_slice.ensures.value, short_from_is_txt c.self.inside.bytes.items c.self.invariant);
    }
