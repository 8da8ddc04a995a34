use Rattle.std.proofs.Common.{◌≡◌, ◌==◌, ◌∙◌, sym, ap, false, true, length, List, [], ℕ, ◌++◌}
use Rattle.mdns_script.proofs.TxtWords.{words_some}
use Rattle.mdns_script.proofs.print_request.put_txt.Goals as goal

pub returns : goal.returns
returns c =
    let none = λ (e : c.args.txt.now ≡ []). let no : true ≡ false = sym (ap (λ (l : List ℕ). length l == 0) e) ∙ sym c.is_empty.ensures ∙ c.if-is_empty.false in absurd (cc) in
    let words = words_some c.args.txt.now (sym c.is_same.ensures ∙ c.if-is_same.false) none in
    c.in_ok-put_strings.ensures ∙ ap (λ (l : List ℕ). c.args.out.now.items ++ l) words
