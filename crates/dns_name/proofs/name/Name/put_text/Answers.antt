use Rattle.std.proofs.Common.{◌++◌, ◌∙◌, sym, ap, length, List, ℕ}
use Rattle.dns_name.specs.NameText.{name_text}
use Rattle.dns_name.proofs.ReadBack.{reads_back}
use Rattle.dns_name.proofs.WrittenText.{root_of, text_of_labels}
use Rattle.std.proofs.lemmas.Bool.{false≢true}
use Rattle.dns_name.proofs.name.Name.put_text.Goals as goal

pub returns-then-is_root-clause-text : goal.returns-then-is_root-clause-text
returns-then-is_root-clause-text c =
    let one = sym (ap length c.as_wire.ensures.value) ∙ c.is_root.ensures.root.0 c.if-is_root.true in
    c.in_ok-push.ensures.items ∙ ap (λ (n : List (List ℕ)). c.args.out.now.items ++ name_text n) (sym (root_of c.args.self.now one))

pub returns-clause-text : goal.returns-clause-text
returns-clause-text c =
    rw (sym (text_of_labels c.args.self.now (λ one. absurd (false≢true (sym c.if-is_root.false ∙ c.is_root.ensures.root.1 (ap length c.as_wire.ensures.value ∙ one)))))) c.put_labels.ensures

pub returns-in_err-push-clause-read : goal.returns-in_err-push-clause-read
returns-in_err-push-clause-read c = reads_back c.args.self.now c.as_wire.result.now c.as_wire.ensures.name c.as_wire.ensures.value c.is_root.ensures.bytes

pub returns-then-is_root-clause-read : goal.returns-then-is_root-clause-read
returns-then-is_root-clause-read c = reads_back c.args.self.now c.as_wire.result.now c.as_wire.ensures.name c.as_wire.ensures.value c.is_root.ensures.bytes

pub returns-clause-read : goal.returns-clause-read
returns-clause-read c = reads_back c.args.self.now c.as_wire.result.now c.as_wire.ensures.name c.as_wire.ensures.value c.is_root.ensures.bytes
