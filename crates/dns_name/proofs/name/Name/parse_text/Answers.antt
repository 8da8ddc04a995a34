use Rattle.std.proofs.Common.{◌≡◌, ◌∙◌, sym, ap, subst, Ok, [], ◌∷◌}
use Rattle.std.proofs.lemmas.Result.{IfOk-at_ok}
use Rattle.std.proofs.lemmas.Slice.Eq.{bytes_eq-Decides}
use Rattle.std.specs.Prelude.{IsTrue}
use Rattle.dns_name.specs.Names.{is_name}
use Rattle.dns_name.specs.declared.error.NameError.TheVariants.{EmptyLabel}
use Rattle.dns_name.specs.TextItems.{items_of}
use Rattle.dns_name.specs.ReadName.{IsSpelling, HasItemsOf, read_name}
use Rattle.dns_name.proofs.ReadItems.{items_read, reads_root, reads_nothing, reads_labels}
use Rattle.dns_name.proofs.Spellings.{read_if, spelled_if, ok_same, err_other}
use Rattle.dns_name.proofs.name.Name.parse_text.Goals as goal

pub returns-then-eq-clause-value : goal.returns-then-eq-clause-value
returns-then-eq-clause-value c = ap Ok c.root.ensures ∙ reads_root c.args.text.now (sym c.if-eq.ensures)

pub returns-then-eq-clause-spelled : goal.returns-then-eq-clause-spelled
returns-then-eq-clause-spelled c name = (
  λ e. subst (IsSpelling c.args.text.now) (sym c.root.ensures ∙ ok_same c.root.result name e) ((bytes_eq-Decides c.args.text.now (46 ∷ [])).0 (sym c.if-eq.ensures)),
  λ spelled. ap Ok c.root.ensures ∙ reads_root c.args.text.now (sym c.if-eq.ensures) ∙ read_if c.args.text.now name spelled,
)

pub returns-then-is_empty-clause-value : goal.returns-then-is_empty-clause-value
returns-then-is_empty-clause-value c = reads_nothing c.args.text.now (sym c.if-eq.ensures) (sym c.if-is_empty.ensures)

pub returns-then-is_empty-clause-spelled : goal.returns-then-is_empty-clause-spelled
returns-then-is_empty-clause-spelled c name = (
  λ e. absurd (err_other EmptyLabel name e),
  λ spelled. reads_nothing c.args.text.now (sym c.if-eq.ensures) (sym c.if-is_empty.ensures) ∙ read_if c.args.text.now name spelled,
)

-- what is answered
answer : (c : goal.After-read_labels) → c.read_labels.result ≡ read_name c.args.text.now
answer c =
    c.read_labels.ensures.value ∙ ap (λ t. items_read (items_of t)) c.as_bytes.ensures.value
    ∙ reads_labels c.args.text.now (sym c.if-eq.ensures) (sym c.if-is_empty.ensures)

pub returns-clause-value : goal.returns-clause-value
returns-clause-value c = answer c

pub returns-clause-spelled : goal.returns-clause-spelled
returns-clause-spelled c name = (
  λ e.
      let read = IfOk-at_ok (λ n. IsTrue (is_name n) × HasItemsOf (items_of c.as_bytes.result.now) n) e c.read_labels.ensures.spelled in
      spelled_if c.args.text.now name (sym c.if-is_empty.ensures) read.0 (subst (λ t. HasItemsOf (items_of t) name) c.as_bytes.ensures.value read.1),
  λ spelled. answer c ∙ read_if c.args.text.now name spelled,
)
