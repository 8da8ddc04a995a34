use Rattle.std.proofs.Common.{◌≡◌, ◌+◌, ◌∙◌, ℕ, cond, arith, ap, subst, length, length-append}
use Rattle.std.specs.Prelude.{nat_le}
use Rattle.dns_pointers.specs.Writing.{Offsets}
use Rattle.dns_message.specs.Writing.{written_question}
use Rattle.dns_message.proofs.Kept.{question_cut, all_or_nothing}
use Rattle.dns_message.proofs.draft.Written.question.Goals as goal

pub returns-clause-grown : goal.returns-clause-grown
returns-clause-grown c =
    let w = c.self.inside in
    let piece = written_question w.names (length w.out.items) c.args.question.now in
    subst
    (λ (old : ℕ × Offsets). c.kept_within.new.self
    ≡ cond (nat_le (old.0 + length (written_question old.1 old.0 c.args.question.now).bytes) c.args.most)
    (old.0 + length (written_question old.1 old.0 c.args.question.now).bytes, (written_question old.1 old.0 c.args.question.now).names) old)
    c.self.view_is
    (all_or_nothing (length w.out.items, w.names) (length c.put_question.new.out.items, c.put_question.new.names) c.kept_within.new.self piece c.args.most c.len-len.result c.len-count.result
    (omega (arith, c.len-len.ensures, w.out.ok.0)) c.len-count.ensures
    (ap length c.in_ok-put_question.ensures.bytes ∙ length-append w.out.items piece.bytes) c.in_ok-put_question.ensures.names (question_cut w.names (length w.out.items) c.args.question.now) c.kept_within.ensures.left)
