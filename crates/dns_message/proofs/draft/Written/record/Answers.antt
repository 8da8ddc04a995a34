use Rattle.std.proofs.Common.{◌≡◌, ◌+◌, ◌∙◌, ℕ, cond, arith, ap, subst, length, length-append}
use Rattle.std.specs.Prelude.{nat_le}
use Rattle.dns_pointers.specs.Writing.{Offsets}
use Rattle.dns_message.specs.Writing.{written_record}
use Rattle.dns_message.proofs.Kept.{record_cut, all_or_nothing}
use Rattle.dns_message.proofs.draft.Written.record.Goals as goal

pub returns-clause-grown : goal.returns-clause-grown
returns-clause-grown c =
    let w = c.self.inside in
    let piece = written_record w.names (length w.out.items) c.args.rr.now in
    subst
    (λ (old : ℕ × Offsets). c.kept_within.new.self
    ≡ cond (nat_le (old.0 + length (written_record old.1 old.0 c.args.rr.now).bytes) c.args.most)
    (old.0 + length (written_record old.1 old.0 c.args.rr.now).bytes, (written_record old.1 old.0 c.args.rr.now).names) old)
    c.self.view_is
    (all_or_nothing (length w.out.items, w.names) (length c.put_record.new.out.items, c.put_record.new.names) c.kept_within.new.self piece c.args.most c.len-len.result c.len-count.result
    (omega (arith, c.len-len.ensures, w.out.ok.0)) c.len-count.ensures
    (ap length c.in-Ok.ensures.0 ∙ length-append w.out.items piece.bytes) c.in-Ok.ensures.1 (record_cut w.names (length w.out.items) c.args.rr.now) c.kept_within.ensures.left)
