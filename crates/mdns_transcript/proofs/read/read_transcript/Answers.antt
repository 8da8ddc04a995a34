use Rattle.std.proofs.Common.{◌≡◌, ℕ, ◌+◌, ◌<◌, Bool, List, [], None, length, ap, sym, ◌∙◌, subst, arith}
use Rattle.number_text.specs.Cut.{cut_of}
use Rattle.mdns_script.proofs.ReadBytes.{bytes_from}
use Rattle.mdns_lines.specs.ReadLines.{line_read}
use Rattle.mdns_transcript.specs.Leading.{IsBadAt}
use Rattle.mdns_transcript.specs.Drafts.{lines_read, stage_of, IsTaken, AreRowsOf}
use Rattle.mdns_transcript.proofs.ReadOn.{begin_read, taken_on, bad_at, are_read, some_rest, no_rest}
use Rattle.mdns_transcript.proofs.Bad.{IsReadTo, bad_rest, bad_end, good_end}
use Rattle.mdns_transcript.proofs.read.read_transcript.Goals as goal

pub lines-init : goal.lines-init
lines-init c = record {
  read = begin_read c.args.text.now c.new-reading.result c.new-reading.ensures.lines c.new-reading.ensures.stage;
  reading = c.new-reading.ensures.is;
  bytes = bytes_from c.args.text.now (λ i. omega (arith, c.type_inv.text i));
  counted = sym (ap length c.new-reading.ensures.lines);
  short = omega arith;
}

pub lines-preserved : goal.lines-preserved
lines-preserved c =
    let taken = subst (λ (b : Bool). IsTaken c.lines.reading (line_read c.in-Some.front.now) b c.take_line.new.self) c.if-not-branch.false c.in_ok-take_line.ensures in
    let t = taken_on c.args.text.now c.lines.rest.now c.in-Some.front.now c.in-Some.after.now c.lines.reading c.take_line.new.self c.lines.invariant.read c.lines.invariant.bytes (sym c.in-Some.ensures.cut) taken in
    record {
      read = t.read;
      reading = t.reading;
      bytes = t.bytes;
      counted = ap (λ (n : ℕ). n + 1) c.lines.invariant.counted ∙ sym t.counted;
      short = let less : length c.in-Some.after.now < length c.lines.rest.now = c.in-Some.ensures.split.1 in omega arith;
    }

pub returns-then-not-branch-clause-bad : goal.returns-then-not-branch-clause-bad
returns-then-not-branch-clause-bad c =
    let taken = subst (λ (b : Bool). IsTaken c.lines.reading (line_read c.in-Some.front.now) b c.take_line.new.self) c.if-not-branch.true c.in_ok-take_line.ensures in
    subst (λ (n : ℕ). IsBadAt c.args.text.now (n + 1)) (sym c.lines.invariant.counted)
    (bad_at c.args.text.now c.lines.rest.now c.in-Some.front.now c.in-Some.after.now c.lines.reading c.take_line.new.self c.lines.invariant.read c.lines.invariant.reading (sym c.in-Some.ensures.cut) taken)

pub returns-then-not-is_empty-clause-bad : goal.returns-then-not-is_empty-clause-bad
returns-then-not-is_empty-clause-bad c =
    let cut : cut_of 10 c.lines.rest.now ≡ None = sym c.in_default.ensures.cut in
    let read = are_read c.args.text.now c.lines.rest.now c.lines.reading c.lines.invariant.read c.lines.invariant.reading in
    subst (λ (n : ℕ). IsBadAt c.args.text.now (n + 1)) (sym c.lines.invariant.counted)
    (bad_rest c.args.text.now (lines_read c.lines.reading) (stage_of c.lines.reading.draft) c.lines.rest.now read cut (some_rest c.lines.rest.now (sym c.is_empty.ensures ∙ c.if-not-is_empty.true)))

pub returns-in-Some-2-clause-rows : goal.returns-in-Some-2-clause-rows
returns-in-Some-2-clause-rows c =
    let rows = subst (AreRowsOf c.lines.reading) c.in-Some-2.is c.in_ok-rows.ensures in
    let none = no_rest c.lines.rest.now (sym c.is_empty.ensures ∙ c.if-not-is_empty.false) in
    let read = subst (λ (rest : List ℕ). IsReadTo c.args.text.now (lines_read c.lines.reading) (stage_of c.lines.reading.draft) rest) none c.lines.invariant.read in
    good_end c.args.text.now (lines_read c.lines.reading) (stage_of c.lines.reading.draft) c.in-Some-2.rows (are_read c.args.text.now [] c.lines.reading read c.lines.invariant.reading) rows.0 rows.1

pub returns-in-None-clause-bad : goal.returns-in-None-clause-bad
returns-in-None-clause-bad c =
    let cut : cut_of 10 c.lines.rest.now ≡ None = sym c.in_default.ensures.cut in
    let read = are_read c.args.text.now c.lines.rest.now c.lines.reading c.lines.invariant.read c.lines.invariant.reading in
    subst (λ (n : ℕ). IsBadAt c.args.text.now (n + 1)) (sym c.lines.invariant.counted)
    (bad_end c.args.text.now (lines_read c.lines.reading) (stage_of c.lines.reading.draft) c.lines.rest.now read cut (subst (AreRowsOf c.lines.reading) c.in-None.is c.in_ok-rows.ensures))
