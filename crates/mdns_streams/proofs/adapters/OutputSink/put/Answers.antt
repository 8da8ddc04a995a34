use Rattle.std.proofs.Common.{rules, ◌++◌, take}
use Rattle.std.proofs.lemmas.Result.{err_from_is_err_and}
use Rattle.std.proofs.KnownBytes.{Appends-trans}
use Rattle.mdns_streams.proofs.Writing.{moves_front, left_off}
use Rattle.mdns_streams.proofs.adapters.OutputSink.put.Goals as goal

pub returns-in_err-count-clause-bytes : goal.returns-in_err-count-clause-bytes
returns-in_err-count-clause-bytes g c =
    let p = err_from_is_err_and c.from_residual.result c.from_residual.ensures.1 in
    let (done, split, appended) = c.writes.invariant.gone in
    rw (p.1) (left_off _ _ _ _ done _ split appended c.in_err-count.ensures.bytes)

pub writes-preserved : goal.writes-preserved
writes-preserved g c =
    let (done, split, appended) = c.writes.invariant.gone in
    let rest = c.writes.rest.now in
    let n = c.in_ok-count.count in
    record {
      gone = (done ++ take n rest, moves_front _ done rest n split, Appends-trans _ _ _ _ _ appended c.in_ok-count.ensures.bytes);
      faults = search rules;
    }
