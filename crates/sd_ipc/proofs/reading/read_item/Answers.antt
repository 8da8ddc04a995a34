use Rattle.std.proofs.lemmas.Result.{err_from_is_err_and}
use Rattle.sd_ipc.specs.Reading.{item_in, frame_size}
use Rattle.sd_ipc.proofs.NoFault.{item_frame, no_fault}
use Rattle.sd_ipc.proofs.Sources.{no_frame, no_frame_whole, none_of, some_of, some_err, whole_of, other_fault}
use Rattle.sd_ipc.proofs.reading.read_item.Goals as goal

pub returns-in_err-frame-clause-value : goal.returns-in_err-frame-clause-value
unfolding item_in
returns-in_err-frame-clause-value g c = λ bytes e.
    let p = err_from_is_err_and c.from_residual.result c.from_residual.ensures.1 in
    rw (p.1, p.2) (no_frame _ _ _ (c.in_err-frame.ensures.value bytes e))

pub returns-in_err-frame-clause-whole : goal.returns-in_err-frame-clause-whole
returns-in_err-frame-clause-whole g c = λ bytes e.
    let p = err_from_is_err_and c.from_residual.result c.from_residual.ensures.1 in
    rw (p.1, p.2) (no_frame_whole _ (frame_size bytes) bytes _ (c.in_err-frame.ensures.whole bytes e))

pub returns-in_default-clause-value : goal.returns-in_default-clause-value
unfolding item_in
returns-in_default-clause-value g c = λ bytes e. none_of _ _ (rw c.in_default.is at (c.in_ok-frame.ensures.value bytes e))

pub returns-in_default-clause-whole : goal.returns-in_default-clause-whole
returns-in_default-clause-whole g c = λ bytes e. whole_of _ _ (frame_size bytes) bytes _ (c.in_ok-frame.ensures.whole bytes e)

pub returns-in_err-found-clause-value : goal.returns-in_err-found-clause-value
unfolding item_in
returns-in_err-found-clause-value g c = λ bytes e.
    let p = err_from_is_err_and c.from_residual-in_err-found.result c.from_residual-in_err-found.ensures.1 in
    rw (p.1, p.2) (some_err _ _ _ _ (rw c.in-Some.is at (c.in_ok-frame.ensures.value bytes e)) (rw c.as_slice.ensures at c.in_err-found.ensures))

pub returns-in_err-found-clause-whole : goal.returns-in_err-found-clause-whole
returns-in_err-found-clause-whole g c = λ bytes e. whole_of _ _ (frame_size bytes) bytes _ (c.in_ok-frame.ensures.whole bytes e)

pub returns-in_err-found-clause-fault : goal.returns-in_err-found-clause-fault
returns-in_err-found-clause-fault g c = λ h.
    let p = err_from_is_err_and c.from_residual-in_err-found.result c.from_residual-in_err-found.ensures.1 in
    absurd (other_fault _ (no_fault _ _ (item_frame c.as_slice.result.now) c.in_err-found.ensures) (rw (p.1, p.2) at h))

pub returns-clause-value : goal.returns-clause-value
unfolding item_in
returns-clause-value g c = λ bytes e.
    some_of _ _ _ _ (rw c.in-Some.is at (c.in_ok-frame.ensures.value bytes e)) (rw c.as_slice.ensures at c.in_ok-found.ensures)

pub returns-clause-whole : goal.returns-clause-whole
returns-clause-whole g c = λ bytes e. whole_of _ _ (frame_size bytes) bytes _ (c.in_ok-frame.ensures.whole bytes e)
