use Rattle.std.proofs.Common.{◌∙◌, ap, inr}
use Rattle.std.proofs.lemmas.Result.{err_from_is_err_and}
use Rattle.sd_ipc.specs.Reading.{word_at}
use Rattle.sd_ipc.proofs.Sources.{bad_word, no_word, a_word, word_within, frame_within, other_fault}
use Rattle.sd_ipc.proofs.source.next_frame.Goals as goal

pub returns-in_err-word-clause-within : goal.returns-in_err-word-clause-within
returns-in_err-word-clause-within g c = λ bytes e. word_within bytes _ (c.in_err-word.ensures.within bytes e)

pub returns-in_err-size-clause-value : goal.returns-in_err-size-clause-value
returns-in_err-size-clause-value g c = λ bytes e.
    let p = err_from_is_err_and c.from_residual-in_err-size.result c.from_residual-in_err-size.ensures.1 in
    rw (p.1, p.2) (inr (bad_word bytes _ _ _ (c.in_ok-word.ensures.taken bytes e) (c.in_err-size.ensures.value ∙ ap word_at c.deref.ensures.value)).value)

pub returns-in_err-size-clause-whole : goal.returns-in_err-size-clause-whole
returns-in_err-size-clause-whole g c = λ bytes e.
    inr (bad_word bytes _ _ _ (c.in_ok-word.ensures.taken bytes e) (c.in_err-size.ensures.value ∙ ap word_at c.deref.ensures.value)).whole

pub returns-in_err-size-clause-within : goal.returns-in_err-size-clause-within
returns-in_err-size-clause-within g c = λ bytes e.
    (bad_word bytes _ _ _ (c.in_ok-word.ensures.taken bytes e) (c.in_err-size.ensures.value ∙ ap word_at c.deref.ensures.value)).within

pub returns-in_err-size-clause-fault : goal.returns-in_err-size-clause-fault
returns-in_err-size-clause-fault g c = λ h.
    let p = err_from_is_err_and c.from_residual-in_err-size.result c.from_residual-in_err-size.ensures.1 in
    absurd (other_fault _ c.in_err-size.ensures.read (rw (p.1, p.2) at h))

pub returns-in_default-clause-value : goal.returns-in_default-clause-value
returns-in_default-clause-value g c = λ bytes e.
    inr (no_word bytes _ _ (c.in_ok-word.ensures.taken bytes e) (rw c.in_default.is at c.in_ok-size.ensures.value ∙ ap word_at c.deref.ensures.value)).value

pub returns-in_default-clause-whole : goal.returns-in_default-clause-whole
returns-in_default-clause-whole g c = λ bytes e.
    inr (no_word bytes _ _ (c.in_ok-word.ensures.taken bytes e) (rw c.in_default.is at c.in_ok-size.ensures.value ∙ ap word_at c.deref.ensures.value)).whole

pub returns-in_default-clause-within : goal.returns-in_default-clause-within
returns-in_default-clause-within g c = λ bytes e.
    (no_word bytes _ _ (c.in_ok-word.ensures.taken bytes e) (rw c.in_default.is at c.in_ok-size.ensures.value ∙ ap word_at c.deref.ensures.value)).within

pub returns-in_err-frame-clause-within : goal.returns-in_err-frame-clause-within
returns-in_err-frame-clause-within g c = λ bytes e.
    frame_within bytes _ _ _ _ (c.in_ok-word.ensures.taken bytes e) (rw c.in-Some.is at c.in_ok-size.ensures.value ∙ ap word_at c.deref.ensures.value) c.in_err-frame.ensures.within

pub returns-clause-value : goal.returns-clause-value
returns-clause-value g c = λ bytes e.
    rw (a_word bytes _ _ _ _ _ (c.in_ok-word.ensures.taken bytes e) (rw c.in-Some.is at c.in_ok-size.ensures.value ∙ ap word_at c.deref.ensures.value) c.in_ok-frame.ensures.taken).value
    at c.whole_frame.ensures.of

pub returns-clause-whole : goal.returns-clause-whole
returns-clause-whole g c = λ bytes e.
    inr (a_word bytes _ _ _ _ _ (c.in_ok-word.ensures.taken bytes e) (rw c.in-Some.is at c.in_ok-size.ensures.value ∙ ap word_at c.deref.ensures.value) c.in_ok-frame.ensures.taken).whole

pub returns-clause-within : goal.returns-clause-within
returns-clause-within g c = λ bytes e.
    (a_word bytes _ _ _ _ _ (c.in_ok-word.ensures.taken bytes e) (rw c.in-Some.is at c.in_ok-size.ensures.value ∙ ap word_at c.deref.ensures.value) c.in_ok-frame.ensures.taken).within
