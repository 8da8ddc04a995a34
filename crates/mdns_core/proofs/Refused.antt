-- What holds of a call that was refused.
use Rattle.std.proofs.Common.{◌≡◌, ◌≤◌, ℕ, true, List, length, sym, subst, Result, Ok, Err, IfOk, OnOk, OnErr, IsErrAnd}
use Rattle.sd_answer.specs.Known.{rrs_of}
use Rattle.sd_answer.specs.Laws.{have_data}
use Rattle.mdns_history.specs.declared.held.Held.{Held}
use Rattle.mdns_cache.specs.Lifetimes.{AllLive, AllHeard}
use Rattle.mdns_question.specs.declared.tracked.Tracked.{Tracked}
use Rattle.mdns_question.specs.Refreshing.{AreTimed}

pub if_ok_refused : {T E : Type 0} (Q : E → Type 0) (P : T → Type 0) (r : Result T E) → IsErrAnd r Q → IfOk r P
if_ok_refused Q P (Ok x) h = absurd h
if_ok_refused Q P (Err e) h = tt

pub on_ok_refused : {T E : Type 0} (Q : E → Type 0) (P : Type 0) (r : Result T E) → IsErrAnd r Q → OnOk r P
on_ok_refused Q P (Ok x) h = absurd h
on_ok_refused Q P (Err e) h = tt

pub on_err_refused : {T E : Type 0} (P : Type 0) (r : Result T E) → P → OnErr r P
on_err_refused P (Ok x) p = tt
on_err_refused P (Err e) p = p

-- What holds of held records and questions holds of those that are the same.
pub stays : (last : ℕ) (held then_held : List Held) (questions then_questions : List Tracked) → then_held ≡ held → then_questions ≡ questions
    → (length held ≤ 32768) × AllLive last held × AllHeard last held × AreTimed held questions × (have_data (rrs_of held) ≡ true)
    → (length then_held ≤ 32768) × AllLive last then_held × AllHeard last then_held × AreTimed then_held then_questions × (have_data (rrs_of then_held) ≡ true)
stays last held then_held questions then_questions same_held same_questions h = (
  subst (λ (hs : List Held). length hs ≤ 32768) (sym same_held) h.0,
  subst (AllLive last) (sym same_held) h.1,
  subst (AllHeard last) (sym same_held) h.2,
  subst (AreTimed then_held) (sym same_questions) (subst (λ (hs : List Held). AreTimed hs questions) (sym same_held) h.3),
  subst (λ (hs : List Held). have_data (rrs_of hs) ≡ true) (sym same_held) h.4,
)
