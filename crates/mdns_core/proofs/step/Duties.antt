-- The marks of the duties in force refuse nothing.
use Rattle.std.proofs.Common.{◌≡◌, ℕ, false, ◌||◌, List, ◌++◌, refl, ap, ◌∙◌}
use Rattle.std.proofs.lemmas.List.Folds.{list_any-append}
use Rattle.std.specs.List.{list_any}
use Rattle.mdns_history.specs.declared.event.Event.{Event}
use Rattle.mdns_history.specs.declared.entry.Entry.{Entry}
use Rattle.mdns_history.specs.Hearings.{is_refusal}
use Rattle.sd_sessions.proofs.EntryMarks.{no_duty, refuses_not, askings_pass}
use Rattle.mdns_core.proofs.step.Stage.{bare, claim_marks, asking_marks, announcing_marks, duty_marks}
use Rattle.mdns_core.proofs.step.ClaimMarks.{claims_pass_none, claims_refuse_not, announced_pass_none}

-- The marks of duties refuse nothing.
pub duties_refuse_none : (past : List Entry) (moment word : ℕ) (ev : Event) → list_any is_refusal (duty_marks past moment word ev) ≡ false
duties_refuse_none past moment word ev =
    list_any-append is_refusal (claim_marks past moment word ev) (asking_marks past moment word ev ++ announcing_marks past moment word ev)
    ∙ ap (λ b. b || list_any is_refusal (asking_marks past moment word ev ++ announcing_marks past moment word ev)) (claims_pass_none is_refusal claims_refuse_not past moment word ev)
    ∙ list_any-append is_refusal (asking_marks past moment word ev) (announcing_marks past moment word ev)
    ∙ ap (λ b. b || list_any is_refusal (announcing_marks past moment word ev)) (no_duty is_refusal refuses_not (asking_marks past moment word ev) (askings_pass past moment word ev))
    ∙ announced_pass_none is_refusal (λ group. refl) (bare past moment word ev) past ev
