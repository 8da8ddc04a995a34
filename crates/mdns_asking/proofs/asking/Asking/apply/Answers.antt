use Rattle.std.proofs.Common.{◌≡◌, ◌∙◌, List, map, ap, sym, subst}
use Rattle.dns_record.specs.declared.record.Key.{Key}
use Rattle.mdns_question.specs.declared.tracked.Tracked.{Tracked}
use Rattle.mdns_asking.specs.State.{State}
use Rattle.mdns_asking.specs.Asked.{all_begun, all_ended, all_asked}
use Rattle.mdns_asking.specs.Kept.{HaveGaps}
use Rattle.mdns_asking.specs.ByWalks.{timed_by}
use Rattle.mdns_asking.proofs.Gaps.{gaps_told, gaps_timed}
use Rattle.mdns_asking.proofs.WalksTell.{is_told}
use Rattle.mdns_asking.proofs.asking.Asking.apply.Goals as goal

-- what is kept after the askings of these questions
abbrev kept_of : (c : goal.After-tell_points) → List Tracked → List Tracked
kept_of c questions =
    all_asked c.args.when.moment c.args.plan.now.asked.items (all_ended c.args.plan.now.ended.items (all_begun c.args.when.moment c.args.when.word c.args.plan.now.begun.items questions))

are_told : (c : goal.After-tell_points) → c.tell_points.new.asker.questions ≡ map (timed_by c.args.walks.now) (kept_of c c.self.inside.asker.questions)
are_told c =
    let begins : c.begin.new.asker.questions ≡ all_begun c.args.when.moment c.args.when.word c.args.plan.now.begun.items c.self.inside.asker.questions =
    c.begin.ensures ∙ ap (λ (keys : List Key). all_begun c.args.when.moment c.args.when.word keys c.self.inside.asker.questions) c.deref.ensures.value in
    let ends : c.end.new.asker.questions ≡ all_ended c.args.plan.now.ended.items (all_begun c.args.when.moment c.args.when.word c.args.plan.now.begun.items c.self.inside.asker.questions) =
    c.end.ensures ∙ (λ i. all_ended (c.deref-2.ensures.value i) (begins i)) in
    let notes : c.note.new.asker.questions ≡ kept_of c c.self.inside.asker.questions = c.note.ensures ∙ (λ i. all_asked c.args.when.moment (c.deref-3.ensures.value i) (ends i)) in
    c.tell_points.ensures ∙ ap (map (timed_by c.args.walks.now)) notes

pub invariant_of-self : goal.invariant_of-self
invariant_of-self c =
    subst HaveGaps (sym (are_told c))
    (gaps_timed c.args.walks.now (kept_of c c.self.inside.asker.questions)
    (gaps_told c.args.when.moment c.args.when.word c.args.plan.now.begun.items c.args.plan.now.ended.items c.args.plan.now.asked.items c.self.inside.asker.questions c.self.invariant))

pub returns : goal.returns
returns c = λ held later timed are known begins noted.
    are_told c ∙ ap (λ (s : State). map (timed_by c.args.walks.now) (kept_of c s.questions)) c.self.view_is
    ∙ is_told held later c.args.walks.now c.args.when.moment c.args.when.word c.args.plan.now.begun.items c.args.plan.now.ended.items c.args.plan.now.asked.items c.args.self.now.questions
    timed are known begins noted
