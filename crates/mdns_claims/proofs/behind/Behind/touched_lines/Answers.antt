use Rattle.std.proofs.Common.{◌≡◌, ◌∙◌, ◌++◌, ◌∷◌, [], ℕ, List, length, get_or, true≢false, ap, sym, subst, arith}
use Rattle.std.proofs.lemmas.List.{get_or_default}
use Rattle.sd_call.specs.declared.answer.Answer.{Answer}
use Rattle.mdns_happened.specs.declared.around.Registered.{Registered}
use Rattle.mdns_happened.specs.Registrations.{AreRegistered, is_told}
use Rattle.mdns_probe.specs.Kept.{Kept}
use Rattle.mdns_claimants.specs.Owned.{registered_answers}
use Rattle.mdns_claims.specs.Later.{groups_behind}
use Rattle.mdns_claims.specs.Planned.{Means}
use Rattle.mdns_claims.specs.Seen.{means_in}
use Rattle.mdns_claims.proofs.Ahead.{answers_more}
use Rattle.mdns_claims.proofs.Changed.{are_more, line_of, told_more}
use Rattle.mdns_claims.proofs.Made.{untouched}
use Rattle.mdns_claims.proofs.Touched.{answers_passed, answers_none}
use Rattle.mdns_claims.proofs.behind.Behind.touched_lines.Goals as goal
use Rattle.mdns_claims.proofs.behind.Behind.touched_lines.Goals.{then-touches+in_ok-push, else-touches}

pub loop-place-preserved : goal.loop-place-preserved
loop-place-preserved c =
    let earlier : ℕ → ℕ → List Answer = λ session op. registered_answers session op c.args.self.now.groups.now in
    let later : ℕ → ℕ → List Answer = λ session op. registered_answers session op (groups_behind c.args.self.now) in
    let means : Means = means_in c.args.self.now.means in
    let found = c.in-Some.ensures.some in
    let one : Kept = get_or c.args.self.now.groups.now c.in-Some.place c.index-self-place.result in
    let is : one ≡ get_or c.args.self.now.groups.now c.in-Some.place one = get_or_default c.args.self.now.groups.now c.in-Some.place c.index-self-place.result one found.within in
    elim c.if-touches.branch [
      | then-touches+in_ok-push w ↦
          let lines : c.if-touches.lines.items ≡ c.loop-place.lines.items ++ w.line.result ∷ [] = ap (λ v. v.items) w.lines-is ∙ w.in_ok-push.ensures.items in
          record {
            within = omega (arith, found.within);
            are = subst (AreRegistered earlier later) (sym lines) (are_more earlier later c.loop-place.lines.items w.line.result c.loop-place.invariant.are w.line.ensures.is);
            rest = λ session op e new there.
                let parts = told_more c.loop-place.lines.items w.line.result session op (sym (ap (λ (l : List Registered). is_told l session op) lines) ∙ e) in
                c.loop-place.invariant.rest session op parts.0 new
                (answers_passed means c.args.self.now.deed.now c.args.self.now.groups.now session op new c.loop-place.from c.in-Some.place found.behind (omega (arith, found.within)) found.passed
                (answers_more means c.args.self.now.deed.now c.args.self.now.groups.now c.in-Some.place one found.within is
                session op new
                (λ here. absurd (true≢false (sym here ∙ line_of w.line.result w.naming.result.now one.group session op w.line.ensures.session w.line.ensures.op w.naming.ensures.naming parts.1)))
                there));
          }
      | else-touches w ↦
          record {
            within = omega (arith, found.within);
            are = subst (λ (v : List Registered). AreRegistered earlier later v) (sym (ap (λ v. v.items) w.lines-is)) c.loop-place.invariant.are;
            rest = λ session op e new there.
                c.loop-place.invariant.rest session op (sym (ap (λ v. is_told v.items session op) w.lines-is) ∙ e) new
                (answers_passed means c.args.self.now.deed.now c.args.self.now.groups.now session op new c.loop-place.from c.in-Some.place found.behind (omega (arith, found.within)) found.passed
                (answers_more means c.args.self.now.deed.now c.args.self.now.groups.now c.in-Some.place one found.within is
                session op new
                (λ here. untouched means c.args.self.now.deed.now c.in-Some.place one (sym c.touches.ensures ∙ w.if-touches.false))
                there));
          }
    ]

pub returns-clause-rest : goal.returns-clause-rest
returns-clause-rest c = λ session op e new none.
    c.loop-place.invariant.rest session op e new
    (answers_passed (means_in c.args.self.now.means) c.args.self.now.deed.now c.args.self.now.groups.now session op new c.loop-place.from (length c.args.self.now.groups.now)
    c.loop-place.invariant.within (omega arith) c.in_default.ensures.none
    (answers_none (means_in c.args.self.now.means) c.args.self.now.deed.now c.args.self.now.groups.now session op new none))
