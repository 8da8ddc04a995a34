use Rattle.std.proofs.Common.{◌≡◌, ◌∙◌, ◌++◌, ◌∷◌, [], List, Option, ap, sym, refl}
use Rattle.std.specs.Option.{option_to_list}
use Rattle.mdns_happened.specs.declared.around.Registered.{Registered}
use Rattle.mdns_happened.specs.Registrations.{is_told}
use Rattle.mdns_probe.specs.Kept.{Kept}
use Rattle.mdns_claims.specs.Later.{later_from}
use Rattle.mdns_claimants.specs.Owned.{registered_answers}
use Rattle.mdns_claims.specs.Seen.{means_in}
use Rattle.mdns_claims.proofs.Changed.{line_of, skipped, told_more}
use Rattle.mdns_claims.proofs.Made.{later_all}
use Rattle.mdns_claims.proofs.behind.Behind.registered.Goals as goal
use Rattle.mdns_claims.proofs.behind.Behind.registered.Goals.{in-Some+in_ok-push, in_default}

pub returns-clause-rest : goal.returns-clause-rest
returns-clause-rest c = λ session op e.
    let kept : List Kept = later_from (means_in c.args.self.now.means) c.args.self.now.deed.now 0 c.args.self.now.groups.now in
    ap (registered_answers session op) (later_all (means_in c.args.self.now.means) c.args.self.now.deed.now c.args.self.now.groups.now)
    ∙ elim c.match-begun.branch [
      | in-Some+in_ok-push w ↦
          let lines : c.match-begun.lines.items ≡ c.in_ok-lines.lines.items ++ w.line.result ∷ [] = ap (λ v. v.items) w.lines-is ∙ w.in_ok-push.ensures.items in
          let parts = told_more c.in_ok-lines.lines.items w.line.result session op (sym (ap (λ (l : List Registered). is_told l session op) lines) ∙ e) in
          ap (λ (o : Option Kept). registered_answers session op (kept ++ option_to_list o)) (sym w.in-Some.ensures)
          ∙ c.in_ok-lines.ensures.rest session op parts.0 (w.in-Some.one.now ∷ [])
          (skipped session op w.in-Some.one.now [] (line_of w.line.result w.naming.result.now w.in-Some.one.now.group session op w.line.ensures.session w.line.ensures.op w.naming.ensures.naming parts.1))
      | in_default w ↦
          ap (λ (o : Option Kept). registered_answers session op (kept ++ option_to_list o)) (sym w.in_default.ensures)
          ∙ c.in_ok-lines.ensures.rest session op (sym (ap (λ v. is_told v.items session op) w.lines-is) ∙ e) [] refl
    ]
