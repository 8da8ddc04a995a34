use Rattle.std.proofs.Common.{◌≡◌, ◌∙◌, ◌++◌, max, List, map, Option, ap, subst, sym}
use Rattle.std.specs.Prelude.{ℕ}
use Rattle.std.specs.List.{flat_map}
use Rattle.mdns_claims.specs.Behind.{next_in}
use Rattle.std.specs.Option.{option_map}
use Rattle.lists.specs.Lists.{least}
use Rattle.mdns_core.specs.InForce.{in_force}
use Rattle.mdns_history.specs.declared.held.Held.{Held}
use Rattle.mdns_history.specs.Due.{NextDue}
use Rattle.mdns_question.specs.Next.{next_of}
use Rattle.mdns_core.specs.State.{reply_moments, due_of}
use Rattle.mdns_core.proofs.step.Standing.{due-stands}
use Rattle.mdns_core.proofs.daemon.Daemon.next_due.Goals as goal

pub returns-clause-value : goal.returns-clause-value
returns-clause-value c =
    let held : List Held = c.self.inside.parts.records.held in
    let ends : List ℕ = map (λ (one : Held). one.end) held in
    let nexts : List ℕ = map (next_of held) c.self.inside.parts.asking.questions in
    let groups : List ℕ = flat_map (next_in c.self.inside.parts.claims.contents.announces) c.self.inside.parts.claims.contents.kept in
    let replies : List ℕ = reply_moments c.self.inside.parts.lasts.lasts c.self.inside.parts.owing.queries in
    let first : c.earlier-due.result ≡ least (ends ++ nexts) = c.earlier-due.ensures ends nexts c.next_end.ensures.least (c.first_due.ensures.due held c.self.invariant.3) in
    let waits_is : c.earlier-waits.result ≡ least (groups ++ replies) = c.earlier-waits.ensures groups replies c.next_due.ensures c.next_due-2.ensures in
    let least_is : c.earlier.result ≡ least (ends ++ nexts ++ (groups ++ replies)) = c.earlier.ensures (ends ++ nexts) (groups ++ replies) first waits_is in
    c.not_before.ensures ∙ ap (option_map (max c.self.inside.last.moment)) least_is ∙ ap due_of c.self.view_is

pub returns-clause-due : goal.returns-clause-due
returns-clause-due c = λ history stands.
    subst (λ (o : Option ℕ). NextDue in_force history o) (sym (returns-clause-value c)) (due-stands c.args.self.now history stands)
