use Rattle.std.proofs.Common.{◌≡◌, ap, ◌∙◌, sym, subst, arith}
use Rattle.std.specs.List.{remove}
use Rattle.std.specs.Option.{is_some}
use Rattle.mdns_timer.specs.Strict.{IsStrict}
use Rattle.mdns_timer.specs.Timing.{Timing, pair_cmp, has_pair, without_pair}
use Rattle.mdns_timer.proofs.Pairs.{had_found, had_none, without_none, removed_found, strict_removed, on_some}
use Rattle.mdns_timer.proofs.timers.Timers.remove.Goals as goal

taken : (c : goal.After-is_some) → c.remove.new.self.items ≡ remove c.self.inside.pairs.items c.in-Ok.place
taken c =
    on_some c.remove.result _ (c.remove.new.self.items ≡ remove c.self.inside.pairs.items c.in-Ok.place)
    (c.remove.ensures.succeeds (c.args.moment, c.args.id) c.in-Ok.ensures.bound) c.remove.ensures.items

pub invariant_of-self : goal.invariant_of-self
invariant_of-self c =
    subst (IsStrict pair_cmp) (sym (taken c))
    (strict_removed (c.args.moment, c.args.id) c.self.inside.pairs.items c.in-Ok.place (omega (arith, c.self.inside.pairs.ok.0, c.in-Ok.ensures.bound)) c.in-Ok.ensures.position c.self.invariant)

pub returns-in-Ok-clause-had : goal.returns-in-Ok-clause-had
returns-in-Ok-clause-had c =
    c.is_some.ensures
    ∙ ap is_some (c.remove.ensures.succeeds (c.args.moment, c.args.id) c.in-Ok.ensures.bound)
    ∙ had_found (c.args.moment, c.args.id) c.self.inside.pairs.items c.in-Ok.place (omega (arith, c.self.inside.pairs.ok.0, c.in-Ok.ensures.bound)) c.in-Ok.ensures.position
    ∙ ap (λ (t : Timing). has_pair (c.args.moment, c.args.id) t.pairs) c.self.view_is

pub returns-in-Ok-clause-pairs : goal.returns-in-Ok-clause-pairs
returns-in-Ok-clause-pairs c =
    taken c
    ∙ removed_found (c.args.moment, c.args.id) c.self.inside.pairs.items c.in-Ok.place (omega (arith, c.self.inside.pairs.ok.0, c.in-Ok.ensures.bound)) c.in-Ok.ensures.position c.self.invariant
    ∙ ap (λ (t : Timing). without_pair (c.args.moment, c.args.id) t.pairs) c.self.view_is

pub returns-in-Err-clause-had : goal.returns-in-Err-clause-had
returns-in-Err-clause-had c =
    had_none (c.args.moment, c.args.id) c.self.inside.pairs.items c.in-Err.field-0 c.self.invariant c.in-Err.ensures.position
    ∙ ap (λ (t : Timing). has_pair (c.args.moment, c.args.id) t.pairs) c.self.view_is

pub returns-in-Err-clause-pairs : goal.returns-in-Err-clause-pairs
returns-in-Err-clause-pairs c =
    ap (λ (t : Timing). t.pairs) (sym c.self.view_is)
    ∙ without_none (c.args.moment, c.args.id) c.self.inside.pairs.items c.in-Err.field-0 c.self.invariant c.in-Err.ensures.position
    ∙ ap (λ (t : Timing). without_pair (c.args.moment, c.args.id) t.pairs) c.self.view_is
