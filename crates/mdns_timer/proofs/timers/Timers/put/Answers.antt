use Rattle.std.proofs.Common.{◌≤◌, ap, ◌∙◌, sym, subst, arith, length}
use Rattle.mdns_timer.specs.Strict.{IsStrict}
use Rattle.mdns_timer.specs.Timing.{Timing, pair_cmp, with_pair}
use Rattle.mdns_timer.proofs.Pairs.{put_between, strict_between, stays_once}
use Rattle.mdns_timer.proofs.timers.Timers.put.Goals as goal

within : (c : goal.In_ok-insert-in-Err) → c.in-Err.place ≤ length c.self.inside.pairs.items
within c = omega (arith, c.self.inside.pairs.ok.0, c.in-Err.ensures.bound)

pub invariant_of-self-in-Err : goal.invariant_of-self-in-Err
invariant_of-self-in-Err c =
    subst (IsStrict pair_cmp) (sym c.in_ok-insert-in-Err.ensures.items)
    (strict_between (c.args.moment, c.args.id) c.self.inside.pairs.items c.in-Err.place c.self.invariant c.in-Err.ensures.position (within c))

pub returns-in_ok-insert-in-Err-clause-ok : goal.returns-in_ok-insert-in-Err-clause-ok
returns-in_ok-insert-in-Err-clause-ok c =
    c.in_ok-insert-in-Err.ensures.items
    ∙ put_between (c.args.moment, c.args.id) c.self.inside.pairs.items c.in-Err.place c.self.invariant c.in-Err.ensures.position (within c)
    ∙ ap (λ (t : Timing). with_pair (c.args.moment, c.args.id) t.pairs) c.self.view_is

pub returns-in-Ok-clause-ok : goal.returns-in-Ok-clause-ok
returns-in-Ok-clause-ok c =
    ap (λ (t : Timing). t.pairs) (sym c.self.view_is)
    ∙ stays_once (c.args.moment, c.args.id) c.self.inside.pairs.items c.in-Ok.field-0 (omega (arith, c.self.inside.pairs.ok.0, c.in-Ok.ensures.bound)) c.in-Ok.ensures.position
    ∙ ap (λ (t : Timing). with_pair (c.args.moment, c.args.id) t.pairs) c.self.view_is
