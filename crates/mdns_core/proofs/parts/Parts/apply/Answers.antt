use Rattle.std.proofs.Common.{◌∙◌, ◌≤◌, ℕ, rules, refl, sym, subst}
use Rattle.mdns_history.specs.History.{now}
use Rattle.mdns_claims.proofs.Typed.{own_data}
use Rattle.mdns_records.specs.After.{held_after}
use Rattle.mdns_core.specs.Kept.{state_of}
use Rattle.mdns_core.proofs.Plans.{applied, claimed}
use Rattle.mdns_core.proofs.parts.Parts.apply.Goals as goal

pub returns-clause-made : goal.returns-clause-made
returns-clause-made g c = λ last event is.
    let before = state_of last c.args.self.now in
    let later = held_after c.args.when.moment c.args.when.word c.args.plan.heard c.args.self.now.records.held in
    record {
      marks = refl;
      sent = refl;
      given = refl;
      went = c.apply-outcome.ensures.outcome;
      counted = c.apply-outcome.ensures.opened;
      remain = c.apply-outcome.ensures.sessions;
      moved = c.apply.ensures.held;
      follow = applied before later c.args.when.moment c.args.when.word event c.args.plan is
          c.deref.result.now c.args.self.now.asking.questions c.apply-3.new.self.questions c.deref.ensures.value refl c.requires.timed c.apply-3.ensures;
      claimed = claimed before later c.args.when.moment c.args.when.word event c.args.plan is
          c.args.self.now.claims.contents c.apply-2.new.self.contents refl c.apply-2.ensures.contents;
      owned = own_data c.apply-2.new.self.contents.kept c.apply-2.ensures.data;
      owing = search rules;
      lasting = λ entry past at since sends stands. c.apply-4.ensures.stands entry past (at ∙ sym c.at.ensures) (subst (λ (m : ℕ). now past ≤ m) (sym c.at.ensures) since) (search rules) stands;
    }
