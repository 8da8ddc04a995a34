use Rattle.std.proofs.Common.{◌∙◌, sym, ap}
use Rattle.std.specs.Option.{option_to_list}
use Rattle.mdns_claims.specs.Later.{begun_by, shown_by}
use Rattle.mdns_claimants.specs.Owned.{registered_answers}
use Rattle.mdns_claims.specs.Seen.{means_in}
use Rattle.mdns_claims.proofs.Ahead.{answer_here, answers_end, answers_gone, answers_skipped}
use Rattle.mdns_claims.proofs.Made.{later_all}
use Rattle.mdns_claims.proofs.behind.Behind.later_answer.Goals as goal
use Rattle.mdns_claims.proofs.behind.Behind.later_answer.Goals.{then-is_of+in_default, else-is_of}

pub returns-in-Some : goal.returns-in-Some
returns-in-Some c =
    c.answer.ensures
    ∙ answer_here (means_in c.args.self.now.means) c.args.self.now.deed.now c.args.self.now.groups.now c.loop-place.place c.index-groups-place.result c.loop-place-test.true c.index-groups-place.is
    c.args.session c.args.op (option_to_list (begun_by c.args.self.now.deed.now)) (shown_by c.in-Some.later) (sym c.is_of.ensures ∙ c.if-is_of.true) c.in-Some.ensures
    ∙ c.loop-place.invariant
    ∙ ap (registered_answers c.args.session c.args.op) (sym (later_all (means_in c.args.self.now.means) c.args.self.now.deed.now c.args.self.now.groups.now))

pub returns : goal.returns
returns c =
    c.begun_answer.ensures
    ∙ sym (answers_end (means_in c.args.self.now.means) c.args.self.now.deed.now c.args.self.now.groups.now c.args.session c.args.op c.loop-place.place (option_to_list (begun_by c.args.self.now.deed.now)) c.loop-place-test.false)
    ∙ c.loop-place.invariant
    ∙ ap (registered_answers c.args.session c.args.op) (sym (later_all (means_in c.args.self.now.means) c.args.self.now.deed.now c.args.self.now.groups.now))

pub loop-place-preserved : goal.loop-place-preserved
loop-place-preserved c =
    elim c.if-is_of.branch [
      | then-is_of+in_default w ↦
          answers_gone (means_in c.args.self.now.means) c.args.self.now.deed.now c.args.self.now.groups.now c.loop-place.place c.index-groups-place.result c.loop-place-test.true c.index-groups-place.is
          c.args.session c.args.op (option_to_list (begun_by c.args.self.now.deed.now)) w.in_default.ensures
          ∙ c.loop-place.invariant
      | else-is_of w ↦
          answers_skipped (means_in c.args.self.now.means) c.args.self.now.deed.now c.args.self.now.groups.now c.loop-place.place c.index-groups-place.result c.loop-place-test.true c.index-groups-place.is
          c.args.session c.args.op (option_to_list (begun_by c.args.self.now.deed.now)) (sym c.is_of.ensures ∙ w.if-is_of.false)
          ∙ c.loop-place.invariant
    ]
