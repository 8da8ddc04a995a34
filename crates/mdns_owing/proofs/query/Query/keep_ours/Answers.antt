use Rattle.std.proofs.Common.{◌≡◌, ◌∙◌, rules, ap, List}
use Rattle.std.specs.Prelude.{filter}
use Rattle.std.proofs.lemmas.Fn.{filter_same}
use Rattle.std.proofs.lemmas.List.Elements.{All-filter, All-same}
use Rattle.mdns_claims.specs.Owned.{is_ours}
use Rattle.mdns_history.specs.Debts.{Owed}
use Rattle.mdns_debts.specs.Queries.{Query}
use Rattle.mdns_debts.specs.Following.{left_by}
use Rattle.mdns_owing.specs.Marks.{HasMark}
use Rattle.mdns_owing.proofs.query.Query.keep_ours.Goals as goal

pub returns-clause-left : goal.returns-clause-left
returns-clause-left c =
    let stays : c.retain.new.self.items ≡ filter (λ (owed : Owed). is_ours c.args.claims.now.contents.kept owed.0) c.self.inside.owed.items =
    filter_same _ (λ (owed : Owed). is_ours c.args.claims.now.contents.kept owed.0) _ (λ x b f k. search rules) _ _ c.retain.ensures.filtered in
    let query : List Owed → Query = λ owed. record {
      from = c.self.inside.terms.from;
      id = c.self.inside.id;
      questions = c.self.inside.questions;
      truncated = c.self.inside.terms.truncated;
      probing = c.self.inside.terms.probing;
      due = c.self.inside.terms.due;
      owed = owed;
    } in
    ap query stays ∙ ap (left_by (λ query owed. is_ours c.args.claims.now.contents.kept owed.0)) c.self.view_is

pub invariant_of-self : goal.invariant_of-self
invariant_of-self c =
    let stays : c.retain.new.self.items ≡ filter (λ (owed : Owed). is_ours c.args.claims.now.contents.kept owed.0) c.self.inside.owed.items =
    filter_same _ (λ (owed : Owed). is_ours c.args.claims.now.contents.kept owed.0) _ (λ x b f k. search rules) _ _ c.retain.ensures.filtered in
    let has : Owed → Type 0 = λ owed. HasMark c.self.inside.marks.bits owed.0 in
    All-same has c.retain.new.self.items (filter (λ (owed : Owed). is_ours c.args.claims.now.contents.kept owed.0) c.self.inside.owed.items) stays (All-filter (λ (owed : Owed). is_ours c.args.claims.now.contents.kept owed.0) has c.self.inside.owed.items c.self.invariant)
