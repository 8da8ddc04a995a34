use Rattle.std.proofs.Common.{◌≡◌, ◌∙◌, rules, ap, List}
use Rattle.std.specs.Prelude.{filter}
use Rattle.std.proofs.lemmas.Fn.{filter_same}
use Rattle.std.proofs.lemmas.List.Elements.{All-filter, All-same}
use Rattle.mdns_history.specs.Debts.{Owed}
use Rattle.mdns_debts.specs.Queries.{Query}
use Rattle.mdns_debts.specs.Following.{leaves, left_by}
use Rattle.mdns_owing.specs.Owing.{news_in, query_of_terms}
use Rattle.mdns_owing.specs.Marks.{HasMark}
use Rattle.mdns_owing.proofs.query.Query.follow.Goals as goal

pub returns-clause-left : goal.returns-clause-left
returns-clause-left c =
    let stays : c.retain.new.self.items ≡ filter (leaves (news_in c.args.news.now) (query_of_terms c.self.inside.terms)) c.self.inside.owed.items =
    filter_same _ (leaves (news_in c.args.news.now) (query_of_terms c.self.inside.terms)) _ (λ x b f k. search rules) _ _ c.retain.ensures.filtered in
    let query : List Owed → Query = λ owed. record {
      from = c.self.inside.terms.from;
      id = c.self.inside.id;
      questions = c.self.inside.questions;
      truncated = c.self.inside.terms.truncated;
      probing = c.self.inside.terms.probing;
      due = c.self.inside.terms.due;
      owed = owed;
    } in
    ap query stays ∙ ap (left_by (leaves (news_in c.args.news.now))) c.self.view_is

pub invariant_of-self : goal.invariant_of-self
invariant_of-self c =
    let stays : c.retain.new.self.items ≡ filter (leaves (news_in c.args.news.now) (query_of_terms c.self.inside.terms)) c.self.inside.owed.items =
    filter_same _ (leaves (news_in c.args.news.now) (query_of_terms c.self.inside.terms)) _ (λ x b f k. search rules) _ _ c.retain.ensures.filtered in
    let has : Owed → Type 0 = λ owed. HasMark c.self.inside.marks.bits owed.0 in
    All-same has c.retain.new.self.items (filter (leaves (news_in c.args.news.now) (query_of_terms c.self.inside.terms)) c.self.inside.owed.items) stays (All-filter (leaves (news_in c.args.news.now) (query_of_terms c.self.inside.terms)) has c.self.inside.owed.items c.self.invariant)
