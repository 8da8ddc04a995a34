use Rattle.std.proofs.Common.{◌≡◌, ◌∙◌, ap, sym, true, List}
use Rattle.std.specs.Prelude.{filter}
use Rattle.std.proofs.lemmas.List.Elements.{All-weaker}
use Rattle.mdns_history.specs.Debts.{Owed}
use Rattle.mdns_debts.specs.Queries.{Query}
use Rattle.mdns_debts.specs.Following.{leaves, left_by}
use Rattle.mdns_owing.specs.Marks.{HasMark}
use Rattle.mdns_owing.specs.Owing.{news_in, query_of_terms}
use Rattle.mdns_owing.proofs.Due.{each_stays}
use Rattle.mdns_owing.proofs.query.Query.follow_or_pass.Goals as goal

pub returns-then-passes_over-clause-left : goal.returns-then-passes_over-clause-left
returns-then-passes_over-clause-left c =
    let stays : filter (leaves (news_in c.args.news.now) (query_of_terms c.self.inside.terms)) c.self.inside.owed.items ≡ c.self.inside.owed.items =
    each_stays (leaves (news_in c.args.news.now) (query_of_terms c.self.inside.terms)) c.self.inside.owed.items
    (All-weaker (λ (owed : Owed). HasMark c.self.inside.marks.bits owed.0) (λ (owed : Owed). leaves (news_in c.args.news.now) (query_of_terms c.self.inside.terms) owed ≡ true)
    (c.passes_over.ensures c.if-passes_over.true) c.self.inside.owed.items c.self.invariant) in
    let query : List Owed → Query = λ owed. record {
      from = c.self.inside.terms.from;
      id = c.self.inside.id;
      questions = c.self.inside.questions;
      truncated = c.self.inside.terms.truncated;
      probing = c.self.inside.terms.probing;
      due = c.self.inside.terms.due;
      owed = owed;
    } in
    sym c.self.view_is ∙ ap query (sym stays) ∙ ap (left_by (leaves (news_in c.args.news.now))) c.self.view_is
