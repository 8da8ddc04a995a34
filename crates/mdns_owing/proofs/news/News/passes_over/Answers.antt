use Rattle.std.proofs.Common.{◌≡◌, ◌<◌, ◌∙◌, true, sym}
use Rattle.std.proofs.lemmas.Bool.{lt-leb, ltb-true}
use Rattle.mdns_happened.specs.Told.{told_by}
use Rattle.mdns_owing.specs.Owing.{news_in, query_of_terms}
use Rattle.mdns_owing.proofs.Due.{ticked_unheard, leaves_unmet}
use Rattle.mdns_owing.proofs.news.News.passes_over.Goals as goal
use Rattle.mdns_owing.proofs.news.News.passes_over.Goals.{then-is_tick, else-is_tick}

pub returns-then-self-query : goal.returns-then-self-query
returns-then-self-query c = λ apart owed has. elim c.if-is_tick.branch [
  | then-is_tick w ↦ (
      let now = c.args.self.now.when.moment in
      let due = c.args.query.now.due in
      let ticks : (told_by c.args.self.now.happened.now).ticks ≡ true = sym c.is_tick.ensures ∙ w.if-is_tick.true in
      let later : now < due = ltb-true now due (sym w.value-is ∙ c.if-self-query.true) in
      leaves_unmet (news_in c.args.self.now) (query_of_terms c.args.query.now) owed (ticked_unheard c.args.self.now.happened.now ticks) (lt-leb due now later) (c.are_apart.ensures apart owed.0 has)
      )
  | else-is_tick w ↦ absurd (cc (w.value-is, c.if-self-query.true))
]
