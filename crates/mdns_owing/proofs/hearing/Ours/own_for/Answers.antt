use Rattle.std.proofs.Common.{◌∙◌, ap, filter, rules}
use Rattle.std.proofs.lemmas.Fn.{filter_same}
use Rattle.mdns_asked.specs.Asked.{key_of}
use Rattle.mdns_claims.specs.Owned.{own_in}
use Rattle.mdns_owing.proofs.Matching.{asks_for, of_name_asked}
use Rattle.mdns_owing.proofs.hearing.Ours.own_for.Goals as goal

pub returns : goal.returns
returns c =
    c.from_vec.ensures
    ∙ filter_same _ (asks_for c.args.question.now.kind) _ (λ x b f k. search rules) _ _ c.retain.ensures.filtered
    ∙ ap (filter (asks_for c.args.question.now.kind)) (c.into_vec-own.ensures.items ∙ c.in_ok-own_of.ensures)
    ∙ of_name_asked (key_of c.args.question.now) (own_in c.args.self.now.claims.now.contents.kept)
