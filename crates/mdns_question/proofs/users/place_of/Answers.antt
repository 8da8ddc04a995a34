use Rattle.std.proofs.Common.{rules}
use Rattle.std.proofs.lemmas.Fn.{always_returns_same}
use Rattle.dns_record.specs.Records.{key_cmp}
use Rattle.mdns_question.proofs.Arranged.{found_at, found_between}
use Rattle.mdns_question.proofs.users.place_of.Goals as goal

pub returns-clause-found : goal.returns-clause-found
returns-clause-found c =
    found_at c.args.questions.now c.args.question.now c.binary_search_by.result c.binary_search_by.ensures.bound
    (c.binary_search_by.ensures.position (λ one. key_cmp one.key c.args.question.now) (always_returns_same _ _ _ (λ a r f' k. search rules)))

pub returns-clause-apart : goal.returns-clause-apart
returns-clause-apart c =
    found_between c.args.questions.now c.args.question.now c.binary_search_by.result c.requires c.binary_search_by.ensures.bound
    (c.binary_search_by.ensures.position (λ one. key_cmp one.key c.args.question.now) (always_returns_same _ _ _ (λ a r f' k. search rules)))
