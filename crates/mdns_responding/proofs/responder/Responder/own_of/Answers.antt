use Rattle.std.proofs.Common.{◌≡◌, ◌∙◌, ◌++◌, List, Option, ap, subst, sym}
use Rattle.std.specs.Prelude.{IfSome, filter}
use Rattle.dns_record.specs.declared.record.Question.{Question}
use Rattle.dns_record.specs.declared.record.Rr.{Rr}
use Rattle.dns_record.specs.Records.{matches}
use Rattle.mdns_asked.specs.Asked.{key_of}
use Rattle.mdns_asked.proofs.Asking.{all_of_name}
use Rattle.mdns_claims.specs.Later.{groups_behind}
use Rattle.mdns_claims.specs.Owned.{own_in}
use Rattle.mdns_responding.proofs.responder.Responder.own_of.Goals as goal

pub returns-in-Some : goal.returns-in-Some
returns-in-Some c =
    let own : List Rr = own_in (groups_behind c.args.self.now.behind.now) in
    let found : c.in-Some.found.now ≡ filter (matches (key_of c.any_for.result)) own =
    subst (λ (o : Option (List Rr)). IfSome o (λ rrs. rrs ≡ filter (matches (key_of c.any_for.result)) own)) (sym c.in-Some.ensures) (c.requires.near c.any_for.result) in
    c.from_vec.ensures ∙ c.in_ok-put_copies.ensures ∙ ap (λ (rrs : List Rr). rrs ++ c.in-Some.found.now) c.new-own.ensures.items ∙ found ∙ ap (λ (question : Question). filter (matches (key_of question)) own) c.any_for.ensures ∙ all_of_name c.args.name.now own
