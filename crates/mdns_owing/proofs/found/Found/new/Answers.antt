use Rattle.std.proofs.Common.{◌∙◌, [], subst, List}
use Rattle.dns_record.specs.declared.record.Question.{Question}
use Rattle.mdns_asked.specs.Asked.{AreOf}
use Rattle.mdns_asked.proofs.Asking.{all_more}
use Rattle.mdns_claims.specs.Owned.{own_in, nsecs_in}
use Rattle.mdns_owing.proofs.found.Found.new.Goals as goal

pub returns-clause-own : goal.returns-clause-own
returns-clause-own c = all_more c.args.questions.now [] (own_in c.args.claims.now.contents.kept) c.in_ok-own.own c.put_asked.new.asked c.in_ok-put_asked.ensures c.in_ok-own.ensures

pub returns-clause-nsecs : goal.returns-clause-nsecs
returns-clause-nsecs c =
    subst (λ (questions : List Question). AreOf questions (nsecs_in c.args.claims.now.contents.kept) c.put_asked_nsecs.new.asked) (c.as_slice.ensures ∙ c.in_ok-names.ensures)
    (all_more c.as_slice.result.now [] (nsecs_in c.args.claims.now.contents.kept) c.in_ok-nsecs.nsecs c.put_asked_nsecs.new.asked c.in_ok-put_asked_nsecs.ensures c.in_ok-nsecs.ensures)
