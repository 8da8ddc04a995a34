use Rattle.std.proofs.Common.{◌≡◌, true, List, subst}
use Rattle.std.proofs.lemmas.List.{take_all}
use Rattle.dns_record.specs.declared.record.Key.{Key}
use Rattle.mdns_cache.specs.Ended.{is_among}
use Rattle.sd_sessions.specs.Put.{is_name_in, ArePutOnly}
use Rattle.sd_sessions.proofs.Named.{each-next}
use Rattle.sd_sessions.proofs.PutOnly.{only-next}
use Rattle.sd_sessions.proofs.names.put_names_of.Goals as goal

pub loop-question-preserved : goal.loop-question-preserved
loop-question-preserved c =
    let before : Key → Type 0 = λ key. is_among c.loop-question.names.items key.name ≡ true in
    let now : Key → Type 0 = λ key. is_among c.put_once.new.names.items key.name ≡ true in
    record {
      kept = λ name h. c.in_ok-put_once.ensures.kept name (c.loop-question.invariant.kept name h);
      only = only-next (λ (key : Key). key.name) c.args.questions.now c.loop-question.question-index c.question-item.result c.loop-question-test.true c.question-item.is
          c.args.names.now.items c.loop-question.names.items c.put_once.new.names.items c.loop-question.invariant.only c.in_ok-put_once.ensures.only;
      once = λ e. c.in_ok-put_once.ensures.once (c.loop-question.invariant.once e);
      asked = each-next before now (λ key k. c.in_ok-put_once.ensures.kept key.name k) c.args.questions.now c.loop-question.question-index c.question-item.result
          c.loop-question-test.true c.question-item.is c.loop-question.invariant.asked c.in_ok-put_once.ensures.put;
    }

pub returns-clause-only : goal.returns-clause-only
returns-clause-only c =
    subst (λ (l : List Key). ArePutOnly (is_name_in l) c.args.names.now.items c.loop-question.names.items) (take_all c.loop-question.question-index c.args.questions.now c.loop-question-test.false)
    c.loop-question.invariant.only
