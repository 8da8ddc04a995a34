use Rattle.std.proofs.Common.{◌≡◌, ◌+◌, Bool, false, List, take, ap, sym, ◌∙◌, ◌++◌, ◌∷◌, [], arith}
use Rattle.std.proofs.lemmas.List.{take_more}
use Rattle.dns_record.specs.declared.record.Rr.{Rr}
use Rattle.dns_message.specs.declared.message.Message.{Message}
use Rattle.dns_message.specs.Drafting.{with_answer}
use Rattle.dns_message.specs.Packing.{fits, legacy_reply}
use Rattle.mdns_pack.proofs.Chains.{parts_cut}
use Rattle.mdns_pack.proofs.OldWay.{more_parts}
use Rattle.mdns_pack.proofs.legacy.put_fitting.Goals as goal

pub returns-then-not-branch-clause-more : goal.returns-then-not-branch-clause-more
returns-then-not-branch-clause-more c =
    let F : List Rr → Bool = λ rrs. fits (legacy_reply 0 c.args.draft.now.questions rrs false) in
    let rr : Rr = c.index-answers-len.result in
    let len = c.loop-len.len in
    let e : F (take (len + 1) c.args.answers.now) ≡ false =
    ap F (take_more c.args.answers.now len rr c.loop-len-test.true ∙ ap (λ (x : Rr). take len c.args.answers.now ++ x ∷ []) (sym c.index-answers-len.is))
    ∙ sym (ap (λ (d : Message). fits (with_answer d rr)) c.loop-len.invariant.put)
    ∙ sym c.in_ok-answer.ensures.fits ∙ c.if-not-branch.true in
    more_parts F c.args.answers.now len (omega arith) (c.loop-len.invariant.parts ∙ parts_cut F c.args.answers.now len c.loop-len-test.true e)
