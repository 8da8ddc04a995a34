use Rattle.std.proofs.Common.{◌≡◌, ◌∙◌, ◌++◌, List, map, ap}
use Rattle.dns_record.specs.declared.record.Rr.{Rr}
use Rattle.dns_message.specs.declared.message.Message.{Message}
use Rattle.dns_message.specs.Packing.{pack_reply}
use Rattle.mdns_history.specs.Sending.{to_all}
use Rattle.mdns_claims.specs.Later.{groups_behind}
use Rattle.mdns_claims.specs.Owned.{own_in}
use Rattle.mdns_responding.specs.Told.{answers_told, wanted_told}
use Rattle.mdns_responding.proofs.Wanted.{answers_of, wanted_of}
use Rattle.mdns_responding.proofs.responder.Responder.put_multicasts.Goals as goal

pub returns : goal.returns
returns c =
    let told : List Rr = answers_told c.args.self.now.lasts.now.lasts c.args.self.now.owing.now.queries c.args.self.now.behind.now.means.moment c.args.self.now.behind.now.groups.now in
    let wants : Rr → List Rr = λ rr. wanted_told c.args.self.now.lasts.now.lasts c.args.self.now.behind.now.means.moment (own_in (groups_behind c.args.self.now.behind.now)) rr in
    let wanting : c.deref.result.now ≡ map (λ rr. (rr, wants rr)) told = c.deref.ensures.value ∙ c.in_ok-wanting.ensures ∙ ap (map (λ rr. (rr, wants rr))) c.in_ok-answers.ensures in
    c.in_ok-send_to_all.ensures
    ∙ ap (λ (messages : List Message). c.args.sent.now ++ map to_all messages)
    (c.in_ok-pack_reply.ensures
    ∙ (λ i. pack_reply (map (λ w. w.0) (wanting i)) (map (λ w. w.1) (wanting i)))
    ∙ (λ i. pack_reply (answers_of wants told i) (wanted_of wants told i)))
