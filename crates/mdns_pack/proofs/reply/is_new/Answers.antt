use Rattle.std.proofs.Common.{◌∙◌, ap, ap₂, sym, Bool, not, ◌&&◌}
use Rattle.std.specs.List.{list_any}
use Rattle.dns_record.specs.Records.{same}
use Rattle.dns_message.specs.declared.message.Message.{Message}
use Rattle.mdns_pack.proofs.Replies.{kept_anew}
use Rattle.mdns_pack.proofs.reply.is_new.Goals as goal

pub returns-then-not-has : goal.returns-then-not-has
returns-then-not-has c =
    ap (λ (a : Bool). not a && not c.is_added.result) (sym c.if-not-has.true)
    ∙ ap₂ (λ (a b : Bool). not a && not b) c.has.ensures c.is_added.ensures
    ∙ kept_anew (same c.args.rr.now) c.args.answers.now c.args.earlier.now

pub returns-else-not-has : goal.returns-else-not-has
returns-else-not-has c =
    let added : Bool = list_any (λ (message : Message). list_any (same c.args.rr.now) message.additional) c.args.earlier.now in
    ap not c.if-not-has.false
    ∙ ap (λ (a : Bool). not a && not added) (sym c.if-not-has.false ∙ c.has.ensures)
    ∙ kept_anew (same c.args.rr.now) c.args.answers.now c.args.earlier.now
