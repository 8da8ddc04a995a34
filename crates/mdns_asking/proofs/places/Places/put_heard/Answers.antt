use Rattle.std.proofs.Common.{◌+◌, ◌&&◌, nat_le, sym, subst, List, ◌∙◌}
use Rattle.std.specs.List.{list_any}
use Rattle.dns_record.specs.declared.record.Question.{Question}
use Rattle.mdns_history.specs.Asking.{asks_openly}
use Rattle.mdns_asking.specs.Places.{ArePut}
use Rattle.mdns_asking.proofs.PutPlaces.{all_heard, none_heard}
use Rattle.mdns_asking.proofs.places.Places.put_heard.Goals as goal

pub returns-in_ok-put_all_asked : goal.returns-in_ok-put_all_asked
returns-in_ok-put_all_asked c =
    all_heard c.args.when.moment (record { from = c.args.heard.now.from.now; message = c.args.heard.now.message }) c.args.asker.now.questions c.args.self.now.places.items c.put_all_asked.new.self.places.items
    (sym c.may_be_ours.ensures ∙ c.if-may_be_ours.true)
    (subst (λ (all : List Question). ArePut (λ one. list_any (λ asked. asks_openly one.key asked && nat_le one.next (c.args.when.moment + 1000)) all) c.args.asker.now.questions c.args.self.now.places.items c.put_all_asked.new.self.places.items)
    c.as_slice-all_asked.ensures c.in_ok-put_all_asked.ensures)

pub returns-else-may_be_ours : goal.returns-else-may_be_ours
returns-else-may_be_ours c =
    none_heard c.args.when.moment (record { from = c.args.heard.now.from.now; message = c.args.heard.now.message }) c.args.asker.now.questions c.args.self.now.places.items
    (sym c.may_be_ours.ensures ∙ c.if-may_be_ours.false)
