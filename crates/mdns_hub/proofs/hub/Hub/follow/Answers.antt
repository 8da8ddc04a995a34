use Rattle.mdns_history.specs.EntryText.{entry_text}
use Rattle.mdns_hub.proofs.Written.{on_err_from, all_is_part}
use Rattle.mdns_hub.proofs.hub.Hub.follow.Goals as goal

pub returns-in_err-send_all-clause-part : goal.returns-in_err-send_all-clause-part
returns-in_err-send_all-clause-part g c = on_err_from c.from_residual-in_err-send_all.result
    (all_is_part (g.K.Sink.held c.args.output.now) (g.K.Sink.held c.put_entry.new.output) (entry_text c.args.number c.args.entry.now) c.in_ok-put_entry.ensures.text)
