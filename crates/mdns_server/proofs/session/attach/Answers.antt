use Rattle.mdns_server.proofs.Opened.{has_opened}
use Rattle.mdns_server.proofs.session.attach.Goals as goal

pub returns-clause-session : goal.returns-clause-session
returns-clause-session g c = has_opened _ _ c.take_turn-done.result _ c.take_turn-done.ensures.mine c.opened.ensures
