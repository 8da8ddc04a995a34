use Rattle.sd_command.proofs.Talking.{says_request}
use Rattle.sd_command.proofs.top.talk.Goals as goal

pub returns-in-Ok-clause-said : goal.returns-in-Ok-clause-said
returns-in-Ok-clause-said g c =
    says_request c.listen.result c.args.client.now c.start.new.self c.listen.new.client c.in-Ok.field-0 _ c.args.command.now.request c.requires.first c.in-Ok.ensures.sends c.listen.ensures.kept.0
