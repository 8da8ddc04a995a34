use Rattle.std.proofs.Common.{◌≡◌, ◌∙◌, ◌++◌, ◌∷◌, [], ap, sym}
use Rattle.mdns_cache.specs.Ended.{is_among}
use Rattle.sd_sessions.proofs.Named.{among-pushed}
use Rattle.sd_sessions.proofs.PutOnly.{only-pushed, once-pushed}
use Rattle.sd_sessions.proofs.names.put_once.Goals as goal

pub returns-in_ok-push-clause-put : goal.returns-in_ok-push-clause-put
returns-in_ok-push-clause-put c =
    let items : c.push.new.self.items ≡ c.args.names.now.items ++ c.args.name.now ∷ [] = c.in_ok-push.ensures.items ∙ ap (λ n. c.args.names.now.items ++ n ∷ []) c.copy.ensures in
    ap (λ ns. is_among ns c.args.name.now) items ∙ among-pushed c.args.names.now.items c.args.name.now

pub returns-in_ok-push-clause-only : goal.returns-in_ok-push-clause-only
returns-in_ok-push-clause-only c =
    only-pushed c.args.names.now.items c.push.new.self.items c.args.name.now (c.in_ok-push.ensures.items ∙ ap (λ n. c.args.names.now.items ++ n ∷ []) c.copy.ensures)

pub returns-in_ok-push-clause-once : goal.returns-in_ok-push-clause-once
returns-in_ok-push-clause-once c =
    once-pushed c.args.names.now.items c.push.new.self.items c.args.name.now (c.in_ok-push.ensures.items ∙ ap (λ n. c.args.names.now.items ++ n ∷ []) c.copy.ensures)
    (ap (λ ns. is_among ns c.args.name.now) (sym c.deref.ensures.value) ∙ sym c.is_among.ensures ∙ c.if-not-is_among.true)
