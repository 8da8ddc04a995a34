use Rattle.std.proofs.Common.{◌≡◌, ◌∙◌, ◌++◌, ◌∷◌, [], ap}
use Rattle.mdns_claimants.specs.Owned.{is_among}
use Rattle.mdns_claimants.proofs.Naming.{among_pushed}
use Rattle.mdns_claimants.proofs.names.put_once.Goals as goal

pub returns-in_ok-push-clause-put : goal.returns-in_ok-push-clause-put
returns-in_ok-push-clause-put c =
    let items : c.push.new.self.items ≡ c.args.names.now.items ++ c.args.name.now ∷ [] = c.in_ok-push.ensures.items ∙ ap (λ n. c.args.names.now.items ++ n ∷ []) c.copy.ensures in
    ap (λ ns. is_among ns c.args.name.now) items ∙ among_pushed c.args.names.now.items c.args.name.now
