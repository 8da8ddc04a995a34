use Rattle.std.proofs.Common.{◌≡◌, List, ap, subst}
use Rattle.mdns_reply.specs.Lasts.{Last, State, last_of, IsLeft}
use Rattle.mdns_reply.proofs.Taking.{left_of}
use Rattle.mdns_reply.proofs.lasts.Lasts.forget_in_time.Goals as goal

pub returns-then-has_grown : goal.returns-then-has_grown
returns-then-has_grown c = λ rr.
    let before : c.self.inside.moments.entries ≡ c.args.self.now.lasts = ap (λ (s : State). s.lasts) c.self.view_is in
    subst (λ (es : List Last). IsLeft c.args.now (last_of rr es) (last_of rr c.forget_old.new.moments.entries)) before
    (left_of c.args.now c.self.inside.moments.entries c.forget_old.new.moments.entries c.len-len.ensures.unique c.forget_old.ensures rr)
