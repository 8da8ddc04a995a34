use Rattle.std.proofs.Common.{◌≡◌, ◌∙◌, ◌≤◌, [], sym, ap, subst, eqb-true, vec_len, arith}
use Rattle.mdns_history.specs.History.{now}
use Rattle.mdns_reply.specs.Lasts.{State, Stands}
use Rattle.mdns_reply.proofs.Standing.{stand_after, stand_later}
use Rattle.mdns_reply.proofs.Steps.{none_left}
use Rattle.mdns_reply.proofs.lasts.Lasts.apply.Goals as goal

pub returns-then-is_empty : goal.returns-then-is_empty
returns-then-is_empty c =
    record {
      stands = λ entry past at later is stands.
          let empty : c.into_vec-sent.result.items ≡ [] = none_left c.into_vec-sent.result.items (let len : vec_len c.into_vec-sent.result ≡ 0 = eqb-true (vec_len c.into_vec-sent.result) 0 (sym c.is_empty.ensures ∙ c.if-is_empty.true) in omega arith) in
          stand_later c.args.self.now.lasts entry past (is ∙ sym c.into_vec-sent.ensures.items ∙ empty) (subst (λ m. now past ≤ m) (sym at) later) stands;
    }

pub returns : goal.returns
returns c =
    record {
      stands = λ entry past at later is stands.
          let before : c.self.inside.moments.entries ≡ c.args.self.now.lasts = ap (λ (s : State). s.lasts) c.self.view_is in
          stand_after c.args.now c.into_vec-sent.result.items c.self.inside.moments.entries c.note_all.new.moments.entries c.forget_in_time.new.self.lasts
          c.note_all.ensures.lasts c.forget_in_time.ensures entry past at later (is ∙ sym c.into_vec-sent.ensures.items) (subst (λ es. Stands es past) (sym before) stands);
    }
