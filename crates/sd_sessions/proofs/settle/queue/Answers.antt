use Rattle.std.proofs.Common.{◌≡◌, ◌∙◌, List, [], ◌∷◌, reverse, ap, sym, subst, arith}
use Rattle.std.proofs.lemmas.List.{reverse-append, reverse-reverse}
use Rattle.sd_call.specs.declared.item.Item.{Item}
use Rattle.sd_sessions.specs.Kept.{joined}
use Rattle.sd_sessions.proofs.Queued.{Within, within-joined, queue-next}
use Rattle.sd_sessions.proofs.settle.queue.Goals as goal

pub loop-item-preserved : goal.loop-item-preserved
loop-item-preserved c =
    let rest : List Item = reverse c.pop.new.self.items in
    let next : reverse c.loop-item.rest.items ≡ c.in-Some.item ∷ rest =
    ap (λ (xs : List Item). reverse xs) c.in-Some.ensures.items ∙ reverse-append c.pop.new.self.items (c.in-Some.item ∷ []) in
    let whole : joined c.loop-item.outbox.items (c.in-Some.item ∷ rest) ≡ joined c.args.outbox.now.items (reverse c.reverse.new.self.items) =
    ap (joined c.loop-item.outbox.items) (sym next) ∙ c.loop-item.invariant.joined in
    let all : reverse c.reverse.new.self.items ≡ c.args.items =
    ap (λ (xs : List Item). reverse xs) c.reverse.ensures.items ∙ reverse-reverse c.into_vec-rest.result.items ∙ c.into_vec-rest.ensures.items in
    let within : Within (joined c.loop-item.outbox.items (c.in-Some.item ∷ rest)) =
    subst Within (sym (whole ∙ ap (joined c.args.outbox.now.items) all)) (within-joined c.args.outbox.now.items c.args.items c.requires.fits) in
    record {
      joined = queue-next c.append.result c.loop-item.outbox.items c.append.new.self.items c.in-Some.item rest
          c.append.ensures.ok c.append.ensures.cut c.append.ensures.emptied (c.append.ensures.reserved (omega (arith, c.in-Some.ensures.cases))) within ∙ whole;
      room = omega (arith, c.in-Some.ensures.cases, c.append.ensures.spare);
    }
