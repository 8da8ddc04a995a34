use Rattle.std.proofs.Common.{◌≡◌, ◌∙◌, true, length, eqb-true, sym}
use Rattle.std.proofs.lemmas.List.{nil_from_length}
use Rattle.mdns_happened.specs.Told.{told_by}
use Rattle.mdns_owing.proofs.Due.{ticked_unheard}
use Rattle.mdns_owing.proofs.news.News.meets_due_alone.Goals as goal

pub returns-then-is_tick : goal.returns-then-is_tick
returns-then-is_tick c = λ empty.
    let ticks : (told_by c.args.self.now.happened.now).ticks ≡ true = sym c.is_tick.ensures ∙ c.if-is_tick.true in
    record {
      tick = ticks;
      heard = ticked_unheard c.args.self.now.happened.now ticks;
      multicast = sym c.as_rrs.ensures ∙ sym c.as_slice.ensures ∙ nil_from_length c.as_slice.result.now (eqb-true (length c.as_slice.result.now) 0 (sym c.is_empty.ensures ∙ empty));
    }
