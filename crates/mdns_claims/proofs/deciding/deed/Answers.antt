use Rattle.std.proofs.Common.{◌∙◌, refl, sym, inl, inr}
use Rattle.mdns_renewals.specs.Seen.{occasion_in}
use Rattle.mdns_claims.proofs.Deeds.{ticks_done, changes_done, ends_done, begins_done}
use Rattle.mdns_claims.proofs.deciding.deed.Goals as goal

pub returns-then-is_tick-clause-done : goal.returns-then-is_tick-clause-done
returns-then-is_tick-clause-done c =
    ticks_done (occasion_in c.args.seen.now) c.args.seen.now.happened.now refl c.args.groups.now c.requires.marks c.args.registered (sym c.is_tick.ensures ∙ c.if-is_tick.true)

pub returns-then-ends_some-clause-done : goal.returns-then-ends_some-clause-done
returns-then-ends_some-clause-done c =
    ends_done (occasion_in c.args.seen.now) c.args.seen.now.happened.now refl c.args.groups.now c.requires.marks c.args.registered (sym c.is_tick.ensures ∙ c.if-is_tick.false)
    (sym c.is_empty.ensures ∙ c.if-is_empty.true) (sym c.is_update.ensures ∙ c.if-is_update.false) (sym c.ends_some.ensures ∙ c.if-ends_some.true)

pub returns-then-is_update-clause-done : goal.returns-then-is_update-clause-done
returns-then-is_update-clause-done c =
    changes_done (occasion_in c.args.seen.now) c.args.seen.now.happened.now refl c.args.groups.now c.requires.marks c.args.registered (sym c.is_tick.ensures ∙ c.if-is_tick.false)
    (inr (sym c.is_update.ensures ∙ c.if-is_update.true)) c.in_ok-update.update c.in_ok-update.ensures.kept (c.in_ok-update.ensures.counted c.args.registered)

pub returns-then-is_update-clause-fits : goal.returns-then-is_update-clause-fits
returns-then-is_update-clause-fits c = c.in_ok-update.ensures.fits c.args.registered

pub returns-then-is_empty-clause-done : goal.returns-then-is_empty-clause-done
returns-then-is_empty-clause-done c =
    begins_done (occasion_in c.args.seen.now) c.args.seen.now.happened.now refl c.args.groups.now c.requires.marks c.args.registered (sym c.is_tick.ensures ∙ c.if-is_tick.false)
    (sym c.is_empty.ensures ∙ c.if-is_empty.true) (sym c.is_update.ensures ∙ c.if-is_update.false) (sym c.ends_some.ensures ∙ c.if-ends_some.false)
    c.in_ok-begun.begun c.in_ok-begun.ensures.value c.in_ok-begins.begins c.in_ok-begins.ensures

pub returns-clause-done : goal.returns-clause-done
returns-clause-done c =
    changes_done (occasion_in c.args.seen.now) c.args.seen.now.happened.now refl c.args.groups.now c.requires.marks c.args.registered (sym c.is_tick.ensures ∙ c.if-is_tick.false)
    (inl (sym c.is_empty.ensures ∙ c.if-is_empty.false)) c.in_ok-disturbed.disturbed c.in_ok-disturbed.ensures.kept (c.in_ok-disturbed.ensures.counted c.args.registered)

pub returns-clause-fits : goal.returns-clause-fits
returns-clause-fits c = c.in_ok-disturbed.ensures.fits c.args.registered
