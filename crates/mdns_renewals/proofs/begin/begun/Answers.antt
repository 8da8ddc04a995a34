use Rattle.std.proofs.Common.{◌≡◌, ◌∙◌, ap, sym, subst, refl, Option, Some}
use Rattle.std.specs.Option.{option_map}
use Rattle.mdns_history.specs.Sessions.{Accepted}
use Rattle.mdns_happened.specs.Told.{told_by}
use Rattle.mdns_renewals.specs.Occasions.{begun_kept}
use Rattle.mdns_renewals.specs.Wishes.{IsAcceptable}
use Rattle.mdns_renewals.specs.Seen.{occasion_in}
use Rattle.mdns_renewals.specs.Wishes.{asked_by}
use Rattle.mdns_renewals.proofs.Wished.{registers_some, registers_none}
use Rattle.mdns_renewals.proofs.begin.begun.Goals as goal

pub granted-requires : goal.granted-requires
granted-requires c =
    let asked : ◌≡◌ {A = Option Accepted} (told_by c.args.seen.now.happened.now).call (Some (asked_by c.in-Some.wish)) =
    registers_some (told_by c.args.seen.now.happened.now).call (asked_by c.in-Some.wish) (sym (ap (option_map asked_by) c.in-Some.is) ∙ c.wished.ensures) in
    record { room = (subst (IsAcceptable c.args.registered) asked c.requires).1 refl }

pub returns-in-None-clause-value : goal.returns-in-None-clause-value
returns-in-None-clause-value c =
    sym (ap (option_map (begun_kept c.args.registered c.args.groups.now (occasion_in c.args.seen.now)))
    (registers_none (told_by c.args.seen.now.happened.now).call (sym (ap (option_map asked_by) c.in-None.is) ∙ c.wished.ensures)))
