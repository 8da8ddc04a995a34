use Rattle.std.proofs.Common.{◌∙◌, ◌++◌, ◌&&◌, ◌||◌, [], Option, sym, ap}
use Rattle.std.specs.List.{list_any}
use Rattle.std.specs.Option.{option_map_or}
use Rattle.dns_record.specs.Records.{same}
use Rattle.mdns_probe.specs.Kept.{Kept}
use Rattle.mdns_claimants.specs.Owned.{claimed}
use Rattle.mdns_claims.specs.Later.{begun_by}
use Rattle.mdns_claims.specs.Seen.{means_in}
use Rattle.mdns_claims.proofs.Stays.{any_after, any_claimed}
use Rattle.mdns_claims.proofs.behind.Behind.is_own_behind.Goals as goal

pub returns-then-is_own_later : goal.returns-then-is_own_later
returns-then-is_own_later c =
    sym (any_after (means_in c.args.self.now.means) c.args.self.now.deed.now c.args.self.now.groups.now (same c.args.rr.now)
    ∙ (λ i. (sym c.is_own_later.ensures ∙ c.if-is_own_later.true) i
    || list_any (same c.args.rr.now) (option_map_or (λ (one : Kept). claimed one.claim.sure one.claim) (begun_by c.args.self.now.deed.now) [])))

pub returns-in-Some : goal.returns-in-Some
returns-in-Some c =
    c.has_claimed.ensures
    ∙ (λ i. (c.claim-in-Some.ensures.claim i).sure && list_any (same c.args.rr.now) ((c.claim.ensures.claim i).unique ++ (c.claim.ensures.claim i).shared))
    ∙ sym (any_claimed (same c.args.rr.now) c.in-Some.one.now.claim.sure c.in-Some.one.now.claim)
    ∙ ap (λ (o : Option Kept). list_any (same c.args.rr.now) (option_map_or (λ (one : Kept). claimed one.claim.sure one.claim) o [])) c.in-Some.ensures
    ∙ sym (any_after (means_in c.args.self.now.means) c.args.self.now.deed.now c.args.self.now.groups.now (same c.args.rr.now)
    ∙ (λ i. (sym c.is_own_later.ensures ∙ c.if-is_own_later.false) i
    || list_any (same c.args.rr.now) (option_map_or (λ (one : Kept). claimed one.claim.sure one.claim) (begun_by c.args.self.now.deed.now) [])))

pub returns-in-None : goal.returns-in-None
returns-in-None c =
    sym (any_after (means_in c.args.self.now.means) c.args.self.now.deed.now c.args.self.now.groups.now (same c.args.rr.now)
    ∙ (λ i. (sym c.is_own_later.ensures ∙ c.if-is_own_later.false) i
    || list_any (same c.args.rr.now) (option_map_or (λ (one : Kept). claimed one.claim.sure one.claim) (sym c.in-None.ensures i) [])))
