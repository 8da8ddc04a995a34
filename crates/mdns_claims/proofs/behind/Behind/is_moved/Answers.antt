use Rattle.std.proofs.Common.{◌≡◌, ◌∙◌, ◌&&◌, Bool, true, false, not, length, get_or, refl, sym, arith}
use Rattle.std.proofs.lemmas.List.{get_or_default}
use Rattle.mdns_probe.specs.Kept.{Kept}
use Rattle.mdns_claimants.specs.Owned.{own_in}
use Rattle.mdns_claims.specs.Later.{groups_behind}
use Rattle.mdns_claims.specs.Seen.{means_in}
use Rattle.mdns_claims.proofs.Moving.{moved_name}
use Rattle.mdns_claims.proofs.Stays.{stays_more, stays_passed, stays_end, moved_here, moved_begun}
use Rattle.mdns_claims.proofs.behind.Behind.is_moved.Goals as goal

both : (a b r : Bool) → r ≡ not (a && b) → r ≡ false → (a ≡ true) × (b ≡ true)
both true true r e h = (refl, refl)
both true false r e h = absurd (cc)
both false b r e h = absurd (cc)

pub loop-place-preserved : goal.loop-place-preserved
loop-place-preserved c =
    let found = c.in-Some.ensures.some in
    let one : Kept = get_or c.args.self.now.groups.now c.in-Some.place c.index-self-place.result in
    let is : one ≡ get_or c.args.self.now.groups.now c.in-Some.place one = get_or_default c.args.self.now.groups.now c.in-Some.place c.index-self-place.result one found.within in
    let stay = both _ _ c.moves.result c.moves.ensures c.if-moves.false in
    record {
      within = omega (arith, found.within);
      rest = λ there.
          c.loop-place.invariant.rest
          (stays_passed (means_in c.args.self.now.means) c.args.self.now.deed.now c.args.self.now.groups.now c.args.name.now c.loop-place.from c.in-Some.place found.behind (omega (arith, found.within)) found.passed
          (stays_more (means_in c.args.self.now.means) c.args.self.now.deed.now c.args.self.now.groups.now c.args.name.now c.in-Some.place one found.within is stay.0 stay.1 there));
    }

pub returns-then-moves : goal.returns-then-moves
returns-then-moves c = λ other e.
    let found = c.in-Some.ensures.some in
    let one : Kept = get_or c.args.self.now.groups.now c.in-Some.place c.index-self-place.result in
    let is : one ≡ get_or c.args.self.now.groups.now c.in-Some.place one = get_or_default c.args.self.now.groups.now c.in-Some.place c.index-self-place.result one found.within in
    moved_name other c.args.name.now (own_in c.args.self.now.groups.now) (own_in (groups_behind c.args.self.now)) e
    ∙ moved_here (means_in c.args.self.now.means) c.args.self.now.deed.now c.args.self.now.groups.now c.args.name.now c.in-Some.place one found.within is c.moves.result c.moves.ensures c.if-moves.true

pub returns : goal.returns
returns c = λ other e.
    moved_name other c.args.name.now (own_in c.args.self.now.groups.now) (own_in (groups_behind c.args.self.now)) e
    ∙ moved_begun (means_in c.args.self.now.means) c.args.self.now.deed.now c.args.self.now.groups.now c.args.name.now
    (c.loop-place.invariant.rest
    (stays_passed (means_in c.args.self.now.means) c.args.self.now.deed.now c.args.self.now.groups.now c.args.name.now c.loop-place.from (length c.args.self.now.groups.now)
    c.loop-place.invariant.within (omega arith) c.in_default.ensures.none
    (stays_end (means_in c.args.self.now.means) c.args.self.now.deed.now c.args.self.now.groups.now c.args.name.now)))
    ∙ sym c.begins.ensures
