use Rattle.std.proofs.Common.{length, get_or, arith}
use Rattle.std.proofs.lemmas.List.{get_or_default}
use Rattle.mdns_probe.specs.Kept.{Kept}
use Rattle.mdns_claimants.proofs.Naming.{not_within}
use Rattle.mdns_claims.specs.Seen.{means_in}
use Rattle.mdns_claims.proofs.Ahead.{same_more}
use Rattle.mdns_claims.proofs.Touched.{own_passed, own_end}
use Rattle.mdns_claims.proofs.behind.Behind.put_touched_names.Goals as goal

pub loop-place-preserved : goal.loop-place-preserved
loop-place-preserved c =
    let found = c.in-Some.ensures.some in
    let one : Kept = get_or c.args.self.now.groups.now c.in-Some.place c.index-self-place.result in
    record {
      within = omega (arith, found.within);
      kept = λ name h. c.in_ok-put_group_names.ensures.kept name (c.loop-place.invariant.kept name h);
      changed = λ name e there.
          c.loop-place.invariant.changed name (not_within c.loop-place.names.items c.put_group_names.new.names.items c.in_ok-put_group_names.ensures.kept name e)
          (own_passed (means_in c.args.self.now.means) c.args.self.now.deed.now c.args.self.now.groups.now name c.loop-place.from c.in-Some.place found.behind (omega (arith, found.within)) found.passed
          (same_more (means_in c.args.self.now.means) c.args.self.now.deed.now c.args.self.now.groups.now c.in-Some.place one found.within (get_or_default c.args.self.now.groups.now c.in-Some.place c.index-self-place.result one found.within)
          name (c.in_ok-put_group_names.ensures.changed name e) there));
    }

pub returns-clause-changed : goal.returns-clause-changed
returns-clause-changed c = λ name e.
    c.loop-place.invariant.changed name e
    (own_passed (means_in c.args.self.now.means) c.args.self.now.deed.now c.args.self.now.groups.now name c.loop-place.from (length c.args.self.now.groups.now) c.loop-place.invariant.within (omega arith) c.in_default.ensures.none
    (own_end (means_in c.args.self.now.means) c.args.self.now.deed.now c.args.self.now.groups.now name))
