use Rattle.std.proofs.Common.{◌≡◌, ◌∙◌, ◌-◌, ℕ, List, [], Some, length, slice_get, sym, ap, subst, arith}
use Rattle.std.specs.Map.{values_of}
use Rattle.indexmap.specs.Layout.{set_value_at}
use Rattle.dns_record.proofs.Same.{same_tells}
use Rattle.mdns_history.specs.declared.held.Held.{Held}
use Rattle.by_name.specs.Filed.{Filing}
use Rattle.by_name.proofs.Removed.{length-put}
use Rattle.mdns_cache.specs.Named.{Entry}
use Rattle.mdns_cache.specs.Printed.{AreIndexed}
use Rattle.mdns_cache.proofs.Indexing.{are_indexed-put}
use Rattle.mdns_cache.proofs.holdings.Holdings.put.Goals as goal

pub invariant_of-self : goal.invariant_of-self
invariant_of-self c =
    let es : List Entry = c.self.inside.named.entries in
    let old : Held = c.requires.0 in
    let there : slice_get (values_of es) c.args.index ≡ Some old = subst (λ (v : Filing Held). slice_get (values_of v.entries) c.args.index ≡ Some old) (sym c.self.view_is) c.requires.1 in
    let len : length (set_value_at es c.args.index c.replace-old.new.dest) ≡ length es = length-put es c.args.index c.replace-old.new.dest in
    let all = c.self.invariant in (
      subst (λ (x : Held). AreIndexed c.self.inside.prints [] (values_of (set_value_at es c.args.index x))) (sym c.replace-old.ensures.after)
          (are_indexed-put c.self.inside.prints es c.args.index old c.args.one there (sym ((same_tells old.rr c.args.one.rr).0 c.requires.2)) all.0),
      omega (arith, len, all.1),
      omega (arith, len, all.2),
      omega (arith, len, all.3),
    )

pub returns-clause-spare : goal.returns-clause-spare
returns-clause-spare c =
    ap (λ (n : ℕ). c.self.inside.room - n) (length-put c.self.inside.named.entries c.args.index c.replace-old.new.dest) ∙ ap (λ (v : Filing Held). v.spare) c.self.view_is
