use Rattle.std.proofs.Common.{◌≡◌, ◌∙◌, ℕ, List, Option, None, Some, subst}
use Rattle.std.specs.Prelude.{IfSome}
use Rattle.std.specs.Option.{option_map}
use Rattle.by_name.specs.At.{At, owner_of}
use Rattle.by_name.specs.Filed.{IsWithout}
use Rattle.by_name.specs.declared.taking.Taken.{Taken}
use Rattle.sd_index.specs.declared.asker.Asker.{Asker}
use Rattle.sd_index.proofs.Taking.{none_less, one_less}
use Rattle.sd_index.proofs.search.take_from.Goals as goal

pub returns-in-Some : goal.returns-in-Some
returns-in-Some c = λ owner rest h.
    let place : At = c.in-Some.place in
    let without : IsWithout place.owner place.number c.args.asker c.args.filed.now.entries c.take_out.new.self.entries =
    of c.take_out.result (c.take_out.ensures.taken ∙ c.in-Some.ensures.some.1) c.take_out.ensures.without in
    one_less (owner_of c.args.name.now) owner place.number c.args.filed.now.entries c.take_out.new.self.entries c.args.asker rest
    (subst (λ (n : List ℕ). IsWithout n place.number c.args.asker c.args.filed.now.entries c.take_out.new.self.entries) c.in-Some.ensures.some.0 without) h
  where
    some_one : (one other : Asker) → ◌≡◌ (Some one) (Some other) → one ≡ other
    some_one one other e = cc

    of : (o : Option (Taken Asker)) → option_map (λ (t : Taken Asker). t.one) o ≡ Some c.args.asker →
        IfSome o (λ (t : Taken Asker). IsWithout c.in-Some.place.owner c.in-Some.place.number t.one c.args.filed.now.entries c.take_out.new.self.entries) →
        IsWithout c.in-Some.place.owner c.in-Some.place.number c.args.asker c.args.filed.now.entries c.take_out.new.self.entries
    of None e k = absurd (cc)
    of (Some t) e k = subst (λ (x : Asker). IsWithout c.in-Some.place.owner c.in-Some.place.number x c.args.filed.now.entries c.take_out.new.self.entries) (some_one t.one c.args.asker e) k

pub returns-in_default : goal.returns-in_default
returns-in_default c = λ owner rest h. none_less (owner_of c.args.name.now) owner c.args.filed.now.entries c.args.asker rest c.in_default.ensures.none h
