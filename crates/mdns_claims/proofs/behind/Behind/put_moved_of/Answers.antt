use Rattle.std.proofs.Common.{◌≡◌, ℕ, Bool, true, false, List, ⊎_elim, ap, ◌∙◌, refl}
use Rattle.std.proofs.lemmas.List.{take_all}
use Rattle.mdns_claimants.specs.Owned.{is_among}
use Rattle.mdns_claims.proofs.Moving.{among_next}
use Rattle.mdns_claims.proofs.behind.Behind.put_moved_of.Goals as goal

-- a name that was put by now was put before, or just now
either_put : {A : Type 0} (names : List (List (List ℕ))) (name : List (List ℕ)) → (is_among names name ≡ true → A) → (is_among names name ≡ false → A) → A
either_put {A} names name before now = of (is_among names name) refl
  where
    of : (b : Bool) → is_among names name ≡ b → A
    of true e = before e
    of false e = now e

pub loop-name-preserved : goal.loop-name-preserved
loop-name-preserved c = record {
  kept = λ name h. c.in_ok-put_if_moved.ensures.kept name (c.loop-name.invariant.kept name h);
  moved = λ name among moved.
      ⊎_elim (λ e. c.in_ok-put_if_moved.ensures.kept name (c.loop-name.invariant.moved name e moved)) (λ e. c.in_ok-put_if_moved.ensures.moved name e moved)
      (among_next c.args.concerned.now c.loop-name.name-index c.name-item.result c.loop-name-test.true c.name-item.is name among);
  only = λ name among new. either_put c.loop-name.names.items name (λ e. c.loop-name.invariant.only name e new) (λ e. c.in_ok-put_if_moved.ensures.only name among e);
}

pub returns-clause-moved : goal.returns-clause-moved
returns-clause-moved c = λ name among moved.
    c.loop-name.invariant.moved name (ap (λ (l : List (List (List ℕ))). is_among l name) (take_all c.loop-name.name-index c.args.concerned.now c.loop-name-test.false) ∙ among) moved
