use Rattle.std.proofs.Common.{ℕ, ◌<◌, ◌≤◌, length, sym, subst}
use Rattle.std.specs.List.{HoldsAt}
use Rattle.mdns_cache.specs.Ends.{IsFirst}
use Rattle.mdns_cache.proofs.Root.{first_found, none_found}
use Rattle.mdns_cache.proofs.ends.first_of.Goals as goal

pub returns-then-first-held : goal.returns-then-first-held
returns-then-first-held c = (
  c.if-first-held.true,
  subst (λ (p : ℕ). HoldsAt (IsFirst c.args.held.now) c.args.held.now p) (sym c.winner-first.ensures)
      (first_found c.args.held.now c.args.nodes.now c.requires.played c.requires.room (subst (λ (p : ℕ). p < length c.args.held.now) c.winner-first.ensures c.if-first-held.true)),
)

pub returns-else-first-held : goal.returns-else-first-held
returns-else-first-held c =
    none_found c.args.held.now c.args.nodes.now c.requires.played c.requires.room (subst (λ (p : ℕ). length c.args.held.now ≤ p) c.winner-first.ensures c.if-first-held.false)
