use Rattle.std.proofs.lemmas.List.Sorted.{IsNonDecreasingBy-from_sort, Contains-permutation, IsPermutation-sym}
use Rattle.mdns_asking.proofs.places.Places.in_order.Goals as goal

pub returns : goal.returns
returns c = record {
  order = IsNonDecreasingBy-from_sort (λ x. x) c.sort_unstable.new.self.items c.sort_unstable.ensures.sorted;
  kept = λ place h. Contains-permutation c.args.self.places.items c.sort_unstable.new.self.items place c.sort_unstable.ensures.permutation h;
  only = λ place h.
      Contains-permutation c.sort_unstable.new.self.items c.args.self.places.items place (IsPermutation-sym c.args.self.places.items c.sort_unstable.new.self.items c.sort_unstable.ensures.permutation) h;
}
