-- What the seat knows that took the list out, after three others were joined into it.
use Rattle.std.proofs.Common.{◌≡◌, ◌≢◌, ℕ, List, [], ◌∷◌, ◌++◌, map, sym, ap, ◌∙◌, subst, All, AllPairs}
use Rattle.std.proofs.lemmas.List.Elements.{All-head, All-tail}
use Rattle.mdns_turn.specs.History.{turns, turns_of}
use Rattle.mdns_turn.specs.Models.{SeatModel, HasItsTurns}
use Rattle.mdns_turn.proofs.Histories.{turns_of-other, others_differ}
use Rattle.mdns_turn_numbers.specs.declared.Numbers.{Numbers}
use Rattle.mdns_turn_numbers.specs.declared.Change.{Change}
use Rattle.mdns_turn_numbers.specs.declared.Change.TheVariants.{Added, Taken}
use Rattle.mdns_turn_numbers.specs.Numbers.{items_of, Sees, IsMadeByThree}

-- the turns of another seat stand before the turn that took the list out
before_taking : (seen history : List (ℕ × Change)) (n k : ℕ) (own : List Change) → seen ≡ history ++ (n, Taken) ∷ [] → n ≢ k → turns_of k seen ≡ own → turns_of k history ≡ own
before_taking seen history n k own is other e = sym (turns_of-other k n history Taken other) ∙ (ap (turns_of k) (sym is) ∙ e)

pub gathered : (seat : SeatModel Numbers Change) (history : List (ℕ × Change)) (a b c : ℕ) (list one two three : List ℕ) → HasItsTurns seat
    → seat.joined ≡ (a, map Added one) ∷ (b, map Added two) ∷ (c, map Added three) ∷ [] → Sees history Taken seat → list ≡ items_of (turns history) → IsMadeByThree list seat one two three
gathered seat history a b c list one two three h joined is made =
    let n = seat.number in let seen = seat.seen in let others = seat.joined in
    let P : ℕ × List Change → Type 0 = λ m. turns_of m.0 seen ≡ m.1 in let D : ℕ × List Change → Type 0 = λ m. n ≢ m.0 in
    let p : ℕ × List Change = (a, map Added one) in let q : ℕ × List Change = (b, map Added two) in let r : ℕ × List Change = (c, map Added three) in
    let t : All P (p ∷ q ∷ r ∷ []) = subst (All P) joined h.joined in let d : All D (p ∷ q ∷ r ∷ []) = subst (All D) joined (others_differ n others h.apart) in
    let t' = All-tail P p (q ∷ r ∷ []) t in let d' = All-tail D p (q ∷ r ∷ []) d in record {
      history = history;
      seen = is;
      makes = made;
      first = a;
      second = b;
      third = c;
      seats = subst (λ (l : List (ℕ × List Change)). AllPairs (λ k m. k ≢ m) (n ∷ map (λ m. m.0) l)) joined h.apart;
      by_first = before_taking seen history n a (map Added one) is (All-head D p (q ∷ r ∷ []) d) (All-head P p (q ∷ r ∷ []) t);
      by_second = before_taking seen history n b (map Added two) is (All-head D q (r ∷ []) d') (All-head P q (r ∷ []) t');
      by_third = before_taking seen history n c (map Added three) is (All-head D r [] (All-tail D q (r ∷ []) d')) (All-head P r [] (All-tail P q (r ∷ []) t'));
      own = h.mine;
    }
