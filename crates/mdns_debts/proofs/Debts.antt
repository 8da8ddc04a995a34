-- The debts of a history are those of the queries that are owed something.
use Rattle.std.proofs.Common.{◌≡◌, ℕ, suc, Bool, true, false, cond, ◌&&◌, ◌||◌, List, [], ◌∷◌, ◌++◌, map, length, Option, Some, None, refl, ap, ◌∙◌, sym, arith, append-nil}
use Rattle.std.specs.Prelude.{filter, nat_lt, nat_le}
use Rattle.std.specs.List.{list_any, flat_map}
use Rattle.std.proofs.lemmas.Grind.{flat_map-append}
use Rattle.mdns_base.specs.declared.host.Dest.TheVariants.{All}
use Rattle.mdns_base.specs.Hosts.{dest_eq}
use Rattle.lists.specs.Lists.{ordered}
use Rattle.dns_record.specs.declared.record.Rr.{Rr}
use Rattle.dns_record.specs.Records.{same, record_cmp}
use Rattle.mdns_history.specs.declared.entry.Entry.{Entry}
use Rattle.mdns_history.specs.Hearings.{Heard, heard_in, query_of}
use Rattle.mdns_history.specs.Debts.{Debt, Owed, debts_from, debts_made, is_ours, stays_open, standing_debts, last_multicast, is_long_ago}
use Rattle.mdns_history.specs.Multicasts.{due_multicasts, multicast_gap, defence_gap, may_go, released_records}
use Rattle.mdns_debts.specs.Queries.{Query, Placed, debt_in, debts_at, query_at, placed_at, keeping, is_owed, owed_queries, is_to_all}
use Rattle.mdns_debts.specs.Releasing.{Wanted, wanted_of, is_let_go, released_by}
use Rattle.mdns_debts.specs.Laws.{AreOfQueries, AreReleasedBy}

module _ {X Y : Type 0} where
  pub filter_map-keeps : (p : Y → Bool) (f : X → Y) (xs : List X) → filter p (map f xs) ≡ map f (filter (λ x. p (f x)) xs)
  filter_map-keeps p f [] = refl
  filter_map-keeps p f (x ∷ xs) = of (p (f x)) (filter_map-keeps p f xs)
    where
      of : (b : Bool) → filter p (map f xs) ≡ map f (filter (λ z. p (f z)) xs) → cond b (f x ∷ filter p (map f xs)) (filter p (map f xs)) ≡ map f (cond b (x ∷ filter (λ z. p (f z)) xs) (filter (λ z. p (f z)) xs))
      of true e = ap (λ zs. f x ∷ zs) e
      of false e = e

  pub map_map : {Z : Type 0} (g : Y → Z) (f : X → Y) (xs : List X) → map g (map f xs) ≡ map (λ x. g (f x)) xs
  map_map g f [] = refl
  map_map g f (x ∷ xs) = ap (λ zs. g (f x) ∷ zs) (map_map g f xs)

  pub any_map : (p : Y → Bool) (f : X → Y) (xs : List X) → list_any p (map f xs) ≡ list_any (λ x. p (f x)) xs
  any_map p f [] = refl
  any_map p f (x ∷ xs) = ap (λ b. p (f x) || b) (any_map p f xs)

module _ {X : Type 0} where
  pub filter-append : (p : X → Bool) (xs ys : List X) → filter p (xs ++ ys) ≡ filter p xs ++ filter p ys
  filter-append p [] ys = refl
  filter-append p (x ∷ xs) ys = of (p x) (filter-append p xs ys)
    where
      of : (b : Bool) → filter p (xs ++ ys) ≡ filter p xs ++ filter p ys → cond b (x ∷ filter p (xs ++ ys)) (filter p (xs ++ ys)) ≡ cond b (x ∷ filter p xs) (filter p xs) ++ filter p ys
      of true e = ap (λ zs. x ∷ zs) e
      of false e = e

  pub any-append : (p : X → Bool) (xs ys : List X) → list_any p (xs ++ ys) ≡ (list_any p xs || list_any p ys)
  any-append p [] ys = refl
  any-append p (x ∷ xs) ys = ap (λ b. p x || b) (any-append p xs ys) ∙ or_assoc (p x) (list_any p xs) (list_any p ys)
    where
      or_assoc : (a b c : Bool) → (a || (b || c)) ≡ ((a || b) || c)
      or_assoc true b c = refl
      or_assoc false b c = refl

  pub map-append : {Y : Type 0} (f : X → Y) (xs ys : List X) → map f (xs ++ ys) ≡ map f xs ++ map f ys
  map-append f [] ys = refl
  map-append f (x ∷ xs) ys = ap (λ zs. f x ∷ zs) (map-append f xs ys)

  pub filter_like : (p q : X → Bool) (xs : List X) → ((x : X) → p x ≡ q x) → filter p xs ≡ filter q xs
  filter_like p q [] h = refl
  filter_like p q (x ∷ xs) h = ap (λ b. cond b (x ∷ filter p xs) (filter p xs)) (h x) ∙ ap (λ zs. cond (q x) (x ∷ zs) zs) (filter_like p q xs h)

  pub filter_never : (p : X → Bool) (xs : List X) → ((x : X) → p x ≡ false) → filter p xs ≡ []
  filter_never p [] h = refl
  filter_never p (x ∷ xs) h = rw (h x) (filter_never p xs h)

-- debts that pass a test are those of the queries with what passes
keeping_one : (test : Debt → Bool) (placed : Placed) → filter test (debts_at placed) ≡ debts_at (keeping test placed)
keeping_one test placed = filter_map-keeps test (debt_in placed.0 placed.1) (placed.1).owed

pub keeping_all : (test : Debt → Bool) (ps : List Placed) → filter test (flat_map debts_at ps) ≡ flat_map debts_at (map (keeping test) ps)
keeping_all test [] = refl
keeping_all test (p ∷ ps) = filter-append test (debts_at p) (flat_map debts_at ps) ∙ ap (λ zs. zs ++ filter test (flat_map debts_at ps)) (keeping_one test p) ∙ ap (λ zs. debts_at (keeping test p) ++ zs) (keeping_all test ps)

pub some_length : (n : ℕ) → nat_lt 0 (suc n) ≡ true
some_length n = grind arith

-- queries that are owed nothing have no debts
owed_all : (ps : List Placed) → flat_map debts_at (filter is_owed ps) ≡ flat_map debts_at ps
owed_all [] = refl
owed_all (p ∷ ps) = of (p.1).owed refl (owed_all ps)
  where
    of : (os : List Owed) → (p.1).owed ≡ os → flat_map debts_at (filter is_owed ps) ≡ flat_map debts_at ps →
        flat_map debts_at (cond (nat_lt 0 (length (p.1).owed)) (p ∷ filter is_owed ps) (filter is_owed ps)) ≡ debts_at p ++ flat_map debts_at ps
    of [] e rest =
        ap (λ (os : List Owed). flat_map debts_at (cond (nat_lt 0 (length os)) (p ∷ filter is_owed ps) (filter is_owed ps))) e
        ∙ rest ∙ sym (ap (λ (os : List Owed). map (debt_in p.0 p.1) os ++ flat_map debts_at ps) e)
    of (o ∷ os) e rest =
        ap (λ (zs : List Owed). flat_map debts_at (cond (nat_lt 0 (length zs)) (p ∷ filter is_owed ps) (filter is_owed ps))) e
        ∙ ap (λ b. flat_map debts_at (cond b (p ∷ filter is_owed ps) (filter is_owed ps))) (some_length (length os))
        ∙ ap (λ zs. debts_at p ++ zs) rest

-- the debts of a query that is heard
made_one : (o : Option Heard) (entry : Entry) (past : List Entry) → debts_from o entry past ≡ flat_map debts_at (placed_at o entry past)
made_one None entry past = refl
made_one (Some heard) entry past = sym (append-nil (debts_at (length past, query_at heard entry past)))

-- The debts that stand are those of the queries that are owed something.
pub are_of_queries : AreOfQueries
unfolding standing_debts owed_queries debts_made
are_of_queries [] = refl
are_of_queries (entry ∷ past) =
    let before : List Placed = map (keeping (stays_open entry)) (owed_queries past) in
    let made : List Placed = placed_at (query_of (heard_in entry)) entry past in
    let ours : Debt → Bool = λ debt. is_ours debt.rr (entry ∷ past) in
    ap (λ ds. filter ours (filter (stays_open entry) ds ++ debts_from (query_of (heard_in entry)) entry past)) (are_of_queries past)
    ∙ ap (λ ds. filter ours (ds ++ debts_from (query_of (heard_in entry)) entry past)) (keeping_all (stays_open entry) (owed_queries past))
    ∙ ap (λ ds. filter ours (flat_map debts_at before ++ ds)) (made_one (query_of (heard_in entry)) entry past)
    ∙ ap (filter ours) (sym (flat_map-append debts_at before made))
    ∙ keeping_all ours (before ++ made)
    ∙ sym (owed_all (map (keeping ours) (before ++ made)))

-- what a tick's due debts to all want
is_due_to_all : ℕ → Debt → Bool
is_due_to_all moment debt = dest_eq debt.to All && nat_le debt.due moment

wanted_debt : ℕ → Wanted → Debt
wanted_debt place wanted = debt_in place wanted.0 (wanted.1, All)

due_one : (moment : ℕ) (p : Placed) → filter (λ debt. dest_eq debt.to All && nat_le debt.due moment) (debts_at p) ≡ cond (nat_le (p.1).due moment) (map (debt_in p.0 p.1) (filter is_to_all (p.1).owed)) []
due_one moment p = filter_map-keeps (λ debt. dest_eq debt.to All && nat_le debt.due moment) (debt_in p.0 p.1) (p.1).owed ∙ of (nat_le (p.1).due moment)
  where
    with_true : (a : Bool) → (a && true) ≡ a
    with_true true = refl
    with_true false = refl

    with_false : (a : Bool) → (a && false) ≡ false
    with_false true = refl
    with_false false = refl

    of : (b : Bool) → map (debt_in p.0 p.1) (filter (λ owed. dest_eq owed.1 All && b) (p.1).owed) ≡ cond b (map (debt_in p.0 p.1) (filter is_to_all (p.1).owed)) []
    of true = ap (map (debt_in p.0 p.1)) (filter_like (λ (owed : Owed). dest_eq owed.1 All && true) is_to_all (p.1).owed (λ owed. with_true (dest_eq owed.1 All)))
    of false = ap (map (debt_in p.0 p.1)) (filter_never (λ (owed : Owed). dest_eq owed.1 All && false) (p.1).owed (λ owed. with_false (dest_eq owed.1 All)))

records_one : (moment : ℕ) (p : Placed) → map (λ (debt : Debt). debt.rr) (filter (λ debt. dest_eq debt.to All && nat_le debt.due moment) (debts_at p)) ≡ map (λ (wanted : Wanted). wanted.1) (wanted_of moment p.1)
records_one moment p = ap (map (λ (debt : Debt). debt.rr)) (due_one moment p) ∙ of (nat_le (p.1).due moment)
  where
    of : (b : Bool) → map (λ (debt : Debt). debt.rr) (cond b (map (debt_in p.0 p.1) (filter is_to_all (p.1).owed)) []) ≡ map (λ (wanted : Wanted). wanted.1) (cond b (map (λ (owed : Owed). (p.1, owed.0)) (filter is_to_all (p.1).owed)) [])
    of true = map_map (λ (debt : Debt). debt.rr) (debt_in p.0 p.1) (filter is_to_all (p.1).owed) ∙ sym (map_map (λ (wanted : Wanted). wanted.1) (λ (owed : Owed). (p.1, owed.0)) (filter is_to_all (p.1).owed))
    of false = refl

probing_one : (moment : ℕ) (rr : Rr) (p : Placed) → list_any (λ (debt : Debt). debt.probing && same debt.rr rr) (filter (λ debt. dest_eq debt.to All && nat_le debt.due moment) (debts_at p))
    ≡ list_any (λ (wanted : Wanted). (wanted.0).probing && same wanted.1 rr) (wanted_of moment p.1)
probing_one moment rr p = ap (list_any (λ (debt : Debt). debt.probing && same debt.rr rr)) (due_one moment p) ∙ of (nat_le (p.1).due moment)
  where
    of : (b : Bool) → list_any (λ (debt : Debt). debt.probing && same debt.rr rr) (cond b (map (debt_in p.0 p.1) (filter is_to_all (p.1).owed)) [])
        ≡ list_any (λ (wanted : Wanted). (wanted.0).probing && same wanted.1 rr) (cond b (map (λ (owed : Owed). (p.1, owed.0)) (filter is_to_all (p.1).owed)) [])
    of true = any_map (λ (debt : Debt). debt.probing && same debt.rr rr) (debt_in p.0 p.1) (filter is_to_all (p.1).owed)
        ∙ sym (any_map (λ (wanted : Wanted). (wanted.0).probing && same wanted.1 rr) (λ (owed : Owed). (p.1, owed.0)) (filter is_to_all (p.1).owed))
    of false = refl

records_all : (moment : ℕ) (ps : List Placed) → map (λ (debt : Debt). debt.rr) (filter (λ debt. dest_eq debt.to All && nat_le debt.due moment) (flat_map debts_at ps))
    ≡ map (λ (wanted : Wanted). wanted.1) (flat_map (wanted_of moment) (map (λ placed. placed.1) ps))
records_all moment [] = refl
records_all moment (p ∷ ps) =
    let test : Debt → Bool = λ debt. dest_eq debt.to All && nat_le debt.due moment in
    ap (map (λ (debt : Debt). debt.rr)) (filter-append test (debts_at p) (flat_map debts_at ps))
    ∙ map-append (λ (debt : Debt). debt.rr) (filter test (debts_at p)) (filter test (flat_map debts_at ps))
    ∙ ap (λ zs. zs ++ map (λ (debt : Debt). debt.rr) (filter test (flat_map debts_at ps))) (records_one moment p)
    ∙ ap (λ zs. map (λ (wanted : Wanted). wanted.1) (wanted_of moment p.1) ++ zs) (records_all moment ps)
    ∙ sym (map-append (λ (wanted : Wanted). wanted.1) (wanted_of moment p.1) (flat_map (wanted_of moment) (map (λ (placed : Placed). placed.1) ps)))

probing_all : (moment : ℕ) (rr : Rr) (ps : List Placed) → list_any (λ (debt : Debt). debt.probing && same debt.rr rr) (filter (λ debt. dest_eq debt.to All && nat_le debt.due moment) (flat_map debts_at ps))
    ≡ list_any (λ (wanted : Wanted). (wanted.0).probing && same wanted.1 rr) (flat_map (wanted_of moment) (map (λ placed. placed.1) ps))
probing_all moment rr [] = refl
probing_all moment rr (p ∷ ps) =
    let test : Debt → Bool = λ debt. dest_eq debt.to All && nat_le debt.due moment in
    let of_debt : Debt → Bool = λ debt. debt.probing && same debt.rr rr in
    let of_wanted : Wanted → Bool = λ wanted. (wanted.0).probing && same wanted.1 rr in
    ap (list_any of_debt) (filter-append test (debts_at p) (flat_map debts_at ps))
    ∙ any-append of_debt (filter test (debts_at p)) (filter test (flat_map debts_at ps))
    ∙ ap (λ b. b || list_any of_debt (filter test (flat_map debts_at ps))) (probing_one moment rr p)
    ∙ ap (λ b. list_any of_wanted (wanted_of moment p.1) || b) (probing_all moment rr ps)
    ∙ sym (any-append of_wanted (wanted_of moment p.1) (flat_map (wanted_of moment) (map (λ (placed : Placed). placed.1) ps)))

-- What a tick releases is told of the queries and the last multicasts.
pub are_released_by : AreReleasedBy
unfolding released_records due_multicasts released_by
are_released_by history moment =
    let queries : List Query = map (λ (placed : Placed). placed.1) (owed_queries history) in
    let due : List Wanted = flat_map (wanted_of moment) queries in
    let debts : List Debt = filter (λ debt. dest_eq debt.to All && nat_le debt.due moment) (flat_map debts_at (owed_queries history)) in
    ap (λ ds. ordered record_cmp (filter (may_go history moment (filter (λ debt. dest_eq debt.to All && nat_le debt.due moment) ds)) (map (λ (debt : Debt). debt.rr) (filter (λ debt. dest_eq debt.to All && nat_le debt.due moment) ds)))) (are_of_queries history)
    ∙ ap (λ rrs. ordered record_cmp (filter (may_go history moment debts) rrs)) (records_all moment (owed_queries history))
    ∙ ap (ordered record_cmp) (filter_like (may_go history moment debts) (is_let_go (λ rr. last_multicast rr history) moment due) (map (λ (wanted : Wanted). wanted.1) due)
    (λ rr. ap (λ b. is_long_ago multicast_gap moment (last_multicast rr history) || (b && is_long_ago defence_gap moment (last_multicast rr history))) (probing_all moment rr (owed_queries history))))
