-- What askers are sent is told of the queries that are owed something.
use Rattle.std.proofs.Common.{◌≡◌, ℕ, suc, ◌+◌, ◌-◌, ◌<◌, ◌==◌, ◌⊎◌, inl, inr, Bool, true, false, cond, not, ◌&&◌, List, [], ◌∷◌, ◌++◌, map, length, slice_get, Option, Some, None, refl, ap, subst, ◌∙◌, sym, arith, append-nil}
use Rattle.std.specs.Prelude.{filter, nat_lt, nat_le}
use Rattle.std.specs.List.{flat_map}
use Rattle.std.specs.Option.{option_and_then}
use Rattle.mdns_base.specs.declared.host.Host.{Host}
use Rattle.mdns_base.specs.declared.host.Dest.TheVariants.{All}
use Rattle.mdns_base.specs.Hosts.{mdns_port, dest_eq}
use Rattle.lists.specs.Lists.{ordered, sorted_by, insert_by, each_once}
use Rattle.std.specs.Ordering.{is_eq, is_lt}
use Rattle.dns_record.specs.declared.record.Rr.{Rr}
use Rattle.dns_record.specs.Records.{record_cmp}
use Rattle.dns_message.specs.Packing.{pack_plain, pack_legacy}
use Rattle.mdns_history.specs.declared.entry.Sent.{Sent}
use Rattle.mdns_history.specs.declared.entry.Entry.{Entry}
use Rattle.mdns_history.specs.Hearings.{Heard, heard_in, query_of}
use Rattle.mdns_history.specs.Debts.{Debt, Owed, is_ours, stays_open, standing_debts}
use Rattle.mdns_history.specs.Multicasts.{due_unicasts}
use Rattle.mdns_history.specs.Sending.{to_one, entry_at, reply_to, reply_to_heard, reply_at}
use Rattle.mdns_debts.specs.Queries.{Query, Placed, debt_in, debts_at, repeated, placed_at, keeping, is_owed, owed_queries, is_to_all, reply_for, records_for, reply_unless, replies_at}
use Rattle.mdns_debts.specs.Laws.{AreRepliedTo}
use Rattle.mdns_asserts.proofs.Elements.{In, of_append, of_map, of_flat_map, of_filter, of_each_once, both_no}
use Rattle.mdns_debts.proofs.Debts.{filter_map-keeps, map_map, filter-append, map-append, filter_like, filter_never, some_length, are_of_queries}

-- a query stands where the history has its entry
pub record IsHeardAt (history : List Entry) (placed : Placed) : Type 0 where
  pub within : placed.0 < length history
  pub heard : Heard
  pub stands : option_and_then heard_in (entry_at placed.0 history) ≡ Some heard
  pub from : heard.from ≡ (placed.1).from
  pub id : heard.message.id ≡ (placed.1).id
  pub questions : repeated heard ≡ (placed.1).questions

-- places rise
abbrev pub AreRising : List Placed → Type 0
AreRising [] = Unit {0}
AreRising (p ∷ ps) = ((other : Placed) → In other ps → p.0 < other.0) × AreRising ps

-- an entry behind another
older : (place : ℕ) (entry : Entry) (past : List Entry) → place < length past → entry_at place (entry ∷ past) ≡ entry_at place past
older place entry past l = let same : suc (length past) - (place + 1) ≡ suc (length past - (place + 1)) = omega (arith, l) in ap (slice_get (entry ∷ past)) same

newest : (entry : Entry) (past : List Entry) → entry_at (length past) (entry ∷ past) ≡ Some entry
newest entry past = let same : suc (length past) - (length past + 1) ≡ 0 = omega arith in ap (slice_get (entry ∷ past)) same

heard_older : (entry : Entry) (past : List Entry) (placed : Placed) → IsHeardAt past placed → IsHeardAt (entry ∷ past) placed
heard_older entry past placed h = record {
  within = let l : placed.0 < length past = h.within in omega (arith, l);
  heard = h.heard;
  stands = ap (option_and_then heard_in) (older placed.0 entry past h.within) ∙ h.stands;
  from = h.from;
  id = h.id;
  questions = h.questions;
}

heard_kept : (history : List Entry) (test : Debt → Bool) (placed : Placed) → IsHeardAt history placed → IsHeardAt history (keeping test placed)
heard_kept history test placed h = record { within = h.within; heard = h.heard; stands = h.stands; from = h.from; id = h.id; questions = h.questions }

heard_new : (entry : Entry) (past : List Entry) (placed : Placed) → In placed (placed_at (query_of (heard_in entry)) entry past) → IsHeardAt (entry ∷ past) placed × (placed.0 ≡ length past)
heard_new entry past placed m = of (heard_in entry) refl m
  where
    query : (heard : Heard) → heard_in entry ≡ Some heard → (b : Bool) → In placed (placed_at (cond b None (Some heard)) entry past) → IsHeardAt (entry ∷ past) placed × (placed.0 ≡ length past)
    query heard e true n = absurd n
    query heard e false (inl same) = (
      subst (IsHeardAt (entry ∷ past)) (sym same) (record {
        within = omega arith;
        heard = heard;
        stands = ap (option_and_then heard_in) (newest entry past) ∙ e;
        from = refl;
        id = refl;
        questions = refl;
      }),
      ap (λ (p : Placed). p.0) same,
    )
    query heard e false (inr n) = absurd n

    of : (o : Option Heard) → heard_in entry ≡ o → In placed (placed_at (query_of o) entry past) → IsHeardAt (entry ∷ past) placed × (placed.0 ≡ length past)
    of None e n = absurd n
    of (Some heard) e n = query heard e heard.message.response n

-- the queries of a history are at their places
pub are_heard : (history : List Entry) (placed : Placed) → In placed (owed_queries history) → IsHeardAt history placed
unfolding owed_queries
are_heard [] placed m = absurd m
are_heard (entry ∷ past) placed m =
    let ours : Debt → Bool = λ debt. is_ours debt.rr (entry ∷ past) in
    let before : List Placed = map (keeping (stays_open entry)) (owed_queries past) in
    let made : List Placed = placed_at (query_of (heard_in entry)) entry past in
    let kept : (p : Placed) × In p (before ++ made) × (placed ≡ keeping ours p) = of_map (keeping ours) placed (before ++ made) (of_filter is_owed placed (map (keeping ours) (before ++ made)) m).0 in
    subst (IsHeardAt (entry ∷ past)) (sym kept.2) (heard_kept (entry ∷ past) ours kept.0 (of kept.0 (of_append kept.0 before made kept.1) (are_heard past)))
  where
    of : (p : Placed) → In p (map (keeping (stays_open entry)) (owed_queries past)) ⊎ In p (placed_at (query_of (heard_in entry)) entry past) → ((q : Placed) → In q (owed_queries past) → IsHeardAt past q) → IsHeardAt (entry ∷ past) p
    of p (inl n) each =
        let old : (q : Placed) × In q (owed_queries past) × (p ≡ keeping (stays_open entry) q) = of_map (keeping (stays_open entry)) p (owed_queries past) n in
        subst (IsHeardAt (entry ∷ past)) (sym old.2) (heard_kept (entry ∷ past) (stays_open entry) old.0 (heard_older entry past old.0 (each old.0 old.1)))
    of p (inr n) each = (heard_new entry past p n).0

-- places rise through the steps
rising_filter : (p : Placed → Bool) (ps : List Placed) → AreRising ps → AreRising (filter p ps)
rising_filter p [] h = tt
rising_filter p (x ∷ ps) h = of (p x) (rising_filter p ps h.1)
  where
    of : (b : Bool) → AreRising (filter p ps) → AreRising (cond b (x ∷ filter p ps) (filter p ps))
    of true rest = ((λ other m. h.0 other (of_filter p other ps m).0), rest)
    of false rest = rest

rising_map : (test : Debt → Bool) (ps : List Placed) → AreRising ps → AreRising (map (keeping test) ps)
rising_map test [] h = tt
rising_map test (x ∷ ps) h =
    ((λ other m. let found : (p : Placed) × In p ps × (other ≡ keeping test p) = of_map (keeping test) other ps m in subst (λ (o : Placed). x.0 < o.0) (sym found.2) (h.0 found.0 found.1)), rising_map test ps h.1)

rising_append : (ps qs : List Placed) → AreRising ps → AreRising qs → ((p q : Placed) → In p ps → In q qs → p.0 < q.0) → AreRising (ps ++ qs)
rising_append [] qs h g below = g
rising_append (p ∷ ps) qs h g below = ((λ other m. of other (of_append other ps qs m)), rising_append ps qs h.1 g (λ a b m n. below a b (inr m) n))
  where
    of : (other : Placed) → In other ps ⊎ In other qs → p.0 < other.0
    of other (inl m) = h.0 other m
    of other (inr n) = below p other (inl refl) n

rising_made : (o : Option Heard) (entry : Entry) (past : List Entry) → AreRising (placed_at o entry past)
rising_made None entry past = tt
rising_made (Some heard) entry past = ((λ other m. absurd m), tt)

pub are_rising : (history : List Entry) → AreRising (owed_queries history)
unfolding owed_queries
are_rising [] = tt
are_rising (entry ∷ past) =
    let ours : Debt → Bool = λ debt. is_ours debt.rr (entry ∷ past) in
    let before : List Placed = map (keeping (stays_open entry)) (owed_queries past) in
    let made : List Placed = placed_at (query_of (heard_in entry)) entry past in
    rising_filter is_owed (map (keeping ours) (before ++ made)) (rising_map ours (before ++ made)
    (rising_append before made (rising_map (stays_open entry) (owed_queries past) (are_rising past)) (rising_made (query_of (heard_in entry)) entry past) (λ p q m n. below p q m n)))
  where
    below : (p q : Placed) → In p (map (keeping (stays_open entry)) (owed_queries past)) → In q (placed_at (query_of (heard_in entry)) entry past) → p.0 < q.0
    below p q m n =
        let old : (r : Placed) × In r (owed_queries past) × (p ≡ keeping (stays_open entry) r) = of_map (keeping (stays_open entry)) p (owed_queries past) m in
        let low : (old.0).0 < length past = (are_heard past old.0 old.1).within in
        let same : p.0 ≡ (old.0).0 = ap (λ (x : Placed). x.0) old.2 in
        let last : q.0 ≡ length past = (heard_new entry past q n).1 in
        omega (arith, low, same, last)

-- what is due to the askers of queries, query by query
abbrev owed_one : Query → List Owed
owed_one query = filter (λ owed. not (is_to_all owed)) query.owed

abbrev due_at_one : ℕ → Placed → List Debt
due_at_one moment p = cond (nat_le (p.1).due moment) (map (debt_in p.0 p.1) (owed_one p.1)) []

due_one : (moment : ℕ) (p : Placed) → filter (λ debt. not (dest_eq debt.to All) && nat_le debt.due moment) (debts_at p) ≡ due_at_one moment p
due_one moment p = filter_map-keeps (λ debt. not (dest_eq debt.to All) && nat_le debt.due moment) (debt_in p.0 p.1) (p.1).owed ∙ of (nat_le (p.1).due moment)
  where
    with_true : (a : Bool) → (not a && true) ≡ not a
    with_true true = refl
    with_true false = refl

    with_false : (a : Bool) → (not a && false) ≡ false
    with_false true = refl
    with_false false = refl

    of : (b : Bool) → map (debt_in p.0 p.1) (filter (λ owed. not (dest_eq owed.1 All) && b) (p.1).owed) ≡ cond b (map (debt_in p.0 p.1) (owed_one p.1)) []
    of true = ap (map (debt_in p.0 p.1)) (filter_like (λ (owed : Owed). not (dest_eq owed.1 All) && true) (λ owed. not (is_to_all owed)) (p.1).owed (λ owed. with_true (dest_eq owed.1 All)))
    of false = ap (map (debt_in p.0 p.1)) (filter_never (λ (owed : Owed). not (dest_eq owed.1 All) && false) (p.1).owed (λ owed. with_false (dest_eq owed.1 All)))

due_all : (moment : ℕ) (ps : List Placed) → filter (λ debt. not (dest_eq debt.to All) && nat_le debt.due moment) (flat_map debts_at ps) ≡ flat_map (due_at_one moment) ps
due_all moment [] = refl
due_all moment (p ∷ ps) =
    let test : Debt → Bool = λ debt. not (dest_eq debt.to All) && nat_le debt.due moment in
    filter-append test (debts_at p) (flat_map debts_at ps) ∙ ap (λ zs. zs ++ filter test (flat_map debts_at ps)) (due_one moment p) ∙ ap (λ zs. due_at_one moment p ++ zs) (due_all moment ps)

-- the debts of a query have its place
at_place : (moment : ℕ) (p : Placed) (debt : Debt) → In debt (due_at_one moment p) → debt.place ≡ p.0
at_place moment p debt m = of (nat_le (p.1).due moment) m
  where
    of : (b : Bool) → In debt (cond b (map (debt_in p.0 p.1) (owed_one p.1)) []) → debt.place ≡ p.0
    of true n = let found : (owed : Owed) × In owed (owed_one p.1) × (debt ≡ debt_in p.0 p.1 owed) = of_map (debt_in p.0 p.1) debt (owed_one p.1) n in ap (λ d. d.place) found.2
    of false n = absurd n

same_place : (a b : ℕ) → a ≡ b → (a == b) ≡ true
same_place a b e = grind (arith, e)

other_place : (a b : ℕ) → (a < b) ⊎ (b < a) → (a == b) ≡ false
other_place a b (inl l) = grind (arith, l)
other_place a b (inr l) = grind (arith, l)

all_pass : {X : Type 0} (p : X → Bool) (xs : List X) → ((x : X) → In x xs → p x ≡ true) → filter p xs ≡ xs
all_pass p [] h = refl
all_pass p (x ∷ xs) h = ap (λ b. cond b (x ∷ filter p xs) (filter p xs)) (h x (inl refl)) ∙ ap (λ zs. x ∷ zs) (all_pass p xs (λ y m. h y (inr m)))

none_pass : {X : Type 0} (p : X → Bool) (xs : List X) → ((x : X) → In x xs → p x ≡ false) → filter p xs ≡ []
none_pass p [] h = refl
none_pass p (x ∷ xs) h = ap (λ b. cond b (x ∷ filter p xs) (filter p xs)) (h x (inl refl)) ∙ none_pass p xs (λ y m. h y (inr m))

-- the debts of other queries have other places
off_place : (moment place : ℕ) (ps : List Placed) → ((p : Placed) → In p ps → (p.0 < place) ⊎ (place < p.0)) → filter (λ (debt : Debt). debt.place == place) (flat_map (due_at_one moment) ps) ≡ []
off_place moment place [] away = refl
off_place moment place (p ∷ ps) away =
    filter-append (λ (debt : Debt). debt.place == place) (due_at_one moment p) (flat_map (due_at_one moment) ps)
    ∙ ap (λ zs. zs ++ filter (λ (debt : Debt). debt.place == place) (flat_map (due_at_one moment) ps))
    (none_pass (λ (debt : Debt). debt.place == place) (due_at_one moment p) (λ debt m. ap (λ n. n == place) (at_place moment p debt m) ∙ other_place p.0 place (away p (inl refl))))
    ∙ off_place moment place ps (λ q m. away q (inr m))

-- so those at the place of a query are its own
on_place : (moment : ℕ) (ps : List Placed) → AreRising ps → (p : Placed) → In p ps → filter (λ (debt : Debt). debt.place == p.0) (flat_map (due_at_one moment) ps) ≡ due_at_one moment p
on_place moment [] h p m = absurd m
on_place moment (q ∷ ps) h p (inl e) =
    let own : filter (λ (debt : Debt). debt.place == p.0) (due_at_one moment q) ≡ due_at_one moment q =
    all_pass (λ (debt : Debt). debt.place == p.0) (due_at_one moment q) (λ debt m. same_place debt.place p.0 (at_place moment q debt m ∙ sym (ap (λ (x : Placed). x.0) e))) in
    let rest : filter (λ (debt : Debt). debt.place == p.0) (flat_map (due_at_one moment) ps) ≡ [] =
    off_place moment p.0 ps (λ r n. inr (subst (λ (x : Placed). x.0 < r.0) (sym e) (h.0 r n))) in
    filter-append (λ (debt : Debt). debt.place == p.0) (due_at_one moment q) (flat_map (due_at_one moment) ps)
    ∙ ap (λ zs. zs ++ filter (λ (debt : Debt). debt.place == p.0) (flat_map (due_at_one moment) ps)) own
    ∙ ap (λ zs. due_at_one moment q ++ zs) rest ∙ append-nil (due_at_one moment q) ∙ ap (due_at_one moment) (sym e)
on_place moment (q ∷ ps) h p (inr m) =
    filter-append (λ (debt : Debt). debt.place == p.0) (due_at_one moment q) (flat_map (due_at_one moment) ps)
    ∙ ap (λ zs. zs ++ filter (λ (debt : Debt). debt.place == p.0) (flat_map (due_at_one moment) ps))
    (none_pass (λ (debt : Debt). debt.place == p.0) (due_at_one moment q) (λ debt n. ap (λ k. k == p.0) (at_place moment q debt n) ∙ other_place q.0 p.0 (inl (h.0 p m))))
    ∙ on_place moment ps h.1 p m

-- the places of debts, each once
abbrev has_due : ℕ → Placed → Bool
has_due moment p = nat_lt 0 (length (due_at_one moment p))

run_once : (place : ℕ) (d : Debt) (ds : List Debt) (ns : List ℕ) → d.place ≡ place → ((e : Debt) → In e ds → e.place ≡ place) → ((n : ℕ) → In n ns → (place == n) ≡ false) →
    each_once (λ a b. a == b) (map (λ (debt : Debt). debt.place) (d ∷ ds) ++ ns) ≡ place ∷ each_once (λ a b. a == b) ns
run_once place d [] ns e all off =
    ap (λ k. k ∷ filter (λ n. not (k == n)) (each_once (λ a b. a == b) ns)) e
    ∙ ap (λ zs. place ∷ zs) (all_pass (λ n. not (place == n)) (each_once (λ a b. a == b) ns) (λ n m. ap not (off n (of_once n ns m))))
  where
    of_once : (n : ℕ) (ms : List ℕ) → In n (each_once (λ a b. a == b) ms) → In n ms
    of_once n ms m = of_each_once (λ a b. a == b) n ms m
run_once place d (x ∷ ds) ns e all off =
    ap (λ k. k ∷ filter (λ n. not (k == n)) (each_once (λ a b. a == b) (map (λ (debt : Debt). debt.place) (x ∷ ds) ++ ns))) e
    ∙ ap (λ zs. place ∷ filter (λ n. not (place == n)) zs) (run_once place x ds ns (all x (inl refl)) (λ y m. all y (inr m)) off)
    ∙ ap (λ b. place ∷ cond (not b) (place ∷ filter (λ n. not (place == n)) (each_once (λ a b. a == b) ns)) (filter (λ n. not (place == n)) (each_once (λ a b. a == b) ns))) (same_place place place refl)
    ∙ ap (λ zs. place ∷ zs) (all_pass (λ n. not (place == n)) (each_once (λ a b. a == b) ns) (λ n m. ap not (off n (of_each_once (λ a b. a == b) n ns m))))

places_once : (moment : ℕ) (ps : List Placed) → AreRising ps → each_once (λ a b. a == b) (map (λ (debt : Debt). debt.place) (flat_map (due_at_one moment) ps)) ≡ map (λ (p : Placed). p.0) (filter (has_due moment) ps)
places_once moment [] h = refl
places_once moment (p ∷ ps) h =
    ap (each_once (λ a b. a == b)) (map-append (λ (debt : Debt). debt.place) (due_at_one moment p) (flat_map (due_at_one moment) ps))
    ∙ of (due_at_one moment p) refl (places_once moment ps h.1)
  where
    later : (n : ℕ) → In n (map (λ (debt : Debt). debt.place) (flat_map (due_at_one moment) ps)) → (p.0 == n) ≡ false
    later n m =
        let debt : (d : Debt) × In d (flat_map (due_at_one moment) ps) × (n ≡ d.place) = of_map (λ (d : Debt). d.place) n (flat_map (due_at_one moment) ps) m in
        let query : (q : Placed) × In q ps × In debt.0 (due_at_one moment q) = of_flat_map (due_at_one moment) debt.0 ps debt.1 in
        ap (λ k. p.0 == k) (debt.2 ∙ at_place moment query.0 debt.0 query.2) ∙ other_place p.0 (query.0).0 (inl (h.0 query.0 query.1))

    of : (ds : List Debt) → due_at_one moment p ≡ ds → each_once (λ a b. a == b) (map (λ (debt : Debt). debt.place) (flat_map (due_at_one moment) ps)) ≡ map (λ (q : Placed). q.0) (filter (has_due moment) ps) →
        each_once (λ a b. a == b) (map (λ (debt : Debt). debt.place) (due_at_one moment p) ++ map (λ (debt : Debt). debt.place) (flat_map (due_at_one moment) ps))
        ≡ map (λ (q : Placed). q.0) (cond (nat_lt 0 (length (due_at_one moment p))) (p ∷ filter (has_due moment) ps) (filter (has_due moment) ps))
    of [] e rest =
        ap (λ (ds : List Debt). each_once (λ a b. a == b) (map (λ (debt : Debt). debt.place) ds ++ map (λ (debt : Debt). debt.place) (flat_map (due_at_one moment) ps))) e ∙ rest
        ∙ sym (ap (λ (ds : List Debt). map (λ (q : Placed). q.0) (cond (nat_lt 0 (length ds)) (p ∷ filter (has_due moment) ps) (filter (has_due moment) ps))) e)
    of (d ∷ ds) e rest =
        ap (λ (xs : List Debt). each_once (λ a b. a == b) (map (λ (debt : Debt). debt.place) xs ++ map (λ (debt : Debt). debt.place) (flat_map (due_at_one moment) ps))) e
        ∙ run_once p.0 d ds (map (λ (debt : Debt). debt.place) (flat_map (due_at_one moment) ps)) (at_place moment p d (subst (λ xs. In d xs) (sym e) (inl refl)))
        (λ x m. at_place moment p x (subst (λ xs. In x xs) (sym e) (inr m))) later
        ∙ ap (λ zs. p.0 ∷ zs) rest
        ∙ sym (ap (λ b. map (λ (q : Placed). q.0) (cond b (p ∷ filter (has_due moment) ps) (filter (has_due moment) ps))) (ap (λ (xs : List Debt). nat_lt 0 (length xs)) e ∙ some_length (length ds)))

-- the reply of one query
abbrev replied : ℕ → List Entry → Placed → List Sent
replied moment history p = reply_to_heard (option_and_then heard_in (entry_at p.0 history)) (ordered record_cmp (map (λ (debt : Debt). debt.rr) (due_at_one moment p)))

reply_is : (query : Query) (heard : Heard) (rrs : List Rr) → heard.from ≡ query.from → heard.message.id ≡ query.id → repeated heard ≡ query.questions → reply_to heard rrs ≡ reply_for query rrs
reply_is query heard rrs from id questions =
    of (heard.from.port == mdns_port)
    ∙ ap (λ (h : Host). cond (h.port == mdns_port) (map (to_one h) (pack_plain rrs)) (to_one h (pack_legacy heard.message.id (repeated heard) rrs) ∷ [])) from
    ∙ ap (λ i. cond (query.from.port == mdns_port) (map (to_one query.from) (pack_plain rrs)) (to_one query.from (pack_legacy i (repeated heard) rrs) ∷ [])) id
    ∙ ap (λ qs. cond (query.from.port == mdns_port) (map (to_one query.from) (pack_plain rrs)) (to_one query.from (pack_legacy query.id qs rrs) ∷ [])) questions
  where
    -- a reply to port 5353 repeats none
    of : (b : Bool) →
        cond b (map (to_one heard.from) (pack_plain rrs)) (to_one heard.from (pack_legacy heard.message.id heard.message.questions rrs) ∷ [])
        ≡ cond b (map (to_one heard.from) (pack_plain rrs)) (to_one heard.from (pack_legacy heard.message.id (cond b [] heard.message.questions) rrs) ∷ [])
    of true = refl
    of false = refl

module _ (moment : ℕ) (history : List Entry) where
  -- a query with something due is replied to with its records
  replied_due : (p : Placed) → IsHeardAt history p → has_due moment p ≡ true → replied moment history p ≡ replies_at moment p.1
  replied_due p h due = of (nat_le (p.1).due moment) due
    where
      os : List Owed
      os = owed_one p.1

      records : map (λ (debt : Debt). debt.rr) (map (debt_in p.0 p.1) (owed_one p.1)) ≡ map (λ (owed : Owed). owed.0) (owed_one p.1)
      records = map_map (λ (debt : Debt). debt.rr) (debt_in p.0 p.1) (owed_one p.1)

      some : (rrs : List Rr) → nat_lt 0 (length rrs) ≡ true → reply_for p.1 rrs ≡ reply_unless p.1 rrs
      some [] e = absurd (none e)
        where
          none : nat_lt 0 0 ≡ true → ⊥
          none k = let no : 0 < 0 = grind (arith, k) in omega (arith, no)
      some (rr ∷ rrs) e = refl

      of : (b : Bool) → nat_lt 0 (length (cond b (map (debt_in p.0 p.1) (owed_one p.1)) [])) ≡ true →
          reply_to_heard (option_and_then heard_in (entry_at p.0 history)) (ordered record_cmp (map (λ (debt : Debt). debt.rr) (cond b (map (debt_in p.0 p.1) (owed_one p.1)) []))) ≡ cond b (reply_unless p.1 (records_for p.1)) []
      of true e =
          ap (λ o. reply_to_heard o (ordered record_cmp (map (λ (debt : Debt). debt.rr) (map (debt_in p.0 p.1) (owed_one p.1))))) h.stands
          ∙ ap (λ rrs. reply_to h.heard (ordered record_cmp rrs)) records
          ∙ reply_is p.1 h.heard (records_for p.1) h.from h.id h.questions
          ∙ some (records_for p.1) (many (owed_one p.1) e)
        where
          many : (xs : List Owed) → nat_lt 0 (length (map (debt_in p.0 p.1) xs)) ≡ true → nat_lt 0 (length (ordered record_cmp (map (λ (owed : Owed). owed.0) xs))) ≡ true
          many [] k = k
          many (x ∷ xs) k = inserted (x.0) (sorted_by record_cmp (filter (λ y. not (is_eq (record_cmp x.0 y))) (each_once (λ a b. is_eq (record_cmp a b)) (map (λ (owed : Owed). owed.0) xs))))
            where
              inserted : (rr : Rr) (rrs : List Rr) → nat_lt 0 (length (insert_by record_cmp rr rrs)) ≡ true
              inserted rr [] = grind arith
              inserted rr (y ∷ ys) = put (is_lt (record_cmp y rr))
                where
                  put : (b : Bool) → nat_lt 0 (length (cond b (y ∷ insert_by record_cmp rr ys) (rr ∷ y ∷ ys))) ≡ true
                  put true = grind arith
                  put false = grind arith
      of false e = absurd (none e)
        where
          none : nat_lt 0 0 ≡ true → ⊥
          none k = let no : 0 < 0 = grind (arith, k) in omega (arith, no)

  -- one with nothing due isn't
  replied_none : (p : Placed) → has_due moment p ≡ false → replies_at moment p.1 ≡ []
  replied_none p none = of (nat_le (p.1).due moment) none
    where
      of : (b : Bool) → nat_lt 0 (length (cond b (map (debt_in p.0 p.1) (owed_one p.1)) [])) ≡ false → cond b (reply_unless p.1 (ordered record_cmp (map (λ (owed : Owed). owed.0) (owed_one p.1)))) [] ≡ []
      of true e = empty (owed_one p.1) e
        where
          empty : (xs : List Owed) → nat_lt 0 (length (map (debt_in p.0 p.1) xs)) ≡ false → reply_unless p.1 (ordered record_cmp (map (λ (owed : Owed). owed.0) xs)) ≡ []
          empty [] k = refl
          empty (x ∷ xs) k = absurd (both_no (nat_lt 0 (suc (length (map (debt_in p.0 p.1) xs)))) (some_length (length (map (debt_in p.0 p.1) xs))) k)
      of false e = refl

  replied_all : (due : List Debt) (ps : List Placed) → ((p : Placed) → In p ps → IsHeardAt history p) → ((p : Placed) → In p ps → filter (λ (debt : Debt). debt.place == p.0) due ≡ due_at_one moment p) →
      flat_map (reply_at history due) (map (λ (p : Placed). p.0) (filter (has_due moment) ps)) ≡ flat_map (λ (p : Placed). replies_at moment p.1) ps
  replied_all due [] heard own = refl
  replied_all due (p ∷ ps) heard own = of (has_due moment p) refl (replied_all due ps (λ q m. heard q (inr m)) (λ q m. own q (inr m)))
    where
      of : (b : Bool) → has_due moment p ≡ b → flat_map (reply_at history due) (map (λ (q : Placed). q.0) (filter (has_due moment) ps)) ≡ flat_map (λ (q : Placed). replies_at moment q.1) ps →
          flat_map (reply_at history due) (map (λ (q : Placed). q.0) (cond b (p ∷ filter (has_due moment) ps) (filter (has_due moment) ps))) ≡ replies_at moment p.1 ++ flat_map (λ (q : Placed). replies_at moment q.1) ps
      of true e rest =
          ap (λ zs. zs ++ flat_map (reply_at history due) (map (λ (q : Placed). q.0) (filter (has_due moment) ps)))
          (ap (λ ds. reply_to_heard (option_and_then heard_in (entry_at p.0 history)) (ordered record_cmp (map (λ (debt : Debt). debt.rr) ds))) (own p (inl refl)) ∙ replied_due p (heard p (inl refl)) e)
          ∙ ap (λ zs. replies_at moment p.1 ++ zs) rest
      of false e rest = rest ∙ ap (λ zs. zs ++ flat_map (λ (q : Placed). replies_at moment q.1) ps) (sym (replied_none p e))

-- What askers are sent is told of the queries that are owed something.
pub are_replied_to : AreRepliedTo
unfolding due_unicasts
are_replied_to history moment =
    let ps : List Placed = owed_queries history in
    let due : List Debt = flat_map (due_at_one moment) ps in
    let are : filter (λ debt. not (dest_eq debt.to All) && nat_le debt.due moment) (standing_debts history) ≡ due =
    ap (filter (λ debt. not (dest_eq debt.to All) && nat_le debt.due moment)) (are_of_queries history) ∙ due_all moment ps in
    ap (λ ds. flat_map (reply_at history ds) (each_once (λ a b. a == b) (map (λ (debt : Debt). debt.place) ds))) are
    ∙ ap (flat_map (reply_at history due)) (places_once moment ps (are_rising history))
    ∙ replied_all moment history due ps (are_heard history) (on_place moment ps (are_rising history))
