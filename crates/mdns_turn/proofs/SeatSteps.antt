-- The steps that make and join seats keep the rule: name, split, join and the load after it. And the table that a turn begins with meets it.
use Rattle.std.proofs.Common.{◌≡◌, ℕ, zero, suc, ◌+◌, ◌<◌, eqb, cond, Bool, true, ◌≢◌, List, [], ◌∷◌, get_or, set, sym, refl, ap, ◌∙◌, subst, inl, inr, ◌⊎◌, ⊎_elim, arith, append-nil, eq-eqb, ne_eqb, All, AllPairs, map, Option, Some}
use Rattle.std.proofs.lemmas.List.Elements.{All-nil, All-cons, All-head, All-tail, All-append, All-map, All-weaker}
use Rattle.std.proofs.lemmas.List.{map-append}
use mathlib.Core.Option.{none, some, some-injective, some-ne-none}
use lib.ListN.{get_elem?}
use prog.Atomic.{either}
use Rattle.atomic_table.specs.Table.{State, step, Act, keeps, Valid, carried_after, stepped, Allows, Splits, Joins}
use Rattle.atomic_table.specs.Table as table
use Rattle.atomic_table.proofs.Lists.{at_set, set_else, set_again, at_snoc, at_longer, exchanged}
use Rattle.mdns_turn.specs.declared.view.View.{View}
use Rattle.mdns_turn.specs.declared.view.Stage.TheVariants.{Idle}
use Rattle.mdns_turn.specs.History.{StartsWith, turns_of}
use Rattle.mdns_turn.specs.Views.{SeatState, blank, first_view, numbered, copied, informed, heeded}
use Rattle.mdns_turn.specs.Rule.{beds, Account, IsMember, members, IsTrueView, IsOut}
use Rattle.mdns_turn.specs.Plays.{Names, Learns}
use Rattle.mdns_turn.proofs.Histories.{turns_of-none, turns_of-between, starts_nil, longer_starts, AllPairs-one, AllPairs-append}
use Rattle.mdns_turn.proofs.Frames.{IsOutside, idle_outside, moved_to, IsKept, true_still, stage_of, Rule, seats_stay, slot_stays, moved, unmoved}

module _ {T E : Type 0} (stands : List E → T → Type 0) (o : T) where
  abbrev S : Type 0
  S = State (Option T) (View T E)

  abbrev M : Type 0
  M = SeatState T E

  abbrev Holds : S → Type 0
  Holds = Rule stands o

  abbrev Apart : List ℕ → Type 0
  Apart = AllPairs (λ k m. k ≢ m)

  abbrev numbers_of : List (ℕ × List E) → List ℕ
  numbers_of ms = map (λ m. m.0) ms

  -- a seat that speaks for none but itself
  lone : (n : ℕ) → Apart (n ∷ [])
  lone n = AllPairs-one (λ k m. k ≢ m) n

  pub name_keeps : (slots id : ℕ) (m : M) (old new : ℕ) (said : mathlib.Core.Option.Option (Option T)) → m.0.stage ≡ Idle → m.0.mine ≡ [] → m.0.joined ≡ [] → new ≡ old + 1
      → Allows Holds slots id m 2 (λ y. either (eqb y old) new y) (Names (step slots 2 old new said) m)
  name_keeps slots id m old new said idle no_turn alone up s r wide at _ = let x : ℕ = get_or s.words 2 0 in let is : x ≡ r.all.numbers = ap (λ (ws : List ℕ). get_or ws 2 0) r.words in
      let v : View T E = m.0 in let out : IsOutside v.stage = idle_outside v.stage idle in let p = r.views id v at in let low = p.drawn in
      let none_yet : turns_of x r.all.history ≡ [] = r.undrawn x (omega arith) in let none_seen : turns_of x v.seen ≡ [] = turns_of-none x r.all.history v.seen p.sees none_yet in
      let above : v.number < x = omega arith in
      exchanged x old new (λ n. (w : View T E) × (a : Act (Option T)) × Valid s.homes m.1 a × Holds (stepped s 2 n id m.1 w a) × Names (step slots 2 old new said) m x (w, carried_after m.1 a))
      (λ hit. let sp : ℕ → ℕ = λ n. cond (eqb n x) id (r.all.speaker n) in
      let kept : (j : ℕ) → IsKept r.all r.all.ticket new r.all.owner sp j = λ j. record { tickets = λ t below e. e; numbers = λ n below e. ap (λ (c : Bool). cond c id (r.all.speaker n)) (ne_eqb n x (λ f. omega arith)) ∙ e } in
      let all : Account E = moved_to r.all r.all.ticket new r.all.owner sp in let q : IsTrueView o all id v = true_still r.all r.all.ticket new r.all.owner sp id o v (omega arith) (omega arith) (kept id) p in
      let Q : ℕ × List E → Type 0 = IsMember all id v.seen v.told in (
        numbered v x,
        keeps,
        tt,
        moved stands o s r (set s.words 2 new) id v (numbered v x) r.all.ticket new r.all.owner sp at out (ap (λ (ws : List ℕ). set ws 2 new) r.words) r.fits (omega arith) (omega arith) kept
            record {
              opens = q.opens;
              sees = q.sees;
              hears = q.hears;
              drawn = omega arith;
              speaks = λ _. All-cons Q (x, v.mine) v.joined record { drawn = omega arith; spoken = ap (λ (c : Bool). cond c id (r.all.speaker x)) (eq-eqb x x refl); turns = none_yet ∙ sym no_turn; known = inl (none_seen ∙ sym no_turn) } (subst (All Q) (sym alone) (All-nil Q));
              apart = subst (λ (ms : List (ℕ × List E)). Apart (x ∷ numbers_of ms)) (sym alone) (lone x);
              stage = q.stage;
            },
        (((λ _. refl), λ miss. absurd (miss hit)), above, none_seen),
      ))
      (λ miss. (v, keeps, tt, unmoved stands o s r 2 id m.1 v v at out p, (((λ hit. absurd (miss hit)), λ _. refl), above, none_seen)))

  pub split_keeps : (id : ℕ) (v : View T E) → Splits Holds id v v (copied v)
  split_keeps id v s r at = let p = r.views id v at in record {
    all = r.all;
    words = r.words;
    fits = r.fits;
    behind = r.behind;
    first = r.first;
    count = r.count;
    undrawn = r.undrawn;
    views = λ j d e. ⊎_elim
        (λ (t : get_elem? (set s.views id v) j ≡ some d). r.views j d (subst (λ (l : List (View T E)). get_elem? l j ≡ some d) (set_again s.views id v at) t))
        (λ (t : copied v ≡ d). subst (IsTrueView o r.all j) t record {
          opens = p.opens;
          sees = p.sees;
          hears = starts_nil r.all.history;
          drawn = p.drawn;
          speaks = λ n. cc;
          apart = lone v.number;
          stage = tt;
        })
        (at_snoc (set s.views id v) (copied v) d j e);
    slot = ⊎_elim inl
        (λ (t : IsOut s.views s.homes). inr (t.0, t.1, t.2, t.3, at_longer (set s.views id v) (copied v ∷ []) t.0 t.1 (subst (λ (l : List (View T E)). get_elem? l t.0 ≡ some t.1) (sym (set_again s.views id v at)) t.4), t.5)) r.slot;
  }

  -- where nothing was told, what is known of a member stands in what was seen
  seen_here : (all seen told : List (ℕ × E)) (m : ℕ × List E) → StartsWith all seen → told ≡ [] → turns_of m.0 all ≡ m.1 → (turns_of m.0 seen ≡ m.1) ⊎ (turns_of m.0 told ≡ m.1) → turns_of m.0 seen ≡ m.1
  seen_here all seen told m s quiet in_all known = ⊎_elim (λ (a : turns_of m.0 seen ≡ m.1). a)
      (λ (b : turns_of m.0 told ≡ m.1). let no_turn : m.1 ≡ [] = sym b ∙ ap (turns_of m.0) quiet in turns_of-none m.0 all seen s (in_all ∙ no_turn) ∙ sym no_turn) known

  -- the members of two seats of one account have different numbers
  members_differ : (all : Account E) (id other : ℕ) (v u : View T E) → id ≢ other → All (IsMember all id v.seen v.told) (members v) → All (IsMember all other u.seen u.told) (members u)
      → All (λ a. All (λ b. a ≢ b) (numbers_of (members u))) (numbers_of (members v))
  members_differ all id other v u apart mine theirs = let P : ℕ → Type 0 = λ a. All (λ b. a ≢ b) (numbers_of (members u)) in
      All-map P (λ m. m.0) (members v) (All-weaker (IsMember all id v.seen v.told) (λ m. P m.0) each (members v) mine)
    where
      each : (m : ℕ × List E) → IsMember all id v.seen v.told m → All (λ b. m.0 ≢ b) (numbers_of (members u))
      each m h = All-map (λ b. m.0 ≢ b) (λ n. n.0) (members u) (All-weaker (IsMember all other u.seen u.told) (λ n. m.0 ≢ n.0) (λ n k e. apart (sym h.spoken ∙ (ap all.speaker e ∙ k.spoken))) (members u) theirs)

  module _ (all : Account E) (id other : ℕ) (apart : id ≢ other) where
    -- the seat speaks for the numbers of the other
    abbrev joined_speaker : ℕ → ℕ
    joined_speaker n = cond (eqb (all.speaker n) other) id (all.speaker n)

    abbrev joined : Account E
    joined = moved_to all all.ticket all.numbers all.owner joined_speaker

    others_speak : (n j : ℕ) → j ≢ other → all.speaker n ≡ j → joined_speaker n ≡ j
    others_speak n j differs e = ap (λ (c : Bool). cond c id (all.speaker n)) (ne_eqb (all.speaker n) other (λ f. differs (sym e ∙ f))) ∙ e

    gained : (n : ℕ) → all.speaker n ≡ other → joined_speaker n ≡ id
    gained n e = ap (λ (c : Bool). cond c id (all.speaker n)) (eq-eqb (all.speaker n) other e)

    kept_by : (j : ℕ) → j ≢ other → IsKept all all.ticket all.numbers all.owner joined_speaker j
    kept_by j differs = record { tickets = λ t below e. e; numbers = λ n below e. others_speak n j differs e }

    -- the seat that was told
    told_view : (v u : View T E) → v.stage ≡ Idle → v.named ≡ true → u.named ≡ true → v.told ≡ [] → u.told ≡ [] → IsTrueView o all id v → IsTrueView o all other u → IsTrueView o joined id (informed v u)
    told_view v u idle my_name their_name quiet their_quiet p q = let H : ℕ × List E → Type 0 = IsMember joined id v.seen u.seen in record {
      opens = p.opens;
      sees = p.sees;
      hears = q.sees;
      drawn = p.drawn;
      speaks = λ _. All-append H (members v) (members u)
          (All-weaker (IsMember all id v.seen v.told) H
          (λ m h. record { drawn = h.drawn; spoken = others_speak m.0 id apart h.spoken; turns = h.turns; known = inl (seen_here all.history v.seen v.told m p.sees quiet h.turns h.known) }) (members v) (p.speaks my_name))
          (All-weaker (IsMember all other u.seen u.told) H
          (λ m h. record { drawn = h.drawn; spoken = gained m.0 h.spoken; turns = h.turns; known = inr (seen_here all.history u.seen u.told m q.sees their_quiet h.turns h.known) }) (members u) (q.speaks their_name));
      apart = subst Apart (sym (map-append (λ (m : ℕ × List E). m.0) (members v) (members u)))
          (AllPairs-append (λ k m. k ≢ m) (numbers_of (members v)) (numbers_of (members u)) p.apart q.apart (members_differ all id other v u apart (p.speaks my_name) (q.speaks their_name)));
      stage = stage_of joined id Idle v.stage v.seen (sym idle) tt;
    }

  pub join_keeps : (id : ℕ) (v : View T E) (other : ℕ) (u : View T E) → v.stage ≡ Idle → u.stage ≡ Idle → v.named ≡ true → u.named ≡ true → v.told ≡ [] → u.told ≡ [] → Joins Holds id v other u (informed v u) blank
  join_keeps id v other u idle their_idle my_name their_name quiet their_quiet s r at differ there = let p = r.views id v at in let q = r.views other u (sym (set_else s.views id other (informed v u) differ) ∙ there) in
      let w : View T E = informed v u in let apart : id ≢ other = λ e. differ (sym e) in let after : Account E = joined r.all id other apart in
      let mine : IsTrueView o after id w = told_view r.all id other apart v u idle my_name their_name quiet their_quiet p q in
      let others : (j : ℕ) (d : View T E) → j ≢ other → get_elem? s.views j ≡ some d → IsTrueView o after j d = λ j d differs e.
      true_still r.all r.all.ticket r.all.numbers r.all.owner (joined_speaker r.all id other apart) j o d (omega arith) (omega arith) (kept_by r.all id other apart j differs) (r.views j d e) in record {
        all = after;
        words = r.words;
        fits = r.fits;
        behind = r.behind;
        first = r.first;
        count = r.count;
        undrawn = r.undrawn;
        views = seats_stay stands o (IsTrueView o after) (set s.views id w) other blank
            record {
              opens = λ x e. cc;
              sees = starts_nil r.all.history;
              hears = starts_nil r.all.history;
              drawn = r.first;
              speaks = λ n. cc;
              apart = lone 0;
              stage = tt;
            }
            (λ j d differs e. ⊎_elim (λ (t : (j ≡ id) × (w ≡ d)). subst (λ (x : ℕ × View T E). IsTrueView o after x.0 x.1) (λ i. (sym t.0 i, t.1 i)) mine) (λ (t : (j ≢ id) × (get_elem? s.views j ≡ some d)). others j d differs t.1) (at_set s.views id j w d e));
        slot = slot_stays stands o r.all.history (set s.views id w) s.homes other u blank there (idle_outside u.stage their_idle) (slot_stays stands o r.all.history s.views s.homes id v w at (idle_outside v.stage idle) r.slot);
      }

  pub learn_keeps : (slots id : ℕ) (m : M) → m.0.stage ≡ Idle → m.0.named ≡ true → Allows Holds slots id m 0 (λ y. y) (Learns (step slots 0 0 0 none) m)
  learn_keeps slots id m idle named s r wide at _ = let v : View T E = m.0 in let p = r.views id v at in let l = longer_starts r.all.history v.seen v.told p.sees p.hears in let w : View T E = heeded v in
      let P : ℕ × List E → Type 0 = IsMember r.all id v.seen v.told in let Q : ℕ × List E → Type 0 = λ k. turns_of k.0 w.seen ≡ k.1 in
      let stands_in : (k : ℕ × List E) → P k → Q k = λ k h.
      ⊎_elim (λ (a : turns_of k.0 v.seen ≡ k.1). turns_of-between k.0 r.all.history w.seen v.seen k.1 l.0 l.1 h.turns a) (λ (b : turns_of k.0 v.told ≡ k.1). turns_of-between k.0 r.all.history w.seen v.told k.1 l.0 l.2 h.turns b) h.known in
      let has : All Q (members v) = All-weaker P Q stands_in (members v) (p.speaks named) in (
        w,
        keeps,
        tt,
        unmoved stands o s r 0 id m.1 v w at (idle_outside v.stage idle) record {
          opens = p.opens;
          sees = l.0;
          hears = starts_nil r.all.history;
          drawn = p.drawn;
          speaks = λ n. All-weaker P (IsMember r.all id w.seen []) (λ k h. record { drawn = h.drawn; spoken = h.spoken; turns = h.turns; known = inl (stands_in k h) }) (members v) (p.speaks n);
          apart = p.apart;
          stage = stage_of r.all id Idle v.stage w.seen (sym idle) tt;
        },
        record { seat = refl; own = l.1; told = l.2; either = l.3; turns = record { mine = All-head Q (v.number, v.mine) v.joined has; joined = All-tail Q (v.number, v.mine) v.joined has; apart = p.apart } },
      )

  -- the only seat
  only : (P : ℕ → View T E → Type 0) (v : View T E) → P 0 v → (j : ℕ) (d : View T E) → get_elem? (v ∷ []) j ≡ some d → P j d
  only P v h zero d e = subst (P 0) (some-injective v d e) h
  only P v h (suc j) d e = absurd (some-ne-none d (sym e))

  -- nothing was drawn but the number of the first seat
  abbrev beginning : Account E
  beginning = record { ticket = 0; serving = 0; numbers = 1; history = []; owner = λ t. 0; speaker = λ n. 0 }

  pub begins : Holds (table.opening (0 ∷ 0 ∷ 1 ∷ beds) (Some o ∷ []) (first_view o))
  begins = record {
    all = beginning;
    words = refl;
    fits = omega arith;
    behind = omega arith;
    first = omega arith;
    count = refl;
    undrawn = λ n h. refl;
    views = only (IsTrueView o beginning) (first_view o) record {
      opens = λ x e. cc;
      sees = starts_nil [];
      hears = starts_nil [];
      drawn = omega arith;
      speaks = λ _. All-cons (IsMember beginning 0 [] []) (0, []) [] record { drawn = omega arith; spoken = refl; turns = refl; known = inl refl } (All-nil (IsMember beginning 0 [] []));
      apart = lone 0;
      stage = tt;
    };
    slot = inl (o, refl, λ past old. subst (λ (l : List E). stands l o) (sym (append-nil past)) old);
  }
