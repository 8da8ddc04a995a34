-- The steps of a turn keep the rule: draw, look and serve.
use Rattle.std.proofs.Common.{◌≡◌, ℕ, ◌+◌, ◌%◌, ◌^◌, ◌<◌, eqb, cond, Bool, true, ◌≢◌, List, [], ◌∷◌, ◌++◌, get_or, set, sym, refl, ap, ◌∙◌, subst, inl, inr, ⊎_elim, arith, length-append, eq-eqb, ne_eqb, mod-eq_of_lt, All, Option, Some}
use Rattle.std.proofs.lemmas.List.Elements.{All-cons, All-head, All-tail, All-weaker}
use mathlib.Core.Logic.{dite}
use mathlib.Core.Option.{none, some, some-injective}
use native.Mathlib.Decide.{ℕ_discrete}
use lib.ListN.{get_elem?}
use lib.Seq.{set-get_or}
use prog.Atomic.{either}
use Rattle.atomic_table.specs.Table.{State, step, Act, keeps, takes, gives, Valid, carried_after, stepped, Allows}
use Rattle.atomic_table.proofs.Lists.{exchanged}
use Rattle.mdns_turn.specs.declared.view.View.{View}
use Rattle.mdns_turn.specs.declared.view.Stage.{Stage}
use Rattle.mdns_turn.specs.declared.view.Stage.TheVariants.{Idle, Waiting, Inside}
use Rattle.mdns_turn.specs.History.{StartsWith, turns, turns_of, StandsAfter, HasTurns}
use Rattle.mdns_turn.specs.Views.{SeatState, waiting, inside, served}
use Rattle.mdns_turn.specs.Rule.{beds, Account, IsAtStage, IsMember, members, IsTrueView, IsHome, IsOut}
use Rattle.mdns_turn.specs.Plays.{Draws, Comes, Looks, Serves}
use Rattle.mdns_turn.proofs.Histories.{turns_of-more, turns_of-other, starts_same, starts_more, get_set, others_differ}
use Rattle.mdns_turn.proofs.Frames.{IsOutside, idle_outside, waiting_outside, moved_to, IsKept, true_still, at_stage, stage_of, Rule, Homes, seats_stay, moved, unmoved}

module _ {T E : Type 0} (stands : List E → T → Type 0) (o : T) where
  abbrev S : Type 0
  S = State (Option T) (View T E)

  abbrev M : Type 0
  M = SeatState T E

  abbrev Holds : S → Type 0
  Holds = Rule stands o

  -- what a seat and its table may become by a step on the word i, which tells P
  abbrev Becomes : S → ℕ → M → ℕ → ℕ → (M → Type 0) → Type 0
  Becomes s id m i n P = (w : View T E) × (a : Act (Option T)) × Valid s.homes m.1 a × Holds (stepped s i n id m.1 w a) × P (w, carried_after m.1 a)

  pub draw_keeps : (slots id : ℕ) (m : M) (old new : ℕ) (said : mathlib.Core.Option.Option (Option T)) → m.0.stage ≡ Idle → new ≡ old + 1 → new < 2 ^ 64
      → Allows Holds slots id m 0 (λ y. either (eqb y old) new y) (Draws (step slots 0 old new said) m)
  draw_keeps slots id m old new said idle up small s r wide at _ = let x : ℕ = get_or s.words 0 0 in let is : x ≡ r.all.ticket = ap (λ (ws : List ℕ). get_or ws 0 0) r.words in
      let out : IsOutside m.0.stage = idle_outside m.0.stage idle in let p = r.views id m.0 at in
      exchanged x old new (λ n. Becomes s id m 0 n (Draws (step slots 0 old new said) m x))
      (λ hit. let ow : ℕ → ℕ = λ t. cond (eqb t x) id (r.all.owner t) in let behind = r.behind in
      let kept : (j : ℕ) → IsKept r.all new r.all.numbers ow r.all.speaker j = λ j. record { tickets = λ t below e. ap (λ (c : Bool). cond c id (r.all.owner t)) (ne_eqb t x (λ f. omega arith)) ∙ e; numbers = λ n below e. e } in (
        waiting m.0 x,
        keeps,
        tt,
        moved stands o s r (set s.words 0 new) id m.0 (waiting m.0 x) new r.all.numbers ow r.all.speaker at out (ap (λ (ws : List ℕ). set ws 0 new) r.words) small (omega arith) (omega arith) kept
            (at_stage o (moved_to r.all new r.all.numbers ow r.all.speaker) id m.0 (Waiting x) (omega arith, omega arith, ap (λ (c : Bool). cond c id (r.all.owner x)) (eq-eqb x x refl))
            (true_still r.all new r.all.numbers ow r.all.speaker id o m.0 (omega arith) (omega arith) (kept id) p)),
        ((λ _. refl), λ miss. absurd (miss hit)),
      ))
      (λ miss. (m.0, keeps, tt, unmoved stands o s r 0 id m.1 m.0 m.0 at out p, ((λ hit. absurd (miss hit)), λ _. refl)))

  same_ticket : (st : Stage) (a b : ℕ) → st ≡ Waiting a → st ≡ Waiting b → a ≡ b
  same_ticket st a b p q = cc

  -- the seat whose ticket is served finds the value at home
  at_home : (s : S) (r : Holds s) (id : ℕ) (v : View T E) (t : ℕ) → get_elem? s.views id ≡ some v → v.stage ≡ Waiting t → r.all.serving ≡ t → IsHome stands o r.all.history s.homes
  at_home s r id v t at is now = let p : IsAtStage r.all id (Waiting t) v.seen = stage_of r.all id v.stage (Waiting t) v.seen is (r.views id v at).stage in
      ⊎_elim (λ (h : IsHome stands o r.all.history s.homes). h)
      (λ (h : IsOut s.views s.homes). let u : View T E = h.1 in
      let q : IsAtStage r.all h.0 (Inside h.2) u.seen = stage_of r.all h.0 u.stage (Inside h.2) u.seen h.5 (r.views h.0 u h.4).stage in
      let same : id ≡ h.0 = sym p.2 ∙ (ap r.all.owner (sym now ∙ sym q.0) ∙ q.2) in
      let a : get_elem? s.views id ≡ some u = subst (λ (x : ℕ). get_elem? s.views x ≡ some u) (sym same) h.4 in
      absurd (waiting_outside v.stage t is h.2 (ap (λ (x : View T E). x.stage) (some-injective v u (sym at ∙ a)) ∙ h.5)))
      r.slot

  -- the members of a seat that has seen the whole history
  knows_all : (all : Account E) (id : ℕ) (v : View T E) (whole : List (ℕ × E)) → all.history ≡ whole → All (IsMember all id v.seen v.told) (members v) → All (IsMember all id whole v.told) (members v)
  knows_all all id v whole e = All-weaker (IsMember all id v.seen v.told) (IsMember all id whole v.told)
      (λ m h. record { drawn = h.drawn; spoken = h.spoken; turns = h.turns; known = inl (ap (turns_of m.0) (sym e) ∙ h.turns) }) (members v)

  -- and their turns
  all_turns : (all : Account E) (id : ℕ) (v : View T E) (whole : List (ℕ × E)) → all.history ≡ whole → v.named ≡ true → IsTrueView o all id v → HasTurns whole v.number v.mine v.joined
  all_turns all id v whole e named p = let P : ℕ × List E → Type 0 = λ m. turns_of m.0 whole ≡ m.1 in
      let h : All P (members v) = All-weaker (IsMember all id v.seen v.told) P (λ m k. ap (turns_of m.0) (sym e) ∙ k.turns) (members v) (p.speaks named) in
      record { mine = All-head P (v.number, v.mine) v.joined h; joined = All-tail P (v.number, v.mine) v.joined h; apart = p.apart }

  enters : (s : S) (r : Holds s) (slots id : ℕ) (m : M) (t : ℕ) → get_elem? s.views id ≡ some m.0 → m.0.stage ≡ Waiting t → m.0.named ≡ true → get_or s.words 1 0 ≡ t
      → Becomes s id m 1 (get_or s.words 1 0) (Looks stands (step slots 1 0 0 none) m (get_or s.words 1 0))
  enters s r slots id m t at is named hit = let p = r.views id m.0 at in let now : r.all.serving ≡ t = sym (ap (λ (ws : List ℕ). get_or ws 1 0) r.words) ∙ hit in
      let h = at_home s r id m.0 t at is now in let y : T = h.0 in let st : IsAtStage r.all id (Waiting t) m.0.seen = stage_of r.all id m.0.stage (Waiting t) m.0.seen is p.stage in
      let between : List (ℕ × E) = p.sees.0 in let whole : List (ℕ × E) = m.0.seen ++ between in let is_whole : r.all.history ≡ whole = p.sees.1 in
      let w : View T E = inside m.0 t whole in (
        w,
        takes 0 (Some y),
        ap (λ (hs : Homes stands o). get_elem? hs 0) h.1,
        subst (λ (ws : List ℕ). Holds record { words = ws; homes = set s.homes 0 none; views = set s.views id w }) (sym (set-get_or s.words 1 0))
            record {
              all = r.all;
              words = r.words;
              fits = r.fits;
              behind = r.behind;
              first = r.first;
              count = r.count;
              undrawn = r.undrawn;
              views = seats_stay stands o (IsTrueView o r.all) s.views id w
                  record {
                    opens = p.opens;
                    sees = subst (λ (l : List (ℕ × E)). StartsWith r.all.history l) is_whole (starts_same r.all.history);
                    hears = p.hears;
                    drawn = p.drawn;
                    speaks = λ n. knows_all r.all id m.0 whole is_whole (p.speaks n);
                    apart = p.apart;
                    stage = (sym now, st.1, st.2, sym is_whole);
                  }
                  (λ j d other e. r.views j d e);
              slot = inr (id, w, t, ap (λ (hs : Homes stands o). set hs 0 none) h.1, get_set s.views id m.0 w at, refl);
            },
        λ t' is'. let e : t' ≡ t = same_ticket m.0.stage t' t is' is in (
          (
              λ _.
              subst (λ (z : ℕ). Comes stands z m (w, (0, Some y) ∷ m.1)) (sym e) record {
                value = y;
                between = between;
                seat = refl;
                current = record {
                  right = λ x opens past old. subst (λ (l : List (ℕ × E)). stands (past ++ turns l) y) is_whole (h.2 past (subst (λ (z : T). stands past z) (p.opens x opens) old));
                  turns = all_turns r.all id m.0 whole is_whole named p;
                };
              }),
          λ miss. absurd (miss (hit ∙ sym e)),
        ),
      )

  pub look_keeps : (slots id : ℕ) (m : M) (t : ℕ) → m.0.stage ≡ Waiting t → m.0.named ≡ true → Allows Holds slots id m 1 (λ y. y) (Looks stands (step slots 1 0 0 none) m)
  look_keeps slots id m t is named s r wide at _ = dite (ℕ_discrete (get_or s.words 1 0) t) (λ hit. enters s r slots id m t at is named hit)
      (λ miss. (m.0, keeps, tt, unmoved stands o s r 1 id m.1 m.0 m.0 at (waiting_outside m.0.stage t is) (r.views id m.0 at), λ t' is'. ((λ hit. absurd (miss (hit ∙ same_ticket m.0.stage t' t is' is))), λ _. refl)))

  -- the table has one slot
  one_home : (s : S) (r : Holds s) (h : mathlib.Core.Option.Option (Option T)) → set s.homes 0 h ≡ h ∷ []
  one_home s r h = ⊎_elim (λ (t : IsHome stands o r.all.history s.homes). ap (λ (hs : Homes stands o). set hs 0 h) t.1) (λ (t : IsOut s.views s.homes). ap (λ (hs : Homes stands o). set hs 0 h) t.3) r.slot

  -- the account after the seat with this number has added the turn x
  abbrev added_to : Account E → ℕ → E → Account E
  added_to all n x = record all { serving = all.serving + 1; history = all.history ++ (n, x) ∷ [] }

  module _ (all : Account E) (id : ℕ) (v : View T E) (x : E) (p : IsTrueView o all id v) (named : v.named ≡ true) where
    abbrev more : Account E
    more = added_to all v.number x

    own_number : all.speaker v.number ≡ id
    own_number = (All-head (IsMember all id v.seen v.told) (v.number, v.mine) v.joined (p.speaks named)).spoken

    -- a member of another seat has no more turns than before
    member_stays : (j : ℕ) → j ≢ id → (seen told : List (ℕ × E)) (m : ℕ × List E) → IsMember all j seen told m → IsMember more j seen told m
    member_stays j other seen told m h = record {
      drawn = h.drawn;
      spoken = h.spoken;
      turns = turns_of-other m.0 v.number all.history x (λ same. other (sym h.spoken ∙ (ap all.speaker (sym same) ∙ own_number))) ∙ h.turns;
      known = h.known;
    }

    -- another seat's ticket comes later
    stage_stays : (t : ℕ) → t ≡ all.serving → all.owner t ≡ id → (j : ℕ) → j ≢ id → (st : Stage) (seen : List (ℕ × E)) → IsAtStage all j st seen → IsAtStage more j st seen
    stage_stays t now mine j other Idle seen q = tt
    stage_stays t now mine j other (Waiting u) seen q = let from = q.0 in let apart : u ≢ all.serving = λ e. other (sym q.2 ∙ (ap all.owner (e ∙ sym now) ∙ mine)) in (omega arith, q.1, q.2)
    stage_stays t now mine j other (Inside u) seen q = absurd (other (sym q.2 ∙ (ap all.owner (q.0 ∙ sym now) ∙ mine)))

    view_stays : (t : ℕ) → t ≡ all.serving → all.owner t ≡ id → (j : ℕ) (d : View T E) → j ≢ id → IsTrueView o all j d → IsTrueView o more j d
    view_stays t now mine j d other k = record {
      opens = k.opens;
      sees = starts_more all.history d.seen ((v.number, x) ∷ []) k.sees;
      hears = starts_more all.history d.told ((v.number, x) ∷ []) k.hears;
      drawn = k.drawn;
      speaks = λ n. All-weaker (IsMember all j d.seen d.told) (IsMember more j d.seen d.told) (member_stays j other d.seen d.told) (members d) (k.speaks n);
      apart = k.apart;
      stage = stage_stays t now mine j other d.stage d.seen k.stage;
    }

    -- the seat itself has one turn more, and those that were joined into it have none
    own_view : v.seen ≡ all.history → IsTrueView o more id (served v (x ∷ []))
    own_view whole = let w : View T E = served v (x ∷ []) in let P : ℕ × List E → Type 0 = IsMember all id v.seen v.told in let Q : ℕ × List E → Type 0 = IsMember more id w.seen w.told in
        let h : P (v.number, v.mine) = All-head P (v.number, v.mine) v.joined (p.speaks named) in
        let seen_all : all.history ++ (v.number, x) ∷ [] ≡ w.seen = ap (λ (l : List (ℕ × E)). l ++ (v.number, x) ∷ []) (sym whole) in
        let mine_more : turns_of v.number (all.history ++ (v.number, x) ∷ []) ≡ v.mine ++ x ∷ [] = turns_of-more v.number all.history x ∙ ap (λ (l : List E). l ++ x ∷ []) h.turns in
        record {
          opens = p.opens;
          sees = subst (λ (l : List (ℕ × E)). StartsWith (all.history ++ (v.number, x) ∷ []) l) seen_all (starts_same (all.history ++ (v.number, x) ∷ []));
          hears = starts_more all.history v.told ((v.number, x) ∷ []) p.hears;
          drawn = p.drawn;
          speaks = λ _. All-cons Q (v.number, w.mine) v.joined record { drawn = h.drawn; spoken = h.spoken; turns = mine_more; known = inl (ap (turns_of v.number) (sym seen_all) ∙ mine_more) }
              (λ k d below. joined_stays seen_all (get_or v.joined k d) (others_differ v.number v.joined p.apart k d below) (All-tail P (v.number, v.mine) v.joined (p.speaks named) k d below));
          apart = p.apart;
          stage = tt;
        }
      where
        joined_stays : all.history ++ (v.number, x) ∷ [] ≡ (served v (x ∷ [])).seen → (m : ℕ × List E) → v.number ≢ m.0 → IsMember all id v.seen v.told m → IsMember more id (served v (x ∷ [])).seen v.told m
        joined_stays seen_all m other h = let still : turns_of m.0 (all.history ++ (v.number, x) ∷ []) ≡ m.1 = turns_of-other m.0 v.number all.history x other ∙ h.turns in
            record { drawn = h.drawn; spoken = h.spoken; turns = still; known = inl (ap (turns_of m.0) (sym seen_all) ∙ still) }

  serves : (slots id : ℕ) (v : View T E) (t : ℕ) (y : T) (more : List (ℕ × Option T)) (q : T) (x : E) → v.stage ≡ Inside t → v.named ≡ true → v.opening ≡ Some q
      → StandsAfter stands q (v.seen ++ (v.number, x) ∷ []) y
      → Allows Holds slots id (v, (0, Some y) ∷ more) 1 (λ n. (n + 1) % 2 ^ 64) (Serves (x ∷ []) (step slots 1 1 0 none) (v, (0, Some y) ∷ more))
  serves slots id v t y more q x is named opens stand s r wide at _ = let p = r.views id v at in let all : Account E = r.all in
      let st : IsAtStage all id (Inside t) v.seen = stage_of all id v.stage (Inside t) v.seen is p.stage in
      let now : t ≡ all.serving = st.0 in let below : t < all.ticket = st.1 in let few : v.number < all.numbers = p.drawn in let fits = r.fits in
      let small : (all.serving + 1) % 2 ^ 64 ≡ all.serving + 1 = mod-eq_of_lt (omega arith) in (
        served v (x ∷ []),
        gives,
        tt,
        record {
          all = added_to all v.number x;
          words = ap (λ (ws : List ℕ). set ws 1 ((get_or ws 1 0 + 1) % 2 ^ 64)) r.words ∙ ap (λ (n : ℕ). all.ticket ∷ n ∷ all.numbers ∷ beds) small;
          fits = fits;
          behind = omega arith;
          first = r.first;
          count = length-append all.history ((v.number, x) ∷ []) ∙ ap (λ (n : ℕ). n + 1) r.count;
          undrawn = λ n h. turns_of-other n v.number all.history x (λ e. omega arith) ∙ r.undrawn n h;
          views = seats_stay stands o (IsTrueView o (added_to all v.number x)) s.views id (served v (x ∷ [])) (own_view all id v x p named st.3)
              (λ j d other e. view_stays all id v x p named t now st.2 j d other (r.views j d e));
          slot = inl (
            y,
            one_home s r (some (Some y)),
            λ past old. subst (λ (l : List (ℕ × E)). stands (past ++ turns (l ++ (v.number, x) ∷ [])) y) st.3 (stand past (subst (λ (z : T). stands past z) (sym (p.opens q opens)) old)),
          );
        },
        refl,
      )

  -- the same for the list of turns, of which there is one
  pub serve_keeps : (slots id : ℕ) (m : M) (t : ℕ) (y : T) (more : List (ℕ × Option T)) (q : T) (x : E) (xs : List E) → m.1 ≡ (0, Some y) ∷ more → xs ≡ x ∷ [] → m.0.stage ≡ Inside t → m.0.named ≡ true → m.0.opening ≡ Some q
      → StandsAfter stands q (served m.0 xs).seen y → Allows Holds slots id m 1 (λ n. (n + 1) % 2 ^ 64) (Serves xs (step slots 1 1 0 none) m)
  serve_keeps slots id m t y more q x xs holds one is named opens stand = let v : View T E = m.0 in
      subst (λ (c : List (ℕ × Option T)). Allows Holds slots id (v, c) 1 (λ n. (n + 1) % 2 ^ 64) (Serves xs (step slots 1 1 0 none) (v, c))) (sym holds)
      (subst (λ (l : List E). Allows Holds slots id (v, (0, Some y) ∷ more) 1 (λ n. (n + 1) % 2 ^ 64) (Serves l (step slots 1 1 0 none) (v, (0, Some y) ∷ more))) (sym one)
      (serves slots id v t y more q x is named opens (subst (λ (l : List E). StandsAfter stands q (served v l).seen y) one stand)))
