-- What stays true of the seats as tickets and numbers are drawn and seats are joined.
use Rattle.std.proofs.Common.{◌≡◌, ℕ, ◌^◌, ◌<◌, ◌≤◌, ◌≢◌, List, ◌∷◌, get_or, set, sym, ap, ◌∙◌, subst, inl, inr, ◌⊎◌, ⊎_elim, arith, Option}
use Rattle.std.proofs.lemmas.List.Elements.{All-weaker}
use mathlib.Core.Option.{some, some-injective}
use lib.ListN.{get_elem?}
use lib.Seq.{set-get_or}
use Rattle.atomic_table.specs.Table.{State, keeps, stepped}
use Rattle.atomic_table.proofs.Lists.{at_set, set_else}
use Rattle.mdns_turn.specs.declared.view.View.{View}
use Rattle.mdns_turn.specs.declared.view.Stage.{Stage}
use Rattle.mdns_turn.specs.declared.view.Stage.TheVariants.{Idle, Waiting, Inside}
use Rattle.mdns_turn.specs.Rule.{beds, Account, IsAtStage, IsMember, members, IsTrueView, IsHome, IsOut, IsOneHistory}

-- a seat at this stage has no value
abbrev pub IsOutside : Stage → Type 0
IsOutside st = (t : ℕ) → st ≢ Inside t

pub idle_outside : (st : Stage) → st ≡ Idle → IsOutside st
idle_outside st e t f = cc

pub waiting_outside : (st : Stage) (k : ℕ) → st ≡ Waiting k → IsOutside st
waiting_outside st k e t f = cc

-- the account after a draw, a name or a join
abbrev pub moved_to : {E : Type 0} → Account E → ℕ → ℕ → (ℕ → ℕ) → (ℕ → ℕ) → Account E
moved_to all ticket numbers owner speaker = record all { ticket = ticket; numbers = numbers; owner = owner; speaker = speaker }

module _ {E : Type 0} (all : Account E) (k n : ℕ) (ow sp : ℕ → ℕ) (j : ℕ) where
  -- the seat has its tickets and its numbers still
  pub record IsKept : Type 0 where
    pub tickets : (t : ℕ) → t < all.ticket → all.owner t ≡ j → ow t ≡ j
    pub numbers : (m : ℕ) → m < all.numbers → all.speaker m ≡ j → sp m ≡ j

  stage_still : all.ticket ≤ k → IsKept → (st : Stage) (seen : List (ℕ × E)) → IsAtStage all j st seen → IsAtStage (moved_to all k n ow sp) j st seen
  stage_still up kept Idle seen p = tt
  stage_still up kept (Waiting t) seen p = let below = p.1 in (p.0, omega arith, kept.tickets t below p.2)
  stage_still up kept (Inside t) seen p = let below = p.1 in (p.0, omega arith, kept.tickets t below p.2, p.3)

  member_still : all.numbers ≤ n → IsKept → (seen told : List (ℕ × E)) (m : ℕ × List E) → IsMember all j seen told m → IsMember (moved_to all k n ow sp) j seen told m
  member_still more kept seen told m h = record { drawn = let below = h.drawn in omega arith; spoken = kept.numbers m.0 h.drawn h.spoken; turns = h.turns; known = h.known }

  -- what the seat knows stays true
  pub true_still : {T : Type 0} (o : T) (v : View T E) → all.ticket ≤ k → all.numbers ≤ n → IsKept → IsTrueView o all j v → IsTrueView o (moved_to all k n ow sp) j v
  true_still o v up more kept p = record {
    opens = p.opens;
    sees = p.sees;
    hears = p.hears;
    drawn = let below = p.drawn in omega arith;
    speaks = λ named. All-weaker (IsMember all j v.seen v.told) (IsMember (moved_to all k n ow sp) j v.seen v.told) (member_still more kept v.seen v.told) (members v) (p.speaks named);
    apart = p.apart;
    stage = stage_still up kept v.stage v.seen p.stage;
  }

-- the seat is at another stage
pub at_stage : {T E : Type 0} (o : T) (all : Account E) (j : ℕ) (v : View T E) (st : Stage) → IsAtStage all j st v.seen → IsTrueView o all j v → IsTrueView o all j (record v { stage = st })
at_stage o all j v st is p = record { opens = p.opens; sees = p.sees; hears = p.hears; drawn = p.drawn; speaks = p.speaks; apart = p.apart; stage = is }

-- the stage of the seat, where it is known
pub stage_of : {E : Type 0} (all : Account E) (j : ℕ) (st st' : Stage) (seen : List (ℕ × E)) → st ≡ st' → IsAtStage all j st seen → IsAtStage all j st' seen
stage_of {E} all j st st' seen e p = subst (λ (z : Stage). IsAtStage all j z seen) e p

module _ {T E : Type 0} (stands : List E → T → Type 0) (o : T) where
  abbrev pub Rule : State (Option T) (View T E) → Type 0
  Rule = IsOneHistory stands o

  abbrev pub Homes : Type 0
  Homes = List (mathlib.Core.Option.Option (Option T))

  -- one seat's view changes
  pub seats_stay : (P : ℕ → View T E → Type 0) (vs : List (View T E)) (me : ℕ) (w : View T E) → P me w → ((j : ℕ) (d : View T E) → j ≢ me → get_elem? vs j ≡ some d → P j d)
      → (j : ℕ) (d : View T E) → get_elem? (set vs me w) j ≡ some d → P j d
  seats_stay P vs me w mine others j d e = ⊎_elim (λ (t : (j ≡ me) × (w ≡ d)). subst (λ (x : ℕ × View T E). P x.0 x.1) (λ i. (sym t.0 i, t.1 i)) mine)
      (λ (t : (j ≢ me) × (get_elem? vs j ≡ some d)). others j d t.0 t.1) (at_set vs me j w d e)

  -- the value stays where it is, as the view of a seat without it changes
  pub slot_stays : (history : List (ℕ × E)) (vs : List (View T E)) (hs : Homes) (me : ℕ) (v w : View T E) → get_elem? vs me ≡ some v → IsOutside v.stage → IsHome stands o history hs ⊎ IsOut vs hs → IsHome stands o history hs ⊎ IsOut (set vs me w) hs
  slot_stays history vs hs me v w at out slot = ⊎_elim inl
      (λ (t : IsOut vs hs). inr (
        t.0,
        t.1,
        t.2,
        t.3,
        set_else vs me t.0 w
            (λ e. let a : get_elem? vs me ≡ some t.1 = subst (λ (x : ℕ). get_elem? vs x ≡ some t.1) e t.4 in
            out t.2 (ap (λ (x : View T E). x.stage) (some-injective v t.1 (sym at ∙ a)) ∙ t.5))
            ∙ t.4,
        t.5,
      ))
      slot

  -- a step that adds no turn and leaves the value where it is
  pub moved : (s : State (Option T) (View T E)) (r : Rule s) (ws : List ℕ) (me : ℕ) (v w : View T E) (k n : ℕ) (ow sp : ℕ → ℕ) → get_elem? s.views me ≡ some v → IsOutside v.stage
      → ws ≡ k ∷ r.all.serving ∷ n ∷ beds → k < 2 ^ 64 → r.all.ticket ≤ k → r.all.numbers ≤ n → ((j : ℕ) → IsKept r.all k n ow sp j)
      → IsTrueView o (moved_to r.all k n ow sp) me w → Rule record { words = ws; homes = s.homes; views = set s.views me w }
  moved s r ws me v w k n ow sp at out is small up more kept mine = let behind = r.behind in let first = r.first in record {
    all = moved_to r.all k n ow sp;
    words = is;
    fits = small;
    behind = omega arith;
    first = omega arith;
    count = r.count;
    undrawn = λ m h. r.undrawn m (omega arith);
    views = seats_stay (IsTrueView o (moved_to r.all k n ow sp)) s.views me w mine (λ j d other e. true_still r.all k n ow sp j o d up more (kept j) (r.views j d e));
    slot = slot_stays r.all.history s.views s.homes me v w at out r.slot;
  }

  -- a step that changes no word either
  pub unmoved : (s : State (Option T) (View T E)) (r : Rule s) (i me : ℕ) (cs : List (ℕ × Option T)) (v w : View T E) → get_elem? s.views me ≡ some v → IsOutside v.stage
      → IsTrueView o r.all me w → Rule (stepped s i (get_or s.words i 0) me cs w keeps)
  unmoved s r i me cs v w at out mine = subst (λ (ws : List ℕ). Rule record { words = ws; homes = s.homes; views = set s.views me w }) (sym (set-get_or s.words i 0))
      (moved s r s.words me v w r.all.ticket r.all.numbers r.all.owner r.all.speaker at out r.words r.fits (omega arith) (omega arith) (λ j. record { tickets = λ t h e. e; numbers = λ m h e. e }) mine)
