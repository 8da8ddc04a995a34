-- Counts of a place that rise.
use Rattle.std.proofs.Common.{arith, ◌≡◌, ◌∙◌, inl, inr, ℕ, suc, Bool, false, Option, refl, sym, ap, subst, Result, Ok, Err, if◌then◌else◌}
use Rattle.std.specs.Prelude.{◌≢◌, ◌⊎◌}
use Rattle.mdns_base.specs.Outside.{Rose}
use Rattle.mdns_outside.specs.Places.{Counted, risen, counting, MakesLink, MakesDoor, MakesSpawner, TakesDoor, TakesSpawner, TakesEar}
use Rattle.mdns_server.specs.declared.status.Stop.{Stop}
use Rattle.mdns_server.specs.declared.status.Stop.TheVariants.{Over, Door, Spawner, Link}
use Rattle.mdns_server.specs.Endings.{Stays, MayFault, StaysCounted, TakesBack, IsLoopStatus, Ends, stop_status}

-- a count that has risen stays so
pub rose_stays : (a b c : ℕ) → Rose a b → Stays b c → Rose a c
rose_stays a b c rose stays = omega arith

pub stays_rose : (a b c : ℕ) → Stays a b → Rose b c → Rose a c
stays_rose a b c stays rose = omega arith

pub stays_stays : (a b c : ℕ) → Stays a b → Stays b c → Stays a c
stays_stays a b c first next = omega arith

module _ {E : Type 0} where
  -- where a part was made, nothing changed
  pub makes_same : {T : Type 0} (a b : Counted) (x : T) → MakesLink {T = T} {E = E} a b (Ok x) → b ≡ a
  makes_same a b x made = made.1 ∙ ap (λ (n : ℕ). record a { link_faults = n }) made.2.quiet

  -- a part was made, and then another one, or it failed
  pub makes_then : {T U : Type 0} (a b c : Counted) (x : T) (r : Result U E) → MakesLink {T = T} {E = E} a b (Ok x) → MakesLink b c r → MakesLink a c r
  makes_then a b c x r first next = subst (λ z. MakesLink z c r) (makes_same a b x first) next

  -- what failed, failed for the whole
  pub makes_fail : {T U F : Type 0} (a b : Counted) (e : E) (f : F) → MakesLink {T = T} {E = E} a b (Err e) → MakesLink {T = U} {E = F} a b (Err f)
  makes_fail a b e f made = (made.0, made.1, record { later = made.2.later; failed = made.2.failed; quiet = tt })

  -- nothing but the count of the link's faults may have changed
  pub makes_faults : {T : Type 0} (a b : Counted) (r : Result T E) → MakesLink a b r → MayFault a b
  makes_faults a b r made = let later = made.2.later in (made.0, made.1, omega arith)

-- the same of two times
pub faults_then : (a b c : Counted) → MayFault a b → MayFault b c → MayFault a c
faults_then a b c first next = (next.0, next.1 ∙ ap (λ (z : Counted). record z { link_faults = next.0 }) first.1, stays_stays a.link_faults b.link_faults next.0 (subst (λ (z : Counted). Stays a.link_faults z.link_faults) (sym first.1) first.2) next.2)

pub faults_none : (a : Counted) → MayFault a a
faults_none a = (a.link_faults, refl, omega arith)

-- Parts that haven't failed were taken back.
pub back_ear : (a b : Counted) (ear : ℕ) → TakesEar a b ear → ear ≡ 0 → b ≡ a
back_ear a b ear taken none = taken ∙ ap (λ (n : ℕ). record a { link_faults = counting a.link_faults n }) none

pub back_spawner : (a b : Counted) (spawner : ℕ) → TakesSpawner a b spawner → spawner ≡ 0 → b ≡ a
back_spawner a b spawner taken none = taken ∙ ap (λ (n : ℕ). record a { spawner_faults = counting a.spawner_faults n }) none

pub back_door : (a b : Counted) (door : ℕ) (over : Bool) (given : Option ℕ) → TakesDoor a b door over given → door ≡ 0 → over ≡ false → StaysCounted a b
back_door a b door over given taken none not = (
  taken.0,
  taken.1
      ∙ ap (λ (n : ℕ). record a { door_faults = counting a.door_faults n; doors_over = if over then risen a.doors_over else a.doors_over; given = taken.0 }) none
      ∙ ap (λ (o : Bool). record a { door_faults = a.door_faults; doors_over = if o then risen a.doors_over else a.doors_over; given = taken.0 }) not,
)

-- an ear, a door and a spawner that haven't failed
pub back_all : (a b c d : Counted) (ear door spawner : ℕ) (over : Bool) (given : Option ℕ) → TakesEar a b ear → TakesDoor b c door over given → TakesSpawner c d spawner
    → ear ≡ 0 → door ≡ 0 → over ≡ false → spawner ≡ 0 → StaysCounted a d
back_all a b c d ear door spawner over given first second third no_ear no_door not no_spawner =
    subst (λ (z : Counted). StaysCounted a z) (sym (back_spawner c d spawner third no_spawner))
    (subst (λ (z : Counted). StaysCounted z c) (back_ear a b ear first no_ear) (back_door b c door over given second no_door not))

-- nothing was done, for want of memory or where the output failed
pub still_ends : (a b : Counted) (status : ℕ) → StaysCounted a b → (status ≡ 5) ⊎ (status ≡ 6) → Ends a b status
still_ends a b status stays early = record {
  plan = ap (λ (z : Counted). z.plan) stays.1;
  over = λ e. absurd (unlike 0 (λ f. cc) (λ f. cc) e);
  not_over = λ _ _. ap (λ (z : Counted). z.doors_over) stays.1;
  door = λ e. absurd (unlike 9 (λ f. cc) (λ f. cc) e);
  no_door = λ _. ap (λ (z : Counted). z.door_faults) stays.1;
  spawner = λ e. absurd (unlike 10 (λ f. cc) (λ f. cc) e);
  no_spawner = λ _. ap (λ (z : Counted). z.spawner_faults) stays.1;
  link = λ e. absurd (unlike 11 (λ f. cc) (λ f. cc) e);
  no_link = λ _ _ _. ap (λ (z : Counted). z.link_faults) stays.1;
}
  where
    unlike : (n : ℕ) → (5 ≡ n → ⊥) → (6 ≡ n → ⊥) → status ≡ n → ⊥
    unlike n five six e = of early
      where
        of : (status ≡ 5) ⊎ (status ≡ 6) → ⊥
        of (inl f) = five (sym f ∙ e)
        of (inr f) = six (sym f ∙ e)

-- a part of the link couldn't be made
pub link_ends : {T E : Type 0} (a b : Counted) (e : E) → MakesLink {T = T} a b (Err e) → Ends a b 11
link_ends a b e made = record {
  plan = ap (λ (z : Counted). z.plan) made.1;
  over = λ f. absurd (cc);
  not_over = λ _ not. absurd (not refl);
  door = λ f. absurd (cc);
  no_door = λ _. ap (λ (z : Counted). z.door_faults) made.1;
  spawner = λ f. absurd (cc);
  no_spawner = λ _. ap (λ (z : Counted). z.spawner_faults) made.1;
  link = λ _. subst (λ (z : Counted). Rose a.link_faults z.link_faults) (sym made.1) made.2.failed;
  no_link = λ _ _ not. absurd (not refl);
}

-- a spawner couldn't be made
pub spawner_ends : {T E : Type 0} (a b : Counted) (e : E) → MakesSpawner {T = T} a b (Err e) → Ends a b 10
spawner_ends a b e made = record {
  plan = ap (λ (z : Counted). z.plan) made.1;
  over = λ f. absurd (cc);
  not_over = λ _ _. ap (λ (z : Counted). z.doors_over) made.1;
  door = λ f. absurd (cc);
  no_door = λ _. ap (λ (z : Counted). z.door_faults) made.1;
  spawner = λ _. subst (λ (z : Counted). Rose a.spawner_faults z.spawner_faults) (sym made.1) made.2.failed;
  no_spawner = λ not. absurd (not refl);
  link = λ f. absurd (cc);
  no_link = λ _ not _. absurd (not refl);
}

-- a door couldn't be made
pub door_ends : {T E : Type 0} (a b : Counted) (e : E) → MakesDoor {T = T} a b (Err e) → Ends a b 9
door_ends a b e made = record {
  plan = ap (λ (z : Counted). z.plan) made.1;
  over = λ f. absurd (cc);
  not_over = λ _ _. ap (λ (z : Counted). z.doors_over) made.1;
  door = λ _. subst (λ (z : Counted). Rose a.door_faults z.door_faults) (sym made.1) made.2.failed;
  no_door = λ not. absurd (not refl);
  spawner = λ f. absurd (cc);
  no_spawner = λ _. ap (λ (z : Counted). z.spawner_faults) made.1;
  link = λ f. absurd (cc);
  no_link = λ not _ _. absurd (not refl);
}

only_done : (status : ℕ) → IsLoopStatus status → (status ≡ 9 → ⊥) → (status ≡ 10 → ⊥) → (status ≡ 11 → ⊥) → status ≡ 0
only_done status (inl e) nine ten eleven = e
only_done status (inr (inl e)) nine ten eleven = absurd (nine e)
only_done status (inr (inr (inl e))) nine ten eleven = absurd (ten e)
only_done status (inr (inr (inr e))) nine ten eleven = absurd (eleven e)

-- a fault of the link is counted before the end or at the end
link_rose : (a b c : Counted) → MayFault a b → (stopped : Type 0) → (stopped → Rose a.link_faults b.link_faults) → Stays b.link_faults c.link_faults → stopped ⊎ Rose b.link_faults c.link_faults → Rose a.link_faults c.link_faults
link_rose a b c first stopped rose later (inl is) = rose_stays a.link_faults b.link_faults c.link_faults (rose is) later
link_rose a b c first stopped rose later (inr more) = stays_rose a.link_faults b.link_faults c.link_faults (subst (λ (z : Counted). Stays a.link_faults z.link_faults) (sym first.1) first.2) more

module _ {E : Type 0} where
  -- What was counted between two moments, where before it nothing but the count of the link's faults changed, and that only where it is why the server stopped.
  pub run_ends : (a b c : Counted) (status : ℕ) (stop : Stop E) (door spawner : ℕ) (over : Bool) → MayFault a b → (stop ≢ Link → b ≡ a)
      → (stop ≢ Over → over ≡ false) → (stop ≢ Door → door ≡ 0) → (stop ≢ Spawner → spawner ≡ 0) → c.plan ≡ b.plan → TakesBack b c door over spawner
      → (status ≡ 0 → Rose b.doors_over c.doors_over) → (status ≡ 9 → Rose b.door_faults c.door_faults) → (status ≡ 10 → Rose b.spawner_faults c.spawner_faults)
      → (stop ≡ Link → Rose a.link_faults b.link_faults) → (status ≡ 11 → (stop ≡ Link) ⊎ Rose b.link_faults c.link_faults) → Stays b.link_faults c.link_faults
      → (stop_status stop ≢ 0 → status ≡ stop_status stop) → (stop_status stop ≡ 0 → (status ≡ 0) ⊎ (status ≡ 11)) → (status ≡ 0 → stop ≡ Over)
      → (status ≡ 0 → c.link_faults ≡ b.link_faults) → IsLoopStatus status → Ends a c status
  run_ends a b c status stop door spawner over first still not_over no_door no_spawner plan back rose_over rose_door rose_spawner early rose_link later from ear whole quiet is = record {
    plan = plan ∙ ap (λ (z : Counted). z.plan) first.1;
    over = λ e. subst (λ n. Rose n c.doors_over) (ap (λ (z : Counted). z.doors_over) first.1) (rose_over e);
    not_over = λ zero eleven.
        back.doors_over ∙ ap (λ (o : Bool). if o then risen b.doors_over else b.doors_over) (not_over (λ e. neither zero eleven (ear (ap stop_status e))))
        ∙ ap (λ (z : Counted). z.doors_over) first.1;
    door = λ e. subst (λ n. Rose n c.door_faults) (ap (λ (z : Counted). z.door_faults) first.1) (rose_door e);
    no_door = λ nine. back.door_faults ∙ ap (counting b.door_faults) (no_door (λ e. nine (follows 8 (ap stop_status e)))) ∙ ap (λ (z : Counted). z.door_faults) first.1;
    spawner = λ e. subst (λ n. Rose n c.spawner_faults) (ap (λ (z : Counted). z.spawner_faults) first.1) (rose_spawner e);
    no_spawner = λ ten. back.spawner_faults ∙ ap (counting b.spawner_faults) (no_spawner (λ e. ten (follows 9 (ap stop_status e)))) ∙ ap (λ (z : Counted). z.spawner_faults) first.1;
    link = λ e. link_rose a b c first (stop ≡ Link) early later (rose_link e);
    no_link = λ nine ten eleven.
        let done = only_done status is nine ten eleven in
        quiet done ∙ ap (λ (z : Counted). z.link_faults) (still (λ e. let no : ◌≡◌ {A = Stop E} Over Link = sym (whole done) ∙ e in cc));
  }
    where
      follows : (n : ℕ) → stop_status stop ≡ suc n → status ≡ suc n
      follows n e = from (λ zero. let no : suc n ≡ 0 = sym e ∙ zero in cc) ∙ e

      neither : (status ≡ 0 → ⊥) → (status ≡ 11 → ⊥) → (status ≡ 0) ⊎ (status ≡ 11) → ⊥
      neither zero eleven (inl e) = zero e
      neither zero eleven (inr e) = eleven e
