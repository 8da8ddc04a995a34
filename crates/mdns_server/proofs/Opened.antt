-- Turns that open sessions, one after the other.
use Rattle.std.proofs.Common.{arith, zero, suc, subst, ◌≡◌, ◌∙◌, ℕ, ◌+◌, Bool, true, false, List, [], ◌∷◌, ◌++◌, length, refl, ap, sym, Option, Some, None, IfSome}
use Rattle.std.proofs.lemmas.List.{append-nil, append_assoc, length-append}
use Rattle.mdns_turn.specs.Models.{SeatModel, TurnModel, IsSeatOf, IsSameSeat}
use Rattle.mdns_serve.specs.declared.shared.Shared.{Shared}
use Rattle.mdns_serve.specs.declared.happening.Happening.{Happening}
use Rattle.mdns_outside.specs.Doors.{GivesNone, GivesOne}
use Rattle.mdns_outside.specs.Places.{Adds}
use Rattle.mdns_server.specs.Endings.{is_done}
use Rattle.mdns_server.specs.Openings.{AreOpenings, Opens, OpensOne, HasOpened, opened_in}

abbrev Seated : Type 0
Seated = SeatModel Shared Happening

are_append : (turns more : List Happening) → AreOpenings turns → AreOpenings more → AreOpenings (turns ++ more)
are_append [] more are next = next
are_append (turn ∷ turns) more are next = (are.0, are_append turns more are.1 next)

-- no turn was taken, and no connection was given where all were let in
pub opens_none : (a : Seated) (g h : Option ℕ) (whole : Bool) → (whole ≡ true → GivesNone g h) → Opens a a g h whole
opens_none a g h whole kept = record {
  same = (refl, refl, refl);
  joined = refl;
  seen = ([], sym (append-nil a.seen));
  opened = [];
  are = tt;
  mine = sym (append-nil a.mine);
  given = λ is n e. (n, kept is n e, omega arith);
}

-- one turn was taken, and one connection given
pub opens_one : (a b : Seated) (g h : Option ℕ) (whole : Bool) → (whole ≡ true → GivesOne g h) → OpensOne a b → Opens a b g h whole
opens_one a b g h whole more one = record {
  same = one.same;
  joined = one.joined;
  seen = one.seen;
  opened = one.turn ∷ [];
  are = (one.is, tt);
  mine = one.mine;
  given = more;
}

-- turns, and further ones
pub opens_after : (a b c : Seated) (g h i : Option ℕ) (whole : Bool) → Opens a b g h true → Opens b c h i whole → Opens a c g i whole
opens_after a b c g h i whole first next = record {
  same = (next.same.0 ∙ first.same.0, next.same.1 ∙ first.same.1, next.same.2 ∙ first.same.2);
  joined = next.joined ∙ first.joined;
  seen = (first.seen.0 ++ next.seen.0, next.seen.1 ∙ ap (λ l. l ++ next.seen.0) first.seen.1 ∙ append_assoc a.seen first.seen.0 next.seen.0);
  opened = first.opened ++ next.opened;
  are = are_append first.opened next.opened first.are next.are;
  mine = next.mine ∙ ap (λ l. l ++ next.opened) first.mine ∙ append_assoc a.mine first.opened next.opened;
  given = λ is n e.
      let later = next.given is n e in
      let sooner = first.given refl later.0 later.1 in
      let long = length-append first.opened next.opened in
      let sum : n ≡ (sooner.0 + length first.opened) + length next.opened = later.2 ∙ ap (λ m. m + length next.opened) sooner.2 in (sooner.0, sooner.1, omega (arith, sum, long));
}

-- a seat stays one of the turn
pub still_seat : (t u : TurnModel Shared) (a b : Seated) → u ≡ t → IsSameSeat a b → IsSeatOf t a → IsSeatOf u b
still_seat t u a b e same is = (same.0 ∙ is.0 ∙ ap (λ (x : TurnModel Shared). x.table) (sym e), same.1 ∙ is.1 ∙ ap (λ (x : TurnModel Shared). Some x.opening) (sym e))

never : ◌≡◌ {A = Bool} false true → ⊥
never e = cc

-- no turn was taken, and some connection may have been turned away
pub opens_not : (a b : Seated) (g h : Option ℕ) → b ≡ a → Opens a b g h false
opens_not a b g h e = subst (λ (z : Seated). Opens a z g h false) (sym e) (opens_none a g h false (λ is. absurd (never is)))

-- a status of all done is 0
pub done_zero : (status : ℕ) → is_done status ≡ true → status ≡ 0
done_zero zero is = refl
done_zero (suc status) is = absurd (never is)

-- what a count is, where it is told twice
told_once : (m n : ℕ) → Some m ≡ Some n → m ≡ n
told_once m n e = cc

-- the door gave what the place counts
pub opens_closed : (a b : Seated) (g h i d e : Option ℕ) (whole done : Bool) → Opens a b d e whole → (done ≡ true → whole ≡ true) → ((n : ℕ) → g ≡ Some n → d ≡ Some 0) → h ≡ g → Adds h i e → Opens a b g i done
opens_closed a b g h i d e whole done first up none kept adds = record {
  same = first.same;
  joined = first.joined;
  seen = first.seen;
  opened = first.opened;
  are = first.are;
  mine = first.mine;
  given = λ is n told.
      let sum = adds.told n told in
      let had : g ≡ Some sum.0 = sym kept ∙ sum.2 in
      let gave = first.given (up is) sum.1 sum.3 in
      let fresh : gave.0 ≡ 0 = told_once gave.0 0 (sym gave.1 ∙ none sum.0 had) in
      let more : n ≡ sum.0 + (gave.0 + length first.opened) = sum.4 ∙ ap (λ m. sum.0 + m) gave.2 in (sum.0, had, omega (arith, fresh, more));
}

-- no turn was taken, and the status isn't that of all done
pub opens_failed : (a b : Seated) (g h : Option ℕ) (status : ℕ) → b ≡ a → (status ≡ 0 → ⊥) → Opens a b g h (is_done status)
opens_failed a b g h status e not = subst (λ (z : Seated). Opens a z g h (is_done status)) (sym e) (opens_none a g h (is_done status) (λ is. absurd (not (done_zero status is))))

-- such are the statuses where a part couldn't be made, and those before anything is accepted
pub not_done : (status n : ℕ) → status ≡ suc n → status ≡ 0 → ⊥
not_done status n is none = absurd (omega arith)

-- a turn that opened a session is the last
pub has_opened : (old new : List Happening) (turn : Happening) (result : Option ℕ) → new ≡ old ++ turn ∷ [] → result ≡ opened_in turn
    → IfSome result (λ session. HasOpened new session)
has_opened old new turn None mine is = tt
has_opened old new turn (Some session) mine is = (old, turn, mine, sym is)
