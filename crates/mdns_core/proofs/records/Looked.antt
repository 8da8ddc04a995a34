-- What an event looks at is little: the names that were put for it are those that it may look at, each once.
use Rattle.std.proofs.Common.{◌≡◌, ℕ, ◌+◌, ◌≤◌, Bool, true, false, ◌||◌, ◌&&◌, List, [], ◌∷◌, refl, sym, subst, ◌∙◌, arith}
use Rattle.std.specs.Prelude.{nat_le}
use Rattle.std.specs.List.{list_any, list_all, IsDistinct}
use Rattle.std.proofs.lemmas.Bool.{and_parts, or_left, or_right}
use Rattle.dns_name.specs.Names.{folded_eq}
use Rattle.dns_name.proofs.Folding.{folded_eq-equivalence}
use Rattle.dns_record.specs.declared.record.Rr.{Rr}
use Rattle.mdns_history.specs.declared.held.Held.{Held}
use Rattle.mdns_cache.specs.Ended.{is_among, is_of_ended}
use Rattle.mdns_happened.specs.Told.{Told}
use Rattle.mdns_records.specs.After.{is_named, is_of_event}
use Rattle.mdns_records.specs.Visits.{visits_of_all}
use Rattle.mdns_question.specs.declared.tracked.Tracked.{Tracked}
use Rattle.mdns_claims.specs.Moved.{is_moved}
use Rattle.sd_sessions.specs.Put.{is_called, ArePutOnce, ArePutOnly}
use Rattle.mdns_asking.specs.Walked.{is_maybe_asked}
use Rattle.mdns_core.specs.Looked.{is_near, is_looked_at, AreFew}

-- nothing is looked at
pub few-none : (test : List (List ℕ) → Bool) (held : List Held) (before after : ℕ) → after ≡ before → AreFew test held before after
unfolding IsDistinct
few-none test held before after still = record { names = []; once = tt; only = λ name there. absurd (cc); most = omega (arith, still) }

pub ended-alike : (now : ℕ) (name other : List (List ℕ)) → folded_eq name other ≡ true → (held : List Held) → is_of_ended held now name ≡ is_of_ended held now other
ended-alike now name other alike [] = refl
ended-alike now name other alike (one ∷ held) = λ i. (nat_le one.end now && folded_eq-equivalence.congr name other one.rr.owner alike i) || ended-alike now name other alike held i

heard-alike : (name other : List (List ℕ)) → folded_eq name other ≡ true → (heard : List Rr) → list_any (is_named name) heard ≡ list_any (is_named other) heard
heard-alike name other alike [] = refl
heard-alike name other alike (rr ∷ heard) =
    λ i. (folded_eq-equivalence.symm rr.owner name ∙ folded_eq-equivalence.congr name other rr.owner alike ∙ folded_eq-equivalence.symm other rr.owner) i || heard-alike name other alike heard i

-- a name that is among those of an event is one of these
of-event : (now : ℕ) (heard : List Rr) (held : List Held) (touched : List (List (List ℕ))) → list_all (is_of_event now heard held) touched ≡ true → (name : List (List ℕ)) → is_among touched name ≡ true →
    is_of_event now heard held name ≡ true
of-event now heard held [] all name there = absurd (cc)
of-event now heard held (other ∷ touched) all name there =
    let parts = and_parts (is_of_event now heard held other) (list_all (is_of_event now heard held) touched) all in
    of (folded_eq name other) refl there parts.0 (of-event now heard held touched parts.1 name)
  where
    of : (b : Bool) → folded_eq name other ≡ b → (b || is_among touched name) ≡ true → is_of_event now heard held other ≡ true → (is_among touched name ≡ true → is_of_event now heard held name ≡ true) →
        is_of_event now heard held name ≡ true
    of true alike e first rest = (λ i. ended-alike now name other alike held i || heard-alike name other alike heard i) ∙ first
    of false alike e first rest = rest e

either : {A : Type 0} (a b : Bool) → (a || b) ≡ true → (a ≡ true → A) → (b ≡ true → A) → A
either true b e first second = first refl
either false b e first second = second e

module _ (told : Told) (now : ℕ) (heard : List Rr) (held : List Held) (own own_then : List Rr) (questions : List Tracked) (before_all touched : List (List (List ℕ)))
    (events : list_all (is_of_event now heard held) before_all ≡ true)
    (moved : (name : List (List ℕ)) → is_among touched name ≡ true → is_among before_all name ≡ false → is_moved name own own_then ≡ true) where
  abbrev looks : List (List ℕ) → Bool
  looks name = is_looked_at told now heard held own own_then questions name

  near-touched : (name : List (List ℕ)) → is_among touched name ≡ true → is_near now heard held own own_then name ≡ true
  near-touched name there = of (is_among before_all name) refl
    where
      of : (b : Bool) → is_among before_all name ≡ b → is_near now heard held own own_then name ≡ true
      of true e = or_left (is_of_event now heard held name) (is_moved name own own_then) (of-event now heard held before_all events name e)
      of false e = or_right (is_of_event now heard held name) (is_moved name own own_then) (moved name there e)

  by-touched : (name : List (List ℕ)) → is_among touched name ≡ true → looks name ≡ true
  by-touched name there = or_left (is_near now heard held own own_then name) (is_maybe_asked told now questions name || is_called told.call name) (near-touched name there)

  by-asked : (name : List (List ℕ)) → is_maybe_asked told now questions name ≡ true → looks name ≡ true
  by-asked name may =
      or_right (is_near now heard held own own_then name) (is_maybe_asked told now questions name || is_called told.call name) (or_left (is_maybe_asked told now questions name) (is_called told.call name) may)

  by-called : (name : List (List ℕ)) → is_called told.call name ≡ true → looks name ≡ true
  by-called name called =
      or_right (is_near now heard held own own_then name) (is_maybe_asked told now questions name || is_called told.call name) (or_right (is_maybe_asked told now questions name) (is_called told.call name) called)

  -- Names that were put for sessions and then for questions are those that are looked at.
  pub few-put : (first names : List (List (List ℕ))) (before after : ℕ) →
      ArePutOnly (λ name. is_among touched name || is_called told.call name) [] first → ArePutOnce [] first →
      ArePutOnly (λ name. (is_among touched name || is_maybe_asked told now questions name) || is_called told.call name) first names → ArePutOnce first names →
      after ≤ before + visits_of_all held names → AreFew looks held before after
  unfolding IsDistinct
  few-put first names before after only_first once_first only_more once_more most = record {
    names = names;
    once = once_more (once_first tt);
    only = λ name there.
        either (is_among first name) ((is_among touched name || is_maybe_asked told now questions name) || is_called told.call name) (only_more name there)
        (λ e. either (is_among touched name) (is_called told.call name) (only_first name e) (by-touched name) (by-called name))
        (λ e. either (is_among touched name || is_maybe_asked told now questions name) (is_called told.call name) e
        (λ f. either (is_among touched name) (is_maybe_asked told now questions name) f (by-touched name) (by-asked name)) (by-called name));
    most = most;
  }

-- The same of what code has in hand.
pub few-walked : (told : Told) (now : ℕ) (heard heard_seen : List Rr) (held : List Held) (own own_seen own_then own_then_seen : List Rr) (questions : List Tracked)
    (events touched touched_first touched_next none first names : List (List (List ℕ))) (before after : ℕ) →
    heard_seen ≡ heard → own_seen ≡ own → own_then_seen ≡ own_then → touched_first ≡ touched → touched_next ≡ touched → none ≡ [] →
    list_all (is_of_event now heard_seen held) events ≡ true → ((name : List (List ℕ)) → is_among touched name ≡ true → is_among events name ≡ false → is_moved name own_seen own_then_seen ≡ true) →
    ArePutOnly (λ name. is_among touched_first name || is_called told.call name) none first → ArePutOnce none first →
    ArePutOnly (λ name. (is_among touched_next name || is_maybe_asked told now questions name) || is_called told.call name) first names → ArePutOnce first names →
    after ≤ before + visits_of_all held names → AreFew (is_looked_at told now heard held own own_then questions) held before after
few-walked told now heard heard_seen held own own_seen own_then own_then_seen questions events touched touched_first touched_next none first names before after
    heard_is own_is own_then_is first_is next_is none_is of_events moved only_first once_first only_next once_next most =
    few-put told now heard held own own_then questions events touched
    (subst (λ (rrs : List Rr). list_all (is_of_event now rrs held) events ≡ true) heard_is of_events)
    (λ name there new. sym (λ i. is_moved name (own_is i) (own_then_is i)) ∙ moved name there new)
    first names before after
    (subst (λ (l : List (List (List ℕ))). ArePutOnly (λ name. is_among touched name || is_called told.call name) l first) none_is
    (subst (λ (l : List (List (List ℕ))). ArePutOnly (λ name. is_among l name || is_called told.call name) none first) first_is only_first))
    (subst (λ (l : List (List (List ℕ))). ArePutOnce l first) none_is once_first)
    (subst (λ (l : List (List (List ℕ))). ArePutOnly (λ name. (is_among l name || is_maybe_asked told now questions name) || is_called told.call name) first names) next_is only_next)
    once_next most
