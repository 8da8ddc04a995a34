-- What one more hearing does to the end of a record.
use Rattle.std.proofs.Common.{◌≡◌, ℕ, ◌+◌, ◌≤◌, min, Bool, true, false, cond, not, ◌&&◌, List, [], ◌∷◌, ◌++◌, map, Option, Some, None, refl, ap, ◌∙◌, arith}
use Rattle.std.proofs.Math.Bool.{and-false}
use Rattle.std.proofs.lemmas.Bool.{not-true}
use Rattle.std.specs.Prelude.{filter, nat_lt}
use Rattle.std.specs.Option.{option_map}
use Rattle.lists.specs.Lists.{least_of, each_once}
use Rattle.dns_record.specs.declared.record.Rr.{Rr}
use Rattle.dns_record.specs.Records.{same}
use Rattle.mdns_history.specs.declared.entry.Entry.{Entry}
use Rattle.mdns_history.specs.Hearings.{Hearing, hearings, hearings_in}
use Rattle.mdns_history.specs.declared.held.Held.{Held}
use Rattle.mdns_history.specs.Lifetimes.{held_from, live_of, renewals, is_live_at, is_other, renews, cuts, full_end, end_from, after_renewal, last_renewal, record_end}

-- the end after one more hearing that doesn't renew the record
abbrev pub end_after : Rr → Hearing → Hearing → ℕ → ℕ
end_after rr hearing renewal end = cond (cuts rr renewal.moment hearing) (min (hearing.moment + 1000) end) end

-- the least, where the test decides whether one more hearing counts
least_of-cond : (n : ℕ) (f : Hearing → ℕ) (b : Bool) (x : Hearing) (xs : List Hearing) →
    least_of n (map f (cond b (x ∷ xs) xs)) ≡ cond b (min (f x) (least_of n (map f xs))) (least_of n (map f xs))
least_of-cond n f true x xs = refl
least_of-cond n f false x xs = refl

step : (rr : Rr) (hearing : Hearing) (b : Bool) (last : Option Hearing) (later : List Hearing) →
    option_map (end_from rr (cond b [] (hearing ∷ later))) (cond b (Some hearing) last)
    ≡ cond b (Some (full_end hearing)) (option_map (λ renewal. end_after rr hearing renewal (end_from rr later renewal)) last)
step rr hearing true last later = refl
step rr hearing false None later = refl
step rr hearing false (Some renewal) later = ap Some (least_of-cond (full_end renewal) (λ h. h.moment + 1000) (cuts rr renewal.moment hearing) hearing (filter (cuts rr renewal.moment) later))

-- One more hearing renews the record, cuts its life, or leaves its end.
pub record_end-cons : (rr : Rr) (hearing : Hearing) (heard : List Hearing) →
    record_end rr (hearing ∷ heard)
    ≡ cond (renews rr hearing) (Some (full_end hearing)) (option_map (λ renewal. end_after rr hearing renewal (end_from rr (after_renewal rr heard) renewal)) (last_renewal rr heard))
unfolding record_end
record_end-cons rr hearing heard = step rr hearing (renews rr hearing) (last_renewal rr heard) (after_renewal rr heard)

-- a renewal gives the end of its own TTL
pub record_end-renewed : (rr : Rr) (hearing : Hearing) (heard : List Hearing) → renews rr hearing ≡ true →
    record_end rr (hearing ∷ heard) ≡ Some (full_end hearing)
unfolding record_end
record_end-renewed rr hearing heard renewed = rw renewed

-- a hearing that neither renews the record nor cuts its life leaves the end
pub record_end-kept : (rr : Rr) (hearing renewal : Hearing) (heard : List Hearing) → renews rr hearing ≡ false →
    last_renewal rr heard ≡ Some renewal → cuts rr renewal.moment hearing ≡ false → record_end rr (hearing ∷ heard) ≡ record_end rr heard
unfolding record_end
record_end-kept rr hearing renewal heard other last uncut = rw (other, last, uncut)

-- a goodbye, or a flush more than a second after the renewal, leaves a second at most
pub record_end-cut : (rr : Rr) (hearing renewal : Hearing) (heard : List Hearing) → renews rr hearing ≡ false →
    last_renewal rr heard ≡ Some renewal → cuts rr renewal.moment hearing ≡ true →
    record_end rr (hearing ∷ heard) ≡ option_map (min (hearing.moment + 1000)) (record_end rr heard)
unfolding record_end
record_end-cut rr hearing renewal heard other last cut = rw (other, last, cut)

-- a record that was just renewed, as it is held
abbrev pub fresh : Hearing → Held
fresh hearing = record { rr = hearing.rr; heard = hearing.moment; word = hearing.word; end = full_end hearing }

-- what a hearing leaves of the life of a record that it doesn't renew
abbrev pub shortened : Hearing → Held → Held
shortened hearing held = record { rr = held.rr; heard = held.heard; word = held.word; end = cond (cuts held.rr held.heard hearing) (min (hearing.moment + 1000) held.end) held.end }

-- the held records after one more hearing, whether they have ended or not
abbrev pub heard_over : Hearing → List Held → List Held
heard_over hearing held =
    cond (nat_lt 0 hearing.rr.ttl) (fresh hearing ∷ map (shortened hearing) (filter (is_other hearing.rr) held)) (map (shortened hearing) held)

held_from-cons : (hearing : Hearing) (heard : List Hearing) (renewal : Hearing) → renews renewal.rr hearing ≡ false →
    held_from (hearing ∷ heard) renewal ≡ shortened hearing (held_from heard renewal)
held_from-cons hearing heard renewal other =
    let later = after_renewal renewal.rr heard in
    let ends : end_from renewal.rr (after_renewal renewal.rr (hearing ∷ heard)) renewal ≡ end_after renewal.rr hearing renewal (end_from renewal.rr later renewal) =
    rw other (least_of-cond (full_end renewal) (λ h. h.moment + 1000) (cuts renewal.rr renewal.moment hearing) hearing (filter (cuts renewal.rr renewal.moment) later)) in
    ap (λ (e : ℕ). let h : Held = record { rr = renewal.rr; heard = renewal.moment; word = renewal.word; end = e } in h) ends

-- held records of which a hearing renews none
map-held_from : (hearing : Hearing) (heard : List Hearing) → ((rr : Rr) → renews rr hearing ≡ false) → (rs : List Hearing) →
    map (held_from (hearing ∷ heard)) rs ≡ map (shortened hearing) (map (held_from heard) rs)
map-held_from hearing heard none [] = refl
map-held_from hearing heard none (r ∷ rs) = ap (λ z. z ∷ map (held_from (hearing ∷ heard)) rs) (held_from-cons hearing heard r (none r.rr)) ∙ ap (λ zs. shortened hearing (held_from heard r) ∷ zs) (map-held_from hearing heard none rs)

-- the same of the records that a hearing doesn't renew
map-filter_cond : {X Y Z : Type 0} (f : X → Z) (g : Y → Z) (b : Bool) (x : X) (y : Y) (xs : List X) (ys : List Y) → (b ≡ true → f x ≡ g y) →
    map f xs ≡ map g ys → map f (cond b (x ∷ xs) xs) ≡ map g (cond b (y ∷ ys) ys)
map-filter_cond f g true x y xs ys heads tails = ap (λ z. z ∷ map f xs) (heads refl) ∙ ap (λ zs. g y ∷ zs) tails
map-filter_cond f g false x y xs ys heads tails = tails

other_renews_none : (hearing : Hearing) (rr : Rr) → not (same rr hearing.rr) ≡ true → renews rr hearing ≡ false
other_renews_none hearing rr other = ap (λ b. b && nat_lt 0 hearing.rr.ttl) (not-true (same rr hearing.rr) other)

map-held_from_others : (hearing : Hearing) (heard : List Hearing) (rs : List Hearing) →
    map (held_from (hearing ∷ heard)) (filter (λ r. not (same r.rr hearing.rr)) rs) ≡ map (shortened hearing) (filter (is_other hearing.rr) (map (held_from heard) rs))
map-held_from_others hearing heard [] = refl
map-held_from_others hearing heard (r ∷ rs) =
    map-filter_cond (held_from (hearing ∷ heard)) (shortened hearing) (not (same r.rr hearing.rr)) r (held_from heard r)
    (filter (λ e. not (same e.rr hearing.rr)) rs) (filter (is_other hearing.rr) (map (held_from heard) rs))
    (λ other. held_from-cons hearing heard r (other_renews_none hearing r.rr other)) (map-held_from_others hearing heard rs)

-- what has ended stays so under a hearing that doesn't renew it
ended_stays : (hearing : Hearing) (moment : ℕ) (held : Held) → is_live_at moment held ≡ false → is_live_at moment (shortened hearing held) ≡ false
ended_stays hearing moment held ended = cut_stays (cuts held.rr held.heard hearing)
  where
    cut_stays : (b : Bool) → nat_lt moment (cond b (min (hearing.moment + 1000) held.end) held.end) ≡ false
    cut_stays true = grind arith
    cut_stays false = ended

-- so only the live records count
filter-shortened : (hearing : Hearing) (moment : ℕ) (hs : List Held) →
    filter (is_live_at moment) (map (shortened hearing) hs) ≡ filter (is_live_at moment) (map (shortened hearing) (filter (is_live_at moment) hs))
filter-shortened hearing moment [] = refl
filter-shortened hearing moment (h ∷ hs) = step_of (filter-shortened hearing moment hs) (is_live_at moment h) refl
  where
    step_of : filter (is_live_at moment) (map (shortened hearing) hs) ≡ filter (is_live_at moment) (map (shortened hearing) (filter (is_live_at moment) hs)) →
        (b : Bool) → is_live_at moment h ≡ b →
        filter (is_live_at moment) (map (shortened hearing) (h ∷ hs)) ≡ filter (is_live_at moment) (map (shortened hearing) (cond b (h ∷ filter (is_live_at moment) hs) (filter (is_live_at moment) hs)))
    step_of rest true e = ap (λ zs. cond (is_live_at moment (shortened hearing h)) (shortened hearing h ∷ zs) zs) rest
    step_of rest false e = ap (λ b. cond b (shortened hearing h ∷ filter (is_live_at moment) (map (shortened hearing) hs)) (filter (is_live_at moment) (map (shortened hearing) hs))) (ended_stays hearing moment h e) ∙ rest

-- two filters in either order
filter-swap : (p q : Held → Bool) (hs : List Held) → filter p (filter q hs) ≡ filter q (filter p hs)
filter-swap p q [] = refl
filter-swap p q (h ∷ hs) = swap_of (filter-swap p q hs) (p h) refl (q h) refl
  where
    swap_of : filter p (filter q hs) ≡ filter q (filter p hs) → (b : Bool) → p h ≡ b → (c : Bool) → q h ≡ c →
        filter p (cond c (h ∷ filter q hs) (filter q hs)) ≡ filter q (cond b (h ∷ filter p hs) (filter p hs))
    swap_of rest true e true f = rw (e, f) (ap (λ zs. h ∷ zs) rest)
    swap_of rest true e false f = rw f rest
    swap_of rest false e true f = rw e rest
    swap_of rest false e false f = rest

-- a filter that lets through less makes an earlier one needless
filter-less : (p q : Held → Bool) → ((h : Held) → q h ≡ false → p h ≡ false) → (hs : List Held) → filter p hs ≡ filter p (filter q hs)
filter-less p q less [] = refl
filter-less p q less (h ∷ hs) = of (filter-less p q less hs) (q h) refl
  where
    of : filter p hs ≡ filter p (filter q hs) → (b : Bool) → q h ≡ b → filter p (h ∷ hs) ≡ filter p (cond b (h ∷ filter q hs) (filter q hs))
    of rest true e = ap (λ zs. cond (p h) (h ∷ zs) zs) rest
    of rest false e = ap (λ b. cond b (h ∷ filter p hs) (filter p hs)) (less h e) ∙ rest

-- what is live later is among what is live now
pub live_of-later : (heard : List Hearing) (moment later : ℕ) → moment ≤ later → live_of heard later ≡ filter (is_live_at later) (live_of heard moment)
unfolding live_of
live_of-later heard moment later l =
    filter-less (is_live_at later) (is_live_at moment) (λ h e. grind arith) (map (held_from heard) (renewals heard))

-- the last renewals after one more hearing
renewals-cond : (hearing : Hearing) (b : Bool) (xs : List Hearing) →
    each_once (λ later earlier. same earlier.rr later.rr) (cond b (hearing ∷ xs) xs)
    ≡ cond b (hearing ∷ filter (λ r. not (same r.rr hearing.rr)) (each_once (λ later earlier. same earlier.rr later.rr) xs)) (each_once (λ later earlier. same earlier.rr later.rr) xs)
renewals-cond hearing true xs = refl
renewals-cond hearing false xs = refl

-- a hearing with a TTL above 0 is held as it was heard
held_from-renewal : (hearing : Hearing) (heard : List Hearing) → renews hearing.rr hearing ≡ true → held_from (hearing ∷ heard) hearing ≡ fresh hearing
held_from-renewal hearing heard renewed = rw renewed

pub live_of-renewal : (hearing : Hearing) (heard : List Hearing) (moment : ℕ) → same hearing.rr hearing.rr ≡ true → nat_lt 0 hearing.rr.ttl ≡ true →
    live_of (hearing ∷ heard) moment ≡ filter (is_live_at moment) (fresh hearing ∷ map (shortened hearing) (filter (is_other hearing.rr) (live_of heard moment)))
unfolding live_of
live_of-renewal hearing heard moment itself above =
    let rs = renewals heard in
    let live = filter (is_live_at moment) in
    let renewed : renews hearing.rr hearing ≡ true = rw (itself, above) refl in
    let split : renewals (hearing ∷ heard) ≡ hearing ∷ filter (λ r. not (same r.rr hearing.rr)) rs = rw above refl in
    let first : map (held_from (hearing ∷ heard)) (hearing ∷ filter (λ r. not (same r.rr hearing.rr)) rs) ≡ fresh hearing ∷ map (shortened hearing) (filter (is_other hearing.rr) (map (held_from heard) rs)) =
    ap (λ z. z ∷ map (held_from (hearing ∷ heard)) (filter (λ r. not (same r.rr hearing.rr)) rs)) (held_from-renewal hearing heard renewed)
    ∙ ap (λ zs. fresh hearing ∷ zs) (map-held_from_others hearing heard rs) in
    let others : filter (is_live_at moment) (map (shortened hearing) (filter (is_other hearing.rr) (map (held_from heard) rs))) ≡ filter (is_live_at moment) (map (shortened hearing) (filter (is_other hearing.rr) (filter (is_live_at moment) (map (held_from heard) rs)))) =
    filter-shortened hearing moment (filter (is_other hearing.rr) (map (held_from heard) rs))
    ∙ ap (λ zs. filter (is_live_at moment) (map (shortened hearing) zs)) (filter-swap (is_live_at moment) (is_other hearing.rr) (map (held_from heard) rs)) in
    ap (λ zs. filter (is_live_at moment) (map (held_from (hearing ∷ heard)) zs)) split
    ∙ ap (λ zs. filter (is_live_at moment) zs) first
    ∙ ap (λ zs. cond (is_live_at moment (fresh hearing)) (fresh hearing ∷ zs) zs) others

pub live_of-goodbye : (hearing : Hearing) (heard : List Hearing) (moment : ℕ) → nat_lt 0 hearing.rr.ttl ≡ false →
    live_of (hearing ∷ heard) moment ≡ filter (is_live_at moment) (map (shortened hearing) (live_of heard moment))
unfolding live_of
live_of-goodbye hearing heard moment zero_ttl =
    let rs = renewals heard in
    let split : renewals (hearing ∷ heard) ≡ rs = rw zero_ttl refl in
    let none : (rr : Rr) → renews rr hearing ≡ false = λ rr. rw zero_ttl (and-false (same rr hearing.rr)) in
    ap (λ zs. filter (is_live_at moment) (map (held_from (hearing ∷ heard)) zs)) split
    ∙ ap (λ zs. filter (is_live_at moment) zs) (map-held_from hearing heard none rs)
    ∙ filter-shortened hearing moment (map (held_from heard) rs)

-- one more entry adds its hearings
pub hearings-cons : (entry : Entry) (past : List Entry) → hearings (entry ∷ past) ≡ hearings_in entry ++ hearings past
unfolding hearings
hearings-cons entry past = refl
