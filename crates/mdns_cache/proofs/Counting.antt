-- How many records are held after the records of a packet.
use Rattle.std.proofs.Common.{◌≡◌, ◌↔◌, ℕ, ◌+◌, ⊎_elim, ◌<◌, ◌≤◌, ◌&&◌, ◌||◌, Bool, true, false, not, cond, List, [], ◌∷◌, ◌++◌, map, filter, length, nat_lt, nat_le, count_by, refl, sym, ap, ◌∙◌, arith, length-append}
use Rattle.std.proofs.lemmas.Bool.{leb-true, both_ways, cases_lt}
use Rattle.std.proofs.lemmas.List.Elements.{filter-append, filter_agree}
use Rattle.std.proofs.lemmas.List.Sums.{length-filter, count_by-le-length}
use Rattle.std.proofs.lemmas.List.Sorted.{length_permutation}
use Rattle.dns_record.specs.declared.record.Rr.{Rr}
use Rattle.dns_record.specs.Records.{same}
use Rattle.mdns_history.specs.declared.held.Held.{Held}
use Rattle.mdns_history.specs.Hearings.{Hearing}
use Rattle.mdns_history.specs.Lifetimes.{live_of, is_live_at, is_other}
use Rattle.mdns_cache.specs.Lifetimes.{Stands, AllLive, hearing_at, hearings_at, renewed, shortened, is_renewed_by, count_renewed, after_hearing, after_hearings}
use Rattle.mdns_cache.proofs.ListLemmas.{filter-filter, length-filter-map}
use Rattle.mdns_cache.proofs.Hearing.{filter_live, AllLive-filter_live, Holds-after_hearings}

-- a held record that none of several renews
abbrev pub is_left : List Rr → Held → Bool
is_left rrs one = not (is_renewed_by one.rr rrs)

other_left : (a b c : Bool) → c ≡ true → (not a && not b) ≡ not ((a && c) || b)
other_left true b c e = ap (λ d. not (d || b)) (sym e)
other_left false b c e = refl

none_left : (a b c : Bool) → c ≡ false → not b ≡ not ((a && c) || b)
none_left true b c e = ap (λ d. not (d || b)) (sym e)
none_left false b c e = refl

length-one : (b : Bool) (one : Held) → length (cond b (one ∷ []) []) ≡ cond b 1 0
length-one true one = refl
length-one false one = refl

pub length-after_hearings : (moment word : ℕ) (rrs : List Rr) (held : List Held) →
    length (after_hearings held (map (hearing_at moment word) rrs)) ≡ length (filter (is_left rrs) held) + count_renewed rrs
length-after_hearings moment word [] held = all held
  where
    all : (hs : List Held) → length hs ≡ length (filter (is_left []) hs) + 0
    all [] = refl
    all (h ∷ hs) = let ih = all hs in omega arith
length-after_hearings moment word (rr ∷ rrs) held =
    length-after_hearings moment word rrs (after_hearing held hearing) ∙ of (nat_lt 0 rr.ttl) refl
  where
    hearing : Hearing
    hearing = hearing_at moment word rr

    cut : (hs : List Held) → length (filter (is_left rrs) (map (shortened hearing) hs)) ≡ length (filter (is_left rrs) hs)
    cut hs = length-filter-map (is_left rrs) (shortened hearing) (λ one. refl) hs

    of : (b : Bool) → nat_lt 0 rr.ttl ≡ b →
        length (filter (is_left rrs) (cond b (map (shortened hearing) (filter (is_other hearing.rr) held) ++ renewed hearing ∷ []) (map (shortened hearing) held))) + count_renewed rrs
        ≡ length (filter (is_left (rr ∷ rrs)) held) + (cond (b && not (is_renewed_by rr rrs)) 1 0 + count_renewed rrs)
    of true e =
        let both : filter (is_left rrs) (map (shortened hearing) (filter (is_other hearing.rr) held) ++ renewed hearing ∷ [])
        ≡ filter (is_left rrs) (map (shortened hearing) (filter (is_other hearing.rr) held)) ++ filter (is_left rrs) (renewed hearing ∷ []) =
        filter-append (is_left rrs) (map (shortened hearing) (filter (is_other hearing.rr) held)) (renewed hearing ∷ []) in
        let others : length (filter (is_left rrs) (map (shortened hearing) (filter (is_other hearing.rr) held))) ≡ length (filter (is_left (rr ∷ rrs)) held) =
        cut (filter (is_other hearing.rr) held)
        ∙ ap length (filter-filter (is_left rrs) (is_other hearing.rr) held)
        ∙ ap length (filter_agree _ _ (λ one. other_left (same one.rr rr) (is_renewed_by one.rr rrs) (nat_lt 0 rr.ttl) e) held) in
        let sum : length (filter (is_left rrs) (map (shortened hearing) (filter (is_other hearing.rr) held) ++ renewed hearing ∷ []))
        ≡ length (filter (is_left (rr ∷ rrs)) held) + cond (not (is_renewed_by rr rrs)) 1 0 =
        ap length both ∙ length-append (filter (is_left rrs) (map (shortened hearing) (filter (is_other hearing.rr) held))) (filter (is_left rrs) (renewed hearing ∷ []))
        ∙ ap (λ n. n + length (filter (is_left rrs) (renewed hearing ∷ []))) others
        ∙ ap (λ n. length (filter (is_left (rr ∷ rrs)) held) + n) (length-one (not (is_renewed_by rr rrs)) (renewed hearing)) in
        ap (λ n. n + count_renewed rrs) sum ∙ assoc (length (filter (is_left (rr ∷ rrs)) held)) (cond (not (is_renewed_by rr rrs)) 1 0) (count_renewed rrs)
      where
        assoc : (a b c : ℕ) → a + b + c ≡ a + (b + c)
        assoc a b c = omega arith
    of false e =
        let others : length (filter (is_left rrs) (map (shortened hearing) held)) ≡ length (filter (is_left (rr ∷ rrs)) held) =
        cut held ∙ ap length (filter_agree _ _ (λ one. none_left (same one.rr rr) (is_renewed_by one.rr rrs) (nat_lt 0 rr.ttl) e) held) in
        ap (λ n. n + count_renewed rrs) others ∙ zero_in (length (filter (is_left (rr ∷ rrs)) held)) (count_renewed rrs)
      where
        zero_in : (a c : ℕ) → a + c ≡ a + (0 + c)
        zero_in a c = omega arith

-- how many records would be live
pub length-live_of : (moment word : ℕ) (rrs : List Rr) (held : List Held) (past : List Hearing) → Stands held past moment →
    length (live_of (hearings_at moment word rrs ++ past) moment) ≡ count_by (λ one. is_live_at moment one && is_left rrs one) held + count_renewed rrs
length-live_of moment word rrs held past stands =
    length_permutation _ _ (Holds-after_hearings moment word rrs (filter (is_live_at moment) held) past (AllLive-filter_live moment held) stands)
    ∙ length-after_hearings moment word rrs (filter (is_live_at moment) held)
    ∙ ap (λ n. n + count_renewed rrs) (ap length (filter-filter (is_left rrs) (is_live_at moment) held) ∙ length-filter (λ one. is_live_at moment one && is_left rrs one) held)

-- how many records would be held, where all that is held is live
pub length-after : (moment word : ℕ) (rrs : List Rr) (held : List Held) → AllLive moment held →
    length (after_hearings held (map (hearing_at moment word) rrs)) ≡ count_by (λ one. is_live_at moment one && is_left rrs one) held + count_renewed rrs
length-after moment word rrs held live =
    length-after_hearings moment word rrs held
    ∙ ap (λ n. n + count_renewed rrs) (ap (λ (hs : List Held). length (filter (is_left rrs) hs)) (sym (filter_live moment held live)) ∙ ap length (filter-filter (is_left rrs) (is_live_at moment) held) ∙ length-filter (λ one. is_live_at moment one && is_left rrs one) held)

-- no more are heard anew than are heard
count_renewed-within : (rrs : List Rr) → count_renewed rrs ≤ length rrs
count_renewed-within [] = omega arith
count_renewed-within (rr ∷ rrs) = of (nat_lt 0 rr.ttl && not (is_renewed_by rr rrs)) (count_renewed-within rrs)
  where
    of : (b : Bool) → count_renewed rrs ≤ length rrs → cond b 1 0 + count_renewed rrs ≤ length (rr ∷ rrs)
    of true ih = omega arith
    of false ih = omega arith

-- where there is room for all that is held and heard, there is room for those that are left and those that are heard anew
pub room_for_all : (p : Held → Bool) (held : List Held) (rrs : List Rr) (limit : ℕ) → nat_le (length held + length rrs) limit ≡ true → count_by p held + count_renewed rrs ≤ limit
room_for_all p held rrs limit within =
    let all : length held + length rrs ≤ limit = leb-true (length held + length rrs) limit within in
    let left : count_by p held ≤ length held = count_by-le-length p held in
    let anew : count_renewed rrs ≤ length rrs = count_renewed-within rrs in
    omega arith

-- what doesn't fit passes the limit
pub past_limit : (b : Bool) (all limit : ℕ) → (b ≡ true) ↔ (all ≤ limit) → b ≡ false → limit < all
past_limit b all limit tells none = ⊎_elim (λ h. h) (λ h. absurd (both_ways b none (tells.1 h))) (cases_lt limit all)
