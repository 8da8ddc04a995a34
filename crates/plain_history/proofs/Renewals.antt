-- The live records of some hearings, where one more hearing stands behind them.
use Rattle.std.proofs.Common.{◌≡◌, ℕ, ◌+◌, ◌<◌, nat_lt, Bool, true, false, ◌&&◌, cond, min, arith, List, [], ◌∷◌, ◌++◌, length, take, get_or, ap, sym, ◌∙◌}
use Rattle.std.specs.Prelude.{filter, map, if◌then◌else◌}
use Rattle.lists.specs.Lists.{least_of, until}
use Rattle.lists.proofs.Least.{least_of-min}
use Rattle.std.proofs.lemmas.List.{take_more, map-append}
use Rattle.std.proofs.lemmas.List.Elements.{filter-append}
use Rattle.dns_record.specs.Records.{same}
use Rattle.mdns_history.specs.declared.held.Held.{Held}
use Rattle.mdns_history.specs.Hearings.{Hearing}
use Rattle.mdns_history.specs.Lifetimes.{held_from, is_live_at, renewals, renews, cuts}
use Rattle.plain_history.proofs.Onces.{once_kept_more, made_kept}
use Rattle.plain_history.specs.Kept.{kept_if}
use Rattle.plain_history.specs.Last.{is_last_renewal}

-- the live records of the first hearings
abbrev pub live_in : List Hearing → ℕ → List Hearing → List Held
live_in heard moment some = filter (is_live_at moment) (map (held_from heard) (renewals some))

-- one more hearing
pub live_more : (heard : List Hearing) (moment : ℕ) (i : ℕ) (y : Hearing) → i < length heard → y ≡ get_or heard i y →
    live_in heard moment (take (i + 1) heard) ≡ live_in heard moment (take i heard) ++ kept_if (is_last_renewal (take i heard) y && is_live_at moment (held_from heard y)) (held_from heard y)
live_more heard moment i y h e =
    let some = take i heard in
    ap (live_in heard moment) (take_more heard i y h ∙ ap (λ (x : Hearing). some ++ x ∷ []) (sym e))
    ∙ ap (λ (l : List Hearing). filter (is_live_at moment) (map (held_from heard) l)) (once_kept_more (λ later earlier. same earlier.rr later.rr) (λ hearing. nat_lt 0 hearing.rr.ttl) some y)
    ∙ ap (filter (is_live_at moment)) (map-append (held_from heard) (renewals some) (kept_if (is_last_renewal some y) y))
    ∙ filter-append (is_live_at moment) (map (held_from heard) (renewals some)) (map (held_from heard) (kept_if (is_last_renewal some y) y))
    ∙ ap (λ (l : List Held). live_in heard moment some ++ l) (made_kept (held_from heard) (is_live_at moment) (is_last_renewal some y) y)

-- what later hearings make of an end
abbrev pub ends_of : Hearing → List Hearing → List ℕ
ends_of renewal later = map (λ (hearing : Hearing). hearing.moment + 1000) (filter (cuts renewal.rr renewal.moment) (until (renews renewal.rr) later))

-- one more hearing that doesn't renew the record
pub end_more : (renewal y : Hearing) (rest : List Hearing) (end other : ℕ) → renews renewal.rr y ≡ false →
    other ≡ (if cuts renewal.rr renewal.moment y then y.moment + 1000 else end) → least_of (min end other) (ends_of renewal rest) ≡ least_of end (ends_of renewal (y ∷ rest))
end_more renewal y rest end other r e = rw r (one (cuts renewal.rr renewal.moment y) e)
  where
    one : (b : Bool) → other ≡ (if b then y.moment + 1000 else end) → least_of (min end other) (ends_of renewal rest)
        ≡ least_of end (map (λ (hearing : Hearing). hearing.moment + 1000) (cond b (y ∷ filter (cuts renewal.rr renewal.moment) (until (renews renewal.rr) rest)) (filter (cuts renewal.rr renewal.moment) (until (renews renewal.rr) rest))))
    one true e = least_of-min end other (ends_of renewal rest) ∙ ap (λ n. min n (least_of end (ends_of renewal rest))) e
    one false e = ap (λ n. least_of n (ends_of renewal rest)) (let same : min end other ≡ end = omega (arith, e) in same)
