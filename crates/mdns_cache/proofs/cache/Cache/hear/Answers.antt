use Rattle.std.proofs.Common.{◌≡◌, ◌∙◌, ◌≤◌, ◌<◌, ◌++◌, List, ap, subst, arith, length, map, Result, Ok, Err, IsErrAnd, IsPermutation}
use Rattle.std.specs.Map.{values_of}
use Rattle.std.proofs.lemmas.List.Sorted.{length_permutation, IsPermutation-trans, IsPermutation-sym}
use Rattle.mdns_history.specs.declared.held.Held.{Held}
use Rattle.mdns_history.specs.Hearings.{Hearing}
use Rattle.mdns_history.specs.Lifetimes.{live_of}
use Rattle.mdns_cache.specs.declared.error.HearError.{HearError}
use Rattle.mdns_cache.specs.declared.error.HearError.TheVariants.{Full, NoMemory}
use Rattle.mdns_cache.specs.Contents.{Contents}
use Rattle.mdns_cache.specs.Lifetimes.{hearing_at, hearings_at, after_hearings}
use Rattle.mdns_cache.proofs.Hearing.{Holds-after_hearings, AllLive-after_hearings, AllHeard-after_hearings, Stands-from_holds}
use Rattle.mdns_cache.proofs.Counting.{past_limit}
use Rattle.by_name.specs.Filed.{in_layers}
use Rattle.mdns_cache.proofs.EndsFirst.{each-permuted}
use Rattle.mdns_cache.proofs.AfterHearings.{heard_in}
use Rattle.mdns_cache.proofs.cache.Cache.hear.Goals as goal

pub returns-then-not-fits-clause-full : goal.returns-then-not-fits-clause-full
returns-then-not-fits-clause-full c = λ past holds.
    let stands = Stands-from_holds c.args.now c.args.self.now.held past c.requires.live holds in
    let heard : c.as_slice.result.now ≡ c.args.heard = c.as_slice.ensures in
    let full = past_limit c.fits.result _ _ (rw (← heard) (c.fits.ensures.live past c.args.word stands)) c.if-not-fits.true in
    (λ e. full, λ h. cc)

-- want of memory isn't `Full`
not_full : (r : Result (Unit {0}) HearError) → IsErrAnd r (λ e. e ≡ NoMemory) → r ≡ Err Full → ⊥
not_full (Ok u) h e = cc
not_full (Err x) h e = cc

pub returns-in_err-reserve-clause-full : goal.returns-in_err-reserve-clause-full
returns-in_err-reserve-clause-full c = λ past holds.
    let stands = Stands-from_holds c.args.now c.args.self.now.held past c.requires.live holds in
    let heard : c.as_slice.result.now ≡ c.args.heard = c.as_slice.ensures in
    let fits : length (live_of (hearings_at c.args.now c.args.word c.args.heard ++ past) c.args.now) ≤ c.args.self.now.limit =
    rw (← heard) ((c.fits.ensures.live past c.args.word stands).0 c.if-not-fits.false) in
    (λ e. absurd (not_full c.from_residual.result c.from_residual.ensures.1 e), λ h. absurd (omega (arith, h, fits)))

pub returns-clause-holds : goal.returns-clause-holds
returns-clause-holds c = λ past holds.
    let hs : List Hearing = map (hearing_at c.args.now c.args.word) c.args.heard in
    let was : in_layers c.self.inside.records.entries ≡ c.args.self.now.held = ap (λ (v : Contents). v.held) c.self.view_is ∙ c.in_ok-reserve.ensures.held in
    let records : map (hearing_at c.args.now c.args.word) c.into_vec-records.result.items ≡ hs = ap (map (hearing_at c.args.now c.args.word)) c.into_vec-records.ensures.items in
    let moved : IsPermutation (after_hearings c.args.self.now.held hs) (in_layers c.hear_all.new.records.entries) =
    heard_in hs c.args.self.now.held c.self.inside.records.entries c.hear_all.new.records.entries was (subst (λ (l : List Hearing). IsPermutation (after_hearings (values_of c.self.inside.records.entries) l) (values_of c.hear_all.new.records.entries)) records c.hear_all.ensures.held) in
    IsPermutation-trans _ _ _ (IsPermutation-sym _ _ moved) (Holds-after_hearings c.args.now c.args.word c.args.heard c.args.self.now.held past c.requires.live holds)

pub returns-clause-live : goal.returns-clause-live
returns-clause-live c =
    let hs : List Hearing = map (hearing_at c.args.now c.args.word) c.args.heard in
    let was : in_layers c.self.inside.records.entries ≡ c.args.self.now.held = ap (λ (v : Contents). v.held) c.self.view_is ∙ c.in_ok-reserve.ensures.held in
    let records : map (hearing_at c.args.now c.args.word) c.into_vec-records.result.items ≡ hs = ap (map (hearing_at c.args.now c.args.word)) c.into_vec-records.ensures.items in
    let moved : IsPermutation (after_hearings c.args.self.now.held hs) (in_layers c.hear_all.new.records.entries) =
    heard_in hs c.args.self.now.held c.self.inside.records.entries c.hear_all.new.records.entries was (subst (λ (l : List Hearing). IsPermutation (after_hearings (values_of c.self.inside.records.entries) l) (values_of c.hear_all.new.records.entries)) records c.hear_all.ensures.held) in
    each-permuted (λ (one : Held). c.args.now < one.end) _ _ moved (AllLive-after_hearings c.args.now c.args.word c.args.heard c.args.self.now.held c.requires.live)

pub returns-clause-heard : goal.returns-clause-heard
returns-clause-heard c = λ heard.
    let hs : List Hearing = map (hearing_at c.args.now c.args.word) c.args.heard in
    let was : in_layers c.self.inside.records.entries ≡ c.args.self.now.held = ap (λ (v : Contents). v.held) c.self.view_is ∙ c.in_ok-reserve.ensures.held in
    let records : map (hearing_at c.args.now c.args.word) c.into_vec-records.result.items ≡ hs = ap (map (hearing_at c.args.now c.args.word)) c.into_vec-records.ensures.items in
    let moved : IsPermutation (after_hearings c.args.self.now.held hs) (in_layers c.hear_all.new.records.entries) =
    heard_in hs c.args.self.now.held c.self.inside.records.entries c.hear_all.new.records.entries was (subst (λ (l : List Hearing). IsPermutation (after_hearings (values_of c.self.inside.records.entries) l) (values_of c.hear_all.new.records.entries)) records c.hear_all.ensures.held) in
    each-permuted (λ (one : Held). one.heard ≤ c.args.now) _ _ moved (AllHeard-after_hearings c.args.now c.args.word c.args.heard c.args.self.now.held heard)

pub returns-clause-full : goal.returns-clause-full
returns-clause-full c = λ past holds.
    let stands = Stands-from_holds c.args.now c.args.self.now.held past c.requires.live holds in
    let heard : c.as_slice.result.now ≡ c.args.heard = c.as_slice.ensures in
    let fits : length (live_of (hearings_at c.args.now c.args.word c.args.heard ++ past) c.args.now) ≤ c.args.self.now.limit =
    rw (← heard) ((c.fits.ensures.live past c.args.word stands).0 c.if-not-fits.false) in
    (λ e. cc, λ h. absurd (omega (arith, h, fits)))

pub returns-clause-within : goal.returns-clause-within
returns-clause-within c =
    let heard : c.as_slice.result.now ≡ c.args.heard = c.as_slice.ensures in
    let fits : length (after_hearings c.args.self.now.held (map (hearing_at c.args.now c.args.word) c.args.heard)) ≤ c.args.self.now.limit =
    rw (← heard) ((c.fits.ensures.held c.args.word c.requires.live).0 c.if-not-fits.false) in
    let limit : c.self.inside.limit ≡ c.args.self.now.limit = ap (λ (v : Contents). v.limit) c.self.view_is ∙ c.in_ok-reserve.ensures.limit in
    let hs : List Hearing = map (hearing_at c.args.now c.args.word) c.args.heard in
    let was : in_layers c.self.inside.records.entries ≡ c.args.self.now.held = ap (λ (v : Contents). v.held) c.self.view_is ∙ c.in_ok-reserve.ensures.held in
    let records : map (hearing_at c.args.now c.args.word) c.into_vec-records.result.items ≡ hs = ap (map (hearing_at c.args.now c.args.word)) c.into_vec-records.ensures.items in
    let moved : IsPermutation (after_hearings c.args.self.now.held hs) (in_layers c.hear_all.new.records.entries) =
    heard_in hs c.args.self.now.held c.self.inside.records.entries c.hear_all.new.records.entries was (subst (λ (l : List Hearing). IsPermutation (after_hearings (values_of c.self.inside.records.entries) l) (values_of c.hear_all.new.records.entries)) records c.hear_all.ensures.held) in
    let len : length (in_layers c.hear_all.new.records.entries) ≡ length (after_hearings c.args.self.now.held hs) = length_permutation _ _ moved in
    omega (arith, fits, limit, len)

pub returns-clause-held : goal.returns-clause-held
returns-clause-held c =
    let hs : List Hearing = map (hearing_at c.args.now c.args.word) c.args.heard in
    let was : in_layers c.self.inside.records.entries ≡ c.args.self.now.held = ap (λ (v : Contents). v.held) c.self.view_is ∙ c.in_ok-reserve.ensures.held in
    let records : map (hearing_at c.args.now c.args.word) c.into_vec-records.result.items ≡ hs = ap (map (hearing_at c.args.now c.args.word)) c.into_vec-records.ensures.items in
    let moved : IsPermutation (after_hearings c.args.self.now.held hs) (in_layers c.hear_all.new.records.entries) =
    heard_in hs c.args.self.now.held c.self.inside.records.entries c.hear_all.new.records.entries was (subst (λ (l : List Hearing). IsPermutation (after_hearings (values_of c.self.inside.records.entries) l) (values_of c.hear_all.new.records.entries)) records c.hear_all.ensures.held) in
    IsPermutation-sym _ _ moved

pub returns-then-not-fits-clause-over : goal.returns-then-not-fits-clause-over
returns-then-not-fits-clause-over c =
    let heard : c.as_slice.result.now ≡ c.args.heard = c.as_slice.ensures in
    let full = past_limit c.fits.result _ _ (rw (← heard) (c.fits.ensures.held c.args.word c.requires.live)) c.if-not-fits.true in
    (λ e. full, λ h. cc)

pub returns-in_err-reserve-clause-over : goal.returns-in_err-reserve-clause-over
returns-in_err-reserve-clause-over c =
    let heard : c.as_slice.result.now ≡ c.args.heard = c.as_slice.ensures in
    let fits : length (after_hearings c.args.self.now.held (map (hearing_at c.args.now c.args.word) c.args.heard)) ≤ c.args.self.now.limit =
    rw (← heard) ((c.fits.ensures.held c.args.word c.requires.live).0 c.if-not-fits.false) in
    (λ e. absurd (not_full c.from_residual.result c.from_residual.ensures.1 e), λ h. absurd (omega (arith, h, fits)))

pub returns-clause-over : goal.returns-clause-over
returns-clause-over c =
    let heard : c.as_slice.result.now ≡ c.args.heard = c.as_slice.ensures in
    let fits : length (after_hearings c.args.self.now.held (map (hearing_at c.args.now c.args.word) c.args.heard)) ≤ c.args.self.now.limit =
    rw (← heard) ((c.fits.ensures.held c.args.word c.requires.live).0 c.if-not-fits.false) in
    (λ e. cc, λ h. absurd (omega (arith, h, fits)))
