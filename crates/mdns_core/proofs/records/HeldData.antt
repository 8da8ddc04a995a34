-- Data of the form that the types of the code allow stay so: what is held behind an event was held before it, or heard with it.
use Rattle.std.proofs.lemmas.List.Sorted.{IsPermutation-reverse}
use Rattle.std.proofs.Common.{◌≡◌, ℕ, ◌≤◌, Bool, true, false, cond, ◌&&◌, List, [], ◌∷◌, ◌++◌, map, reverse, refl, ap, subst, ◌∙◌, sym}
use Rattle.std.proofs.lemmas.Bool.{and_from}
use Rattle.std.specs.Prelude.{filter, nat_lt}
use Rattle.std.specs.List.{list_all}
use Rattle.std.specs.List.Sorted.{IsPermutation}
use Rattle.dns_record.specs.declared.record.Rr.{Rr}
use Rattle.dns_record.specs.Records.{same}
use Rattle.dns_record.proofs.Same.{same_tells}
use Rattle.dns_message.specs.Writing.{is_spellable_data}
use Rattle.sd_answer.specs.Laws.{have_data}
use Rattle.mdns_history.specs.declared.event.Event.{Event}
use Rattle.mdns_history.specs.declared.held.Held.{Held}
use Rattle.mdns_history.specs.declared.mark.Mark.{Mark}
use Rattle.mdns_history.specs.declared.entry.Entry.{Entry}
use Rattle.mdns_history.specs.History.{now}
use Rattle.mdns_history.specs.Hearings.{Hearing, hearings, brought, counted_records}
use Rattle.mdns_history.specs.Lifetimes.{is_live_at, is_other, live_of, live_records}
use Rattle.mdns_history.proofs.LifetimeSteps.{live_of-renewal, live_of-goodbye, live_of-later}
use Rattle.mdns_cache.specs.Lifetimes.{hearing_at, hearings_at, renewed, shortened, after_hearing, after_hearings}
use Rattle.mdns_history.specs.declared.event.Event.TheVariants as event
use Rattle.mdns_happened.specs.Told.{heard_of}
use Rattle.mdns_records.specs.After.{held_after}
use Rattle.mdns_core.specs.State.{State, Stands}
use Rattle.mdns_core.specs.Next.{is_full, heard_with, IsHeard}
use Rattle.sd_answer.specs.Known.{rrs_of}
use Rattle.mdns_core.proofs.ticks.Due.{list_all-IsPermutation}

-- whether the data of a held record have their form
abbrev is_data : Held → Bool
is_data held = is_spellable_data held.rr.rdata

abbrev heard_data : List Hearing → Bool
heard_data heard = list_all (λ (h : Hearing). is_spellable_data h.rr.rdata) heard

data_of-held : (held : List Held) → have_data (rrs_of held) ≡ list_all is_data held
data_of-held [] = refl
data_of-held (h ∷ held) = ap (λ b. is_data h && b) (data_of-held held)

first : (a b : Bool) → (a && b) ≡ true → a ≡ true
first true b h = refl
first false b h = h

second : (a b : Bool) → (a && b) ≡ true → b ≡ true
second true b h = h
second false b h = cc

data-filter : (p : Held → Bool) (held : List Held) → list_all is_data held ≡ true → list_all is_data (filter p held) ≡ true
data-filter p [] h = refl
data-filter p (x ∷ held) h = of (p x) (data-filter p held (second (is_data x) (list_all is_data held) h))
  where
    of : (b : Bool) → list_all is_data (filter p held) ≡ true → list_all is_data (cond b (x ∷ filter p held) (filter p held)) ≡ true
    of true rest = and_from (is_data x) (list_all is_data (filter p held)) (first (is_data x) (list_all is_data held) h) rest
    of false rest = rest

data-shortened : (hearing : Hearing) (held : List Held) → list_all is_data (map (shortened hearing) held) ≡ list_all is_data held
data-shortened hearing [] = refl
data-shortened hearing (x ∷ held) = ap (λ b. is_data x && b) (data-shortened hearing held)

-- one more hearing
data-heard : (hearing : Hearing) (heard : List Hearing) (moment : ℕ) → same hearing.rr hearing.rr ≡ true → is_spellable_data hearing.rr.rdata ≡ true →
    list_all is_data (live_of heard moment) ≡ true → list_all is_data (live_of (hearing ∷ heard) moment) ≡ true
data-heard hearing heard moment itself form h = of (nat_lt 0 hearing.rr.ttl) refl
  where
    of : (b : Bool) → nat_lt 0 hearing.rr.ttl ≡ b → list_all is_data (live_of (hearing ∷ heard) moment) ≡ true
    of true e =
        ap (list_all is_data) (live_of-renewal hearing heard moment itself e)
        ∙ data-filter (is_live_at moment) (renewed hearing ∷ map (shortened hearing) (filter (is_other hearing.rr) (live_of heard moment)))
        (and_from (is_spellable_data hearing.rr.rdata) (list_all is_data (map (shortened hearing) (filter (is_other hearing.rr) (live_of heard moment)))) form
        (data-shortened hearing (filter (is_other hearing.rr) (live_of heard moment)) ∙ data-filter (is_other hearing.rr) (live_of heard moment) h))
    of false e =
        ap (list_all is_data) (live_of-goodbye hearing heard moment e)
        ∙ data-filter (is_live_at moment) (map (shortened hearing) (live_of heard moment)) (data-shortened hearing (live_of heard moment) ∙ h)

data-all_heard : (more heard : List Hearing) (moment : ℕ) → ((rr : Rr) → same rr rr ≡ true) → heard_data more ≡ true → list_all is_data (live_of heard moment) ≡ true →
    list_all is_data (live_of (more ++ heard) moment) ≡ true
data-all_heard [] heard moment itself form h = h
data-all_heard (hearing ∷ more) heard moment itself form h =
    data-heard hearing (more ++ heard) moment (itself hearing.rr) (first (is_spellable_data hearing.rr.rdata) (heard_data more) form)
    (data-all_heard more heard moment itself (second (is_spellable_data hearing.rr.rdata) (heard_data more) form) h)

data-at : (moment word : ℕ) (rrs : List Rr) → heard_data (map (hearing_at moment word) rrs) ≡ have_data rrs
data-at moment word [] = refl
data-at moment word (rr ∷ rrs) = ap (λ b. is_spellable_data rr.rdata && b) (data-at moment word rrs)

data-hearings : (moment word : ℕ) (rrs : List Rr) → have_data rrs ≡ true → heard_data (hearings_at moment word rrs) ≡ true
data-hearings moment word rrs h =
    sym (list_all-IsPermutation (λ (one : Hearing). is_spellable_data one.rr.rdata) (map (hearing_at moment word) rrs) (reverse (map (hearing_at moment word) rrs)) (IsPermutation-reverse (map (hearing_at moment word) rrs)))
    ∙ data-at moment word rrs ∙ h

-- The data of what is held behind an event have their form, where those of what was held and of what the event brings do.
pub data-kept : (state : State) (history : List Entry) → Stands state history → (moment word : ℕ) (ev : Event) → state.last ≤ moment → (after : List Held) (refusal : List Mark) →
    IsHeard moment word ev (hearings history) after refusal → have_data (rrs_of state.held) ≡ true → have_data (counted_records (brought ev)) ≡ true → have_data (rrs_of after) ≡ true
unfolding live_records
data-kept state history stands moment word ev later after refusal heard before counted =
    let rrs : List Rr = counted_records (brought ev) in
    let old : list_all is_data (live_of (hearings history) (now history)) ≡ true =
    sym (list_all-IsPermutation is_data state.held (live_of (hearings history) (now history)) stands.records) ∙ sym (data_of-held state.held) ∙ before in
    let kept : list_all is_data (live_of (hearings history) moment) ≡ true =
    ap (list_all is_data) (live_of-later (hearings history) (now history) moment (subst (λ k. k ≤ moment) stands.last later))
    ∙ data-filter (is_live_at moment) (live_of (hearings history) (now history)) old in
    data_of-held after
    ∙ list_all-IsPermutation is_data after (live_of (heard_with moment word ev (hearings history)) moment) heard.records
    ∙ of (is_full moment word ev (hearings history)) kept
  where
    of : (b : Bool) → list_all is_data (live_of (hearings history) moment) ≡ true →
        list_all is_data (live_of (cond b (hearings history) (hearings_at moment word (counted_records (brought ev)) ++ hearings history)) moment) ≡ true
    of true kept = kept
    of false kept = data-all_heard (hearings_at moment word (counted_records (brought ev))) (hearings history) moment (λ rr. (same_tells rr rr).1 refl)
        (data-hearings moment word (counted_records (brought ev)) counted) kept

-- ---- the same, told of what is held

data-append : (held more : List Held) → list_all is_data held ≡ true → list_all is_data more ≡ true → list_all is_data (held ++ more) ≡ true
data-append [] more h k = k
data-append (x ∷ held) more h k =
    and_from (is_data x) (list_all is_data (held ++ more)) (first (is_data x) (list_all is_data held) h) (data-append held more (second (is_data x) (list_all is_data held) h) k)

data-hearing : (hearing : Hearing) (held : List Held) → is_spellable_data hearing.rr.rdata ≡ true → list_all is_data held ≡ true → list_all is_data (after_hearing held hearing) ≡ true
data-hearing hearing held form h = of (nat_lt 0 hearing.rr.ttl)
  where
    of : (b : Bool) → list_all is_data (cond b (map (shortened hearing) (filter (is_other hearing.rr) held) ++ renewed hearing ∷ []) (map (shortened hearing) held)) ≡ true
    of true =
        data-append (map (shortened hearing) (filter (is_other hearing.rr) held)) (renewed hearing ∷ [])
        (data-shortened hearing (filter (is_other hearing.rr) held) ∙ data-filter (is_other hearing.rr) held h) (and_from (is_spellable_data hearing.rr.rdata) true form refl)
    of false = data-shortened hearing held ∙ h

data-after_all : (moment word : ℕ) (heard : List Rr) (held : List Held) → have_data heard ≡ true → list_all is_data held ≡ true → list_all is_data (after_hearings held (map (hearing_at moment word) heard)) ≡ true
data-after_all moment word [] held form h = h
data-after_all moment word (rr ∷ heard) held form h =
    data-after_all moment word heard (after_hearing held (hearing_at moment word rr)) (second (is_spellable_data rr.rdata) (have_data heard) form)
    (data-hearing (hearing_at moment word rr) held (first (is_spellable_data rr.rdata) (have_data heard) form) h)

-- The data of what is held behind an event have their form, where those of what was held and of what is heard do.
pub data-after : (moment word : ℕ) (heard : List Rr) (held : List Held) → have_data heard ≡ true → have_data (rrs_of held) ≡ true → have_data (rrs_of (held_after moment word heard held)) ≡ true
data-after moment word heard held form h =
    data_of-held (held_after moment word heard held)
    ∙ data-after_all moment word heard (filter (is_live_at moment) held) form (data-filter (is_live_at moment) held (sym (data_of-held held) ∙ h))

-- What is heard has data of their form, where what an event brings does.
pub data-counted : (ev : Event) (refusal : List Mark) → have_data (counted_records (brought ev)) ≡ true → have_data (counted_records (heard_of refusal ev)) ≡ true
data-counted (event.Hear from bytes) [] h = h
data-counted (event.Hear from bytes) (mark ∷ marks) h = refl
data-counted (event.Boot config) refusal h = refl
data-counted event.Attach refusal h = refl
data-counted (event.Detach session) refusal h = refl
data-counted (event.Call session op request) refusal h = refl
data-counted (event.Take session max) refusal h = refl
data-counted event.Tick refusal h = refl

-- Records in another order have data of their form as well.
pub data-moved : (held other : List Held) → IsPermutation held other → have_data (rrs_of other) ≡ true → have_data (rrs_of held) ≡ true
data-moved held other moved h = data_of-held held ∙ list_all-IsPermutation is_data held other moved ∙ sym (data_of-held other) ∙ h
