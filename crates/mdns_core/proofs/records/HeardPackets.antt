-- What a packet makes of what is held, told of the message that its bytes spell.
use Rattle.std.proofs.Common.{◌≡◌, ◌↔◌, ℕ, ◌≤◌, Bool, IsTrue, true, false, cond, not, ltb, ◌&&◌, List, [], ◌∷◌, ◌++◌, length, Option, Some, None, Result, Ok, Err, IfOk, refl, ap, subst, ◌∙◌, sym, arith}
use Rattle.std.specs.Prelude.{filter}
use Rattle.std.specs.List.{list_all}
use Rattle.std.specs.Option.{option_map_or}
use Rattle.std.proofs.lemmas.Bool.{le-ltb, lt-ltb, and_from}
use Rattle.std.proofs.lemmas.Bool.Decides.{nat_tests}
use Rattle.std.proofs.lemmas.List.Filters.{length-filter_both}
use Rattle.std.proofs.lemmas.List.Folds.{list_all-append}
use Rattle.std.proofs.lemmas.List.Sorted.{length_permutation}
use Rattle.mdns_base.specs.declared.host.Host.{Host}
use Rattle.dns_record.specs.declared.record.Rr.{Rr}
use Rattle.dns_message.specs.declared.message.Message.{Message}
use Rattle.dns_message.specs.declared.message.MessageError.{MessageError}
use Rattle.dns_message.specs.Reading.{spelled, fault, fault_of}
use Rattle.dns_message.specs.Writing.{is_spellable_name, is_below, is_spellable_data, is_spellable_record, HasValidParts}
use Rattle.sd_answer.specs.Laws.{have_data}
use Rattle.mdns_history.specs.declared.event.Event.{Event}
use Rattle.mdns_history.specs.declared.event.Event.TheVariants as event
use Rattle.mdns_history.specs.declared.held.Held.{Held}
use Rattle.mdns_history.specs.declared.mark.Mark.{Mark}
use Rattle.mdns_history.specs.declared.mark.Mark.TheVariants as mark
use Rattle.mdns_history.specs.declared.entry.Outcome.{Outcome}
use Rattle.mdns_history.specs.Hearings.{Heard, Hearing, is_ignored, counted, counted_records, brought}
use Rattle.mdns_history.specs.Lifetimes.{is_live_at, live_of}
use Rattle.mdns_cache.specs.Lifetimes.{Holds, hearings_at}
use Rattle.mdns_records.specs.After.{held_after}
use Rattle.mdns_cache.proofs.Counting.{past_limit}
use Rattle.mdns_cache.proofs.Hearing.{Stands-from_held}
use Rattle.mdns_happened.specs.Told.{Told, heard_of, told_of, packet_told}
use Rattle.mdns_core.specs.Next.{refusal_of, is_full, heard_with, are_too_many, IsHeard}
use Rattle.mdns_core.proofs.records.Hears.{unheard}

-- the records of a packet that count
abbrev records_in : Host → List ℕ → List Rr
records_in from bytes = counted_records (counted from (spelled bytes))

-- A packet that spells a message is refused exactly where there would be too many records with those of the message.
pub refused-message : (moment word : ℕ) (from : Host) (bytes : List ℕ) (message : Message) (past : List Hearing) → spelled bytes ≡ Ok message →
    cond (are_too_many moment word (counted_records (counted from (Ok message))) past) (mark.Full ∷ []) [] ≡ refusal_of (is_full moment word (event.Hear from bytes) past) (event.Hear from bytes)
refused-message moment word from bytes message past spells =
    ap (λ (r : Result Message MessageError). cond (are_too_many moment word (counted_records (counted from r)) past) (mark.Full ∷ []) []) (sym spells)
    ∙ of (are_too_many moment word (records_in from bytes) past)
  where
    none : ◌≡◌ {A = List Mark} [] (option_map_or (λ number. mark.Bad number ∷ []) (fault bytes) [])
    none = sym (ap (λ (number : Option ℕ). option_map_or (λ n. mark.Bad n ∷ []) number []) (ap fault_of spells))

    of : (full : Bool) → cond full (mark.Full ∷ []) [] ≡ refusal_of full (event.Hear from bytes)
    of true = refl
    of false = none

none-counts : (from : Host) (r : Result Message MessageError) (number : ℕ) → fault_of r ≡ Some number → counted from r ≡ None
none-counts from (Ok message) number e = cc
none-counts from (Err fault) number e = refl

-- what was live still fits where nothing is heard
few : (moment before : ℕ) (past : List Hearing) (held : List Held) → before ≤ moment → Holds held past before → length held ≤ 32768 → length (live_of past moment) ≤ 32768
few moment before past held earlier holds within =
    let live : List Held = filter (is_live_at moment) held in
    let same : length live ≡ length (live_of past moment) = sym (length_permutation live (live_of past moment) (Stands-from_held held past before moment earlier holds)) in
    let both = length-filter_both (is_live_at moment) (λ one. not (is_live_at moment one)) (λ one. refl) held in omega arith

none-too_many : (moment word before : ℕ) (past : List Hearing) (held : List Held) → before ≤ moment → Holds held past before → length held ≤ 32768 → are_too_many moment word [] past ≡ false
none-too_many moment word before past held earlier holds within = le-ltb 32768 (length (live_of past moment)) (few moment before past held earlier holds within)

-- A packet that spells no message is refused with the mark of its fault.
pub refused-fault : (moment word before : ℕ) (from : Host) (bytes : List ℕ) (number : ℕ) (past : List Hearing) (held : List Held) → fault bytes ≡ Some number →
    before ≤ moment → Holds held past before → length held ≤ 32768 → (mark.Bad number ∷ []) ≡ refusal_of (is_full moment word (event.Hear from bytes) past) (event.Hear from bytes)
refused-fault moment word before from bytes number past held bad earlier holds within =
    let none : records_in from bytes ≡ [] = ap counted_records (none-counts from (spelled bytes) number bad) in
    let Refused : Bool → Type 0 = λ full. (mark.Bad number ∷ []) ≡ refusal_of full (event.Hear from bytes) in
    subst Refused (sym (ap (λ (rrs : List Rr). are_too_many moment word rrs past) none ∙ none-too_many moment word before past held earlier holds within))
    (sym (ap (λ (n : Option ℕ). option_map_or (λ k. mark.Bad k ∷ []) n []) bad))

-- A message that is ignored brings nothing, of which there are not too many.
pub refused-ignored : (moment word before : ℕ) (from : Host) (message : Message) (past : List Hearing) (held : List Held) → is_ignored from message ≡ true →
    before ≤ moment → Holds held past before → length held ≤ 32768 → [] ≡ cond (are_too_many moment word (counted_records (counted from (Ok message))) past) (mark.Full ∷ []) []
refused-ignored moment word before from message past held ignored earlier holds within =
    let none : counted_records (counted from (Ok message)) ≡ [] = ap (λ (b : Bool). counted_records (cond b None (Some (record { from = from; message = message })))) ignored in
    ap (λ (b : Bool). cond b (mark.Full ∷ []) []) (sym (ap (λ (rrs : List Rr). are_too_many moment word rrs past) none ∙ none-too_many moment word before past held earlier holds within))

too_many-unless : (fits : Bool) (n : ℕ) → (IsTrue fits ↔ (n ≤ 32768)) → cond fits [] (mark.Full ∷ []) ≡ cond (ltb 32768 n) (mark.Full ∷ []) []
too_many-unless true n tells = ap (λ (b : Bool). cond b (mark.Full ∷ []) []) (sym (le-ltb 32768 n (tells.0 refl)))
too_many-unless false n tells = ap (λ (b : Bool). cond b (mark.Full ∷ []) []) (sym (lt-ltb 32768 n (past_limit false n 32768 tells refl)))

-- A message that counts is refused where its records don't fit.
pub refused-unless : (moment word : ℕ) (from : Host) (message : Message) (rrs : List Rr) (past : List Hearing) (fits : Bool) → is_ignored from message ≡ false →
    rrs ≡ cond message.response (message.answers ++ message.additional) [] → (IsTrue fits ↔ (length (live_of (hearings_at moment word rrs ++ past) moment) ≤ 32768)) →
    cond fits [] (mark.Full ∷ []) ≡ cond (are_too_many moment word (counted_records (counted from (Ok message))) past) (mark.Full ∷ []) []
refused-unless moment word from message rrs past fits counts brings tells =
    too_many-unless fits (length (live_of (hearings_at moment word rrs ++ past) moment)) tells
    ∙ ap (λ (records : List Rr). cond (are_too_many moment word records past) (mark.Full ∷ []) [])
    (brings ∙ ap (λ (b : Bool). counted_records (cond b None (Some (record { from = from; message = message })))) (sym counts))

-- Every other event leaves no mark.
pub refused-other : (ev : Event) (full : Bool) → ((from : Host) (bytes : List ℕ) → ev ≡ event.Hear from bytes → ⊥) → [] ≡ refusal_of full ev
refused-other (event.Boot config) true other = refl
refused-other (event.Boot config) false other = refl
refused-other event.Attach true other = refl
refused-other event.Attach false other = refl
refused-other (event.Detach session) true other = refl
refused-other (event.Detach session) false other = refl
refused-other (event.Call session op request) true other = refl
refused-other (event.Call session op request) false other = refl
refused-other (event.Hear from bytes) full other = absurd (other from bytes refl)
refused-other event.Tick true other = refl
refused-other event.Tick false other = refl
refused-other (event.Take session max) true other = refl
refused-other (event.Take session max) false other = refl

-- What is told of an event other than a packet.
module _ (ev : Event) (outcome : Outcome) (told : Told) (is : told ≡ told_of ev outcome []) where
  pub told-bare : told ≡ told_of ev outcome told.refusal
  told-bare = is ∙ ap (λ (t : Told). told_of ev outcome t.refusal) (sym is)

  pub refused-bare : ((from : Host) (bytes : List ℕ) → ev ≡ event.Hear from bytes → ⊥) → (full : Bool) → told.refusal ≡ refusal_of full ev
  refused-bare other full = ap (λ (t : Told). t.refusal) is ∙ refused-other ev full other

  pub records-bare : ((from : Host) (bytes : List ℕ) → ev ≡ event.Hear from bytes → ⊥) → [] ≡ counted_records told.heard
  records-bare other = of ev other ∙ ap (λ (t : Told). counted_records t.heard) (sym is)
    where
      of : (e : Event) → ((from : Host) (bytes : List ℕ) → e ≡ event.Hear from bytes → ⊥) → [] ≡ counted_records (heard_of [] e)
      of (event.Boot config) h = refl
      of event.Attach h = refl
      of (event.Detach session) h = refl
      of (event.Call session op request) h = refl
      of (event.Hear from bytes) h = absurd (h from bytes refl)
      of event.Tick h = refl
      of (event.Take session max) h = refl

-- What is told of a packet that is refused.
pub told-refused : (told : Told) (heard : Option Heard) (m : Mark) → told ≡ packet_told None (m ∷ []) → told ≡ packet_told heard told.refusal
told-refused told heard m is = is ∙ ap (λ (t : Told). packet_told heard t.refusal) (sym is)

-- there is room for records that are heard, and the hearings with them are those of an event
abbrev IsAdmitted : ℕ → ℕ → List Hearing → Event → List Rr → Type 0
IsAdmitted moment word past ev rrs =
    (length (live_of (hearings_at moment word rrs ++ past) moment) ≤ 32768) × (hearings_at moment word rrs ++ past ≡ heard_with moment word ev past)

-- What is held after an event, where what it brings was heard unless there is no room, is what the records heard before it say.
pub heard-read : (moment word before : ℕ) (ev : Event) (past : List Hearing) (held later : List Held) (records : List Rr) (refusal : List Mark) →
    before ≤ moment → Holds held past before → length held ≤ 32768 →
    records ≡ counted_records (heard_of refusal ev) → refusal ≡ refusal_of (is_full moment word ev past) ev →
    (length (live_of (hearings_at moment word records ++ past) moment) ≤ 32768 → Holds later (hearings_at moment word records ++ past) moment) →
    IsHeard moment word ev past later refusal
heard-read moment word before ev past held later records refusal earlier holds within brings refused heard =
    let both = of ev refusal brings refused in
    record { records = subst (λ hs. Holds later hs moment) both.1 (heard both.0); refused = refused }
  where
    fits : (n : ℕ) → ltb 32768 n ≡ false → n ≤ 32768
    fits n h = grind (arith, nat_tests)

    none : (e : Event) → heard_with moment word e past ≡ past → records ≡ [] → IsAdmitted moment word past e records
    none e same is = subst (IsAdmitted moment word past e) (sym is) (few moment before past held earlier holds within, sym same)

    admitted : (from : Host) (bytes : List ℕ) → records ≡ records_in from bytes → [] ≡ refusal_of (is_full moment word (event.Hear from bytes) past) (event.Hear from bytes) →
        (full : Bool) → is_full moment word (event.Hear from bytes) past ≡ full → IsAdmitted moment word past (event.Hear from bytes) records
    admitted from bytes is r true e = let clash : ◌≡◌ {A = List Mark} [] (mark.Full ∷ []) = r ∙ ap (λ b. refusal_of b (event.Hear from bytes)) e in cc
    admitted from bytes is r false e =
        subst (IsAdmitted moment word past (event.Hear from bytes)) (sym is) (
          fits (length (live_of (hearings_at moment word (records_in from bytes) ++ past) moment)) e,
          ap (λ (b : Bool). cond b past (hearings_at moment word (records_in from bytes) ++ past)) (sym e),
        )

    refused-packet : (from : Host) (bytes : List ℕ) (first : Mark) (marks : List Mark) → (full : Bool) → is_full moment word (event.Hear from bytes) past ≡ full →
        (first ∷ marks) ≡ refusal_of full (event.Hear from bytes) → heard_with moment word (event.Hear from bytes) past ≡ past
    refused-packet from bytes first marks true e r = ap (λ (b : Bool). cond b past (hearings_at moment word (records_in from bytes) ++ past)) e
    refused-packet from bytes first marks false e r = unheard moment word (event.Hear from bytes) past (number (fault bytes) refl r)
      where
        number : (o : Option ℕ) → fault bytes ≡ o → (first ∷ marks) ≡ option_map_or (λ n. mark.Bad n ∷ []) o [] → records_in from bytes ≡ []
        number None is same = cc
        number (Some n) is same = ap counted_records (none-counts from (spelled bytes) n is)

    of : (e : Event) (marks : List Mark) → records ≡ counted_records (heard_of marks e) → marks ≡ refusal_of (is_full moment word e past) e → IsAdmitted moment word past e records
    of (event.Boot config) marks is r = none (event.Boot config) (unheard moment word (event.Boot config) past refl) is
    of event.Attach marks is r = none event.Attach (unheard moment word event.Attach past refl) is
    of (event.Detach session) marks is r = none (event.Detach session) (unheard moment word (event.Detach session) past refl) is
    of (event.Call session op request) marks is r = none (event.Call session op request) (unheard moment word (event.Call session op request) past refl) is
    of (event.Hear from bytes) [] is r = admitted from bytes is r (is_full moment word (event.Hear from bytes) past) refl
    of (event.Hear from bytes) (first ∷ marks) is r = none (event.Hear from bytes) (refused-packet from bytes first marks (is_full moment word (event.Hear from bytes) past) refl r) is
    of event.Tick marks is r = none event.Tick (unheard moment word event.Tick past refl) is
    of (event.Take session max) marks is r = none (event.Take session max) (unheard moment word (event.Take session max) past refl) is

first : (a b : Bool) → (a && b) ≡ true → a ≡ true
first true b h = refl
first false b h = h

second : (a b : Bool) → (a && b) ≡ true → b ≡ true
second true b h = h
second false b h = cc

-- records that can be spelled have data of their form
data-spellable : (rrs : List Rr) → list_all is_spellable_record rrs ≡ true → have_data rrs ≡ true
data-spellable [] h = refl
data-spellable (rr ∷ rrs) h =
    and_from (is_spellable_data rr.rdata) (have_data rrs)
    (second (is_spellable_name rr.owner && is_below 32 rr.ttl) (is_spellable_data rr.rdata) (first (is_spellable_record rr) (list_all is_spellable_record rrs) h))
    (data-spellable rrs (second (is_spellable_record rr) (list_all is_spellable_record rrs) h))

data-counted : (from : Host) (message : Message) → HasValidParts message → have_data (counted_records (counted from (Ok message))) ≡ true
data-counted from message parts = of (is_ignored from message)
  where
    all : have_data (message.answers ++ message.additional) ≡ true
    all =
        data-spellable (message.answers ++ message.additional)
        (list_all-append is_spellable_record message.answers message.additional ∙ and_from (list_all is_spellable_record message.answers) (list_all is_spellable_record message.additional) parts.answers parts.additional)

    answered : (response : Bool) → have_data (cond response (message.answers ++ message.additional) []) ≡ true
    answered true = all
    answered false = refl

    of : (ignored : Bool) → have_data (counted_records (cond ignored None (Some (record { from = from; message = message })))) ≡ true
    of true = refl
    of false = answered message.response

-- The records of a packet that count have data of their form.
pub data-message : (from : Host) (bytes : List ℕ) (message : Message) → spelled bytes ≡ Ok message → HasValidParts message → have_data (records_in from bytes) ≡ true
data-message from bytes message spells parts =
    ap (λ (r : Result Message MessageError). have_data (counted_records (counted from r))) spells ∙ data-counted from message parts

pub data-fault : (from : Host) (bytes : List ℕ) (number : ℕ) → fault bytes ≡ Some number → have_data (records_in from bytes) ≡ true
data-fault from bytes number bad = ap (λ (heard : Option Heard). have_data (counted_records heard)) (none-counts from (spelled bytes) number bad)

pub data-other : (ev : Event) → ((from : Host) (bytes : List ℕ) → ev ≡ event.Hear from bytes → ⊥) → have_data (counted_records (brought ev)) ≡ true
data-other (event.Boot config) other = refl
data-other event.Attach other = refl
data-other (event.Detach session) other = refl
data-other (event.Call session op request) other = refl
data-other (event.Hear from bytes) other = absurd (other from bytes refl)
data-other event.Tick other = refl
data-other (event.Take session max) other = refl

-- what holds of each result that is there
pub ok_with : {T E : Type 0} {A B : T → Type 0} (r : Result T E) → ((x : T) → A x → B x) → IfOk r A → IfOk r B
ok_with (Ok x) f h = f x h
ok_with (Err e) f h = tt

pub ok_two : {T E : Type 0} {A B C : T → Type 0} (r : Result T E) → ((x : T) → A x → B x → C x) → IfOk r A → IfOk r B → IfOk r C
ok_two (Ok x) f a b = f x a b
ok_two (Err e) f a b = tt

pub ok_three : {T E : Type 0} {A B C D : T → Type 0} (r : Result T E) → ((x : T) → A x → B x → C x → D x) → IfOk r A → IfOk r B → IfOk r C → IfOk r D
ok_three (Ok x) f a b c = f x a b c
ok_three (Err e) f a b c = tt

pub ok_always : {T E : Type 0} (P : Type 0) (r : Result T E) → P → IfOk r (λ _. P)
ok_always P (Ok x) p = p
ok_always P (Err e) p = tt

-- There is room for what is held after an event that brings nothing.
pub room-left : (moment word : ℕ) (heard : List Rr) (held : List Held) → heard ≡ [] → length held ≤ 32768 → length (held_after moment word heard held) ≤ 32768
room-left moment word heard held none within =
    subst (λ (rrs : List Rr). length (held_after moment word rrs held) ≤ 32768) (sym none)
    (let both = length-filter_both (is_live_at moment) (λ one. not (is_live_at moment one)) (λ one. refl) held in omega arith)
