-- A question that an event may ask is asked, or a record of its name has ended; and one that a message may ask in the daemon's stead stands in that message.
use Rattle.std.proofs.Common.{◌≡◌, ℕ, ◌+◌, ◌<◌, ◌==◌, Bool, true, false, cond, not, ◌||◌, ◌&&◌, ◌⊎◌, eqb, List, [], ◌∷◌, ◌++◌, map, refl, ap, sym, ◌∙◌, Option, Some, None, inl, inr, ⊎_elim, arith}
use Rattle.std.specs.Prelude.{filter, nat_lt, nat_le}
use Rattle.std.specs.List.{list_any, flat_map}
use Rattle.std.specs.Option.{is_some, option_to_list}
use Rattle.std.proofs.lemmas.Bool.{and_parts, or_left, or_right}
use Rattle.dns_name.specs.Names.{folded_eq}
use Rattle.lists.specs.Lists.{least}
use Rattle.dns_record.specs.Records.{matches, any_kind, kind_of}
use Rattle.mdns_base.specs.Hosts.{mdns_port}
use Rattle.mdns_history.specs.declared.held.Held.{Held}
use Rattle.mdns_history.specs.declared.mark.Cause.TheVariants as cause
use Rattle.mdns_history.specs.Asking.{asks_openly, refresh_points, calls_at}
use Rattle.mdns_history.specs.Hearings.{Heard}
use Rattle.mdns_history.specs.Lifetimes.{is_live_at, is_uncut}
use Rattle.mdns_cache.specs.Ended.{is_among, is_of_ended}
use Rattle.mdns_question.specs.declared.tracked.Tracked.{Tracked}
use Rattle.mdns_question.specs.Tracking.{due_cause, active_of}
use Rattle.mdns_question.specs.Next.{is_wanted, is_open, open_in}
use Rattle.mdns_question.specs.Refreshing.{cause_of, IsTimed, AreTimed}
use Rattle.mdns_question.proofs.FirstRefresh.{AreLive, cause_kept}
use Rattle.mdns_asking.specs.Walked.{may_stand_for, may_be_heard}
use Rattle.mdns_core.specs.Touched.{message_records, message_names}
use Rattle.mdns_core.proofs.records.Looked.{ended-alike}
use Rattle.mdns_core.proofs.records.Touching.{among-left, either, asked-named, ended_is}

abbrev Name : Type 0
Name = List (List ℕ)

-- ---- a question that is due by what is kept of it

live-each : (moment : ℕ) (held : List Held) → AreLive moment (filter (is_live_at moment) held)
live-each moment [] = tt
live-each moment (one ∷ held) = of (nat_lt moment one.end) refl (live-each moment held)
  where
    of : (b : Bool) → nat_lt moment one.end ≡ b → AreLive moment (filter (is_live_at moment) held) → AreLive moment (cond b (one ∷ filter (is_live_at moment) held) (filter (is_live_at moment) held))
    of true e rest = let lasts : moment < one.end = grind arith in (lasts, rest)
    of false e rest = rest

live-twice : (moment : ℕ) (held : List Held) → filter (is_live_at moment) (filter (is_live_at moment) held) ≡ filter (is_live_at moment) held
live-twice moment [] = refl
live-twice moment (one ∷ held) = of (nat_lt moment one.end) refl (live-twice moment held)
  where
    of : (b : Bool) → nat_lt moment one.end ≡ b → filter (is_live_at moment) (filter (is_live_at moment) held) ≡ filter (is_live_at moment) held →
        filter (is_live_at moment) (cond b (one ∷ filter (is_live_at moment) held) (filter (is_live_at moment) held)) ≡ cond b (one ∷ filter (is_live_at moment) held) (filter (is_live_at moment) held)
    of true e rest = ap (λ c. cond c (one ∷ filter (is_live_at moment) (filter (is_live_at moment) held)) (filter (is_live_at moment) (filter (is_live_at moment) held))) e ∙ ap (λ l. one ∷ l) rest
    of false e rest = rest

neither_first : (a b : Bool) → (a || b) ≡ false → a ≡ false
neither_first true b h = h
neither_first false b h = refl

neither_second : (a b : Bool) → (a || b) ≡ false → b ≡ false
neither_second true b h = absurd (cc)
neither_second false b h = h

-- a record of another name isn't wanted
unwanted : (one : Tracked) (told : Held) → folded_eq one.key.name told.rr.owner ≡ false → is_wanted one told ≡ false
unfolding matches
unwanted one told other = ap (λ b. (b && (eqb one.key.kind any_kind || eqb one.key.kind (kind_of told.rr.rdata))) && is_uncut told) other

-- where no record of the name has ended the open points are those of live records
points-live : (one : Tracked) (moment : ℕ) (held : List Held) → is_of_ended held moment one.key.name ≡ false → flat_map (open_in one) (filter (is_live_at moment) held) ≡ flat_map (open_in one) held
points-live one moment [] none = refl
points-live one moment (told ∷ held) none = of (nat_lt moment told.end) refl none (points-live one moment held)
  where
    of : (b : Bool) → nat_lt moment told.end ≡ b → ((nat_le told.end moment && folded_eq one.key.name told.rr.owner) || is_of_ended held moment one.key.name) ≡ false →
        (is_of_ended held moment one.key.name ≡ false → flat_map (open_in one) (filter (is_live_at moment) held) ≡ flat_map (open_in one) held) →
        flat_map (open_in one) (cond b (told ∷ filter (is_live_at moment) held) (filter (is_live_at moment) held)) ≡ open_in one told ++ flat_map (open_in one) held
    of true e none rest = ap (λ l. open_in one told ++ l) (rest (neither_second (nat_le told.end moment && folded_eq one.key.name told.rr.owner) (is_of_ended held moment one.key.name) none))
    of false e none rest =
        let gone : nat_le told.end moment ≡ true = ended_is moment told.end ∙ ap not e in
        let parts = neither_first (nat_le told.end moment && folded_eq one.key.name told.rr.owner) (is_of_ended held moment one.key.name) none in
        let other : folded_eq one.key.name told.rr.owner ≡ false = sym (ap (λ b. b && folded_eq one.key.name told.rr.owner) gone) ∙ parts in
        rest (neither_second (nat_le told.end moment && folded_eq one.key.name told.rr.owner) (is_of_ended held moment one.key.name) none)
        ∙ sym (ap (λ (b : Bool). cond b (filter (is_open one told) (refresh_points told)) [] ++ flat_map (open_in one) held) (unwanted one told other))

-- a question that is due by what is kept of it is due, or a record of its name has ended
due-one : (moment : ℕ) (held : List Held) (one : Tracked) → IsTimed held one → is_of_ended held moment one.key.name ≡ false → cause_of moment one ≡ due_cause held moment one
due-one moment held one timed none =
    let live : List Held = filter (is_live_at moment) held in
    let still : IsTimed live one = timed ∙ ap least (sym (points-live one moment held none)) in
    cause_kept live moment one (live-each moment held) still
    ∙ ap (λ (l : List Held). cond (nat_le one.next moment) (Some cause.Series) (cond (list_any (calls_at (active_of one) (option_to_list one.last) moment) (flat_map refresh_points (filter (λ h. matches one.key h.rr && is_uncut h) l))) (Some cause.Refresh) None)) (live-twice moment held)

pub due-or-ended : (name : Name) (moment : ℕ) (held : List Held) (questions : List Tracked) → AreTimed held questions →
    list_any (λ (one : Tracked). is_some (cause_of moment one) && folded_eq name one.key.name) questions ≡ true →
    (list_any (λ (one : Tracked). is_some (due_cause held moment one) && folded_eq name one.key.name) questions ≡ true) ⊎ (is_of_ended held moment name ≡ true)
due-or-ended name moment held [] timed e = absurd (cc)
due-or-ended name moment held (one ∷ questions) timed e =
    either (is_some (cause_of moment one) && folded_eq name one.key.name) (list_any (λ (one : Tracked). is_some (cause_of moment one) && folded_eq name one.key.name) questions) e
    (λ h. of (is_of_ended held moment one.key.name) refl (and_parts (is_some (cause_of moment one)) (folded_eq name one.key.name) h))
    (λ h. ⊎_elim (λ d. inl (or_right (is_some (due_cause held moment one) && folded_eq name one.key.name) (list_any (λ (one : Tracked). is_some (due_cause held moment one) && folded_eq name one.key.name) questions) d))
    (λ d. inr d) (due-or-ended name moment held questions timed.1 h))
  where
    of : (b : Bool) → is_of_ended held moment one.key.name ≡ b → (is_some (cause_of moment one) ≡ true) × (folded_eq name one.key.name ≡ true) →
        (((is_some (due_cause held moment one) && folded_eq name one.key.name) || list_any (λ (one : Tracked). is_some (due_cause held moment one) && folded_eq name one.key.name) questions) ≡ true) ⊎ (is_of_ended held moment name ≡ true)
    of true gone parts = inr (ended-alike moment name one.key.name parts.1 held ∙ gone)
    of false none parts =
        let due : is_some (due_cause held moment one) ≡ true = ap is_some (sym (due-one moment held one timed.0 none)) ∙ parts.0 in
        inl (or_left (is_some (due_cause held moment one) && folded_eq name one.key.name) (list_any (λ (one : Tracked). is_some (due_cause held moment one) && folded_eq name one.key.name) questions) (λ i. due i && parts.1 i))

-- ---- a question that a message may ask in the daemon's stead

fourth : (a b c d e : Bool) → (a && b && c && d && e) ≡ true → d ≡ true
fourth a b c true e h = refl
fourth true true true false e h = h
fourth false b c false e h = absurd (cc)
fourth true false c false e h = absurd (cc)
fourth true true false false e h = absurd (cc)

pub asked-heard : (name : Name) (moment : ℕ) (heard : Option Heard) (questions : List Tracked) →
    list_any (λ (one : Tracked). may_be_heard heard moment one && folded_eq name one.key.name) questions ≡ true → is_among (message_names heard) name ≡ true
asked-heard name moment heard [] e = absurd (cc)
asked-heard name moment None (one ∷ questions) e = asked-heard name moment None questions e
asked-heard name moment (Some heard) (one ∷ questions) e =
    either (may_stand_for moment heard one && folded_eq name one.key.name) (list_any (λ (one : Tracked). may_stand_for moment heard one && folded_eq name one.key.name) questions) e
    (λ h. let parts = and_parts (may_stand_for moment heard one) (folded_eq name one.key.name) h in
    among-left (map (λ question. question.name) heard.message.questions) (map (λ rr. rr.owner) (message_records heard.message)) name
    (asked-named name one.key parts.1 heard.message.questions
    (fourth (not heard.message.response) (heard.from.port == mdns_port) (not heard.message.truncated) (list_any (asks_openly one.key) heard.message.questions) (nat_le one.next (moment + 1000)) parts.0)))
    (asked-heard name moment (Some heard) questions)
