-- What is asked, sent and told by walks is what is asked and sent over the records that are held after an event, and what is then kept of questions.
use Rattle.std.proofs.Common.{◌≡◌, ℕ, ◌+◌, ◌*◌, ◌==◌, min, Bool, true, false, cond, not, ◌&&◌, ◌||◌, nat_le, List, [], ◌∷◌, ◌++◌, map, filter, Option, Some, None, is_some, refl, sym, ap, subst, ◌∙◌, true≢false}
use Rattle.std.specs.List.{list_any, list_all, flat_map, filter_map, cons_option, AllByRecursion}
use Rattle.std.specs.Option.{option_map}
use Rattle.std.proofs.lemmas.Bool.{and_parts}
use Rattle.mdns_base.specs.Hosts.{mdns_port}
use Rattle.dns_name.specs.Names.{folded_eq}
use Rattle.lists.specs.Lists.{ordered}
use Rattle.dns_record.specs.declared.record.Rr.{Rr}
use Rattle.dns_record.specs.declared.record.Key.{Key}
use Rattle.dns_record.specs.Records.{key_eq, matches, same, record_cmp}
use Rattle.dns_message.specs.Packing.{pack_query}
use Rattle.mdns_history.specs.declared.mark.Cause.{Cause}
use Rattle.mdns_history.specs.declared.held.Held.{Held}
use Rattle.mdns_history.specs.declared.entry.Sent.{Sent}
use Rattle.mdns_history.specs.Hearings.{Heard}
use Rattle.mdns_history.specs.Asking.{is_counted, asks_openly}
use Rattle.mdns_history.specs.Sending.{to_all}
use Rattle.mdns_cache.specs.Lifetimes.{AllLive}
use Rattle.mdns_happened.specs.declared.walk.Walk.{Walk}
use Rattle.mdns_happened.specs.Told.{Told}
use Rattle.mdns_happened.specs.Walks.{is_walked, AreWalks}
use Rattle.mdns_known.specs.Known.{known_of, all_known_of}
use Rattle.mdns_question.specs.declared.tracked.Tracked.{Tracked}
use Rattle.mdns_question.specs.Tracking.{is_for, begun, due_cause, due_with, longest_gap}
use Rattle.mdns_question.specs.Refreshing.{IsTimed, AreTimed, cause_of}
use Rattle.mdns_question.proofs.FirstRefresh.{cause_kept}
use Rattle.sd_sessions.specs.Sessions.{Session}
use Rattle.mdns_asking.specs.declared.plan.Plan.{Plan}
use Rattle.mdns_asking.specs.Asked.{is_asked_by, asked_told, sent_told, begun_keys, ended_told, all_begun, all_ended, all_asked}
use Rattle.mdns_asking.specs.Timed.{timed, all_timed}
use Rattle.mdns_asking.specs.Walked.{may_stand_for, may_be_heard, AreWalked, AreKnown, AreEnough}
use Rattle.mdns_asking.specs.ByWalks.{later_of, timed_by, due_by, is_heard_by, asked_by, known_by, sent_by}
use Rattle.mdns_asking.specs.Planned.{IsPlan}
use Rattle.mdns_asking.proofs.Heards.{heard_one}
use Rattle.mdns_asking.proofs.OfNames.{walked_alike, known_walked, timed_kept, timed_unwalked, timed_either, timed_known}
use Rattle.mdns_asking.proofs.EachTold.{StaysAsked, each_told}

module _ (held later : List Held) (walks : List Walk) (moment : ℕ) (are : AreWalks held later walks) where
  -- what is due
  due_later : AllLive moment later → (questions : List Tracked) → AreTimed held questions → AreKnown held later walks questions →
      filter_map (due_by walks moment) questions ≡ filter_map (due_with later moment) questions
  due_later live [] timed known = refl
  due_later live (one ∷ questions) are_timed known =
      λ i. cons_option (option_map (λ why. (one.key, why)) (same i)) (due_later live questions are_timed.1 known.1 i)
    where
      same : cause_of moment (timed_by walks one) ≡ due_cause later moment one
      same = ap (cause_of moment) (timed_known held later walks one are known.0 are_timed.0) ∙ cause_kept later moment (timed later one) live refl

  -- what a message asks
  module _ (heard : Heard) where
    heard_same : (one : Tracked) → (may_stand_for moment heard one ≡ true → is_walked walks one.key.name ≡ true) → is_heard_by walks moment heard one ≡ is_asked_by later moment heard one
    heard_same one walked =
        both (not heard.message.response) (heard.from.port == mdns_port) (not heard.message.truncated) (list_any (asks_openly one.key) heard.message.questions)
        (nat_le one.next (moment + 1000)) _ _
        (λ may. ap (λ (known : List Rr). list_all (λ rr. not (matches one.key rr) || list_any (same rr) known) heard.message.answers)
        (known_walked held later walks one.key moment are (walked may)))
      where
        both : (a b c d e k l : Bool) → ((a && b && c && d && e) ≡ true → k ≡ l) → (a && b && c && d && e && k) ≡ (a && b && c && d && e && l)
        both true true true true true k l h = h refl
        both true true true true false k l h = refl
        both true true true false e k l h = refl
        both true true false d e k l h = refl
        both true false c d e k l h = refl
        both false b c d e k l h = refl

    heard_later : (questions : List Tracked) → AllByRecursion (λ (one : Tracked). may_stand_for moment heard one ≡ true → is_walked walks one.key.name ≡ true) questions →
        filter (is_heard_by walks moment heard) questions ≡ filter (is_asked_by later moment heard) questions
    heard_later [] walked = refl
    heard_later (one ∷ questions) walked = λ i. cond (heard_same one walked.0 i) (one ∷ heard_later questions walked.1 i) (heard_later questions walked.1 i)

  -- what is asked
  asked_later : (ticks : Bool) (heard : Option Heard) (questions : List Tracked) → AllLive moment later → AreTimed held questions → AreKnown held later walks questions →
      AllByRecursion (λ (one : Tracked). cond ticks (is_some (cause_of moment one)) (may_be_heard heard moment one) ≡ true → is_walked walks one.key.name ≡ true) questions →
      asked_by ticks heard questions walks moment ≡ asked_told ticks heard questions later moment
  unfolding asked_by asked_told
  asked_later true heard questions live are_timed known walked = due_later live questions are_timed known
  asked_later false None questions live are_timed known walked = refl
  asked_later false (Some heard) questions live are_timed known walked = ap (map heard_one) (heard_later heard questions walked)

  -- what is sent
  known_later : (keys : List Key) → AreWalked walks keys → known_by keys walks moment ≡ all_known_of keys later moment
  unfolding known_by all_known_of
  known_later keys walked = ap (ordered record_cmp) (each keys walked)
    where
      each : (keys : List Key) → AreWalked walks keys → flat_map (λ key. known_of key (later_of key.name walks) moment) keys ≡ flat_map (λ key. known_of key later moment) keys
      each [] walked = refl
      each (key ∷ keys) walked = λ i. known_walked held later walks key moment are walked.0 i ++ each keys walked.1 i

  sent_later : (ticks : Bool) (asked : List (Key × Cause)) → AreWalked walks (map (λ (due : Key × Cause). due.0) asked) → sent_by ticks walks moment asked ≡ sent_told ticks later moment asked
  sent_later true asked walked = ap (λ (known : List Rr). map to_all (pack_query (map (λ (due : Key × Cause). due.0) asked) known)) (known_later (map (λ (due : Key × Cause). due.0) asked) walked)
  sent_later false asked walked = refl

-- the names of the questions that are asked were walked
module _ (walks : List Walk) (moment : ℕ) where
  due_walked : (questions : List Tracked) → AllByRecursion (λ (one : Tracked). is_some (cause_of moment one) ≡ true → is_walked walks one.key.name ≡ true) questions →
      AreWalked walks (map (λ (due : Key × Cause). due.0) (filter_map (due_by walks moment) questions))
  due_walked [] walked = tt
  due_walked (one ∷ questions) walked = of (cause_of moment (timed_by walks one)) refl (due_walked questions walked.1)
    where
      name : (why : Cause) → cause_of moment (timed_by walks one) ≡ Some why → (b : Bool) → is_walked walks one.key.name ≡ b → is_walked walks one.key.name ≡ true
      name why e true h = h
      name why e false h = walked.0 (ap is_some (sym (ap (cause_of moment) (timed_unwalked walks one h)) ∙ e))

      of : (why : Option Cause) → cause_of moment (timed_by walks one) ≡ why → AreWalked walks (map (λ (due : Key × Cause). due.0) (filter_map (due_by walks moment) questions)) →
          AreWalked walks (map (λ (due : Key × Cause). due.0) (cons_option (option_map (λ why. (one.key, why)) why) (filter_map (due_by walks moment) questions)))
      of None e rest = rest
      of (Some why) e rest = (name why e (is_walked walks one.key.name) refl, rest)

  module _ (heard : Heard) where
    stands : (one : Tracked) → is_heard_by walks moment heard one ≡ true → may_stand_for moment heard one ≡ true
    stands one h =
        first (not heard.message.response) (heard.from.port == mdns_port) (not heard.message.truncated) (list_any (asks_openly one.key) heard.message.questions)
        (nat_le one.next (moment + 1000)) _ h
      where
        first : (a b c d e k : Bool) → (a && b && c && d && e && k) ≡ true → (a && b && c && d && e) ≡ true
        first true true true true true k h = refl
        first true true true true false k h = h
        first true true true false e k h = h
        first true true false d e k h = h
        first true false c d e k h = h
        first false b c d e k h = h

    heard_walked : (questions : List Tracked) → AllByRecursion (λ (one : Tracked). may_stand_for moment heard one ≡ true → is_walked walks one.key.name ≡ true) questions →
        AreWalked walks (map (λ (due : Key × Cause). due.0) (map heard_one (filter (is_heard_by walks moment heard) questions)))
    heard_walked [] walked = tt
    heard_walked (one ∷ questions) walked = of (is_heard_by walks moment heard one) refl (heard_walked questions walked.1)
      where
        of : (b : Bool) → is_heard_by walks moment heard one ≡ b →
            AreWalked walks (map (λ (due : Key × Cause). due.0) (map heard_one (filter (is_heard_by walks moment heard) questions))) →
            AreWalked walks (map (λ (due : Key × Cause). due.0) (map heard_one (cond b (one ∷ filter (is_heard_by walks moment heard) questions) (filter (is_heard_by walks moment heard) questions))))
        of true e rest = (walked.0 (stands one e), rest)
        of false e rest = rest

  asked_walked : (ticks : Bool) (heard : Option Heard) (questions : List Tracked) →
      AllByRecursion (λ (one : Tracked). cond ticks (is_some (cause_of moment one)) (may_be_heard heard moment one) ≡ true → is_walked walks one.key.name ≡ true) questions →
      AreWalked walks (map (λ (due : Key × Cause). due.0) (asked_by ticks heard questions walks moment))
  unfolding asked_by
  asked_walked true heard questions walked = due_walked questions walked
  asked_walked false None questions walked = tt
  asked_walked false (Some heard) questions walked = heard_walked heard questions walked

-- A plan that is made by walks is of what happened.
pub is_plan : (told : Told) (moment : ℕ) (sessions : List Session) (questions : List Tracked) (held later : List Held) (walks : List Walk) (before after : List Sent) (plan : Plan) →
    plan.asked.items ≡ asked_by told.ticks told.heard questions walks moment → after ≡ before ++ sent_by told.ticks walks moment plan.asked.items →
    plan.begun.items ≡ begun_keys told.call → plan.ended.items ≡ ended_told told.call told.detached sessions →
    AreTimed held questions → AreWalks held later walks → AllLive moment later → AreEnough told moment questions held later walks →
    IsPlan told moment sessions questions later walks before after plan
is_plan told moment sessions questions held later walks before after plan asked sent begins ends are_timed are live enough = record {
  asked = asked ∙ asked_later held later walks moment are told.ticks told.heard questions live are_timed enough.known enough.asked;
  sent = sent ∙ ap (λ (queries : List Sent). before ++ queries) (sent_later held later walks moment are told.ticks plan.asked.items walked);
  begun = begins;
  ended = ends;
  walked = walked;
}
  where
    walked : AreWalked walks (map (λ (asking : Key × Cause). asking.0) plan.asked.items)
    walked = subst (λ (asked : List (Key × Cause)). AreWalked walks (map (λ (asking : Key × Cause). asking.0) asked)) (sym asked) (asked_walked walks moment told.ticks told.heard questions enough.asked)

-- questions that are one have one name, case aside
name_same : (key : Key) (one : Tracked) → is_for key one ≡ true → folded_eq key.name one.key.name ≡ true
unfolding key_eq
name_same key one e = (and_parts (folded_eq key.name one.key.name) _ e).0

-- What is then kept has the first refresh points of the later records: of a walked name they are told, and of any other they are kept.
pub is_told : (held later : List Held) (walks : List Walk) (moment word : ℕ) (begins ends : List Key) (asked : List (Key × Cause)) (questions : List Tracked) →
    AreTimed held questions → AreWalks held later walks → AreKnown held later walks questions → AreWalked walks begins → AreWalked walks (map (λ (asking : Key × Cause). asking.0) asked) →
    map (timed_by walks) (all_asked moment asked (all_ended ends (all_begun moment word begins questions)))
    ≡ all_timed later (all_asked moment asked (all_ended ends (all_begun moment word begins questions)))
is_told held later walks moment word begins ends asked questions are_timed are known new noted =
    all_told (all_asked moment asked (all_ended ends (all_begun moment word begins questions)))
    (each_told IsGood (λ one users good. good) moment word begins ends asked questions (new_good begins new) (asked_good asked noted) (old_good questions are_timed known))
  where
    IsGood : Tracked → Type 0
    IsGood one = is_walked walks one.key.name ≡ false → IsTimed later one

    old_good : (questions : List Tracked) → AreTimed held questions → AreKnown held later walks questions → AllByRecursion IsGood questions
    old_good [] are_timed known = tt
    old_good (one ∷ questions) are_timed known = (λ other. timed_kept held later one (known.0 other) are_timed.0, old_good questions are_timed.1 known.1)

    new_good : (keys : List Key) → AreWalked walks keys → AllByRecursion (λ (key : Key). IsGood (begun moment word key)) keys
    new_good [] walked = tt
    new_good (key ∷ keys) walked = (λ other. absurd (true≢false (sym walked.0 ∙ other)), new_good keys walked.1)

    asked_good : (more : List (Key × Cause)) → AreWalked walks (map (λ (asking : Key × Cause). asking.0) more) → AllByRecursion (StaysAsked IsGood (λ one users good. good) moment word) more
    asked_good [] walked = tt
    asked_good (asking ∷ more) walked = (λ one e good. of one (walks_it one e) (is_counted asking.1), asked_good more walked.1)
      where
        walks_it : (one : Tracked) → is_for asking.0 one ≡ true → is_walked walks one.key.name ≡ true
        walks_it one e = sym (walked_alike walks asking.0.name one.key.name (name_same asking.0 one e)) ∙ walked.0

        of : (one : Tracked) → is_walked walks one.key.name ≡ true → (b : Bool) →
            IsGood (cond b (record one { next = moment + min one.gap longest_gap; gap = 2 * min one.gap longest_gap; last = Some moment }) (record one { last = Some moment }))
        of one h true other = absurd (true≢false (sym h ∙ other))
        of one h false other = absurd (true≢false (sym h ∙ other))

    all_told : (questions : List Tracked) → AllByRecursion IsGood questions → map (timed_by walks) questions ≡ all_timed later questions
    all_told [] good = refl
    all_told (one ∷ questions) good = λ i. timed_either held later walks one are good.0 i ∷ all_told questions good.1 i
