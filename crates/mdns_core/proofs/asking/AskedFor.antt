-- The questions that an event asks, told of what is kept: their marks are those of the history, and so are the queries that a tick sends.
use Rattle.std.proofs.Common.{◌≡◌, ℕ, ◌+◌, Bool, true, false, cond, not, ◌&&◌, ◌||◌, nat_le, ◌==◌, List, [], ◌∷◌, ◌++◌, map, Option, Some, None, Result, Ok, Err, refl, ap, subst, ◌∙◌, sym}
use Rattle.std.specs.Prelude.{filter}
use Rattle.std.specs.List.{list_any, list_all, flat_map, filter_map, AllByRecursion}
use Rattle.std.specs.List.Sorted.{IsPermutation}
use Rattle.std.specs.Option.{option_map_or}
use Rattle.std.proofs.lemmas.List.Sorted.{list_any-IsPermutation}
use Rattle.mdns_base.specs.Hosts.{mdns_port}
use Rattle.mdns_base.specs.declared.host.Host.{Host}
use Rattle.lists.specs.Lists.{ordered}
use Rattle.dns_record.specs.declared.record.Rr.{Rr}
use Rattle.dns_record.specs.declared.record.Key.{Key}
use Rattle.dns_record.specs.Records.{matches, same, record_cmp}
use Rattle.dns_message.specs.declared.message.Message.{Message}
use Rattle.dns_message.specs.declared.message.MessageError.{MessageError}
use Rattle.dns_message.specs.Packing.{pack_query}
use Rattle.dns_message.specs.Reading.{spelled, fault_of}
use Rattle.mdns_history.specs.declared.event.Event.{Event}
use Rattle.mdns_history.specs.declared.event.Event.TheVariants as event
use Rattle.mdns_history.specs.declared.held.Held.{Held}
use Rattle.mdns_history.specs.declared.mark.Cause.{Cause}
use Rattle.mdns_history.specs.declared.mark.Cause.TheVariants as cause
use Rattle.mdns_history.specs.declared.mark.Mark.{Mark}
use Rattle.mdns_history.specs.declared.mark.Mark.TheVariants as mark
use Rattle.mdns_history.specs.declared.entry.Entry.{Entry}
use Rattle.mdns_history.specs.Hearings.{Hearing, Heard, hearings, brought, counted, counted_records}
use Rattle.mdns_history.specs.Lifetimes.{is_too_full, is_live_at, held_from, renewals, live_of, live_records}
use Rattle.mdns_history.specs.Asking.{asks_openly, known_answers, series_due, tick_askings, heard_askings}
use Rattle.mdns_history.specs.Asking as history_asking
use Rattle.mdns_history.specs.Sending.{to_all, key_in_mark}
use Rattle.mdns_history.specs.Fitting.{admitted}
use Rattle.mdns_happened.specs.Told.{unless}
use Rattle.mdns_known.specs.Known.{known_of}
use Rattle.mdns_known.proofs.Live.{of_live_records}
use Rattle.mdns_known.proofs.Union.{are_of_live_records}
use Rattle.mdns_question.specs.declared.tracked.Tracked.{Tracked}
use Rattle.mdns_question.specs.Tracking.{active_of, due_at}
use Rattle.mdns_question.specs.Standing.{IsTracked, Stands, mark_of}
use Rattle.mdns_question.proofs.Following.{due_follows}
use Rattle.mdns_asking.specs.State.{asker_of}
use Rattle.mdns_asking.specs.Asked.{is_asked_by, heard_for, asked_told, asked_for, sent_for}
use Rattle.mdns_core.specs.Next.{refusal_of, heard_with, IsHeard}
use Rattle.mdns_core.proofs.step.Stage.{queries_by, bare, asking_marks}
use Rattle.mdns_core.proofs.records.Hears.{unheard, full-is}

keeps_all : (test : Held → Bool) (held : List Held) → list_any (λ one. not (test one)) held ≡ false → filter test held ≡ held
keeps_all test [] none = refl
keeps_all test (one ∷ held) none = of (test one) refl none (keeps_all test held)
  where
    of : (b : Bool) → test one ≡ b → (not b || list_any (λ other. not (test other)) held) ≡ false → (list_any (λ other. not (test other)) held ≡ false → filter test held ≡ held) →
        cond b (one ∷ filter test held) (filter test held) ≡ one ∷ held
    of true e h rest = ap (λ more. one ∷ more) (rest h)
    of false e h rest = cc

none_fails : (test : Held → Bool) (held : List Held) → list_any (λ one. not (test one)) (filter test held) ≡ false
none_fails test [] = refl
none_fails test (one ∷ held) = of (test one) refl (none_fails test held)
  where
    of : (b : Bool) → test one ≡ b → list_any (λ other. not (test other)) (filter test held) ≡ false → list_any (λ other. not (test other)) (cond b (one ∷ filter test held) (filter test held)) ≡ false
    of true e rest = ap (λ b. not b || list_any (λ other. not (test other)) (filter test held)) e ∙ rest
    of false e rest = rest

-- the records that are live at a moment, in any order, are all live then
pub all_live : (heard : List Hearing) (moment : ℕ) (held : List Held) → IsPermutation held (live_of heard moment) → filter (is_live_at moment) held ≡ held
unfolding live_of
all_live heard moment held moved =
    keeps_all (is_live_at moment) held (
    list_any-IsPermutation (λ one. not (is_live_at moment one)) held (live_of heard moment) moved
    ∙ none_fails (is_live_at moment) (map (held_from heard) (renewals heard)))

-- the test of a message that may ask a question in the daemon's stead
abbrev asks : Bool → Heard → ℕ → Key → ℕ → List Rr → Bool
asks response heard moment key next known =
    not response && (heard.from.port == mdns_port) && not heard.message.truncated && list_any (asks_openly key) heard.message.questions
    && nat_le next (moment + 1000)
    && list_all (λ rr. not (matches key rr) || list_any (same rr) known) heard.message.answers

-- a message that was counted is one
good : (from : Host) (r : Result Message MessageError) (heard : Heard) → counted from r ≡ Some heard → ◌≡◌ {A = List Mark} (option_map_or (λ number. mark.Bad number ∷ []) (fault_of r) []) []
good from (Ok message) heard e = refl
good from (Err error) heard e = cc

keys_are : (asked : List (Key × Cause)) → filter_map key_in_mark (map mark_of asked) ≡ map (λ due. due.0) asked
keys_are [] = refl
keys_are (due ∷ asked) = ap (λ keys. due.0 ∷ keys) (keys_are asked)

module _ (past : List Entry) (moment word : ℕ) (questions : List Tracked) (before after : List Held) (refusal : List Mark) (asking : Stands (asker_of questions before) past) where
  -- the questions stand for the history, whatever records they were told of
  told : Stands (asker_of questions after) past
  told = record { questions = asking.questions; each = asking.each }

  -- an event that brings no record leaves the records of the history
  live : (ev : Event) → IsHeard moment word ev (hearings past) after refusal → counted_records (brought ev) ≡ [] → IsPermutation after (live_records past moment)
  unfolding live_records
  live ev heard none = subst (λ hs. IsPermutation after (live_of hs moment)) (unheard moment word ev (hearings past) none) heard.records

  due_marks : IsHeard moment word event.Tick (hearings past) after refusal → map mark_of (due_at (asker_of questions after) moment) ≡ tick_askings past moment
  due_marks heard =
      due_follows (asker_of questions after) past moment told
      (subst (λ held. IsPermutation held (live_records past moment)) (sym (all_live (heard_with moment word event.Tick (hearings past)) moment after heard.records)) (live event.Tick heard refl))

  -- a message asks a question by what is kept where it does by the history
  asks_alike : (message : Heard) → (message.message.response ≡ false → IsPermutation after (live_records past moment)) → (one : Tracked) → IsTracked past one →
      is_asked_by after moment message one ≡ history_asking.is_asked_by past moment message (active_of one)
  asks_alike message quiet one is = of message.message.response refl
    where
      of : (r : Bool) → message.message.response ≡ r →
          asks r message moment one.key one.next (known_of one.key after moment) ≡ asks r message moment one.key (series_due (active_of one) past) (known_answers one.key past moment)
      of true e = refl
      of false e =
          ap (λ next. asks false message moment one.key next (known_of one.key after moment)) is.next
          ∙ ap (λ known. asks false message moment one.key (series_due (active_of one) past) known) (of_live_records one.key past moment after (quiet e))

  heard_marks : (message : Heard) → (message.message.response ≡ false → IsPermutation after (live_records past moment)) → (ones : List Tracked) → AllByRecursion (IsTracked past) ones →
      map mark_of (map (λ one. (one.key, cause.Heard)) (filter (is_asked_by after moment message) ones))
      ≡ map (λ active. mark.Asked active.key cause.Heard) (filter (history_asking.is_asked_by past moment message) (map active_of ones))
  heard_marks message quiet [] each = refl
  heard_marks message quiet (one ∷ ones) each =
      of (is_asked_by after moment message one) (heard_marks message quiet ones each.1)
      ∙ ap (λ b. map (λ active. mark.Asked active.key cause.Heard) (cond b (active_of one ∷ filter (history_asking.is_asked_by past moment message) (map active_of ones)) (filter (history_asking.is_asked_by past moment message) (map active_of ones))))
      (asks_alike message quiet one each.0)
    where
      of : (b : Bool) →
          map mark_of (map (λ other. (other.key, cause.Heard)) (filter (is_asked_by after moment message) ones))
          ≡ map (λ active. mark.Asked active.key cause.Heard) (filter (history_asking.is_asked_by past moment message) (map active_of ones)) →
          map mark_of (map (λ other. (other.key, cause.Heard)) (cond b (one ∷ filter (is_asked_by after moment message) ones) (filter (is_asked_by after moment message) ones)))
          ≡ map (λ active. mark.Asked active.key cause.Heard) (cond b (active_of one ∷ filter (history_asking.is_asked_by past moment message) (map active_of ones)) (filter (history_asking.is_asked_by past moment message) (map active_of ones)))
      of true rest = ap (λ ms. mark.Asked one.key cause.Heard ∷ ms) rest
      of false rest = rest

  unless_none : (ms : List Mark) → heard_for questions after moment (unless ms None) ≡ []
  unless_none [] = refl
  unless_none (m ∷ ms) = refl

  -- the marks of questions that a packet asks
  packet_marks : (from : Host) (bytes : List ℕ) → IsHeard moment word (event.Hear from bytes) (hearings past) after refusal →
      map mark_of (heard_for questions after moment (unless refusal (brought (event.Hear from bytes)))) ≡ asking_marks past moment word (event.Hear from bytes)
  unfolding heard_askings
  packet_marks from bytes heard = of (brought ev) refl
    where
      ev : Event
      ev = event.Hear from bytes

      of : (o : Option Heard) → brought ev ≡ o → map mark_of (heard_for questions after moment (unless refusal o)) ≡ heard_askings past moment (admitted (bare past moment word ev) past o)
      of None e = ap (map mark_of) (unless_none refusal)
      of (Some message) e =
          ap (λ ms. map mark_of (heard_for questions after moment (unless ms (Some message)))) (heard.refused ∙ ap (λ b. refusal_of b ev) (full-is past moment word ev))
          ∙ room (is_too_full (bare past moment word ev) past)
        where
          quiet : message.message.response ≡ false → IsPermutation after (live_records past moment)
          quiet query = live ev heard (ap counted_records e ∙ ap (λ b. cond b (message.message.answers ++ message.message.additional) []) query)

          room : (b : Bool) → map mark_of (heard_for questions after moment (unless (refusal_of b ev) (Some message))) ≡ heard_askings past moment (cond b None (Some message))
          room true = refl
          room false =
              ap (λ ms. map mark_of (heard_for questions after moment (unless ms (Some message)))) (good from (spelled bytes) message e)
              ∙ heard_marks message quiet questions asking.each
              ∙ ap (λ actives. map (λ active. mark.Asked active.key cause.Heard) (filter (history_asking.is_asked_by past moment message) actives)) asking.questions

  -- The marks of the questions that are asked are those of the history.
  pub marks-asked : (ev : Event) → IsHeard moment word ev (hearings past) after refusal → map mark_of (asked_for questions after moment refusal ev) ≡ asking_marks past moment word ev
  unfolding asked_told heard_askings
  marks-asked event.Tick heard = due_marks heard
  marks-asked (event.Hear from bytes) heard = packet_marks from bytes heard
  marks-asked (event.Boot config) heard = refl
  marks-asked event.Attach heard = refl
  marks-asked (event.Detach session) heard = refl
  marks-asked (event.Call session op request) heard = refl
  marks-asked (event.Take session max) heard = refl

  tick_sent : (heard : IsHeard moment word event.Tick (hearings past) after refusal) → sent_for after moment event.Tick (due_at (asker_of questions after) moment) ≡ queries_by past moment event.Tick
  tick_sent heard =
      let asked : List (Key × Cause) = due_at (asker_of questions after) moment in
      let keys : List Key = map (λ due. due.0) asked in
      ap (λ known. map to_all (pack_query keys known)) (are_of_live_records keys past moment after (live event.Tick heard refl))
      ∙ ap (λ ks. map to_all (pack_query ks (ordered record_cmp (flat_map (λ key. known_answers key past moment) ks)))) (sym (keys_are asked) ∙ ap (filter_map key_in_mark) (due_marks heard))

  -- What is sent is what the history says.
  pub sends-asked : (ev : Event) → IsHeard moment word ev (hearings past) after refusal → sent_for after moment ev (asked_for questions after moment refusal ev) ≡ queries_by past moment ev
  unfolding asked_told
  sends-asked event.Tick heard = tick_sent heard
  sends-asked (event.Hear from bytes) heard = refl
  sends-asked (event.Boot config) heard = refl
  sends-asked event.Attach heard = refl
  sends-asked (event.Detach session) heard = refl
  sends-asked (event.Call session op request) heard = refl
  sends-asked (event.Take session max) heard = refl
