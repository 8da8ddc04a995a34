-- What a daemon's state says of the histories that it stands for: at its boot, of its sessions, and when something is due.
use Rattle.std.proofs.Common.{◌≡◌, ℕ, ◌≤◌, Bool, true, false, cond, max, List, [], ◌∷◌, ◌++◌, map, Option, Some, None, refl, ap, subst, ◌∙◌, sym, IsTrue}
use Rattle.std.proofs.lemmas.List.Sorted.{IsPermutation-refl}
use Rattle.std.specs.List.{find, flat_map}
use Rattle.std.specs.List.Sorted.{IsPermutation}
use Rattle.std.specs.Option.{is_some, option_map}
use Rattle.sd_call.specs.Replay.{replay}
use Rattle.mdns_history.specs.declared.config.Config.{Config}
use Rattle.mdns_history.specs.declared.entry.Entry.{Entry}
use Rattle.mdns_core.specs.InForce.{in_force}
use Rattle.mdns_history.specs.Hearings.{Hearing, hearings, heard_in}
use Rattle.mdns_history.specs.Lifetimes.{live_of, live_records}
use Rattle.mdns_history.specs.Sessions.{is_attached, attached_sessions, is_cut, operations}
use Rattle.mdns_history.specs.Questions.{Active, active_questions}
use Rattle.mdns_history.specs.Items.{session_items, taken_items, queue}
use Rattle.mdns_history.specs.Replays.{answer_sets}
use Rattle.mdns_history.specs.Fitting.{boot_entry, last_moment, is_host_label}
use Rattle.mdns_history.specs.Due.{NextDue}
use Rattle.mdns_history.proofs.LegalReplay.{is_replayed}
use Rattle.mdns_history.proofs.LegalQueue.{is_queued}
use Rattle.mdns_cache.specs.Lifetimes.{Holds}
use Rattle.mdns_history.specs.declared.event.Event.{Event}
use Rattle.mdns_history.specs.declared.held.Held.{Held}
use Rattle.mdns_history.specs.declared.mark.Mark.{Mark}
use Rattle.mdns_core.specs.Next.{IsHeard}
use Rattle.mdns_core.specs.State.{State, Stands, reply_moments, due_of}
use Rattle.sd_sessions.specs.Sessions.{Session, session_in}
use Rattle.sd_sessions.specs.Codes.{has_number}
use Rattle.mdns_question.specs.Next.{next_of}
use Rattle.lists.specs.Lists.{least}
use Rattle.mdns_core.proofs.ticks.Due.{due-held}
use Rattle.mdns_core.proofs.ticks.Quiet.{is_idle-kept}
use Rattle.mdns_claims.specs.State.{Contents}
use Rattle.mdns_claims.specs.State as claims
use Rattle.mdns_claims.specs.Behind.{next_in}
use Rattle.mdns_reply.specs.Lasts.{Last}
use Rattle.mdns_reply.specs.Lasts as lasts
use Rattle.mdns_debts.specs.Queries.{owed_queries}
use Rattle.mdns_debts.specs.Following.{queries_in}
use Rattle.sd_sessions.proofs.KeptOutcome.{found-session}

-- the state of a daemon that was just booted
abbrev pub booted_state : ℕ → Contents → State
booted_state moment claims = record { last = moment; opened = 0; sessions = []; held = []; questions = []; claims = claims; multicasts = []; queries = [] }

none_live : (moment word : ℕ) (config : Config) → live_records (boot_entry moment word config ∷ []) moment ≡ []
unfolding live_records live_of hearings heard_in
none_live moment word config = refl

none_attached : (moment word : ℕ) (config : Config) → attached_sessions (boot_entry moment word config ∷ []) ≡ []
unfolding attached_sessions
none_attached moment word config = refl

none_active : (moment word : ℕ) (config : Config) → ◌≡◌ {A = List Active} [] (active_questions (boot_entry moment word config ∷ []))
unfolding active_questions operations attached_sessions
none_active moment word config = refl

none_owed : (moment word : ℕ) (config : Config) → queries_in (boot_entry moment word config ∷ []) ≡ []
unfolding owed_queries heard_in
none_owed moment word config = refl

-- A daemon that was just booted stands for the history of its boot, where its claims do and it knows of no multicast.
pub stands-boot : (moment word : ℕ) (config : Config) (contents : Contents) → moment ≤ last_moment → IsTrue (is_host_label config.host) → claims.Stands contents (boot_entry moment word config ∷ []) →
    contents.announces ≡ in_force.announcing → lasts.Stands [] (boot_entry moment word config ∷ []) → Stands (booted_state moment contents) (boot_entry moment word config ∷ [])
stands-boot moment word config contents in_time labelled claiming announces lasting = record {
  legal = (config, in_time, labelled, refl);
  last = refl;
  opened = refl;
  sessions = sym (ap (map (session_in (boot_entry moment word config ∷ []))) (none_attached moment word config));
  asking = record { questions = none_active moment word config; each = tt };
  claims = claiming;
  announces = announces;
  multicasts = lasting;
  queries = sym (none_owed moment word config);
  records = subst (λ live. IsPermutation [] live) (sym (none_live moment word config)) (IsPermutation-refl []);
  typed = refl;
}

-- A session is attached where its number is found among those that are kept.
pub attached-stands : (state : State) (history : List Entry) → Stands state history → (n : ℕ) → is_some (find (has_number n) state.sessions) ≡ is_attached n history
attached-stands state history stands n =
    ap (λ xs. is_some (find (has_number n) xs)) stands.sessions ∙ ap (λ (o : Option Session). is_some o) (found-session in_force history stands.legal n) ∙ of (is_attached n history)
  where
    of : (b : Bool) → is_some (cond b (Some (session_in history n)) None) ≡ b
    of true = refl
    of false = refl

-- The next moment that is due is the first, from the last one on, at which a held record ends, or a question, a group or a reply is due.
pub due-stands : (state : State) (history : List Entry) → Stands state history → NextDue in_force history (due_of state)
due-stands state history stands =
    subst (λ k. NextDue in_force history (option_map (max k) (least (map (λ one. one.end) state.held ++ map (next_of state.held) state.questions ++ waits)))) (sym stands.last)
    (due-held history waits
    (λ t later. is_idle-kept history t stands.legal later state.claims stands.announces stands.claims state.multicasts stands.multicasts state.queries stands.queries)
    state.questions state.held stands.asking stands.records)
  where
    waits : List ℕ
    waits = flat_map (next_in state.claims.announces) state.claims.kept ++ reply_moments state.multicasts state.queries

-- Replaying the items of a session that is attached and not cut gives the answers of its operations.
pub replayed-stands : (state : State) (history : List Entry) → Stands state history → (n : ℕ) → is_attached n history ≡ true → is_cut n history ≡ false →
    replay (session_items n history) ≡ Some (answer_sets n history)
replayed-stands state history stands n attached uncut = is_replayed in_force history n stands.legal attached uncut

-- They are those that it took, and then those that are queued for it.
pub queued-stands : (state : State) (history : List Entry) → Stands state history → (n : ℕ) → is_cut n history ≡ false → session_items n history ≡ taken_items n history ++ queue n history
queued-stands state history stands n uncut = is_queued in_force history n stands.legal uncut

-- What is held is the live records of what was heard.
pub holds-stands : (state : State) (history : List Entry) → Stands state history → Holds state.held (hearings history) state.last
unfolding live_records
holds-stands state history stands = subst (λ k. IsPermutation state.held (live_of (hearings history) k)) (sym stands.last) stands.records

-- An event hears with what was heard before it.
pub heard-stands : (state : State) (history : List Entry) → Stands state history → (moment word : ℕ) (ev : Event) (after : List Held) (refusal : List Mark) → state.last ≤ moment →
    ((past : List Hearing) (before : ℕ) → before ≤ moment → Holds state.held past before → IsHeard moment word ev past after refusal) → IsHeard moment word ev (hearings history) after refusal
heard-stands state history stands moment word ev after refusal later heard = heard (hearings history) state.last later (holds-stands state history stands)
