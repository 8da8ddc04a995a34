-- Answers of operations and codes of calls are read off what is kept of claims, where it stands for the history, and off the live records.
use Rattle.std.proofs.Common.{◌≡◌, ℕ, ℤ, Bool, true, false, cond, not, ◌&&◌, List, [], ◌∷◌, ◌++◌, map, Option, Some, None, refl, ap, ◌∙◌, sym}
use Rattle.std.specs.List.{find}
use Rattle.std.specs.Option.{is_some, option_and_then}
use Rattle.sd_answer.specs.Known.{rrs_of}
use Rattle.sd_call.specs.declared.request.Request.{Request}
use Rattle.sd_call.specs.declared.request.Request.TheVariants as request
use Rattle.sd_call.specs.Requests.{no_error, bad_param, bad_reference, unsupported, name_conflict, invalid, refused, well_formed, is_start, is_register}
use Rattle.mdns_history.specs.declared.config.Config.{Config}
use Rattle.mdns_history.specs.declared.event.Event.{Event}
use Rattle.mdns_history.specs.declared.held.Held.{Held}
use Rattle.mdns_history.specs.declared.operation.Operation.{Operation}
use Rattle.mdns_history.specs.declared.entry.Entry.{Entry}
use Rattle.mdns_history.specs.History.{now}
use Rattle.mdns_history.specs.Lifetimes.{live_records}
use Rattle.mdns_history.specs.Sessions.{has_op, opened_count, operations_of}
use Rattle.mdns_history.specs.Groups.{Group, groups, host_of}
use Rattle.mdns_history.specs.Answers.{answers_over, answers}
use Rattle.mdns_history.specs.Outcomes.{call_code, early_outcome}
use Rattle.mdns_history.specs.Fitting.{IsLegal}
use Rattle.mdns_probe.specs.declared.claim.Claim.{Claim}
use Rattle.mdns_probe.specs.Standing.{claim_in, claims_in}
use Rattle.mdns_probe.specs.Kept.{Kept, kept_in, own_of}
use Rattle.mdns_probe.specs.Answering.{code_by}
use Rattle.mdns_probe.specs.Answering as probe
use Rattle.mdns_probe.proofs.Answered.{answers_are, codes_are}
use Rattle.mdns_claims.specs.State.{Contents, Stands}
use Rattle.mdns_claims.specs.Owned.{registered_answers}
use Rattle.sd_sessions.specs.Answered.{Answering, answered}
use Rattle.sd_sessions.specs.Laws.{answers_in}
use Rattle.sd_sessions.specs.Sessions.{sessions_in}
use Rattle.sd_operations.specs.Codes.{updates_none, refers_to_none, is_foreign, is_too_many, kept_code}
use Rattle.sd_sessions.proofs.KeptOutcome.{early_outcome-is}
use Rattle.mdns_core.specs.InForce.{in_force}
use Rattle.mdns_core.specs.Viewed.{viewed, registering, kept_outcome}

-- the records of a history that are live now, as they were last heard
abbrev pub live : List Entry → List Held
live history = live_records history (now history)

claims-kept : (history : List Entry) (gs : List Group) → map (λ (one : Kept). one.claim) (map (kept_in history) gs) ≡ map (claim_in history) gs
claims-kept history [] = refl
claims-kept history (group ∷ gs) = ap (λ (l : List Claim). claim_in history group ∷ l) (claims-kept history gs)

module _ (history : List Entry) (contents : Contents) (stands : Stands contents history) where
  -- the claims of a history are those that are kept
  pub claims-are : map (λ (one : Kept). one.claim) contents.kept ≡ claims_in history
  claims-are = ap (map (λ (one : Kept). one.claim)) stands.kept ∙ claims-kept history (groups history)

  answers-of : (o : Operation) → answered (viewed contents (live history)) o ≡ answers o history
  answers-of o =
      (λ i. cond (is_register o.request) (registered_answers o.session o.op (stands.kept i)) (answers_over o.request (rrs_of (live history) ++ own_of (claims-are i))))
      ∙ sym (answers_are o history)

  -- Answers are read off the live records and what is kept of claims.
  pub answers-kept : ◌≡◌ {A = Answering} (answered (viewed contents (live history))) (answers_in history)
  answers-kept = λ i o. answers-of o i

  host-is : host_of history ≡ contents.config.host
  host-is = ap (λ (c : Option Config). option_and_then (λ (config : Config). config.host) c) stands.config

  module _ (session op : ℕ) where
    abbrev ops : List Operation
    ops = operations_of session history

    updates : (r : Request) (o : Option Operation) → probe.updates_none session op o contents.kept ≡ updates_none (registering contents session op r) o
    updates r None = refl
    updates r (Some operation) = refl

    references : (r : Request) → probe.refers_to_none session op r ops contents.kept ≡ refers_to_none (registering contents session op r) op r ops
    references request.Stop = refl
    references (request.Update txt) = updates (request.Update txt) (find (has_op op) ops)
    references (request.Query kind name) = refl
    references (request.Browse regtype) = refl
    references (request.Resolve label regtype) = refl
    references (request.Address families name) = refl
    references (request.Register label regtype port norename txt) = refl

    foreigns : (r : Request) → probe.is_foreign (is_some contents.config.host) r ≡ is_foreign (registering contents session op r) r
    foreigns request.Stop = refl
    foreigns (request.Update txt) = refl
    foreigns (request.Query kind name) = refl
    foreigns (request.Browse regtype) = refl
    foreigns (request.Resolve label regtype) = refl
    foreigns (request.Address families name) = refl
    foreigns (request.Register label regtype port norename txt) = refl

    abbrev coded : Request → Bool → Bool → ℤ
    coded r b c =
        cond (is_start r && is_some (find (has_op op) ops)) invalid
        (cond b bad_reference
        (cond (not (well_formed r)) bad_param
        (cond c unsupported
        (cond (is_start r && is_too_many (registering contents session op r) r ops) refused (cond (probe.is_held_name r contents.kept) name_conflict no_error)))))

    -- whether the name is held counts only where the call is well formed
    held-formed : (r : Request) (a w b c f h : Bool) →
        cond a invalid (cond b bad_reference (cond (not w) bad_param (cond c unsupported (cond f refused (cond h name_conflict no_error)))))
        ≡ cond a invalid (cond b bad_reference (cond (not w) bad_param (cond c unsupported (cond f refused (cond (w && h) name_conflict no_error)))))
    held-formed r a true b c f h = refl
    held-formed r true false b c f h = refl
    held-formed r false false true c f h = refl
    held-formed r false false false c f h = refl

    -- The code of a call is told by its session's operations and what is known of registrations.
    pub code-kept : (r : Request) → call_code session op r history ≡ kept_code (registering contents session op r) ops op r
    unfolding kept_code
    code-kept r =
        codes_are session op r history
        ∙ (λ i. code_by (is_some (host-is i)) (sym stands.registered i) (sym stands.kept i) ops session op r)
        ∙ (λ i. coded r (references r i) (foreigns r i))
        ∙ held-formed r (is_start r && is_some (find (has_op op) ops)) (well_formed r) (refers_to_none (registering contents session op r) op r ops) (is_foreign (registering contents session op r) r)
        (is_start r && is_too_many (registering contents session op r) r ops) (probe.is_held_name r contents.kept)

  -- The outcomes that the history decides are told by what is kept.
  pub outcome-kept : IsLegal in_force history → (ev : Event) → early_outcome ev history ≡ kept_outcome contents (opened_count history) (sessions_in history) ev
  outcome-kept legal ev = early_outcome-is in_force history legal (registering contents) code-kept ev
