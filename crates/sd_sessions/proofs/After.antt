-- The sessions behind an entry, each told of what it was before.
use Rattle.std.proofs.Common.{◌≡◌, ℕ, Bool, true, cond, ◌||◌, List, [], ◌∷◌, ◌++◌, map, drop, length, ap, ◌∙◌}
use Rattle.sd_call.specs.declared.item.Item.{Item}
use Rattle.mdns_history.specs.declared.event.Event.{Event}
use Rattle.mdns_history.specs.declared.entry.Entry.{Entry}
use Rattle.mdns_history.specs.InForce.{Duties}
use Rattle.mdns_history.specs.declared.operation.Operation.{Operation}
use Rattle.mdns_history.specs.Sessions.{is_cut, operations_of}
use Rattle.mdns_history.specs.Items.{handed_over, queue}
use Rattle.mdns_history.specs.Fitting.{IsLegal}
use Rattle.sd_sessions.specs.Sessions.{Session, session_in, sessions_in}
use Rattle.sd_sessions.proofs.NumberLists.{has, map-same}
use Rattle.sd_sessions.proofs.EntryParts.{marked, entry_after}
use Rattle.sd_sessions.proofs.Attached.{attached_sessions-next}
use Rattle.sd_sessions.proofs.Shape.{attached, brought_to, passes_now, is_cut-attached}
use Rattle.sd_sessions.proofs.Queues.{begins_legal, queue-next}
use Rattle.sd_sessions.proofs.Operations.{operations_of-next}

abbrev made : ℕ → List Operation → Bool → List Item → Session
made n os c q = record { number = n; operations = os; cut = c; queue = q }

module _ (duties : Duties) (past : List Entry) (moment word : ℕ) (ev : Event) where
  -- a session behind the entry: its operations, whether it is cut by now, and what is left in its queue
  abbrev pub session_after : ℕ → Session
  session_after n = record {
    number = n;
    operations = operations_of n (marked duties past moment word ev ∷ past);
    cut = is_cut n past || passes_now duties past moment word ev n;
    queue = cond (is_cut n past || passes_now duties past moment word ev n) []
        (drop (length (handed_over n ev (entry_after duties past moment word ev).outcome)) (queue n past ++ brought_to duties past moment word ev n));
  }

  -- The sessions behind the entry are the attached ones, each as it is after.
  pub sessions-next : IsLegal duties past → sessions_in (entry_after duties past moment word ev ∷ past) ≡ map session_after (attached duties past moment word ev)
  sessions-next legal =
      ap (map (session_in (entry_after duties past moment word ev ∷ past))) (attached_sessions-next duties past moment word ev)
      ∙ map-same (session_in (entry_after duties past moment word ev ∷ past)) session_after (attached duties past moment word ev) each
    where
      each : (n : ℕ) → has n (attached duties past moment word ev) ≡ true → session_in (entry_after duties past moment word ev ∷ past) n ≡ session_after n
      each n h =
          ap (λ os. made n os (is_cut n (entry_after duties past moment word ev ∷ past)) (queue n (entry_after duties past moment word ev ∷ past))) (operations_of-next duties past moment word ev n)
          ∙ ap (λ c. made n (operations_of n (marked duties past moment word ev ∷ past)) c (queue n (entry_after duties past moment word ev ∷ past))) (is_cut-attached duties past moment word ev n h)
          ∙ ap (λ q. made n (operations_of n (marked duties past moment word ev ∷ past)) (is_cut n past || passes_now duties past moment word ev n) q)
          (queue-next duties past moment word ev (begins_legal duties past legal) n h)
