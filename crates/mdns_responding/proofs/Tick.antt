-- A tick without its marks and messages leaves names and records, and makes sure what is due to be. (RFC 6762 8.1)
use Rattle.std.proofs.Common.{◌≡◌, ℕ, ◌≤◌, ◌==◌, true, List, ◌∷◌, ◌++◌, refl, ap, ◌∙◌}
use Rattle.mdns_history.specs.declared.event.Event.TheVariants as event
use Rattle.mdns_history.specs.declared.entry.Entry.{Entry}
use Rattle.mdns_history.specs.InForce.{Duties}
use Rattle.mdns_history.specs.History.{now}
use Rattle.mdns_history.specs.Sessions.{operations_of}
use Rattle.mdns_history.specs.Groups.{Group, groups, is_group, registration_in, group_records}
use Rattle.mdns_history.specs.Fitting.{bare_entry, IsLegal}
use Rattle.mdns_asserts.proofs.Elements.{In, any_in}
use Rattle.mdns_asserts.proofs.Numbered.{own_id}
use Rattle.mdns_probe.specs.Claiming.{settled_if}
use Rattle.mdns_probe.specs.Standing.{claim_in, IsPaced}
use Rattle.mdns_probe.proofs.Distinct.{has_id}
use Rattle.mdns_probe.proofs.Follows.{unprobed_follows}
use Rattle.mdns_probe.proofs.Ticking.{IsCalm, same_groups, unset_back, same_name, same_unique, same_shared, paced_legal}
use Rattle.mdns_responding.proofs.Each.{of_each}

module _ (past : List Entry) (moment word : ℕ) where
  abbrev tick : Entry
  tick = bare_entry moment word event.Tick past

  calm : IsCalm tick past
  unfolding registration_in operations_of
  calm = record { no_boot = refl; none_registered = refl; running = λ session op. refl; unfailed = λ id. refl; unset = λ id. refl; operating = λ session. refl }

  pub tick_groups : groups (tick ∷ past) ≡ groups past
  tick_groups = same_groups tick past calm

  pub tick_records : (group : Group) → group_records group (tick ∷ past) ≡ (claim_in past group).unique ++ (claim_in past group).shared
  unfolding group_records
  tick_records group = λ i. same_unique tick past calm group i ++ same_shared tick past calm group i

  module _ (duties : Duties) (claiming : duties.claiming ≡ true) (legal : IsLegal duties past) (later : now past ≤ moment) where
    pub tick_claim : (group : Group) → In group (groups past) → claim_in (tick ∷ past) group ≡ settled_if moment (claim_in past group)
    tick_claim group m =
        let live : is_group group.id past ≡ true = any_in (λ (one : Group). one.id == group.id) (groups past) group m (own_id group.id) in
        unprobed_follows group tick past live (ap (has_id group.id) tick_groups ∙ live) (same_name tick past calm group) (unset_back tick past calm group.id) later
        (of_each (IsPaced past) (groups past) (paced_legal duties claiming past legal) group m)
        refl (same_unique tick past calm group) (same_shared tick past calm group) refl refl
