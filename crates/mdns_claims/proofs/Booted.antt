-- What a daemon keeps of claims at its first moment stands for the history of its boot.
use Rattle.std.proofs.Common.{◌≡◌, ℕ, ◌%◌, [], ◌∷◌, map, refl, ap, sym, ◌∙◌, Option, Some, None}
use Rattle.std.specs.Option.{option_or, option_map, option_to_list}
use Rattle.dns_record.specs.Conflicts.{is_stormy}
use Rattle.mdns_history.specs.declared.config.Config.{Config}
use Rattle.mdns_history.specs.declared.config.HostConfig.{HostConfig}
use Rattle.mdns_history.specs.declared.entry.Entry.{Entry}
use Rattle.mdns_history.specs.Groups.{Group, groups, host_group, numbered_name, number_of, group_name, registration_in, registered_count, address_records, unique_records, shared_records}
use Rattle.mdns_history.specs.Probing.{conflict_moments, first_wait}
use Rattle.mdns_history.specs.Fitting.{boot_entry}
use Rattle.mdns_conflict.specs.Storms as storms
use Rattle.mdns_probe.specs.Claiming.{begun}
use Rattle.mdns_probe.specs.Standing.{claim_in}
use Rattle.mdns_probe.specs.Kept.{kept_in, all_kept}
use Rattle.mdns_probe.proofs.Legal.{boot_groups}
use Rattle.mdns_probe.proofs.Follows.{set_back_follows}
use Rattle.mdns_claims.specs.State.{Contents, Stands}
use Rattle.mdns_claims.specs.Behind.{host_kept}
use Rattle.mdns_claims.proofs.Records.{unique_is, shared_is}

module _ (moment word : ℕ) (config : Config) where
  abbrev boot : Entry
  boot = boot_entry moment word config

  -- the host's group has the number 1 and waits for its first probe
  wait_is : first_wait 0 boot [] ≡ word % 251
  unfolding conflict_moments is_stormy
  wait_is = refl

  host_is : (host : HostConfig) → kept_in (boot ∷ []) (host_group host) ≡ host_kept moment word config host
  unfolding number_of group_name
  host_is host =
      let group : Group = host_group host in
      let unique : unique_records group (boot ∷ []) ≡ address_records (numbered_name group 1) config = unique_is group (boot ∷ []) config refl in
      let shared : shared_records group (boot ∷ []) ≡ [] = shared_is group (boot ∷ []) in
      let claim : claim_in (boot ∷ []) group ≡ begun moment (word % 251) 0 (address_records (numbered_name group 1) config) [] =
      set_back_follows group boot [] refl ∙ (λ i. begun moment (wait_is i) 0 (unique i) (shared i)) in
      λ i. record { group = group; number = 1; claim = claim i }

  kept_is : (o : Option HostConfig) → groups (boot ∷ []) ≡ option_to_list (option_or (option_map host_group o) None) → all_kept (boot ∷ []) ≡ option_to_list (option_map (host_kept moment word config) o)
  kept_is None are = ap (map (kept_in (boot ∷ []))) are
  kept_is (Some host) are = ap (map (kept_in (boot ∷ []))) are ∙ ap (λ k. k ∷ []) (host_is host)

  storm_is : (storm : storms.Contents) → storms.Stands storm [] → storms.Stands storm (conflict_moments (boot ∷ []))
  unfolding conflict_moments
  storm_is storm is = is

  pub boot_stands : (contents : Contents) → contents.config ≡ config → contents.number ≡ 1 → contents.registered ≡ 0 → contents.kept ≡ option_to_list (option_map (host_kept moment word config) config.host) →
      storms.Stands contents.storm [] → Stands contents (boot ∷ [])
  unfolding registered_count registration_in
  boot_stands contents same number registered kept storm = record {
    config = ap Some (sym same);
    number = number;
    registered = registered;
    kept = kept ∙ sym (kept_is config.host (boot_groups moment word config));
    storm = storm_is contents.storm storm;
  }
