-- The records of groups under their names: what is told of a group that is kept, and of one that an event leaves alone.
use Rattle.std.proofs.Common.{◌≡◌, ℕ, ◌==◌, Bool, true, false, cond, not, ◌&&◌, List, [], ◌∷◌, ◌++◌, refl, ap, sym, ◌∙◌, append-nil, Option, Some, None}
use Rattle.std.specs.List.{list_any, flat_map}
use Rattle.std.specs.Prelude.{slice_get}
use Rattle.std.specs.Option.{option_map, option_and_then, option_to_list, unwrap_or}
use Rattle.dns_record.specs.declared.record.Rdata.TheVariants.{Txt, Srv}
use Rattle.mdns_history.specs.declared.config.Config.{Config}
use Rattle.mdns_history.specs.declared.mark.Mark.{Mark}
use Rattle.mdns_history.specs.declared.entry.Entry.{Entry}
use Rattle.mdns_history.specs.History.{latest, config_of}
use Rattle.mdns_history.specs.Sessions.{present_txt}
use Rattle.mdns_history.specs.Groups.{Group, group_name, number_of, renaming, host_group, host_name, published_txt, unique_record, host_ttl, other_ttl, address_records, service_unique, unique_records, shared_records}
use Rattle.mdns_history.specs.Sureness.{is_setback_of}
use Rattle.mdns_history.specs.Announcing.{same_records}
use Rattle.mdns_probe.specs.declared.claim.Claim.{Claim}
use Rattle.mdns_probe.specs.Claiming.{replaced}
use Rattle.mdns_probe.specs.Naming.{unique_named, shared_named}
use Rattle.mdns_probe.proofs.Paced.{not_renamed}
use Rattle.mdns_probe.proofs.Sames.{same_itself}
use Rattle.mdns_renewals.specs.Occasions.{number_after, txt_in}
use Rattle.mdns_claims.specs.Behind.{host_named}

published_again : (txt : List ℕ) → published_txt (published_txt txt) ≡ published_txt txt
published_again [] = refl
published_again (b ∷ bs) = refl

-- the host's name is that of its number
pub host_is : (history : List Entry) (config : Config) → config_of history ≡ Some config → host_name history ≡ host_named config (unwrap_or (latest (renaming 0) history) 1)
unfolding host_name group_name number_of
host_is history config e = ap (λ (o : Option Config). unwrap_or (option_map (λ host. group_name (host_group host) history) (option_and_then (λ c. c.host) o)) []) e

-- the records of a group are those of its name
pub unique_is : (group : Group) (history : List Entry) (config : Config) → config_of history ≡ Some config →
    unique_records group history ≡ unique_named config (host_name history) group (group_name group history) (present_txt group.session group.op history)
unfolding unique_records
unique_is group history config e = of (group.id == 0)
  where
    of : (b : Bool) → cond b (flat_map (address_records (group_name group history)) (option_to_list (config_of history))) (service_unique (group_name group history) group.port (present_txt group.session group.op history) (host_name history))
        ≡ cond b (address_records (group_name group history) config) (service_unique (group_name group history) group.port (present_txt group.session group.op history) (host_name history))
    of true = ap (λ (o : Option Config). flat_map (address_records (group_name group history)) (option_to_list o)) e ∙ append-nil (address_records (group_name group history) config)
    of false = refl

pub shared_is : (group : Group) (history : List Entry) → shared_records group history ≡ shared_named group (group_name group history)
unfolding shared_records
shared_is group history = refl

-- TXT data that were published are published as they are
pub txt_again : (config : Config) (host : List (List ℕ)) (group : Group) (name : List (List ℕ)) (given : Option (List ℕ)) (txt : List ℕ) →
    unique_named config host group name (unwrap_or given (published_txt txt)) ≡ unique_named config host group name (unwrap_or given txt)
txt_again config host group name (Some bytes) txt = refl
txt_again config host group name None txt = of (group.id == 0)
  where
    of : (b : Bool) → cond b (address_records name config) (service_unique name group.port (published_txt txt) host) ≡ cond b (address_records name config) (service_unique name group.port txt host)
    of true = refl
    of false = ap (λ (bytes : List ℕ). unique_record name other_ttl (Txt bytes) ∷ unique_record name host_ttl (Srv 0 0 group.port host) ∷ []) (published_again txt)

-- the TXT data among the records of a service
pub txt_among : (config : Config) (host : List (List ℕ)) (group : Group) (name : List (List ℕ)) (txt : List ℕ) → (group.id == 0) ≡ false → txt_in (unique_named config host group name txt) ≡ published_txt txt
txt_among config host group name txt real = ap (λ b. txt_in (cond b (address_records name config) (service_unique name group.port txt host))) real

-- the host's records have no use for TXT data
pub host_txt : (config : Config) (host : List (List ℕ)) (group : Group) (name : List (List ℕ)) (txt other : List ℕ) → (group.id == 0) ≡ true → unique_named config host group name txt ≡ unique_named config host group name other
host_txt config host group name txt other e =
    ap (λ b. cond b (address_records name config) (service_unique name group.port txt host)) e
    ∙ sym (ap (λ b. cond b (address_records name config) (service_unique name group.port other host)) e)

-- the TXT data behind an event, told by the records before it
pub txt_told : (config : Config) (host before : List (List ℕ)) (group : Group) (name old : List (List ℕ)) (given : Option (List ℕ)) (txt : List ℕ) →
    unique_named config host group name (unwrap_or given (txt_in (unique_named config before group old txt))) ≡ unique_named config host group name (unwrap_or given txt)
txt_told config host before group name old given txt = of (group.id == 0) refl
  where
    of : (b : Bool) → (group.id == 0) ≡ b → unique_named config host group name (unwrap_or given (txt_in (unique_named config before group old txt))) ≡ unique_named config host group name (unwrap_or given txt)
    of true e = host_txt config host group name (unwrap_or given (txt_in (unique_named config before group old txt))) (unwrap_or given txt) e
    of false e = ap (λ t. unique_named config host group name (unwrap_or given t)) (txt_among config before group old txt e) ∙ txt_again config host group name given txt

-- another host's name changes nothing of the host
pub other_host : (config : Config) (host other : List (List ℕ)) (group : Group) (name : List (List ℕ)) (txt : List ℕ) (renamed : Bool) → (not (group.id == 0) && renamed) ≡ false → (renamed ≡ false → host ≡ other) →
    unique_named config host group name txt ≡ unique_named config other group name txt
other_host config host other group name txt true alone same = of (group.id == 0) refl alone
  where
    of : (b : Bool) → (group.id == 0) ≡ b → (not b && true) ≡ false → unique_named config host group name txt ≡ unique_named config other group name txt
    of true e h =
        ap (λ b. cond b (address_records name config) (service_unique name group.port txt host)) e
        ∙ sym (ap (λ b. cond b (address_records name config) (service_unique name group.port txt other)) e)
    of false e h = cc
other_host config host other group name txt false alone same = ap (λ h. unique_named config h group name txt) (same refl)

-- a group that isn't set back keeps its number
pub number_kept : (id : ℕ) (marks : List Mark) (number : ℕ) → list_any (is_setback_of id) marks ≡ false → number_after id marks number ≡ number
number_kept id marks number calm = ap (λ (ns : List ℕ). unwrap_or (slice_get ns 0) number) (not_renamed id marks calm)

-- a claim with the records that it has is as it was
pub replaced_same : (moment : ℕ) (claim : Claim) → replaced moment claim.unique claim.shared claim ≡ claim
replaced_same moment claim =
    λ i. record {
      group = claim.group;
      unique = claim.unique;
      shared = claim.shared;
      probes = claim.probes;
      due = claim.due;
      sure = claim.sure;
      announced = cond (none i) 0 claim.announced;
      next = cond (none i) moment claim.next;
    }
  where
    off : (b : Bool) → (b && false) ≡ false
    off true = refl
    off false = refl

    none : (claim.sure && not (same_records (claim.unique ++ claim.shared) (claim.unique ++ claim.shared))) ≡ false
    none = ap (λ b. claim.sure && not b) (same_itself (claim.unique ++ claim.shared)) ∙ off claim.sure
