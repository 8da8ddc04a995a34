-- Groups of records under one name: the host, and each registration. (RFC 6762 2 and 9, RFC 6763 4 to 7 and 9)
use Rattle.std.specs.Prelude.{ℕ, ◌+◌, ◌==◌, Bool, true, false, not, ◌||◌, List, [], ◌∷◌, ◌++◌, map, length, filter, slice_get, Option, Some, None, if◌then◌else◌}
use Rattle.std.specs.List.{filter_map, find, list_any, flat_map}
use Rattle.std.specs.Option.{option_map, option_and_then, unwrap_or, option_to_list, option_or, is_some}
use Rattle.lists.specs.Lists.{ordered, count_where, count_up}
use Rattle.dns_name.specs.Names.{folded_eq}
use Rattle.dns_record.specs.declared.record.Rdata.{Rdata}
use Rattle.dns_record.specs.declared.record.Rdata.TheVariants.{A, Aaaa, Ptr, Srv, Txt}
use Rattle.dns_record.specs.declared.record.Rr.{Rr}
use Rattle.dns_record.specs.Records.{record_cmp}
use Rattle.sd_name.specs.ServiceTypes.{ServiceType, service_type, local_name, subtype_name, types_name}
use Rattle.sd_name.specs.Renaming.{renamed, host_renamed}
use Rattle.sd_call.specs.declared.request.Request.{Request}
use Rattle.sd_call.specs.declared.request.Request.TheVariants as request
use Rattle.mdns_history.specs.declared.config.Config.{Config}
use Rattle.mdns_history.specs.declared.config.HostConfig.{HostConfig}
use Rattle.mdns_history.specs.declared.mark.Mark.{Mark}
use Rattle.mdns_history.specs.declared.mark.Mark.TheVariants as mark
use Rattle.mdns_history.specs.declared.entry.Entry.{Entry}
use Rattle.mdns_history.specs.History.{latest, has_mark, booted, config_of}
use Rattle.mdns_history.specs.Sessions.{accepted_in, ends_operation, present_txt}

-- A group: the host is number 0, the n-th accepted registration number n. It began with a number for its name.
pub record Group : Type 0 where
  pub id : ℕ
  pub session : ℕ
  pub op : ℕ
  pub label : List ℕ
  pub type : ServiceType
  pub port : ℕ
  pub norename : Bool
  pub first : ℕ

-- what hosts stand under
abbrev pub no_type : ServiceType
no_type = record { name = local_name; subtypes = [] }

-- the group of the host
abbrev pub host_group : HostConfig → Group
host_group host = record { id = 0; session = 0; op = 0; label = host.label; type = no_type; port = 0; norename = false; first = 1 }

-- the host of a daemon, if it has one
abbrev pub host_of : List Entry → Option HostConfig
host_of history = option_and_then (λ config. config.host) (config_of history)

-- a registration: its label, type, port, and whether it is to keep its name
pub record Registration : Type 0 where
  pub session : ℕ
  pub op : ℕ
  pub label : List ℕ
  pub type : ServiceType
  pub port : ℕ
  pub norename : Bool

-- the registration that a request asks for
abbrev pub registration_from : ℕ → ℕ → Request → Option Registration
registration_from session op (request.Register label regtype port norename txt) =
    Some (record { session = session; op = op; label = label; type = unwrap_or (service_type regtype) no_type; port = port; norename = norename })
registration_from session op _ = None

-- the registration that an entry accepted
unfoldable pub registration_in : Entry → Option Registration
registration_in entry = option_and_then (λ call. registration_from call.session call.op call.request) (accepted_in entry)

-- how many registrations were accepted
unfoldable pub registered_count : List Entry → ℕ
registered_count history = count_where (λ entry. is_some (registration_in entry)) history

-- the label of a group under a number
abbrev pub numbered_label : Group → ℕ → List ℕ
numbered_label group number = if group.id == 0 then host_renamed group.label number else renamed group.label number

-- the name of a group under a number
abbrev pub numbered_name : Group → ℕ → List (List ℕ)
numbered_name group number = numbered_label group number ∷ group.type.name

-- the number that a mark gives to a group
abbrev pub number_in_mark : ℕ → Mark → Option ℕ
number_in_mark id (mark.Renamed group number) = if group == id then Some number else None
number_in_mark id _ = None

-- the number that an entry gave to a group
abbrev pub renaming : ℕ → Entry → Option ℕ
renaming id entry = slice_get (filter_map (number_in_mark id) entry.marks) 0

-- The number of a group is that of its last renaming, else the one that it began with.
unfoldable pub number_of : Group → List Entry → ℕ
number_of group history = unwrap_or (latest (renaming group.id) history) group.first

-- the present name of a group
unfoldable pub group_name : Group → List Entry → List (List ℕ)
group_name group history = numbered_name group (number_of group history)

-- whether a name is among others, case aside
abbrev pub is_taken : List (List (List ℕ)) → List (List ℕ) → Bool
is_taken names name = list_any (folded_eq name) names

-- The least number from a given one on under which a group's name is free. Number 1 and one other may give one name, since a label that is too long is cut; so
-- two more are tried than there are names.
unfoldable pub free_number : ℕ → List (List (List ℕ)) → Group → ℕ
free_number from names group = unwrap_or (find (λ number. not (is_taken names (numbered_name group number))) (count_up from (length names + 2))) from

-- the group of a registration, beside groups of these names
abbrev pub group_of : ℕ → List (List (List ℕ)) → Registration → Group
group_of id names r =
    let fresh : Group = record { id = id; session = r.session; op = r.op; label = r.label; type = r.type; port = r.port; norename = r.norename; first = 1 } in
    record fresh { first = free_number 1 names fresh }

-- the group that begins with an entry: the host at the boot, and a registration
abbrev pub begun_in : Entry → ℕ → List (List (List ℕ)) → Option Group
begun_in entry id names =
    option_or (option_map host_group (option_and_then (λ config. config.host) (booted entry.event))) (option_map (group_of id names) (registration_in entry))

-- the mark that a group failed
abbrev pub is_failure_of : ℕ → Mark → Bool
is_failure_of id (mark.Failed group) = group == id
is_failure_of id _ = false

-- A group ends with its operation, or with its mark Failed.
abbrev pub ends_group : Entry → Group → Bool
ends_group entry group = ends_operation group.session group.op entry || has_mark (is_failure_of group.id) entry

-- the present names of groups
abbrev pub names_of : List Group → List Entry → List (List (List ℕ))
names_of groups history = map (λ group. group_name group history) groups

-- the live groups, by number: each from the entry in which it began, until one ends it
unfoldable pub groups : List Entry → List Group
groups [] = []
groups (entry ∷ past) = let before = groups past in
    filter (λ group. not (ends_group entry group)) before ++ option_to_list (begun_in entry (registered_count past + 1) (names_of before past))

-- whether a number is that of a live group
abbrev pub is_group : ℕ → List Entry → Bool
is_group id history = list_any (λ group. group.id == id) (groups history)

-- the host's present name
unfoldable pub host_name : List Entry → List (List ℕ)
host_name history = unwrap_or (option_map (λ host. group_name (host_group host) history) (host_of history)) []

-- a unique record, with the flush bit
abbrev pub unique_record : List (List ℕ) → ℕ → Rdata → Rr
unique_record owner ttl rdata = record { owner = owner; flush = true; ttl = ttl; rdata = rdata }

-- a shared record, without the flush bit
abbrev pub shared_record : List (List ℕ) → ℕ → Rdata → Rr
shared_record owner ttl rdata = record { owner = owner; flush = false; ttl = ttl; rdata = rdata }

-- the TTL of records that name a host
abbrev pub host_ttl : ℕ
host_ttl = 120

-- the TTL of records that name no host
abbrev pub other_ttl : ℕ
other_ttl = 4500

-- an empty TXT is one zero byte
abbrev pub published_txt : List ℕ → List ℕ
published_txt [] = 0 ∷ []
published_txt (b ∷ bs) = b ∷ bs

-- the addresses of a host
abbrev pub address_records : List (List ℕ) → Config → List Rr
address_records name config =
    unique_record name host_ttl (A config.address)
    ∷ map (λ v6. unique_record name host_ttl (Aaaa v6)) (option_to_list (option_and_then (λ host. host.v6) config.host))

-- TXT and SRV of a service
abbrev pub service_unique : List (List ℕ) → ℕ → List ℕ → List (List ℕ) → List Rr
service_unique name port txt target = unique_record name other_ttl (Txt (published_txt txt)) ∷ unique_record name host_ttl (Srv 0 0 port target) ∷ []

-- PTR from the type to the service, from each subtype to it, and from the list of types to the type
abbrev pub service_shared : List (List ℕ) → ServiceType → List Rr
service_shared name type = ordered record_cmp (
    shared_record type.name other_ttl (Ptr name)
    ∷ shared_record types_name other_ttl (Ptr type.name)
    ∷ map (λ subtype. shared_record (subtype_name subtype type) other_ttl (Ptr name)) type.subtypes)

-- the unique records of a group, as its registration stands
unfoldable pub unique_records : Group → List Entry → List Rr
unique_records group history = let name = group_name group history in
    if group.id == 0 then flat_map (address_records name) (option_to_list (config_of history))
    else service_unique name group.port (present_txt group.session group.op history) (host_name history)

-- the shared records of a group
unfoldable pub shared_records : Group → List Entry → List Rr
shared_records group history = if group.id == 0 then [] else service_shared (group_name group history) group.type

-- the unique and the shared records of a group
unfoldable pub group_records : Group → List Entry → List Rr
group_records group history = unique_records group history ++ shared_records group history
