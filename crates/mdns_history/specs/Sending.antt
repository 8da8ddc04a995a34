-- What an entry sends. (RFC 6762 5 to 8 and 10.1, RFC 6763 12)
use Rattle.std.specs.Prelude.{ℕ, ◌+◌, ◌-◌, ◌==◌, Bool, true, false, not, ◌&&◌, List, [], ◌∷◌, ◌++◌, map, length, filter, Option, Some, None, if◌then◌else◌, slice_get}
use Rattle.std.specs.List.{flat_map, filter_map}
use Rattle.std.specs.Option.{option_and_then}
use Rattle.mdns_base.specs.declared.host.Host.{Host}
use Rattle.mdns_base.specs.declared.host.Dest.TheVariants.{All, One}
use Rattle.mdns_base.specs.Hosts.{mdns_port}
use Rattle.lists.specs.Lists.{ordered, without, each_once}
use Rattle.dns_name.specs.Names.{folded_eq}
use Rattle.dns_record.specs.declared.record.Rdata.{Rdata}
use Rattle.dns_record.specs.declared.record.Rdata.TheVariants.{Ptr, Srv}
use Rattle.dns_record.specs.declared.record.Rr.{Rr}
use Rattle.dns_record.specs.declared.record.Key.{Key}
use Rattle.dns_record.specs.Records.{any_kind, kind_of, same, record_cmp}
use Rattle.dns_message.specs.declared.message.Message.{Message}
use Rattle.mdns_history.specs.declared.mark.Mark.{Mark}
use Rattle.mdns_history.specs.declared.mark.Mark.TheVariants as mark
use Rattle.mdns_history.specs.declared.entry.Sent.{Sent}
use Rattle.mdns_history.specs.declared.entry.Entry.{Entry}
use Rattle.mdns_history.specs.InForce.{Duties, only_if}
use Rattle.mdns_history.specs.Hearings.{Heard, heard_in}
use Rattle.mdns_history.specs.Groups.{Group, is_group, group_name, group_records, unique_records}
use Rattle.mdns_history.specs.Sureness.{sure_groups, own_records}
use Rattle.mdns_history.specs.Probing.{probed_groups}
use Rattle.mdns_history.specs.Announcing.{announced_groups}
use Rattle.mdns_history.specs.Asking.{known_answers, tick_askings}
use Rattle.mdns_history.specs.Debts.{Debt, last_multicast, is_long_ago}
use Rattle.mdns_history.specs.Multicasts.{released_records, due_unicasts, multicast_gap}
use Rattle.dns_message.specs.Packing.{pack_query, pack_reply, pack_plain, pack_legacy}

-- a message to all
abbrev pub to_all : Message → Sent
to_all message = record { to = All; message = message }

-- a message to one host
abbrev pub to_one : Host → Message → Sent
to_one host message = record { to = One host; message = message }

-- a record without the flush bit
abbrev pub unflushed : Rr → Rr
unflushed rr = record { owner = rr.owner; flush = false; ttl = rr.ttl; rdata = rr.rdata }

-- the probe of a group: any record of its name, by a unicast reply, with the records that it claims
abbrev pub probe_message : Group → List Entry → Message
probe_message group history =
    record {
      id = 0;
      response = false;
      authoritative = false;
      truncated = false;
      opcode = 0;
      rcode = 0;
      questions = record { name = group_name group history; kind = any_kind; unicast = true } ∷ [];
      answers = [];
      authority = map unflushed (unique_records group history);
      additional = [];
    }

-- the probes of a tick, by group
abbrev pub sent_probes : List Entry → ℕ → List Sent
sent_probes history moment = map (λ group. to_all (probe_message group history)) (probed_groups history moment)

-- the question of a mark
abbrev pub key_in_mark : Mark → Option Key
key_in_mark (mark.Asked key cause) = Some key
key_in_mark _ = None

-- the queries of the questions that a tick's marks say it asks
abbrev pub sent_queries : List Mark → List Entry → ℕ → List Sent
sent_queries askings history moment = let keys = filter_map key_in_mark askings in
    map to_all (pack_query keys (ordered record_cmp (flat_map (λ key. known_answers key history moment) keys)))

-- the own records of a name and of a type
abbrev pub own_of : List Rr → ℕ → List (List ℕ) → List Rr
own_of own kind name = filter (λ rr. folded_eq rr.owner name && (kind_of rr.rdata == kind)) own

-- the own addresses of a name
abbrev pub addresses_of : List Rr → List (List ℕ) → List Rr
addresses_of own name = own_of own 1 name ++ own_of own 28 name

-- the addresses of an SRV record's target
abbrev pub srv_addresses : List Rr → Rdata → List Rr
srv_addresses own (Srv priority weight port target) = addresses_of own target
srv_addresses own _ = []

-- what an answer wants beside it: for PTR the SRV, TXT and addresses of its target, for SRV the addresses of its target
abbrev pub wanted_by : List Rr → Rdata → List Rr
wanted_by own (Ptr target) =
    own_of own 33 target ++ own_of own 16 target ++ flat_map (λ rr. srv_addresses own rr.rdata) (own_of own 33 target)
wanted_by own (Srv priority weight port target) = addresses_of own target
wanted_by own _ = []

-- whether a record's last multicast is a second ago
abbrev pub is_free : List Entry → ℕ → Rr → Bool
is_free history moment rr = is_long_ago multicast_gap moment (last_multicast rr history)

-- the records of announcements; the history behind the tick tells the last multicasts, the one with the tick the records
abbrev pub announced_records : Entry → List Entry → List Rr
announced_records tick past =
    filter (is_free past tick.moment) (flat_map (λ group. group_records group (tick ∷ past)) (announced_groups (tick ∷ past) tick.moment))

-- the records that a tick multicasts, each once: those of announcements, and those that debts release
abbrev pub multicast_answers : Duties → Entry → List Entry → List Rr
multicast_answers duties tick past =
    let announced = announced_records tick past in
    let released = released_records past tick.moment in
    ordered record_cmp (only_if duties.announcing announced ++ only_if duties.replying released)

-- the responses to all, with the additional records that their answers want
abbrev pub sent_multicasts : Duties → Entry → List Entry → List Sent
sent_multicasts duties tick past =
    let answers = multicast_answers duties tick past in
    let own = own_records (tick ∷ past) in
    map to_all (pack_reply answers (map (λ rr. filter (is_free past tick.moment) (wanted_by own rr.rdata)) answers))

-- the entry at a place
abbrev pub entry_at : ℕ → List Entry → Option Entry
entry_at place history = slice_get history (length history - (place + 1))

-- the reply to the asker of a query with the records that are due
abbrev pub reply_to : Heard → List Rr → List Sent
reply_to heard rrs =
    if heard.from.port == mdns_port then map (to_one heard.from) (pack_plain rrs)
    else to_one heard.from (pack_legacy heard.message.id heard.message.questions rrs) ∷ []

-- the reply to a query that was heard
abbrev pub reply_to_heard : Option Heard → List Rr → List Sent
reply_to_heard None rrs = []
reply_to_heard (Some heard) rrs = reply_to heard rrs

-- the reply to the query at a place with what is due
abbrev pub reply_at : List Entry → List Debt → ℕ → List Sent
reply_at history due place =
    reply_to_heard (option_and_then heard_in (entry_at place history)) (ordered record_cmp (map (λ debt. debt.rr) (filter (λ debt. debt.place == place) due)))

-- the replies to askers, one chain for each heard query, in the order of hearing
abbrev pub sent_unicasts : List Entry → ℕ → List Sent
sent_unicasts history moment = let due = due_unicasts history moment in
    flat_map (reply_at history due) (each_once (λ a b. a == b) (map (λ debt. debt.place) due))

-- what a tick sends: probes, then queries, then responses to all, then replies to askers
unfoldable pub tick_sends : Duties → Entry → List Entry → List Sent
tick_sends duties tick past =
    let probes = sent_probes past tick.moment in
    let queries = sent_queries (tick_askings past tick.moment) past tick.moment in
    let unicasts = sent_unicasts past tick.moment in
    only_if duties.claiming probes ++ (only_if duties.asking queries ++ (sent_multicasts duties tick past ++ only_if duties.replying unicasts))

-- a record with TTL 0
abbrev pub taken_back : Rr → Rr
taken_back rr = record { owner = rr.owner; flush = rr.flush; ttl = 0; rdata = rr.rdata }

-- the sure groups that end with an entry
abbrev pub ended_groups : Entry → List Entry → List Group
ended_groups entry past = filter (λ group. not (is_group group.id (entry ∷ past))) (sure_groups past)

-- the goodbyes of groups that end, without the records that another sure group still has
unfoldable pub sent_goodbyes : Entry → List Entry → List Sent
sent_goodbyes entry past =
    map to_all (pack_plain (map taken_back (without same (ordered record_cmp (flat_map (λ group. group_records group past) (ended_groups entry past))) (own_records (entry ∷ past)))))
