-- What heard queries are owed. (RFC 6762 5.4, 6, 6.1, 6.3, 6.7, 7.1, 7.2 and 7.4)
use Rattle.std.specs.Prelude.{ℕ, ◌+◌, ◌-◌, ◌*◌, ◌/◌, ◌%◌, ◌^◌, ◌==◌, nat_lt, nat_le, max, Bool, true, false, not, ◌&&◌, ◌||◌, List, [], ◌∷◌, ◌++◌, map, length, filter, sum_by, fold, Option, Some, None, if◌then◌else◌}
use Rattle.std.specs.List.{list_any, list_all, flat_map}
use Rattle.std.specs.Option.{option_flatten}
use Rattle.mdns_base.specs.declared.host.Host.{Host}
use Rattle.mdns_base.specs.declared.host.Dest.{Dest}
use Rattle.mdns_base.specs.declared.host.Dest.TheVariants.{All, One}
use Rattle.mdns_base.specs.Hosts.{mdns_port, host_eq, dest_eq}
use Rattle.lists.specs.Lists.{each_once, count_up}
use Rattle.dns_name.specs.Names.{folded_eq}
use Rattle.dns_record.specs.declared.record.Rdata.TheVariants.{Nsec}
use Rattle.dns_record.specs.declared.record.Rr.{Rr}
use Rattle.dns_record.specs.declared.record.Question.{Question}
use Rattle.dns_record.specs.Records.{any_kind, same, matches, kind_of}
use Rattle.dns_message.specs.declared.message.Message.{Message}
use Rattle.mdns_history.specs.declared.entry.Entry.{Entry}
use Rattle.mdns_history.specs.History.{latest, is_tick}
use Rattle.mdns_history.specs.Hearings.{Heard, heard_in, query_of, counted_records}
use Rattle.mdns_history.specs.Groups.{group_name, unique_records, unique_record, host_ttl}
use Rattle.mdns_history.specs.Sureness.{sure_groups, own_records, is_own}

-- bit 7 is the first type of a byte: the worth of a type in byte n of a bitmap
abbrev pub bit_of_type : ℕ → ℕ → ℕ
bit_of_type n kind = if kind / 8 == n then 2 ^ (7 - kind % 8) else 0

-- byte n of a bitmap of types
abbrev pub bitmap_byte : List ℕ → ℕ → ℕ
bitmap_byte kinds n = sum_by (bit_of_type n) kinds

-- block 0 of a bitmap of types: its length, and a byte for each eight types up to the greatest
abbrev pub bitmap_of : List ℕ → List ℕ
bitmap_of kinds = let size = fold max 0 kinds / 8 + 1 in 0 ∷ size ∷ map (bitmap_byte kinds) (count_up 0 size)

-- the record that says which types a sure name has
unfoldable pub nsec_record : List (List ℕ) → List Rr → Rr
nsec_record name unique = unique_record name host_ttl (Nsec name (bitmap_of (map (λ rr. kind_of rr.rdata) unique)))

-- whether a record is of type NSEC
abbrev pub is_nsec : Rr → Bool
is_nsec rr = kind_of rr.rdata == 47

-- the NSEC record of the sure group that has a name, if one has it
abbrev pub nsecs_of : List (List ℕ) → List Entry → List Rr
nsecs_of name history = map (λ group. nsec_record (group_name group history) (unique_records group history)) (filter (λ group. folded_eq (group_name group history) name) (sure_groups history))

-- what a question is owed: the own records that match, or else the NSEC record of a sure name
abbrev pub own_or_nsec : List Rr → List Rr → Question → List Rr
own_or_nsec [] nsecs question = if question.kind == any_kind then [] else nsecs
own_or_nsec (rr ∷ rrs) nsecs question = rr ∷ rrs

-- what a question is owed by a history
unfoldable pub owed_to : List Entry → Question → List Rr
owed_to history question =
    own_or_nsec (filter (matches (record { name = question.name; kind = question.kind })) (own_records history)) (nsecs_of question.name history) question

-- A listed answer silences a record where it has at least half of the record's TTL.
abbrev pub suppresses : Rr → Rr → Bool
suppresses own listed = same own listed && nat_le own.ttl (2 * listed.ttl)

-- whether listed answers silence a record
abbrev pub is_struck : List Rr → Rr → Bool
is_struck answers own = list_any (suppresses own) answers

-- the records of a message, of all sections
abbrev pub sections : Message → List Rr
sections message = message.answers ++ message.authority ++ message.additional

-- the records that an entry sends to all in responses, in any section
unfoldable pub multicasts_in : Entry → List Rr
multicasts_in entry = flat_map (λ sent. if sent.message.response && dest_eq sent.to All then sections sent.message else []) entry.sent

-- whether a record is among them with a TTL above 0
abbrev pub is_multicast : Rr → List Rr → Bool
is_multicast rr rrs = list_any (λ r. same rr r && nat_lt 0 r.ttl) rrs

-- whether a record is among them with TTL 0
abbrev pub is_goodbye : Rr → List Rr → Bool
is_goodbye rr rrs = list_any (λ r. same rr r && (r.ttl == 0)) rrs

-- what an entry says of a record's last multicast: its moment, that it was taken back, or nothing
abbrev pub multicast_change : Rr → Entry → Option (Option ℕ)
multicast_change rr entry = if is_multicast rr (multicasts_in entry) then Some (Some entry.moment) else if is_goodbye rr (multicasts_in entry) then Some None else None

-- the last multicast of a record since it was last taken back
unfoldable pub last_multicast : Rr → List Entry → Option ℕ
last_multicast rr history = option_flatten (latest (multicast_change rr) history)

-- whether so much time has passed since a moment, if there is one
abbrev pub is_long_ago : ℕ → ℕ → Option ℕ → Bool
is_long_ago gap moment None = true
is_long_ago gap moment (Some last) = nat_le (last + gap) moment

-- whether less than a quarter of a record's TTL has passed since its last multicast
abbrev pub is_recent : Rr → ℕ → Option ℕ → Bool
is_recent rr moment None = false
is_recent rr moment (Some last) = nat_lt (4 * (moment - last)) (1000 * rr.ttl)

-- A debt: the place of the query, who sent it, whether it said that more follows, whether it had authority records, the record that is owed, where it goes, and
-- when it is due.
pub record Debt : Type 0 where
  pub place : ℕ
  pub from : Host
  pub truncated : Bool
  pub probing : Bool
  pub rr : Rr
  pub to : Dest
  pub due : ℕ

-- where a record goes that a question is owed: to all, but to the asker where the question asks for that and the record was multicast lately, and to another port than 5353
abbrev pub way_of : Heard → ℕ → List Entry → Question → Rr → Dest
way_of heard moment past question rr =
    if not (heard.from.port == mdns_port) || (question.unicast && is_recent rr moment (last_multicast rr past)) then One heard.from else All

-- NSEC records count as unique, and the flush bit tells the others.
abbrev pub is_unique : Rr → Bool
is_unique rr = rr.flush

-- how long what a query is owed waits
abbrev pub debt_wait : Heard → ℕ → Bool → ℕ
debt_wait heard word all_unique =
    if heard.message.truncated && (heard.from.port == mdns_port) then 400 + word % 101 else if all_unique then 0 else 20 + word % 101

-- an owed record and where it goes
abbrev pub Owed : Type 0
Owed = Rr × Dest

-- whether two owed records and their ways are one
abbrev pub owed_eq : Owed → Owed → Bool
owed_eq left right = same left.0 right.0 && dest_eq left.1 right.1

-- what a query's question is owed and isn't struck by its own answers, with the ways
abbrev pub owed_for : Heard → Entry → List Entry → Question → List Owed
owed_for heard entry past question =
    map (λ rr. (rr, way_of heard entry.moment past question rr)) (filter (λ rr. not (is_struck heard.message.answers rr)) (owed_to past question))

-- all that a query is owed, each record and way once
abbrev pub owed_by : Heard → Entry → List Entry → List Owed
owed_by heard entry past = each_once owed_eq (flat_map (owed_for heard entry past) heard.message.questions)

-- the debt of an owed record
abbrev pub debt_of : Heard → Entry → List Entry → Bool → Owed → Debt
debt_of heard entry past all_unique owed =
    record {
      place = length past;
      from = heard.from;
      truncated = heard.message.truncated;
      probing = nat_lt 0 (length heard.message.authority);
      rr = owed.0;
      to = owed.1;
      due = entry.moment + debt_wait heard entry.word all_unique;
    }

-- the debts of the query that an entry heard, if it heard one
abbrev pub debts_from : Option Heard → Entry → List Entry → List Debt
debts_from None entry past = []
debts_from (Some heard) entry past = let owed = owed_by heard entry past in
    map (debt_of heard entry past (list_all (λ o. is_unique o.0) owed)) owed

-- the debts that an entry makes
unfoldable pub debts_made : Entry → List Entry → List Debt
debts_made entry past = debts_from (query_of (heard_in entry)) entry past

-- whether a record is the daemon's to send: own, or NSEC of a sure name
unfoldable pub is_ours : Rr → List Entry → Bool
is_ours rr history = if is_nsec rr then list_any (same rr) (nsecs_of rr.owner history) else is_own rr history

-- whether a later query takes a debt back
abbrev pub strikes : Debt → Option Heard → Bool
strikes debt None = false
strikes debt (Some heard) = debt.truncated && host_eq debt.from heard.from && is_struck heard.message.answers debt.rr

-- Whether an entry meets a debt. One to all is met by a multicast, and by another's with no less TTL; one to the asker by the tick that sends it.
abbrev pub meets : Debt → Entry → Bool
meets debt entry =
    if dest_eq debt.to All then is_multicast debt.rr (multicasts_in entry) || list_any (λ rr. same debt.rr rr && nat_le debt.rr.ttl rr.ttl) (counted_records (heard_in entry))
    else is_tick entry.event && nat_le debt.due entry.moment

-- An entry leaves a debt open that it doesn't strike and doesn't meet.
abbrev pub stays_open : Entry → Debt → Bool
stays_open entry debt = not (strikes debt (query_of (heard_in entry))) && not (meets debt entry)

-- The debts that stand, in the order of the queries: those that an entry made and each later one left open, while their record is ours.
unfoldable pub standing_debts : List Entry → List Debt
standing_debts [] = []
standing_debts (entry ∷ past) =
    let before = standing_debts past in
    filter (λ debt. is_ours debt.rr (entry ∷ past)) (filter (stays_open entry) before ++ debts_made entry past)
