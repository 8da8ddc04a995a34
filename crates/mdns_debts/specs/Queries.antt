-- Heard queries that are owed something: the debts of a history, query by query. (RFC 6762 5.4, 6, 6.7, 7.1 and 7.2)
use Rattle.std.specs.Prelude.{ℕ, ◌+◌, ◌==◌, nat_le, nat_lt, Bool, not, List, [], ◌∷◌, ◌++◌, map, length, filter, Option, Some, None, if◌then◌else◌}
use Rattle.std.specs.List.{list_all}
use Rattle.mdns_base.specs.declared.host.Host.{Host}
use Rattle.mdns_base.specs.declared.host.Dest.TheVariants.{All}
use Rattle.mdns_base.specs.Hosts.{mdns_port, dest_eq}
use Rattle.lists.specs.Lists.{ordered}
use Rattle.dns_record.specs.declared.record.Rr.{Rr}
use Rattle.dns_record.specs.declared.record.Question.{Question}
use Rattle.dns_record.specs.Records.{record_cmp}
use Rattle.dns_message.specs.Packing.{pack_plain, pack_legacy}
use Rattle.mdns_history.specs.declared.entry.Sent.{Sent}
use Rattle.mdns_history.specs.declared.entry.Entry.{Entry}
use Rattle.mdns_history.specs.Hearings.{Heard, heard_in, query_of}
use Rattle.mdns_history.specs.Debts.{Debt, Owed, is_unique, debt_wait, owed_by, is_ours, stays_open}
use Rattle.mdns_history.specs.Multicasts.{multicast_gap, defence_gap}
use Rattle.mdns_history.specs.Sending.{to_one}

-- A query that is owed something: who sent it, the ID and the questions that a reply to another port repeats (6.7), whether it said that more known answers
-- follow (7.2), whether it had authority records, as a probe has (6), when what it is owed is due, and what it is owed still, each with its way.
pub record Query : Type 0 where
  pub from : Host
  pub id : ℕ
  pub questions : List Question
  pub truncated : Bool
  pub probing : Bool
  pub due : ℕ
  pub owed : List Owed

-- the same with the place of its entry, which only the history knows
abbrev pub Placed : Type 0
Placed = ℕ × Query

-- a debt of a query, at a place
abbrev pub debt_in : ℕ → Query → Owed → Debt
debt_in place query owed =
    record { place = place; from = query.from; truncated = query.truncated; probing = query.probing; rr = owed.0; to = owed.1; due = query.due }

-- the debts of a query
abbrev pub debts_at : Placed → List Debt
debts_at placed = map (debt_in placed.0 placed.1) (placed.1).owed

-- the questions of a query that its reply repeats: those of one from another port (6.7)
abbrev pub repeated : Heard → List Question
repeated heard = if heard.from.port == mdns_port then [] else heard.message.questions

-- the query that an entry hears, with what it is owed by the history before
abbrev pub query_at : Heard → Entry → List Entry → Query
query_at heard entry past = let owed = owed_by heard entry past in
    record {
      from = heard.from;
      id = heard.message.id;
      questions = repeated heard;
      truncated = heard.message.truncated;
      probing = nat_lt 0 (length heard.message.authority);
      due = entry.moment + debt_wait heard entry.word (list_all (λ o. is_unique o.0) owed);
      owed = owed;
    }

-- the query of an entry, if it hears one
abbrev pub placed_at : Option Heard → Entry → List Entry → List Placed
placed_at None entry past = []
placed_at (Some heard) entry past = (length past, query_at heard entry past) ∷ []

-- what is owed still where a test of debts passes
abbrev pub keeping : (Debt → Bool) → Placed → Placed
keeping test placed = (placed.0, record placed.1 { owed = filter (λ owed. test (debt_in placed.0 placed.1 owed)) (placed.1).owed })

-- whether a query is owed something
abbrev pub is_owed : Placed → Bool
is_owed placed = nat_lt 0 (length (placed.1).owed)

-- The queries that are owed something, in the order of hearing: each later entry leaves what it neither strikes nor meets, while the record is ours.
unfoldable pub owed_queries : List Entry → List Placed
owed_queries [] = []
owed_queries (entry ∷ past) =
    let before = map (keeping (stays_open entry)) (owed_queries past) in
    filter is_owed (map (keeping (λ debt. is_ours debt.rr (entry ∷ past))) (before ++ placed_at (query_of (heard_in entry)) entry past))

-- whether what is owed goes to all
abbrev pub is_to_all : Owed → Bool
is_to_all owed = dest_eq owed.1 All

-- the reply to a query with these records: to port 5353, or as plain DNS expects it to another (6.7)
abbrev pub reply_for : Query → List Rr → List Sent
reply_for query rrs =
    if query.from.port == mdns_port then map (to_one query.from) (pack_plain rrs)
    else to_one query.from (pack_legacy query.id query.questions rrs) ∷ []

-- the records that a query's asker is sent, in record order
abbrev pub records_for : Query → List Rr
records_for query = ordered record_cmp (map (λ owed. owed.0) (filter (λ owed. not (is_to_all owed)) query.owed))

-- the replies for records, none where there are none
abbrev pub reply_unless : Query → List Rr → List Sent
reply_unless query [] = []
reply_unless query (rr ∷ rrs) = reply_for query (rr ∷ rrs)

-- the replies to a query's asker at a moment
abbrev pub replies_at : ℕ → Query → List Sent
replies_at moment query = if nat_le query.due moment then reply_unless query (records_for query) else []

-- the least time between two multicasts of a record, where a query asks for it: a second, and a quarter where a probe does (6)
abbrev pub gap_of : Query → ℕ
gap_of query = if query.probing then defence_gap else multicast_gap
