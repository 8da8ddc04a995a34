-- The answers of operations, over the records that are live or own. (RFC 6763 4, 5 and 6)
use Rattle.std.specs.Prelude.{ℕ, ◌==◌, ◌&&◌, Bool, true, false, List, [], ◌∷◌, ◌++◌, map, filter, Option, Some, None, if◌then◌else◌}
use Rattle.std.specs.List.{list_any, flat_map, filter_map, find}
use Rattle.std.specs.Option.{option_map_or}
use Rattle.lists.specs.Lists.{ordered}
use Rattle.dns_record.specs.declared.record.Rdata.{Rdata}
use Rattle.dns_record.specs.declared.record.Rdata.TheVariants.{Ptr, Srv, Txt}
use Rattle.dns_record.specs.declared.record.Rr.{Rr}
use Rattle.dns_record.specs.declared.record.Key.{Key}
use Rattle.dns_record.specs.Records.{matches}
use Rattle.sd_call.specs.declared.request.Request.{Request}
use Rattle.sd_call.specs.declared.request.Request.TheVariants as request
use Rattle.sd_call.specs.declared.answer.Answer.{Answer}
use Rattle.sd_call.specs.declared.answer.Answer.TheVariants.{Datum, Found, Resolved, Named, Conflict}
use Rattle.sd_call.specs.Answers.{answer_cmp}
use Rattle.sd_call.specs.Requests.{is_register}
use Rattle.mdns_history.specs.declared.entry.Entry.{Entry}
use Rattle.mdns_history.specs.History.{now}
use Rattle.mdns_history.specs.Lifetimes.{live_records}
use Rattle.mdns_history.specs.Sessions.{Operation}
use Rattle.mdns_history.specs.Groups.{Group, groups, group_name}
use Rattle.mdns_history.specs.Sureness.{own_records, is_sure}
use Rattle.mdns_history.specs.Questions.{keys_of}

-- the records that match one of the questions
abbrev pub matching : List Key → List Rr → List Rr
matching keys rrs = filter (λ rr. list_any (λ key. matches key rr) keys) rrs

-- a record's type and data as an answer
abbrev pub datum_of : Rr → Option Answer
datum_of rr = Some (Datum rr.rdata)

-- the instance that a PTR record names
abbrev pub found_in : Rdata → Option Answer
found_in (Ptr target) = Some (Found target)
found_in _ = None

-- an SRV record and the TXT records beside it
abbrev pub resolved_with : Rdata → Rdata → Option Answer
resolved_with (Srv priority weight port target) (Txt bytes) = Some (Resolved priority weight port target bytes)
resolved_with _ _ = None

-- all pairs of SRV and TXT data
abbrev pub resolved_pairs : List Rr → List Answer
resolved_pairs rrs = flat_map (λ srv. filter_map (λ txt. resolved_with srv.rdata txt.rdata) rrs) rrs

-- the answers that matching records give to a request
abbrev pub answers_from : Request → List Rr → List Answer
answers_from (request.Query kind name) rrs = filter_map datum_of rrs
answers_from (request.Address families name) rrs = filter_map datum_of rrs
answers_from (request.Browse regtype) rrs = filter_map (λ rr. found_in rr.rdata) rrs
answers_from (request.Resolve label regtype) rrs = resolved_pairs rrs
answers_from _ rrs = []

-- the answers of a request over records, each once and in order
unfoldable pub answers_over : Request → List Rr → List Answer
answers_over request rrs = ordered answer_cmp (answers_from request (matching (keys_of request) rrs))

-- the records that are live at the last moment, or own
unfoldable pub known_records : List Entry → List Rr
known_records history = map (λ held. held.rr) (live_records history (now history)) ++ own_records history

-- the live group of an operation
abbrev pub operation_group : Operation → List Entry → Option Group
operation_group operation history = find (λ group. (group.session == operation.session) && (group.op == operation.op)) (groups history)

-- a registration's name once it is sure
abbrev pub named_if : Bool → List (List ℕ) → List Answer
named_if true name = Named name ∷ []
named_if false name = []

-- A registration has its name once that is sure, and a conflict where its group failed.
abbrev pub registration_answers : Operation → List Entry → List Answer
registration_answers operation history =
    option_map_or (λ group. named_if (is_sure group history) (group_name group history)) (operation_group operation history) (Conflict ∷ [])

-- the answers of a live operation
unfoldable pub answers : Operation → List Entry → List Answer
answers operation history =
    if is_register operation.request then registration_answers operation history
    else answers_over operation.request (known_records history)
