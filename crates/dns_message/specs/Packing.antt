-- How records and questions are put into messages. (RFC 6762 6.7, 7.1, 7.2, 17 and 18, RFC 6763 12)
use Rattle.std.specs.Prelude.{ℕ, nat_lt, nat_le, min, Bool, true, false, List, [], ◌∷◌, ◌++◌, map, length, filter, zip, if◌then◌else◌}
use Rattle.std.specs.List.{list_any, flat_map}
use Rattle.lists.specs.Lists.{ordered, without}
use Rattle.dns_record.specs.declared.record.Rr.{Rr}
use Rattle.dns_record.specs.declared.record.Question.{Question}
use Rattle.dns_record.specs.declared.record.Key.{Key}
use Rattle.dns_record.specs.Records.{same, matches, record_cmp}
use Rattle.dns_message.specs.declared.message.Message.{Message}
use Rattle.dns_message.specs.Writing.{written}

-- a query of these questions that lists these answers
abbrev pub query_with : List Question → List Rr → Bool → Message
query_with questions answers truncated = record { id = 0; response = false; authoritative = false; truncated = truncated; opcode = 0; rcode = 0; questions = questions; answers = answers; authority = []; additional = [] }

-- the length within which records are put together in a message
abbrev pub packet_length : ℕ
packet_length = 1440

-- whether a message has at most so many bytes
abbrev pub is_within_length : ℕ → Message → Bool
is_within_length most message = nat_le (length (written message)) most

-- whether a message fits a packet
abbrev pub fits : Message → Bool
fits message = is_within_length packet_length message

-- A part grows by the next element as long as it fits; where it doesn't fit, another part begins with that element.
abbrev pub parts_from : {X : Type 0} → (List X → Bool) → (List X → Bool) → List X → List X → List (List X)
parts_from first later part [] = part ∷ []
parts_from first later part (x ∷ xs) =
    let grown = parts_from first later (part ++ x ∷ []) xs in
    let cut = part ∷ parts_from later later (x ∷ []) xs in
    if first (part ++ x ∷ []) then grown else cut

-- the parts of a list, each with an element at least
abbrev pub parts_of : {X : Type 0} → (List X → Bool) → List X → List (List X)
parts_of fitting [] = []
parts_of fitting (x ∷ xs) = parts_from fitting fitting (x ∷ []) xs

-- a question of the daemon's own
abbrev pub question_for : Key → Question
question_for key = record { name = key.name; kind = key.kind; unicast = false }

-- a query after which nothing follows
abbrev pub bare_query : List Question → List Rr → Message
bare_query questions answers = query_with questions answers false

-- the messages of a query whose known answers are in these parts; each says that more follows, but for the last
abbrev pub query_chain : List Question → List (List Rr) → List Message
query_chain questions [] = []
query_chain questions (part ∷ []) = query_with questions part false ∷ []
query_chain questions (part ∷ next ∷ more) = query_with questions part true ∷ query_chain [] (next ∷ more)

-- a batch of questions with those of the known answers that match one of them
abbrev pub batch_messages : List Rr → List Key → List Message
batch_messages known batch =
    let questions = map question_for batch in
    let listed = filter (λ rr. list_any (λ key. matches key rr) batch) known in
    query_chain questions (parts_from (λ rrs. fits (bare_query questions rrs)) (λ rrs. fits (bare_query [] rrs)) [] listed)

-- the messages that ask questions and list known answers
unfoldable pub pack_query : List Key → List Rr → List Message
pack_query keys known = flat_map (batch_messages known) (parts_of (λ batch. fits (bare_query (map question_for batch) [])) keys)

-- a reply with these answers and additional records
abbrev pub reply_with : List Rr → List Rr → Message
reply_with answers additional =
    record { id = 0; response = true; authoritative = true; truncated = false; opcode = 0; rcode = 0; questions = []; answers = answers; authority = []; additional = additional }

-- a reply without additional records
abbrev pub bare_reply : List Rr → Message
bare_reply answers = reply_with answers []

-- replies without additional records
unfoldable pub pack_plain : List Rr → List Message
pack_plain answers = map bare_reply (parts_of (λ rrs. fits (bare_reply rrs)) answers)

-- the additional records that fit beside answers, taken in turn
abbrev pub fitting_additional : List Rr → List Rr → List Rr → List Rr
fitting_additional answers added [] = added
fitting_additional answers added (rr ∷ rrs) =
    fitting_additional answers (if fits (reply_with answers (added ++ rr ∷ [])) then added ++ rr ∷ [] else added) rrs

-- an answer and the additional records that it wants
abbrev pub Wanting : Type 0
Wanting = Rr × List Rr

-- the answers of a part
abbrev pub answers_in : List Wanting → List Rr
answers_in part = map (λ wanting. wanting.0) part

-- the additional records that the answers of a part want, in record order
abbrev pub wanted_in : List Wanting → List Rr
wanted_in part = ordered record_cmp (flat_map (λ wanting. wanting.1) part)

-- the replies of parts in turn, where all these answers are sent, and these records were added before
abbrev pub replies_of : List Rr → List Rr → List (List Wanting) → List Message
replies_of all before [] = []
replies_of all before (part ∷ parts) =
    let added = fitting_additional (answers_in part) [] (without same (wanted_in part) (all ++ before)) in
    reply_with (answers_in part) added ∷ replies_of all (before ++ added) parts

-- the replies with these answers, each with the additional records that it wants
unfoldable pub pack_reply : List Rr → List (List Rr) → List Message
pack_reply answers wanted = replies_of answers [] (parts_of (λ part. fits (bare_reply (answers_in part))) (zip answers wanted))

-- a question without the unicast bit
abbrev pub plain_question : Question → Question
plain_question question = record { name = question.name; kind = question.kind; unicast = false }

-- a record without the flush bit and with a TTL of ten seconds at most
abbrev pub plain_record : Rr → Rr
plain_record rr = record { owner = rr.owner; flush = false; ttl = min rr.ttl 10; rdata = rr.rdata }

-- a reply to another port than 5353: it repeats the ID and these questions
abbrev pub legacy_reply : ℕ → List Question → List Rr → Bool → Message
legacy_reply id questions answers truncated =
    record { id = id; response = true; authoritative = true; truncated = truncated; opcode = 0; rcode = 0; questions = questions; answers = answers; authority = []; additional = [] }

-- the first part, nothing where there is none
abbrev pub first_part : {X : Type 0} → List (List X) → List X
first_part [] = []
first_part (part ∷ parts) = part

-- the leading questions that fit 512 bytes, one at least
abbrev pub repeated_questions : ℕ → List Question → List Question
repeated_questions id questions = first_part (parts_of (λ qs. is_within_length 512 (legacy_reply id qs [] false)) (map plain_question questions))

-- the one reply to another port: the leading questions, and the records that fit
unfoldable pub pack_legacy : ℕ → List Question → List Rr → Message
pack_legacy id questions answers =
    let asked = repeated_questions id questions in
    let parts = parts_of (λ rrs. fits (legacy_reply id asked rrs false)) (map plain_record answers) in
    legacy_reply id asked (first_part parts) (nat_lt 1 (length parts))
