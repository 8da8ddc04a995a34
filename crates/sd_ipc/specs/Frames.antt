-- Requests and items as frames: the bytes that are written.
use Rattle.std.specs.Prelude.{ℕ, ◌+◌, ◌-◌, ◌^◌, min, Bool, true, false, List, [], ◌∷◌, ◌++◌, length, nat_le}
use Rattle.std.specs.Int.{to_be_bytes, cast_unsigned, w16, w32}
use Rattle.dns_name.specs.Names.{wire_of}
use Rattle.sd_call.specs.Answers.{answer_bytes}
use Rattle.sd_call.specs.declared.request.Request.{Request}
use Rattle.sd_call.specs.declared.request.Request.TheVariants.{Query, Browse, Resolve, Address, Register, Update, Stop}
use Rattle.sd_call.specs.declared.request.Verb.{Verb}
use Rattle.sd_call.specs.declared.request.Verb.TheVariants as verb
use Rattle.sd_call.specs.declared.item.Item.{Item}
use Rattle.sd_call.specs.declared.item.Item.TheVariants.{Reply, Add, Remove}

-- a text or TXT data: the count of its bytes, and these
abbrev pub counted : List ℕ → List ℕ
counted bytes = to_be_bytes w16 (length bytes) ++ bytes

-- the flags of a registration: 8 is that it keeps its name or fails
abbrev pub flags_of : Bool → ℕ
flags_of true = 8
flags_of false = 0

-- the kind of a request's frame
abbrev pub request_kind : Request → ℕ
request_kind (Query kind name) = 1
request_kind (Browse regtype) = 2
request_kind (Resolve label regtype) = 3
request_kind (Address families name) = 4
request_kind (Register label regtype port norename txt) = 5
request_kind (Update txt) = 6
request_kind Stop = 7

-- the body of a request's frame
abbrev pub request_body : Request → List ℕ
request_body (Query kind name) = to_be_bytes w16 kind ++ wire_of name
request_body (Browse regtype) = counted regtype
request_body (Resolve label regtype) = counted label ++ counted regtype
request_body (Address families name) = families ∷ wire_of name
request_body (Register label regtype port norename txt) =
    flags_of norename ∷ to_be_bytes w16 port ++ counted label ++ counted regtype ++ counted txt
request_body (Update txt) = counted txt
request_body Stop = []

-- the number of what a reply answers
abbrev pub verb_number : Verb → ℕ
verb_number verb.Start = 1
verb_number verb.Update = 2
verb_number verb.Stop = 3

-- the kind of an item's frame
abbrev pub item_kind : Item → ℕ
item_kind (Reply op verb code) = 64
item_kind (Add op answer) = 65
item_kind (Remove op answer) = 66

-- the operation of an item
abbrev pub item_op : Item → ℕ
item_op (Reply op verb code) = op
item_op (Add op answer) = op
item_op (Remove op answer) = op

-- the body of an item's frame; a code is written in two's complement
abbrev pub item_body : Item → List ℕ
item_body (Reply op verb code) = verb_number verb ∷ to_be_bytes w32 (cast_unsigned w32 code)
item_body (Add op answer) = answer_bytes answer
item_body (Remove op answer) = answer_bytes answer

-- The length word of a body: kind, operation and body. A length that no word can have is written as the greatest, which nobody reads.
abbrev pub length_word : List ℕ → ℕ
length_word body = min (5 + length body) (2 ^ 32 - 1)

-- a frame: the length word, the kind, the operation and the body
abbrev pub frame_bytes : ℕ → ℕ → List ℕ → List ℕ
frame_bytes kind op body = to_be_bytes w32 (length_word body) ++ kind ∷ to_be_bytes w32 op ++ body

-- the frame of a request for an operation
abbrev pub request_frame : ℕ → Request → List ℕ
request_frame op request = frame_bytes (request_kind request) op (request_body request)

-- the frame of an item
abbrev pub item_frame : Item → List ℕ
item_frame item = frame_bytes (item_kind item) (item_op item) (item_body item)

-- TXT data of a request are at most 8192 bytes
abbrev pub is_short : Request → Bool
is_short (Register label regtype port norename txt) = nat_le (length txt) 8192
is_short (Update txt) = nat_le (length txt) 8192
is_short _ = true
