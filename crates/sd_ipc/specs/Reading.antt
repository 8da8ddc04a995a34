-- Which frame bytes begin with, and which request or item it spells; else the first fault, in the order of the tests.
use Rattle.std.specs.Prelude.{ℕ, ◌+◌, ◌==◌, nat_le, nat_lt, Bool, true, false, ◌&&◌, List, length, take, drop, Option, Some, None, Result, Ok, Err, if◌then◌else◌}
use Rattle.std.specs.Int.{from_be_bytes, cast_signed, w32, w128}
use Rattle.dns_record.specs.Records.{is_rdata}
use Rattle.dns_record.specs.declared.record.Rdata.{Rdata}
use Rattle.dns_record.specs.declared.record.Rdata.TheVariants as typed
use Rattle.sd_call.specs.declared.request.Request.{Request}
use Rattle.sd_call.specs.declared.request.Request.TheVariants.{Query, Browse, Resolve, Address, Register, Update, Stop}
use Rattle.sd_call.specs.declared.request.Verb.{Verb}
use Rattle.sd_call.specs.declared.request.Verb.TheVariants as verb
use Rattle.sd_call.specs.declared.answer.Answer.{Answer}
use Rattle.sd_call.specs.declared.answer.Answer.TheVariants as answer
use Rattle.sd_call.specs.declared.item.Item.{Item}
use Rattle.sd_call.specs.declared.item.Item.TheVariants.{Reply, Add, Remove}
use Rattle.sd_ipc.specs.Parts.{◌>>=◌, byte_part, u16_part, u32_part, text_part, txt_part, name_part, ended}
use Rattle.sd_ipc.specs.declared.error.FrameError.{FrameError}
use Rattle.sd_ipc.specs.declared.error.FrameError.TheVariants.{BadLength, BadKind, BadBody, Truncated}

-- the kind and the name that are asked for
unfoldable pub query_of : List ℕ → Result Request FrameError
query_of body = u16_part body >>= λ kind. name_part kind.1 >>= λ name. ended name.1 >>= λ _. Ok (Query kind.0 name.0)

-- a service type
unfoldable pub browse_of : List ℕ → Result Request FrameError
browse_of body = text_part body >>= λ regtype. ended regtype.1 >>= λ _. Ok (Browse regtype.0)

-- a label and a service type
unfoldable pub resolve_of : List ℕ → Result Request FrameError
resolve_of body = text_part body >>= λ label. text_part label.1 >>= λ regtype. ended regtype.1 >>= λ _. Ok (Resolve label.0 regtype.0)

-- the families and a name
unfoldable pub address_of : List ℕ → Result Request FrameError
address_of body = byte_part body >>= λ families. name_part families.1 >>= λ name. ended name.1 >>= λ _. Ok (Address families.0 name.0)

-- The flags are 0 or 8.
abbrev pub norename_of : ℕ → Result Bool FrameError
norename_of flags = if flags == 0 then Ok false else if flags == 8 then Ok true else Err BadBody

-- flags, port, label, service type and TXT data
unfoldable pub register_of : List ℕ → Result Request FrameError
register_of body = byte_part body >>= λ flags. norename_of flags.0 >>= λ norename. u16_part flags.1 >>= λ port.
    text_part port.1 >>= λ label. text_part label.1 >>= λ regtype. txt_part regtype.1 >>= λ txt.
    ended txt.1 >>= λ _. Ok (Register label.0 regtype.0 port.0 norename txt.0)

-- TXT data
unfoldable pub update_of : List ℕ → Result Request FrameError
update_of body = txt_part body >>= λ txt. ended txt.1 >>= λ _. Ok (Update txt.0)

-- the request of a kind that a body spells
unfoldable pub request_of : ℕ → List ℕ → Result Request FrameError
request_of kind body =
    if kind == 1 then query_of body
    else if kind == 2 then browse_of body
    else if kind == 3 then resolve_of body
    else if kind == 4 then address_of body
    else if kind == 5 then register_of body
    else if kind == 6 then update_of body
    else if kind == 7 then (ended body >>= λ _. Ok Stop)
    else Err BadKind

-- an address of IPv4
unfoldable pub a_of : List ℕ → Result Rdata FrameError
a_of bytes = if length bytes == 4 then Ok (typed.A (from_be_bytes w32 bytes)) else Err BadBody

-- an address of IPv6
unfoldable pub aaaa_of : List ℕ → Result Rdata FrameError
aaaa_of bytes = if length bytes == 16 then Ok (typed.Aaaa (from_be_bytes w128 bytes)) else Err BadBody

-- a name with which the bytes end
unfoldable pub last_name_of : List ℕ → Result (List (List ℕ)) FrameError
last_name_of bytes = name_part bytes >>= λ name. ended name.1 >>= λ _. Ok name.0

-- SRV: priority, weight, port and a name
unfoldable pub srv_of : List ℕ → Result Rdata FrameError
srv_of bytes = u16_part bytes >>= λ priority. u16_part priority.1 >>= λ weight. u16_part weight.1 >>= λ port.
    last_name_of port.1 >>= λ target. Ok (typed.Srv priority.0 weight.0 port.0 target)

-- NSEC: a name and any further bytes
unfoldable pub nsec_of : List ℕ → Result Rdata FrameError
nsec_of bytes = name_part bytes >>= λ next. Ok (typed.Nsec next.0 next.1)

-- data of another type: those of OPT are no record's, and NS, MX and SOA have a form
unfoldable pub raw_of : ℕ → List ℕ → Result Rdata FrameError
raw_of kind bytes = if is_rdata (typed.Raw kind bytes) then Ok (typed.Raw kind bytes) else Err BadBody

-- the data of a type, in which names are written whole
unfoldable pub rdata_of : ℕ → List ℕ → Result Rdata FrameError
rdata_of kind bytes =
    if kind == 1 then a_of bytes
    else if kind == 28 then aaaa_of bytes
    else if kind == 12 then (last_name_of bytes >>= λ name. Ok (typed.Ptr name))
    else if kind == 5 then (last_name_of bytes >>= λ name. Ok (typed.Cname name))
    else if kind == 33 then srv_of bytes
    else if kind == 16 then Ok (typed.Txt bytes)
    else if kind == 47 then nsec_of bytes
    else raw_of kind bytes

-- a type, and its data to the end
unfoldable pub datum_of : List ℕ → Result Answer FrameError
datum_of bytes = u16_part bytes >>= λ kind. rdata_of kind.0 kind.1 >>= λ rdata. Ok (answer.Datum rdata)

-- priority, weight, port, a name, and TXT data to the end
unfoldable pub resolved_of : List ℕ → Result Answer FrameError
resolved_of bytes = u16_part bytes >>= λ priority. u16_part priority.1 >>= λ weight. u16_part weight.1 >>= λ port.
    name_part port.1 >>= λ target. Ok (answer.Resolved priority.0 weight.0 port.0 target.0 target.1)

-- the answer behind its tag
unfoldable pub tagged_of : ℕ → List ℕ → Result Answer FrameError
tagged_of tag bytes =
    if tag == 1 then datum_of bytes
    else if tag == 2 then (last_name_of bytes >>= λ name. Ok (answer.Found name))
    else if tag == 3 then resolved_of bytes
    else if tag == 4 then (last_name_of bytes >>= λ name. Ok (answer.Named name))
    else if tag == 5 then (ended bytes >>= λ _. Ok answer.Conflict)
    else Err BadBody

-- the answer that a body spells
unfoldable pub answer_of : List ℕ → Result Answer FrameError
answer_of body = byte_part body >>= λ tag. tagged_of tag.0 tag.1

-- what a reply answers
abbrev pub verb_of : ℕ → Result Verb FrameError
verb_of number = if number == 1 then Ok verb.Start else if number == 2 then Ok verb.Update else if number == 3 then Ok verb.Stop else Err BadBody

-- the verb and the code in two's complement
unfoldable pub reply_of : ℕ → List ℕ → Result Item FrameError
reply_of op body = byte_part body >>= λ number. verb_of number.0 >>= λ verb. u32_part number.1 >>= λ code.
    ended code.1 >>= λ _. Ok (Reply op verb (cast_signed w32 code.0))

-- the item of a kind and an operation that a body spells
unfoldable pub item_of : ℕ → ℕ → List ℕ → Result Item FrameError
item_of kind op body =
    if kind == 64 then reply_of op body
    else if kind == 65 then (answer_of body >>= λ answer. Ok (Add op answer))
    else if kind == 66 then (answer_of body >>= λ answer. Ok (Remove op answer))
    else Err BadKind

-- whether a frame may have so many bytes behind its length word
abbrev pub is_length : ℕ → Bool
is_length size = nat_le 5 size && nat_le size 65536

-- The length word that four bytes spell; None where there is no first byte, and Truncated where they end within it.
unfoldable pub word_at : List ℕ → Result (Option ℕ) FrameError
word_at word =
    if length word == 0 then Ok None
    else if nat_lt (length word) 4 then Err Truncated
    else let size = from_be_bytes w32 (take 4 word) in if is_length size then Ok (Some size) else Err BadLength

-- so many bytes, Truncated where they are fewer
abbrev pub whole_frame : ℕ → List ℕ → Result (Option (List ℕ)) FrameError
whole_frame size frame = if nat_lt (length frame) size then Err Truncated else Ok (Some frame)

-- the bytes behind the length word, as many as it says
abbrev pub behind_word : List ℕ → Option ℕ → Result (Option (List ℕ)) FrameError
behind_word bytes None = Ok None
behind_word bytes (Some size) = whole_frame size (take size (drop 4 bytes))

-- The bytes behind the length word of the frame that bytes begin with; None where there is no first byte.
unfoldable pub frame_of : List ℕ → Result (Option (List ℕ)) FrameError
frame_of bytes = word_at (take 4 bytes) >>= behind_word bytes

-- how many bytes a length word asks for
abbrev pub size_behind : Result (Option ℕ) FrameError → ℕ
size_behind (Ok (Some size)) = size
size_behind (Ok None) = 0
size_behind (Err e) = 0

-- how many bytes are taken for the frame that bytes begin with, as far as there are so many
unfoldable pub frame_size : List ℕ → ℕ
frame_size bytes = 4 + size_behind (word_at (take 4 bytes))

-- the operation and the request of a frame: its kind, its operation and its body
unfoldable pub framed_request : List ℕ → Result (ℕ × Request) FrameError
framed_request frame = byte_part frame >>= λ kind. u32_part kind.1 >>= λ op. request_of kind.0 op.1 >>= λ request. Ok (op.0, request)

-- the item of a frame
unfoldable pub framed_item : List ℕ → Result Item FrameError
framed_item frame = byte_part frame >>= λ kind. u32_part kind.1 >>= λ op. item_of kind.0 op.0 op.1

-- what comes of a frame, if there is one
abbrev pub if_any : {X : Type 0} → (List ℕ → Result X FrameError) → Option (List ℕ) → Result (Option X) FrameError
if_any spelled None = Ok None
if_any spelled (Some frame) = spelled frame >>= λ value. Ok (Some value)

-- the request that bytes begin with, with its operation; None where there is no first byte
unfoldable pub request_in : List ℕ → Result (Option (ℕ × Request)) FrameError
request_in bytes = frame_of bytes >>= if_any framed_request

-- the item that bytes begin with; None where there is no first byte
unfoldable pub item_in : List ℕ → Result (Option Item) FrameError
item_in bytes = frame_of bytes >>= if_any framed_item
