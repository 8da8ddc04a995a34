-- Which message bytes spell, and else the first fault in reading order. What stands at an offset is said of the whole bytes. (RFC 1035 4.1)
use Rattle.std.specs.Prelude.{◌≡◌, ◌⊎◌, ℕ, zero, suc, ◌+◌, ◌-◌, ◌/◌, ◌%◌, ◌^◌, ◌==◌, nat_le, Bool, true, false, not, ◌||◌, List, [], ◌++◌, length, slice_index, slice_range, Option, Some, None, Result, Ok, Err, if◌then◌else◌}
use Rattle.std.specs.List.{cons_option}
use Rattle.dns_name.specs.Names.{wire_of}
use Rattle.dns_record.specs.declared.record.Rdata.{Rdata}
use Rattle.dns_record.specs.declared.record.Rdata.TheVariants.{A, Aaaa, Ptr, Cname, Srv, Txt, Nsec, Raw}
use Rattle.dns_record.specs.declared.record.Rr.{Rr}
use Rattle.dns_record.specs.declared.record.Question.{Question}
use Rattle.dns_record.specs.Records.{opt_kind}
use Rattle.dns_pointers.specs.declared.fault.NameFault.{NameFault}
use Rattle.dns_pointers.specs.declared.fault.NameFault.TheVariants as name_fault
use Rattle.dns_pointers.specs.Reading.{◌>>=◌, NameAt, name_at, u16_in, u32_in, u128_in}
use Rattle.dns_message.specs.declared.message.Message.{Message}
use Rattle.dns_message.specs.declared.message.MessageError.{MessageError}
use Rattle.dns_message.specs.declared.message.MessageError.TheVariants.{Truncated, BadPointer, BadLabel, LongName, BadRdata, TooLong, NoMemory}

-- The result is the wanted one, or memory was refused.
abbrev pub IsReadAs : {X : Type 0} → Result X MessageError → Result X MessageError → Type 0
IsReadAs result wanted = (result ≡ Err NoMemory) ⊎ (result ≡ wanted)

-- a test, and the fault where it fails
abbrev pub holds_or : Bool → MessageError → Result (Unit {0}) MessageError
holds_or true e = Ok tt
holds_or false e = Err e

-- the fault of a message that has this fault of a name
abbrev pub message_fault : NameFault → MessageError
message_fault name_fault.Truncated = Truncated
message_fault name_fault.BadPointer = BadPointer
message_fault name_fault.BadLabel = BadLabel
message_fault name_fault.LongName = LongName

-- what is read of a name, as a part of a message
abbrev pub of_name : {X : Type 0} → Result X NameFault → Result X MessageError
of_name (Ok x) = Ok x
of_name (Err e) = Err (message_fault e)

-- a name in data: it ends within the data
unfoldable pub name_within : List ℕ → ℕ → ℕ → Result NameAt MessageError
name_within bytes at stop = of_name (name_at bytes at) >>= λ name. holds_or (nat_le name.1 stop) BadRdata >>= λ _. Ok name

-- a name in data that ends with them
unfoldable pub name_up_to : List ℕ → ℕ → ℕ → Result (List (List ℕ)) MessageError
name_up_to bytes at stop = of_name (name_at bytes at) >>= λ name. holds_or (name.1 == stop) BadRdata >>= λ _. Ok name.0

-- fixed bytes of data, so many, end within the data
abbrev pub fixed_within : ℕ → ℕ → ℕ → Result (Unit {0}) MessageError
fixed_within size at stop = holds_or (nat_le (at + size) stop) BadRdata

-- SRV: priority, weight, port and a name
unfoldable pub srv_at : List ℕ → ℕ → ℕ → Result Rdata MessageError
srv_at bytes at stop = fixed_within 6 at stop >>= λ _. name_up_to bytes (at + 6) stop >>= λ target.
    Ok (Srv (u16_in bytes at) (u16_in bytes (at + 2)) (u16_in bytes (at + 4)) target)

-- NS: a name, kept written out
unfoldable pub ns_at : List ℕ → ℕ → ℕ → Result Rdata MessageError
ns_at bytes at stop = name_up_to bytes at stop >>= λ name. Ok (Raw 2 (wire_of name))

-- NSEC: a name and any further bytes
unfoldable pub nsec_at : List ℕ → ℕ → ℕ → Result Rdata MessageError
nsec_at bytes at stop = name_within bytes at stop >>= λ next. Ok (Nsec next.0 (slice_range bytes next.1 stop))

-- MX: two bytes and a name, kept with the name written out
unfoldable pub mx_at : List ℕ → ℕ → ℕ → Result Rdata MessageError
mx_at bytes at stop = fixed_within 2 at stop >>= λ _. name_up_to bytes (at + 2) stop >>= λ name.
    Ok (Raw 15 (slice_range bytes at (at + 2) ++ wire_of name))

-- SOA: two names and 20 bytes, kept with the names written out
unfoldable pub soa_at : List ℕ → ℕ → ℕ → Result Rdata MessageError
soa_at bytes at stop = name_within bytes at stop >>= λ first. name_within bytes first.1 stop >>= λ second.
    holds_or (second.1 + 20 == stop) BadRdata >>= λ _. Ok (Raw 6 (wire_of first.0 ++ wire_of second.0 ++ slice_range bytes second.1 stop))

-- data of a fixed length
abbrev pub number_data : ℕ → ℕ → Rdata → Result Rdata MessageError
number_data size wanted rdata = holds_or (size == wanted) BadRdata >>= λ _. Ok rdata

-- the data of a type that stand from an offset up to another
unfoldable pub rdata_at : List ℕ → ℕ → ℕ → ℕ → Result Rdata MessageError
rdata_at bytes kind at stop =
    if kind == 1 then number_data (stop - at) 4 (A (u32_in bytes at))
    else if kind == 28 then number_data (stop - at) 16 (Aaaa (u128_in bytes at))
    else if kind == 12 then (name_up_to bytes at stop >>= λ name. Ok (Ptr name))
    else if kind == 5 then (name_up_to bytes at stop >>= λ name. Ok (Cname name))
    else if kind == 33 then srv_at bytes at stop
    else if kind == 47 then nsec_at bytes at stop
    else if kind == 2 then ns_at bytes at stop
    else if kind == 15 then mx_at bytes at stop
    else if kind == 6 then soa_at bytes at stop
    else if kind == 16 then Ok (Txt (slice_range bytes at stop))
    else Ok (Raw kind (slice_range bytes at stop))

-- the class without its top bit
abbrev pub class_in : List ℕ → ℕ → ℕ
class_in bytes at = u16_in bytes at % 2 ^ 15

-- the top bit of the class: QU of a question, cache flush of a record
abbrev pub top_bit_in : List ℕ → ℕ → Bool
top_bit_in bytes at = nat_le (2 ^ 15) (u16_in bytes at)

-- where the data of a record end, by the fixed fields at an offset
abbrev pub data_end_at : List ℕ → ℕ → Result ℕ MessageError
data_end_at bytes fields = holds_or (nat_le (fields + 10) (length bytes)) Truncated >>= λ _.
    let stop = fields + 10 + u16_in bytes (fields + 8) in holds_or (nat_le stop (length bytes)) Truncated >>= λ _. Ok stop

-- The record at an offset and the offset behind it. A record of type OPT or of another class than IN is passed over.
unfoldable pub record_at : List ℕ → ℕ → Result (Option Rr × ℕ) MessageError
record_at bytes at = of_name (name_at bytes at) >>= λ owner. let fields = owner.1 in data_end_at bytes fields >>= λ stop.
    if (u16_in bytes fields == opt_kind) || not (class_in bytes (fields + 2) == 1) then Ok (None, stop)
    else (rdata_at bytes (u16_in bytes fields) (fields + 10) stop >>= λ rdata.
    Ok (Some (record { owner = owner.0; flush = top_bit_in bytes (fields + 2); ttl = u32_in bytes (fields + 4); rdata = rdata }), stop))

-- The question at an offset and the offset behind it. A question of another class than IN and ANY is passed over.
unfoldable pub question_at : List ℕ → ℕ → Result (Option Question × ℕ) MessageError
question_at bytes at = of_name (name_at bytes at) >>= λ name. let fields = name.1 in
    holds_or (nat_le (fields + 4) (length bytes)) Truncated >>= λ _. let class = class_in bytes (fields + 2) in
    if (class == 1) || (class == 255) then
    Ok (Some (record { name = name.0; kind = u16_in bytes fields; unicast = top_bit_in bytes (fields + 2) }), fields + 4)
    else Ok (None, fields + 4)

-- so many things in a row from an offset on, those passed over left out, and the offset behind them
unfoldable pub all_at : {X : Type 0} → (ℕ → Result (Option X × ℕ) MessageError) → ℕ → ℕ → Result (List X × ℕ) MessageError
all_at thing_at zero at = Ok ([], at)
all_at thing_at (suc more) at = thing_at at >>= λ first. all_at thing_at more first.1 >>= λ rest. Ok (cons_option first.0 rest.0, rest.1)

-- bit k of a number
abbrev pub has_bit : ℕ → ℕ → Bool
has_bit k n = n / 2 ^ k % 2 == 1

-- the questions, the answers, and the authority and additional records of a message
abbrev pub Sections : Type 0
Sections = List Question × List Rr × List Rr × List Rr

-- the sections that follow the header, one behind the other
unfoldable pub sections_at : List ℕ → Result Sections MessageError
sections_at bytes =
    all_at (question_at bytes) (u16_in bytes 4) 12 >>= λ questions. all_at (record_at bytes) (u16_in bytes 6) questions.1 >>= λ answers.
    all_at (record_at bytes) (u16_in bytes 8) answers.1 >>= λ authority. all_at (record_at bytes) (u16_in bytes 10) authority.1 >>= λ additional.
    Ok (questions.0, answers.0, authority.0, additional.0)

-- a message with the header with which bytes begin, and these sections
abbrev pub with_header : List ℕ → Sections → Message
with_header bytes parts = let high = slice_index bytes 2 in
    record {
      id = u16_in bytes 0;
      response = has_bit 7 high;
      authoritative = has_bit 2 high;
      truncated = has_bit 1 high;
      opcode = high / 8 % 16;
      rcode = slice_index bytes 3 % 16;
      questions = parts.0;
      answers = parts.1;
      authority = parts.2;
      additional = parts.3;
    }

-- the message that the bytes spell, or the first fault in reading order
unfoldable pub spelled : List ℕ → Result Message MessageError
spelled bytes =
    holds_or (nat_le (length bytes) 8972) TooLong >>= λ _. holds_or (nat_le 12 (length bytes)) Truncated >>= λ _.
    sections_at bytes >>= λ parts. Ok (with_header bytes parts)

-- The bytes spell the message.
abbrev pub Spells : List ℕ → Message → Type 0
Spells bytes message = spelled bytes ≡ Ok message

-- the number of a fault
abbrev pub fault_number : MessageError → ℕ
fault_number Truncated = 1
fault_number BadPointer = 2
fault_number BadLabel = 3
fault_number LongName = 4
fault_number BadRdata = 5
fault_number TooLong = 6
fault_number NoMemory = 7

-- the number of the first fault of bytes that spell no message
abbrev pub fault_of : Result Message MessageError → Option ℕ
fault_of (Ok message) = None
fault_of (Err e) = Some (fault_number e)

-- the number of the first fault of bytes, none where they spell a message
abbrev pub fault : List ℕ → Option ℕ
fault bytes = fault_of (spelled bytes)
