-- Worked packets, read and written.
use Rattle.std.proofs.Common.{◌≡◌, ℕ, List, [], ◌∷◌, ◌++◌, ◌+◌, refl, codes, true, false, Ok, Err}
use Rattle.dns_name.specs.Names.{exact_eq}
use Rattle.dns_record.specs.declared.record.Rdata.TheVariants.{A, Ptr}
use Rattle.dns_record.specs.declared.record.Rr.{Rr}
use Rattle.dns_message.specs.declared.message.Message.{Message}
use Rattle.dns_message.specs.declared.message.MessageError.TheVariants.{BadPointer}
use Rattle.dns_pointers.specs.Reading.{name_at, labels_at, label_at, target_at}
use Rattle.dns_message.specs.Reading.{spelled, sections_at, all_at, question_at, record_at, rdata_at, name_up_to, ns_at}
use Rattle.dns_pointers.specs.Writing.{written_name, offset_of}
use Rattle.dns_message.specs.Writing.{written, written_body, header, written_all, written_record, written_data, written_question}

-- a reply with these records
abbrev reply_of : List Rr → Message
reply_of rrs = record { id = 0; response = true; authoritative = true; truncated = false; opcode = 0; rcode = 0; questions = []; answers = rrs; authority = []; additional = [] }

abbrev address : ℕ → Rr
address last = record { owner = codes "a" ∷ codes "local" ∷ []; flush = true; ttl = 120; rdata = A (0xc0000200 + last) }

abbrev header_bytes : ℕ → List ℕ
header_bytes answers = 0 ∷ 0 ∷ 0x84 ∷ 0 ∷ 0 ∷ 0 ∷ 0 ∷ answers ∷ 0 ∷ 0 ∷ 0 ∷ 0 ∷ []

abbrev one_address : List ℕ
one_address = header_bytes 1 ++ 1 ∷ 0x61 ∷ 5 ∷ codes "local" ++ 0 ∷ 0 ∷ 1 ∷ 0x80 ∷ 1 ∷ 0 ∷ 0 ∷ 0 ∷ 0x78 ∷ 0 ∷ 4 ∷ 0xc0 ∷ 0 ∷ 2 ∷ 1 ∷ []

row_read : spelled one_address ≡ Ok (reply_of (address 1 ∷ []))
unfolding spelled sections_at all_at question_at record_at rdata_at name_up_to name_at ns_at labels_at label_at target_at written written_body header written_all written_record written_data written_question written_name offset_of exact_eq
row_read = refl

row_written : written (reply_of (address 1 ∷ [])) ≡ one_address
unfolding spelled sections_at all_at question_at record_at rdata_at name_up_to name_at ns_at labels_at label_at target_at written written_body header written_all written_record written_data written_question written_name offset_of exact_eq
row_written = refl

-- a pointer to itself
row_self_pointer : spelled (header_bytes 1 ++ 0xc0 ∷ 0x0c ∷ 0 ∷ 1 ∷ 0 ∷ 1 ∷ 0 ∷ 0 ∷ 0 ∷ 0x78 ∷ 0 ∷ 4 ∷ 0xc0 ∷ 0 ∷ 2 ∷ 1 ∷ []) ≡ Err BadPointer
unfolding spelled sections_at all_at question_at record_at rdata_at name_up_to name_at ns_at labels_at label_at target_at written written_body header written_all written_record written_data written_question written_name offset_of exact_eq
row_self_pointer = refl

-- a PTR record whose data's name ends with its owner
abbrev printer_ptr : Rr
printer_ptr = let type = codes "_ipp" ∷ codes "_tcp" ∷ codes "local" ∷ [] in record { owner = type; flush = false; ttl = 4500; rdata = Ptr (codes "Printer" ∷ type) }

abbrev ptr_bytes : List ℕ
ptr_bytes = header_bytes 1 ++ 4 ∷ codes "_ipp" ++ 4 ∷ codes "_tcp" ++ 5 ∷ codes "local" ++ 0 ∷ 0 ∷ 12 ∷ 0 ∷ 1 ∷ 0 ∷ 0 ∷ 0x11 ∷ 0x94 ∷ 0 ∷ 10 ∷ 7 ∷ codes "Printer" ++ 0xc0 ∷ 0x0c ∷ []

row_compressed : written (reply_of (printer_ptr ∷ [])) ≡ ptr_bytes
unfolding spelled sections_at all_at question_at record_at rdata_at name_up_to name_at ns_at labels_at label_at target_at written written_body header written_all written_record written_data written_question written_name offset_of exact_eq
row_compressed = refl

row_compressed_read : spelled ptr_bytes ≡ Ok (reply_of (printer_ptr ∷ []))
unfolding spelled sections_at all_at question_at record_at rdata_at name_up_to name_at ns_at labels_at label_at target_at written written_body header written_all written_record written_data written_question written_name offset_of exact_eq
row_compressed_read = refl
