-- What is written is read again, whatever follows.
use Rattle.std.specs.Prelude.{◌≡◌, ℕ, ◌≤◌, Bool, true, List, ◌++◌, length, IsTrue, Ok}
use Rattle.std.specs.Int.{to_be_bytes, w16}
use Rattle.dns_name.specs.Names.{wire_of}
use Rattle.dns_record.specs.Records.{kind_of, data_of, is_rdata}
use Rattle.dns_record.specs.declared.record.Rdata.{Rdata}
use Rattle.sd_call.specs.Answers.{answer_bytes}
use Rattle.sd_call.specs.declared.request.Request.{Request}
use Rattle.sd_call.specs.declared.answer.Answer.{Answer}
use Rattle.sd_call.specs.declared.answer.Answer.TheVariants.{Datum}
use Rattle.sd_call.specs.declared.item.Item.{Item}
use Rattle.sd_call.specs.declared.item.Item.TheVariants.{Add, Remove}
use Rattle.sd_ipc.specs.Frames.{counted, request_kind, request_body, item_kind, item_op, item_body}
use Rattle.sd_ipc.specs.Parts.{u16_part, text_part, txt_part, name_part}
use Rattle.sd_ipc.specs.Reading.{rdata_of, answer_of, request_of, item_of}

-- a number
pub record ReadsNumber (number : ℕ) : Type 0 where
  pub again : (more : List ℕ) → u16_part (to_be_bytes w16 number ++ more) ≡ Ok (number, more)

-- a name
pub record ReadsName (name : List (List ℕ)) : Type 0 where
  pub again : (more : List ℕ) → name_part (wire_of name ++ more) ≡ Ok (name, more)
  pub short : length (wire_of name) ≤ 255

-- a text
pub record ReadsText (text : List ℕ) : Type 0 where
  pub again : (more : List ℕ) → text_part (counted text ++ more) ≡ Ok (text, more)
  pub short : length text ≤ 1024

-- TXT data
pub record ReadsTxt (txt : List ℕ) : Type 0 where
  pub again : (more : List ℕ) → txt_part (counted txt ++ more) ≡ Ok (txt, more)
  pub short : length txt ≤ 8192

-- These bytes are the body of the request, and are read as it.
pub record IsBody (request : Request) (bytes : List ℕ) : Type 0 where
  pub body : bytes ≡ request_body request
  pub again : request_of (request_kind request) bytes ≡ Ok request
  pub short : length bytes ≤ 65531

-- These bytes are the data, and are read as they where they are a record's.
pub record IsData (rdata : Rdata) (bytes : List ℕ) : Type 0 where
  pub data_bytes : bytes ≡ data_of rdata
  pub again : IsTrue (is_rdata rdata) → rdata_of (kind_of rdata) bytes ≡ Ok rdata

-- Of an answer, the datum is the data of a record.
abbrev pub has_data : Answer → Bool
has_data (Datum rdata) = is_rdata rdata
has_data _ = true

-- The same of an item's answer.
abbrev pub has_item_data : Item → Bool
has_item_data (Add op answer) = has_data answer
has_item_data (Remove op answer) = has_data answer
has_item_data _ = true

-- These bytes are the answer, and are read as it where its datum is a record's.
pub record IsAnswer (answer : Answer) (bytes : List ℕ) : Type 0 where
  pub body : bytes ≡ answer_bytes answer
  pub again : IsTrue (has_data answer) → answer_of bytes ≡ Ok answer

-- These bytes are the body of the item, and are read as it where its datum is a record's.
pub record IsItemBody (item : Item) (bytes : List ℕ) : Type 0 where
  pub body : bytes ≡ item_body item
  pub again : IsTrue (has_item_data item) → item_of (item_kind item) (item_op item) bytes ≡ Ok item
