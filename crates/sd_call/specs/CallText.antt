-- Requests, answers and items as text.
use Rattle.std.specs.Prelude.{ℕ, ◌==◌, Bool, true, false, List, [], ◌∷◌, ◌++◌, decimal, codes, if◌then◌else◌}
use Rattle.std.specs.List.{flat_map}
use Rattle.std.specs.Fmt.{signed_decimal}
use Rattle.number_text.specs.Digits.{hex_text}
use Rattle.dns_name.specs.NameText.{name_text, label_text, byte_text}
use Rattle.dns_record.specs.Records.{kind_of}
use Rattle.dns_record.specs.RecordText.{space, kind_text, data_text, srv_text}
use Rattle.sd_call.specs.declared.request.Request.{Request}
use Rattle.sd_call.specs.declared.request.Request.TheVariants as request
use Rattle.sd_call.specs.declared.request.Verb.{Verb}
use Rattle.sd_call.specs.declared.request.Verb.TheVariants as verb
use Rattle.sd_call.specs.declared.answer.Answer.{Answer}
use Rattle.sd_call.specs.declared.answer.Answer.TheVariants.{Datum, Found, Resolved, Named, Conflict}
use Rattle.sd_call.specs.declared.item.Item.{Item}
use Rattle.sd_call.specs.declared.item.Item.TheVariants.{Reply, Add, Remove}

-- a label of a request; the empty one is `\e`
abbrev pub label_token : List ℕ → List ℕ
label_token [] = codes "\\e"
label_token (b ∷ bs) = label_text (b ∷ bs)

-- a byte of a service type, in which dots and commas are themselves
abbrev pub type_byte : ℕ → List ℕ
type_byte b = if b == 46 then b ∷ [] else byte_text b

-- a service type of a request
abbrev pub type_token : List ℕ → List ℕ
type_token [] = codes "\\e"
type_token (b ∷ bs) = flat_map type_byte (b ∷ bs)

-- the families of addresses
abbrev pub families_text : ℕ → List ℕ
families_text n = if n == 1 then codes "v4" else if n == 2 then codes "v6" else if n == 3 then codes "both" else decimal n

-- whether a registration keeps its name
abbrev pub norename_text : Bool → List ℕ
norename_text true = codes "norename"
norename_text false = codes "auto"

-- a request
abbrev pub request_text : Request → List ℕ
request_text (request.Query kind name) = codes "query " ++ kind_text kind ++ space ++ name_text name
request_text (request.Browse regtype) = codes "browse " ++ type_token regtype
request_text (request.Resolve label regtype) = codes "resolve " ++ label_token label ++ space ++ type_token regtype
request_text (request.Address families name) = codes "address " ++ families_text families ++ space ++ name_text name
request_text (request.Register label regtype port norename txt) =
    codes "register " ++ label_token label ++ space ++ type_token regtype ++ space ++ decimal port ++ space ++ norename_text norename
    ++ space ++ hex_text txt
request_text (request.Update txt) = codes "update " ++ hex_text txt
request_text request.Stop = codes "stop"

-- an answer
abbrev pub answer_text : Answer → List ℕ
answer_text (Datum rdata) = kind_text (kind_of rdata) ++ space ++ data_text rdata
answer_text (Found instance) = codes "found " ++ name_text instance
answer_text (Resolved priority weight port target txt) = codes "resolved " ++ srv_text priority weight port target ++ space ++ hex_text txt
answer_text (Named full) = codes "named " ++ name_text full
answer_text Conflict = codes "conflict"

-- what a reply answers
abbrev pub verb_text : Verb → List ℕ
verb_text verb.Start = codes "start"
verb_text verb.Update = codes "update"
verb_text verb.Stop = codes "stop"

-- an item
abbrev pub item_text : Item → List ℕ
item_text (Reply op verb code) = codes "reply " ++ decimal op ++ space ++ verb_text verb ++ space ++ signed_decimal code
item_text (Add op answer) = codes "add " ++ decimal op ++ space ++ answer_text answer
item_text (Remove op answer) = codes "rem " ++ decimal op ++ space ++ answer_text answer
