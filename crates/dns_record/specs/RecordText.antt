-- Types, data and records as text. (RFC 1035 5.1)
use Rattle.std.specs.Prelude.{ℕ, ◌==◌, Bool, true, false, List, [], ◌∷◌, ◌++◌, Option, Some, None, decimal, codes, if◌then◌else◌}
use Rattle.std.specs.Option.{unwrap_or}
use Rattle.number_text.specs.Digits.{hex_text, ipv4_text, ipv6_text}
use Rattle.dns_name.specs.NameText.{name_text}
use Rattle.dns_record.specs.Records.{kind_of}
use Rattle.dns_record.specs.declared.record.Rdata.{Rdata}
use Rattle.dns_record.specs.declared.record.Rdata.TheVariants.{A, Aaaa, Ptr, Cname, Srv, Txt, Nsec, Raw}
use Rattle.dns_record.specs.declared.record.Rr.{Rr}

-- a space between two tokens
abbrev pub space : List ℕ
space = 32 ∷ []

-- the name of a type, if it has one
unfoldable pub kind_name : ℕ → Option (List ℕ)
kind_name kind =
    if kind == 1 then Some (codes "A") else if kind == 2 then Some (codes "NS") else if kind == 5 then Some (codes "CNAME")
    else if kind == 6 then Some (codes "SOA") else if kind == 12 then Some (codes "PTR") else if kind == 13 then Some (codes "HINFO")
    else if kind == 15 then Some (codes "MX") else if kind == 16 then Some (codes "TXT") else if kind == 28 then Some (codes "AAAA")
    else if kind == 33 then Some (codes "SRV") else if kind == 41 then Some (codes "OPT") else if kind == 47 then Some (codes "NSEC")
    else if kind == 255 then Some (codes "ANY") else None

-- a type by its name, or as TYPE and its number (RFC 3597 5)
unfoldable pub kind_text : ℕ → List ℕ
kind_text kind = unwrap_or (kind_name kind) (codes "TYPE" ++ decimal kind)

-- priority, weight, port and target (RFC 2782)
abbrev pub srv_text : ℕ → ℕ → ℕ → List (List ℕ) → List ℕ
srv_text priority weight port target = decimal priority ++ space ++ decimal weight ++ space ++ decimal port ++ space ++ name_text target

-- data by their type; TXT and raw data are hexadecimal
unfoldable pub data_text : Rdata → List ℕ
data_text (A address) = ipv4_text address
data_text (Aaaa address) = ipv6_text address
data_text (Ptr name) = name_text name
data_text (Cname name) = name_text name
data_text (Srv priority weight port target) = srv_text priority weight port target
data_text (Txt bytes) = hex_text bytes
data_text (Nsec next bitmap) = name_text next ++ space ++ hex_text bitmap
data_text (Raw kind bytes) = hex_text bytes

-- the flush bit as a word
abbrev pub flush_text : Bool → List ℕ
flush_text true = codes "flush"
flush_text false = codes "-"

-- owner, TTL, flush bit, type and data
unfoldable pub record_text : Rr → List ℕ
record_text rr =
    name_text rr.owner ++ space ++ decimal rr.ttl ++ space ++ flush_text rr.flush
    ++ space ++ kind_text (kind_of rr.rdata) ++ space ++ data_text rr.rdata
