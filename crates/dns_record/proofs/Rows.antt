-- Worked rows on records and their text.
use Rattle.std.proofs.Common.{◌≡◌, [], ◌∷◌, refl, codes, true}
use Rattle.std.specs.Fmt.{digits}
use Rattle.number_text.specs.Digits.{four_text, ipv4_text}
use Rattle.dns_record.specs.declared.record.Rdata.TheVariants.{A}
use Rattle.dns_record.specs.RecordText.{kind_name, kind_text, data_text, record_text}

-- the text of an address record
row_record : record_text (record { owner = codes "a" ∷ codes "local" ∷ []; flush = true; ttl = 120; rdata = A 0xc0000201 }) ≡ codes "a.local. 120 flush A 192.0.2.1"
unfolding digits four_text ipv4_text kind_name kind_text data_text record_text
row_record = refl
