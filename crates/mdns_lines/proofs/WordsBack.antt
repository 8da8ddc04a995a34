-- What is printed of names, labels, addresses, signed numbers and records is read as them.
use Rattle.std.proofs.Common.{◌≡◌, ℕ, ℤ, pos, negsuc, suc, ◌-◌, ◌^◌, ◌<◌, Bool, true, false, eqb, leb, List, [], ◌∷◌, Some, None, refl, ap, arith, codes, length}
use Rattle.std.specs.Prelude.{decimal}
use Rattle.std.specs.Char.{is_ascii_digit}
use Rattle.std.specs.Fmt.{signed_decimal}
use Rattle.std.specs.Str.{bytes_eq}
use Rattle.std.proofs.lemmas.Bool.{and_parts, lt-ltb, le-leb, leb-true, eqb-true}
use Rattle.std.proofs.lemmas.Slice.Eq.{bytes_eq-Decides}
use Rattle.number_text.specs.Digits.{ipv4_text}
use Rattle.mdns_base.specs.declared.host.Host.{Host}
use Rattle.number_text.proofs.Decimals.{decimal_below_written}
use Rattle.number_text.proofs.Ipv4Text.{ipv4_written}
use Rattle.dns_name.specs.Names.{is_label}
use Rattle.dns_name.specs.NameText.{name_text}
use Rattle.dns_name.proofs.ReadBack.{read_name-name_text}
use Rattle.dns_record.specs.RecordText.{record_text}
use Rattle.dns_record.specs.ReadRecord.{name_read}
use Rattle.dns_record.specs.declared.record.Rr.{Rr}
use Rattle.dns_record.proofs.WrittenRecords.{name_back as token_read, record_written}
use Rattle.dns_message.specs.Writing.{is_below, are_bytes, is_spellable_name, is_spellable_data, is_spellable_record}
use Rattle.dns_name.specs.Names.{is_name}
use Rattle.std.specs.List.{list_all}
use Rattle.sd_call.specs.CallText.{label_token}
use Rattle.mdns_history.specs.Typed.{is_signed, is_typed_host}
use Rattle.mdns_history.proofs.TokenTexts.{below, decimal_no_word}
use Rattle.mdns_history.proofs.RecordTexts.{three, kind_small, data_back}
use Rattle.mdns_script.proofs.TokensBack.{token_back}
use Rattle.mdns_lines.proofs.AsciiTexts.{name_utf8, record_utf8}
use Rattle.std.specs.Result.{result_ok}
use Rattle.mdns_lines.specs.ReadItems.{rr_in}
use Rattle.mdns_lines.specs.Words.{after, name_in, label_in, host_in, signed_in}

-- a text is the same as itself
pub same_bytes : (text : List ℕ) → bytes_eq text text ≡ true
same_bytes text = (bytes_eq-Decides text text).1 refl

pub name_in_back : (name : List (List ℕ)) → is_spellable_name name ≡ true → name_in (name_text name) ≡ Some name
name_in_back name h =
    let parts = and_parts (is_name name) (list_all are_bytes name) h in rw (name_utf8 name h, read_name-name_text name parts.0 parts.1) refl

pub label_in_back : (label : List ℕ) → is_label label ≡ true → are_bytes label ≡ true → label_in (label_token label) ≡ Some label
label_in_back [] l h = absurd (cc)
label_in_back (b ∷ label) l h =
    let most = and_parts (leb 1 (length (b ∷ label))) (leb (length (b ∷ label)) 63) l in
    let back = token_back 63 b label h (leb-true (length (b ∷ label)) 63 most.1) in rw (back.1, l) refl

pub host_in_back : (host : Host) → is_typed_host host ≡ true → host_in (ipv4_text host.ip) (decimal host.port) ≡ Some host
unfolding host_in
host_in_back host h =
    let p = and_parts (is_below 32 host.ip) (is_below 16 host.port) h in
    rw (ipv4_written host.ip (below 32 host.ip p.0), decimal_below_written (2 ^ 16) host.port (omega arith) (below 16 host.port p.1)) refl

-- a decimal has no sign
no_sign : (n : ℕ) → n < 2 ^ 64 → after (codes "-") (decimal n) ≡ None
no_sign n small = go (decimal n) refl
  where
    go : (t : List ℕ) → decimal n ≡ t → after (codes "-") t ≡ None
    go [] e = refl
    go (c ∷ t) e = of (eqb c 45) refl
      where
        of : (b : Bool) → eqb c 45 ≡ b → after (codes "-") (c ∷ t) ≡ None
        of true f =
            let other : is_ascii_digit c ≡ false = ap is_ascii_digit (eqb-true c 45 f) in
            let no : true ≡ false = decimal_no_word n c t small other e in absurd (cc)
        of false f = rw f refl

pub signed_back : (z : ℤ) → is_signed z ≡ true → signed_in (signed_decimal z) ≡ Some z
signed_back (pos n) h =
    let small : n < 2 ^ 31 = below 31 n h in
    rw (no_sign n (omega arith), decimal_below_written (2 ^ 32) n (omega arith) (omega arith), lt-ltb n (2 ^ 31) small) refl
signed_back (negsuc n) h =
    let small : n < 2 ^ 31 = below 31 n h in
    let amount : suc n - 1 ≡ n = omega arith in
    rw (decimal_below_written (2 ^ 32) (suc n) (omega arith) (omega arith), le-leb 1 (suc n) (omega arith), le-leb (suc n) (2 ^ 31) (omega arith), amount) refl

-- ---- records

-- a record's text is read as it
pub rr_back : (rr : Rr) → is_spellable_record rr ≡ true → rr_in (record_text rr) ≡ Some rr
rr_back rr h =
    let p = three (is_spellable_name rr.owner) (is_below 32 rr.ttl) (is_spellable_data rr.rdata) h in
    rw (record_utf8 rr h)
    (record_written rr (name_read_back rr.owner p.0) (below 32 rr.ttl p.1) (kind_small rr.rdata p.2) (data_back rr.rdata p.2))
  where
    name_read_back : (name : List (List ℕ)) → is_spellable_name name ≡ true → name_read (name_text name) ≡ Some name
    name_read_back name h =
        let parts = and_parts (is_name name) (list_all are_bytes name) h in token_read name (ap result_ok (read_name-name_text name parts.0 parts.1))
