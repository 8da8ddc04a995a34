-- Types, data and records as text: they stand in a line, and tell what they are the text of.
use Rattle.std.proofs.Common.{◌≡◌, ℕ, ◌+◌, ◌^◌, ◌<◌, Bool, true, false, ◌&&◌, List, ◌++◌, Option, Some, refl, ap, sym, ◌∙◌, arith, codes}
use Rattle.std.proofs.lemmas.Bool.{and_parts}
use Rattle.std.specs.Prelude.{decimal}
use Rattle.std.specs.Option.{unwrap_or}
use Rattle.std.specs.List.{list_all}
use Rattle.std.specs.Result.{result_ok}
use Rattle.number_text.specs.Digits.{hex_text, ipv4_text, ipv6_text}
use Rattle.number_text.proofs.HexText.{hex_written}
use Rattle.number_text.proofs.Ipv4Text.{ipv4_written}
use Rattle.number_text.proofs.Ipv6Text.{ipv6_written}
use Rattle.dns_name.specs.Names.{is_name}
use Rattle.dns_name.specs.NameText.{name_text}
use Rattle.dns_name.proofs.ReadBack.{read_name-name_text}
use Rattle.dns_record.specs.Records.{kind_of, is_rdata}
use Rattle.dns_record.specs.RecordText.{space, kind_name, kind_text, srv_text, data_text, flush_text, record_text}
use Rattle.dns_record.specs.ReadRecord.{name_read, kind_read, rdata_read, record_read}
use Rattle.dns_record.specs.declared.record.Rdata.{Rdata}
use Rattle.dns_record.specs.declared.record.Rdata.TheVariants.{A, Aaaa, Ptr, Cname, Srv, Txt, Nsec, Raw}
use Rattle.dns_record.specs.declared.record.Rr.{Rr}
use Rattle.dns_record.proofs.KindTexts.{kind_cases, kind_written}
use Rattle.dns_record.proofs.WrittenRecords.{name_back as token_back, IsReadBack, srv_written, back_A, back_Aaaa, back_Ptr, back_Cname, back_Srv, back_Txt, back_Nsec, back_Raw, record_written}
use Rattle.dns_message.specs.Writing.{is_below, are_bytes, is_spellable_name, is_spellable_data, is_spellable_record}
use Rattle.mdns_history.proofs.Texts.{are_seen, in_line, line_joined, seen_line}
use Rattle.mdns_history.proofs.TokenTexts.{below, decimal_seen, bytes_are, hex_seen, ipv4_seen, ipv6_seen, name_seen}

some_same : {X : Type 0} (x y : X) → Some x ≡ Some y → x ≡ y
some_same x y h = cc

pub kind_seen : (k : ℕ) → k < 2 ^ 16 → are_seen (kind_text k) ≡ true
unfolding kind_text kind_name
kind_seen k =
    kind_cases (λ n. n < 2 ^ 16 → are_seen (kind_text n) ≡ true) (λ h. refl) (λ h. refl) (λ h. refl) (λ h. refl) (λ h. refl) (λ h. refl) (λ h. refl)
    (λ h. refl) (λ h. refl) (λ h. refl) (λ h. refl) (λ h. refl) (λ h. refl) (λ n e h. ap (λ (o : Option (List ℕ)). are_seen (unwrap_or o (codes "TYPE" ++ decimal n))) e ∙ decimal_seen n (omega arith)) k

pub kind_told : (m n : ℕ) → m < 2 ^ 16 → n < 2 ^ 16 → kind_text m ≡ kind_text n → m ≡ n
kind_told m n h k e = some_same m n (sym (kind_written m h) ∙ ap kind_read e ∙ kind_written n k)

-- ---- data

name_back : (name : List (List ℕ)) → is_spellable_name name ≡ true → name_read (name_text name) ≡ Some name
name_back name h = let p = and_parts (is_name name) (list_all are_bytes name) h in token_back name (ap result_ok (read_name-name_text name p.0 p.1))

pub four : (a b c d : Bool) → (a && b && c && d) ≡ true → (a ≡ true) × (b ≡ true) × (c ≡ true) × (d ≡ true)
four true true true true h = (refl, refl, refl, refl)
four false b c d h = cc
four true false c d h = cc
four true true false d h = cc
four true true true false h = cc

pub three : (a b c : Bool) → (a && b && c) ≡ true → (a ≡ true) × (b ≡ true) × (c ≡ true)
three true true true h = (refl, refl, refl)
three false b c h = cc
three true false c h = cc
three true true false h = cc

pub data_back : (rdata : Rdata) → is_spellable_data rdata ≡ true → IsReadBack rdata
data_back (A address) h = back_A address (ipv4_written address (below 32 address h))
data_back (Aaaa address) h = back_Aaaa address (ipv6_written address (below 128 address h))
data_back (Ptr name) h = back_Ptr name (name_back name h)
data_back (Cname name) h = back_Cname name (name_back name h)
data_back (Srv priority weight port target) h =
    let p = four (is_below 16 priority) (is_below 16 weight) (is_below 16 port) (is_spellable_name target) h in
    back_Srv priority weight port target (srv_written priority weight port target (below 16 priority p.0) (below 16 weight p.1) (below 16 port p.2) (name_back target p.3))
data_back (Txt bytes) h = back_Txt bytes (hex_written bytes (bytes_are bytes h))
data_back (Nsec next bitmap) h = let p = and_parts (is_spellable_name next) (are_bytes bitmap) h in back_Nsec next bitmap (name_back next p.0) (hex_written bitmap (bytes_are bitmap p.1))
data_back (Raw kind bytes) h = let p = three (is_below 16 kind) (are_bytes bytes) (is_rdata (Raw kind bytes)) h in back_Raw kind bytes p.2 (hex_written bytes (bytes_are bytes p.1))

pub data_told : (left right : Rdata) → is_spellable_data left ≡ true → is_spellable_data right ≡ true → kind_of left ≡ kind_of right → data_text left ≡ data_text right → left ≡ right
data_told left right h k e f = some_same left right (sym (data_back left h) ∙ (λ i. rdata_read (e i) (f i)) ∙ data_back right k)

pub kind_small : (rdata : Rdata) → is_spellable_data rdata ≡ true → kind_of rdata < 2 ^ 16
kind_small (A address) h = omega arith
kind_small (Aaaa address) h = omega arith
kind_small (Ptr name) h = omega arith
kind_small (Cname name) h = omega arith
kind_small (Srv priority weight port target) h = omega arith
kind_small (Txt bytes) h = omega arith
kind_small (Nsec next bitmap) h = omega arith
kind_small (Raw kind bytes) h = below 16 kind (three (is_below 16 kind) (are_bytes bytes) (is_rdata (Raw kind bytes)) h).0

pub number_line : (bits n : ℕ) → is_below bits n ≡ true → 2 ^ bits < 2 ^ 64 + 1 → in_line (decimal n) ≡ true
number_line bits n h small = let less : n < 2 ^ bits = below bits n h in seen_line (decimal n) (decimal_seen n (omega arith))

pub srv_line : (priority weight port : ℕ) (target : List (List ℕ)) → is_below 16 priority ≡ true → is_below 16 weight ≡ true → is_below 16 port ≡ true → in_line (srv_text priority weight port target) ≡ true
srv_line priority weight port target p w o =
    line_joined (((((decimal priority ++ space) ++ decimal weight) ++ space) ++ decimal port) ++ space) (name_text target)
    (line_joined ((((decimal priority ++ space) ++ decimal weight) ++ space) ++ decimal port) space
    (line_joined (((decimal priority ++ space) ++ decimal weight) ++ space) (decimal port)
    (line_joined ((decimal priority ++ space) ++ decimal weight) space
    (line_joined (decimal priority ++ space) (decimal weight)
    (line_joined (decimal priority) space (number_line 16 priority p (omega arith)) refl)
    (number_line 16 weight w (omega arith))) refl)
    (number_line 16 port o (omega arith))) refl)
    (seen_line (name_text target) (name_seen target))

pub data_line : (rdata : Rdata) → is_spellable_data rdata ≡ true → in_line (data_text rdata) ≡ true
unfolding data_text
data_line (A address) h = seen_line (ipv4_text address) (ipv4_seen address (below 32 address h))
data_line (Aaaa address) h = seen_line (ipv6_text address) (ipv6_seen address (below 128 address h))
data_line (Ptr name) h = seen_line (name_text name) (name_seen name)
data_line (Cname name) h = seen_line (name_text name) (name_seen name)
data_line (Srv priority weight port target) h =
    let p = four (is_below 16 priority) (is_below 16 weight) (is_below 16 port) (is_spellable_name target) h in srv_line priority weight port target p.0 p.1 p.2
data_line (Txt bytes) h = seen_line (hex_text bytes) (hex_seen bytes h)
data_line (Nsec next bitmap) h =
    line_joined (name_text next ++ space) (hex_text bitmap) (line_joined (name_text next) space (seen_line (name_text next) (name_seen next)) refl)
    (seen_line (hex_text bitmap) (hex_seen bitmap (and_parts (is_spellable_name next) (are_bytes bitmap) h).1))
data_line (Raw kind bytes) h = seen_line (hex_text bytes) (hex_seen bytes (three (is_below 16 kind) (are_bytes bytes) (is_rdata (Raw kind bytes)) h).1)

-- ---- records

pub record_told : (left right : Rr) → is_spellable_record left ≡ true → is_spellable_record right ≡ true → record_text left ≡ record_text right → left ≡ right
record_told left right h k e = some_same left right (sym (back left h) ∙ ap record_read e ∙ back right k)
  where
    back : (rr : Rr) → is_spellable_record rr ≡ true → record_read (record_text rr) ≡ Some rr
    back rr h =
        let p = three (is_spellable_name rr.owner) (is_below 32 rr.ttl) (is_spellable_data rr.rdata) h in
        record_written rr (name_back rr.owner p.0) (below 32 rr.ttl p.1) (kind_small rr.rdata p.2) (data_back rr.rdata p.2)

flush_line : (flush : Bool) → in_line (flush_text flush) ≡ true
flush_line true = refl
flush_line false = refl

pub record_line : (rr : Rr) → is_spellable_record rr ≡ true → in_line (record_text rr) ≡ true
unfolding record_text
record_line rr h =
    let p = three (is_spellable_name rr.owner) (is_below 32 rr.ttl) (is_spellable_data rr.rdata) h in
    let n = name_text rr.owner in
    let t = decimal rr.ttl in
    let f = flush_text rr.flush in
    let k = kind_text (kind_of rr.rdata) in
    line_joined (((((((n ++ space) ++ t) ++ space) ++ f) ++ space) ++ k) ++ space) (data_text rr.rdata)
    (line_joined ((((((n ++ space) ++ t) ++ space) ++ f) ++ space) ++ k) space
    (line_joined (((((n ++ space) ++ t) ++ space) ++ f) ++ space) k
    (line_joined ((((n ++ space) ++ t) ++ space) ++ f) space
    (line_joined (((n ++ space) ++ t) ++ space) f
    (line_joined ((n ++ space) ++ t) space
    (line_joined (n ++ space) t (line_joined n space (seen_line n (name_seen rr.owner)) refl) (number_line 32 rr.ttl p.1 (omega arith))) refl)
    (flush_line rr.flush)) refl)
    (seen_line k (kind_seen (kind_of rr.rdata) (kind_small rr.rdata p.2)))) refl)
    (data_line rr.rdata p.2)
