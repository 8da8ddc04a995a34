-- What is written of a record is read as that record.
use Rattle.std.proofs.Common.{◌≡◌, ℕ, ◌+◌, ◌/◌, ◌%◌, ◌<◌, ◌^◌, ◌++◌, ◌||◌, ◌∙◌, Bool, true, false, not, cond, List, [], ◌∷◌, eqb, leb, Option, Some, None, refl, sym, ap, arith, append_assoc}
use Rattle.std.specs.Prelude.{IsTrue, decimal, option_and_then}
use Rattle.std.specs.List.{flat_map}
use Rattle.std.specs.Option.{option_map}
use Rattle.std.specs.Result.{result_ok}
use Rattle.std.proofs.lemmas.Bool.{ne_eqb, eqb-true, false≢true, leb-false, and_parts, not-true}
use Rattle.std.proofs.lemmas.List.Folds.{list_any-append}
use Rattle.number_text.specs.Digits.{decimal_below, hex_of, hex_text, ipv4_of, ipv4_text, ipv6_of, ipv6_text}
use Rattle.number_text.proofs.Joined.{lacks, cut_of-joined}
use Rattle.number_text.proofs.Decimals.{decimal_below_written, decimal_lacks}
use Rattle.dns_name.specs.ReadName.{read_name}
use Rattle.dns_name.specs.NameText.{three_digits, byte_text, label_text, name_text}
use Rattle.dns_record.specs.Records.{kind_of, is_rdata, is_typed, has_raw_form}
use Rattle.dns_record.specs.RecordText.{srv_text, data_text, flush_text, kind_text, record_text}
use Rattle.dns_record.specs.ReadRecord.{name_read, srv_read, nsec_read, raw_read, rdata_read, flush_read, kind_read, head_read, record_read}
use Rattle.dns_record.specs.declared.record.Rdata.{Rdata}
use Rattle.dns_record.specs.declared.record.Rdata.TheVariants.{A, Aaaa, Ptr, Cname, Srv, Txt, Nsec, Raw}
use Rattle.dns_record.specs.declared.record.Rr.{Rr}
use Rattle.dns_record.proofs.KindTexts.{kind_text-is, kind_written}

-- ---- no space stands in a name's text

byte_lacks : (b : ℕ) → lacks 32 (byte_text b) ≡ false
byte_lacks b = at_tests (eqb b 46 || eqb b 92) (leb b 32 || leb 127 b) refl refl
  where
    mark : (t u : Bool) → (t || u) ≡ true → eqb b 46 ≡ t → eqb b 92 ≡ u → eqb b 32 ≡ false
    mark true u h et eu = ne_eqb b 32 (λ e. omega (arith, eqb-true b 46 et))
    mark false true h et eu = ne_eqb b 32 (λ e. omega (arith, eqb-true b 92 eu))
    mark false false h et eu = absurd (false≢true h)

    high : (t u : Bool) → (t || u) ≡ false → leb b 32 ≡ t → eqb b 32 ≡ false
    high true u h et = absurd (false≢true (sym h))
    high false u h et = ne_eqb b 32 (λ e. omega (arith, leb-false b 32 et))

    at_tests : (t u : Bool) → (eqb b 46 || eqb b 92) ≡ t → (leb b 32 || leb 127 b) ≡ u → lacks 32 (cond t (92 ∷ b ∷ []) (cond u (92 ∷ three_digits b) (b ∷ []))) ≡ false
    at_tests true u et eu = rw (mark (eqb b 46) (eqb b 92) et refl refl) refl
    at_tests false true et eu = rw (ne_eqb (48 + b / 100) 32 (λ e. omega arith), ne_eqb (48 + b / 10 % 10) 32 (λ e. omega arith), ne_eqb (48 + b % 10) 32 (λ e. omega arith)) refl
    at_tests false false et eu = rw (high (leb b 32) (leb 127 b) eu refl) refl

joined_lacks : (xs ys : List ℕ) → lacks 32 xs ≡ false → lacks 32 ys ≡ false → lacks 32 (xs ++ ys) ≡ false
joined_lacks xs ys h k = list_any-append (λ b. eqb b 32) xs ys ∙ rw (h, k) refl

label_lacks : (label : List ℕ) → lacks 32 (label_text label) ≡ false
label_lacks [] = refl
label_lacks (b ∷ label) = joined_lacks (byte_text b) (label_text label) (byte_lacks b) (label_lacks label)

labels_lack : (labels : List (List ℕ)) → lacks 32 (flat_map (λ l. label_text l ++ 46 ∷ []) labels) ≡ false
labels_lack [] = refl
labels_lack (label ∷ labels) =
    joined_lacks (label_text label ++ 46 ∷ []) (flat_map (λ l. label_text l ++ 46 ∷ []) labels) (joined_lacks (label_text label) (46 ∷ []) (label_lacks label) refl) (labels_lack labels)

name_lacks : (name : List (List ℕ)) → lacks 32 (name_text name) ≡ false
name_lacks [] = refl
name_lacks (label ∷ labels) = labels_lack (label ∷ labels)

-- a name's text is one token, so it is read as the name that it spells
pub name_back : (name : List (List ℕ)) → result_ok (read_name (name_text name)) ≡ Some name → name_read (name_text name) ≡ Some name
name_back name e = rw (name_lacks name) e

flush_lacks : (flush : Bool) → lacks 32 (flush_text flush) ≡ false
flush_lacks true = refl
flush_lacks false = refl

pub flush_written : (flush : Bool) → flush_read (flush_text flush) ≡ Some flush
flush_written true = refl
flush_written false = refl

-- ---- data

regrouped : (a b c d : List ℕ) → a ++ (32 ∷ []) ++ b ++ (32 ∷ []) ++ c ++ (32 ∷ []) ++ d ≡ a ++ (32 ∷ (b ++ (32 ∷ (c ++ (32 ∷ d)))))
regrouped a b c d = simp append_assoc

then_some : {X Y : Type 0} (f : X → Option Y) (o : Option X) (x : X) → o ≡ Some x → option_and_then f o ≡ f x
then_some f o x e = ap (option_and_then f) e

pub srv_written : (p w o : ℕ) (target : List (List ℕ)) → p < 2 ^ 16 → w < 2 ^ 16 → o < 2 ^ 16 → name_read (name_text target) ≡ Some target
    → srv_read (srv_text p w o target) ≡ Some (Srv p w o target)
unfolding srv_read
srv_written p w o target hp hw ho read =
    ap srv_read (regrouped (decimal p) (decimal w) (decimal o) (name_text target))
    ∙ then_some _ _ (decimal p, decimal w ++ (32 ∷ (decimal o ++ (32 ∷ name_text target)))) (cut_of-joined 32 (decimal p) (decimal w ++ (32 ∷ (decimal o ++ (32 ∷ name_text target)))) (decimal_lacks 32 p refl (omega arith)))
    ∙ then_some _ _ (decimal w, decimal o ++ (32 ∷ name_text target)) (cut_of-joined 32 (decimal w) (decimal o ++ (32 ∷ name_text target)) (decimal_lacks 32 w refl (omega arith)))
    ∙ then_some _ _ (decimal o, name_text target) (cut_of-joined 32 (decimal o) (name_text target) (decimal_lacks 32 o refl (omega arith)))
    ∙ then_some _ _ p (decimal_below_written (2 ^ 16) p (omega arith) hp)
    ∙ then_some _ _ w (decimal_below_written (2 ^ 16) w (omega arith) hw)
    ∙ then_some _ _ o (decimal_below_written (2 ^ 16) o (omega arith) ho)
    ∙ then_some _ _ target read

pub nsec_written : (next : List (List ℕ)) (bitmap : List ℕ) → name_read (name_text next) ≡ Some next → hex_of (hex_text bitmap) ≡ Some bitmap
    → nsec_read (name_text next ++ (32 ∷ []) ++ hex_text bitmap) ≡ Some (Nsec next bitmap)
unfolding nsec_read
nsec_written next bitmap read bytes =
    ap nsec_read (append_assoc (name_text next) (32 ∷ []) (hex_text bitmap))
    ∙ then_some _ _ (name_text next, hex_text bitmap) (cut_of-joined 32 (name_text next) (hex_text bitmap) (name_lacks next))
    ∙ then_some _ _ next read
    ∙ then_some _ _ bitmap bytes

untyped : (kind : ℕ) → is_typed kind ≡ false
    → (eqb kind 1 ≡ false) × (eqb kind 28 ≡ false) × (eqb kind 12 ≡ false) × (eqb kind 5 ≡ false) × (eqb kind 33 ≡ false) × (eqb kind 16 ≡ false) × (eqb kind 47 ≡ false)
untyped kind h = (other 1 refl, other 28 refl, other 12 refl, other 5 refl, other 33 refl, other 16 refl, other 47 refl)
  where
    other : (v : ℕ) → is_typed v ≡ true → eqb kind v ≡ false
    other v t = ne_eqb kind v (λ e. false≢true (sym h ∙ ap is_typed e ∙ t))

other_type : (kind : ℕ) (bytes : List ℕ) → IsTrue (is_rdata (Raw kind bytes)) → is_typed kind ≡ false
unfolding is_rdata
other_type kind bytes valid = not-true (is_typed kind) (and_parts (not (is_typed kind)) (has_raw_form kind bytes) valid).0

pub raw_written : (kind : ℕ) (bytes : List ℕ) → IsTrue (is_rdata (Raw kind bytes)) → hex_of (hex_text bytes) ≡ Some bytes → rdata_read kind (hex_text bytes) ≡ Some (Raw kind bytes)
unfolding rdata_read raw_read
raw_written kind bytes valid read =
    let u = untyped kind (other_type kind bytes valid) in
    rw (u.0, u.1, u.2, u.3, u.4, u.5, u.6)
    (then_some (λ b. cond (is_rdata (Raw kind b)) (Some (Raw kind b)) None) (hex_of (hex_text bytes)) bytes read ∙ ap (λ (t : Bool). cond t (Some (Raw kind bytes)) None) valid)

-- what data are written as is read as these data
abbrev pub IsReadBack : Rdata → Type 0
IsReadBack rdata = rdata_read (kind_of rdata) (data_text rdata) ≡ Some rdata

pub back_A : (a : ℕ) → ipv4_of (ipv4_text a) ≡ Some a → IsReadBack (A a)
unfolding rdata_read data_text
back_A a e = ap (option_map (λ x. A x)) e

pub back_Aaaa : (a : ℕ) → ipv6_of (ipv6_text a) ≡ Some a → IsReadBack (Aaaa a)
unfolding rdata_read data_text
back_Aaaa a e = ap (option_map (λ x. Aaaa x)) e

pub back_Ptr : (name : List (List ℕ)) → name_read (name_text name) ≡ Some name → IsReadBack (Ptr name)
unfolding rdata_read data_text
back_Ptr name e = ap (option_map (λ x. Ptr x)) e

pub back_Cname : (name : List (List ℕ)) → name_read (name_text name) ≡ Some name → IsReadBack (Cname name)
unfolding rdata_read data_text
back_Cname name e = ap (option_map (λ x. Cname x)) e

pub back_Srv : (p w o : ℕ) (target : List (List ℕ)) → srv_read (srv_text p w o target) ≡ Some (Srv p w o target) → IsReadBack (Srv p w o target)
unfolding rdata_read data_text
back_Srv p w o target e = e

pub back_Txt : (bytes : List ℕ) → hex_of (hex_text bytes) ≡ Some bytes → IsReadBack (Txt bytes)
unfolding rdata_read data_text
back_Txt bytes e = ap (option_map (λ x. Txt x)) e

pub back_Nsec : (next : List (List ℕ)) (bitmap : List ℕ) → name_read (name_text next) ≡ Some next → hex_of (hex_text bitmap) ≡ Some bitmap → IsReadBack (Nsec next bitmap)
unfolding rdata_read data_text
back_Nsec next bitmap e f = nsec_written next bitmap e f

pub back_Raw : (kind : ℕ) (bytes : List ℕ) → IsTrue (is_rdata (Raw kind bytes)) → hex_of (hex_text bytes) ≡ Some bytes → IsReadBack (Raw kind bytes)
unfolding data_text
back_Raw kind bytes valid e = raw_written kind bytes valid e

-- ---- the record

head_written : (n t f k r : List ℕ) (owner : List (List ℕ)) (ttl : ℕ) (flush : Bool) (kind : ℕ) → lacks 32 n ≡ false → lacks 32 t ≡ false → lacks 32 f ≡ false → lacks 32 k ≡ false
    → name_read n ≡ Some owner → decimal_below (2 ^ 32) t ≡ Some ttl → flush_read f ≡ Some flush → kind_read k ≡ Some kind
    → head_read (n ++ (32 ∷ (t ++ (32 ∷ (f ++ (32 ∷ (k ++ (32 ∷ r)))))))) ≡ Some (owner, ttl, flush, kind, r)
unfolding head_read
head_written n t f k r owner ttl flush kind ln lt lf lk rn rt rf rk =
    then_some _ _ (n, t ++ (32 ∷ (f ++ (32 ∷ (k ++ (32 ∷ r)))))) (cut_of-joined 32 n (t ++ (32 ∷ (f ++ (32 ∷ (k ++ (32 ∷ r)))))) ln)
    ∙ then_some _ _ (t, f ++ (32 ∷ (k ++ (32 ∷ r)))) (cut_of-joined 32 t (f ++ (32 ∷ (k ++ (32 ∷ r)))) lt)
    ∙ then_some _ _ (f, k ++ (32 ∷ r)) (cut_of-joined 32 f (k ++ (32 ∷ r)) lf)
    ∙ then_some _ _ (k, r) (cut_of-joined 32 k r lk)
    ∙ then_some _ _ owner rn
    ∙ then_some _ _ ttl rt
    ∙ then_some _ _ flush rf
    ∙ then_some _ _ kind rk

five : (a b c d e : List ℕ) → a ++ (32 ∷ []) ++ b ++ (32 ∷ []) ++ c ++ (32 ∷ []) ++ d ++ (32 ∷ []) ++ e ≡ a ++ (32 ∷ (b ++ (32 ∷ (c ++ (32 ∷ (d ++ (32 ∷ e)))))))
five a b c d e = simp append_assoc

pub record_written : (rr : Rr) → name_read (name_text rr.owner) ≡ Some rr.owner → rr.ttl < 2 ^ 32 → kind_of rr.rdata < 2 ^ 16 → IsReadBack rr.rdata → record_read (record_text rr) ≡ Some rr
unfolding record_read record_text
record_written rr owner small kind back =
    let n = name_text rr.owner in
    let t = decimal rr.ttl in
    let f = flush_text rr.flush in
    let k = kind_text (kind_of rr.rdata) in
    let r = data_text rr.rdata in
    let head : head_read (n ++ (32 ∷ (t ++ (32 ∷ (f ++ (32 ∷ (k ++ (32 ∷ r)))))))) ≡ Some (rr.owner, rr.ttl, rr.flush, kind_of rr.rdata, r) =
    head_written n t f k r rr.owner rr.ttl rr.flush (kind_of rr.rdata) (name_lacks rr.owner) (decimal_lacks 32 rr.ttl refl (omega arith)) (flush_lacks rr.flush) ((kind_text-is (kind_of rr.rdata)).whole kind)
    owner (decimal_below_written (2 ^ 32) rr.ttl (omega arith) small) (flush_written rr.flush) (kind_written (kind_of rr.rdata) kind) in
    ap record_read (five n t f k r) ∙ then_some _ _ (rr.owner, rr.ttl, rr.flush, kind_of rr.rdata, r) head ∙ then_some _ _ rr.rdata back
