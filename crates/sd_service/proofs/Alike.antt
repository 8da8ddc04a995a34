-- When data are those of an NSEC record: byte by byte of the bitmap, and behind the name.
use Rattle.std.proofs.Common.{◌≡◌, ◌∙◌, Some, ℕ, zero, suc, ◌+◌, ◌-◌, ◌<◌, ◌≤◌, ◌==◌, Bool, false, ◌&&◌, List, ◌++◌, map, length, get_or, refl, sym, ap, arith}
use Rattle.std.specs.Prelude.{◌↔◌, IsTrue}
use Rattle.std.specs.Str.{bytes_eq}
use Rattle.std.proofs.lemmas.Bool.{and_parts, and_from, ne_eqb}
use Rattle.std.proofs.lemmas.List.{length-map, append_cancel_left, append_cancel_right}
use Rattle.std.proofs.lemmas.Slice.Eq.{bytes_eq-Decides}
use Rattle.lists.specs.Lists.{count_up}
use Rattle.dns_name.specs.Names.{wire_of, is_name}
use Rattle.dns_name.proofs.Folding.{same_tests}
use Rattle.dns_record.specs.declared.record.Rdata.{Rdata}
use Rattle.dns_record.specs.declared.record.Rdata.TheVariants.{A, Aaaa, Ptr, Cname, Srv, Txt, Nsec, Raw}
use Rattle.dns_record.specs.Records.{after_name, data_eq}
use Rattle.dns_record.proofs.RawForms.{after_name-is}
use Rattle.mdns_history.specs.Debts.{bitmap_byte, bitmap_of}
use Rattle.sd_service.specs.Bitmaps.{bitmap_size}

length-count_up : (first n : ℕ) → length (count_up first n) ≡ n
length-count_up first zero = refl
length-count_up first (suc n) = ap suc (length-count_up (first + 1) n)

get_or-count_up : (f : ℕ → ℕ) (first n i : ℕ) → i < n → get_or (map f (count_up first n)) i 0 ≡ f (first + i)
get_or-count_up f first zero i h = absurd (omega arith)
get_or-count_up f first (suc n) zero h = let at : first ≡ first + 0 = omega arith in ap f at
get_or-count_up f first (suc n) (suc i) h =
    let at : (first + 1) + i ≡ first + suc i = omega arith in
    get_or-count_up f (first + 1) n i (omega arith) ∙ ap f at

pub length-bitmap_of : (kinds : List ℕ) → length (bitmap_of kinds) ≡ bitmap_size kinds + 2
length-bitmap_of kinds = let types : length (map (bitmap_byte kinds) (count_up 0 (bitmap_size kinds))) ≡ bitmap_size kinds = length-map (count_up 0 (bitmap_size kinds)) (bitmap_byte kinds) ∙ length-count_up 0 (bitmap_size kinds) in
    omega (arith, types)

-- the bytes behind the first two are those of the types
pub get_or-bitmap_of : (kinds : List ℕ) (place : ℕ) → 2 ≤ place → place < bitmap_size kinds + 2 → get_or (bitmap_of kinds) place 0 ≡ bitmap_byte kinds (place - 2)
get_or-bitmap_of kinds zero h k = absurd (omega arith)
get_or-bitmap_of kinds (suc zero) h k = absurd (omega arith)
get_or-bitmap_of kinds (suc (suc place)) h k =
    let at : 0 + place ≡ suc (suc place) - 2 = omega arith in
    get_or-count_up (bitmap_byte kinds) 0 (bitmap_size kinds) place (omega arith) ∙ ap (bitmap_byte kinds) at

some_one : {X : Type 0} (x y : X) → Some x ≡ Some y → x ≡ y
some_one x y e = cc

-- two names with something behind them are one where the names are, and what is behind them
wire_split : (left right : List (List ℕ)) (more rest : List ℕ) → IsTrue (is_name left) → IsTrue (is_name right) → wire_of left ++ more ≡ wire_of right ++ rest → (wire_of left ≡ wire_of right) × (more ≡ rest)
wire_split left right more rest h k e =
    let behind : more ≡ rest = some_one more rest (sym (after_name-is left more h) ∙ ap after_name e ∙ after_name-is right rest k) in
    (append_cancel_right (wire_of left) (wire_of right) rest (ap (λ (l : List ℕ). wire_of left ++ l) (sym behind) ∙ e), behind)

pub nsec_alike : (next name : List (List ℕ)) (bits bitmap : List ℕ) (r s : Bool) → IsTrue (is_name next) → IsTrue (is_name name) → IsTrue r ↔ (wire_of next ≡ wire_of name) → IsTrue s ↔ (bits ≡ bitmap) →
    (r && s) ≡ data_eq (Nsec next bits) (Nsec name bitmap)
unfolding data_eq
nsec_alike next name bits bitmap r s h k names bytes =
    let decides = bytes_eq-Decides (wire_of next ++ bits) (wire_of name ++ bitmap) in
    same_tests (r && s) (bytes_eq (wire_of next ++ bits) (wire_of name ++ bitmap))
    (λ yes. let parts = and_parts r s yes in decides.1 (λ i. names.0 parts.0 i ++ bytes.0 parts.1 i))
    (λ yes. let parts = wire_split next name bits bitmap h k (decides.0 yes) in and_from r s (names.1 parts.0) (bytes.1 parts.1))

pub raw_alike : (kind : ℕ) (bytes bitmap : List ℕ) (name : List (List ℕ)) (r : Bool) → IsTrue r ↔ (bytes ≡ wire_of name ++ bitmap) → ((kind == 47) && r) ≡ data_eq (Raw kind bytes) (Nsec name bitmap)
unfolding data_eq
raw_alike kind bytes bitmap name r tells =
    let decides = bytes_eq-Decides bytes (wire_of name ++ bitmap) in
    ap (λ (b : Bool). (kind == 47) && b) (same_tests r (bytes_eq bytes (wire_of name ++ bitmap)) (λ yes. decides.1 (tells.0 yes)) (λ yes. tells.1 (decides.0 yes)))

-- data with another name, of another type, or of any other variant
pub nsec_apart : (next name : List (List ℕ)) (bits bitmap : List ℕ) (r : Bool) → IsTrue (is_name next) → IsTrue (is_name name) → IsTrue r ↔ (wire_of next ≡ wire_of name) → r ≡ false → r ≡ data_eq (Nsec next bits) (Nsec name bitmap)
nsec_apart next name bits bitmap r h k names apart =
    apart ∙ sym (ap (λ (b : Bool). b && bytes_eq bits bitmap) apart) ∙ nsec_alike next name bits bitmap r (bytes_eq bits bitmap) h k names (bytes_eq-Decides bits bitmap)

pub raw_apart : (kind : ℕ) (bytes bitmap : List ℕ) (name : List (List ℕ)) → (kind ≡ 47 → ⊥) → (kind == 47) ≡ data_eq (Raw kind bytes) (Nsec name bitmap)
unfolding data_eq
raw_apart kind bytes bitmap name apart = let e : (kind == 47) ≡ false = ne_eqb kind 47 apart in e ∙ sym (ap (λ (b : Bool). b && bytes_eq bytes (wire_of name ++ bitmap)) e)

pub others_apart : (rdata : Rdata) (name : List (List ℕ)) (bitmap : List ℕ) → ((next : List (List ℕ)) (bits : List ℕ) → rdata ≡ Nsec next bits → ⊥) → ((kind : ℕ) (bytes : List ℕ) → rdata ≡ Raw kind bytes → ⊥) →
    false ≡ data_eq rdata (Nsec name bitmap)
unfolding data_eq
others_apart (A address) name bitmap no_nsec no_raw = refl
others_apart (Aaaa address) name bitmap no_nsec no_raw = refl
others_apart (Ptr target) name bitmap no_nsec no_raw = refl
others_apart (Cname target) name bitmap no_nsec no_raw = refl
others_apart (Srv priority weight port target) name bitmap no_nsec no_raw = refl
others_apart (Txt bytes) name bitmap no_nsec no_raw = refl
others_apart (Nsec next bits) name bitmap no_nsec no_raw = absurd (no_nsec next bits refl)
others_apart (Raw kind bytes) name bitmap no_nsec no_raw = absurd (no_raw kind bytes refl)

-- what the comparison of two wire forms says
pub wires_told : (left right : List (List ℕ)) (wire other : List ℕ) (r : Bool) → wire ≡ wire_of left → other ≡ wire_of right → r ≡ bytes_eq wire other → IsTrue r ↔ (wire_of left ≡ wire_of right)
wires_told left right wire other r e f is =
    let decides = bytes_eq-Decides (wire_of left) (wire_of right) in
    let test : r ≡ bytes_eq (wire_of left) (wire_of right) = is ∙ (λ i. bytes_eq (e i) (f i)) in
    (λ yes. decides.0 (sym test ∙ yes), λ same. test ∙ decides.1 same)

-- what the comparison of what is behind a name says
pub behind_told : (bytes wire rest bitmap : List ℕ) (name : List (List ℕ)) (r : Bool) → bytes ≡ wire ++ rest → wire ≡ wire_of name → IsTrue r ↔ (rest ≡ bitmap) → IsTrue r ↔ (bytes ≡ wire_of name ++ bitmap)
behind_told bytes wire rest bitmap name r parts is tells =
    let all : bytes ≡ wire_of name ++ rest = parts ∙ ap (λ (w : List ℕ). w ++ rest) is in
    (λ yes. all ∙ ap (λ (l : List ℕ). wire_of name ++ l) (tells.0 yes), λ same. tells.1 (append_cancel_left (wire_of name) rest bitmap (sym all ∙ same)))
