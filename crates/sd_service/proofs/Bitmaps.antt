-- Bitmaps of types: their bytes fit, and one byte more is one number more.
use Rattle.std.proofs.Common.{◌≡◌, ◌∙◌, ⊎_elim, ℕ, zero, suc, ◌+◌, ◌<◌, ◌≤◌, ◌==◌, nat_lt, Bool, true, false, List, [], ◌∷◌, ◌++◌, map, length, get_or, take, max, fold, Option, Some, None, if◌then◌else◌, refl, sym, ap, subst, arith, add-one, add-zero}
use Rattle.std.specs.Prelude.{IsTrue}
use Rattle.std.specs.List.{list_all, flat_map}
use Rattle.std.specs.Option.{option_to_list, option_and_then}
use Rattle.std.proofs.lemmas.List.{map-append}
use Rattle.std.proofs.lemmas.Bool.{and_parts, cases_eq, ltb-true}
use Rattle.lists.specs.Lists.{count_up}
use Rattle.dns_record.specs.declared.record.Rdata.TheVariants.{A, Aaaa}
use Rattle.dns_record.specs.declared.record.Rr.{Rr}
use Rattle.dns_record.specs.Records.{kind_of}
use Rattle.mdns_history.specs.declared.config.Config.{Config}
use Rattle.mdns_history.specs.declared.config.HostConfig.{HostConfig}
use Rattle.mdns_history.specs.History.{config_of}
use Rattle.mdns_history.specs.Sessions.{present_txt}
use Rattle.mdns_history.specs.Debts.{bit_of_type, bitmap_byte}
use Rattle.mdns_history.specs.Groups.{group_name, host_name, host_ttl, unique_record, address_records, service_unique, unique_records}
use Rattle.sd_service.specs.Bitmaps.{kinds_of, bitmap_size, have_bitmap, UniqueHaveBitmap}

-- the worths of the types of records in a byte, added to a start
abbrev summed : ℕ → List Rr → ℕ → ℕ
summed start rrs n = fold (λ a x. a + bit_of_type n x) start (kinds_of rrs)

le_through : (a b c : ℕ) → a + b ≤ c → a ≤ c
le_through a b c h = omega arith

grows : (rrs : List Rr) (start n : ℕ) → start ≤ summed start rrs n
grows [] start n = omega arith
grows (rr ∷ rrs) start n = le_through start (bit_of_type n (kind_of rr.rdata)) (summed (start + bit_of_type n (kind_of rr.rdata)) rrs n) (grows rrs (start + bit_of_type n (kind_of rr.rdata)) n)

below : (rrs : List Rr) (i : ℕ) (one : Rr) (start n : ℕ) → i < length rrs → one ≡ get_or rrs i one → summed start (take i rrs) n + bit_of_type n (kind_of one.rdata) ≤ summed start rrs n
below [] i one start n h is = absurd (omega arith)
below (rr ∷ rrs) zero one start n h is =
    subst (λ (r : Rr). start + bit_of_type n (kind_of r.rdata) ≤ summed (start + bit_of_type n (kind_of rr.rdata)) rrs n) (sym is) (grows rrs (start + bit_of_type n (kind_of rr.rdata)) n)
below (rr ∷ rrs) (suc i) one start n h is = below rrs i one (start + bit_of_type n (kind_of rr.rdata)) n (let k : suc i < suc (length rrs) = h in omega arith) is

-- the types up to one of the records sum up to no more than all do
pub byte_below : (rrs : List Rr) (i : ℕ) (one : Rr) (n : ℕ) → i < length rrs → one ≡ get_or rrs i one → bitmap_byte (kinds_of (take i rrs)) n + bit_of_type n (kind_of one.rdata) ≤ bitmap_byte (kinds_of rrs) n
byte_below rrs i one n h is = below rrs i one 0 n h is

count_suc : (first n : ℕ) → count_up first (suc n) ≡ count_up first n ++ (first + n) ∷ []
count_suc first zero = ap (λ (k : ℕ). k ∷ []) (sym (add-zero first))
count_suc first (suc n) =
    let at : (first + 1) + n ≡ first + suc n = omega arith in
    ap (λ (l : List ℕ). first ∷ l) (count_suc (first + 1) n ∙ ap (λ (k : ℕ). count_up (first + 1) n ++ k ∷ []) at)

-- one byte more
pub bytes_more : (f : ℕ → ℕ) (n : ℕ) → map f (count_up 0 (n + 1)) ≡ map f (count_up 0 n) ++ f n ∷ []
bytes_more f n =
    let at : 0 + n ≡ n = omega arith in
    rw add-one (ap (map f) (count_suc 0 n ∙ ap (λ (k : ℕ). count_up 0 n ++ k ∷ []) at) ∙ map-append f (count_up 0 n) (n ∷ []))

-- what all numbers of a count pass
count_all : (p : ℕ → Bool) (first many n : ℕ) → list_all p (count_up first many) ≡ true → first ≤ n → n < first + many → p n ≡ true
count_all p first zero n h low high = absurd (omega arith)
count_all p first (suc many) n h low high =
    let parts = and_parts (p first) (list_all p (count_up (first + 1) many)) h in
    ⊎_elim (λ e. ap p e ∙ parts.0) (λ apart. count_all p (first + 1) many n parts.1 (omega (arith, apart)) (omega arith)) (cases_eq n first)

-- each byte fits, and so does the length
pub byte_fits : (rrs : List Rr) (n : ℕ) → IsTrue (have_bitmap rrs) → n < bitmap_size (kinds_of rrs) → bitmap_byte (kinds_of rrs) n < 256
byte_fits rrs n fits h =
    let parts = and_parts (nat_lt (fold max 0 (kinds_of rrs)) 256) (list_all (λ k. nat_lt (bitmap_byte (kinds_of rrs) k) 256) (count_up 0 (bitmap_size (kinds_of rrs)))) fits in
    ltb-true (bitmap_byte (kinds_of rrs) n) 256 (count_all (λ k. nat_lt (bitmap_byte (kinds_of rrs) k) 256) 0 (bitmap_size (kinds_of rrs)) n parts.1 (omega arith) (omega (arith, h)))

pub kinds_fit : (rrs : List Rr) → IsTrue (have_bitmap rrs) → fold max 0 (kinds_of rrs) < 256
kinds_fit rrs fits = ltb-true (fold max 0 (kinds_of rrs)) 256 (and_parts (nat_lt (fold max 0 (kinds_of rrs)) 256) (list_all (λ k. nat_lt (bitmap_byte (kinds_of rrs) k) 256) (count_up 0 (bitmap_size (kinds_of rrs)))) fits).0

-- The unique records of a host and of a service have types that stand in a bitmap.
pub unique_have_bitmap : UniqueHaveBitmap
unfolding unique_records
unique_have_bitmap group history = choose (group.id == 0)
  where
    addresses : (name : List (List ℕ)) (address : ℕ) (v6 : Option ℕ) → have_bitmap ((unique_record name host_ttl (A address) ∷ map (λ (a : ℕ). unique_record name host_ttl (Aaaa a)) (option_to_list v6)) ++ []) ≡ true
    addresses name address None = refl
    addresses name address (Some v6) = refl

    hosts : (name : List (List ℕ)) (config : Option Config) → have_bitmap (flat_map (address_records name) (option_to_list config)) ≡ true
    hosts name None = refl
    hosts name (Some config) = addresses name config.address (option_and_then (λ (host : HostConfig). host.v6) config.host)

    choose : (b : Bool) → have_bitmap (if b then flat_map (address_records (group_name group history)) (option_to_list (config_of history)) else service_unique (group_name group history) group.port (present_txt group.session group.op history) (host_name history)) ≡ true
    choose true = hosts (group_name group history) (config_of history)
    choose false = refl
