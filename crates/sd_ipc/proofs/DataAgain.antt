-- The data of records are read again.
use Rattle.std.proofs.Common.{◌≡◌, ℕ, ◌<◌, ◌^◌, ◌++◌, ◌∙◌, ◌&&◌, ◌||◌, not, eqb, Bool, true, false, List, Ok, refl, ap, append_assoc}
use Rattle.std.specs.Prelude.{IsTrue}
use Rattle.std.specs.Int.{to_be_bytes, w16, w32, w128}
use Rattle.std.proofs.lemmas.Bool.{false≢true, and_parts, not-true}
use Rattle.std.proofs.lemmas.Nat.{from_be_bytes-to_be_bytes_4}
use Rattle.dns_name.specs.Names.{wire_of}
use Rattle.dns_record.specs.Records.{is_rdata, has_raw_form}
use Rattle.dns_record.specs.declared.record.Rdata.TheVariants.{A, Aaaa, Ptr, Cname, Srv, Txt, Nsec, Raw}
use Rattle.sd_ipc.specs.Parts.{Part, u16_part, name_part}
use Rattle.sd_ipc.specs.Reading.{a_of, aaaa_of, last_name_of, srv_of, nsec_of, raw_of, rdata_of}
use Rattle.sd_ipc.specs.Again.{ReadsNumber, ReadsName, IsData}
use Rattle.sd_ipc.proofs.Numbers.{from_be_bytes-to_be_bytes_16}
use Rattle.sd_ipc.proofs.Chains.{at_end}

abbrev Reads : {X : Type 0} → (List ℕ → Part X) → List ℕ → X → Type 0
Reads part bytes x = (more : List ℕ) → part (bytes ++ more) ≡ Ok (x, more)

pub last_name_again : (name : List (List ℕ)) (n : List ℕ) → Reads name_part n name → last_name_of n ≡ Ok name
unfolding last_name_of
last_name_again name n reads_n = rw (at_end name_part n name reads_n) refl

pub a_data : (address : ℕ) (out : List ℕ) → address < 2 ^ 32 → out ≡ to_be_bytes w32 address → IsData (A address) out
unfolding rdata_of a_of
a_data address out fits e = record {
  data_bytes = e;
  again = λ _. ap a_of e ∙ ap (λ (n : ℕ). Ok (A n)) (from_be_bytes-to_be_bytes_4 address fits);
}

pub aaaa_data : (address : ℕ) (out : List ℕ) → address < 2 ^ 128 → out ≡ to_be_bytes w128 address → IsData (Aaaa address) out
unfolding rdata_of aaaa_of
aaaa_data address out fits e = record {
  data_bytes = e;
  again = λ _. ap aaaa_of e ∙ ap (λ (n : ℕ). Ok (Aaaa n)) (from_be_bytes-to_be_bytes_16 address fits);
}

pub ptr_data : (name : List (List ℕ)) (out : List ℕ) → out ≡ wire_of name → ReadsName name → IsData (Ptr name) out
unfolding rdata_of
ptr_data name out e n = record { data_bytes = e; again = λ _. rw (ap last_name_of e ∙ last_name_again name (wire_of name) n.again) refl }

pub cname_data : (name : List (List ℕ)) (out : List ℕ) → out ≡ wire_of name → ReadsName name → IsData (Cname name) out
unfolding rdata_of
cname_data name out e n = record { data_bytes = e; again = λ _. rw (ap last_name_of e ∙ last_name_again name (wire_of name) n.again) refl }

srv_again : (priority weight port : ℕ) (target : List (List ℕ)) (p w q n : List ℕ) → Reads u16_part p priority → Reads u16_part w weight → Reads u16_part q port → Reads name_part n target
    → srv_of (p ++ (w ++ (q ++ n))) ≡ Ok (Srv priority weight port target)
unfolding srv_of
srv_again priority weight port target p w q n reads_p reads_w reads_q reads_n =
    rw (reads_p (w ++ (q ++ n)), reads_w (q ++ n), reads_q n, last_name_again target n reads_n) refl

regrouped : (p w q n : List ℕ) → ((p ++ w) ++ q) ++ n ≡ p ++ (w ++ (q ++ n))
regrouped p w q n = simp append_assoc

pub srv_data : (priority weight port : ℕ) (target : List (List ℕ)) (out : List ℕ) → out ≡ ((to_be_bytes w16 priority ++ to_be_bytes w16 weight) ++ to_be_bytes w16 port) ++ wire_of target
    → ReadsNumber priority → ReadsNumber weight → ReadsNumber port → ReadsName target → IsData (Srv priority weight port target) out
unfolding rdata_of
srv_data priority weight port target out e p w q n = record {
  data_bytes = e;
  again = λ _. ap srv_of (e ∙ regrouped (to_be_bytes w16 priority) (to_be_bytes w16 weight) (to_be_bytes w16 port) (wire_of target))
      ∙ srv_again priority weight port target (to_be_bytes w16 priority) (to_be_bytes w16 weight) (to_be_bytes w16 port) (wire_of target) p.again w.again q.again n.again;
}

pub txt_data : (bytes out : List ℕ) → out ≡ bytes → IsData (Txt bytes) out
unfolding rdata_of
txt_data bytes out e = record { data_bytes = e; again = λ _. ap (λ (l : List ℕ). Ok (Txt l)) e }

pub nsec_data : (next : List (List ℕ)) (bitmap out : List ℕ) → out ≡ wire_of next ++ bitmap → ReadsName next → IsData (Nsec next bitmap) out
unfolding rdata_of nsec_of
nsec_data next bitmap out e n = record { data_bytes = e; again = λ _. rw (ap name_part e ∙ n.again bitmap) refl }

not_or : (x y : Bool) → not (x || y) ≡ true → (not x ≡ true) × (y ≡ false)
not_or true y h = absurd (false≢true h)
not_or false true h = absurd (false≢true h)
not_or false false h = (refl, refl)

-- eight tests that fail
record Apart (a b c d e f g : Bool) : Type 0 where
  first : a ≡ false
  second : b ≡ false
  third : c ≡ false
  fourth : d ≡ false
  fifth : e ≡ false
  sixth : f ≡ false
  seventh : g ≡ false

apart : (a b c d e f g h r : Bool) → (not (((((((a || b) || c) || d) || e) || f) || g) || h) && r) ≡ true → Apart a b c d e f g
apart a b c d e f g h r k =
    let s8 = not_or (((((((a || b) || c) || d) || e) || f) || g)) h (and_parts (not (((((((a || b) || c) || d) || e) || f) || g) || h)) r k).0 in
    let s7 = not_or ((((((a || b) || c) || d) || e) || f)) g s8.0 in
    let s6 = not_or (((((a || b) || c) || d) || e)) f s7.0 in
    let s5 = not_or ((((a || b) || c) || d)) e s6.0 in
    let s4 = not_or (((a || b) || c)) d s5.0 in
    let s3 = not_or ((a || b)) c s4.0 in
    let s2 = not_or a b s3.0 in
    record { first = not-true a s2.0; second = s2.1; third = s3.1; fourth = s4.1; fifth = s5.1; sixth = s6.1; seventh = s7.1 }

raw_is : (kind : ℕ) (bytes : List ℕ) → is_rdata (Raw kind bytes) ≡ true → raw_of kind bytes ≡ Ok (Raw kind bytes)
unfolding raw_of
raw_is kind bytes h = rw h refl

-- Data of another type are told from those of the types with a variant.
raw_again : (kind : ℕ) (bytes : List ℕ) → IsTrue (is_rdata (Raw kind bytes)) → rdata_of kind bytes ≡ Ok (Raw kind bytes)
unfolding rdata_of is_rdata
raw_again kind bytes h =
    let t = apart (eqb kind 1) (eqb kind 5) (eqb kind 12) (eqb kind 16) (eqb kind 28) (eqb kind 33) (eqb kind 47) (eqb kind 41) (has_raw_form kind bytes) h in
    rw (t.first, t.fifth, t.third, t.second, t.sixth, t.fourth, t.seventh) (raw_is kind bytes h)

pub raw_data : (kind : ℕ) (bytes out : List ℕ) → out ≡ bytes → IsData (Raw kind bytes) out
raw_data kind bytes out e = record { data_bytes = e; again = λ h. ap (rdata_of kind) e ∙ raw_again kind bytes h }
