-- No fault behind the test of the length says that the message is too long.
use Rattle.std.proofs.Common.{◌≡◌, ◌-◌, ◌||◌, not, eqb, leb, ◌≤◌, ◌∙◌, sym, inl, inr, length, ℕ, zero, suc, ◌+◌, Bool, true, false, cond, List, Option, Some, None, Result, Ok, Err}
use Rattle.std.specs.List.{slice_range}
use Rattle.std.proofs.lemmas.Bool.{le-leb}
use Rattle.dns_record.specs.declared.record.Rdata.TheVariants.{A, Aaaa, Ptr, Cname, Txt, Raw}
use Rattle.dns_pointers.specs.declared.fault.NameFault.{NameFault}
use Rattle.dns_pointers.specs.declared.fault.NameFault.TheVariants as name_fault
use Rattle.dns_message.specs.declared.message.Message.{Message}
use Rattle.dns_message.specs.declared.message.MessageError.{MessageError}
use Rattle.dns_message.specs.declared.message.MessageError.TheVariants.{Truncated, BadRdata, TooLong}
use Rattle.dns_pointers.specs.Reading.{◌>>=◌, NameAt, name_at, u16_in, u32_in, u128_in}
use Rattle.dns_message.specs.Reading.{holds_or, message_fault, of_name, name_within, name_up_to, srv_at, ns_at, nsec_at, class_in, top_bit_in, mx_at, soa_at, rdata_at, data_end_at, record_at, question_at, all_at, sections_at, spelled, IsReadAs}

-- the result is no fault of length
pub record IsOther {X : Type 0} (result : Result X MessageError) : Type 0 where
  pub never : result ≡ Err TooLong → ⊥

ok : {X : Type 0} (x : X) → IsOther (Ok x)
ok x = record { never = λ e. cc }

err : {X : Type 0} (fault : MessageError) → (fault ≡ TooLong → ⊥) → IsOther {X = X} (Err fault)
err fault h = record { never = λ e. h (cc) }

next : {X Y : Type 0} (r : Result X MessageError) (k : X → Result Y MessageError) → IsOther r → ((x : X) → IsOther (k x)) → IsOther (r >>= k)
next (Ok x) k h f = f x
next {X} (Err fault) k h f = record { never = λ e. let same : fault ≡ TooLong = cc in h.never (ap_err same) }
  where
    ap_err : fault ≡ TooLong → ◌≡◌ {A = Result X MessageError} (Err fault) (Err TooLong)
    ap_err e = cc

either : {X : Type 0} (b : Bool) (x y : Result X MessageError) → IsOther x → IsOther y → IsOther (cond b x y)
either true x y h k = h
either false x y h k = k

test : (b : Bool) (fault : MessageError) → (fault ≡ TooLong → ⊥) → IsOther (holds_or b fault)
test true fault h = ok tt
test false fault h = err fault h

-- a name has no fault of length
of_fault : (fault : NameFault) → message_fault fault ≡ TooLong → ⊥
of_fault name_fault.Truncated e = cc
of_fault name_fault.BadPointer e = cc
of_fault name_fault.BadLabel e = cc
of_fault name_fault.LongName e = cc

name : (bytes : List ℕ) (at : ℕ) → IsOther (of_name (name_at bytes at))
name bytes at = part (name_at bytes at)
  where
    part : (r : Result NameAt NameFault) → IsOther (of_name r)
    part (Ok n) = ok n
    part (Err fault) = err (message_fault fault) (of_fault fault)

inner : (bytes : List ℕ) (at stop : ℕ) → IsOther (name_within bytes at stop)
unfolding name_within
inner bytes at stop = next _ _ (name bytes at) (λ n. next _ _ (test _ BadRdata (λ e. cc)) (λ u. ok _))

last : (bytes : List ℕ) (at stop : ℕ) → IsOther (name_up_to bytes at stop)
unfolding name_up_to
last bytes at stop = next _ _ (name bytes at) (λ n. next _ _ (test _ BadRdata (λ e. cc)) (λ u. ok _))

srv : (bytes : List ℕ) (at stop : ℕ) → IsOther (srv_at bytes at stop)
unfolding srv_at
srv bytes at stop = next _ _ (test _ BadRdata (λ e. cc)) (λ u. next _ _ (last bytes (at + 6) stop) (λ n. ok _))

ns : (bytes : List ℕ) (at stop : ℕ) → IsOther (ns_at bytes at stop)
unfolding ns_at
ns bytes at stop = next _ _ (last bytes at stop) (λ n. ok _)

nsec : (bytes : List ℕ) (at stop : ℕ) → IsOther (nsec_at bytes at stop)
unfolding nsec_at
nsec bytes at stop = next _ _ (inner bytes at stop) (λ n. ok _)

mx : (bytes : List ℕ) (at stop : ℕ) → IsOther (mx_at bytes at stop)
unfolding mx_at
mx bytes at stop = next _ _ (test _ BadRdata (λ e. cc)) (λ u. next _ _ (last bytes (at + 2) stop) (λ n. ok _))

soa : (bytes : List ℕ) (at stop : ℕ) → IsOther (soa_at bytes at stop)
unfolding soa_at
soa bytes at stop = next _ _ (inner bytes at stop) (λ f. next _ _ (inner bytes f.1 stop) (λ s. next _ _ (test _ BadRdata (λ e. cc)) (λ u. ok _)))

rdata : (bytes : List ℕ) (kind at stop : ℕ) → IsOther (rdata_at bytes kind at stop)
unfolding rdata_at
rdata bytes kind at stop =
    either (eqb kind 1) _ _ (next _ _ (test (eqb (stop - at) 4) BadRdata (λ e. cc)) (λ u. ok (A (u32_in bytes at))))
    (either (eqb kind 28) _ _ (next _ _ (test (eqb (stop - at) 16) BadRdata (λ e. cc)) (λ u. ok (Aaaa (u128_in bytes at))))
    (either (eqb kind 12) _ _ (next _ _ (last bytes at stop) (λ n. ok (Ptr n)))
    (either (eqb kind 5) _ _ (next _ _ (last bytes at stop) (λ n. ok (Cname n)))
    (either (eqb kind 33) _ _ (srv bytes at stop)
    (either (eqb kind 47) _ _ (nsec bytes at stop)
    (either (eqb kind 2) _ _ (ns bytes at stop)
    (either (eqb kind 15) _ _ (mx bytes at stop)
    (either (eqb kind 6) _ _ (soa bytes at stop)
    (either (eqb kind 16) _ _ (ok (Txt (slice_range bytes at stop))) (ok (Raw kind (slice_range bytes at stop))))))))))))

data_end : (bytes : List ℕ) (fields : ℕ) → IsOther (data_end_at bytes fields)
data_end bytes fields =
    next _ _ (test (leb (fields + 10) (length bytes)) Truncated (λ e. cc)) (λ u. next _ _ (test (leb (fields + 10 + u16_in bytes (fields + 8)) (length bytes)) Truncated (λ e. cc)) (λ v. ok _))

rr : (bytes : List ℕ) (at : ℕ) → IsOther (record_at bytes at)
unfolding record_at
rr bytes at =
    next _ _ (name bytes at) (λ owner. next _ _ (data_end bytes owner.1)
    (λ stop. either (eqb (u16_in bytes owner.1) 41 || not (eqb (class_in bytes (owner.1 + 2)) 1)) _ _ (ok (None, stop))
    (next _ _ (rdata bytes (u16_in bytes owner.1) (owner.1 + 10) stop) (λ r.
    ok (Some (record { owner = owner.0; flush = top_bit_in bytes (owner.1 + 2); ttl = u32_in bytes (owner.1 + 4); rdata = r }), stop)))))

question : (bytes : List ℕ) (at : ℕ) → IsOther (question_at bytes at)
unfolding question_at
question bytes at =
    next _ _ (name bytes at) (λ n. next _ _ (test (leb (n.1 + 4) (length bytes)) Truncated (λ e. cc)) (λ u.
    either (eqb (class_in bytes (n.1 + 2)) 1 || eqb (class_in bytes (n.1 + 2)) 255) _ _
    (ok (Some (record { name = n.0; kind = u16_in bytes n.1; unicast = top_bit_in bytes (n.1 + 2) }), n.1 + 4)) (ok (None, n.1 + 4))))

all : {X : Type 0} (thing_at : ℕ → Result (Option X × ℕ) MessageError) → ((at : ℕ) → IsOther (thing_at at)) → (more at : ℕ) → IsOther (all_at thing_at more at)
unfolding all_at
all thing_at h zero at = ok _
all thing_at h (suc more) at = next _ _ (h at) (λ first. next _ _ (all thing_at h more first.1) (λ rest. ok _))

sections : (bytes : List ℕ) → IsOther (sections_at bytes)
unfolding sections_at
sections bytes =
    next _ _ (all _ (question bytes) _ 12) (λ questions. next _ _ (all _ (rr bytes) _ questions.1) (λ answers.
    next _ _ (all _ (rr bytes) _ answers.1) (λ authority. next _ _ (all _ (rr bytes) _ authority.1) (λ additional. ok _))))

-- a message that is not too long has no fault of length
spelled_short : (bytes : List ℕ) → length bytes ≤ 8972 → IsOther (spelled bytes)
unfolding spelled
spelled_short bytes h = rw (le-leb (length bytes) 8972 h) (next _ _ (test _ Truncated (λ e. cc)) (λ u. next _ _ (sections bytes) (λ parts. ok _)))

pub is_other_read : (result : Result Message MessageError) (bytes : List ℕ) → length bytes ≤ 8972 → IsReadAs result (spelled bytes) → result ≡ Err TooLong → ⊥
is_other_read result bytes h (inl e) long = cc
is_other_read result bytes h (inr e) long = (spelled_short bytes h).never (sym e ∙ long)
