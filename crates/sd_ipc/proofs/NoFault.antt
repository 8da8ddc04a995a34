-- What bytes spell is never a failure of the source.
use Rattle.std.proofs.Common.{◌≡◌, inl, inr, ℕ, Bool, true, false, cond, eqb, List, [], ◌∷◌, Option, Some, None, Result, Ok, Err}
use Rattle.dns_record.specs.Records.{after_name}
use Rattle.dns_record.specs.declared.record.Rdata.TheVariants.{Ptr, Cname, Txt}
use Rattle.sd_call.specs.declared.request.Request.TheVariants as request
use Rattle.sd_call.specs.declared.request.Verb.TheVariants.{Start, Update, Stop}
use Rattle.sd_call.specs.declared.answer.Answer.TheVariants.{Found, Named, Conflict}
use Rattle.sd_call.specs.declared.item.Item.TheVariants.{Add, Remove}
use Rattle.sd_ipc.specs.declared.error.FrameError.{FrameError}
use Rattle.sd_ipc.specs.declared.error.FrameError.TheVariants.{BadKind, BadBody, ReadFault, NoMemory}
use Rattle.sd_ipc.specs.Parts.{◌>>=◌, IsReadAs, byte_part, u16_part, u32_part, bytes_part, counted_part, text_part, txt_part, name_part, named, ended}
use Rattle.sd_ipc.specs.Reading.{query_of, browse_of, resolve_of, address_of, norename_of, register_of, update_of, request_of, a_of, aaaa_of, last_name_of, srv_of, nsec_of, raw_of, rdata_of, datum_of, resolved_of, tagged_of, answer_of, verb_of, reply_of, item_of, framed_request, framed_item}

-- the result isn't a failure of the source
pub record NoFault {X : Type 0} (result : Result X FrameError) : Type 0 where
  pub never : result ≡ Err ReadFault → ⊥

ok : {X : Type 0} (x : X) → NoFault (Ok x)
ok x = record { never = λ e. cc }

body : {X : Type 0} → NoFault {X = X} (Err BadBody)
body {X} = record { never = λ e. cc }

kind : {X : Type 0} → NoFault {X = X} (Err BadKind)
kind {X} = record { never = λ e. cc }

next : {X Y : Type 0} (r : Result X FrameError) (k : X → Result Y FrameError) → NoFault r → ((x : X) → NoFault (k x)) → NoFault (r >>= k)
next (Ok x) k h f = f x
next {X} (Err fault) k h f = record { never = λ e. let same : fault ≡ ReadFault = cc in h.never (back same) }
  where
    back : fault ≡ ReadFault → ◌≡◌ {A = Result X FrameError} (Err fault) (Err ReadFault)
    back e = cc

either : {X : Type 0} (b : Bool) (x y : Result X FrameError) → NoFault x → NoFault y → NoFault (cond b x y)
either true x y h k = h
either false x y h k = k

one_byte : (bytes : List ℕ) → NoFault (byte_part bytes)
one_byte [] = body
one_byte (b ∷ bytes) = ok _

two : (bytes : List ℕ) → NoFault (u16_part bytes)
unfolding u16_part
two bytes = either _ _ _ (ok _) body

four : (bytes : List ℕ) → NoFault (u32_part bytes)
unfolding u32_part
four bytes = either _ _ _ (ok _) body

some_bytes : (most size : ℕ) (bytes : List ℕ) → NoFault (bytes_part most size bytes)
unfolding bytes_part
some_bytes most size bytes = either _ _ _ (ok _) body

behind_count : (most : ℕ) (bytes : List ℕ) → NoFault (counted_part most bytes)
unfolding counted_part
behind_count most bytes = next _ _ (two bytes) (λ size. some_bytes most size.0 size.1)

text : (bytes : List ℕ) → NoFault (text_part bytes)
unfolding text_part
text bytes = next _ _ (behind_count 1024 bytes) (λ t. either _ _ _ (ok _) body)

txt : (bytes : List ℕ) → NoFault (txt_part bytes)
unfolding txt_part
txt bytes = behind_count 8192 bytes

name : (bytes : List ℕ) → NoFault (name_part bytes)
unfolding name_part
name bytes = at_rest (after_name bytes)
  where
    at_rest : (rest : Option (List ℕ)) → NoFault (named bytes rest)
    at_rest None = body
    at_rest (Some rest) = ok _

end : (bytes : List ℕ) → NoFault (ended bytes)
end [] = ok _
end (b ∷ bytes) = body

query : (bytes : List ℕ) → NoFault (query_of bytes)
unfolding query_of
query bytes = next _ _ (two bytes) (λ k. next _ _ (name k.1) (λ n. next _ _ (end n.1) (λ u. ok _)))

browse : (bytes : List ℕ) → NoFault (browse_of bytes)
unfolding browse_of
browse bytes = next _ _ (text bytes) (λ t. next _ _ (end t.1) (λ u. ok _))

resolve : (bytes : List ℕ) → NoFault (resolve_of bytes)
unfolding resolve_of
resolve bytes = next _ _ (text bytes) (λ l. next _ _ (text l.1) (λ t. next _ _ (end t.1) (λ u. ok _)))

address : (bytes : List ℕ) → NoFault (address_of bytes)
unfolding address_of
address bytes = next _ _ (one_byte bytes) (λ f. next _ _ (name f.1) (λ n. next _ _ (end n.1) (λ u. ok _)))

flags : (number : ℕ) → NoFault (norename_of number)
flags number = either (eqb number 0) _ _ (ok false) (either (eqb number 8) _ _ (ok true) body)

register : (bytes : List ℕ) → NoFault (register_of bytes)
unfolding register_of
register bytes =
    next _ _ (one_byte bytes) (λ f. next (norename_of f.0) _ (flags f.0) (λ r. next _ _ (two f.1) (λ p.
    next _ _ (text p.1) (λ l. next _ _ (text l.1) (λ t. next _ _ (txt t.1) (λ x. next _ _ (end x.1) (λ u. ok _)))))))

update : (bytes : List ℕ) → NoFault (update_of bytes)
unfolding update_of
update bytes = next _ _ (txt bytes) (λ x. next _ _ (end x.1) (λ u. ok _))

a_request : (number : ℕ) (bytes : List ℕ) → NoFault (request_of number bytes)
unfolding request_of
a_request number bytes =
    either (eqb number 1) _ _ (query bytes)
    (either (eqb number 2) _ _ (browse bytes)
    (either (eqb number 3) _ _ (resolve bytes)
    (either (eqb number 4) _ _ (address bytes)
    (either (eqb number 5) _ _ (register bytes)
    (either (eqb number 6) _ _ (update bytes)
    (either (eqb number 7) _ _ (next _ _ (end bytes) (λ u. ok request.Stop)) kind))))))

last_name : (bytes : List ℕ) → NoFault (last_name_of bytes)
unfolding last_name_of
last_name bytes = next _ _ (name bytes) (λ n. next _ _ (end n.1) (λ u. ok _))

four_bytes : (bytes : List ℕ) → NoFault (a_of bytes)
unfolding a_of
four_bytes bytes = either _ _ _ (ok _) body

sixteen : (bytes : List ℕ) → NoFault (aaaa_of bytes)
unfolding aaaa_of
sixteen bytes = either _ _ _ (ok _) body

srv : (bytes : List ℕ) → NoFault (srv_of bytes)
unfolding srv_of
srv bytes = next _ _ (two bytes) (λ p. next _ _ (two p.1) (λ w. next _ _ (two w.1) (λ q. next _ _ (last_name q.1) (λ n. ok _))))

nsec : (bytes : List ℕ) → NoFault (nsec_of bytes)
unfolding nsec_of
nsec bytes = next _ _ (name bytes) (λ n. ok _)

raw : (number : ℕ) (bytes : List ℕ) → NoFault (raw_of number bytes)
unfolding raw_of
raw number bytes = either _ _ _ (ok _) body

typed_data : (number : ℕ) (bytes : List ℕ) → NoFault (rdata_of number bytes)
unfolding rdata_of
typed_data number bytes =
    either (eqb number 1) _ _ (four_bytes bytes)
    (either (eqb number 28) _ _ (sixteen bytes)
    (either (eqb number 12) _ _ (next _ _ (last_name bytes) (λ n. ok (Ptr n)))
    (either (eqb number 5) _ _ (next _ _ (last_name bytes) (λ n. ok (Cname n)))
    (either (eqb number 33) _ _ (srv bytes)
    (either (eqb number 16) _ _ (ok (Txt bytes))
    (either (eqb number 47) _ _ (nsec bytes) (raw number bytes)))))))

datum : (bytes : List ℕ) → NoFault (datum_of bytes)
unfolding datum_of
datum bytes = next _ _ (two bytes) (λ k. next _ _ (typed_data k.0 k.1) (λ d. ok _))

resolved : (bytes : List ℕ) → NoFault (resolved_of bytes)
unfolding resolved_of
resolved bytes = next _ _ (two bytes) (λ p. next _ _ (two p.1) (λ w. next _ _ (two w.1) (λ q. next _ _ (name q.1) (λ n. ok _))))

tagged : (tag : ℕ) (bytes : List ℕ) → NoFault (tagged_of tag bytes)
unfolding tagged_of
tagged tag bytes =
    either (eqb tag 1) _ _ (datum bytes)
    (either (eqb tag 2) _ _ (next _ _ (last_name bytes) (λ n. ok (Found n)))
    (either (eqb tag 3) _ _ (resolved bytes)
    (either (eqb tag 4) _ _ (next _ _ (last_name bytes) (λ n. ok (Named n)))
    (either (eqb tag 5) _ _ (next _ _ (end bytes) (λ u. ok Conflict)) body))))

an_answer : (bytes : List ℕ) → NoFault (answer_of bytes)
unfolding answer_of
an_answer bytes = next _ _ (one_byte bytes) (λ tag. tagged tag.0 tag.1)

verb : (number : ℕ) → NoFault (verb_of number)
verb number = either (eqb number 1) _ _ (ok Start) (either (eqb number 2) _ _ (ok Update) (either (eqb number 3) _ _ (ok Stop) body))

reply : (op : ℕ) (bytes : List ℕ) → NoFault (reply_of op bytes)
unfolding reply_of
reply op bytes = next _ _ (one_byte bytes) (λ v. next (verb_of v.0) _ (verb v.0) (λ w. next _ _ (four v.1) (λ c. next _ _ (end c.1) (λ u. ok _))))

item : (number op : ℕ) (bytes : List ℕ) → NoFault (item_of number op bytes)
unfolding item_of
item number op bytes =
    either (eqb number 64) _ _ (reply op bytes)
    (either (eqb number 65) _ _ (next _ _ (an_answer bytes) (λ a. ok (Add op a)))
    (either (eqb number 66) _ _ (next _ _ (an_answer bytes) (λ a. ok (Remove op a))) kind))

pub request_frame : (frame : List ℕ) → NoFault (framed_request frame)
unfolding framed_request
request_frame frame = next _ _ (one_byte frame) (λ k. next _ _ (four k.1) (λ op. next _ _ (a_request k.0 op.1) (λ r. ok _)))

pub item_frame : (frame : List ℕ) → NoFault (framed_item frame)
unfolding framed_item
item_frame frame = next _ _ (one_byte frame) (λ k. next _ _ (four k.1) (λ op. item k.0 op.0 op.1))

-- what was read of a frame isn't, either
pub no_fault : {X : Type 0} (result wanted : Result X FrameError) → NoFault wanted → IsReadAs result wanted → result ≡ Err ReadFault → ⊥
no_fault result wanted n (inl h) e = memory (h' result h e)
  where
    h' : {X : Type 0} (r : Result X FrameError) → r ≡ Err NoMemory → r ≡ Err ReadFault → NoMemory ≡ ReadFault
    h' r p q = cc

    memory : NoMemory ≡ ReadFault → ⊥
    memory p = cc
no_fault result wanted n (inr h) e = n.never (cc)
