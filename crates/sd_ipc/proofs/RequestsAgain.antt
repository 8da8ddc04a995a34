-- The bodies of requests are read again.
use Rattle.std.proofs.Common.{◌≡◌, ℕ, ◌+◌, ◌++◌, ◌∙◌, Bool, true, false, List, [], ◌∷◌, Ok, length, refl, ap, arith, length-append, append_assoc}
use Rattle.std.specs.Int.{to_be_bytes, w16}
use Rattle.dns_name.specs.Names.{wire_of}
use Rattle.sd_call.specs.declared.request.Request.TheVariants.{Query, Browse, Resolve, Address, Register, Update, Stop}
use Rattle.sd_ipc.specs.Frames.{counted, flags_of, request_body}
use Rattle.sd_ipc.specs.Parts.{Part, u16_part, text_part, txt_part, name_part}
use Rattle.sd_ipc.specs.Reading.{query_of, browse_of, resolve_of, address_of, register_of, update_of, request_of}
use Rattle.sd_ipc.specs.Again.{ReadsNumber, ReadsName, ReadsText, ReadsTxt, IsBody}
use Rattle.sd_ipc.proofs.Chains.{at_end}

-- what was read of a part, whatever its bytes
abbrev Reads : {X : Type 0} → (List ℕ → Part X) → List ℕ → X → Type 0
Reads part bytes x = (more : List ℕ) → part (bytes ++ more) ≡ Ok (x, more)

query_again : (kind : ℕ) (name : List (List ℕ)) (k n : List ℕ) → Reads u16_part k kind → Reads name_part n name → query_of (k ++ n) ≡ Ok (Query kind name)
unfolding query_of
query_again kind name k n reads_k reads_n = rw (reads_k n, at_end name_part n name reads_n) refl

browse_again : (regtype t : List ℕ) → Reads text_part t regtype → browse_of t ≡ Ok (Browse regtype)
unfolding browse_of
browse_again regtype t reads_t = rw (at_end text_part t regtype reads_t) refl

resolve_again : (label regtype l t : List ℕ) → Reads text_part l label → Reads text_part t regtype → resolve_of (l ++ t) ≡ Ok (Resolve label regtype)
unfolding resolve_of
resolve_again label regtype l t reads_l reads_t = rw (reads_l t, at_end text_part t regtype reads_t) refl

address_again : (families : ℕ) (name : List (List ℕ)) (n : List ℕ) → Reads name_part n name → address_of (families ∷ n) ≡ Ok (Address families name)
unfolding address_of
address_again families name n reads_n = rw (at_end name_part n name reads_n) refl

update_again : (txt x : List ℕ) → Reads txt_part x txt → update_of x ≡ Ok (Update txt)
unfolding update_of
update_again txt x reads_x = rw (at_end txt_part x txt reads_x) refl

register_again : (label regtype txt : List ℕ) (port : ℕ) (norename : Bool) (p l t x : List ℕ) → Reads u16_part p port → Reads text_part l label → Reads text_part t regtype → Reads txt_part x txt
    → register_of (flags_of norename ∷ (p ++ (l ++ (t ++ x)))) ≡ Ok (Register label regtype port norename txt)
unfolding register_of
register_again label regtype txt port true p l t x reads_p reads_l reads_t reads_x =
    rw (reads_p (l ++ (t ++ x)), reads_l (t ++ x), reads_t x, at_end txt_part x txt reads_x) refl
register_again label regtype txt port false p l t x reads_p reads_l reads_t reads_x =
    rw (reads_p (l ++ (t ++ x)), reads_l (t ++ x), reads_t x, at_end txt_part x txt reads_x) refl

length-counted : (bytes : List ℕ) → length (counted bytes) ≡ 2 + length bytes
length-counted bytes = length-append (to_be_bytes w16 (length bytes)) bytes

pub query_body : (kind : ℕ) (name : List (List ℕ)) (out : List ℕ) → out ≡ to_be_bytes w16 kind ++ wire_of name → ReadsNumber kind → ReadsName name → IsBody (Query kind name) out
unfolding request_of
query_body kind name out e k n = record {
  body = e;
  again = ap query_of e ∙ query_again kind name (to_be_bytes w16 kind) (wire_of name) k.again n.again;
  short = omega (arith, n.short, ap length e, length-append (to_be_bytes w16 kind) (wire_of name));
}

pub browse_body : (regtype out : List ℕ) → out ≡ counted regtype → ReadsText regtype → IsBody (Browse regtype) out
unfolding request_of
browse_body regtype out e t = record {
  body = e;
  again = ap browse_of e ∙ browse_again regtype (counted regtype) t.again;
  short = omega (arith, t.short, ap length e, length-counted regtype);
}

pub resolve_body : (label regtype out : List ℕ) → out ≡ counted label ++ counted regtype → ReadsText label → ReadsText regtype → IsBody (Resolve label regtype) out
unfolding request_of
resolve_body label regtype out e l t = record {
  body = e;
  again = ap resolve_of e ∙ resolve_again label regtype (counted label) (counted regtype) l.again t.again;
  short = omega (arith, l.short, t.short, ap length e, length-append (counted label) (counted regtype), length-counted label, length-counted regtype);
}

pub address_body : (families : ℕ) (name : List (List ℕ)) (out : List ℕ) → out ≡ families ∷ wire_of name → ReadsName name → IsBody (Address families name) out
unfolding request_of
address_body families name out e n = record {
  body = e;
  again = ap address_of e ∙ address_again families name (wire_of name) n.again;
  short = omega (arith, n.short, ap length e);
}

pub update_body : (txt out : List ℕ) → out ≡ counted txt → ReadsTxt txt → IsBody (Update txt) out
unfolding request_of
update_body txt out e x = record {
  body = e;
  again = ap update_of e ∙ update_again txt (counted txt) x.again;
  short = omega (arith, x.short, ap length e, length-counted txt);
}

pub stop_body : (out : List ℕ) → out ≡ [] → IsBody Stop out
unfolding request_of
stop_body out e = record {
  body = e;
  again = ap (request_of 7) e;
  short = omega (arith, ap length e);
}

regrouped : (f : ℕ) (p l t x : List ℕ) → (((f ∷ p) ++ l) ++ t) ++ x ≡ f ∷ (p ++ (l ++ (t ++ x)))
regrouped f p l t x = simp append_assoc

pub register_body : (label regtype txt : List ℕ) (port : ℕ) (norename : Bool) (flags : ℕ) (out : List ℕ) → flags ≡ flags_of norename
    → out ≡ (((flags ∷ to_be_bytes w16 port) ++ counted label) ++ counted regtype) ++ counted txt → ReadsNumber port → ReadsText label → ReadsText regtype → ReadsTxt txt → IsBody (Register label regtype port norename txt) out
unfolding request_of
register_body label regtype txt port norename flags out f e p l t x =
    let whole : out ≡ request_body (Register label regtype port norename txt) = e ∙ ap (λ (n : ℕ). (((n ∷ to_be_bytes w16 port) ++ counted label) ++ counted regtype) ++ counted txt) f in
    record {
      body = whole;
      again = ap register_of (whole ∙ regrouped (flags_of norename) (to_be_bytes w16 port) (counted label) (counted regtype) (counted txt))
          ∙ register_again label regtype txt port norename (to_be_bytes w16 port) (counted label) (counted regtype) (counted txt) p.again l.again t.again x.again;
      short = omega (
        arith,
        l.short,
        t.short,
        x.short,
        ap length e,
        length-append (((flags ∷ to_be_bytes w16 port) ++ counted label) ++ counted regtype) (counted txt),
        length-append ((flags ∷ to_be_bytes w16 port) ++ counted label) (counted regtype),
        length-append (flags ∷ to_be_bytes w16 port) (counted label),
        length-counted label,
        length-counted regtype,
        length-counted txt,
      );
    }
