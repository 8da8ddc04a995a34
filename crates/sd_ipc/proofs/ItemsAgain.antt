-- The bodies of items are read again.
use Rattle.std.proofs.Common.{◌≡◌, ℕ, ◌++◌, ◌∙◌, List, [], ◌∷◌, Ok, refl, ap, subst, append_assoc}
use Rattle.std.specs.Prelude.{ℤ, FitsSigned}
use Rattle.std.specs.Int.{to_be_bytes, cast_signed, cast_unsigned, w16, w32}
use Rattle.std.proofs.lemmas.Int.{to_z-of_z}
use Rattle.std.proofs.Math.Facts.{Fits-of_z, Fits-lt-pow}
use Rattle.dns_name.specs.Names.{wire_of}
use Rattle.dns_record.specs.Records.{kind_of}
use Rattle.dns_record.specs.declared.record.Rdata.{Rdata}
use Rattle.sd_call.specs.declared.request.Verb.{Verb}
use Rattle.sd_call.specs.declared.request.Verb.TheVariants as verb
use Rattle.sd_call.specs.declared.answer.Answer.{Answer}
use Rattle.sd_call.specs.declared.answer.Answer.TheVariants.{Datum, Found, Resolved, Named, Conflict}
use Rattle.sd_call.specs.declared.item.Item.TheVariants.{Reply, Add, Remove}
use Rattle.sd_ipc.specs.Frames.{verb_number}
use Rattle.sd_ipc.specs.Parts.{Part, u16_part, u32_part, name_part}
use Rattle.sd_ipc.specs.Reading.{rdata_of, datum_of, resolved_of, tagged_of, answer_of, verb_of, reply_of, item_of}
use Rattle.sd_ipc.specs.Again.{ReadsNumber, ReadsName, IsData, IsAnswer, IsItemBody}
use Rattle.sd_ipc.proofs.Chains.{at_end}
use Rattle.sd_ipc.proofs.PartsAgain.{u32_again}
use Rattle.sd_ipc.proofs.DataAgain.{last_name_again}

abbrev Reads : {X : Type 0} → (List ℕ → Part X) → List ℕ → X → Type 0
Reads part bytes x = (more : List ℕ) → part (bytes ++ more) ≡ Ok (x, more)

datum_again : (rdata : Rdata) (k d : List ℕ) → Reads u16_part k (kind_of rdata) → rdata_of (kind_of rdata) d ≡ Ok rdata → datum_of (k ++ d) ≡ Ok (Datum rdata)
unfolding datum_of
datum_again rdata k d reads_k reads_d = rw (reads_k d, reads_d) refl

pub datum_body : (rdata : Rdata) (kind : ℕ) (data_out held out : List ℕ) → kind ≡ kind_of rdata → held ≡ data_out → out ≡ (1 ∷ to_be_bytes w16 kind) ++ held → IsData rdata data_out → ReadsNumber kind → IsAnswer (Datum rdata) out
unfolding answer_of tagged_of
datum_body rdata kind data_out held out is same e d k =
    let whole : out ≡ (1 ∷ to_be_bytes w16 (kind_of rdata)) ++ data_out = e ∙ ap (λ (l : List ℕ). (1 ∷ to_be_bytes w16 kind) ++ l) same ∙ ap (λ (n : ℕ). (1 ∷ to_be_bytes w16 n) ++ data_out) is in
    let number : ReadsNumber (kind_of rdata) = subst (λ (n : ℕ). ReadsNumber n) is k in
    record {
      body = whole ∙ ap (λ (l : List ℕ). (1 ∷ to_be_bytes w16 (kind_of rdata)) ++ l) d.data_bytes;
      again = λ h. ap answer_of whole ∙ datum_again rdata (to_be_bytes w16 (kind_of rdata)) data_out number.again (d.again h);
    }

pub found_body : (name : List (List ℕ)) (out : List ℕ) → out ≡ 2 ∷ wire_of name → ReadsName name → IsAnswer (Found name) out
unfolding answer_of tagged_of
found_body name out e n = record { body = e; again = λ _. rw (ap answer_of e, last_name_again name (wire_of name) n.again) refl }

pub named_body : (name : List (List ℕ)) (out : List ℕ) → out ≡ 4 ∷ wire_of name → ReadsName name → IsAnswer (Named name) out
unfolding answer_of tagged_of
named_body name out e n = record { body = e; again = λ _. rw (ap answer_of e, last_name_again name (wire_of name) n.again) refl }

pub conflict_body : (out : List ℕ) → out ≡ 5 ∷ [] → IsAnswer Conflict out
unfolding answer_of tagged_of
conflict_body out e = record { body = e; again = λ _. ap answer_of e }

resolved_again : (priority weight port : ℕ) (target : List (List ℕ)) (txt p w q n : List ℕ) → Reads u16_part p priority → Reads u16_part w weight → Reads u16_part q port → Reads name_part n target
    → resolved_of (p ++ (w ++ (q ++ (n ++ txt)))) ≡ Ok (Resolved priority weight port target txt)
unfolding resolved_of
resolved_again priority weight port target txt p w q n reads_p reads_w reads_q reads_n =
    rw (reads_p (w ++ (q ++ (n ++ txt))), reads_w (q ++ (n ++ txt)), reads_q (n ++ txt), reads_n txt) refl

regrouped : (tag : ℕ) (p w q n x : List ℕ) → ((((tag ∷ p) ++ w) ++ q) ++ n) ++ x ≡ tag ∷ (p ++ (w ++ (q ++ (n ++ x))))
regrouped tag p w q n x = simp append_assoc

pub resolved_body : (priority weight port : ℕ) (target : List (List ℕ)) (txt out : List ℕ)
    → out ≡ ((((3 ∷ to_be_bytes w16 priority) ++ to_be_bytes w16 weight) ++ to_be_bytes w16 port) ++ wire_of target) ++ txt
    → ReadsNumber priority → ReadsNumber weight → ReadsNumber port → ReadsName target → IsAnswer (Resolved priority weight port target txt) out
unfolding answer_of tagged_of
resolved_body priority weight port target txt out e p w q n = record {
  body = e;
  again = λ _. ap answer_of (e ∙ regrouped 3 (to_be_bytes w16 priority) (to_be_bytes w16 weight) (to_be_bytes w16 port) (wire_of target) txt)
      ∙ resolved_again priority weight port target txt (to_be_bytes w16 priority) (to_be_bytes w16 weight) (to_be_bytes w16 port) (wire_of target) p.again w.again q.again n.again;
}

-- an answer added, and one removed
pub add_body : (op : ℕ) (answer : Answer) (out : List ℕ) → IsAnswer answer out → IsItemBody (Add op answer) out
unfolding item_of
add_body op answer out a = record { body = a.body; again = λ h. rw (a.again h) refl }

pub remove_body : (op : ℕ) (answer : Answer) (out : List ℕ) → IsAnswer answer out → IsItemBody (Remove op answer) out
unfolding item_of
remove_body op answer out a = record { body = a.body; again = λ h. rw (a.again h) refl }

verb_again : (v : Verb) → verb_of (verb_number v) ≡ Ok v
verb_again verb.Start = refl
verb_again verb.Update = refl
verb_again verb.Stop = refl

reply_again : (op : ℕ) (v : Verb) (code : ℤ) (number n : ℕ) (c : List ℕ) → Reads u32_part c n → cast_signed w32 n ≡ code → number ≡ verb_number v → reply_of op (number ∷ c) ≡ Ok (Reply op v code)
unfolding reply_of
reply_again op v code number n c reads_c is e = rw (ap verb_of e ∙ verb_again v, at_end u32_part c n reads_c, is) refl

pub reply_body : (op : ℕ) (v : Verb) (code : ℤ) (number : ℕ) (bytes out : List ℕ) → FitsSigned w32 code → number ≡ verb_number v → bytes ≡ to_be_bytes w32 (cast_unsigned w32 code) → out ≡ number ∷ bytes → IsItemBody (Reply op v code) out
unfolding item_of
reply_body op v code number bytes out fits e same f =
    let held : out ≡ number ∷ to_be_bytes w32 (cast_unsigned w32 code) = f ∙ ap (λ (l : List ℕ). number ∷ l) same in
    record {
      body = held ∙ ap (λ (n : ℕ). n ∷ to_be_bytes w32 (cast_unsigned w32 code)) e;
      again = λ _. ap (reply_of op) held ∙ reply_again op v code number (cast_unsigned w32 code) (to_be_bytes w32 (cast_unsigned w32 code)) (λ more. u32_again (cast_unsigned w32 code) more (Fits-lt-pow (Fits-of_z fits))) (to_z-of_z w32 code fits) e;
    }
