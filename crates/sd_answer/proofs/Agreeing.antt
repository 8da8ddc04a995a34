-- Records that agree one for one give the same answers.
use Rattle.std.proofs.Common.{◌≡◌, ℕ, ◌+◌, ◌<◌, Bool, true, false, cond, ◌||◌, ◌&&◌, eqb, List, [], ◌∷◌, ◌++◌, map, take, length, get_or, Option, refl, ap, ◌∙◌, sym}
use Rattle.std.specs.List.{list_any, flat_map, filter_map, cons_option}
use Rattle.std.proofs.lemmas.List.{take_more, map-append}
use Rattle.std.specs.Str.{bytes_eq}
use Rattle.std.proofs.lemmas.Str.Ascii.{lowercase-lowercase}
use Rattle.dns_name.specs.Names.{wire_of, folded, folded_label, folded_eq}
use Rattle.lists.specs.Lists.{ordered}
use Rattle.dns_record.specs.declared.record.Rr.{Rr}
use Rattle.dns_record.specs.declared.record.Key.{Key}
use Rattle.dns_record.specs.Records.{matches, any_kind, kind_of}
use Rattle.sd_call.specs.declared.request.Request.{Request}
use Rattle.sd_call.specs.declared.request.Request.TheVariants as request
use Rattle.sd_call.specs.declared.answer.Answer.{Answer}
use Rattle.sd_call.specs.Answers.{answer_cmp}
use Rattle.mdns_history.specs.declared.held.Held.{Held}
use Rattle.mdns_history.specs.Questions.{keys_of}
use Rattle.mdns_history.specs.Answers.{matching, datum_of, found_in, resolved_with, answers_from, answers_over}
use Rattle.sd_answer.specs.Known.{bare, rrs_of}

-- one element more in two lists that map to one
pub map-next : {X Y : Type 0} (f : X → Y) (xs ys : List X) (i : ℕ) (x y : X) → i < length xs → i < length ys → f (get_or xs i x) ≡ f (get_or ys i y) →
    map f (take i xs) ≡ map f (take i ys) → map f (take (i + 1) xs) ≡ map f (take (i + 1) ys)
map-next f xs ys i x y within under same before =
    ap (map f) (take_more xs i x within) ∙ map-append f (take i xs) (get_or xs i x ∷ [])
    ∙ (λ k. before k ++ same k ∷ [])
    ∙ sym (ap (map f) (take_more ys i y under) ∙ map-append f (take i ys) (get_or ys i y ∷ []))

-- ---- a record that is stripped matches and answers as it did

label_again : (label : List ℕ) → folded_label (folded_label label) ≡ folded_label label
label_again [] = refl
label_again (c ∷ label) = λ i. lowercase-lowercase c i ∷ label_again label i

folded_again : (name : List (List ℕ)) → folded (folded name) ≡ folded name
folded_again [] = refl
folded_again (label ∷ name) = λ i. label_again label i ∷ folded_again name i

bare_named : (key : Key) (rr : Rr) → folded_eq key.name (folded rr.owner) ≡ folded_eq key.name rr.owner
unfolding folded_eq
bare_named key rr = ap (λ (name : List (List ℕ)). bytes_eq (wire_of (folded key.name)) (wire_of name)) (folded_again rr.owner)

bare_matches : (key : Key) (rr : Rr) → matches key (bare rr) ≡ matches key rr
unfolding matches
bare_matches key rr = ap (λ (b : Bool). b && (eqb key.kind any_kind || eqb key.kind (kind_of rr.rdata))) (bare_named key rr)

bare_asked : (keys : List Key) (rr : Rr) → list_any (λ key. matches key (bare rr)) keys ≡ list_any (λ key. matches key rr) keys
bare_asked [] rr = refl
bare_asked (key ∷ keys) rr = λ i. bare_matches key rr i || bare_asked keys rr i

bare_matching : (keys : List Key) (rrs : List Rr) → matching keys (map bare rrs) ≡ map bare (matching keys rrs)
bare_matching keys [] = refl
bare_matching keys (rr ∷ rrs) = at (list_any (λ key. matches key rr) keys) (bare_asked keys rr) (bare_matching keys rrs)
  where
    at : (b : Bool) → list_any (λ key. matches key (bare rr)) keys ≡ b → matching keys (map bare rrs) ≡ map bare (matching keys rrs) →
        matching keys (bare rr ∷ map bare rrs) ≡ map bare (cond b (rr ∷ matching keys rrs) (matching keys rrs))
    at true e ih = ap (λ c. cond c (bare rr ∷ matching keys (map bare rrs)) (matching keys (map bare rrs))) e ∙ ap (λ l. bare rr ∷ l) ih
    at false e ih = ap (λ c. cond c (bare rr ∷ matching keys (map bare rrs)) (matching keys (map bare rrs))) e ∙ ih

filter_map-bare : (f : Rr → Option Answer) → ((rr : Rr) → f (bare rr) ≡ f rr) → (rrs : List Rr) → filter_map f (map bare rrs) ≡ filter_map f rrs
filter_map-bare f same [] = refl
filter_map-bare f same (rr ∷ rrs) = λ i. cons_option (same rr i) (filter_map-bare f same rrs i)

flat_map-bare : (f g : Rr → List Answer) → ((rr : Rr) → f (bare rr) ≡ g rr) → (rrs : List Rr) → flat_map f (map bare rrs) ≡ flat_map g rrs
flat_map-bare f g same [] = refl
flat_map-bare f g same (rr ∷ rrs) = λ i. same rr i ++ flat_map-bare f g same rrs i

bare_from : (request : Request) (rrs : List Rr) → answers_from request (map bare rrs) ≡ answers_from request rrs
bare_from (request.Query kind name) rrs = filter_map-bare datum_of (λ rr. refl) rrs
bare_from (request.Address families name) rrs = filter_map-bare datum_of (λ rr. refl) rrs
bare_from (request.Browse regtype) rrs = filter_map-bare (λ rr. found_in rr.rdata) (λ rr. refl) rrs
bare_from (request.Resolve label regtype) rrs =
    flat_map-bare (λ srv. filter_map (λ txt. resolved_with srv.rdata txt.rdata) (map bare rrs)) (λ srv. filter_map (λ txt. resolved_with srv.rdata txt.rdata) rrs)
    (λ srv. filter_map-bare (λ txt. resolved_with srv.rdata txt.rdata) (λ txt. refl) rrs) rrs
bare_from (request.Register label regtype port norename txt) rrs = refl
bare_from (request.Update txt) rrs = refl
bare_from request.Stop rrs = refl

bare_over : (request : Request) (rrs : List Rr) → answers_over request (map bare rrs) ≡ answers_over request rrs
unfolding answers_over
bare_over request rrs = ap (ordered answer_cmp) (ap (answers_from request) (bare_matching (keys_of request) rrs) ∙ bare_from request (matching (keys_of request) rrs))

-- Records that are the same once they are stripped give the same answers.
pub same_answers : (held other : List Held) (own more : List Rr) → map bare (rrs_of held) ≡ map bare (rrs_of other) → map bare own ≡ map bare more →
    (request : Request) → answers_over request (rrs_of held ++ own) ≡ answers_over request (rrs_of other ++ more)
same_answers held other own more first second request =
    sym (bare_over request (rrs_of held ++ own))
    ∙ ap (answers_over request) (map-append bare (rrs_of held) own ∙ (λ i. first i ++ second i) ∙ sym (map-append bare (rrs_of other) more))
    ∙ bare_over request (rrs_of other ++ more)
