-- Own records that stay the same ones give the same answers beside records that are held.
use Rattle.std.proofs.Common.{◌≡◌, ℕ, Bool, true, false, cond, ◌||◌, ◌&&◌, ◌⊎◌, eqb, List, [], ◌∷◌, ◌++◌, map, refl, ap, subst, sym, ◌∙◌, Option, inl, inr, ⊎_elim, arith}
use Rattle.std.specs.List.{list_any, list_all, flat_map, filter_map, cons_option, AllByRecursion, Contains}
use Rattle.std.proofs.lemmas.Bool.{and_from, and_parts}
use Rattle.std.proofs.lemmas.List.{map-append}
use Rattle.std.proofs.lemmas.List.Elements.{Contains-append_left, Contains-append_right, Contains-append_cases, Contains-push_cases}
use Rattle.dns_name.specs.Names.{folded_eq}
use Rattle.lists.specs.Lists.{ordered}
use Rattle.dns_name.proofs.Folding.{folded_eq-equivalence}
use Rattle.lists.proofs.InOrder.{all-filter}
use Rattle.dns_record.specs.declared.record.Rr.{Rr}
use Rattle.dns_record.specs.declared.record.Key.{Key}
use Rattle.dns_record.specs.Records.{identity_of, matches, any_kind, kind_of, same}
use Rattle.dns_record.proofs.Same.{same_tells}
use Rattle.dns_message.specs.Writing.{is_spellable_data}
use Rattle.sd_call.specs.declared.request.Request.{Request}
use Rattle.sd_call.specs.declared.request.Request.TheVariants as request
use Rattle.sd_call.specs.declared.answer.Answer.{Answer}
use Rattle.sd_call.specs.declared.answer.Answer.TheVariants.{Datum}
use Rattle.sd_call.specs.Answers.{answer_cmp}
use Rattle.std.specs.Int.{to_be_bytes, w16}
use Rattle.mdns_history.specs.declared.held.Held.{Held}
use Rattle.mdns_history.specs.Announcing.{same_records}
use Rattle.mdns_history.specs.Questions.{keys_of}
use Rattle.mdns_history.specs.Answers.{matching, datum_of, found_in, resolved_with, answers_from, answers_over}
use Rattle.mdns_cache.specs.Lifetimes.{held_of}
use Rattle.mdns_happened.specs.Walks.{own_of}
use Rattle.sd_answer.specs.Known.{rrs_of}
use Rattle.sd_answer.specs.Laws.{have_data}
use Rattle.sd_answer.proofs.Known.{answer_told}
use Rattle.sd_answer.proofs.Members.{count_free}

-- records that are the same have equal data, where these are as their types allow
data_same : (left right : Rr) → is_spellable_data left.rdata ≡ true → is_spellable_data right.rdata ≡ true → same left right ≡ true → left.rdata ≡ right.rdata
data_same left right h k e =
    let one : identity_of left ≡ identity_of right = (same_tells left right).0 e in
    let answers : ◌≡◌ {A = Answer} (Datum left.rdata) (Datum right.rdata) = answer_told (Datum left.rdata) (Datum right.rdata) h k (λ i. 1 ∷ to_be_bytes w16 ((one i).kind) ++ (one i).bytes) in
    cc

module _ (name : List (List ℕ)) where
  -- a record of the name as far as answers depend on it
  abbrev strip : Rr → Rr
  strip rr = record { owner = name; flush = false; ttl = 0; rdata = rr.rdata }

  abbrev AreNamed : List Rr → Type 0
  AreNamed rrs = AllByRecursion (λ (rr : Rr). folded_eq rr.owner name ≡ true) rrs

  strip_matches : (key : Key) (rr : Rr) → folded_eq rr.owner name ≡ true → matches key (strip rr) ≡ matches key rr
  unfolding matches
  strip_matches key rr e = ap (λ (b : Bool). b && (eqb key.kind any_kind || eqb key.kind (kind_of rr.rdata))) alike
    where
      alike : folded_eq key.name name ≡ folded_eq key.name rr.owner
      alike = folded_eq-equivalence.symm key.name name ∙ sym (folded_eq-equivalence.congr rr.owner name key.name e) ∙ folded_eq-equivalence.symm rr.owner key.name

  strip_asked : (keys : List Key) (rr : Rr) → folded_eq rr.owner name ≡ true → list_any (λ key. matches key (strip rr)) keys ≡ list_any (λ key. matches key rr) keys
  strip_asked [] rr e = refl
  strip_asked (key ∷ keys) rr e = λ i. strip_matches key rr e i || strip_asked keys rr e i

  strip_matching : (keys : List Key) (rrs : List Rr) → AreNamed rrs → matching keys (map strip rrs) ≡ map strip (matching keys rrs)
  strip_matching keys [] named = refl
  strip_matching keys (rr ∷ rrs) named = at (list_any (λ key. matches key rr) keys) (strip_asked keys rr named.0) (strip_matching keys rrs named.1)
    where
      at : (b : Bool) → list_any (λ key. matches key (strip rr)) keys ≡ b → matching keys (map strip rrs) ≡ map strip (matching keys rrs) →
          matching keys (strip rr ∷ map strip rrs) ≡ map strip (cond b (rr ∷ matching keys rrs) (matching keys rrs))
      at true e ih = ap (λ c. cond c (strip rr ∷ matching keys (map strip rrs)) (matching keys (map strip rrs))) e ∙ ap (λ l. strip rr ∷ l) ih
      at false e ih = ap (λ c. cond c (strip rr ∷ matching keys (map strip rrs)) (matching keys (map strip rrs))) e ∙ ih

  filter_map-strip : (f : Rr → Option Answer) → ((rr : Rr) → f (strip rr) ≡ f rr) → (rrs : List Rr) → filter_map f (map strip rrs) ≡ filter_map f rrs
  filter_map-strip f alike [] = refl
  filter_map-strip f alike (rr ∷ rrs) = λ i. cons_option (alike rr i) (filter_map-strip f alike rrs i)

  flat_map-strip : (f g : Rr → List Answer) → ((rr : Rr) → f (strip rr) ≡ g rr) → (rrs : List Rr) → flat_map f (map strip rrs) ≡ flat_map g rrs
  flat_map-strip f g alike [] = refl
  flat_map-strip f g alike (rr ∷ rrs) = λ i. alike rr i ++ flat_map-strip f g alike rrs i

  strip_from : (request : Request) (rrs : List Rr) → answers_from request (map strip rrs) ≡ answers_from request rrs
  strip_from (request.Query kind asked) rrs = filter_map-strip datum_of (λ rr. refl) rrs
  strip_from (request.Address families asked) rrs = filter_map-strip datum_of (λ rr. refl) rrs
  strip_from (request.Browse regtype) rrs = filter_map-strip (λ rr. found_in rr.rdata) (λ rr. refl) rrs
  strip_from (request.Resolve label regtype) rrs =
      flat_map-strip (λ srv. filter_map (λ txt. resolved_with srv.rdata txt.rdata) (map strip rrs)) (λ srv. filter_map (λ txt. resolved_with srv.rdata txt.rdata) rrs)
      (λ srv. filter_map-strip (λ txt. resolved_with srv.rdata txt.rdata) (λ txt. refl) rrs) rrs
  strip_from (request.Register label regtype port norename txt) rrs = refl
  strip_from (request.Update txt) rrs = refl
  strip_from request.Stop rrs = refl

  strip_over : (request : Request) (rrs : List Rr) → AreNamed rrs → answers_over request (map strip rrs) ≡ answers_over request rrs
  unfolding answers_over
  strip_over request rrs named = ap (ordered answer_cmp) (ap (answers_from request) (strip_matching (keys_of request) rrs named) ∙ strip_from request (matching (keys_of request) rrs))

  strip_data : (rrs : List Rr) → have_data (map strip rrs) ≡ have_data rrs
  strip_data [] = refl
  strip_data (rr ∷ rrs) = ap (λ b. is_spellable_data rr.rdata && b) (strip_data rrs)

  -- a record that is the same as one of several is one of them, stripped
  one_within : (rr : Rr) (all : List Rr) → is_spellable_data rr.rdata ≡ true → have_data all ≡ true → list_any (same rr) all ≡ true → Contains (map strip all) (strip rr)
  one_within rr [] h k e = absurd (cc)
  one_within rr (other ∷ all) h k e =
      of (same rr other) refl e (one_within rr all h (and_parts (is_spellable_data other.rdata) (have_data all) k).1)
    where
      first : Contains (map strip (other ∷ all)) (strip other)
      first = (0, omega arith, refl)

      of : (b : Bool) → same rr other ≡ b → (b || list_any (same rr) all) ≡ true → (list_any (same rr) all ≡ true → Contains (map strip all) (strip rr)) → Contains (map strip (other ∷ all)) (strip rr)
      of true same_is e rest =
          let data_is : rr.rdata ≡ other.rdata = data_same rr other h (and_parts (is_spellable_data other.rdata) (have_data all) k).0 same_is in
          subst (Contains (map strip (other ∷ all))) (λ i. record { owner = name; flush = false; ttl = 0; rdata = sym data_is i }) first
      of false same_is e rest = Contains-append_right (strip other ∷ []) (map strip all) (strip rr) (rest e)

  all_within : (some all : List Rr) → have_data some ≡ true → have_data all ≡ true → list_all (λ rr. list_any (same rr) all) some ≡ true → (q : Rr) → Contains (map strip some) q → Contains (map strip all) q
  all_within [] all h k e q (i, under, is) = absurd (omega (arith, under))
  all_within (rr ∷ some) all h k e q there =
      let typed = and_parts (is_spellable_data rr.rdata) (have_data some) h in
      let parts = and_parts (list_any (same rr) all) (list_all (λ rr. list_any (same rr) all) some) e in
      of (Contains-append_cases (strip rr ∷ []) (map strip some) q there) (one_within rr all typed.0 k parts.0) (all_within some all typed.1 k parts.1 q)
    where
      none : Contains {X = Rr} [] q → ⊥
      none (i, under, is) = omega (arith, under)

      of : Contains (strip rr ∷ []) q ⊎ Contains (map strip some) q → Contains (map strip all) (strip rr) → (Contains (map strip some) q → Contains (map strip all) q) → Contains (map strip all) q
      of (inl one) first rest = ⊎_elim (λ c. absurd (none c)) (λ is. subst (Contains (map strip all)) is first) (Contains-push_cases [] (strip rr) q one)
      of (inr c) first rest = rest c

  -- beside the same records, of which none is told apart
  beside_within : (held some all : List Rr) → have_data some ≡ true → have_data all ≡ true → list_all (λ rr. list_any (same rr) all) some ≡ true → (q : Rr) →
      Contains (map strip (held ++ some)) q → Contains (map strip (held ++ all)) q
  beside_within held some all h k e q there =
      subst (λ (l : List Rr). Contains l q) (sym (map-append strip held all))
      (⊎_elim (λ c. Contains-append_left (map strip held) (map strip all) q c) (λ c. Contains-append_right (map strip held) (map strip all) q (all_within some all h k e q c))
      (Contains-append_cases (map strip held) (map strip some) q (subst (λ (l : List Rr). Contains l q) (map-append strip held some) there)))

  data_both : (one other : List Rr) → have_data one ≡ true → have_data other ≡ true → have_data (one ++ other) ≡ true
  data_both [] other h k = k
  data_both (rr ∷ one) other h k =
      let typed = and_parts (is_spellable_data rr.rdata) (have_data one) h in and_from (is_spellable_data rr.rdata) (have_data (one ++ other)) typed.0 (data_both one other typed.1 k)

  named_both : (one other : List Rr) → AreNamed one → AreNamed other → AreNamed (one ++ other)
  named_both [] other h k = k
  named_both (rr ∷ one) other h k = (h.0, named_both one other h.1 k)

  alike_beside : (held own later : List Rr) → AreNamed held → AreNamed own → AreNamed later → have_data held ≡ true → have_data own ≡ true → have_data later ≡ true → same_records own later ≡ true →
      (request : Request) → answers_over request (held ++ later) ≡ answers_over request (held ++ own)
  alike_beside held own later named_held named_own named_later typed typed_own typed_later are request =
      let parts = and_parts (list_all (λ rr. list_any (same rr) later) own) (list_all (λ rr. list_any (same rr) own) later) are in
      sym (strip_over request (held ++ later) (named_both held later named_held named_later))
      ∙ sym (count_free request (map strip (held ++ own)) (map strip (held ++ later)) (strip_data (held ++ own) ∙ data_both held own typed typed_own)
      (λ q. (beside_within held own later typed_own typed_later parts.0 q, beside_within held later own typed_later typed_own parts.1 q)))
      ∙ strip_over request (held ++ own) (named_both held own named_held named_own)

  own_named : (own : List Rr) → AreNamed (own_of name own)
  own_named [] = tt
  own_named (rr ∷ own) = of (folded_eq rr.owner name) refl (own_named own)
    where
      of : (b : Bool) → folded_eq rr.owner name ≡ b → AreNamed (own_of name own) → AreNamed (cond b (rr ∷ own_of name own) (own_of name own))
      of true e rest = (e, rest)
      of false e rest = rest

  held_named : (held : List Held) → AreNamed (rrs_of (held_of name held))
  held_named [] = tt
  held_named (one ∷ held) = of (folded_eq one.rr.owner name) refl (held_named held)
    where
      of : (b : Bool) → folded_eq one.rr.owner name ≡ b → AreNamed (rrs_of (held_of name held)) → AreNamed (rrs_of (cond b (one ∷ held_of name held) (held_of name held)))
      of true e rest = (e, rest)
      of false e rest = rest

  held_data : (held : List Held) → have_data (rrs_of held) ≡ true → have_data (rrs_of (held_of name held)) ≡ true
  held_data [] h = refl
  held_data (one ∷ held) h =
      let typed = and_parts (is_spellable_data one.rr.rdata) (have_data (rrs_of held)) h in
      of (folded_eq one.rr.owner name) typed.0 (held_data held typed.1)
    where
      of : (b : Bool) → is_spellable_data one.rr.rdata ≡ true → have_data (rrs_of (held_of name held)) ≡ true → have_data (rrs_of (cond b (one ∷ held_of name held) (held_of name held))) ≡ true
      of true first rest = and_from (is_spellable_data one.rr.rdata) (have_data (rrs_of (held_of name held))) first rest
      of false first rest = rest

  -- The same own records of a name give the same answers beside those of it that are held.
  pub own-kept : (held : List Held) (own later : List Rr) → have_data (rrs_of held) ≡ true → have_data own ≡ true → have_data later ≡ true → same_records (own_of name own) (own_of name later) ≡ true →
      (request : Request) → answers_over request (rrs_of (held_of name held) ++ own_of name later) ≡ answers_over request (rrs_of (held_of name held) ++ own_of name own)
  own-kept held own later typed typed_own typed_later are =
      alike_beside (rrs_of (held_of name held)) (own_of name own) (own_of name later) (held_named held) (own_named own) (own_named later) (held_data held typed)
      (all-filter (λ rr. is_spellable_data rr.rdata) (λ rr. folded_eq rr.owner name) own typed_own) (all-filter (λ rr. is_spellable_data rr.rdata) (λ rr. folded_eq rr.owner name) later typed_later) are
