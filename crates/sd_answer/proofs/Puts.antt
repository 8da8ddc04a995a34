-- Answers put behind others, record by record.
use Rattle.std.proofs.Common.{◌≡◌, ℕ, ◌+◌, ◌<◌, ◌≤◌, Bool, List, [], ◌∷◌, ◌++◌, length, take, get_or, refl, ap, ◌∙◌, sym, append_assoc, append-nil, Option}
use Rattle.std.specs.Prelude.{filter}
use Rattle.std.specs.List.{flat_map, filter_map}
use Rattle.std.specs.List.Sorted.{IsSorted}
use Rattle.std.specs.Cmp.{IsTotalOrder, on_total}
use Rattle.std.specs.Cmp.Lexicographic.{nat_list_cmp_total}
use Rattle.std.proofs.lemmas.List.{take_more, take_all, map-append}
use Rattle.std.proofs.lemmas.List.Elements.{filter-append, filter_map-append}
use Rattle.std.proofs.lemmas.List.Concat.{flat_map-append}
use Rattle.dns_record.specs.declared.record.Rdata.{Rdata}
use Rattle.dns_record.specs.declared.record.Rdata.TheVariants.{Srv}
use Rattle.dns_record.specs.declared.record.Rr.{Rr}
use Rattle.dns_record.specs.Records.{kind_of}
use Rattle.sd_call.specs.declared.answer.Answer.{Answer}
use Rattle.sd_call.specs.Answers.{answer_bytes, answer_cmp}
use Rattle.sd_call.specs.declared.request.Request.{Request}
use Rattle.mdns_history.specs.declared.held.Held.{Held}
use Rattle.mdns_history.specs.Questions.{keys_of}
use Rattle.sd_answer.specs.Known.{rrs_of}
use Rattle.mdns_history.specs.Answers.{resolved_with, answers_from, answers_over, matching}
use Rattle.lists.proofs.SortedOnce.{sorted-ordered}

-- the order of answers is a total order
pub answer_cmp-total : IsTotalOrder answer_cmp
unfolding answer_cmp
answer_cmp-total = on_total answer_bytes nat_list_cmp_total

-- what one more own record gives goes behind what those before it gave
own_of : (g : List Rr → List Answer) → ((xs ys : List Rr) → g (xs ++ ys) ≡ g xs ++ g ys) → (own : List Rr) (i : ℕ) (rr : Rr) → i < length own → rr ≡ get_or own i rr →
    (start before after : List Answer) → before ≡ start ++ g (take i own) → after ≡ before ++ g (rr ∷ []) → after ≡ start ++ g (take (i + 1) own)
own_of g joins own i rr h e start before after b a =
    a ∙ ap (λ (l : List Answer). l ++ g (rr ∷ [])) b ∙ append_assoc start (g (take i own)) (g (rr ∷ []))
    ∙ ap (λ (l : List Answer). start ++ l) (sym (joins (take i own) (rr ∷ [])) ∙ ap g (sym (take_more own i rr h ∙ ap (λ (x : Rr). take i own ++ x ∷ []) (sym e))))

-- what all held records give, and then what all own ones give
both_of : (g : List Rr → List Answer) → ((xs ys : List Rr) → g (xs ++ ys) ≡ g xs ++ g ys) → (held : List Held) (i : ℕ) (own : List Rr) (j : ℕ) → length held ≤ i → length own ≤ j →
    (start before after : List Answer) → before ≡ start ++ g (rrs_of (take i held)) → after ≡ before ++ g (take j own) → after ≡ start ++ g (rrs_of held ++ own)
both_of g joins held i own j all_held all_own start before after b a =
    a ∙ ap (λ (rrs : List Rr). before ++ g rrs) (take_all j own all_own)
    ∙ ap (λ (l : List Answer). l ++ g own) (b ∙ ap (λ (hs : List Held). start ++ g (rrs_of hs)) (take_all i held all_held))
    ∙ append_assoc start (g (rrs_of held)) (g own) ∙ ap (λ (l : List Answer). start ++ l) (sym (joins (rrs_of held) own))

-- what one more held record gives goes behind what those before it gave
more_of : (g : List Rr → List Answer) → ((xs ys : List Rr) → g (xs ++ ys) ≡ g xs ++ g ys) → (held : List Held) (i : ℕ) (one : Held) → i < length held → one ≡ get_or held i one →
    (start before after : List Answer) → before ≡ start ++ g (rrs_of (take i held)) → after ≡ before ++ g (one.rr ∷ []) → after ≡ start ++ g (rrs_of (take (i + 1) held))
more_of g joins held i one h e start before after b a =
    a ∙ ap (λ (l : List Answer). l ++ g (one.rr ∷ [])) b ∙ append_assoc start (g (rrs_of (take i held))) (g (one.rr ∷ []))
    ∙ ap (λ (l : List Answer). start ++ l) (sym (joins (rrs_of (take i held)) (one.rr ∷ []))
    ∙ ap g (sym (ap rrs_of (take_more held i one h ∙ ap (λ (x : Held). take i held ++ x ∷ []) (sym e)) ∙ map-append (λ (x : Held). x.rr) (take i held) (one ∷ []))))

module _ (f : Rr → Option Answer) (test : Rr → Bool) where
  abbrev found : List Rr → List Answer
  found rrs = filter_map f (filter test rrs)

  found_joins : (xs ys : List Rr) → found (xs ++ ys) ≡ found xs ++ found ys
  found_joins xs ys = ap (filter_map f) (filter-append test xs ys) ∙ filter_map-append f (filter test xs) (filter test ys)

  pub put_more : (held : List Held) (i : ℕ) (one : Held) → i < length held → one ≡ get_or held i one → (start before after : List Answer) →
      before ≡ start ++ filter_map f (filter test (rrs_of (take i held))) → after ≡ before ++ filter_map f (filter test (one.rr ∷ [])) → after ≡ start ++ filter_map f (filter test (rrs_of (take (i + 1) held)))
  put_more = more_of found found_joins

  pub put_own : (own : List Rr) (i : ℕ) (rr : Rr) → i < length own → rr ≡ get_or own i rr → (start before after : List Answer) →
      before ≡ start ++ filter_map f (filter test (take i own)) → after ≡ before ++ filter_map f (filter test (rr ∷ [])) → after ≡ start ++ filter_map f (filter test (take (i + 1) own))
  put_own = own_of found found_joins

  pub put_both : (held : List Held) (i : ℕ) (own : List Rr) (j : ℕ) → length held ≤ i → length own ≤ j → (start before after : List Answer) →
      before ≡ start ++ filter_map f (filter test (rrs_of (take i held))) → after ≡ before ++ filter_map f (filter test (take j own)) → after ≡ start ++ filter_map f (filter test (rrs_of held ++ own))
  put_both = both_of found found_joins

module _ (f : Rr → List Answer) (test : Rr → Bool) where
  abbrev listed : List Rr → List Answer
  listed rrs = flat_map f (filter test rrs)

  listed_joins : (xs ys : List Rr) → listed (xs ++ ys) ≡ listed xs ++ listed ys
  listed_joins xs ys = ap (flat_map f) (filter-append test xs ys) ∙ flat_map-append f (filter test xs) (filter test ys)

  pub put_more_lists : (held : List Held) (i : ℕ) (one : Held) → i < length held → one ≡ get_or held i one → (start before after : List Answer) →
      before ≡ start ++ flat_map f (filter test (rrs_of (take i held))) → after ≡ before ++ flat_map f (filter test (one.rr ∷ [])) → after ≡ start ++ flat_map f (filter test (rrs_of (take (i + 1) held)))
  put_more_lists = more_of listed listed_joins

  pub put_own_lists : (own : List Rr) (i : ℕ) (rr : Rr) → i < length own → rr ≡ get_or own i rr → (start before after : List Answer) →
      before ≡ start ++ flat_map f (filter test (take i own)) → after ≡ before ++ flat_map f (filter test (rr ∷ [])) → after ≡ start ++ flat_map f (filter test (take (i + 1) own))
  put_own_lists = own_of listed listed_joins

  pub put_both_lists : (held : List Held) (i : ℕ) (own : List Rr) (j : ℕ) → length held ≤ i → length own ≤ j → (start before after : List Answer) →
      before ≡ start ++ flat_map f (filter test (rrs_of (take i held))) → after ≡ before ++ flat_map f (filter test (take j own)) → after ≡ start ++ flat_map f (filter test (rrs_of held ++ own))
  put_both_lists = both_of listed listed_joins

-- Data that aren't those of an SRV record have no pairs.
pub no_pairs : (place : Rdata) (rrs : List Rr) → (kind_of place ≡ 33 → ⊥) → filter_map (λ txt. resolved_with place txt.rdata) rrs ≡ []
no_pairs (Srv priority weight port target) rrs other = absurd (other refl)
no_pairs _ [] other = refl
no_pairs place (rr ∷ rrs) other = no_pairs place rrs other

-- nothing more is put
pub put_none : (start more : List Answer) → more ≡ [] → start ≡ start ++ more
put_none start more none = sym (append-nil start) ∙ ap (λ (l : List Answer). start ++ l) (sym none)

-- the answers of a request are in order
pub answers-sorted : (request : Request) (rrs : List Rr) → IsSorted answer_cmp (answers_over request rrs)
unfolding answers_over
answers-sorted request rrs = sorted-ordered answer_cmp answer_cmp-total (answers_from request (matching (keys_of request) rrs))
