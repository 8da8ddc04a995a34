-- Parts of a list and the queries of a batch, one element after another.
use Rattle.std.proofs.Common.{◌≡◌, ℕ, true≢false, map, ◌+◌, ◌<◌, Bool, true, false, cond, List, [], ◌∷◌, ◌++◌, length, take, drop, get_or, refl, ap, ◌∙◌, sym, append_assoc, arith}
use Rattle.std.specs.Prelude.{filter}
use Rattle.std.proofs.lemmas.List.{drop_more, take_more, take-map}
use Rattle.dns_record.specs.declared.record.Key.{Key}
use Rattle.dns_record.specs.declared.record.Rr.{Rr}
use Rattle.dns_record.specs.declared.record.Question.{Question}
use Rattle.dns_message.specs.declared.message.Message.{Message}
use Rattle.dns_message.specs.Packing.{query_with, bare_query, question_for, fits, parts_from, parts_of, query_chain}
use Rattle.dns_message.specs.Drafting.{with_answer}

module _ {X : Type 0} (fitting : List X → Bool) where
  -- the parts of a list, of which so many elements are in the first part for sure
  abbrev pub parts_behind : ℕ → List X → List (List X)
  parts_behind n xs = parts_from fitting fitting (take n xs) (drop n xs)

  parts_more-raw : (xs : List X) (n : ℕ) → n < length xs → (d : X) →
      parts_behind n xs ≡ parts_from fitting fitting (take n xs) (get_or xs n d ∷ drop (n + 1) xs)
  parts_more-raw xs n h d = ap (λ (rest : List X). parts_from fitting fitting (take n xs) rest) (drop_more xs n d h)

  -- one more element fits
  pub parts_grown : (xs : List X) (n : ℕ) → n < length xs → fitting (take (n + 1) xs) ≡ true → parts_behind n xs ≡ parts_behind (n + 1) xs
  parts_grown [] n h e = absurd (omega arith)
  parts_grown (x ∷ more) n h e = let xs : List X = x ∷ more in
      parts_more-raw xs n h x
      ∙ at (fitting (take n xs ++ get_or xs n x ∷ [])) (sym (ap fitting (take_more xs n x h)) ∙ e)
      ∙ ap (λ (part : List X). parts_from fitting fitting part (drop (n + 1) xs)) (sym (take_more xs n x h))
    where
      xs : List X
      xs = x ∷ more

      grown : List (List X)
      grown = parts_from fitting fitting (take n xs ++ get_or xs n x ∷ []) (drop (n + 1) xs)

      at : (b : Bool) → b ≡ true → cond b grown (take n xs ∷ parts_from fitting fitting (get_or xs n x ∷ []) (drop (n + 1) xs)) ≡ grown
      at true k = refl
      at false k = absurd (cc)

  -- one more doesn't fit
  pub parts_cut : (xs : List X) (n : ℕ) → n < length xs → fitting (take (n + 1) xs) ≡ false → parts_behind n xs ≡ take n xs ∷ parts_of fitting (drop n xs)
  parts_cut [] n h e = absurd (omega arith)
  parts_cut (x ∷ more) n h e =
      parts_more-raw xs n h x
      ∙ at (fitting (take n xs ++ get_or xs n x ∷ [])) (sym (ap fitting (take_more xs n x h)) ∙ e)
      ∙ ap (λ (rest : List X). take n xs ∷ parts_of fitting rest) (sym (drop_more xs n x h))
    where
      xs : List X
      xs = x ∷ more

      cut : List (List X)
      cut = take n xs ∷ parts_from fitting fitting (get_or xs n x ∷ []) (drop (n + 1) xs)

      at : (b : Bool) → b ≡ false → cond b (parts_from fitting fitting (take n xs ++ get_or xs n x ∷ []) (drop (n + 1) xs)) cut ≡ cut
      at true k = absurd (cc)
      at false k = refl

  -- at the start the first element is in the first part
  pub parts_begun : (xs : List X) → 0 < length xs → parts_of fitting xs ≡ parts_behind 1 xs
  parts_begun [] h = absurd (omega arith)
  parts_begun (x ∷ xs) h = refl

  -- at the end all elements are
  pub parts_whole : (xs : List X) → parts_behind (length xs) xs ≡ take (length xs) xs ∷ parts_of fitting (drop (length xs) xs)
  parts_whole xs = at (drop (length xs) xs) (dropped xs)
    where
      dropped : (ys : List X) → drop (length ys) ys ≡ []
      dropped [] = refl
      dropped (y ∷ ys) = dropped ys

      at : (rest : List X) → rest ≡ [] → parts_from fitting fitting (take (length xs) xs) rest ≡ take (length xs) xs ∷ parts_of fitting rest
      at [] k = refl
      at (y ∷ ys) k = absurd (cc)

-- the messages that a query with this part of its known answers, and those that are left, make
abbrev pub rest_of : List Question → List Rr → List Rr → List Message
rest_of questions part rrs = query_chain questions (parts_from (λ rrs. fits (bare_query questions rrs)) (λ rrs. fits (bare_query [] rrs)) part rrs)

-- parts follow behind one more part
chain_cut : (questions : List Question) (first later : List Rr → Bool) (before part rrs : List Rr) →
    query_chain questions (before ∷ parts_from first later part rrs) ≡ query_with questions before true ∷ query_chain [] (parts_from first later part rrs)
chain_cut questions first later before part [] = refl
chain_cut questions first later before part (rr ∷ rrs) = at (first (part ++ rr ∷ [])) (chain_cut questions first later before (part ++ rr ∷ []) rrs)
  where
    grown : List (List Rr)
    grown = parts_from first later (part ++ rr ∷ []) rrs

    cut : List (List Rr)
    cut = part ∷ parts_from later later (rr ∷ []) rrs

    at : (b : Bool) → query_chain questions (before ∷ grown) ≡ query_with questions before true ∷ query_chain [] grown →
        query_chain questions (before ∷ cond b grown cut) ≡ query_with questions before true ∷ query_chain [] (cond b grown cut)
    at true ih = ih
    at false ih = refl

-- one more known answer goes into the message, or begins the next
pub rest_grown : (questions : List Question) (part : List Rr) (rr : Rr) (rrs : List Rr) → fits (bare_query questions (part ++ rr ∷ [])) ≡ true →
    rest_of questions part (rr ∷ rrs) ≡ rest_of questions (part ++ rr ∷ []) rrs
rest_grown questions part rr rrs e = at (fits (bare_query questions (part ++ rr ∷ []))) e
  where
    first : List Rr → Bool
    first xs = fits (bare_query questions xs)

    later : List Rr → Bool
    later xs = fits (bare_query [] xs)

    at : (b : Bool) → b ≡ true → query_chain questions (cond b (parts_from first later (part ++ rr ∷ []) rrs) (part ∷ parts_from later later (rr ∷ []) rrs))
        ≡ query_chain questions (parts_from first later (part ++ rr ∷ []) rrs)
    at true k = refl
    at false k = absurd (cc)

pub rest_cut : (questions : List Question) (part : List Rr) (rr : Rr) (rrs : List Rr) → fits (bare_query questions (part ++ rr ∷ [])) ≡ false →
    rest_of questions part (rr ∷ rrs) ≡ query_with questions part true ∷ rest_of [] (rr ∷ []) rrs
rest_cut questions part rr rrs e = at (fits (bare_query questions (part ++ rr ∷ []))) e ∙ chain_cut questions later later part (rr ∷ []) rrs
  where
    first : List Rr → Bool
    first xs = fits (bare_query questions xs)

    later : List Rr → Bool
    later xs = fits (bare_query [] xs)

    at : (b : Bool) → b ≡ false → query_chain questions (cond b (parts_from first later (part ++ rr ∷ []) rrs) (part ∷ parts_from later later (rr ∷ []) rrs))
        ≡ query_chain questions (part ∷ parts_from later later (rr ∷ []) rrs)
    at true k = absurd (cc)
    at false k = refl

-- a known answer that isn't asked for is passed over
pub passed_over : (asked : Rr → Bool) (known : List Rr) (i : ℕ) (rr : Rr) → i < length known → rr ≡ get_or known i rr → asked rr ≡ false →
    filter asked (drop i known) ≡ filter asked (drop (i + 1) known)
passed_over asked known i rr h e none =
    ap (filter asked) (drop_more known i rr h ∙ ap (λ (x : Rr). x ∷ drop (i + 1) known) (sym e)) ∙ at (asked rr) none
  where
    at : (b : Bool) → b ≡ false → cond b (rr ∷ filter asked (drop (i + 1) known)) (filter asked (drop (i + 1) known)) ≡ filter asked (drop (i + 1) known)
    at true k = absurd (cc)
    at false k = refl

-- one that is asked for is the next
pub next_asked : (asked : Rr → Bool) (known : List Rr) (i : ℕ) (rr : Rr) → i < length known → rr ≡ get_or known i rr → asked rr ≡ true →
    filter asked (drop i known) ≡ rr ∷ filter asked (drop (i + 1) known)
next_asked asked known i rr h e some =
    ap (filter asked) (drop_more known i rr h ∙ ap (λ (x : Rr). x ∷ drop (i + 1) known) (sym e)) ∙ at (asked rr) some
  where
    at : (b : Bool) → b ≡ true → cond b (rr ∷ filter asked (drop (i + 1) known)) (filter asked (drop (i + 1) known)) ≡ rr ∷ filter asked (drop (i + 1) known)
    at true k = refl
    at false k = absurd (cc)

-- the messages so far and a query that may grow, to which these known answers are still to come
pub record IsUnderway (all messages : List Message) (message : Message) (rrs : List Rr) : Type 0 where
  pub left : all ≡ messages ++ rest_of message.questions message.answers rrs
  pub bare : message ≡ bare_query message.questions message.answers

underway-moved : (all messages messages' : List Message) (message message' : Message) (rrs : List Rr) → messages' ≡ messages → message' ≡ message →
    IsUnderway all messages message rrs → IsUnderway all messages' message' rrs
underway-moved all messages messages' message message' rrs e f h = record {
  left = h.left ∙ sym (ap (λ (l : List Message). l ++ rest_of message.questions message.answers rrs) e) ∙ sym (ap (λ (m : Message). messages' ++ rest_of m.questions m.answers rrs) f);
  bare = f ∙ h.bare ∙ sym (ap (λ (m : Message). bare_query m.questions m.answers) f);
}

-- one more record, that isn't asked for
pub underway-over : (all messages messages' : List Message) (message message' : Message) (asked : Rr → Bool) (known : List Rr) (i : ℕ) (rr : Rr) →
    i < length known → rr ≡ get_or known i rr → asked rr ≡ false → messages' ≡ messages → message' ≡ message →
    IsUnderway all messages message (filter asked (drop i known)) → IsUnderway all messages' message' (filter asked (drop (i + 1) known))
underway-over all messages messages' message message' asked known i rr within is none e f h =
    underway-moved all messages messages' message message' (filter asked (drop (i + 1) known)) e f
    (record {
      left = h.left ∙ ap (λ (rrs : List Rr). messages ++ rest_of message.questions message.answers rrs) (passed_over asked known i rr within is none);
      bare = h.bare;
    })

-- one that is put into the query, or begins the next
pub underway-put : (all messages messages' : List Message) (message message' : Message) (asked : Rr → Bool) (known : List Rr) (i : ℕ) (rr : Rr) →
    i < length known → rr ≡ get_or known i rr → asked rr ≡ true →
    messages' ≡ cond (fits (with_answer message rr)) messages (messages ++ query_with message.questions message.answers true ∷ []) →
    message' ≡ cond (fits (with_answer message rr)) (with_answer message rr) (bare_query [] (rr ∷ [])) →
    IsUnderway all messages message (filter asked (drop i known)) → IsUnderway all messages' message' (filter asked (drop (i + 1) known))
underway-put all messages messages' message message' asked known i rr within is some e f h = at (fits (with_answer message rr)) refl e f
  where
    rrs : List Rr
    rrs = filter asked (drop (i + 1) known)

    same : fits (with_answer message rr) ≡ fits (bare_query message.questions (message.answers ++ rr ∷ []))
    same = ap (λ (m : Message). fits (with_answer m rr)) h.bare

    before : all ≡ messages ++ rest_of message.questions message.answers (rr ∷ rrs)
    before = h.left ∙ ap (λ (xs : List Rr). messages ++ rest_of message.questions message.answers xs) (next_asked asked known i rr within is some)

    at : (b : Bool) → fits (with_answer message rr) ≡ b → messages' ≡ cond b messages (messages ++ query_with message.questions message.answers true ∷ []) →
        message' ≡ cond b (with_answer message rr) (bare_query [] (rr ∷ [])) → IsUnderway all messages' message' rrs
    at true k q p =
        underway-moved all messages messages' (with_answer message rr) message' rrs q p
        (record {
          left = before ∙ ap (λ (x : List Message). messages ++ x) (rest_grown message.questions message.answers rr rrs (sym same ∙ k));
          bare = ap (λ (m : Message). with_answer m rr) h.bare;
        })
    at false k q p =
        underway-moved all (messages ++ query_with message.questions message.answers true ∷ []) messages' (bare_query [] (rr ∷ [])) message' rrs q p
        (record {
          left =
              before ∙ ap (λ (x : List Message). messages ++ x) (rest_cut message.questions message.answers rr rrs (sym same ∙ k))
              ∙ sym (append_assoc messages (query_with message.questions message.answers true ∷ []) (rest_of [] (rr ∷ []) rrs));
          bare = refl;
        })

-- one more question of those for keys
pub asked_more : (keys : List Key) (questions : List Question) (n : ℕ) (q : Question) → questions ≡ map question_for keys → n < length questions → q ≡ get_or questions n q
    → map question_for (take (n + 1) keys) ≡ map question_for (take n keys) ++ q ∷ []
asked_more keys questions n q same h is =
    sym (take-map question_for (n + 1) keys) ∙ ap (take (n + 1)) (sym same) ∙ take_more questions n q h
    ∙ ap (λ (x : Question). take n questions ++ x ∷ []) (sym is)
    ∙ ap (λ (l : List Question). l ++ q ∷ []) (ap (take n) same ∙ take-map question_for n keys)

-- what a test lets through
pub let_through : {X : Type 0} (b r : Bool) (x y after : X) → r ≡ b → r ≡ true → after ≡ cond b x y → after ≡ x
let_through true r x y after e t h = h
let_through false r x y after e t h = absurd (true≢false (sym t ∙ e))
