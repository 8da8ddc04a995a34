-- What is printed of a request is read as it.
use Rattle.std.proofs.Common.{◌≡◌, ℕ, ◌^◌, ◌<◌, Bool, true, false, eqb, List, ◌∷◌, ◌++◌, Some, refl, ap, sym, ◌∙◌, arith, append_assoc, codes, subst}
use Rattle.std.specs.Prelude.{decimal, nat_le}
use Rattle.std.proofs.lemmas.Bool.{and_parts, leb-true, eqb-true, eqb-false}
use Rattle.number_text.specs.Cut.{cut_of}
use Rattle.number_text.specs.Digits.{◌>>=◌}
use Rattle.number_text.proofs.Decimals.{decimal_below_written}
use Rattle.number_text.proofs.Joined.{lacks, cut_of-joined}
use Rattle.dns_name.specs.NameText.{name_text}
use Rattle.dns_record.specs.RecordText.{space, kind_text}
use Rattle.dns_record.proofs.KindTexts.{kind_written}
use Rattle.dns_message.specs.Writing.{is_below, is_spellable_name}
use Rattle.sd_call.specs.declared.request.Request.{Request}
use Rattle.sd_call.specs.declared.request.Request.TheVariants as request
use Rattle.sd_call.specs.CallText.{label_token, type_token, families_text, norename_text}
use Rattle.mdns_history.proofs.TokenTexts.{below, decimal_seen, label_token_seen, type_token_seen}
use Rattle.mdns_history.proofs.Texts.{are_seen}
use Rattle.mdns_history.proofs.RecordTexts.{kind_seen, four}
use Rattle.mdns_script.specs.Tokens.{txt_of}
use Rattle.mdns_script.specs.Requests.{query_of, resolve_of, address_of, norename_of, register_words, register_of, request_of_words, request_of}
use Rattle.mdns_script.specs.CommandText.{txt_words, said_request}
use Rattle.mdns_script.specs.Writable.{is_between, is_writable_text, is_writable_txt, is_writable_request}
use Rattle.mdns_script.proofs.TokensBack.{word_cut, said, label_token_back, type_token_back, name_back, txt_back}

-- a first word, and what is read of the words behind it
request_back : (word text rest : List ℕ) (r : Request) → text ≡ rest → lacks 32 word ≡ false → request_of_words word rest ≡ Some r →
    (cut_of 32 (word ++ 32 ∷ text) >>= λ words. request_of_words words.0 words.1) ≡ Some r
request_back word text rest r e h k =
    rw (cut_of-joined 32 word text h) (ap (request_of_words word) e ∙ k)

query_back : (kind : ℕ) (name : List (List ℕ)) → is_below 16 kind ≡ true → is_spellable_name name ≡ true → query_of (kind_text kind ++ 32 ∷ name_text name) ≡ Some (request.Query kind name)
unfolding query_of
query_back kind name h k =
    let small : kind < 2 ^ 16 = below 16 kind h in
    rw (word_cut (kind_text kind) (name_text name) (kind_seen kind small), kind_written kind small, name_back name k) refl

resolve_back : (label regtype : List ℕ) → is_writable_text label ≡ true → is_writable_text regtype ≡ true → resolve_of (label_token label ++ 32 ∷ type_token regtype) ≡ Some (request.Resolve label regtype)
unfolding resolve_of
resolve_back label regtype h k =
    rw (word_cut (label_token label) (type_token regtype) (label_token_seen label), label_token_back label (said label h), type_token_back regtype (said regtype k)) refl

-- the families of addresses: 1, 2 or 3
families_cases : (n : ℕ) → is_between 1 3 n ≡ true → (P : ℕ → Type 0) → P 1 → P 2 → P 3 → P n
families_cases n h P one two three =
    go (eqb n 1) refl (eqb n 2) refl
  where
    parts : (nat_le 1 n ≡ true) × (nat_le n 3 ≡ true)
    parts = and_parts (nat_le 1 n) (nat_le n 3) h

    go : (a : Bool) → eqb n 1 ≡ a → (b : Bool) → eqb n 2 ≡ b → P n
    go true e b f = subst P (sym (eqb-true n 1 e)) one
    go false e true f = subst P (sym (eqb-true n 2 f)) two
    go false e false f =
        let last : 3 ≡ n = omega (arith, leb-true 1 n parts.0, leb-true n 3 parts.1, eqb-false n 1 e, eqb-false n 2 f) in subst P last three

address_back : (families : ℕ) (name : List (List ℕ)) → is_between 1 3 families ≡ true → is_spellable_name name ≡ true → address_of (families_text families ++ 32 ∷ name_text name) ≡ Some (request.Address families name)
unfolding address_of
address_back families name h k =
    families_cases families h (λ n. address_of (families_text n ++ 32 ∷ name_text name) ≡ Some (request.Address n name))
    (rw (cut_of-joined 32 (codes "v4") (name_text name) refl, name_back name k) refl)
    (rw (cut_of-joined 32 (codes "v6") (name_text name) refl, name_back name k) refl)
    (rw (cut_of-joined 32 (codes "both") (name_text name) refl, name_back name k) refl)

norename_seen : (b : Bool) → are_seen (norename_text b) ≡ true
norename_seen true = refl
norename_seen false = refl

norename_back : (b : Bool) → norename_of (norename_text b) ≡ Some b
norename_back true = refl
norename_back false = refl

register_words_back : (label regtype rest : List ℕ) (port : ℕ) (norename : Bool) → port < 2 ^ 16 →
    register_words (label_token label ++ 32 ∷ (type_token regtype ++ 32 ∷ (decimal port ++ 32 ∷ (norename_text norename ++ 32 ∷ rest))))
    ≡ Some (label_token label, type_token regtype, port, norename, rest)
unfolding register_words
register_words_back label regtype rest port norename small =
    rw (
      word_cut (label_token label) (type_token regtype ++ 32 ∷ (decimal port ++ 32 ∷ (norename_text norename ++ 32 ∷ rest))) (label_token_seen label),
      word_cut (type_token regtype) (decimal port ++ 32 ∷ (norename_text norename ++ 32 ∷ rest)) (type_token_seen regtype),
      word_cut (decimal port) (norename_text norename ++ 32 ∷ rest) (decimal_seen port (omega arith)),
      word_cut (norename_text norename) rest (norename_seen norename),
      decimal_below_written (2 ^ 16) port (omega arith) small,
      norename_back norename,
    )
    refl

register_back : (label regtype rest txt : List ℕ) (port : ℕ) (norename : Bool) → is_writable_text label ≡ true → is_writable_text regtype ≡ true → is_below 16 port ≡ true → txt_of rest ≡ Some txt →
    register_of (label_token label ++ 32 ∷ (type_token regtype ++ 32 ∷ (decimal port ++ 32 ∷ (norename_text norename ++ 32 ∷ rest))))
    ≡ Some (request.Register label regtype port norename txt)
unfolding register_of
register_back label regtype rest txt port norename h k p t =
    rw (register_words_back label regtype rest port norename (below 16 port p), label_token_back label (said label h), type_token_back regtype (said regtype k), t) refl

-- the words of a registration, one behind the other
regrouped : (a b c d w : List ℕ) → ((((((a ++ space) ++ b) ++ space) ++ c) ++ space) ++ d) ++ w ≡ a ++ 32 ∷ (b ++ 32 ∷ (c ++ 32 ∷ (d ++ w)))
regrouped a b c d w = simp append_assoc

-- a request is read as it is printed
pub request_read : (r : Request) → is_writable_request r ≡ true → request_of (said_request r) ≡ Some r
request_read (request.Query kind name) h =
    let p = and_parts (is_below 16 kind) (is_spellable_name name) h in
    request_back (codes "query") _ (kind_text kind ++ 32 ∷ name_text name) (request.Query kind name) (append_assoc (kind_text kind) space (name_text name)) refl (query_back kind name p.0 p.1)
request_read (request.Browse regtype) h =
    request_back (codes "browse") _ (type_token regtype) (request.Browse regtype) refl refl (rw (type_token_back regtype (said regtype h)) refl)
request_read (request.Resolve label regtype) h =
    let p = and_parts (is_writable_text label) (is_writable_text regtype) h in
    request_back (codes "resolve") _ (label_token label ++ 32 ∷ type_token regtype) (request.Resolve label regtype) (append_assoc (label_token label) space (type_token regtype)) refl
    (resolve_back label regtype p.0 p.1)
request_read (request.Address families name) h =
    let p = and_parts (is_between 1 3 families) (is_spellable_name name) h in
    request_back (codes "address") _ (families_text families ++ 32 ∷ name_text name) (request.Address families name) (append_assoc (families_text families) space (name_text name)) refl
    (address_back families name p.0 p.1)
request_read (request.Register label regtype port norename txt) h =
    let p = four (is_writable_text label) (is_writable_text regtype) (is_below 16 port) (is_writable_txt txt) h in
    let t = txt_back txt p.3 in
    request_back (codes "register") _ (label_token label ++ 32 ∷ (type_token regtype ++ 32 ∷ (decimal port ++ 32 ∷ (norename_text norename ++ 32 ∷ t.rest))))
    (request.Register label regtype port norename txt)
    (regrouped (label_token label) (type_token regtype) (decimal port) (norename_text norename) (txt_words txt)
    ∙ ap (λ (w : List ℕ). label_token label ++ 32 ∷ (type_token regtype ++ 32 ∷ (decimal port ++ 32 ∷ (norename_text norename ++ w)))) t.words)
    refl (register_back label regtype t.rest txt port norename p.0 p.1 p.2 t.read)
request_read (request.Update txt) h =
    let t = txt_back txt h in
    ap (λ (w : List ℕ). cut_of 32 (codes "update" ++ w) >>= λ words. request_of_words words.0 words.1) t.words
    ∙ request_back (codes "update") _ t.rest (request.Update txt) refl refl (rw t.read refl)
request_read request.Stop h = refl
