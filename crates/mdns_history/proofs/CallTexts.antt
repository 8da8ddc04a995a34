-- Requests, answers and items as text: they stand in a line, and tell what they are the text of.
use Rattle.std.proofs.Common.{◌≡◌, ℕ, ℤ, ◌+◌, ◌^◌, ◌<◌, Bool, true, false, cond, ◌&&◌, eqb, List, [], ◌∷◌, ◌++◌, Option, Some, None, refl, ap, sym, ◌∙◌, arith, codes, append_assoc, drop}
use Rattle.std.specs.Prelude.{decimal}
use Rattle.std.specs.Char.{is_ascii_digit}
use Rattle.std.specs.Fmt.{signed_decimal}
use Rattle.std.specs.Str.{bytes_eq}
use Rattle.std.proofs.lemmas.Bool.{eqb-true, and_parts}
use Rattle.std.proofs.lemmas.Slice.Eq.{bytes_eq-Decides}
use Rattle.number_text.specs.Digits.{hex_text, decimal_below}
use Rattle.number_text.proofs.Decimals.{decimal_below_written}
use Rattle.dns_name.specs.NameText.{name_text}
use Rattle.dns_record.specs.Records.{kind_of}
use Rattle.dns_record.specs.RecordText.{space, kind_name, kind_text, srv_text, data_text}
use Rattle.dns_record.specs.ReadRecord.{kind_read, numbered_kind}
use Rattle.dns_record.specs.declared.record.Rdata.{Rdata}
use Rattle.dns_record.proofs.KindTexts.{kind_written}
use Rattle.dns_message.specs.Writing.{is_below, are_bytes, is_spellable_name, is_spellable_data}
use Rattle.sd_call.specs.declared.request.Request.{Request}
use Rattle.sd_call.specs.declared.request.Request.TheVariants as request
use Rattle.sd_call.specs.declared.request.Verb.{Verb}
use Rattle.sd_call.specs.declared.request.Verb.TheVariants as verb
use Rattle.sd_call.specs.declared.answer.Answer.{Answer}
use Rattle.sd_call.specs.declared.answer.Answer.TheVariants.{Datum, Found, Resolved, Named, Conflict}
use Rattle.sd_call.specs.declared.item.Item.{Item}
use Rattle.sd_call.specs.declared.item.Item.TheVariants.{Reply, Add, Remove}
use Rattle.sd_call.specs.CallText.{label_token, type_token, families_text, norename_text, request_text, answer_text, verb_text, item_text}
use Rattle.mdns_history.specs.Typed.{is_signed, is_text, is_typed_request, is_typed_answer, is_typed_item}
use Rattle.mdns_history.proofs.Texts.{are_seen, in_line, line_joined, seen_line, apart, lead}
use Rattle.mdns_history.proofs.TokenTexts.{below, decimal_seen, decimal_told, decimal_no_word, signed_seen, signed_told, hex_seen, hex_told, label_token_seen, label_token_told, type_token_seen, type_token_told, name_seen, name_told}
use Rattle.mdns_history.proofs.RecordTexts.{kind_seen, kind_told, data_told, data_line, kind_small, srv_line, number_line, four}

-- the test of a number's size, with what it says of a decimal
pub number_seen : (bits n : ℕ) → is_below bits n ≡ true → 2 ^ bits < 2 ^ 64 + 1 → are_seen (decimal n) ≡ true
number_seen bits n h small = let less : n < 2 ^ bits = below bits n h in decimal_seen n (omega arith)

pub number_told : (bits m n : ℕ) → is_below bits m ≡ true → is_below bits n ≡ true → 2 ^ bits < 2 ^ 64 + 1 → decimal m ≡ decimal n → m ≡ n
number_told bits m n h k small e = let p : m < 2 ^ bits = below bits m h in let q : n < 2 ^ bits = below bits n k in decimal_told m n (omega arith) (omega arith) e

-- two tokens with a space behind each
pub words : (t u x y : List ℕ) → are_seen t ≡ true → are_seen u ≡ true → t ++ 32 ∷ x ≡ u ++ 32 ∷ y → (t ≡ u) × (x ≡ y)
words t u x y h k e = let p = apart t u (32 ∷ x) (32 ∷ y) h k refl refl e in let rest : x ≡ y = cc in (p.0, rest)

-- ---- families

families_seen : (n : ℕ) → is_below 8 n ≡ true → are_seen (families_text n) ≡ true
families_seen n h = go (eqb n 1) (eqb n 2) (eqb n 3)
  where
    go : (a b c : Bool) → are_seen (cond a (codes "v4") (cond b (codes "v6") (cond c (codes "both") (decimal n)))) ≡ true
    go true b c = refl
    go false true c = refl
    go false false true = refl
    go false false false = number_seen 8 n h (omega arith)

abbrev families_read : List ℕ → Option ℕ
families_read text =
    cond (bytes_eq text (codes "v4")) (Some 1) (cond (bytes_eq text (codes "v6")) (Some 2) (cond (bytes_eq text (codes "both")) (Some 3) (decimal_below (2 ^ 16) text)))

no_word : (n c : ℕ) (t : List ℕ) → n < 2 ^ 64 → is_ascii_digit c ≡ false → bytes_eq (decimal n) (c ∷ t) ≡ false
no_word n c t h k = of (bytes_eq (decimal n) (c ∷ t)) refl
  where
    of : (b : Bool) → bytes_eq (decimal n) (c ∷ t) ≡ b → b ≡ false
    of true e = decimal_no_word n c t h k ((bytes_eq-Decides (decimal n) (c ∷ t)).0 e)
    of false e = refl

families_back : (n : ℕ) → is_below 8 n ≡ true → families_read (families_text n) ≡ Some n
families_back n h = go (eqb n 1) refl (eqb n 2) refl (eqb n 3) refl
  where
    go : (a : Bool) → eqb n 1 ≡ a → (b : Bool) → eqb n 2 ≡ b → (c : Bool) → eqb n 3 ≡ c → families_read (cond a (codes "v4") (cond b (codes "v6") (cond c (codes "both") (decimal n)))) ≡ Some n
    go true e b f c g = ap Some (sym (eqb-true n 1 e))
    go false e true f c g = ap Some (sym (eqb-true n 2 f))
    go false e false f true g = ap Some (sym (eqb-true n 3 g))
    go false e false f false g =
        let small : n < 2 ^ 8 = below 8 n h in
        rw (no_word n 118 (52 ∷ []) (omega arith) refl, no_word n 118 (54 ∷ []) (omega arith) refl, no_word n 98 (codes "oth") (omega arith) refl) (decimal_below_written (2 ^ 16) n (omega arith) (omega arith))

families_told : (m n : ℕ) → is_below 8 m ≡ true → is_below 8 n ≡ true → families_text m ≡ families_text n → m ≡ n
families_told m n h k e = some_same (sym (families_back m h) ∙ ap families_read e ∙ families_back n k)
  where
    some_same : Some m ≡ Some n → m ≡ n
    some_same h = cc

-- ---- requests

norename_seen : (b : Bool) → are_seen (norename_text b) ≡ true
norename_seen true = refl
norename_seen false = refl

norename_told : (a b : Bool) → norename_text a ≡ norename_text b → a ≡ b
norename_told true true e = refl
norename_told false false e = refl
norename_told true false e = let no : true ≡ false = ap (λ (t : List ℕ). eqb (lead t) 7957704846556097893) e in cc
norename_told false true e = let no : false ≡ true = ap (λ (t : List ℕ). eqb (lead t) 7957704846556097893) e in cc

text_bytes : (t : List ℕ) → is_text t ≡ true → are_bytes t ≡ true
text_bytes t h = (and_parts (are_bytes t) _ h).0

pub request_line : (r : Request) → is_typed_request r ≡ true → in_line (request_text r) ≡ true
request_line (request.Query kind name) h =
    let p = and_parts (is_below 16 kind) (is_spellable_name name) h in
    line_joined ((codes "query " ++ kind_text kind) ++ space) (name_text name)
    (line_joined (codes "query " ++ kind_text kind) space (line_joined (codes "query ") (kind_text kind) refl (seen_line (kind_text kind) (kind_seen kind (below 16 kind p.0)))) refl)
    (seen_line (name_text name) (name_seen name))
request_line (request.Browse regtype) h = line_joined (codes "browse ") (type_token regtype) refl (seen_line (type_token regtype) (type_token_seen regtype))
request_line (request.Resolve label regtype) h =
    line_joined ((codes "resolve " ++ label_token label) ++ space) (type_token regtype)
    (line_joined (codes "resolve " ++ label_token label) space (line_joined (codes "resolve ") (label_token label) refl (seen_line (label_token label) (label_token_seen label))) refl)
    (seen_line (type_token regtype) (type_token_seen regtype))
request_line (request.Address families name) h =
    let p = and_parts (is_below 8 families) (is_spellable_name name) h in
    line_joined ((codes "address " ++ families_text families) ++ space) (name_text name)
    (line_joined (codes "address " ++ families_text families) space (line_joined (codes "address ") (families_text families) refl (seen_line (families_text families) (families_seen families p.0))) refl)
    (seen_line (name_text name) (name_seen name))
request_line (request.Register label regtype port norename txt) h =
    let p = four (is_text label) (is_text regtype) (is_below 16 port) (are_bytes txt) h in
    let a = codes "register " ++ label_token label in
    let b = (a ++ space) ++ type_token regtype in
    let c = (b ++ space) ++ decimal port in
    let d = (c ++ space) ++ norename_text norename in
    line_joined (d ++ space) (hex_text txt)
    (line_joined d space
    (line_joined (c ++ space) (norename_text norename)
    (line_joined c space
    (line_joined (b ++ space) (decimal port)
    (line_joined b space
    (line_joined (a ++ space) (type_token regtype)
    (line_joined a space (line_joined (codes "register ") (label_token label) refl (seen_line (label_token label) (label_token_seen label))) refl)
    (seen_line (type_token regtype) (type_token_seen regtype))) refl)
    (number_line 16 port p.2 (omega arith))) refl)
    (seen_line (norename_text norename) (norename_seen norename))) refl)
    (seen_line (hex_text txt) (hex_seen txt p.3))
request_line (request.Update txt) h = line_joined (codes "update ") (hex_text txt) refl (seen_line (hex_text txt) (hex_seen txt h))
request_line request.Stop h = refl

regroup : (a b c : List ℕ) → (a ++ b) ++ c ≡ a ++ (b ++ c)
regroup a b c = append_assoc a b c

register_told : (a b : List ℕ) (r s : List ℕ) (p q : ℕ) (n m : Bool) (x y : List ℕ) → are_bytes a ≡ true → are_bytes b ≡ true → are_bytes r ≡ true → are_bytes s ≡ true → is_below 16 p ≡ true → is_below 16 q ≡ true → are_bytes x ≡ true → are_bytes y ≡ true →
    label_token a ++ (32 ∷ (type_token r ++ (32 ∷ (decimal p ++ (32 ∷ (norename_text n ++ (32 ∷ hex_text x))))))) ≡ label_token b ++ (32 ∷ (type_token s ++ (32 ∷ (decimal q ++ (32 ∷ (norename_text m ++ (32 ∷ hex_text y))))))) →
    request.Register a r p n x ≡ request.Register b s q m y
register_told a b r s p q n m x y ha hb hr hs hp hq hx hy e =
    let first = words (label_token a) (label_token b) _ _ (label_token_seen a) (label_token_seen b) e in
    let second = words (type_token r) (type_token s) _ _ (type_token_seen r) (type_token_seen s) first.1 in
    let third = words (decimal p) (decimal q) _ _ (number_seen 16 p hp (omega arith)) (number_seen 16 q hq (omega arith)) second.1 in
    let fourth = words (norename_text n) (norename_text m) _ _ (norename_seen n) (norename_seen m) third.1 in
    let ea : a ≡ b = label_token_told a b ha hb first.0 in
    let er : r ≡ s = type_token_told r s hr hs second.0 in
    let ep : p ≡ q = number_told 16 p q hp hq (omega arith) third.0 in
    let en : n ≡ m = norename_told n m fourth.0 in
    let ex : x ≡ y = hex_told x y hx hy fourth.1 in
    λ i. request.Register (ea i) (er i) (ep i) (en i) (ex i)

-- a registration's text, token by token
register_tokens : (a r : List ℕ) (p : ℕ) (n : Bool) (x : List ℕ) →
    drop 9 (request_text (request.Register a r p n x)) ≡ label_token a ++ (32 ∷ (type_token r ++ (32 ∷ (decimal p ++ (32 ∷ (norename_text n ++ (32 ∷ hex_text x)))))))
register_tokens a r p n x = simp append_assoc

pub request_told : (r s : Request) → is_typed_request r ≡ true → is_typed_request s ≡ true → request_text r ≡ request_text s → r ≡ s
request_told (request.Query k n) (request.Query l m) h j e =
    let p = and_parts (is_below 16 k) (is_spellable_name n) h in
    let q = and_parts (is_below 16 l) (is_spellable_name m) j in
    let f : kind_text k ++ 32 ∷ name_text n ≡ kind_text l ++ 32 ∷ name_text m = sym (regroup (kind_text k) space (name_text n)) ∙ ap (drop 6) e ∙ regroup (kind_text l) space (name_text m) in
    let w = words (kind_text k) (kind_text l) (name_text n) (name_text m) (kind_seen k (below 16 k p.0)) (kind_seen l (below 16 l q.0)) f in
    let ek : k ≡ l = kind_told k l (below 16 k p.0) (below 16 l q.0) w.0 in
    let en : n ≡ m = name_told n m p.1 q.1 w.1 in
    λ i. request.Query (ek i) (en i)
request_told (request.Browse r) (request.Browse s) h j e = ap (λ (t : List ℕ). request.Browse t) (type_token_told r s (text_bytes r h) (text_bytes s j) (ap (drop 7) e))
request_told (request.Resolve l r) (request.Resolve m s) h j e =
    let p = and_parts (is_text l) (is_text r) h in
    let q = and_parts (is_text m) (is_text s) j in
    let f : label_token l ++ 32 ∷ type_token r ≡ label_token m ++ 32 ∷ type_token s = sym (regroup (label_token l) space (type_token r)) ∙ ap (drop 8) e ∙ regroup (label_token m) space (type_token s) in
    let w = words (label_token l) (label_token m) (type_token r) (type_token s) (label_token_seen l) (label_token_seen m) f in
    let el : l ≡ m = label_token_told l m (text_bytes l p.0) (text_bytes m q.0) w.0 in
    let er : r ≡ s = type_token_told r s (text_bytes r p.1) (text_bytes s q.1) w.1 in
    λ i. request.Resolve (el i) (er i)
request_told (request.Address k n) (request.Address l m) h j e =
    let p = and_parts (is_below 8 k) (is_spellable_name n) h in
    let q = and_parts (is_below 8 l) (is_spellable_name m) j in
    let f : families_text k ++ 32 ∷ name_text n ≡ families_text l ++ 32 ∷ name_text m = sym (regroup (families_text k) space (name_text n)) ∙ ap (drop 8) e ∙ regroup (families_text l) space (name_text m) in
    let w = words (families_text k) (families_text l) (name_text n) (name_text m) (families_seen k p.0) (families_seen l q.0) f in
    let ek : k ≡ l = families_told k l p.0 q.0 w.0 in
    let en : n ≡ m = name_told n m p.1 q.1 w.1 in
    λ i. request.Address (ek i) (en i)
request_told (request.Register a r p n x) (request.Register b s q m y) h j e =
    let g = four (is_text a) (is_text r) (is_below 16 p) (are_bytes x) h in
    let k = four (is_text b) (is_text s) (is_below 16 q) (are_bytes y) j in
    register_told a b r s p q n m x y (text_bytes a g.0) (text_bytes b k.0) (text_bytes r g.1) (text_bytes s k.1) g.2 k.2 g.3 k.3
    (sym (register_tokens a r p n x) ∙ ap (drop 9) e ∙ register_tokens b s q m y)
request_told (request.Update x) (request.Update y) h j e = ap (λ (t : List ℕ). request.Update t) (hex_told x y h j (ap (drop 7) e))
request_told request.Stop request.Stop h j e = refl
request_told r s h j e = absurd (omega (arith, ap lead e))

-- ---- answers

five : (a b c d e : Bool) → (a && b && c && d && e) ≡ true → (a ≡ true) × (b ≡ true) × (c ≡ true) × (d ≡ true) × (e ≡ true)
five true true true true true h = (refl, refl, refl, refl, refl)
five false b c d e h = cc
five true false c d e h = cc
five true true false d e h = cc
five true true true false e h = cc
five true true true true false h = cc

pub answer_line : (a : Answer) → is_typed_answer a ≡ true → in_line (answer_text a) ≡ true
answer_line (Datum rdata) h =
    line_joined (kind_text (kind_of rdata) ++ space) (data_text rdata)
    (line_joined (kind_text (kind_of rdata)) space (seen_line (kind_text (kind_of rdata)) (kind_seen (kind_of rdata) (kind_small rdata h))) refl) (data_line rdata h)
answer_line (Found instance) h = line_joined (codes "found ") (name_text instance) refl (seen_line (name_text instance) (name_seen instance))
answer_line (Resolved priority weight port target txt) h =
    let p = five (is_below 16 priority) (is_below 16 weight) (is_below 16 port) (is_spellable_name target) (are_bytes txt) h in
    line_joined ((codes "resolved " ++ srv_text priority weight port target) ++ space) (hex_text txt)
    (line_joined (codes "resolved " ++ srv_text priority weight port target) space
    (line_joined (codes "resolved ") (srv_text priority weight port target) refl (srv_line priority weight port target p.0 p.1 p.2)) refl)
    (seen_line (hex_text txt) (hex_seen txt p.4))
answer_line (Named full) h = line_joined (codes "named ") (name_text full) refl (seen_line (name_text full) (name_seen full))
answer_line Conflict h = refl

-- a type is none of the words for answers
no_kind : (k : ℕ) (t word : List ℕ) → k < 2 ^ 16 → kind_text k ≡ word → kind_read word ≡ None → true ≡ false
no_kind k t word h e none = of (sym (kind_written k h) ∙ ap kind_read e ∙ none)
  where
    of : Some k ≡ None → true ≡ false
    of h = cc

found_no_kind : kind_read (codes "found") ≡ None
unfolding kind_read numbered_kind kind_name
found_no_kind = refl

resolved_no_kind : kind_read (codes "resolved") ≡ None
unfolding kind_read numbered_kind kind_name
resolved_no_kind = refl

named_no_kind : kind_read (codes "named") ≡ None
unfolding kind_read numbered_kind kind_name
named_no_kind = refl

conflict_no_kind : kind_read (codes "conflict") ≡ None
unfolding kind_read numbered_kind kind_name
conflict_no_kind = refl

-- so an answer that begins with a type is none that begins with such a word
no_datum : (rdata : Rdata) (word x : List ℕ) → is_spellable_data rdata ≡ true → are_seen word ≡ true → kind_read word ≡ None → (kind_text (kind_of rdata) ++ space) ++ data_text rdata ≡ word ++ 32 ∷ x → true ≡ false
no_datum rdata word x h seen none e =
    let w = words (kind_text (kind_of rdata)) word (data_text rdata) x (kind_seen (kind_of rdata) (kind_small rdata h)) seen (sym (regroup (kind_text (kind_of rdata)) space (data_text rdata)) ∙ e) in
    no_kind (kind_of rdata) [] word (kind_small rdata h) w.0 none

no_conflict : (rdata : Rdata) → is_spellable_data rdata ≡ true → (kind_text (kind_of rdata) ++ space) ++ data_text rdata ≡ codes "conflict" → true ≡ false
no_conflict rdata h e =
    let w = apart (kind_text (kind_of rdata)) (codes "conflict") (32 ∷ data_text rdata) [] (kind_seen (kind_of rdata) (kind_small rdata h)) refl refl tt
    (sym (regroup (kind_text (kind_of rdata)) space (data_text rdata)) ∙ e) in
    no_kind (kind_of rdata) [] (codes "conflict") (kind_small rdata h) w.0 conflict_no_kind

resolved_tokens : (p w o : ℕ) (t : List (List ℕ)) (x : List ℕ) → drop 9 (answer_text (Resolved p w o t x)) ≡ decimal p ++ (32 ∷ (decimal w ++ (32 ∷ (decimal o ++ (32 ∷ (name_text t ++ (32 ∷ hex_text x)))))))
resolved_tokens p w o t x = simp append_assoc

resolved_words : (p w o : ℕ) (t : List (List ℕ)) (x : List ℕ) → answer_text (Resolved p w o t x) ≡ codes "resolved" ++ 32 ∷ drop 9 (answer_text (Resolved p w o t x))
resolved_words p w o t x = refl

pub answer_told : (a b : Answer) → is_typed_answer a ≡ true → is_typed_answer b ≡ true → answer_text a ≡ answer_text b → a ≡ b
answer_told (Datum r) (Datum s) h j e =
    let kr = kind_small r h in
    let ks = kind_small s j in
    let w = words (kind_text (kind_of r)) (kind_text (kind_of s)) (data_text r) (data_text s) (kind_seen (kind_of r) kr) (kind_seen (kind_of s) ks)
    (sym (regroup (kind_text (kind_of r)) space (data_text r)) ∙ e ∙ regroup (kind_text (kind_of s)) space (data_text s)) in
    ap (λ (d : Rdata). Datum d) (data_told r s h j (kind_told (kind_of r) (kind_of s) kr ks w.0) w.1)
answer_told (Found n) (Found m) h j e = ap (λ (t : List (List ℕ)). Found t) (name_told n m h j (ap (drop 6) e))
answer_told (Named n) (Named m) h j e = ap (λ (t : List (List ℕ)). Named t) (name_told n m h j (ap (drop 6) e))
answer_told Conflict Conflict h j e = refl
answer_told (Resolved p w o t x) (Resolved q v u n y) h j e =
    let g = five (is_below 16 p) (is_below 16 w) (is_below 16 o) (is_spellable_name t) (are_bytes x) h in
    let k = five (is_below 16 q) (is_below 16 v) (is_below 16 u) (is_spellable_name n) (are_bytes y) j in
    let f = sym (resolved_tokens p w o t x) ∙ ap (drop 9) e ∙ resolved_tokens q v u n y in
    let first = words (decimal p) (decimal q) _ _ (number_seen 16 p g.0 (omega arith)) (number_seen 16 q k.0 (omega arith)) f in
    let second = words (decimal w) (decimal v) _ _ (number_seen 16 w g.1 (omega arith)) (number_seen 16 v k.1 (omega arith)) first.1 in
    let third = words (decimal o) (decimal u) _ _ (number_seen 16 o g.2 (omega arith)) (number_seen 16 u k.2 (omega arith)) second.1 in
    let fourth = words (name_text t) (name_text n) _ _ (name_seen t) (name_seen n) third.1 in
    let ep : p ≡ q = number_told 16 p q g.0 k.0 (omega arith) first.0 in
    let ew : w ≡ v = number_told 16 w v g.1 k.1 (omega arith) second.0 in
    let eo : o ≡ u = number_told 16 o u g.2 k.2 (omega arith) third.0 in
    let et : t ≡ n = name_told t n g.3 k.3 fourth.0 in
    let ex : x ≡ y = hex_told x y g.4 k.4 fourth.1 in
    λ i. Resolved (ep i) (ew i) (eo i) (et i) (ex i)
answer_told (Datum r) (Found n) h j e = let no : true ≡ false = no_datum r (codes "found") (name_text n) h refl found_no_kind e in cc
answer_told (Datum r) (Resolved p w o t x) h j e = let no : true ≡ false = no_datum r (codes "resolved") (drop 9 (answer_text (Resolved p w o t x))) h refl resolved_no_kind e in cc
answer_told (Datum r) (Named n) h j e = let no : true ≡ false = no_datum r (codes "named") (name_text n) h refl named_no_kind e in cc
answer_told (Datum r) Conflict h j e = let no : true ≡ false = no_conflict r h e in cc
answer_told (Found n) (Datum r) h j e = let no : true ≡ false = no_datum r (codes "found") (name_text n) j refl found_no_kind (sym e) in cc
answer_told (Resolved p w o t x) (Datum r) h j e = let no : true ≡ false = no_datum r (codes "resolved") (drop 9 (answer_text (Resolved p w o t x))) j refl resolved_no_kind (sym e) in cc
answer_told (Named n) (Datum r) h j e = let no : true ≡ false = no_datum r (codes "named") (name_text n) j refl named_no_kind (sym e) in cc
answer_told Conflict (Datum r) h j e = let no : true ≡ false = no_conflict r j (sym e) in cc
answer_told a b h j e = absurd (omega (arith, ap lead e))

-- ---- items

verb_seen : (v : Verb) → are_seen (verb_text v) ≡ true
verb_seen verb.Start = refl
verb_seen verb.Update = refl
verb_seen verb.Stop = refl

verb_told : (v w : Verb) → verb_text v ≡ verb_text w → v ≡ w
verb_told verb.Start verb.Start e = refl
verb_told verb.Update verb.Update e = refl
verb_told verb.Stop verb.Stop e = refl
verb_told v w e = absurd (omega (arith, ap lead e))

pub item_line : (i : Item) → is_typed_item i ≡ true → in_line (item_text i) ≡ true
item_line (Reply op verb code) h =
    let p = and_parts (is_below 32 op) (is_signed code) h in
    line_joined ((((codes "reply " ++ decimal op) ++ space) ++ verb_text verb) ++ space) (signed_decimal code)
    (line_joined (((codes "reply " ++ decimal op) ++ space) ++ verb_text verb) space
    (line_joined ((codes "reply " ++ decimal op) ++ space) (verb_text verb)
    (line_joined (codes "reply " ++ decimal op) space (line_joined (codes "reply ") (decimal op) refl (number_line 32 op p.0 (omega arith))) refl)
    (seen_line (verb_text verb) (verb_seen verb))) refl)
    (seen_line (signed_decimal code) (signed_seen code p.1))
item_line (Add op answer) h =
    let p = and_parts (is_below 32 op) (is_typed_answer answer) h in
    line_joined ((codes "add " ++ decimal op) ++ space) (answer_text answer)
    (line_joined (codes "add " ++ decimal op) space (line_joined (codes "add ") (decimal op) refl (number_line 32 op p.0 (omega arith))) refl) (answer_line answer p.1)
item_line (Remove op answer) h =
    let p = and_parts (is_below 32 op) (is_typed_answer answer) h in
    line_joined ((codes "rem " ++ decimal op) ++ space) (answer_text answer)
    (line_joined (codes "rem " ++ decimal op) space (line_joined (codes "rem ") (decimal op) refl (number_line 32 op p.0 (omega arith))) refl) (answer_line answer p.1)

-- an operation and an answer
change_told : (op other : ℕ) (a b : Answer) → is_below 32 op ≡ true → is_below 32 other ≡ true → is_typed_answer a ≡ true → is_typed_answer b ≡ true →
    (decimal op ++ space) ++ answer_text a ≡ (decimal other ++ space) ++ answer_text b → (op ≡ other) × (a ≡ b)
change_told op other a b ho hp ha hb e =
    let w = words (decimal op) (decimal other) (answer_text a) (answer_text b) (number_seen 32 op ho (omega arith)) (number_seen 32 other hp (omega arith))
    (sym (regroup (decimal op) space (answer_text a)) ∙ e ∙ regroup (decimal other) space (answer_text b)) in
    (number_told 32 op other ho hp (omega arith) w.0, answer_told a b ha hb w.1)

reply_tokens : (op : ℕ) (v : Verb) (code : ℤ) → drop 6 (item_text (Reply op v code)) ≡ decimal op ++ (32 ∷ (verb_text v ++ (32 ∷ signed_decimal code)))
reply_tokens op v code = simp append_assoc

pub item_told : (i j : Item) → is_typed_item i ≡ true → is_typed_item j ≡ true → item_text i ≡ item_text j → i ≡ j
item_told (Reply op v c) (Reply other w d) h k e =
    let p = and_parts (is_below 32 op) (is_signed c) h in
    let q = and_parts (is_below 32 other) (is_signed d) k in
    let f = sym (reply_tokens op v c) ∙ ap (drop 6) e ∙ reply_tokens other w d in
    let first = words (decimal op) (decimal other) _ _ (number_seen 32 op p.0 (omega arith)) (number_seen 32 other q.0 (omega arith)) f in
    let second = words (verb_text v) (verb_text w) _ _ (verb_seen v) (verb_seen w) first.1 in
    let eo : op ≡ other = number_told 32 op other p.0 q.0 (omega arith) first.0 in
    let ev : v ≡ w = verb_told v w second.0 in
    let ec : c ≡ d = signed_told c d p.1 q.1 second.1 in
    λ i. Reply (eo i) (ev i) (ec i)
item_told (Add op a) (Add other b) h k e =
    let p = and_parts (is_below 32 op) (is_typed_answer a) h in
    let q = and_parts (is_below 32 other) (is_typed_answer b) k in
    let c = change_told op other a b p.0 q.0 p.1 q.1 (ap (drop 4) e) in
    λ i. Add (c.0 i) (c.1 i)
item_told (Remove op a) (Remove other b) h k e =
    let p = and_parts (is_below 32 op) (is_typed_answer a) h in
    let q = and_parts (is_below 32 other) (is_typed_answer b) k in
    let c = change_told op other a b p.0 q.0 p.1 q.1 (ap (drop 4) e) in
    λ i. Remove (c.0 i) (c.1 i)
item_told i j h k e = absurd (omega (arith, ap lead e))
