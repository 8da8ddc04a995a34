-- What is printed of a request is read as it.
use Rattle.std.proofs.Common.{◌≡◌, ℕ, ◌^◌, ◌<◌, Bool, true, false, cond, eqb, List, [], ◌∷◌, ◌++◌, Some, None, refl, ap, sym, ◌∙◌, arith, append_assoc, codes}
use Rattle.std.specs.Prelude.{decimal}
use Rattle.std.specs.Char.{is_ascii_digit}
use Rattle.std.specs.Fmt.{digits}
use Rattle.std.specs.Str.{bytes_eq, is_utf8}
use Rattle.std.proofs.lemmas.Bool.{and_from, and_parts, eqb-true}
use Rattle.std.proofs.lemmas.Slice.Eq.{bytes_eq-Decides}
use Rattle.number_text.specs.Cut.{cut_of}
use Rattle.number_text.specs.Digits.{hex_text}
use Rattle.number_text.proofs.Decimals.{decimal_below_written}
use Rattle.number_text.proofs.HexText.{hex_written}
use Rattle.number_text.proofs.Joined.{lacks, cut_of-joined}
use Rattle.dns_name.specs.NameText.{name_text}
use Rattle.dns_record.specs.RecordText.{space, kind_text}
use Rattle.dns_record.proofs.KindTexts.{kind_written}
use Rattle.dns_message.specs.Writing.{is_below, are_bytes, is_spellable_name}
use Rattle.sd_call.specs.declared.request.Request.{Request}
use Rattle.sd_call.specs.declared.request.Request.TheVariants as request
use Rattle.sd_call.specs.CallText.{label_token, type_token, families_text, norename_text, request_text}
use Rattle.mdns_history.specs.declared.event.Event.TheVariants as event
use Rattle.mdns_history.specs.Typed.{is_text, is_typed_request}
use Rattle.mdns_history.proofs.Texts.{are_seen}
use Rattle.mdns_history.proofs.TokenTexts.{below, bytes_are, decimal_seen, decimal_no_word, label_token_seen, type_token_seen}
use Rattle.mdns_history.proofs.RecordTexts.{kind_seen, four}
use Rattle.mdns_script.specs.CommandText.{said_request}
use Rattle.mdns_script.specs.Lines.{line_of}
use Rattle.mdns_script.specs.Requests.{norename_of}
use Rattle.mdns_script.specs.Writable.{is_writable_text, is_writable_request}
use Rattle.mdns_script.specs.declared.command.Command.TheVariants as commands
use Rattle.mdns_script.specs.declared.command.Line.TheVariants as script
use Rattle.mdns_script.proofs.CommandsBack.{command_read}
use Rattle.mdns_script.proofs.TokensBack.{word_cut}
use Rattle.mdns_lines.specs.ReadCalls.{called, scripted, query_in, families_in, address_in, instance_of, instance_in, register_words, register_in, request_of_words, request_in}
use Rattle.mdns_lines.specs.Printable.{has_text}
use Rattle.mdns_lines.proofs.WordsBack.{name_in_back}

-- a text of a first word and what follows it
request_back : (text word rest : List ℕ) (r : Request) → text ≡ word ++ 32 ∷ rest → lacks 32 word ≡ false → request_of_words text word rest ≡ Some r → request_in text ≡ Some r
request_back text word rest r e h k =
    let cut : cut_of 32 text ≡ Some (word, rest) = ap (cut_of 32) e ∙ cut_of-joined 32 word rest h in rw cut k

-- ---- what scripts write too

one : decimal 1 ≡ codes "1"
unfolding digits
one = refl

called_text : (d t : List ℕ) → d ≡ codes "1" → codes "call 1 1 1 " ++ t ≡ codes "call " ++ d ++ space ++ d ++ space ++ d ++ space ++ t
called_text d t e = rw e refl

scripted_back : (r : Request) → is_writable_request r ≡ true → said_request r ≡ request_text r → scripted (request_text r) ≡ Some r
unfolding called scripted
scripted_back r h e =
    let read : line_of (codes "call " ++ decimal 1 ++ space ++ decimal 1 ++ space ++ decimal 1 ++ space ++ said_request r) ≡ script.Command (commands.Event 1 (event.Call 1 1 r)) =
    command_read (commands.Event 1 (event.Call 1 1 r)) (rw h refl) in
    ap (λ t. called (line_of (codes "call 1 1 1 " ++ t))) (sym e) ∙ ap (λ t. called (line_of t)) (called_text (decimal 1) (said_request r) one) ∙ ap called read

writable : (text : List ℕ) → is_text text ≡ true → is_utf8 text ≡ true → is_writable_text text ≡ true
writable text h k = and_from (is_text text) (is_utf8 text) h k

-- ---- the rest

query_back : (kind : ℕ) (name : List (List ℕ)) → is_below 16 kind ≡ true → is_spellable_name name ≡ true → query_in (kind_text kind ++ 32 ∷ name_text name) ≡ Some (request.Query kind name)
unfolding query_in
query_back kind name h k =
    let small : kind < 2 ^ 16 = below 16 kind h in
    rw (word_cut (kind_text kind) (name_text name) (kind_seen kind small), kind_written kind small, name_in_back name k) refl

no_word : (n c : ℕ) (t : List ℕ) → n < 2 ^ 64 → is_ascii_digit c ≡ false → bytes_eq (decimal n) (c ∷ t) ≡ false
no_word n c t h k = of (bytes_eq (decimal n) (c ∷ t)) refl
  where
    of : (b : Bool) → bytes_eq (decimal n) (c ∷ t) ≡ b → b ≡ false
    of true e = decimal_no_word n c t h k ((bytes_eq-Decides (decimal n) (c ∷ t)).0 e)
    of false e = refl

families_back : (n : ℕ) → is_below 8 n ≡ true → families_in (families_text n) ≡ Some n
families_back n h = go (eqb n 1) refl (eqb n 2) refl (eqb n 3) refl
  where
    go : (a : Bool) → eqb n 1 ≡ a → (b : Bool) → eqb n 2 ≡ b → (c : Bool) → eqb n 3 ≡ c → families_in (cond a (codes "v4") (cond b (codes "v6") (cond c (codes "both") (decimal n)))) ≡ Some n
    go true e b f c g = ap Some (sym (eqb-true n 1 e))
    go false e true f c g = ap Some (sym (eqb-true n 2 f))
    go false e false f true g = ap Some (sym (eqb-true n 3 g))
    go false e false f false g =
        let small : n < 2 ^ 8 = below 8 n h in
        rw (no_word n 118 (52 ∷ []) (omega arith) refl, no_word n 118 (54 ∷ []) (omega arith) refl, no_word n 98 (codes "oth") (omega arith) refl) (decimal_below_written (2 ^ 8) n (omega arith) small)

families_seen : (n : ℕ) → is_below 8 n ≡ true → are_seen (families_text n) ≡ true
families_seen n h = go (eqb n 1) (eqb n 2) (eqb n 3)
  where
    go : (a b c : Bool) → are_seen (cond a (codes "v4") (cond b (codes "v6") (cond c (codes "both") (decimal n)))) ≡ true
    go true b c = refl
    go false true c = refl
    go false false true = refl
    go false false false = let small : n < 2 ^ 8 = below 8 n h in decimal_seen n (omega arith)

address_back : (families : ℕ) (name : List (List ℕ)) → is_below 8 families ≡ true → is_spellable_name name ≡ true → address_in (families_text families ++ 32 ∷ name_text name) ≡ Some (request.Address families name)
unfolding address_in
address_back families name h k =
    rw (word_cut (families_text families) (name_text name) (families_seen families h), families_back families h, name_in_back name k) refl

norename_seen : (b : Bool) → are_seen (norename_text b) ≡ true
norename_seen true = refl
norename_seen false = refl

norename_back : (b : Bool) → norename_of (norename_text b) ≡ Some b
norename_back true = refl
norename_back false = refl

register_words_back : (label regtype rest : List ℕ) (port : ℕ) (norename : Bool) → port < 2 ^ 16 →
    register_words (label_token label ++ 32 ∷ (type_token regtype ++ 32 ∷ (decimal port ++ 32 ∷ (norename_text norename ++ 32 ∷ rest))))
    ≡ Some (label_token label, type_token regtype, port, norename, rest)
unfolding register_words
register_words_back label regtype rest port norename small =
    rw (
      word_cut (label_token label) (type_token regtype ++ 32 ∷ (decimal port ++ 32 ∷ (norename_text norename ++ 32 ∷ rest))) (label_token_seen label),
      word_cut (type_token regtype) (decimal port ++ 32 ∷ (norename_text norename ++ 32 ∷ rest)) (type_token_seen regtype),
      word_cut (decimal port) (norename_text norename ++ 32 ∷ rest) (decimal_seen port (omega arith)),
      word_cut (norename_text norename) rest (norename_seen norename),
      decimal_below_written (2 ^ 16) port (omega arith) small,
      norename_back norename,
    )
    refl

instance_back : (label regtype : List ℕ) → is_writable_text label ≡ true → is_writable_text regtype ≡ true → instance_in (label_token label) (type_token regtype) ≡ Some (label, regtype)
unfolding instance_of
instance_back label regtype h k = rw (scripted_back (request.Resolve label regtype) (and_from _ _ h k) refl) refl

register_back : (label regtype txt : List ℕ) (port : ℕ) (norename : Bool) → is_writable_text label ≡ true → is_writable_text regtype ≡ true → is_below 16 port ≡ true → are_bytes txt ≡ true →
    register_in (label_token label ++ 32 ∷ (type_token regtype ++ 32 ∷ (decimal port ++ 32 ∷ (norename_text norename ++ 32 ∷ hex_text txt))))
    ≡ Some (request.Register label regtype port norename txt)
unfolding register_in
register_back label regtype txt port norename h k p t =
    rw (register_words_back label regtype (hex_text txt) port norename (below 16 port p), instance_back label regtype h k, hex_written txt (bytes_are txt t)) refl

-- the words of a registration, one behind the other
regrouped : (a b c d e w : List ℕ) → a ++ b ++ space ++ c ++ space ++ d ++ space ++ e ++ space ++ w ≡ a ++ (b ++ 32 ∷ (c ++ 32 ∷ (d ++ 32 ∷ (e ++ 32 ∷ w))))
regrouped a b c d e w = simp append_assoc

stop_cut : cut_of 32 (codes "stop") ≡ None
unfolding cut_of
stop_cut = refl

-- a request is read as it is printed
pub request_read : (r : Request) → is_typed_request r ≡ true → has_text r ≡ true → request_in (request_text r) ≡ Some r
request_read (request.Query kind name) h k =
    let p = and_parts (is_below 16 kind) (is_spellable_name name) h in
    request_back _ (codes "query") (kind_text kind ++ 32 ∷ name_text name) (request.Query kind name) (append_assoc (codes "query " ++ kind_text kind) space (name_text name)) refl (query_back kind name p.0 p.1)
request_read (request.Browse regtype) h k =
    request_back _ (codes "browse") (type_token regtype) (request.Browse regtype) refl refl (scripted_back (request.Browse regtype) (writable regtype h k) refl)
request_read (request.Resolve label regtype) h k =
    let p = and_parts (is_text label) (is_text regtype) h in
    let q = and_parts (is_utf8 label) (is_utf8 regtype) k in
    request_back _ (codes "resolve") (label_token label ++ 32 ∷ type_token regtype) (request.Resolve label regtype) (append_assoc (codes "resolve " ++ label_token label) space (type_token regtype)) refl
    (scripted_back (request.Resolve label regtype) (and_from _ _ (writable label p.0 q.0) (writable regtype p.1 q.1)) refl)
request_read (request.Address families name) h k =
    let p = and_parts (is_below 8 families) (is_spellable_name name) h in
    request_back _ (codes "address") (families_text families ++ 32 ∷ name_text name) (request.Address families name) (append_assoc (codes "address " ++ families_text families) space (name_text name)) refl
    (address_back families name p.0 p.1)
request_read (request.Register label regtype port norename txt) h k =
    let p = four (is_text label) (is_text regtype) (is_below 16 port) (are_bytes txt) h in
    let q = and_parts (is_utf8 label) (is_utf8 regtype) k in
    request_back _ (codes "register") (label_token label ++ 32 ∷ (type_token regtype ++ 32 ∷ (decimal port ++ 32 ∷ (norename_text norename ++ 32 ∷ hex_text txt)))) (request.Register label regtype port norename txt)
    (regrouped (codes "register ") (label_token label) (type_token regtype) (decimal port) (norename_text norename) (hex_text txt)) refl
    (register_back label regtype txt port norename (writable label p.0 q.0) (writable regtype p.1 q.1) p.2 p.3)
request_read (request.Update txt) h k =
    request_back _ (codes "update") (hex_text txt) (request.Update txt) refl refl (rw (hex_written txt (bytes_are txt h)) refl)
request_read request.Stop h k = rw stop_cut refl
