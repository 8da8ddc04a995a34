-- What is read of a request can be printed.
use Rattle.std.proofs.Common.{◌≡◌, ℕ, ◌^◌, Bool, true, false, cond, ◌&&◌, List, ◌++◌, Option, Some, None, refl, ap, sym, ◌∙◌, arith, codes, subst}
use Rattle.std.specs.Prelude.{nat_le}
use Rattle.std.specs.Option.{option_map, option_or}
use Rattle.std.specs.Str.{bytes_eq, is_utf8}
use Rattle.std.proofs.lemmas.Bool.{lt-ltb, leb-true, and_from, and_parts}
use Rattle.number_text.specs.Cut.{cut_of}
use Rattle.number_text.specs.Digits.{decimal_below, hex_of}
use Rattle.dns_record.specs.ReadRecord.{kind_read}
use Rattle.dns_message.specs.Writing.{is_below, are_bytes, is_spellable_name}
use Rattle.sd_call.specs.declared.request.Request.{Request}
use Rattle.sd_call.specs.declared.request.Request.TheVariants as request
use Rattle.mdns_history.specs.declared.event.Event.TheVariants as event
use Rattle.mdns_history.specs.Typed.{is_text, is_typed_request}
use Rattle.mdns_script.specs.declared.command.Command.TheVariants as commands
use Rattle.mdns_script.specs.declared.command.Line.{Line as ScriptLine}
use Rattle.mdns_script.specs.declared.command.Line.TheVariants as script
use Rattle.mdns_script.specs.Lines.{line_of}
use Rattle.mdns_script.specs.Requests.{norename_of}
use Rattle.mdns_script.specs.Writable.{is_between, is_daemon, is_writable_text, is_writable_request, is_writable_event}
use Rattle.mdns_script.proofs.OnlyWritable.{only_writable}
use Rattle.mdns_script.proofs.ReadTokens.{come_of, mapped_of, some_same, below_is, hex_is, kind_is}
use Rattle.mdns_lines.specs.Words.{if_word, name_in}
use Rattle.mdns_lines.specs.ReadCalls.{called, scripted, query_in, families_in, address_in, instance_of, instance_in, register_words, register_in, request_of_words, request_in}
use Rattle.mdns_lines.specs.Printable.{has_text}
use Rattle.mdns_lines.proofs.OnlyWords.{name_in_is, word_is}

-- a request is as its type says, and its texts are UTF-8
abbrev IsRequest : Request → Type 0
IsRequest r = (is_typed_request r ≡ true) × (has_text r ≡ true)

text_parts : (text : List ℕ) → is_writable_text text ≡ true → (is_text text ≡ true) × (is_utf8 text ≡ true)
text_parts text h = and_parts (is_text text) (is_utf8 text) h

families_fit : (n : ℕ) → is_between 1 3 n ≡ true → is_below 8 n ≡ true
families_fit n h = let p = and_parts (nat_le 1 n) (nat_le n 3) h in lt-ltb n (2 ^ 8) (omega (arith, leb-true n 3 p.1))

writable_is : (r : Request) → is_writable_request r ≡ true → IsRequest r
writable_is (request.Query kind name) h = (h, refl)
writable_is (request.Browse regtype) h = text_parts regtype h
writable_is (request.Resolve label regtype) h =
    let p = and_parts (is_writable_text label) (is_writable_text regtype) h in
    let l = text_parts label p.0 in
    let t = text_parts regtype p.1 in
    (and_from _ _ l.0 t.0, and_from _ _ l.1 t.1)
writable_is (request.Address families name) h =
    let p = and_parts (is_between 1 3 families) (is_spellable_name name) h in (and_from _ _ (families_fit families p.0) p.1, refl)
writable_is (request.Register label regtype port norename txt) h =
    let p = and_parts (is_writable_text label && is_writable_text regtype && is_below 16 port) _ h in
    let q = and_parts (is_writable_text label && is_writable_text regtype) (is_below 16 port) p.0 in
    let s = and_parts (is_writable_text label) (is_writable_text regtype) q.0 in
    let l = text_parts label s.0 in
    let t = text_parts regtype s.1 in
    (and_from _ _ (and_from _ _ (and_from _ _ l.0 t.0) q.1) (and_parts (are_bytes txt) _ (and_parts _ _ p.1).0).0, and_from _ _ l.1 t.1)
writable_is (request.Update txt) h = ((and_parts (are_bytes txt) _ (and_parts _ _ h).0).0, refl)
writable_is request.Stop h = (refl, refl)

called_is : (text : List ℕ) (l : ScriptLine) (r : Request) → line_of text ≡ l → called l ≡ Some r → is_writable_request r ≡ true
unfolding called
called_is text (script.Command (commands.Event daemon (event.Call session op request))) r e h =
    let w = only_writable text (commands.Event daemon (event.Call session op request)) e in
    let p = and_parts (is_daemon daemon) (is_writable_event (event.Call session op request)) w in
    sym (ap is_writable_request (some_same request r h)) ∙ (and_parts (is_below 64 session && is_below 32 op) (is_writable_request request) p.1).1
called_is text l r e h = absurd (cc)

scripted_is : (text : List ℕ) (r : Request) → scripted text ≡ Some r → is_writable_request r ≡ true
unfolding scripted
scripted_is text r h = called_is (codes "call 1 1 1 " ++ text) (line_of (codes "call 1 1 1 " ++ text)) r refl h

query_is : (text : List ℕ) (r : Request) → query_in text ≡ Some r → IsRequest r
unfolding query_in
query_is text r h =
    let kind = come_of (cut_of 32 text) _ r h in
    let k = come_of (kind_read kind.from.0) _ r kind.gives in
    let name = come_of (name_in kind.from.1) _ r k.gives in
    subst IsRequest (some_same (request.Query k.from name.from) r name.gives) (and_from _ _ (kind_is kind.from.0 k.from k.is) (name_in_is kind.from.1 name.from name.is), refl)

families_are : (word : List ℕ) (n : ℕ) → families_in word ≡ Some n → is_below 8 n ≡ true
families_are word n h = go (bytes_eq word (codes "v4")) (bytes_eq word (codes "v6")) (bytes_eq word (codes "both")) h
  where
    go : (a b c : Bool) → option_or (cond a (Some 1) (cond b (Some 2) (cond c (Some 3) None))) (decimal_below (2 ^ 8) word) ≡ Some n → is_below 8 n ≡ true
    go true b c e = sym (ap (is_below 8) (some_same 1 n e))
    go false true c e = sym (ap (is_below 8) (some_same 2 n e))
    go false false true e = sym (ap (is_below 8) (some_same 3 n e))
    go false false false e = below_is 8 word n e

address_is : (text : List ℕ) (r : Request) → address_in text ≡ Some r → IsRequest r
unfolding address_in
address_is text r h =
    let words = come_of (cut_of 32 text) _ r h in
    let f = come_of (families_in words.from.0) _ r words.gives in
    let name = come_of (name_in words.from.1) _ r f.gives in
    subst IsRequest (some_same (request.Address f.from name.from) r name.gives) (and_from _ _ (families_are words.from.0 f.from f.is) (name_in_is words.from.1 name.from name.is), refl)

instance_of_is : (r : Request) (pair : List ℕ × List ℕ) → is_writable_request r ≡ true → instance_of r ≡ Some pair → (is_writable_text pair.0 ≡ true) × (is_writable_text pair.1 ≡ true)
unfolding instance_of
instance_of_is (request.Resolve label regtype) pair w h =
    let P : List ℕ × List ℕ → Type 0 = λ p. (is_writable_text p.0 ≡ true) × (is_writable_text p.1 ≡ true) in
    subst P (some_same (label, regtype) pair h) (and_parts (is_writable_text label) (is_writable_text regtype) w)
instance_of_is r pair w h = absurd (cc)

instance_is : (label regtype : List ℕ) (pair : List ℕ × List ℕ) → instance_in label regtype ≡ Some pair → (is_writable_text pair.0 ≡ true) × (is_writable_text pair.1 ≡ true)
instance_is label regtype pair h =
    let c = come_of (scripted (codes "resolve " ++ label ++ codes " " ++ regtype)) instance_of pair h in
    instance_of_is c.from pair (scripted_is (codes "resolve " ++ label ++ codes " " ++ regtype) c.from c.is) c.gives

abbrev Registered : Type 0
Registered = List ℕ × List ℕ × ℕ × Bool × List ℕ

port_is : (text : List ℕ) (words : Registered) → register_words text ≡ Some words → is_below 16 words.2 ≡ true
unfolding register_words
port_is text words h =
    let label = come_of (cut_of 32 text) _ words h in
    let regtype = come_of (cut_of 32 label.from.1) _ words label.gives in
    let port = come_of (cut_of 32 regtype.from.1) _ words regtype.gives in
    let rename = come_of (cut_of 32 port.from.1) _ words port.gives in
    let p = come_of (decimal_below (2 ^ 16) port.from.0) _ words rename.gives in
    let norename = come_of (norename_of rename.from.0) _ words p.gives in
    sym (ap (λ (w : Registered). is_below 16 w.2) (some_same (label.from.0, regtype.from.0, p.from, norename.from, rename.from.1) words norename.gives)) ∙ below_is 16 port.from.0 p.from p.is

register_is : (text : List ℕ) (r : Request) → register_in text ≡ Some r → IsRequest r
unfolding register_in
register_is text r h =
    let words = come_of (register_words text) _ r h in
    let names = come_of (instance_in words.from.0 words.from.1) _ r words.gives in
    let txt = come_of (hex_of words.from.4) _ r names.gives in
    let p = instance_is words.from.0 words.from.1 names.from names.is in
    let l = text_parts names.from.0 p.0 in
    let t = text_parts names.from.1 p.1 in
    subst IsRequest (some_same (request.Register names.from.0 names.from.1 words.from.2 words.from.3 txt.from) r txt.gives)
    (and_from _ _ (and_from _ _ (and_from _ _ l.0 t.0) (port_is text words.from words.is)) (hex_is words.from.4 txt.from txt.is), and_from _ _ l.1 t.1)

update_is : (text : List ℕ) (r : Request) → option_map (λ txt. request.Update txt) (hex_of text) ≡ Some r → IsRequest r
update_is text r h = let m = mapped_of (hex_of text) (λ txt. request.Update txt) r h in subst IsRequest m.gives (hex_is text m.from m.is, refl)

request_words_are : (text word rest : List ℕ) (r : Request) → request_of_words text word rest ≡ Some r → IsRequest r
request_words_are text word rest r h = go (bytes_eq word (codes "query")) (bytes_eq word (codes "address")) (bytes_eq word (codes "register")) (bytes_eq word (codes "update")) h
  where
    go : (a b c d : Bool) →
        cond a (query_in rest) (cond b (address_in rest) (cond c (register_in rest) (cond d (option_map (λ txt. request.Update txt) (hex_of rest)) (scripted text)))) ≡ Some r → IsRequest r
    go true b c d k = query_is rest r k
    go false true c d k = address_is rest r k
    go false false true d k = register_is rest r k
    go false false false true k = update_is rest r k
    go false false false false k = writable_is r (scripted_is text r k)

pub request_is : (text : List ℕ) (r : Request) → request_in text ≡ Some r → IsRequest r
request_is text r h = go (cut_of 32 text) refl
  where
    go : (o : Option (List ℕ × List ℕ)) → cut_of 32 text ≡ o → IsRequest r
    go None e = let found : if_word (codes "stop") text request.Stop ≡ Some r = rw e at h in subst IsRequest (word_is (codes "stop") text request.Stop r found) (refl, refl)
    go (Some words) e = let found : request_of_words text words.0 words.1 ≡ Some r = rw e at h in request_words_are text words.0 words.1 r found
