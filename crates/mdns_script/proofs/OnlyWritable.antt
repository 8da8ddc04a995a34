-- A line says only commands that can be written.
use Rattle.std.proofs.Common.{◌≡◌, ℕ, ◌+◌, ◌^◌, Bool, true, false, cond, not, ◌&&◌, List, Option, Some, None, refl, ap, sym, ◌∙◌, inl, inr, codes, eq-eqb, subst}
use Rattle.std.specs.Option.{option_map, option_or}
use Rattle.std.specs.Str.{bytes_eq}
use Rattle.std.proofs.lemmas.Bool.{and_from}
use Rattle.number_text.specs.Cut.{cut_of}
use Rattle.number_text.specs.Digits.{◌>>=◌, decimal_of, decimal_below, ipv4_of, ipv6_of, hex_of}
use Rattle.mdns_base.specs.declared.host.Host.{Host}
use Rattle.dns_message.specs.Writing.{is_below}
use Rattle.dns_record.specs.ReadRecord.{kind_read}
use Rattle.sd_call.specs.declared.request.Request.{Request}
use Rattle.sd_call.specs.declared.request.Request.TheVariants as request
use Rattle.mdns_history.specs.declared.config.Config.{Config}
use Rattle.mdns_history.specs.declared.event.Event.TheVariants as event
use Rattle.mdns_history.specs.Typed.{is_typed_v6, is_typed_host}
use Rattle.mdns_script.specs.declared.command.Command.{Command}
use Rattle.mdns_script.specs.declared.command.Command.TheVariants as commands
use Rattle.mdns_script.specs.declared.command.Line.TheVariants as lines
use Rattle.mdns_script.specs.Tokens.{name_of, label_of, type_of, txt_of, host_label_of}
use Rattle.mdns_script.specs.Requests.{query_of, resolve_of, families_of, address_of, norename_of, register_words, register_of, request_of_words, request_of}
use Rattle.mdns_script.specs.Boots.{daemon_of, addresses_of, host_of, hosted_of, hosted_command, plain_command, daemon_command}
use Rattle.mdns_script.specs.Links.{number_in, two_daemons}
use Rattle.mdns_script.specs.Lines.{close_command, max_of, take_command, hear_words, hear_command, call_words, call_command, setting_of_words, event_of_words, command_of_words, command_of, command_line, is_read, line_of}
use Rattle.mdns_script.specs.Writable.{is_between, is_daemon, is_writable_request, is_writable_host, is_writable}
use Rattle.mdns_script.proofs.ReadTokens.{come_of, mapped_of, some_same, either_of, decimal_is, below_is, number_is, daemon_is, max_is, ipv4_is, ipv6_is, hex_is, kind_is, label_is, type_is, name_is, host_label_is, txt_is}

-- ---- requests

query_is : (text : List ℕ) (r : Request) → query_of text ≡ Some r → is_writable_request r ≡ true
unfolding query_of
query_is text r h =
    let c = come_of (cut_of 32 text) _ r h in
    let k = come_of (kind_read c.from.0) _ r c.gives in
    let n = come_of (name_of c.from.1) _ r k.gives in
    sym (ap is_writable_request (some_same (request.Query k.from n.from) r n.gives)) ∙ and_from _ _ (kind_is c.from.0 k.from k.is) (name_is c.from.1 n.from n.is)

resolve_is : (text : List ℕ) (r : Request) → resolve_of text ≡ Some r → is_writable_request r ≡ true
unfolding resolve_of
resolve_is text r h =
    let c = come_of (cut_of 32 text) _ r h in
    let l = come_of (label_of c.from.0) _ r c.gives in
    let t = come_of (type_of c.from.1) _ r l.gives in
    sym (ap is_writable_request (some_same (request.Resolve l.from t.from) r t.gives)) ∙ and_from _ _ (label_is c.from.0 l.from l.is) (type_is c.from.1 t.from t.is)

families_are : (word : List ℕ) (n : ℕ) → families_of word ≡ Some n → is_between 1 3 n ≡ true
families_are word n h = go (bytes_eq word (codes "v4")) (bytes_eq word (codes "v6")) (bytes_eq word (codes "both")) h
  where
    go : (a b c : Bool) → cond a (Some 1) (cond b (Some 2) (cond c (Some 3) None)) ≡ Some n → is_between 1 3 n ≡ true
    go true b c e = sym (ap (is_between 1 3) (some_same 1 n e))
    go false true c e = sym (ap (is_between 1 3) (some_same 2 n e))
    go false false true e = sym (ap (is_between 1 3) (some_same 3 n e))
    go false false false e = absurd (cc)

address_is : (text : List ℕ) (r : Request) → address_of text ≡ Some r → is_writable_request r ≡ true
unfolding address_of
address_is text r h =
    let c = come_of (cut_of 32 text) _ r h in
    let f = come_of (families_of c.from.0) _ r c.gives in
    let n = come_of (name_of c.from.1) _ r f.gives in
    sym (ap is_writable_request (some_same (request.Address f.from n.from) r n.gives)) ∙ and_from _ _ (families_are c.from.0 f.from f.is) (name_is c.from.1 n.from n.is)

-- the words of a registration have a port
port_is : (text : List ℕ) (words : List ℕ × List ℕ × ℕ × Bool × List ℕ) → register_words text ≡ Some words → is_below 16 words.2 ≡ true
unfolding register_words
port_is text words h =
    let label = come_of (cut_of 32 text) _ words h in
    let regtype = come_of (cut_of 32 label.from.1) _ words label.gives in
    let port = come_of (cut_of 32 regtype.from.1) _ words regtype.gives in
    let rename = come_of (cut_of 32 port.from.1) _ words port.gives in
    let p = come_of (decimal_below (2 ^ 16) port.from.0) _ words rename.gives in
    let norename = come_of (norename_of rename.from.0) _ words p.gives in
    sym (ap (λ (w : List ℕ × List ℕ × ℕ × Bool × List ℕ). is_below 16 w.2) (some_same (label.from.0, regtype.from.0, p.from, norename.from, rename.from.1) words norename.gives))
    ∙ below_is 16 port.from.0 p.from p.is

register_is : (text : List ℕ) (r : Request) → register_of text ≡ Some r → is_writable_request r ≡ true
unfolding register_of
register_is text r h =
    let w = come_of (register_words text) _ r h in
    let l = come_of (label_of w.from.0) _ r w.gives in
    let t = come_of (type_of w.from.1) _ r l.gives in
    let x = come_of (txt_of w.from.4) _ r t.gives in
    sym (ap is_writable_request (some_same (request.Register l.from t.from w.from.2 w.from.3 x.from) r x.gives))
    ∙ and_from _ _ (and_from _ _ (and_from _ _ (label_is w.from.0 l.from l.is) (type_is w.from.1 t.from t.is)) (port_is text w.from w.is)) (txt_is w.from.4 x.from x.is)

browse_is : (text : List ℕ) (r : Request) → option_map (λ regtype. request.Browse regtype) (type_of text) ≡ Some r → is_writable_request r ≡ true
browse_is text r h = let m = mapped_of (type_of text) (λ regtype. request.Browse regtype) r h in sym (ap is_writable_request m.gives) ∙ type_is text m.from m.is

update_is : (text : List ℕ) (r : Request) → option_map (λ txt. request.Update txt) (txt_of text) ≡ Some r → is_writable_request r ≡ true
update_is text r h = let m = mapped_of (txt_of text) (λ txt. request.Update txt) r h in sym (ap is_writable_request m.gives) ∙ txt_is text m.from m.is

words_are : (word rest : List ℕ) (r : Request) → request_of_words word rest ≡ Some r → is_writable_request r ≡ true
words_are word rest r h =
    go (bytes_eq word (codes "query")) (bytes_eq word (codes "browse")) (bytes_eq word (codes "resolve")) (bytes_eq word (codes "address")) (bytes_eq word (codes "register"))
    (bytes_eq word (codes "update")) h
  where
    go : (a b c d e f : Bool) →
        cond a (query_of rest) (cond b (option_map (λ regtype. request.Browse regtype) (type_of rest)) (cond c (resolve_of rest) (cond d (address_of rest) (cond e (register_of rest)
        (cond f (option_map (λ txt. request.Update txt) (txt_of rest)) None))))) ≡ Some r → is_writable_request r ≡ true
    go true b c d e f k = query_is rest r k
    go false true c d e f k = browse_is rest r k
    go false false true d e f k = resolve_is rest r k
    go false false false true e f k = address_is rest r k
    go false false false false true f k = register_is rest r k
    go false false false false false true k = update_is rest r k
    go false false false false false false k = absurd (cc)

request_is : (text : List ℕ) (r : Request) → request_of text ≡ Some r → is_writable_request r ≡ true
request_is text r h = go (bytes_eq text (codes "stop")) h
  where
    go : (a : Bool) → cond a (Some request.Stop) (cut_of 32 text >>= λ words. request_of_words words.0 words.1) ≡ Some r → is_writable_request r ≡ true
    go true k = sym (ap is_writable_request (some_same request.Stop r k))
    go false k = let c = come_of (cut_of 32 text) (λ words. request_of_words words.0 words.1) r k in words_are c.from.0 c.from.1 r c.gives

-- ---- daemons

plain_is : (text : List ℕ) (c : Command) → plain_command text ≡ Some c → is_writable c ≡ true
plain_is text c h =
    let m = mapped_of (daemon_of text) (λ n. commands.Daemon n (record { address = 167772160 + n; host = None })) c h in
    sym (ap is_writable m.gives) ∙ and_from _ _ (daemon_is text m.from m.is) (eq-eqb (167772160 + m.from) (167772160 + m.from) refl)

addresses_are : (text : List ℕ) (pair : ℕ × Option ℕ) → addresses_of text ≡ Some pair → (is_below 32 pair.0 ≡ true) × (is_typed_v6 pair.1 ≡ true)
addresses_are text pair h = go (cut_of 32 text) refl
  where
    fits : ℕ × Option ℕ → Type 0
    fits found = (is_below 32 found.0 ≡ true) × (is_typed_v6 found.1 ≡ true)

    go : (o : Option (List ℕ × List ℕ)) → cut_of 32 text ≡ o → fits pair
    go None e =
        let found : option_map {T = ℕ} {U = ℕ × Option ℕ} (λ v4. (v4, None)) (ipv4_of text) ≡ Some pair = rw e at h in
        let m = mapped_of (ipv4_of text) (λ v4. (v4, None)) pair found in
        subst fits m.gives (ipv4_is text m.from m.is, refl)
    go (Some words) e =
        let found : (ipv4_of words.0 >>= λ v4. ipv6_of words.1 >>= λ v6. Some (v4, Some v6)) ≡ Some pair = rw e at h in
        let v4 = come_of (ipv4_of words.0) (λ v4. ipv6_of words.1 >>= λ v6. Some (v4, Some v6)) pair found in
        let v6 = come_of (ipv6_of words.1) (λ v6. Some (v4.from, Some v6)) pair v4.gives in
        subst fits (some_same (v4.from, Some v6.from) pair v6.gives) (ipv4_is words.0 v4.from v4.is, ipv6_is words.1 v6.from v6.is)

host_is : (number : ℕ) (text : List ℕ) (config : Config) → host_of text ≡ Some config → is_writable_host number config.address config.host ≡ true
unfolding host_of
host_is number text config h =
    let token = come_of (cut_of 32 text) _ config h in
    let label = come_of (host_label_of token.from.0) _ config token.gives in
    let addresses = come_of (addresses_of token.from.1) _ config label.gives in
    let fits = addresses_are token.from.1 addresses.from addresses.is in
    let host = host_label_is token.from.0 label.from label.is in
    let same : record { address = addresses.from.0; host = Some (record { label = label.from; v6 = addresses.from.1 }) } ≡ config = some_same _ config addresses.gives in
    sym (ap (λ (c : Config). is_writable_host number c.address c.host) same)
    ∙ and_from _ _ (and_from _ _ (and_from _ _ (and_from _ _ fits.0 host.fits) host.bytes) host.utf8) fits.1

hosted_is : (number : ℕ) (text : List ℕ) (config : Config) → hosted_of text ≡ Some config → is_writable_host number config.address config.host ≡ true
unfolding hosted_of
hosted_is number text config h =
    let words = come_of (cut_of 32 text) _ config h in
    elim (either_of (bytes_eq words.from.0 (codes "host")) (host_of words.from.1) None config words.gives) [
      | inl e ↦ host_is number words.from.1 config e
      | inr e ↦ absurd (cc)
    ]

daemon_command_is : (text : List ℕ) (c : Command) → daemon_command text ≡ Some c → is_writable c ≡ true
daemon_command_is text c h = go (cut_of 32 text) refl
  where
    go : (o : Option (List ℕ × List ℕ)) → cut_of 32 text ≡ o → is_writable c ≡ true
    go None e = let found : plain_command text ≡ Some c = rw e at h in plain_is text c found
    go (Some words) e =
        let found : hosted_command words.0 words.1 ≡ Some c = rw e at h in
        let n = come_of (daemon_of words.0) _ c found in
        let config = come_of (hosted_of words.1) _ c n.gives in
        sym (ap is_writable (some_same (commands.Daemon n.from config.from) c config.gives)) ∙ and_from _ _ (daemon_is words.0 n.from n.is) (hosted_is n.from words.1 config.from config.is)

-- ---- events

close_is : (text : List ℕ) (c : Command) → close_command text ≡ Some c → is_writable c ≡ true
unfolding close_command
close_is text c h =
    let daemon = come_of (cut_of 32 text) _ c h in
    let n = come_of (daemon_of daemon.from.0) _ c daemon.gives in
    let session = come_of (decimal_of daemon.from.1) _ c n.gives in
    sym (ap is_writable (some_same (commands.Event n.from (event.Detach session.from)) c session.gives))
    ∙ and_from _ _ (daemon_is daemon.from.0 n.from n.is) (decimal_is daemon.from.1 session.from session.is)

take_is : (text : List ℕ) (c : Command) → take_command text ≡ Some c → is_writable c ≡ true
unfolding take_command
take_is text c h =
    let daemon = come_of (cut_of 32 text) _ c h in
    let session = come_of (cut_of 32 daemon.from.1) _ c daemon.gives in
    let n = come_of (daemon_of daemon.from.0) _ c session.gives in
    let s = come_of (decimal_of session.from.0) _ c n.gives in
    let max = come_of (max_of session.from.1) _ c s.gives in
    sym (ap is_writable (some_same (commands.Event n.from (event.Take s.from max.from)) c max.gives))
    ∙ and_from _ _ (daemon_is daemon.from.0 n.from n.is) (and_from _ _ (decimal_is session.from.0 s.from s.is) (max_is session.from.1 max.from max.is))

hear_words_are : (text : List ℕ) (words : ℕ × Host × List ℕ) → hear_words text ≡ Some words → (is_daemon words.0 ≡ true) × (is_typed_host words.1 ≡ true)
unfolding hear_words
hear_words_are text words h =
    let daemon = come_of (cut_of 32 text) _ words h in
    let from = come_of (cut_of 32 daemon.from.1) _ words daemon.gives in
    let port = come_of (cut_of 32 from.from.1) _ words from.gives in
    let n = come_of (daemon_of daemon.from.0) _ words port.gives in
    let ip = come_of (ipv4_of from.from.0) _ words n.gives in
    let p = come_of (decimal_below (2 ^ 16) port.from.0) _ words ip.gives in
    let P : ℕ × Host × List ℕ → Type 0 = λ w. (is_daemon w.0 ≡ true) × (is_typed_host w.1 ≡ true) in
    subst P (some_same (n.from, record { ip = ip.from; port = p.from }, port.from.1) words p.gives)
    (daemon_is daemon.from.0 n.from n.is, and_from _ _ (ipv4_is from.from.0 ip.from ip.is) (below_is 16 port.from.0 p.from p.is))

hear_is : (text : List ℕ) (c : Command) → hear_command text ≡ Some c → is_writable c ≡ true
hear_is text c h =
    let words = come_of (hear_words text) _ c h in
    let bytes = come_of (hex_of words.from.2) _ c words.gives in
    let fit = hear_words_are text words.from words.is in
    sym (ap is_writable (some_same (commands.Event words.from.0 (event.Hear words.from.1 bytes.from)) c bytes.gives))
    ∙ and_from _ _ fit.0 (and_from _ _ fit.1 (hex_is words.from.2 bytes.from bytes.is))

call_words_are : (text : List ℕ) (words : ℕ × ℕ × ℕ × List ℕ) → call_words text ≡ Some words → (is_daemon words.0 ≡ true) × (is_below 64 words.1 ≡ true) × (is_below 32 words.2 ≡ true)
unfolding call_words
call_words_are text words h =
    let daemon = come_of (cut_of 32 text) _ words h in
    let session = come_of (cut_of 32 daemon.from.1) _ words daemon.gives in
    let op = come_of (cut_of 32 session.from.1) _ words session.gives in
    let n = come_of (daemon_of daemon.from.0) _ words op.gives in
    let s = come_of (decimal_of session.from.0) _ words n.gives in
    let o = come_of (decimal_below (2 ^ 32) op.from.0) _ words s.gives in
    let P : ℕ × ℕ × ℕ × List ℕ → Type 0 = λ w. (is_daemon w.0 ≡ true) × (is_below 64 w.1 ≡ true) × (is_below 32 w.2 ≡ true) in
    subst P (some_same (n.from, s.from, o.from, op.from.1) words o.gives)
    (daemon_is daemon.from.0 n.from n.is, decimal_is session.from.0 s.from s.is, below_is 32 op.from.0 o.from o.is)

call_is : (text : List ℕ) (c : Command) → call_command text ≡ Some c → is_writable c ≡ true
call_is text c h =
    let words = come_of (call_words text) _ c h in
    let r = come_of (request_of words.from.3) _ c words.gives in
    let fit = call_words_are text words.from words.is in
    sym (ap is_writable (some_same (commands.Event words.from.0 (event.Call words.from.1 words.from.2 r.from)) c r.gives))
    ∙ and_from _ _ fit.0 (and_from _ _ (and_from _ _ fit.1 fit.2) (request_is words.from.3 r.from r.is))

-- ---- commands

-- a command of one number
one_is : {A : Type 0} (o : Option A) (make : A → Command) (c : Command) → ((n : A) → o ≡ Some n → is_writable (make n) ≡ true) → option_map make o ≡ Some c → is_writable c ≡ true
one_is o make c fit h = let m = mapped_of o make c h in sym (ap is_writable m.gives) ∙ fit m.from m.is

two_are : (text : List ℕ) (pair : ℕ × ℕ) → two_daemons text ≡ Some pair → (is_daemon pair.0 && is_daemon pair.1) ≡ true
unfolding two_daemons
two_are text pair h =
    let words = come_of (cut_of 32 text) _ pair h in
    let left = come_of (daemon_of words.from.0) _ pair words.gives in
    let right = come_of (daemon_of words.from.1) _ pair left.gives in
    let P : ℕ × ℕ → Type 0 = λ p. (is_daemon p.0 && is_daemon p.1) ≡ true in
    subst P (some_same (left.from, right.from) pair right.gives) (and_from _ _ (daemon_is words.from.0 left.from left.is) (daemon_is words.from.1 right.from right.is))

setting_is : (word rest : List ℕ) (c : Command) → setting_of_words word rest ≡ Some c → is_writable c ≡ true
setting_is word rest c h =
    go (bytes_eq word (codes "daemon")) (bytes_eq word (codes "at")) (bytes_eq word (codes "word")) (bytes_eq word (codes "seed")) (bytes_eq word (codes "delay")) (bytes_eq word (codes "lose"))
    (bytes_eq word (codes "part")) (bytes_eq word (codes "meet")) h
  where
    go : (s t u v w x y z : Bool) →
        cond s (daemon_command rest)
        (cond t (option_map (λ n. commands.At n) (decimal_of rest))
        (cond u (option_map (λ w. commands.Word w) (decimal_below (2 ^ 32) rest))
        (cond v (option_map (λ s. commands.Seed s) (decimal_below (2 ^ 32) rest))
        (cond w (option_map (λ n. commands.Delay n) (number_in 1 10000 rest))
        (cond x (option_map (λ n. commands.Lose n) (number_in 0 1000000 rest))
        (cond y (option_map (λ pair. commands.Part pair.0 pair.1) (two_daemons rest))
        (cond z (option_map (λ pair. commands.Meet pair.0 pair.1) (two_daemons rest)) None))))))) ≡ Some c → is_writable c ≡ true
    go true t u v w x y z k = daemon_command_is rest c k
    go false true u v w x y z k = one_is (decimal_of rest) (λ n. commands.At n) c (decimal_is rest) k
    go false false true v w x y z k = one_is (decimal_below (2 ^ 32) rest) (λ n. commands.Word n) c (below_is 32 rest) k
    go false false false true w x y z k = one_is (decimal_below (2 ^ 32) rest) (λ n. commands.Seed n) c (below_is 32 rest) k
    go false false false false true x y z k = one_is (number_in 1 10000 rest) (λ n. commands.Delay n) c (number_is 1 10000 rest) k
    go false false false false false true y z k = one_is (number_in 0 1000000 rest) (λ n. commands.Lose n) c (number_is 0 1000000 rest) k
    go false false false false false false true z k = one_is (two_daemons rest) (λ pair. commands.Part pair.0 pair.1) c (two_are rest) k
    go false false false false false false false true k = one_is (two_daemons rest) (λ pair. commands.Meet pair.0 pair.1) c (two_are rest) k
    go false false false false false false false false k = absurd (cc)

event_is : (word rest : List ℕ) (c : Command) → event_of_words word rest ≡ Some c → is_writable c ≡ true
event_is word rest c h = go (bytes_eq word (codes "open")) (bytes_eq word (codes "close")) (bytes_eq word (codes "take")) (bytes_eq word (codes "hear")) (bytes_eq word (codes "call")) h
  where
    go : (u v w x y : Bool) →
        cond u (option_map (λ n. commands.Attach n) (daemon_of rest)) (cond v (close_command rest) (cond w (take_command rest) (cond x (hear_command rest) (cond y (call_command rest) None)))) ≡ Some c
        → is_writable c ≡ true
    go true v w x y k = one_is (daemon_of rest) (λ n. commands.Attach n) c (daemon_is rest) k
    go false true w x y k = close_is rest c k
    go false false true x y k = take_is rest c k
    go false false false true y k = hear_is rest c k
    go false false false false true k = call_is rest c k
    go false false false false false k = absurd (cc)

command_is : (line : List ℕ) (c : Command) → command_of line ≡ Some c → is_writable c ≡ true
command_is line c h =
    let words = come_of (cut_of 32 line) (λ words. command_of_words words.0 words.1) c h in
    go words.from.0 words.from.1 (setting_of_words words.from.0 words.from.1) refl words.gives
  where
    go : (word rest : List ℕ) (o : Option Command) → setting_of_words word rest ≡ o → option_or o (event_of_words word rest) ≡ Some c → is_writable c ≡ true
    go word rest None e k = event_is word rest c k
    go word rest (Some x) e k = setting_is word rest c (e ∙ k)

pub only_writable : (line : List ℕ) (command : Command) → line_of line ≡ lines.Command command → is_writable command ≡ true
unfolding line_of
only_writable line command h = go (is_read line) h
  where
    behind : (o : Option Command) → command_of line ≡ o → command_line o ≡ lines.Command command → is_writable command ≡ true
    behind None e k = absurd (cc)
    behind (Some c) e k = let same : c ≡ command = cc in ap is_writable (sym same) ∙ command_is line c e

    go : (t : Bool) → cond (not t) (lines.Command commands.Pass) (command_line (command_of line)) ≡ lines.Command command → is_writable command ≡ true
    go false k = let same : commands.Pass ≡ command = cc in ap is_writable (sym same)
    go true k = behind (command_of line) refl k
