-- What is printed of an event, and of the first line of an entry, is read as it.
use Rattle.std.proofs.Common.{◌≡◌, ℕ, ◌+◌, ◌^◌, ◌<◌, true, false, eqb, List, [], ◌∷◌, ◌++◌, Option, Some, None, refl, ap, ◌∙◌, arith, append_assoc, append-nil, codes}
use Rattle.std.specs.Prelude.{decimal, nat_le}
use Rattle.std.proofs.lemmas.Bool.{and_parts, or_parts, leb-true}
use Rattle.number_text.specs.Cut.{cut_of}
use Rattle.number_text.specs.Digits.{decimal_of, decimal_below, ipv4_text, ipv6_text, hex_text}
use Rattle.mdns_base.specs.declared.host.Host.{Host}
use Rattle.number_text.proofs.Decimals.{decimal_written, decimal_below_written}
use Rattle.number_text.proofs.HexText.{hex_written}
use Rattle.number_text.proofs.Ipv4Text.{ipv4_written}
use Rattle.number_text.proofs.Ipv6Text.{ipv6_written}
use Rattle.number_text.proofs.Joined.{lacks, cut_of-joined}
use Rattle.dns_name.specs.Names.{is_label}
use Rattle.dns_record.specs.RecordText.{space}
use Rattle.dns_message.specs.Writing.{is_below, are_bytes}
use Rattle.sd_call.specs.CallText.{label_token, request_text}
use Rattle.mdns_history.specs.declared.config.HostConfig.{HostConfig}
use Rattle.mdns_history.specs.declared.config.Config.{Config}
use Rattle.mdns_history.specs.declared.event.Event.{Event}
use Rattle.mdns_history.specs.declared.event.Event.TheVariants as event
use Rattle.mdns_history.specs.EntryText.{v6_text, host_text, event_text}
use Rattle.mdns_history.specs.Typed.{is_typed_host, is_typed_v6, is_typed_label, is_typed_request, is_typed_event}
use Rattle.mdns_history.proofs.Texts.{are_seen}
use Rattle.mdns_history.proofs.TokenTexts.{below, bytes_are, decimal_seen, ipv4_seen, label_token_seen}
use Rattle.mdns_history.proofs.RecordTexts.{three}
use Rattle.mdns_script.specs.Boots.{daemon_of}
use Rattle.mdns_script.specs.Writable.{is_daemon}
use Rattle.mdns_script.proofs.TokensBack.{seen_lacks, word_cut}
use Rattle.mdns_print.specs.declared.line.Line.TheVariants as lines
use Rattle.mdns_lines.specs.ReadEvents.{host_config_in, config_in, call_words, hear_words, take_in, event_of_words, event_in, head_words, head_in}
use Rattle.mdns_lines.specs.Printable.{event_has_text}
use Rattle.mdns_lines.proofs.WordsBack.{label_in_back, host_in_back}
use Rattle.mdns_lines.proofs.RequestsBack.{request_read}

-- a text without a space isn't cut
pub no_cut : (text : List ℕ) → lacks 32 text ≡ false → cut_of 32 text ≡ None
unfolding cut_of
no_cut [] h = refl
no_cut (b ∷ text) h = let parts = or_parts (eqb b 32) (lacks 32 text) h in rw (parts.0, no_cut text parts.1) refl

pub no_cut_seen : (text : List ℕ) → are_seen text ≡ true → cut_of 32 text ≡ None
no_cut_seen text h = no_cut text (seen_lacks text h)

-- a number before a space
pub number_cut : (bits n : ℕ) (rest : List ℕ) → is_below bits n ≡ true → 2 ^ bits < 2 ^ 64 + 1 → cut_of 32 (decimal n ++ 32 ∷ rest) ≡ Some (decimal n, rest)
number_cut bits n rest h small = let less : n < 2 ^ bits = below bits n h in word_cut (decimal n) rest (decimal_seen n (omega arith))

pub wide_back : (n : ℕ) → is_below 64 n ≡ true → decimal_of (decimal n) ≡ Some n
wide_back n h = decimal_written n (below 64 n h)

pub below_back : (bits n : ℕ) → 2 ^ bits < 2 ^ 64 → is_below bits n ≡ true → decimal_below (2 ^ bits) (decimal n) ≡ Some n
below_back bits n small h = decimal_below_written (2 ^ bits) n (omega arith) (below bits n h)

-- ---- boots

host_config_back : (host : HostConfig) → is_typed_label (Some host) ≡ true → host_config_in (label_token host.label ++ v6_text host.v6) ≡ Some host
host_config_back host h = go host.v6 p.2
  where
    p : (is_label host.label ≡ true) × (are_bytes host.label ≡ true) × (is_typed_v6 host.v6 ≡ true)
    p = three (is_label host.label) (are_bytes host.label) (is_typed_v6 host.v6) h

    go : (v6 : Option ℕ) → is_typed_v6 v6 ≡ true → host_config_in (label_token host.label ++ v6_text v6) ≡ Some (record { label = host.label; v6 = v6 })
    go None k =
        ap host_config_in (append-nil (label_token host.label)) ∙ rw (no_cut_seen (label_token host.label) (label_token_seen host.label), label_in_back host.label p.0 p.1) refl
    go (Some v6) k =
        rw (word_cut (label_token host.label) (ipv6_text v6) (label_token_seen host.label), label_in_back host.label p.0 p.1, ipv6_written v6 (below 128 v6 k)) refl

config_back : (config : Config) → is_below 32 config.address ≡ true → is_typed_label config.host ≡ true → config_in (ipv4_text config.address ++ host_text config.host) ≡ Some config
config_back config h k = go config.host k
  where
    seen : are_seen (ipv4_text config.address) ≡ true
    seen = ipv4_seen config.address (below 32 config.address h)

    go : (host : Option HostConfig) → is_typed_label host ≡ true → config_in (ipv4_text config.address ++ host_text host) ≡ Some (record { address = config.address; host = host })
    go None k = ap config_in (append-nil (ipv4_text config.address)) ∙ rw (no_cut_seen (ipv4_text config.address) seen, ipv4_written config.address (below 32 config.address h)) refl
    go (Some host) k =
        ap (λ t. config_in (ipv4_text config.address ++ t)) (append_assoc space (label_token host.label) (v6_text host.v6))
        ∙ rw (
          word_cut (ipv4_text config.address) (label_token host.label ++ v6_text host.v6) seen,
          ipv4_written config.address (below 32 config.address h),
          host_config_back host k,
        )
        refl

-- ---- events

-- a text of a first word and what follows it
event_back : (text word rest : List ℕ) (e : Event) → text ≡ word ++ 32 ∷ rest → lacks 32 word ≡ false → event_of_words word rest ≡ Some e → event_in text ≡ Some e
event_back text word rest e same h k =
    let cut : cut_of 32 text ≡ Some (word, rest) = ap (cut_of 32) same ∙ cut_of-joined 32 word rest h in rw cut k

call_words_back : (session op : ℕ) (rest : List ℕ) → is_below 64 session ≡ true → is_below 32 op ≡ true → call_words (decimal session ++ 32 ∷ (decimal op ++ 32 ∷ rest)) ≡ Some (session, op, rest)
unfolding call_words
call_words_back session op rest h k =
    rw (number_cut 64 session (decimal op ++ 32 ∷ rest) h (omega arith), number_cut 32 op rest k (omega arith), wide_back session h, below_back 32 op (omega arith) k) refl

hear_words_back : (from : Host) (rest : List ℕ) → is_typed_host from ≡ true → hear_words (ipv4_text from.ip ++ 32 ∷ (decimal from.port ++ 32 ∷ rest)) ≡ Some (from, rest)
unfolding hear_words
hear_words_back from rest h =
    let p = and_parts (is_below 32 from.ip) (is_below 16 from.port) h in
    rw (word_cut (ipv4_text from.ip) (decimal from.port ++ 32 ∷ rest) (ipv4_seen from.ip (below 32 from.ip p.0)), number_cut 16 from.port rest p.1 (omega arith), host_in_back from h) refl

take_back : (session max : ℕ) → is_below 64 session ≡ true → is_below 32 max ≡ true → take_in (decimal session ++ 32 ∷ decimal max) ≡ Some (event.Take session max)
unfolding take_in
take_back session max h k = rw (number_cut 64 session (decimal max) h (omega arith), wide_back session h, below_back 32 max (omega arith) k) refl

call_text : (a b c : List ℕ) → codes "call " ++ a ++ space ++ b ++ space ++ c ≡ codes "call " ++ (a ++ 32 ∷ (b ++ 32 ∷ c))
call_text a b c = simp append_assoc

hear_text : (a b c : List ℕ) → codes "hear " ++ (a ++ space ++ b) ++ space ++ c ≡ codes "hear " ++ (a ++ 32 ∷ (b ++ 32 ∷ c))
hear_text a b c = simp append_assoc

pub event_read : (e : Event) → is_typed_event e ≡ true → event_has_text e ≡ true → event_in (event_text e) ≡ Some e
event_read (event.Boot config) h k =
    let p = and_parts (is_below 32 config.address) (is_typed_label config.host) h in
    event_back _ (codes "boot") (ipv4_text config.address ++ host_text config.host) (event.Boot config) (append_assoc (codes "boot ") (ipv4_text config.address) (host_text config.host)) refl
    (rw (config_back config p.0 p.1) refl)
event_read event.Attach h k = rw (no_cut_seen (codes "open") refl) refl
event_read (event.Detach session) h k = event_back _ (codes "close") (decimal session) (event.Detach session) refl refl (rw (wide_back session h) refl)
event_read (event.Call session op request) h k =
    let p = three (is_below 64 session) (is_below 32 op) (is_typed_request request) h in
    event_back _ (codes "call") (decimal session ++ 32 ∷ (decimal op ++ 32 ∷ request_text request)) (event.Call session op request)
    (call_text (decimal session) (decimal op) (request_text request)) refl
    (rw (call_words_back session op (request_text request) p.0 p.1, request_read request p.2 k) refl)
event_read (event.Hear from bytes) h k =
    let p = and_parts (is_typed_host from) (are_bytes bytes) h in
    event_back _ (codes "hear") (ipv4_text from.ip ++ 32 ∷ (decimal from.port ++ 32 ∷ hex_text bytes)) (event.Hear from bytes)
    (hear_text (ipv4_text from.ip) (decimal from.port) (hex_text bytes)) refl
    (rw (hear_words_back from (hex_text bytes) p.0, hex_written bytes (bytes_are bytes p.1)) refl)
event_read event.Tick h k = rw (no_cut_seen (codes "tick") refl) refl
event_read (event.Take session max) h k =
    let p = and_parts (is_below 64 session) (is_below 32 max) h in
    event_back _ (codes "take") (decimal session ++ 32 ∷ decimal max) (event.Take session max) (append_assoc (codes "take " ++ decimal session) space (decimal max)) refl
    (rw (take_back session max p.0 p.1) refl)

-- ---- the first line of an entry

daemon_back : (n : ℕ) → is_daemon n ≡ true → daemon_of (decimal n) ≡ Some n
daemon_back n h =
    let most : n < 2 ^ 64 = omega (arith, leb-true n 16 (and_parts (nat_le 1 n) (nat_le n 16) h).1) in rw (decimal_written n most, h) refl

daemon_seen : (n : ℕ) → is_daemon n ≡ true → are_seen (decimal n) ≡ true
daemon_seen n h = decimal_seen n (omega (arith, leb-true n 16 (and_parts (nat_le 1 n) (nat_le n 16) h).1))

pub head_words_back : (daemon moment word : ℕ) (rest : List ℕ) → is_daemon daemon ≡ true → is_below 64 moment ≡ true → is_below 32 word ≡ true →
    head_words (decimal moment ++ 32 ∷ ((100 ∷ decimal daemon) ++ 32 ∷ ((119 ∷ decimal word) ++ 32 ∷ rest))) ≡ Some (daemon, moment, word, rest)
unfolding head_words
head_words_back daemon moment word rest d m w =
    let less : word < 2 ^ 32 = below 32 word w in
    rw (
      number_cut 64 moment ((100 ∷ decimal daemon) ++ 32 ∷ ((119 ∷ decimal word) ++ 32 ∷ rest)) m (omega arith),
      word_cut (100 ∷ decimal daemon) ((119 ∷ decimal word) ++ 32 ∷ rest) (daemon_seen daemon d),
      word_cut (119 ∷ decimal word) rest (decimal_seen word (omega arith)),
      wide_back moment m,
      daemon_back daemon d,
      below_back 32 word (omega arith) w,
    )
    refl

head_text : (m d w e : List ℕ) → m ++ codes " d" ++ d ++ codes " w" ++ w ++ space ++ e ≡ m ++ 32 ∷ ((100 ∷ d) ++ 32 ∷ ((119 ∷ w) ++ 32 ∷ e))
head_text m d w e = simp append_assoc

pub head_back : (daemon moment word : ℕ) (e : Event) → is_daemon daemon ≡ true → is_below 64 moment ≡ true → is_below 32 word ≡ true → is_typed_event e ≡ true → event_has_text e ≡ true →
    head_in (decimal moment ++ codes " d" ++ decimal daemon ++ codes " w" ++ decimal word ++ space ++ event_text e) ≡ Some (lines.Head daemon moment word e)
head_back daemon moment word e d m w h k =
    ap head_in (head_text (decimal moment) (decimal daemon) (decimal word) (event_text e))
    ∙ rw (head_words_back daemon moment word (event_text e) d m w, event_read e h k) refl
