-- What is read of an event, and of the first line of an entry, can be printed.
use Rattle.std.proofs.Common.{◌≡◌, ℕ, ◌^◌, Bool, true, false, cond, ◌&&◌, List, Option, Some, None, refl, ap, sym, ◌∙◌, inl, inr, codes, subst}
use Rattle.std.specs.Option.{option_map}
use Rattle.std.specs.Str.{bytes_eq}
use Rattle.std.proofs.lemmas.Bool.{and_from}
use Rattle.number_text.specs.Cut.{cut_of}
use Rattle.number_text.specs.Digits.{◌>>=◌, decimal_of, decimal_below, ipv4_of, ipv6_of, hex_of}
use Rattle.mdns_base.specs.declared.host.Host.{Host}
use Rattle.dns_message.specs.Writing.{is_below, are_bytes}
use Rattle.mdns_history.specs.declared.config.HostConfig.{HostConfig}
use Rattle.mdns_history.specs.declared.config.Config.{Config}
use Rattle.mdns_history.specs.declared.event.Event.{Event}
use Rattle.mdns_history.specs.declared.event.Event.TheVariants as event
use Rattle.mdns_history.specs.Typed.{is_typed_host, is_typed_label, is_typed_event}
use Rattle.mdns_script.specs.Boots.{daemon_of}
use Rattle.mdns_script.specs.Writable.{is_daemon}
use Rattle.mdns_script.proofs.ReadTokens.{come_of, mapped_of, some_same, either_of, decimal_is, below_is, daemon_is, ipv4_is, ipv6_is, hex_is}
use Rattle.mdns_print.specs.declared.line.Line.{Line}
use Rattle.mdns_print.specs.declared.line.Line.TheVariants as lines
use Rattle.mdns_lines.specs.Words.{after, if_word, label_in, host_in}
use Rattle.mdns_lines.specs.ReadCalls.{request_in}
use Rattle.mdns_lines.specs.ReadEvents.{host_config_in, config_in, call_words, call_in, hear_words, hear_in, take_in, plain_event, event_of_words, event_in, head_words, head_in}
use Rattle.mdns_lines.specs.Printable.{event_has_text, is_printable_line}
use Rattle.mdns_lines.proofs.OnlyWords.{cut_bytes, host_in_is, label_in_is, word_is}
use Rattle.mdns_lines.proofs.OnlyRequests.{request_is}

-- ---- events

-- an event is as its type says, and the texts of its request are UTF-8
abbrev IsEvent : Event → Type 0
IsEvent e = (is_typed_event e ≡ true) × (event_has_text e ≡ true)

host_config_is : (text : List ℕ) (host : HostConfig) → are_bytes text ≡ true → host_config_in text ≡ Some host → is_typed_label (Some host) ≡ true
host_config_is text host b h = go (cut_of 32 text) refl
  where
    fits : HostConfig → Type 0
    fits found = is_typed_label (Some found) ≡ true

    go : (o : Option (List ℕ × List ℕ)) → cut_of 32 text ≡ o → is_typed_label (Some host) ≡ true
    go None e =
        let found : option_map {T = List ℕ} {U = HostConfig} (λ label. record { label = label; v6 = None }) (label_in text) ≡ Some host = rw e at h in
        let m = mapped_of (label_in text) (λ label. record { label = label; v6 = None }) host found in
        let l = label_in_is text m.from b m.is in
        subst fits m.gives (and_from _ _ (and_from _ _ l.0 l.1) refl)
    go (Some words) e =
        let found : (label_in words.0 >>= λ label. ipv6_of words.1 >>= λ v6. Some (record { label = label; v6 = Some v6 })) ≡ Some host = rw e at h in
        let label = come_of (label_in words.0) (λ label. ipv6_of words.1 >>= λ v6. Some (record { label = label; v6 = Some v6 })) host found in
        let v6 = come_of (ipv6_of words.1) (λ v6. Some (record { label = label.from; v6 = Some v6 })) host label.gives in
        let l = label_in_is words.0 label.from (cut_bytes text words b e).0 label.is in
        subst fits (some_same (record { label = label.from; v6 = Some v6.from }) host v6.gives) (and_from _ _ (and_from _ _ l.0 l.1) (ipv6_is words.1 v6.from v6.is))

-- whether a configuration is as its type says
abbrev is_config : Config → Bool
is_config config = is_below 32 config.address && is_typed_label config.host

config_is : (text : List ℕ) (config : Config) → are_bytes text ≡ true → config_in text ≡ Some config → is_config config ≡ true
config_is text config b h = go (cut_of 32 text) refl
  where
    fits : Config → Type 0
    fits found = is_config found ≡ true

    go : (o : Option (List ℕ × List ℕ)) → cut_of 32 text ≡ o → is_config config ≡ true
    go None e =
        let found : option_map {T = ℕ} {U = Config} (λ a. record { address = a; host = None }) (ipv4_of text) ≡ Some config = rw e at h in
        let m = mapped_of (ipv4_of text) (λ a. record { address = a; host = None }) config found in
        subst fits m.gives (and_from _ _ (ipv4_is text m.from m.is) refl)
    go (Some words) e =
        let found : (ipv4_of words.0 >>= λ a. host_config_in words.1 >>= λ host. Some (record { address = a; host = Some host })) ≡ Some config = rw e at h in
        let a = come_of (ipv4_of words.0) (λ a. host_config_in words.1 >>= λ host. Some (record { address = a; host = Some host })) config found in
        let host = come_of (host_config_in words.1) (λ host. Some (record { address = a.from; host = Some host })) config a.gives in
        subst fits (some_same (record { address = a.from; host = Some host.from }) config host.gives)
        (and_from _ _ (ipv4_is words.0 a.from a.is) (host_config_is words.1 host.from (cut_bytes text words b e).1 host.is))

boot_is : (text : List ℕ) (e : Event) → are_bytes text ≡ true → option_map (λ config. event.Boot config) (config_in text) ≡ Some e → IsEvent e
boot_is text e b h = let m = mapped_of (config_in text) (λ config. event.Boot config) e h in subst IsEvent m.gives (config_is text m.from b m.is, refl)

close_is : (text : List ℕ) (e : Event) → option_map (λ session. event.Detach session) (decimal_of text) ≡ Some e → IsEvent e
close_is text e h = let m = mapped_of (decimal_of text) (λ session. event.Detach session) e h in subst IsEvent m.gives (decimal_is text m.from m.is, refl)

take_is : (text : List ℕ) (e : Event) → take_in text ≡ Some e → IsEvent e
unfolding take_in
take_is text e h =
    let session = come_of (cut_of 32 text) _ e h in
    let s = come_of (decimal_of session.from.0) _ e session.gives in
    let max = come_of (decimal_below (2 ^ 32) session.from.1) _ e s.gives in
    subst IsEvent (some_same (event.Take s.from max.from) e max.gives) (and_from _ _ (decimal_is session.from.0 s.from s.is) (below_is 32 session.from.1 max.from max.is), refl)

hear_words_are : (text : List ℕ) (words : Host × List ℕ) → hear_words text ≡ Some words → is_typed_host words.0 ≡ true
unfolding hear_words
hear_words_are text words h =
    let ip = come_of (cut_of 32 text) _ words h in
    let port = come_of (cut_of 32 ip.from.1) _ words ip.gives in
    let from = come_of (host_in ip.from.0 port.from.0) _ words port.gives in
    sym (ap (λ (w : Host × List ℕ). is_typed_host w.0) (some_same (from.from, port.from.1) words from.gives)) ∙ host_in_is ip.from.0 port.from.0 from.from from.is

hear_is : (text : List ℕ) (e : Event) → hear_in text ≡ Some e → IsEvent e
hear_is text e h =
    let words = come_of (hear_words text) _ e h in
    let bytes = come_of (hex_of words.from.1) _ e words.gives in
    subst IsEvent (some_same (event.Hear words.from.0 bytes.from) e bytes.gives) (and_from _ _ (hear_words_are text words.from words.is) (hex_is words.from.1 bytes.from bytes.is), refl)

call_words_are : (text : List ℕ) (words : ℕ × ℕ × List ℕ) → call_words text ≡ Some words → (is_below 64 words.0 ≡ true) × (is_below 32 words.1 ≡ true)
unfolding call_words
call_words_are text words h =
    let session = come_of (cut_of 32 text) _ words h in
    let op = come_of (cut_of 32 session.from.1) _ words session.gives in
    let s = come_of (decimal_of session.from.0) _ words op.gives in
    let o = come_of (decimal_below (2 ^ 32) op.from.0) _ words s.gives in
    let P : ℕ × ℕ × List ℕ → Type 0 = λ w. (is_below 64 w.0 ≡ true) × (is_below 32 w.1 ≡ true) in
    subst P (some_same (s.from, o.from, op.from.1) words o.gives) (decimal_is session.from.0 s.from s.is, below_is 32 op.from.0 o.from o.is)

call_is : (text : List ℕ) (e : Event) → call_in text ≡ Some e → IsEvent e
call_is text e h =
    let words = come_of (call_words text) _ e h in
    let r = come_of (request_in words.from.2) _ e words.gives in
    let fit = call_words_are text words.from words.is in
    let is = request_is words.from.2 r.from r.is in
    subst IsEvent (some_same (event.Call words.from.0 words.from.1 r.from) e r.gives) (and_from _ _ (and_from _ _ fit.0 fit.1) is.0, is.1)

event_words_are : (word rest : List ℕ) (e : Event) → are_bytes rest ≡ true → event_of_words word rest ≡ Some e → IsEvent e
event_words_are word rest e b h = go (bytes_eq word (codes "boot")) (bytes_eq word (codes "close")) (bytes_eq word (codes "take")) (bytes_eq word (codes "hear")) (bytes_eq word (codes "call")) h
  where
    go : (u v w x y : Bool) →
        cond u (option_map (λ config. event.Boot config) (config_in rest)) (cond v (option_map (λ session. event.Detach session) (decimal_of rest)) (cond w (take_in rest)
        (cond x (hear_in rest) (cond y (call_in rest) None)))) ≡ Some e → IsEvent e
    go true v w x y k = boot_is rest e b k
    go false true w x y k = close_is rest e k
    go false false true x y k = take_is rest e k
    go false false false true y k = hear_is rest e k
    go false false false false true k = call_is rest e k
    go false false false false false k = absurd (cc)

plain_is : (text : List ℕ) (e : Event) → plain_event text ≡ Some e → IsEvent e
plain_is text e h =
    elim (either_of (bytes_eq text (codes "tick")) (Some event.Tick) (if_word (codes "open") text event.Attach) e h) [
      | inl k ↦ subst IsEvent (some_same event.Tick e k) (refl, refl)
      | inr k ↦ subst IsEvent (word_is (codes "open") text event.Attach e k) (refl, refl)
    ]

event_is : (text : List ℕ) (e : Event) → are_bytes text ≡ true → event_in text ≡ Some e → IsEvent e
event_is text e b h = go (cut_of 32 text) refl
  where
    go : (o : Option (List ℕ × List ℕ)) → cut_of 32 text ≡ o → IsEvent e
    go None k = let found : plain_event text ≡ Some e = rw k at h in plain_is text e found
    go (Some words) k = let found : event_of_words words.0 words.1 ≡ Some e = rw k at h in event_words_are words.0 words.1 e (cut_bytes text words b k).1 found

-- ---- first lines of entries

abbrev HeadWords : Type 0
HeadWords = ℕ × ℕ × ℕ × List ℕ

record AreHeadWords (words : HeadWords) : Type 0 where
  daemon : is_daemon words.0 ≡ true
  moment : is_below 64 words.1 ≡ true
  word : is_below 32 words.2 ≡ true
  rest : are_bytes words.3 ≡ true

head_words_are : (text : List ℕ) (words : HeadWords) → are_bytes text ≡ true → head_words text ≡ Some words → AreHeadWords words
unfolding head_words
head_words_are text words b h =
    let moment = come_of (cut_of 32 text) _ words h in
    let daemon = come_of (cut_of 32 moment.from.1) _ words moment.gives in
    let word = come_of (cut_of 32 daemon.from.1) _ words daemon.gives in
    let m = come_of (decimal_of moment.from.0) _ words word.gives in
    let d = come_of (after (codes "d") daemon.from.0) _ words m.gives in
    let w = come_of (after (codes "w") word.from.0) _ words d.gives in
    let number = come_of (daemon_of d.from) _ words w.gives in
    let bits = come_of (decimal_below (2 ^ 32) w.from) _ words number.gives in
    let rest = cut_bytes daemon.from.1 word.from (cut_bytes moment.from.1 daemon.from (cut_bytes text moment.from b moment.is).1 daemon.is).1 word.is in
    subst AreHeadWords (some_same (number.from, m.from, bits.from, word.from.1) words bits.gives)
    (record {
      daemon = daemon_is d.from number.from number.is;
      moment = decimal_is moment.from.0 m.from m.is;
      word = below_is 32 w.from bits.from bits.is;
      rest = rest.1;
    })

-- whether a line is as its type says
abbrev pub IsLine : Line → Type 0
IsLine l = is_printable_line l ≡ true

pub head_is : (text : List ℕ) (l : Line) → are_bytes text ≡ true → head_in text ≡ Some l → IsLine l
head_is text l b h =
    let words = come_of (head_words text) _ l h in
    let e = come_of (event_in words.from.3) _ l words.gives in
    let are = head_words_are text words.from b words.is in
    let is = event_is words.from.3 e.from are.rest e.is in
    subst IsLine (some_same (lines.Head words.from.0 words.from.1 words.from.2 e.from) l e.gives)
    (and_from _ _ (and_from _ _ (and_from _ _ (and_from _ _ are.daemon are.moment) are.word) is.0) is.1)
