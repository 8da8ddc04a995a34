-- What is printed of a command is read as it.
use Rattle.std.proofs.Common.{◌≡◌, ℕ, ◌+◌, ◌^◌, ◌<◌, ◌≤◌, true, false, ◌&&◌, eqb, List, [], ◌∷◌, ◌++◌, Option, Some, None, refl, ap, ◌∙◌, arith, append_assoc, append-nil, codes}
use Rattle.std.specs.Prelude.{decimal, nat_le}
use Rattle.std.specs.Str.{is_utf8}
use Rattle.std.proofs.lemmas.Bool.{and_parts, leb-true, eqb-true, or_parts}
use Rattle.number_text.specs.Cut.{cut_of}
use Rattle.number_text.specs.Digits.{decimal_of, decimal_below, ipv4_text, ipv6_text, hex_text}
use Rattle.mdns_base.specs.declared.host.Host.{Host}
use Rattle.number_text.proofs.Decimals.{decimal_written, decimal_below_written}
use Rattle.number_text.proofs.HexText.{hex_written}
use Rattle.number_text.proofs.Ipv4Text.{ipv4_written}
use Rattle.number_text.proofs.Ipv6Text.{ipv6_written}
use Rattle.number_text.proofs.Joined.{lacks, cut_of-joined}
use Rattle.dns_name.specs.Names.{is_label}
use Rattle.dns_record.specs.RecordText.{space}
use Rattle.dns_message.specs.Writing.{is_below, are_bytes}
use Rattle.sd_call.specs.CallText.{label_token}
use Rattle.mdns_history.specs.EntryText.{v6_text}
use Rattle.mdns_history.specs.Typed.{is_typed_host, is_typed_v6}
use Rattle.mdns_history.specs.declared.config.HostConfig.{HostConfig}
use Rattle.mdns_history.specs.declared.event.Event.{Event}
use Rattle.mdns_history.specs.declared.event.Event.TheVariants as event
use Rattle.mdns_history.proofs.TokenTexts.{below, decimal_seen, bytes_are, ipv4_seen, label_token_seen}
use Rattle.mdns_history.proofs.RecordTexts.{three}
use Rattle.mdns_script.specs.declared.command.Command.{Command}
use Rattle.mdns_script.specs.declared.command.Command.TheVariants as commands
use Rattle.mdns_script.specs.declared.command.Line.TheVariants as lines
use Rattle.mdns_script.specs.Boots.{daemon_of, addresses_of, host_of, hosted_of}
use Rattle.mdns_script.specs.Links.{number_in, two_daemons}
use Rattle.mdns_script.specs.Lines.{close_command, max_of, take_command, hear_words, call_words, command_of_words, is_read, line_of}
use Rattle.mdns_script.specs.CommandText.{said_request, said_event, said_host, command_text}
use Rattle.mdns_script.specs.Writable.{is_between, is_daemon, is_writable_request, is_writable_event, is_writable_host, is_writable}
use Rattle.mdns_script.proofs.TokensBack.{seen_lacks, word_cut, host_label_back}
use Rattle.mdns_script.proofs.RequestsBack.{request_read}

-- a first word, and what is read of the words behind it
line_back : (word text rest : List ℕ) (command : Command) → text ≡ rest → is_read (word ++ 32 ∷ text) ≡ true → lacks 32 word ≡ false → command_of_words word rest ≡ Some command →
    line_of (word ++ 32 ∷ text) ≡ lines.Command command
unfolding line_of
line_back word text rest command e read h k = rw (read, cut_of-joined 32 word text h, e, k) refl

-- ---- numbers

at_most : (least most n : ℕ) → is_between least most n ≡ true → n ≤ most
at_most least most n h = leb-true n most (and_parts (nat_le least n) (nat_le n most) h).1

number_back : (least most n : ℕ) → most < 2 ^ 64 → is_between least most n ≡ true → number_in least most (decimal n) ≡ Some n
number_back least most n small h = rw (decimal_written n (omega (arith, at_most least most n h)), h) refl

daemon_back : (n : ℕ) → is_daemon n ≡ true → daemon_of (decimal n) ≡ Some n
daemon_back n h = number_back 1 16 n (omega arith) h

max_back : (n : ℕ) → is_between 1 1000 n ≡ true → max_of (decimal n) ≡ Some n
max_back n h = number_back 1 1000 n (omega arith) h

wide_back : (n : ℕ) → is_below 64 n ≡ true → decimal_of (decimal n) ≡ Some n
wide_back n h = decimal_written n (below 64 n h)

below_back : (bits n : ℕ) → 2 ^ bits < 2 ^ 64 → is_below bits n ≡ true → decimal_below (2 ^ bits) (decimal n) ≡ Some n
below_back bits n small h = decimal_below_written (2 ^ bits) n (omega arith) (below bits n h)

-- a number of a daemon, and one of 64 bits, before a space
daemon_cut : (n : ℕ) (rest : List ℕ) → is_daemon n ≡ true → cut_of 32 (decimal n ++ 32 ∷ rest) ≡ Some (decimal n, rest)
daemon_cut n rest h = word_cut (decimal n) rest (decimal_seen n (omega (arith, at_most 1 16 n h)))

number_cut : (bits n : ℕ) (rest : List ℕ) → is_below bits n ≡ true → 2 ^ bits < 2 ^ 64 + 1 → cut_of 32 (decimal n ++ 32 ∷ rest) ≡ Some (decimal n, rest)
number_cut bits n rest h small = let less : n < 2 ^ bits = below bits n h in word_cut (decimal n) rest (decimal_seen n (omega arith))

-- ---- daemons

no_cut : (text : List ℕ) → lacks 32 text ≡ false → cut_of 32 text ≡ None
unfolding cut_of
no_cut [] h = refl
no_cut (b ∷ text) h = let parts = or_parts (eqb b 32) (lacks 32 text) h in rw (parts.0, no_cut text parts.1) refl

addresses_back : (v4 : ℕ) (v6 : Option ℕ) → is_below 32 v4 ≡ true → is_typed_v6 v6 ≡ true → addresses_of (ipv4_text v4 ++ v6_text v6) ≡ Some (v4, v6)
addresses_back v4 None h k =
    ap addresses_of (append-nil (ipv4_text v4))
    ∙ rw (no_cut (ipv4_text v4) (seen_lacks (ipv4_text v4) (ipv4_seen v4 (below 32 v4 h))), ipv4_written v4 (below 32 v4 h)) refl
addresses_back v4 (Some v6) h k =
    rw (word_cut (ipv4_text v4) (ipv6_text v6) (ipv4_seen v4 (below 32 v4 h)), ipv4_written v4 (below 32 v4 h), ipv6_written v6 (below 128 v6 k)) refl

-- what is known of a host
record IsHost (address : ℕ) (host : HostConfig) : Type 0 where
  address_fits : is_below 32 address ≡ true
  label_fits : is_label host.label ≡ true
  bytes : are_bytes host.label ≡ true
  utf8 : is_utf8 host.label ≡ true
  v6_fits : is_typed_v6 host.v6 ≡ true

is_host : (number address : ℕ) (host : HostConfig) → is_writable_host number address (Some host) ≡ true → IsHost address host
is_host number address host h =
    let a = and_parts (is_below 32 address && is_label host.label && are_bytes host.label && is_utf8 host.label) (is_typed_v6 host.v6) h in
    let b = and_parts (is_below 32 address && is_label host.label && are_bytes host.label) (is_utf8 host.label) a.0 in
    let c = three (is_below 32 address) (is_label host.label) (are_bytes host.label) b.0 in
    record { address_fits = c.0; label_fits = c.1; bytes = c.2; utf8 = b.1; v6_fits = a.1 }

host_back : (address : ℕ) (host : HostConfig) → IsHost address host → host_of (label_token host.label ++ 32 ∷ (ipv4_text address ++ v6_text host.v6)) ≡ Some (record { address = address; host = Some host })
unfolding host_of
host_back address host h =
    rw (
      word_cut (label_token host.label) (ipv4_text address ++ v6_text host.v6) (label_token_seen host.label),
      host_label_back host.label h.label_fits h.bytes h.utf8,
      addresses_back address host.v6 h.address_fits h.v6_fits,
    )
    refl

hosted_back : (address : ℕ) (host : HostConfig) → IsHost address host →
    hosted_of (codes "host" ++ 32 ∷ (label_token host.label ++ 32 ∷ (ipv4_text address ++ v6_text host.v6))) ≡ Some (record { address = address; host = Some host })
unfolding hosted_of
hosted_back address host h = rw (cut_of-joined 32 (codes "host") (label_token host.label ++ 32 ∷ (ipv4_text address ++ v6_text host.v6)) refl) (host_back address host h)

daemon_line : (number address : ℕ) (host : Option HostConfig) → is_daemon number ≡ true → is_writable_host number address host ≡ true →
    line_of (codes "daemon " ++ decimal number ++ said_host address host) ≡ lines.Command (commands.Daemon number (record { address = address; host = host }))
daemon_line number address None h k =
    line_back (codes "daemon") _ (decimal number) (commands.Daemon number (record { address = address; host = None })) (append-nil (decimal number)) refl refl
    (rw (no_cut (decimal number) (seen_lacks (decimal number) (decimal_seen number (omega (arith, at_most 1 16 number h)))), daemon_back number h, eqb-true address (167772160 + number) k) refl)
daemon_line number address (Some host) h k =
    line_back (codes "daemon") _ (decimal number ++ 32 ∷ (codes "host" ++ 32 ∷ (label_token host.label ++ 32 ∷ (ipv4_text address ++ v6_text host.v6)))) (commands.Daemon number (record { address = address; host = Some host }))
    (ap (λ (t : List ℕ). decimal number ++ 32 ∷ (codes "host" ++ 32 ∷ t)) (grouped (label_token host.label) (ipv4_text address) (v6_text host.v6))) refl refl
    (rw (daemon_cut number (codes "host" ++ 32 ∷ (label_token host.label ++ 32 ∷ (ipv4_text address ++ v6_text host.v6))) h, daemon_back number h, hosted_back address host (is_host number address host k)) refl)
  where
    grouped : (a b c : List ℕ) → ((a ++ space) ++ b) ++ c ≡ a ++ 32 ∷ (b ++ c)
    grouped a b c = simp append_assoc

-- ---- events

close_back : (daemon session : ℕ) → is_daemon daemon ≡ true → is_below 64 session ≡ true → close_command (decimal daemon ++ 32 ∷ decimal session) ≡ Some (commands.Event daemon (event.Detach session))
unfolding close_command
close_back daemon session h k = rw (daemon_cut daemon (decimal session) h, daemon_back daemon h, wide_back session k) refl

take_back : (daemon session max : ℕ) → is_daemon daemon ≡ true → is_below 64 session ≡ true → is_between 1 1000 max ≡ true →
    take_command (decimal daemon ++ 32 ∷ (decimal session ++ 32 ∷ decimal max)) ≡ Some (commands.Event daemon (event.Take session max))
unfolding take_command
take_back daemon session max h k m =
    rw (daemon_cut daemon (decimal session ++ 32 ∷ decimal max) h, number_cut 64 session (decimal max) k (omega arith), daemon_back daemon h, wide_back session k, max_back max m) refl

hear_words_back : (daemon : ℕ) (from : Host) (rest : List ℕ) → is_daemon daemon ≡ true → is_typed_host from ≡ true →
    hear_words (decimal daemon ++ 32 ∷ (ipv4_text from.ip ++ 32 ∷ (decimal from.port ++ 32 ∷ rest))) ≡ Some (daemon, from, rest)
unfolding hear_words
hear_words_back daemon from rest h k =
    let p = and_parts (is_below 32 from.ip) (is_below 16 from.port) k in
    rw (
      daemon_cut daemon (ipv4_text from.ip ++ 32 ∷ (decimal from.port ++ 32 ∷ rest)) h,
      word_cut (ipv4_text from.ip) (decimal from.port ++ 32 ∷ rest) (ipv4_seen from.ip (below 32 from.ip p.0)),
      number_cut 16 from.port rest p.1 (omega arith),
      daemon_back daemon h,
      ipv4_written from.ip (below 32 from.ip p.0),
      below_back 16 from.port (omega arith) p.1,
    )
    refl

call_words_back : (daemon session op : ℕ) (rest : List ℕ) → is_daemon daemon ≡ true → is_below 64 session ≡ true → is_below 32 op ≡ true →
    call_words (decimal daemon ++ 32 ∷ (decimal session ++ 32 ∷ (decimal op ++ 32 ∷ rest))) ≡ Some (daemon, session, op, rest)
unfolding call_words
call_words_back daemon session op rest h k o =
    rw (
      daemon_cut daemon (decimal session ++ 32 ∷ (decimal op ++ 32 ∷ rest)) h,
      number_cut 64 session (decimal op ++ 32 ∷ rest) k (omega arith),
      number_cut 32 op rest o (omega arith),
      daemon_back daemon h,
      wide_back session k,
      below_back 32 op (omega arith) o,
    )
    refl

event_line : (daemon : ℕ) (e : Event) → is_daemon daemon ≡ true → is_writable_event e ≡ true → line_of (said_event daemon e) ≡ lines.Command (commands.Event daemon e)
event_line daemon (event.Detach session) h k =
    line_back (codes "close") _ (decimal daemon ++ 32 ∷ decimal session) (commands.Event daemon (event.Detach session)) (append_assoc (decimal daemon) space (decimal session)) refl refl
    (rw (close_back daemon session h k) refl)
event_line daemon (event.Take session max) h k =
    let p = and_parts (is_below 64 session) (is_between 1 1000 max) k in
    line_back (codes "take") _ (decimal daemon ++ 32 ∷ (decimal session ++ 32 ∷ decimal max)) (commands.Event daemon (event.Take session max))
    (two (decimal daemon) (decimal session) (decimal max)) refl refl (rw (take_back daemon session max h p.0 p.1) refl)
  where
    two : (a b c : List ℕ) → (((a ++ space) ++ b) ++ space) ++ c ≡ a ++ 32 ∷ (b ++ 32 ∷ c)
    two a b c = simp append_assoc
event_line daemon (event.Hear from bytes) h k =
    let p = and_parts (is_typed_host from) (are_bytes bytes) k in
    line_back (codes "hear") _ (decimal daemon ++ 32 ∷ (ipv4_text from.ip ++ 32 ∷ (decimal from.port ++ 32 ∷ hex_text bytes))) (commands.Event daemon (event.Hear from bytes))
    (grouped (decimal daemon) (ipv4_text from.ip) (decimal from.port) (hex_text bytes)) refl refl
    (rw (hear_words_back daemon from (hex_text bytes) h p.0, hex_written bytes (bytes_are bytes p.1)) refl)
  where
    grouped : (a b c d : List ℕ) → (((a ++ space) ++ ((b ++ space) ++ c)) ++ space) ++ d ≡ a ++ 32 ∷ (b ++ 32 ∷ (c ++ 32 ∷ d))
    grouped a b c d = simp append_assoc
event_line daemon (event.Call session op request) h k =
    let p = three (is_below 64 session) (is_below 32 op) (is_writable_request request) k in
    line_back (codes "call") _ (decimal daemon ++ 32 ∷ (decimal session ++ 32 ∷ (decimal op ++ 32 ∷ said_request request))) (commands.Event daemon (event.Call session op request))
    (grouped (decimal daemon) (decimal session) (decimal op) (said_request request)) refl refl
    (rw (call_words_back daemon session op (said_request request) h p.0 p.1, request_read request p.2) refl)
  where
    grouped : (a b c d : List ℕ) → (((((a ++ space) ++ b) ++ space) ++ c) ++ space) ++ d ≡ a ++ 32 ∷ (b ++ 32 ∷ (c ++ 32 ∷ d))
    grouped a b c d = simp append_assoc
event_line daemon (event.Boot config) h k = absurd (cc)
event_line daemon event.Attach h k = absurd (cc)
event_line daemon event.Tick h k = absurd (cc)

-- ---- commands

two_back : (left right : ℕ) → is_daemon left ≡ true → is_daemon right ≡ true → two_daemons (decimal left ++ 32 ∷ decimal right) ≡ Some (left, right)
unfolding two_daemons
two_back left right h k = rw (daemon_cut left (decimal right) h, daemon_back left h, daemon_back right k) refl

pub command_read : (command : Command) → is_writable command ≡ true → line_of (command_text command) ≡ lines.Command command
unfolding line_of
command_read commands.Pass h = refl
command_read (commands.Daemon number config) h =
    let p = and_parts (is_daemon number) (is_writable_host number config.address config.host) h in daemon_line number config.address config.host p.0 p.1
command_read (commands.At moment) h = line_back (codes "at") (decimal moment) (decimal moment) (commands.At moment) refl refl refl (rw (wide_back moment h) refl)
command_read (commands.Word word) h = line_back (codes "word") (decimal word) (decimal word) (commands.Word word) refl refl refl (rw (below_back 32 word (omega arith) h) refl)
command_read (commands.Seed seed) h = line_back (codes "seed") (decimal seed) (decimal seed) (commands.Seed seed) refl refl refl (rw (below_back 32 seed (omega arith) h) refl)
command_read (commands.Delay ms) h = line_back (codes "delay") (decimal ms) (decimal ms) (commands.Delay ms) refl refl refl (rw (number_back 1 10000 ms (omega arith) h) refl)
command_read (commands.Lose count) h = line_back (codes "lose") (decimal count) (decimal count) (commands.Lose count) refl refl refl (rw (number_back 0 1000000 count (omega arith) h) refl)
command_read (commands.Part left right) h =
    let p = and_parts (is_daemon left) (is_daemon right) h in
    line_back (codes "part") _ (decimal left ++ 32 ∷ decimal right) (commands.Part left right) (append_assoc (decimal left) space (decimal right)) refl refl (rw (two_back left right p.0 p.1) refl)
command_read (commands.Meet left right) h =
    let p = and_parts (is_daemon left) (is_daemon right) h in
    line_back (codes "meet") _ (decimal left ++ 32 ∷ decimal right) (commands.Meet left right) (append_assoc (decimal left) space (decimal right)) refl refl (rw (two_back left right p.0 p.1) refl)
command_read (commands.Attach daemon) h = line_back (codes "open") (decimal daemon) (decimal daemon) (commands.Attach daemon) refl refl refl (rw (daemon_back daemon h) refl)
command_read (commands.Event daemon event) h = let p = and_parts (is_daemon daemon) (is_writable_event event) h in event_line daemon event p.0 p.1

-- a print is read, whatever it was taken from
pub print_read : (command : Command) (text : List ℕ) → text ≡ command_text command → is_writable command ≡ true → line_of text ≡ lines.Command command
print_read command text e h = ap line_of e ∙ command_read command h
