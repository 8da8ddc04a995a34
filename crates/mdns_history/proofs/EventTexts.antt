-- Events, marks and outcomes as text: they stand in a line, and tell what they are the text of.
use Rattle.std.proofs.Common.{◌≡◌, ℕ, true, List, ◌∷◌, ◌++◌, Option, Some, None, refl, ap, sym, ◌∙◌, arith, codes, append_assoc, drop}
use Rattle.std.proofs.lemmas.Bool.{and_parts}
use Rattle.std.specs.Prelude.{decimal}
use Rattle.number_text.specs.Digits.{hex_text, ipv4_text, ipv6_text}
use Rattle.mdns_base.specs.declared.host.Host.{Host}
use Rattle.mdns_base.specs.declared.host.Dest.{Dest}
use Rattle.mdns_base.specs.declared.host.Dest.TheVariants.{All, One}
use Rattle.dns_name.specs.Names.{is_label}
use Rattle.dns_name.specs.NameText.{name_text}
use Rattle.dns_record.specs.RecordText.{space, kind_text}
use Rattle.dns_message.specs.Writing.{is_below, are_bytes, is_spellable_name}
use Rattle.sd_call.specs.declared.request.Request.{Request}
use Rattle.sd_call.specs.CallText.{label_token, request_text}
use Rattle.mdns_history.specs.declared.config.HostConfig.{HostConfig}
use Rattle.mdns_history.specs.declared.event.Event.{Event}
use Rattle.mdns_history.specs.declared.event.Event.TheVariants as event
use Rattle.mdns_history.specs.declared.mark.Cause.{Cause}
use Rattle.mdns_history.specs.declared.mark.Cause.TheVariants as cause
use Rattle.mdns_history.specs.declared.mark.Mark.{Mark}
use Rattle.mdns_history.specs.declared.mark.Mark.TheVariants as mark
use Rattle.mdns_history.specs.EntryText.{v6_text, host_text, from_text, event_text, cause_text, mark_text, dest_text}
use Rattle.mdns_history.specs.Typed.{is_typed_host, is_typed_dest, is_typed_v6, is_typed_label, is_typed_event, is_typed_mark, is_typed_request}
use Rattle.mdns_history.proofs.Texts.{are_seen, in_line, line_joined, seen_line, apart, EndsToken, lead}
use Rattle.mdns_history.proofs.TokenTexts.{below, hex_seen, hex_told, ipv4_seen, ipv4_told, ipv6_seen, ipv6_told, label_token_seen, label_token_told, name_seen, name_told}
use Rattle.mdns_history.proofs.RecordTexts.{kind_seen, kind_told, number_line, three}
use Rattle.mdns_history.proofs.CallTexts.{number_seen, number_told, words, request_line, request_told}

regroup : (a b c : List ℕ) → (a ++ b) ++ c ≡ a ++ (b ++ c)
regroup a b c = append_assoc a b c

-- ---- hosts

v6_ends : (v6 : Option ℕ) → EndsToken (v6_text v6)
v6_ends None = tt
v6_ends (Some v6) = refl

v6_line : (v6 : Option ℕ) → is_typed_v6 v6 ≡ true → in_line (v6_text v6) ≡ true
v6_line None h = refl
v6_line (Some v6) h = line_joined space (ipv6_text v6) refl (seen_line (ipv6_text v6) (ipv6_seen v6 (below 128 v6 h)))

v6_told : (a b : Option ℕ) → is_typed_v6 a ≡ true → is_typed_v6 b ≡ true → v6_text a ≡ v6_text b → a ≡ b
v6_told None None h k e = refl
v6_told None (Some b) h k e = cc
v6_told (Some a) None h k e = cc
v6_told (Some a) (Some b) h k e = ap (λ (n : ℕ). Some n) (ipv6_told a b (below 128 a h) (below 128 b k) (ap (drop 1) e))

host_ends : (host : Option HostConfig) → EndsToken (host_text host)
host_ends None = tt
host_ends (Some host) = refl

host_line : (host : Option HostConfig) → is_typed_label host ≡ true → in_line (host_text host) ≡ true
host_line None h = refl
host_line (Some host) h =
    line_joined (space ++ label_token host.label) (v6_text host.v6)
    (line_joined space (label_token host.label) refl (seen_line (label_token host.label) (label_token_seen host.label)))
    (v6_line host.v6 (three (is_label host.label) (are_bytes host.label) (is_typed_v6 host.v6) h).2)

host_told : (a b : Option HostConfig) → is_typed_label a ≡ true → is_typed_label b ≡ true → host_text a ≡ host_text b → a ≡ b
host_told None None h k e = refl
host_told None (Some b) h k e = cc
host_told (Some a) None h k e = cc
host_told (Some a) (Some b) h k e =
    let p = three (is_label a.label) (are_bytes a.label) (is_typed_v6 a.v6) h in
    let q = three (is_label b.label) (are_bytes b.label) (is_typed_v6 b.v6) k in
    let w = apart (label_token a.label) (label_token b.label) (v6_text a.v6) (v6_text b.v6) (label_token_seen a.label) (label_token_seen b.label) (v6_ends a.v6) (v6_ends b.v6) (ap (drop 1) e) in
    let el : a.label ≡ b.label = label_token_told a.label b.label p.1 q.1 w.0 in
    let ev : a.v6 ≡ b.v6 = v6_told a.v6 b.v6 p.2 q.2 w.1 in
    λ i. Some (record { label = el i; v6 = ev i })

pub from_line : (host : Host) → is_typed_host host ≡ true → in_line (from_text host) ≡ true
from_line host h =
    let p = and_parts (is_below 32 host.ip) (is_below 16 host.port) h in
    line_joined (ipv4_text host.ip ++ space) (decimal host.port)
    (line_joined (ipv4_text host.ip) space (seen_line (ipv4_text host.ip) (ipv4_seen host.ip (below 32 host.ip p.0))) refl) (number_line 16 host.port p.1 (omega arith))

-- a host's text before a space
pub from_apart : (a b : Host) (x y : List ℕ) → is_typed_host a ≡ true → is_typed_host b ≡ true → EndsToken x → EndsToken y → from_text a ++ x ≡ from_text b ++ y → (a ≡ b) × (x ≡ y)
from_apart a b x y h k f g e =
    let p = and_parts (is_below 32 a.ip) (is_below 16 a.port) h in
    let q = and_parts (is_below 32 b.ip) (is_below 16 b.port) k in
    let w = words (ipv4_text a.ip) (ipv4_text b.ip) (decimal a.port ++ x) (decimal b.port ++ y) (ipv4_seen a.ip (below 32 a.ip p.0)) (ipv4_seen b.ip (below 32 b.ip q.0)) (sym (split a x) ∙ e ∙ split b y) in
    let v = apart (decimal a.port) (decimal b.port) x y (number_seen 16 a.port p.1 (omega arith)) (number_seen 16 b.port q.1 (omega arith)) f g w.1 in
    let ei : a.ip ≡ b.ip = ipv4_told a.ip b.ip (below 32 a.ip p.0) (below 32 b.ip q.0) w.0 in
    let ep : a.port ≡ b.port = number_told 16 a.port b.port p.1 q.1 (omega arith) v.0 in
    (λ i. record { ip = ei i; port = ep i }, v.1)
  where
    split : (host : Host) (z : List ℕ) → from_text host ++ z ≡ ipv4_text host.ip ++ 32 ∷ (decimal host.port ++ z)
    split host z = simp append_assoc

pub dest_line : (to : Dest) → is_typed_dest to ≡ true → in_line (dest_text to) ≡ true
dest_line All h = refl
dest_line (One host) h = from_line host h

-- ---- events

pub event_line : (e : Event) → is_typed_event e ≡ true → in_line (event_text e) ≡ true
event_line (event.Boot config) h =
    let p = and_parts (is_below 32 config.address) (is_typed_label config.host) h in
    line_joined (codes "boot " ++ ipv4_text config.address) (host_text config.host)
    (line_joined (codes "boot ") (ipv4_text config.address) refl (seen_line (ipv4_text config.address) (ipv4_seen config.address (below 32 config.address p.0)))) (host_line config.host p.1)
event_line event.Attach h = refl
event_line (event.Detach session) h = line_joined (codes "close ") (decimal session) refl (number_line 64 session h (omega arith))
event_line (event.Call session op request) h =
    let p = three (is_below 64 session) (is_below 32 op) (is_typed_request request) h in
    line_joined ((((codes "call " ++ decimal session) ++ space) ++ decimal op) ++ space) (request_text request)
    (line_joined (((codes "call " ++ decimal session) ++ space) ++ decimal op) space
    (line_joined ((codes "call " ++ decimal session) ++ space) (decimal op)
    (line_joined (codes "call " ++ decimal session) space (line_joined (codes "call ") (decimal session) refl (number_line 64 session p.0 (omega arith))) refl)
    (number_line 32 op p.1 (omega arith))) refl)
    (request_line request p.2)
event_line (event.Hear from bytes) h =
    let p = and_parts (is_typed_host from) (are_bytes bytes) h in
    line_joined ((codes "hear " ++ from_text from) ++ space) (hex_text bytes)
    (line_joined (codes "hear " ++ from_text from) space (line_joined (codes "hear ") (from_text from) refl (from_line from p.0)) refl) (seen_line (hex_text bytes) (hex_seen bytes p.1))
event_line event.Tick h = refl
event_line (event.Take session max) h =
    let p = and_parts (is_below 64 session) (is_below 32 max) h in
    line_joined ((codes "take " ++ decimal session) ++ space) (decimal max)
    (line_joined (codes "take " ++ decimal session) space (line_joined (codes "take ") (decimal session) refl (number_line 64 session p.0 (omega arith))) refl) (number_line 32 max p.1 (omega arith))

call_tokens : (session op : ℕ) (r : Request) → drop 5 (event_text (event.Call session op r)) ≡ decimal session ++ (32 ∷ (decimal op ++ (32 ∷ request_text r)))
call_tokens session op r = simp append_assoc

pub event_told : (a b : Event) → is_typed_event a ≡ true → is_typed_event b ≡ true → event_text a ≡ event_text b → a ≡ b
event_told (event.Boot a) (event.Boot b) h k e =
    let p = and_parts (is_below 32 a.address) (is_typed_label a.host) h in
    let q = and_parts (is_below 32 b.address) (is_typed_label b.host) k in
    let w = apart (ipv4_text a.address) (ipv4_text b.address) (host_text a.host) (host_text b.host) (ipv4_seen a.address (below 32 a.address p.0)) (ipv4_seen b.address (below 32 b.address q.0)) (host_ends a.host) (host_ends b.host) (ap (drop 5) e) in
    let ea : a.address ≡ b.address = ipv4_told a.address b.address (below 32 a.address p.0) (below 32 b.address q.0) w.0 in
    let eh : a.host ≡ b.host = host_told a.host b.host p.1 q.1 w.1 in
    λ i. event.Boot (record { address = ea i; host = eh i })
event_told event.Attach event.Attach h k e = refl
event_told (event.Detach a) (event.Detach b) h k e = ap (λ (n : ℕ). event.Detach n) (number_told 64 a b h k (omega arith) (ap (drop 6) e))
event_told (event.Call s o r) (event.Call t q u) h k e =
    let g = three (is_below 64 s) (is_below 32 o) (is_typed_request r) h in
    let j = three (is_below 64 t) (is_below 32 q) (is_typed_request u) k in
    let f = sym (call_tokens s o r) ∙ ap (drop 5) e ∙ call_tokens t q u in
    let first = words (decimal s) (decimal t) _ _ (number_seen 64 s g.0 (omega arith)) (number_seen 64 t j.0 (omega arith)) f in
    let second = words (decimal o) (decimal q) _ _ (number_seen 32 o g.1 (omega arith)) (number_seen 32 q j.1 (omega arith)) first.1 in
    let es : s ≡ t = number_told 64 s t g.0 j.0 (omega arith) first.0 in
    let eo : o ≡ q = number_told 32 o q g.1 j.1 (omega arith) second.0 in
    let er : r ≡ u = request_told r u g.2 j.2 second.1 in
    λ i. event.Call (es i) (eo i) (er i)
event_told (event.Hear f x) (event.Hear g y) h k e =
    let p = and_parts (is_typed_host f) (are_bytes x) h in
    let q = and_parts (is_typed_host g) (are_bytes y) k in
    let w = from_apart f g (32 ∷ hex_text x) (32 ∷ hex_text y) p.0 q.0 refl refl (sym (regroup (from_text f) space (hex_text x)) ∙ ap (drop 5) e ∙ regroup (from_text g) space (hex_text y)) in
    let rest : hex_text x ≡ hex_text y = ap (drop 1) w.1 in
    let eb : x ≡ y = hex_told x y p.1 q.1 rest in
    λ i. event.Hear (w.0 i) (eb i)
event_told event.Tick event.Tick h k e = refl
event_told (event.Take s m) (event.Take t n) h k e =
    let p = and_parts (is_below 64 s) (is_below 32 m) h in
    let q = and_parts (is_below 64 t) (is_below 32 n) k in
    let w = words (decimal s) (decimal t) (decimal m) (decimal n) (number_seen 64 s p.0 (omega arith)) (number_seen 64 t q.0 (omega arith))
    (sym (regroup (decimal s) space (decimal m)) ∙ ap (drop 5) e ∙ regroup (decimal t) space (decimal n)) in
    let es : s ≡ t = number_told 64 s t p.0 q.0 (omega arith) w.0 in
    let em : m ≡ n = number_told 32 m n p.1 q.1 (omega arith) w.1 in
    λ i. event.Take (es i) (em i)
event_told a b h k e = absurd (omega (arith, ap lead e))

-- ---- marks

cause_seen : (c : Cause) → are_seen (cause_text c) ≡ true
cause_seen cause.Series = refl
cause_seen cause.Refresh = refl
cause_seen cause.Heard = refl

cause_told : (a b : Cause) → cause_text a ≡ cause_text b → a ≡ b
cause_told cause.Series cause.Series e = refl
cause_told cause.Refresh cause.Refresh e = refl
cause_told cause.Heard cause.Heard e = refl
cause_told a b e = absurd (omega (arith, ap lead e))

pub mark_content : (m : Mark) → is_typed_mark m ≡ true → in_line (mark_text m) ≡ true
mark_content (mark.Bad number) h = line_joined (codes "bad ") (decimal number) refl (number_line 8 number h (omega arith))
mark_content mark.Full h = refl
mark_content (mark.Renamed group number) h =
    let p = and_parts (is_below 64 group) (is_below 32 number) h in
    line_joined ((codes "renamed " ++ decimal group) ++ space) (decimal number)
    (line_joined (codes "renamed " ++ decimal group) space (line_joined (codes "renamed ") (decimal group) refl (number_line 64 group p.0 (omega arith))) refl) (number_line 32 number p.1 (omega arith))
mark_content (mark.Contested group) h = line_joined (codes "contested ") (decimal group) refl (number_line 64 group h (omega arith))
mark_content (mark.TieLost group) h = line_joined (codes "tielost ") (decimal group) refl (number_line 64 group h (omega arith))
mark_content (mark.Failed group) h = line_joined (codes "failed ") (decimal group) refl (number_line 64 group h (omega arith))
mark_content (mark.Asked question cause) h =
    let p = and_parts (is_below 16 question.kind) (is_spellable_name question.name) h in
    line_joined ((((codes "asked " ++ name_text question.name) ++ space) ++ kind_text question.kind) ++ space) (cause_text cause)
    (line_joined (((codes "asked " ++ name_text question.name) ++ space) ++ kind_text question.kind) space
    (line_joined ((codes "asked " ++ name_text question.name) ++ space) (kind_text question.kind)
    (line_joined (codes "asked " ++ name_text question.name) space (line_joined (codes "asked ") (name_text question.name) refl (seen_line (name_text question.name) (name_seen question.name))) refl)
    (seen_line (kind_text question.kind) (kind_seen question.kind (below 16 question.kind p.0)))) refl)
    (seen_line (cause_text cause) (cause_seen cause))
mark_content (mark.Announced group) h = line_joined (codes "announced ") (decimal group) refl (number_line 64 group h (omega arith))
mark_content (mark.Cut session) h = line_joined (codes "cut ") (decimal session) refl (number_line 64 session h (omega arith))

asked_tokens : (n : List (List ℕ)) (k : ℕ) (c : Cause) → drop 6 (mark_text (mark.Asked (record { name = n; kind = k }) c)) ≡ name_text n ++ (32 ∷ (kind_text k ++ (32 ∷ cause_text c)))
asked_tokens n k c = simp append_assoc

pub mark_told : (a b : Mark) → is_typed_mark a ≡ true → is_typed_mark b ≡ true → mark_text a ≡ mark_text b → a ≡ b
mark_told (mark.Bad a) (mark.Bad b) h k e = ap (λ (n : ℕ). mark.Bad n) (number_told 8 a b h k (omega arith) (ap (drop 4) e))
mark_told mark.Full mark.Full h k e = refl
mark_told (mark.Renamed a m) (mark.Renamed b n) h k e =
    let p = and_parts (is_below 64 a) (is_below 32 m) h in
    let q = and_parts (is_below 64 b) (is_below 32 n) k in
    let w = words (decimal a) (decimal b) (decimal m) (decimal n) (number_seen 64 a p.0 (omega arith)) (number_seen 64 b q.0 (omega arith))
    (sym (regroup (decimal a) space (decimal m)) ∙ ap (drop 8) e ∙ regroup (decimal b) space (decimal n)) in
    let ea : a ≡ b = number_told 64 a b p.0 q.0 (omega arith) w.0 in
    let em : m ≡ n = number_told 32 m n p.1 q.1 (omega arith) w.1 in
    λ i. mark.Renamed (ea i) (em i)
mark_told (mark.Contested a) (mark.Contested b) h k e = ap (λ (n : ℕ). mark.Contested n) (number_told 64 a b h k (omega arith) (ap (drop 10) e))
mark_told (mark.TieLost a) (mark.TieLost b) h k e = ap (λ (n : ℕ). mark.TieLost n) (number_told 64 a b h k (omega arith) (ap (drop 8) e))
mark_told (mark.Failed a) (mark.Failed b) h k e = ap (λ (n : ℕ). mark.Failed n) (number_told 64 a b h k (omega arith) (ap (drop 7) e))
mark_told (mark.Asked q c) (mark.Asked r d) h k e =
    let p = and_parts (is_below 16 q.kind) (is_spellable_name q.name) h in
    let s = and_parts (is_below 16 r.kind) (is_spellable_name r.name) k in
    let f = sym (asked_tokens q.name q.kind c) ∙ ap (drop 6) e ∙ asked_tokens r.name r.kind d in
    let first = words (name_text q.name) (name_text r.name) _ _ (name_seen q.name) (name_seen r.name) f in
    let second = words (kind_text q.kind) (kind_text r.kind) _ _ (kind_seen q.kind (below 16 q.kind p.0)) (kind_seen r.kind (below 16 r.kind s.0)) first.1 in
    let en : q.name ≡ r.name = name_told q.name r.name p.1 s.1 first.0 in
    let ek : q.kind ≡ r.kind = kind_told q.kind r.kind (below 16 q.kind p.0) (below 16 r.kind s.0) second.0 in
    let ec : c ≡ d = cause_told c d second.1 in
    λ i. mark.Asked (record { name = en i; kind = ek i }) (ec i)
mark_told (mark.Announced a) (mark.Announced b) h k e = ap (λ (n : ℕ). mark.Announced n) (number_told 64 a b h k (omega arith) (ap (drop 10) e))
mark_told (mark.Cut a) (mark.Cut b) h k e = ap (λ (n : ℕ). mark.Cut n) (number_told 64 a b h k (omega arith) (ap (drop 4) e))
mark_told a b h k e = absurd (omega (arith, ap lead e))
