-- What is read of a record can be printed.
use Rattle.std.proofs.Common.{◌≡◌, ℕ, ◌^◌, Bool, true, false, cond, ◌&&◌, List, Option, Some, None, ap, sym, ◌∙◌, subst}
use Rattle.std.specs.Prelude.{◌==◌}
use Rattle.std.specs.List.{list_any}
use Rattle.std.specs.Option.{option_map}
use Rattle.std.specs.Result.{result_ok}
use Rattle.std.proofs.lemmas.Bool.{and_from, and_parts}
use Rattle.number_text.specs.Cut.{cut_of}
use Rattle.number_text.specs.Digits.{decimal_below, ipv4_of, ipv6_of, hex_of}
use Rattle.dns_name.specs.ReadName.{read_name}
use Rattle.dns_record.specs.Records.{is_rdata}
use Rattle.dns_record.specs.ReadRecord.{name_read, srv_read, nsec_read, raw_read, rdata_read, flush_read, kind_read, head_read, record_read}
use Rattle.dns_record.specs.declared.record.Rdata.{Rdata}
use Rattle.dns_record.specs.declared.record.Rdata.TheVariants as data_of
use Rattle.dns_record.specs.declared.record.Rr.{Rr}
use Rattle.dns_message.specs.Writing.{is_below, are_bytes, is_spellable_name, is_spellable_data, is_spellable_record}
use Rattle.mdns_script.specs.Tokens.{text_of}
use Rattle.mdns_script.proofs.ReadNames.{name_good}
use Rattle.mdns_script.proofs.ReadTokens.{come_of, mapped_of, some_same, passed, below_is, ipv4_is, ipv6_is, hex_is, kind_is}
use Rattle.mdns_lines.specs.ReadItems.{rr_in}
use Rattle.mdns_lines.proofs.OnlyWords.{cut_bytes, ok_is, text_bytes}

token_is : (text : List ℕ) (name : List (List ℕ)) → are_bytes text ≡ true → name_read text ≡ Some name → is_spellable_name name ≡ true
token_is text name b h = go (list_any (λ b. b == 32) text) h
  where
    go : (t : Bool) → cond t None (result_ok (read_name text)) ≡ Some name → is_spellable_name name ≡ true
    go true k = absurd (cc)
    go false k = name_good text name b (ok_is (read_name text) name k)

srv_is : (text : List ℕ) (rdata : Rdata) → are_bytes text ≡ true → srv_read text ≡ Some rdata → is_spellable_data rdata ≡ true
unfolding srv_read
srv_is text rdata b h =
    let priority = come_of (cut_of 32 text) _ rdata h in
    let weight = come_of (cut_of 32 priority.from.1) _ rdata priority.gives in
    let port = come_of (cut_of 32 weight.from.1) _ rdata weight.gives in
    let p = come_of (decimal_below (2 ^ 16) priority.from.0) _ rdata port.gives in
    let w = come_of (decimal_below (2 ^ 16) weight.from.0) _ rdata p.gives in
    let o = come_of (decimal_below (2 ^ 16) port.from.0) _ rdata w.gives in
    let target = come_of (name_read port.from.1) _ rdata o.gives in
    let rest = cut_bytes weight.from.1 port.from (cut_bytes priority.from.1 weight.from (cut_bytes text priority.from b priority.is).1 weight.is).1 port.is in
    sym (ap is_spellable_data (some_same (data_of.Srv p.from w.from o.from target.from) rdata target.gives))
    ∙ and_from _ _ (and_from _ _ (and_from _ _ (below_is 16 priority.from.0 p.from p.is) (below_is 16 weight.from.0 w.from w.is)) (below_is 16 port.from.0 o.from o.is)) (token_is port.from.1 target.from rest.1 target.is)

nsec_is : (text : List ℕ) (rdata : Rdata) → are_bytes text ≡ true → nsec_read text ≡ Some rdata → is_spellable_data rdata ≡ true
unfolding nsec_read
nsec_is text rdata b h =
    let next = come_of (cut_of 32 text) _ rdata h in
    let name = come_of (name_read next.from.0) _ rdata next.gives in
    let bitmap = come_of (hex_of next.from.1) _ rdata name.gives in
    sym (ap is_spellable_data (some_same (data_of.Nsec name.from bitmap.from) rdata bitmap.gives))
    ∙ and_from _ _ (token_is next.from.0 name.from (cut_bytes text next.from b next.is).0 name.is) (hex_is next.from.1 bitmap.from bitmap.is)

raw_is : (kind : ℕ) (text : List ℕ) (rdata : Rdata) → is_below 16 kind ≡ true → raw_read kind text ≡ Some rdata → is_spellable_data rdata ≡ true
unfolding raw_read
raw_is kind text rdata k h =
    let bytes = come_of (hex_of text) _ rdata h in
    let p = passed (is_rdata (data_of.Raw kind bytes.from)) (data_of.Raw kind bytes.from) rdata bytes.gives in
    sym (ap is_spellable_data p.1) ∙ and_from _ _ (and_from _ _ k (hex_is text bytes.from bytes.is)) p.0

-- data that are made of one value
one_is : {A : Type 0} (o : Option A) (make : A → Rdata) (rdata : Rdata) → ((x : A) → o ≡ Some x → is_spellable_data (make x) ≡ true) → option_map make o ≡ Some rdata → is_spellable_data rdata ≡ true
one_is o make rdata fit h = let m = mapped_of o make rdata h in sym (ap is_spellable_data m.gives) ∙ fit m.from m.is

data_is : (kind : ℕ) (text : List ℕ) (rdata : Rdata) → is_below 16 kind ≡ true → are_bytes text ≡ true → rdata_read kind text ≡ Some rdata → is_spellable_data rdata ≡ true
unfolding rdata_read
data_is kind text rdata k b h = go (kind == 1) (kind == 28) (kind == 12) (kind == 5) (kind == 33) (kind == 16) (kind == 47) h
  where
    go : (s t u v w x y : Bool) →
        cond s (option_map (λ a. data_of.A a) (ipv4_of text))
        (cond t (option_map (λ a. data_of.Aaaa a) (ipv6_of text))
        (cond u (option_map (λ n. data_of.Ptr n) (name_read text))
        (cond v (option_map (λ n. data_of.Cname n) (name_read text))
        (cond w (srv_read text)
        (cond x (option_map (λ b. data_of.Txt b) (hex_of text))
        (cond y (nsec_read text) (raw_read kind text))))))) ≡ Some rdata → is_spellable_data rdata ≡ true
    go true t u v w x y e = one_is (ipv4_of text) (λ a. data_of.A a) rdata (ipv4_is text) e
    go false true u v w x y e = one_is (ipv6_of text) (λ a. data_of.Aaaa a) rdata (ipv6_is text) e
    go false false true v w x y e = one_is (name_read text) (λ n. data_of.Ptr n) rdata (λ n i. token_is text n b i) e
    go false false false true w x y e = one_is (name_read text) (λ n. data_of.Cname n) rdata (λ n i. token_is text n b i) e
    go false false false false true x y e = srv_is text rdata b e
    go false false false false false true y e = one_is (hex_of text) (λ b. data_of.Txt b) rdata (hex_is text) e
    go false false false false false false true e = nsec_is text rdata b e
    go false false false false false false false e = raw_is kind text rdata k e

-- what stands before the data
abbrev Front : Type 0
Front = List (List ℕ) × ℕ × Bool × ℕ × List ℕ

record IsFront (front : Front) : Type 0 where
  owner : is_spellable_name front.0 ≡ true
  ttl : is_below 32 front.1 ≡ true
  kind : is_below 16 front.3 ≡ true
  rest : are_bytes front.4 ≡ true

front_is : (text : List ℕ) (front : Front) → are_bytes text ≡ true → head_read text ≡ Some front → IsFront front
unfolding head_read
front_is text front b h =
    let owner = come_of (cut_of 32 text) _ front h in
    let ttl = come_of (cut_of 32 owner.from.1) _ front owner.gives in
    let flush = come_of (cut_of 32 ttl.from.1) _ front ttl.gives in
    let kind = come_of (cut_of 32 flush.from.1) _ front flush.gives in
    let name = come_of (name_read owner.from.0) _ front kind.gives in
    let seconds = come_of (decimal_below (2 ^ 32) ttl.from.0) _ front name.gives in
    let bit = come_of (flush_read flush.from.0) _ front seconds.gives in
    let number = come_of (kind_read kind.from.0) _ front bit.gives in
    let first = cut_bytes text owner.from b owner.is in
    let rest = cut_bytes flush.from.1 kind.from (cut_bytes ttl.from.1 flush.from (cut_bytes owner.from.1 ttl.from first.1 ttl.is).1 flush.is).1 kind.is in
    subst IsFront (some_same (name.from, seconds.from, bit.from, number.from, kind.from.1) front number.gives)
    (record {
      owner = token_is owner.from.0 name.from first.0 name.is;
      ttl = below_is 32 ttl.from.0 seconds.from seconds.is;
      kind = kind_is kind.from.0 number.from number.is;
      rest = rest.1;
    })

record_is : (text : List ℕ) (rr : Rr) → are_bytes text ≡ true → record_read text ≡ Some rr → is_spellable_record rr ≡ true
unfolding record_read
record_is text rr b h =
    let front = come_of (head_read text) _ rr h in
    let rdata = come_of (rdata_read front.from.3 front.from.4) _ rr front.gives in
    let are = front_is text front.from b front.is in
    sym (ap is_spellable_record (some_same (record { owner = front.from.0; flush = front.from.2; ttl = front.from.1; rdata = rdata.from }) rr rdata.gives))
    ∙ and_from _ _ (and_from _ _ are.owner are.ttl) (data_is front.from.3 front.from.4 rdata.from are.kind are.rest rdata.is)

pub rr_is : (bytes : List ℕ) (rr : Rr) → rr_in bytes ≡ Some rr → is_spellable_record rr ≡ true
rr_is bytes rr h = let c = come_of (text_of bytes) record_read rr h in record_is c.from rr (text_bytes bytes c.from c.is) c.gives

pub record_data : (rr : Rr) → is_spellable_record rr ≡ true → is_spellable_data rr.rdata ≡ true
record_data rr h = (and_parts (is_spellable_name rr.owner && is_below 32 rr.ttl) (is_spellable_data rr.rdata) h).1
