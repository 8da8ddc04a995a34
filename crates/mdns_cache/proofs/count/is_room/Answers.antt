use Rattle.std.proofs.Common.{◌≡◌, ◌∙◌, ◌+◌, ◌≤◌, ◌↔◌, ◌&&◌, IsTrue, ℕ, Bool, List, length, nat_le, filter, count_by, true, refl, sym, ap, subst}
use Rattle.std.proofs.lemmas.Bool.{leb-true, le-leb}
use Rattle.std.specs.Map.{values_of}
use Rattle.std.proofs.lemmas.Map.Entries.{length-values_of}
use Rattle.mdns_history.specs.Lifetimes.{is_live_at}
use Rattle.mdns_cache.specs.Lifetimes.{count_renewed}
use Rattle.mdns_cache.proofs.Counting.{is_left, room_for_all}
use Rattle.mdns_cache.specs.Counted.{count_new}
use Rattle.mdns_cache.specs.Named.{Entry}
use Rattle.mdns_cache.proofs.NewOnes.{counted-new}
use Rattle.mdns_cache.proofs.count.is_room.Goals as goal

pub returns-then-is_within : goal.returns-then-is_within
returns-then-is_within c =
    let es : List Entry = c.args.records.now.entries in
    let within : nat_le (length (values_of es) + length c.args.heard.now) c.args.limit ≡ true =
    ap (λ n. nat_le (n + length c.args.heard.now) c.args.limit) (length-values_of es ∙ sym c.len.ensures.len) ∙ sym c.is_within.ensures ∙ c.if-is_within.true in
    (λ _. room_for_all _ (values_of es) c.args.heard.now c.args.limit within, λ _. refl)

pub returns : goal.returns
returns c =
    let es : List Entry = c.args.records.now.entries in
    let many : count_by (λ one. is_live_at c.args.now one && is_left c.args.heard.now one) (values_of es) + count_renewed c.args.heard.now
    ≡ count_by (is_live_at c.args.now) (values_of es) + count_new (filter (is_live_at c.args.now) (values_of es)) c.args.heard.now =
    counted-new c.args.now (values_of es) c.args.heard.now c.requires.once in
    let told : c.is_within-2.result ≡ nat_le (count_by (is_live_at c.args.now) (values_of es) + count_new (filter (is_live_at c.args.now) (values_of es)) c.args.heard.now) c.args.limit =
    c.is_within-2.ensures ∙ ap (λ n. nat_le (n + c.count_new.result) c.args.limit) c.count_live-live.ensures
    ∙ ap (λ n. nat_le (count_by (is_live_at c.args.now) (values_of es) + n) c.args.limit) c.count_new.ensures in
    subst (λ (n : ℕ). IsTrue c.is_within-2.result ↔ (n ≤ c.args.limit)) (sym many)
    (subst (λ (b : Bool). IsTrue b ↔ (count_by (is_live_at c.args.now) (values_of es) + count_new (filter (is_live_at c.args.now) (values_of es)) c.args.heard.now ≤ c.args.limit)) (sym told)
    (leb-true _ _, le-leb _ _))
