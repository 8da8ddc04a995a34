use Rattle.std.proofs.Common.{◌≡◌, ◌<◌, ◌≤◌, ◌++◌, Bool, false, cond, List, [], ◌∷◌, filter, map, ap, sym, subst, IsPermutation}
use Rattle.std.specs.Map.{values_of}
use Rattle.std.proofs.lemmas.Bool.{le-ltb, lt-ltb}
use Rattle.std.proofs.lemmas.List.Sorted.{IsPermutation-refl}
use Rattle.dns_record.specs.declared.record.Rr.{Rr}
use Rattle.mdns_history.specs.declared.held.Held.{Held}
use Rattle.mdns_history.specs.Hearings.{Hearing}
use Rattle.mdns_history.specs.Lifetimes.{is_other}
use Rattle.mdns_cache.specs.Lifetimes.{hearing_at, renewed, shortened}
use Rattle.mdns_cache.specs.Named.{AreOnce}
use Rattle.mdns_cache.specs.Flushed.{after_put_off, put_off}
use Rattle.mdns_cache.proofs.Once.{AreOnce-map}
use Rattle.mdns_cache.proofs.PuttingOff.{cutting, put_off_renewed}
use Rattle.mdns_cache.proofs.heard.hear_one.Goals as goal

pub renew-requires-clause-once : goal.renew-requires-clause-once
renew-requires-clause-once c =
    subst AreOnce (sym c.shorten.ensures.values) (AreOnce-map (hearing_at c.args.one.heard 0 (put_off c.args.later.now c.deref-rr.result.now)) (values_of c.args.records.now.entries) c.requires.once)

pub returns-then-rr-gt0-clause-held : goal.returns-then-rr-gt0-clause-held
returns-then-rr-gt0-clause-held c =
    let one : Held = c.args.one in
    let hearing : Hearing = hearing_at one.heard one.word one.rr in
    let held : List Held = values_of c.args.records.now.entries in
    let after : List Held = values_of c.renew.new.records.entries in
    let shorter = subst (λ (rr : Rr). values_of c.shorten.new.records.entries ≡ map (shortened (hearing_at one.heard 0 (put_off c.args.later.now rr))) held) c.deref-rr.ensures c.shorten.ensures.values in
    let lives : 0 < one.rr.ttl = subst (λ (rr : Rr). 0 < rr.ttl) c.deref-rr.ensures c.if-rr-gt0.true in
    let moved : IsPermutation (filter (is_other one.rr) (map (shortened (cutting c.args.later.now hearing)) held) ++ one ∷ []) after =
    subst (λ (l : List Held). IsPermutation (filter (is_other one.rr) l ++ one ∷ []) after) shorter c.renew.ensures.held in
    put_off_renewed c.args.later.now hearing held after (lt-ltb 0 one.rr.ttl lives)
    (subst (λ (x : Held). IsPermutation (filter (is_other one.rr) (map (shortened (cutting c.args.later.now hearing)) held) ++ x ∷ []) after) c.requires.renewed moved)

pub returns-else-rr-gt0-clause-held : goal.returns-else-rr-gt0-clause-held
returns-else-rr-gt0-clause-held c =
    let one : Held = c.args.one in
    let hearing : Hearing = hearing_at one.heard one.word one.rr in
    let held : List Held = values_of c.args.records.now.entries in
    let after : List Held = values_of c.shorten.new.records.entries in
    let left : List Held = map (shortened (cutting c.args.later.now hearing)) held in
    let shorter : after ≡ left =
    subst (λ (rr : Rr). after ≡ map (shortened (hearing_at one.heard 0 (put_off c.args.later.now rr))) held) c.deref-rr.ensures c.shorten.ensures.values in
    let ends : one.rr.ttl ≤ 0 = subst (λ (rr : Rr). rr.ttl ≤ 0) c.deref-rr.ensures c.if-rr-gt0.false in
    let path : after_put_off c.args.later.now held hearing ≡ left =
    ap (λ (b : Bool). cond b (map (shortened (cutting c.args.later.now hearing)) (filter (is_other one.rr) held) ++ renewed hearing ∷ []) left) (le-ltb 0 one.rr.ttl ends) in
    subst (λ (l : List Held). IsPermutation l after) (sym path) (subst (IsPermutation left) (sym shorter) (IsPermutation-refl left))
