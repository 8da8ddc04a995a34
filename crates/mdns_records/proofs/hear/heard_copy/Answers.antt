use Rattle.std.proofs.Common.{◌≡◌, ℕ, suc, ◌+◌, ◌-◌, List, ◌∷◌, None, length, drop, take, map, filter, ap, sym, ◌∙◌, arith, length-drop}
use Rattle.std.proofs.lemmas.List.{take_all}
use Rattle.std.proofs.lemmas.List.Quantifiers.{position-Some}
use Rattle.dns_record.specs.declared.record.Rr.{Rr}
use Rattle.mdns_history.specs.declared.held.Held.{Held}
use Rattle.mdns_history.specs.Lifetimes.{is_live_at}
use Rattle.mdns_cache.specs.Lifetimes.{hearing_at, after_hearings}
use Rattle.mdns_cache.proofs.Indexing.{none_at}
use Rattle.mdns_records.specs.After.{is_named, after_rest}
use Rattle.mdns_records.proofs.Heard.{named-from, named-none}
use Rattle.mdns_records.proofs.hear.heard_copy.Goals as goal

pub returns-in_ok-hear_all-in-Some : goal.returns-in_ok-hear_all-in-Some
returns-in_ok-hear_all-in-Some c =
    let moment : ℕ = c.args.when.moment in
    let word : ℕ = c.args.when.word in
    let name = c.args.name.now in
    let heard : List Rr = c.args.heard.now in
    let first : ℕ = c.in-Some.first in
    let rr : Rr = c.index-heard-first.result in
    let found = position-Some (is_named name) heard first rr (sym c.in-Some.ensures.is) in
    let next : suc first ≡ first + 1 = omega arith in
    let named : filter (is_named name) heard ≡ rr ∷ filter (is_named name) (drop (first + 1) heard) =
    named-from (is_named name) heard first rr found.0 found.1 found.2
    ∙ (λ i. sym c.index-heard-first.is i ∷ filter (is_named name) (drop (next i) heard)) in
    let rest : List Rr = drop (first + 1) heard in
    let len : length rest ≡ length heard - (first + 1) = length-drop (first + 1) heard in
    let whole : take (length heard - (first + 1)) rest ≡ rest = take_all (length heard - (first + 1)) rest (omega (arith, len)) in
    c.in_ok-hear_all-in-Some.ensures
    ∙ ap (after_rest moment word name c.in_ok-later-in-Some.later.items) whole
    ∙ ap (λ (l : List Held). after_rest moment word name l (drop (first + 1) heard)) c.in_ok-later-in-Some.ensures
    ∙ ap (λ (rrs : List Rr). after_hearings (filter (is_live_at moment) c.args.earlier.now) (map (hearing_at moment word) rrs)) (sym named)

pub returns-in_ok-later-in-None : goal.returns-in_ok-later-in-None
returns-in_ok-later-in-None c =
    c.in_ok-later-in-None.ensures
    ∙ ap (λ (rrs : List Rr). after_hearings (filter (is_live_at c.args.when.moment) c.args.earlier.now) (map (hearing_at c.args.when.moment c.args.when.word) rrs))
    (sym (named-none (is_named c.args.name.now) c.args.heard.now (none_at (is_named c.args.name.now) c.args.heard.now None c.in-None.ensures.is)))
