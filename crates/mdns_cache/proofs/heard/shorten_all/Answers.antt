use Rattle.std.proofs.Common.{◌≡◌, ◌∙◌, ◌^◌, ◌+◌, ◌<◌, ◌≤◌, ℕ, List, None, Some, map, length, refl, sym, ap, subst, slice_get, arith, rules}
use Rattle.indexmap.specs.Layout.{set_value_at}
use Rattle.mdns_history.specs.declared.held.Held.{Held}
use Rattle.mdns_history.specs.Hearings.{Hearing}
use Rattle.by_name.specs.At.{At, at, owner_of}
use Rattle.by_name.specs.Filed.{found}
use Rattle.by_name.proofs.Finding.{found_within}
use Rattle.by_name.proofs.Removed.{length-put}
use Rattle.mdns_cache.specs.Lifetimes.{hearing_at, shortened}
use Rattle.mdns_cache.specs.Named.{Entry, AreFiled}
use Rattle.mdns_cache.proofs.EndsFirst.{value_at}
use Rattle.mdns_cache.proofs.Turns.{to_come, all_to_come, turn, none_to_come}
use Rattle.mdns_cache.proofs.Visiting.{filed_put}
use Rattle.mdns_cache.proofs.heard.shorten_all.Goals as goal

pub loop-index-init : goal.loop-index-init
loop-index-init c = record {
  place = c.new-place.ensures;
  cut = all_to_come (hearing_at c.args.now 0 c.args.rr.now) c.args.records.now.entries c.requires.filed.named;
  filed = c.requires.filed;
  played = c.requires.played;
  len = refl;
  room = refl;
  spare = refl;
}

-- a number at which a record is found is one of the entries'
number_within : (es : List Entry) → AreFiled es → (owner : List ℕ) (number : ℕ) (place : At) → place ≡ at owner number → (one : Held) → found place.owner place.number es ≡ Some one → number < length es
number_within es filed owner number place is one there =
    found_within es filed.gapless owner number (ap Rattle.std.proofs.Common.is_some (subst (λ (k : At). found k.owner k.number es ≡ Some one) is there))

pub overflow_add-number : goal.overflow_add-number
overflow_add-number c =
    let some = c.in-Some.ensures.some in
    let within = number_within c.loop-index.records.entries c.loop-index.invariant.filed (owner_of c.args.rr.now.owner) c.loop-index.number c.loop-index.place c.loop-index.invariant.place some.0 some.2 in
    let len = c.loop-index.invariant.len in
    let room = c.requires.room in
    let size = c.requires.size in
    grind arith

pub loop-index-smaller : goal.loop-index-smaller
loop-index-smaller c =
    let some = c.in-Some.ensures.some in
    let es : List Entry = c.loop-index.records.entries in
    let is : c.shorten_at.new.records.entries ≡ set_value_at es c.in-Some.index (shortened (hearing_at c.args.now 0 c.args.rr.now) some.0) =
    c.shorten_at.ensures.entries some.0 (value_at es c.in-Some.index (c.loop-index.place, some.0) some.1) in
    let len : length c.shorten_at.new.records.entries ≡ length es = ap length is ∙ length-put es c.in-Some.index (shortened (hearing_at c.args.now 0 c.args.rr.now) some.0) in
    let within = number_within es c.loop-index.invariant.filed (owner_of c.args.rr.now.owner) c.loop-index.number c.loop-index.place c.loop-index.invariant.place some.0 some.2 in
    omega (arith, within, len)

pub loop-index-preserved : goal.loop-index-preserved
loop-index-preserved c =
    let some = c.in-Some.ensures.some in
    let es : List Entry = c.loop-index.records.entries in
    let is : c.shorten_at.new.records.entries ≡ set_value_at es c.in-Some.index (shortened (hearing_at c.args.now 0 c.args.rr.now) some.0) =
    c.shorten_at.ensures.entries some.0 (value_at es c.in-Some.index (c.loop-index.place, some.0) some.1) in
    let len : length c.shorten_at.new.records.entries ≡ length es = ap length is ∙ length-put es c.in-Some.index (shortened (hearing_at c.args.now 0 c.args.rr.now) some.0) in
    let owner : List ℕ = owner_of c.args.rr.now.owner in
    let number : ℕ = c.loop-index.number in
    let hearing : Hearing = hearing_at c.args.now 0 c.args.rr.now in
    let entry : slice_get es c.in-Some.index ≡ Some (at owner number, some.0) = subst (λ (k : At). slice_get es c.in-Some.index ≡ Some (k, some.0)) c.loop-index.invariant.place some.1 in
    record {
      place = c.go.ensures ∙ ap (λ (k : At). at k.owner (number + 1)) c.loop-index.invariant.place;
      cut = ap (map (to_come hearing owner (number + 1))) is ∙ turn hearing owner number c.in-Some.index some.0 es entry c.loop-index.invariant.filed.distinct ∙ c.loop-index.invariant.cut;
      filed = subst AreFiled (sym is)
          (filed_put es c.in-Some.index some.0 (shortened hearing some.0) (value_at es c.in-Some.index (c.loop-index.place, some.0) some.1) refl c.loop-index.invariant.filed);
      played = c.shorten_at.ensures.played;
      len = len ∙ c.loop-index.invariant.len;
      room = search rules;
      spare = c.shorten_at.ensures.spare ∙ c.loop-index.invariant.spare;
    }

pub returns-clause-values : goal.returns-clause-values
returns-clause-values c =
    let es : List Entry = c.loop-index.records.entries in
    let none : found (owner_of c.args.rr.now.owner) c.loop-index.number es ≡ None = subst (λ (k : At). found k.owner k.number es ≡ None) c.loop-index.invariant.place c.in_default.ensures.none in
    sym (none_to_come (hearing_at c.args.now 0 c.args.rr.now) (owner_of c.args.rr.now.owner) c.loop-index.number es c.loop-index.invariant.filed.gapless none) ∙ c.loop-index.invariant.cut
