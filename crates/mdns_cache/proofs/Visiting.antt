-- The held records of a name stand in the order of their numbers.
use Rattle.std.proofs.Common.{◌≡◌, Bool, true, zero, suc, Some, [], ◌∷◌, ◌∙◌, ℕ, List, sym, ap, slice_get}
use Rattle.std.specs.List.{AllByRecursion}
use Rattle.std.specs.Str.{bytes_eq}
use Rattle.std.proofs.lemmas.Slice.Eq.{bytes_eq-Decides}
use Rattle.dns_name.specs.Names.{folded_eq}
use Rattle.by_name.specs.At.{At, owner_of}
use Rattle.by_name.specs.Filed.{found, in_layers, AllOwned}
use Rattle.by_name.specs.Filed.{AreFiled as AreKept}
use Rattle.std.specs.Map.{values_of}
use Rattle.indexmap.specs.Layout.{set_value_at}
use Rattle.mdns_history.specs.declared.held.Held.{Held}
use Rattle.by_name.proofs.Layers.{visited}
use Rattle.by_name.proofs.Removed.{filed_put as kept_put}
use Rattle.mdns_cache.specs.Lifetimes.{is_of, held_of}
use Rattle.mdns_cache.specs.Named.{Entry, AreNamed, AreFiled}
use Rattle.mdns_cache.proofs.ListLemmas.{each-weaker}

bytes_turned : (one other : List ℕ) → bytes_eq one other ≡ bytes_eq other one
bytes_turned one other =
    Rattle.std.specs.Cmp.both_ways (bytes_eq one other) (bytes_eq other one)
    (λ e. (bytes_eq-Decides other one).1 (sym ((bytes_eq-Decides one other).0 e))) (λ e. (bytes_eq-Decides one other).1 (sym ((bytes_eq-Decides other one).0 e)))

named_alike : (name : List (List ℕ)) (e : Entry) → e.0.owner ≡ owner_of e.1.rr.owner → is_of name e.1 ≡ bytes_eq (owner_of name) e.0.owner
unfolding folded_eq
named_alike name e named = bytes_turned (owner_of e.1.rr.owner) (owner_of name) ∙ ap (bytes_eq (owner_of name)) (sym named)

pub kept : (es : List Entry) → AreFiled es → AreKept es
kept es filed = record { distinct = filed.distinct; gapless = filed.gapless }

visited_of : (name : List (List ℕ)) (place : ℕ) (es : List Entry) → AreFiled es → slice_get (held_of name (in_layers es)) place ≡ found (owner_of name) place es
visited_of name place es filed =
    visited (is_of name) (owner_of name) place es
    (each-weaker (λ (e : Entry). is_of name e.1 ≡ bytes_eq (owner_of name) e.0.owner) (λ (e : Entry). e.0.owner ≡ owner_of e.1.rr.owner) (named_alike name) es filed.named) (kept es filed)

pub visited_at : (name : List (List ℕ)) (place : At) (es : List Entry) → AreFiled es → place.owner ≡ owner_of name
    → found place.owner place.number es ≡ slice_get (held_of name (in_layers es)) place.number
visited_at name place es filed named = ap (λ (o : List ℕ). found o place.number es) named ∙ sym (visited_of name place.number es filed)

-- whether a value is filed under the name of its owner
abbrev pub is_named : List ℕ → Held → Bool
is_named owner one = bytes_eq owner (owner_of one.rr.owner)

pub told_named : (es : List Entry) → AreNamed es → AllOwned is_named es
told_named es named =
    each-weaker (λ (e : Entry). is_named e.0.owner e.1 ≡ true) (λ (e : Entry). e.0.owner ≡ owner_of e.1.rr.owner) (λ e h. (bytes_eq-Decides e.0.owner (owner_of e.1.rr.owner)).1 h) es named

pub named_told : (es : List Entry) → AllOwned is_named es → AreNamed es
named_told es told =
    each-weaker (λ (e : Entry). e.0.owner ≡ owner_of e.1.rr.owner) (λ (e : Entry). is_named e.0.owner e.1 ≡ true) (λ e h. (bytes_eq-Decides e.0.owner (owner_of e.1.rr.owner)).0 h) es told

pub filed_by : (es : List Entry) → AreKept es → AreNamed es → AreFiled es
filed_by es kept named = record { distinct = kept.distinct; named = named; gapless = kept.gapless }

pub named_put : (es : List Entry) (i : ℕ) (one new : Held) → slice_get (values_of es) i ≡ Some one → owner_of new.rr.owner ≡ owner_of one.rr.owner → AreNamed es → AreNamed (set_value_at es i new)
named_put [] i one new there same named = absurd (cc)
named_put (e ∷ es) zero one new there same named =
    let first : e.1 ≡ one = cc in
    (named.0 ∙ ap (λ (h : Held). owner_of h.rr.owner) first ∙ sym same, named.1)
named_put (e ∷ es) (suc i) one new there same named = (named.0, named_put es i one new there same named.1)

pub filed_put : (es : List Entry) (i : ℕ) (one new : Held) → slice_get (values_of es) i ≡ Some one → owner_of new.rr.owner ≡ owner_of one.rr.owner → AreFiled es → AreFiled (set_value_at es i new)
filed_put es i one new there same filed = filed_by (set_value_at es i new) (kept_put es i new (kept es filed)) (named_put es i one new there same filed.named)
