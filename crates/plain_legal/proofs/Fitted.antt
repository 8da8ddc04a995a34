-- An entry fits exactly where it has the parts of the one that follows.
use Rattle.std.proofs.Common.{◌≡◌, ℕ, ◌≤◌, true, not, ◌&&◌, List, [], ◌∷◌, refl, ap, ◌∙◌, sym, arith}
use Rattle.std.specs.Prelude.{nat_le}
use Rattle.mdns_history.specs.declared.entry.Entry.{Entry}
use Rattle.mdns_history.specs.InForce.{all_duties}
use Rattle.mdns_history.specs.History.{now}
use Rattle.mdns_history.specs.Fitting.{next_entry, is_boot, last_moment, Fits}
use Rattle.plain_history.specs.Last.{are_by}
use Rattle.plain_legal.specs.Laws.{IsLegalOrNone}
use Rattle.plain_legal.specs.Trial.{may_follow, HasParts}
use Rattle.plain_legal.proofs.Standing.{legal_by}
use Rattle.mdns_asserts.proofs.Elements.{and_both, and_first, and_second, not_true}

least : (a b : ℕ) → nat_le a b ≡ true → a ≤ b
least a b h = grind arith

least_back : (a b : ℕ) → a ≤ b → nat_le a b ≡ true
least_back a b h = grind arith

-- an entry with the parts of another
abbrev with_parts : Entry → Entry → Entry
with_parts entry other =
    record { moment = entry.moment; word = entry.word; event = entry.event; marks = other.marks; sent = other.sent; given = other.given; outcome = other.outcome }

parts_next : (past : List Entry) (entry : Entry) → with_parts entry (next_entry all_duties past entry.moment entry.word entry.event) ≡ next_entry all_duties past entry.moment entry.word entry.event
unfolding next_entry
parts_next past entry = refl

pub in_time_of : (past : List Entry) (entry : Entry) → may_follow past entry ≡ true → entry.moment ≤ last_moment
in_time_of past entry may =
    least entry.moment last_moment (and_second (nat_le (now past) entry.moment) (nat_le entry.moment last_moment)
    (and_first (nat_le (now past) entry.moment && nat_le entry.moment last_moment) (not (is_boot entry.event)) may))

pub fits_from : (past : List Entry) (entry next : Entry) → may_follow past entry ≡ true → next ≡ next_entry all_duties past entry.moment entry.word entry.event
    → HasParts next entry.marks entry.sent entry.given entry.outcome → Fits all_duties entry past
fits_from past entry next may is same =
    let early : (nat_le (now past) entry.moment && nat_le entry.moment last_moment) ≡ true = and_first (nat_le (now past) entry.moment && nat_le entry.moment last_moment) (not (is_boot entry.event)) may in
    let own : entry ≡ with_parts entry next =
    λ i. record { moment = entry.moment; word = entry.word; event = entry.event; marks = sym same.0 i; sent = sym same.1 i; given = sym same.2 i; outcome = sym same.3 i } in
    record {
      later = least (now past) entry.moment (and_first (nat_le (now past) entry.moment) (nat_le entry.moment last_moment) early);
      in_time = in_time_of past entry may;
      no_boot = not_true (is_boot entry.event) (and_second (nat_le (now past) entry.moment && nat_le entry.moment last_moment) (not (is_boot entry.event)) may);
      determined = own ∙ ap (with_parts entry) is ∙ parts_next past entry;
    }

pub may_of : (past : List Entry) (entry : Entry) → Fits all_duties entry past → may_follow past entry ≡ true
may_of past entry fits =
    and_both (nat_le (now past) entry.moment && nat_le entry.moment last_moment) (not (is_boot entry.event))
    (and_both (nat_le (now past) entry.moment) (nat_le entry.moment last_moment) (least_back (now past) entry.moment fits.later) (least_back entry.moment last_moment fits.in_time))
    (ap not fits.no_boot)

pub parts_of : (past : List Entry) (entry next : Entry) → next ≡ next_entry all_duties past entry.moment entry.word entry.event → Fits all_duties entry past
    → HasParts next entry.marks entry.sent entry.given entry.outcome
parts_of past entry next is fits = let same : next ≡ entry = is ∙ sym fits.determined in
    (ap (λ (e : Entry). e.marks) same, ap (λ (e : Entry). e.sent) same, ap (λ (e : Entry). e.given) same, ap (λ (e : Entry). e.outcome) same)

pub next_is : (past : List Entry) (entry next : Entry) → next ≡ next_entry all_duties past entry.moment entry.word entry.event
    → HasParts next entry.marks entry.sent entry.given entry.outcome → next ≡ entry
next_is past entry next is same =
    is ∙ sym (parts_next past entry) ∙ ap (with_parts entry) (sym is)
    ∙ (λ i. record { moment = entry.moment; word = entry.word; event = entry.event; marks = same.0 i; sent = same.1 i; given = same.2 i; outcome = same.3 i })

pub by_of : (history : List Entry) (entry : Entry) → IsLegalOrNone all_duties history → may_follow history entry ≡ true → are_by entry.moment history ≡ true
by_of [] entry legal may = refl
by_of (before ∷ past) entry legal may =
    legal_by all_duties before past entry.moment legal
    (least before.moment entry.moment (and_first (nat_le before.moment entry.moment) (nat_le entry.moment last_moment)
    (and_first (nat_le before.moment entry.moment && nat_le entry.moment last_moment) (not (is_boot entry.event)) may)))
