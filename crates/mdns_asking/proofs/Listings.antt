-- The known answers of several questions, put together.
use Rattle.std.proofs.Common.{◌≡◌, ℕ, ◌≤◌, length, take, List, ap, ◌∙◌, sym}
use Rattle.std.specs.List.{flat_map}
use Rattle.std.proofs.lemmas.List.{take_all}
use Rattle.lists.specs.Lists.{ordered}
use Rattle.dns_record.specs.declared.record.Rr.{Rr}
use Rattle.dns_record.specs.declared.record.Key.{Key}
use Rattle.dns_record.specs.Records.{record_cmp}
use Rattle.dns_record.proofs.Same.{record_cmp_total}
use Rattle.mdns_happened.specs.declared.walk.Walk.{Walk}
use Rattle.mdns_known.specs.Known.{known_of, listed_of}
use Rattle.mdns_pack.proofs.Sorting.{ordered_sorted}
use Rattle.mdns_asking.specs.ByWalks.{later_of, known_by}

-- whether the known answers of each question are sorted before they are put together doesn't matter
known_by_is : (keys : List Key) (walks : List Walk) (moment : ℕ) → ordered record_cmp (flat_map (λ key. listed_of key (later_of key.name walks) moment) keys) ≡ known_by keys walks moment
unfolding known_by known_of
known_by_is keys walks moment = sym (ordered_sorted record_cmp record_cmp_total (λ key. listed_of key (later_of key.name walks) moment) keys)

-- what was put of all questions, in order, are their known answers
pub known_by_put : (keys : List Key) (walks : List Walk) (moment n : ℕ) (all : List Rr) → length keys ≤ n →
    all ≡ flat_map (λ key. listed_of key (later_of key.name walks) moment) (take n keys) → ordered record_cmp all ≡ known_by keys walks moment
known_by_put keys walks moment n all within put =
    ap (ordered record_cmp) (put ∙ ap (flat_map (λ key. listed_of key (later_of key.name walks) moment)) (take_all n keys within)) ∙ known_by_is keys walks moment
