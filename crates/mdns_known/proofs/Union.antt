-- The known answers of several questions.
use Rattle.std.proofs.Common.{◌≡◌, ℕ, ◌+◌, ◌<◌, ◌≤◌, length, take, get_or, List, [], ◌∷◌, ◌++◌, refl, ap, ◌∙◌, sym, append-nil}
use Rattle.std.specs.List.{flat_map}
use Rattle.std.proofs.lemmas.List.{take_more, take_all}
use Rattle.std.proofs.lemmas.List.Concat.{flat_map-append}
use Rattle.lists.specs.Lists.{ordered}
use Rattle.dns_record.specs.declared.record.Rr.{Rr}
use Rattle.dns_record.specs.declared.record.Key.{Key}
use Rattle.dns_record.specs.Records.{record_cmp}
use Rattle.dns_record.proofs.Same.{record_cmp_total}
use Rattle.mdns_history.specs.declared.held.Held.{Held}
use Rattle.mdns_history.specs.Asking.{known_answers}
use Rattle.mdns_known.specs.Known.{known_of, listed_of, all_known_of}
use Rattle.mdns_known.specs.Laws.{AreOfLiveRecords}
use Rattle.mdns_known.proofs.Live.{of_live_records}
use Rattle.mdns_pack.proofs.Sorting.{ordered_sorted}

-- the known answers of several questions of a history are those over its live records
same_of_each : (questions : List Key) (f g : Key → List Rr) → ((question : Key) → f question ≡ g question) → flat_map f questions ≡ flat_map g questions
same_of_each [] f g e = refl
same_of_each (question ∷ questions) f g e = λ i. e question i ++ same_of_each questions f g e i

pub are_of_live_records : AreOfLiveRecords
unfolding all_known_of
are_of_live_records questions history moment held moved =
    ap (ordered record_cmp)
    (same_of_each questions (λ question. known_of question held moment) (λ question. known_answers question history moment) (λ question. of_live_records question history moment held moved))

-- whether the known answers of each question are sorted before they are put together doesn't matter
all_known_is : (questions : List Key) (held : List Held) (moment : ℕ) →
    ordered record_cmp (flat_map (λ question. listed_of question held moment) questions) ≡ all_known_of questions held moment
unfolding all_known_of known_of
all_known_is questions held moment = sym (ordered_sorted record_cmp record_cmp_total (λ question. listed_of question held moment) questions)

-- what was put of all questions, in order, are their known answers
pub all_known_put : (questions : List Key) (held : List Held) (moment n : ℕ) (all : List Rr) → length questions ≤ n →
    all ≡ flat_map (λ question. listed_of question held moment) (take n questions) → ordered record_cmp all ≡ all_known_of questions held moment
all_known_put questions held moment n all within put =
    ap (ordered record_cmp) (put ∙ ap (flat_map (λ question. listed_of question held moment)) (take_all n questions within)) ∙ all_known_is questions held moment

-- one more question
pub known_more : (f : Key → List Rr) (questions : List Key) (n : ℕ) (question : Key) → n < length questions → question ≡ get_or questions n question →
    flat_map f (take n questions) ++ f question ≡ flat_map f (take (n + 1) questions)
known_more f questions n question within is =
    ap (λ (l : List Rr). flat_map f (take n questions) ++ l) (sym (append-nil (f question)))
    ∙ sym (flat_map-append f (take n questions) (question ∷ []))
    ∙ ap (flat_map f) (ap (λ (x : Key). take n questions ++ x ∷ []) is ∙ sym (take_more questions n question within))
