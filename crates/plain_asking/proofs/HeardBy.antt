-- The known answers of a question are read off live records that weren't heard later than the moment.
use Rattle.std.proofs.Common.{◌≡◌, ℕ, ◌≤◌, true, List, subst}
use Rattle.std.specs.Prelude.{nat_le}
use Rattle.std.specs.List.{All}
use Rattle.std.specs.List.Sorted.{IsPermutation}
use Rattle.std.proofs.lemmas.Bool.{leb-true}
use Rattle.std.proofs.lemmas.List.Sums.{AllPass-from_list_all}
use Rattle.std.proofs.lemmas.List.Sorted.{IsPermutation-refl}
use Rattle.dns_record.specs.declared.record.Key.{Key}
use Rattle.mdns_history.specs.declared.entry.Entry.{Entry}
use Rattle.mdns_history.specs.declared.held.Held.{Held}
use Rattle.mdns_history.specs.Lifetimes.{live_records}
use Rattle.mdns_history.specs.Asking.{known_answers}
use Rattle.mdns_known.specs.Known.{known_of}
use Rattle.mdns_known.proofs.Live.{of_live_records}
use Rattle.plain_history.specs.Last.{are_held_by}

pub heard_by : (moment : ℕ) (held : List Held) → are_held_by moment held ≡ true → All (λ (one : Held). one.heard ≤ moment) held
heard_by moment held h k d within = leb-true _ _ (AllPass-from_list_all (λ (one : Held). nat_le one.heard moment) held h k d within)

pub known_over : (question : Key) (history : List Entry) (moment : ℕ) (held : List Held) → held ≡ live_records history moment → known_of question held moment ≡ known_answers question history moment
known_over question history moment held e =
    let P : List Held → Type 0 = λ l. IsPermutation held l in of_live_records question history moment held (subst P e (IsPermutation-refl held))
