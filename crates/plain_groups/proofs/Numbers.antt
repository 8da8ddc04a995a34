-- The first number of some that passes a test, and the number of a group's name.
use Rattle.std.proofs.Common.{◌≡◌, ℕ, ◌+◌, Bool, true, false, cond, List, [], ◌∷◌, Option, Some, None, refl, sym, ap, ◌∙◌}
use Rattle.std.specs.List.{find}
use Rattle.std.specs.Option.{unwrap_or, option_or}
use Rattle.lists.specs.Lists.{count_up}
use Rattle.mdns_history.specs.declared.entry.Entry.{Entry}
use Rattle.mdns_history.specs.History.{latest}
use Rattle.mdns_history.specs.Groups.{Group, renaming, number_of}
use Rattle.plain_history.proofs.Onces.{count_front}

-- the first number fails it
pub find_next : (f : ℕ → Bool) (a b n m : ℕ) → f a ≡ false → b ≡ a + 1 → n ≡ m + 1 → find f (count_up b m) ≡ find f (count_up a n)
find_next f a b n m fails e k = ap (λ c. cond c (Some a) (find f (count_up b m))) (sym fails) ∙ ap (find f) (sym (count_front a b n m e k))

-- an entry gives the number
pub number_here : (group : Group) (entry : Entry) (past : List Entry) (n : ℕ) → renaming group.id entry ≡ Some n → number_of group (entry ∷ past) ≡ n
unfolding number_of
number_here group entry past n h = ap (λ o. unwrap_or (option_or o (latest (renaming group.id) past)) group.first) h
