-- Where strings stand in TXT data.
use Rattle.std.specs.Prelude.{◌≡◌, ℕ, ◌+◌, true, false, List, ◌∷◌, ◌++◌, length}
use Rattle.std.specs.List.{list_any}
use Rattle.txt_record.specs.Strings.{txt_data}
use Rattle.txt_record.specs.Pairs.{has_key}

-- where the first string that has a key stands in the data of strings: its length byte is at start, and it ends at finish
pub record IsPlaceOf (key : List ℕ) (strings : List (List ℕ)) (start finish : ℕ) : Type 0 where
  pub front : List (List ℕ)
  pub string : List ℕ
  pub back : List (List ℕ)
  pub parts : strings ≡ front ++ string ∷ back
  pub none_before : list_any (has_key key) front ≡ false
  pub has : has_key key string ≡ true
  pub start_is : start ≡ length (txt_data front)
  pub finish_is : finish ≡ start + 1 + length string
