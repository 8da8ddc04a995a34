-- What is printed of items.
use Rattle.std.specs.Prelude.{◌≡◌, ℕ, ℤ, ◌<◌, Bool, true, false, not, List, [], ◌∷◌, ◌++◌, count_by, codes, if◌then◌else◌, Option, IfSome}
use Rattle.std.specs.List.{flat_map, list_any}
use Rattle.std.specs.Ordering.{int_eq}
use Rattle.std.specs.Fmt.{signed_decimal}
use Rattle.sd_call.specs.Requests.{no_error}
use Rattle.sd_call.specs.CallText.{answer_text}
use Rattle.sd_call.specs.declared.item.Item.{Item}
use Rattle.sd_call.specs.declared.item.Item.TheVariants.{Reply, Add, Remove}

-- whether a code is no error
abbrev pub is_good : ℤ → Bool
is_good code = int_eq code no_error

-- the line of a refused request
abbrev pub refused_line : ℤ → List ℕ
refused_line code = codes "refused " ++ signed_decimal code ++ 10 ∷ []

-- what is printed of an item: a line of an answer that came or went, and of a reply only its refusal
abbrev pub item_line : Item → List ℕ
item_line (Reply op verb code) = if is_good code then [] else refused_line code
item_line (Add op answer) = codes "Add " ++ answer_text answer ++ 10 ∷ []
item_line (Remove op answer) = codes "Rmv " ++ answer_text answer ++ 10 ∷ []

-- what is printed of items, in their order
abbrev pub lines_of : List Item → List ℕ
lines_of items = flat_map item_line items

-- an answer that came or went
abbrev pub is_answer : Item → Bool
is_answer (Reply op verb code) = false
is_answer (Add op answer) = true
is_answer (Remove op answer) = true

-- a reply that refuses
abbrev pub is_refusal : Item → Bool
is_refusal (Reply op verb code) = not (is_good code)
is_refusal (Add op answer) = false
is_refusal (Remove op answer) = false

-- how many lines of answers are printed
abbrev pub answer_count : List Item → ℕ
answer_count items = count_by is_answer items

-- The tool goes on behind these items: none of them refuses, and the count of lines, if there is one, isn't reached.
pub record GoesOn (count : Option ℕ) (items : List Item) : Type 0 where
  pub none_refuses : list_any is_refusal items ≡ false
  pub below : IfSome count (λ most. answer_count items < most)
