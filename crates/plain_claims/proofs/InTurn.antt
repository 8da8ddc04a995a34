-- The marks of groups in turn, one group further.
use Rattle.std.proofs.Common.{◌≡◌, List, [], ◌∷◌, ◌++◌, append_assoc, Option, Some, None}
use Rattle.std.specs.List.{cons_option}
use Rattle.std.specs.Option.{option_to_list}

-- one more or none stands behind others
pub put_next : {X : Type 0} (before : List X) (o : Option X) (rest : List X) → (before ++ option_to_list o) ++ rest ≡ before ++ cons_option o rest
put_next before None rest = append_assoc before [] rest
put_next before (Some x) rest = append_assoc before (x ∷ []) rest
