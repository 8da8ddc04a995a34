-- Bytes with ASCII letters in lower case.
use Rattle.std.proofs.Common.{◌≡◌, ℕ, ◌<◌, List, ◌∙◌, length, get_or, map, sym, ap, arith, refl}
use Rattle.std.proofs.Math.ListN.{get_or-map}
use Rattle.std.proofs.lemmas.List.{length-map}
use Rattle.std.proofs.lemmas.Grind.{same_number_lists}
use Rattle.std.proofs.lemmas.List.FromFn.{get_or-map-range_with_len}
use Rattle.std.specs.List.{range_with_len}
use Rattle.dns_name.specs.declared.fold.TheConstants.{LOWER}
use Rattle.std.specs.Char.{to_ascii_lowercase}
use Rattle.std.specs.Str.{str_to_ascii_lowercase}

-- place by place
pub alike : (xs ys : List ℕ) → length xs ≡ length ys → ((k : ℕ) → k < length xs → to_ascii_lowercase (get_or xs k 0) ≡ to_ascii_lowercase (get_or ys k 0)) → str_to_ascii_lowercase xs ≡ str_to_ascii_lowercase ys
alike xs ys n h =
    same_number_lists (str_to_ascii_lowercase xs) (str_to_ascii_lowercase ys) (length-map xs to_ascii_lowercase ∙ n ∙ sym (length-map ys to_ascii_lowercase))
    (λ k within. get_or-map to_ascii_lowercase xs k 0 ∙ h k (omega (arith, length-map xs to_ascii_lowercase)) ∙ sym (get_or-map to_ascii_lowercase ys k 0))

pub alike_at : (xs ys : List ℕ) (k : ℕ) → str_to_ascii_lowercase xs ≡ str_to_ascii_lowercase ys → to_ascii_lowercase (get_or xs k 0) ≡ to_ascii_lowercase (get_or ys k 0)
alike_at xs ys k e = sym (get_or-map to_ascii_lowercase xs k 0) ∙ ap (λ l. get_or l k 0) e ∙ get_or-map to_ascii_lowercase ys k 0

-- the table
lower_table : LOWER ≡ map to_ascii_lowercase (range_with_len 0 256)
lower_table = refl

pub lower_at : (byte : ℕ) → byte < 256 → get_or LOWER byte 0 ≡ to_ascii_lowercase byte
lower_at byte h = ap (λ l. get_or l byte 0) lower_table ∙ get_or-map-range_with_len to_ascii_lowercase 0 256 byte byte 0 h (omega arith)
