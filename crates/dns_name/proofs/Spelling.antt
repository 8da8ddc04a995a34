-- Texts as lists of items.
use Rattle.std.proofs.Common.{◌≡◌, ℕ, zero, suc, List, [], ◌∷◌, ◌∙◌, drop, length, refl, ap, sym, arith}
use Rattle.dns_name.specs.declared.items.TextItem.{TextItem}
use Rattle.dns_name.specs.TextItems.{items_past, items_of, item_at}

-- passing over bytes is dropping them
pub items_past-drop : (passed : ℕ) (text : List ℕ) → items_past passed text ≡ items_of (drop passed text)
unfolding items_past
items_past-drop zero text = refl
items_past-drop (suc passed) [] = refl
items_past-drop (suc passed) (byte ∷ text) = items_past-drop passed text

pub items_of-none : (text : List ℕ) → length text ≡ 0 → items_of text ≡ []
unfolding items_past
items_of-none [] h = refl
items_of-none (byte ∷ text) h = absurd (omega arith)

pub items_of-next : (byte : ℕ) (text after : List ℕ) (item : TextItem) → item ≡ (item_at byte text).0 → after ≡ drop (item_at byte text).1 text → items_of (byte ∷ text) ≡ item ∷ items_of after
unfolding items_past
items_of-next byte text after item e f =
    ap (λ l. (item_at byte text).0 ∷ l) (items_past-drop (item_at byte text).1 text ∙ ap items_of (sym f)) ∙ ap (λ i. i ∷ items_of after) (sym e)
