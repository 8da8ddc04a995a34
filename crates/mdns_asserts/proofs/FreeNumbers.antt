-- The number that is chosen for a group's name gives a name that is free.
use Rattle.std.proofs.Common.{◌≡◌, ℕ, zero, suc, ◌+◌, ◌^◌, ◌<◌, ◌≤◌, ◌≢◌, ◌==◌, inl, inr, Bool, true, false, cond, not, ◌&&◌, ◌||◌, List, [], ◌∷◌, ◌++◌, map, length, Option, Some, None, decimal, codes, refl, ap, subst, ◌∙◌, sym, arith, append_assoc}
use Rattle.std.specs.Prelude.{nat_lt, drop}
use Rattle.std.specs.List.{find, IsDistinct, AllByRecursion}
use Rattle.std.specs.Option.{unwrap_or}
use Rattle.std.specs.Set.{is_member}
use Rattle.std.specs.Str.{str_to_ascii_lowercase, all_ascii_digits}
use Rattle.std.specs.Char.{to_ascii_lowercase, is_ascii_digit}
use Rattle.std.proofs.lemmas.Fmt.{decimal_injective}
use Rattle.std.proofs.lemmas.List.{append_cancel_right, map-append}
use Rattle.std.proofs.lemmas.List.Folds.{list_any-append}
use Rattle.std.proofs.lemmas.Map.Made.{length-le_from_is_member}
use Rattle.number_text.proofs.Joined.{lacks}
use Rattle.number_text.proofs.Decimals.{decimal_lacks}
use Rattle.mdns_history.proofs.TokenTexts.{decimal_digits}
use Rattle.lists.specs.Lists.{count_up}
use Rattle.dns_name.specs.Names.{folded, folded_eq}
use Rattle.dns_name.proofs.Folding.{folded_eq-tells, folded_eq-equivalence}
use Rattle.sd_name.specs.Renaming.{cut_to, with_suffix, renamed, host_renamed}
use Rattle.mdns_history.specs.Groups.{Group, numbered_label, numbered_name, is_taken, free_number}
use Rattle.mdns_asserts.proofs.Elements.{In, in_right, of_map, any_in, of_any, both_no, not_true}
use Rattle.mdns_asserts.proofs.Numbered.{length_map}

has_there : (c : ℕ) (ys e : List ℕ) → lacks c (ys ++ c ∷ e) ≡ true
has_there c ys e = any_in (λ b. b == c) (ys ++ c ∷ e) c (in_right c ys (c ∷ e) (inl refl)) (grind arith)

no_end : (c : ℕ) (y : ℕ) (ys d e : List ℕ) → lacks c d ≡ false → c ∷ d ≡ (y ∷ ys) ++ c ∷ e → ⊥
no_end c y ys d e h eq = both_no (lacks c (ys ++ c ∷ e)) (has_there c ys e) (ap (lacks c) (sym (ap (λ (zs : List ℕ). drop 1 zs) eq)) ∙ h)

-- lists with a byte behind which it doesn't stand again end alike
same_end : (c : ℕ) (xs ys d e : List ℕ) → lacks c d ≡ false → lacks c e ≡ false → xs ++ c ∷ d ≡ ys ++ c ∷ e → d ≡ e
same_end c [] [] d e h g eq = ap (λ (zs : List ℕ). drop 1 zs) eq
same_end c [] (y ∷ ys) d e h g eq = absurd (no_end c y ys d e h eq)
same_end c (x ∷ xs) [] d e h g eq = absurd (no_end c x xs e d g (sym eq))
same_end c (x ∷ xs) (y ∷ ys) d e h g eq = same_end c xs ys d e h g (ap (λ (zs : List ℕ). drop 1 zs) eq)

-- digits have no case
lower_digit : (c : ℕ) → is_ascii_digit c ≡ true → to_ascii_lowercase c ≡ c
lower_digit c h = of (nat_lt c 65) refl
  where
    of : (b : Bool) → nat_lt c 65 ≡ b → cond b c (cond (nat_lt c 91) (c + 32) c) ≡ c
    of true e = refl
    of false e = absurd (high (grind (arith, h)) (grind (arith, e)))
      where
        high : c ≤ 57 → 65 ≤ c → ⊥
        high a b = omega arith

lower_digits : (ds : List ℕ) → all_ascii_digits ds ≡ true → str_to_ascii_lowercase ds ≡ ds
lower_digits [] h = refl
lower_digits (d ∷ ds) h = of (is_ascii_digit d) refl h (lower_digits ds)
  where
    of : (b : Bool) → is_ascii_digit d ≡ b → (b && all_ascii_digits ds) ≡ true → (all_ascii_digits ds ≡ true → str_to_ascii_lowercase ds ≡ ds) → to_ascii_lowercase d ∷ str_to_ascii_lowercase ds ≡ d ∷ ds
    of true e g rest = ap (λ x. x ∷ str_to_ascii_lowercase ds) (lower_digit d e) ∙ ap (λ zs. d ∷ zs) (rest g)
    of false e g rest = cc

lower_decimal : (n : ℕ) → n < 2 ^ 64 → str_to_ascii_lowercase (decimal n) ≡ decimal n
lower_decimal n h = lower_digits (decimal n) (decimal_digits n h)

-- numbered labels that are one, case aside, have one number
host_numbers : (label : List ℕ) (m n : ℕ) (cut other : List ℕ) → m < 2 ^ 64 → n < 2 ^ 64 →
    str_to_ascii_lowercase (cut ++ 45 ∷ decimal m) ≡ str_to_ascii_lowercase (other ++ 45 ∷ decimal n) → m ≡ n
host_numbers label m n cut other hm hn eq =
    let left : str_to_ascii_lowercase (cut ++ 45 ∷ decimal m) ≡ str_to_ascii_lowercase cut ++ 45 ∷ decimal m =
    map-append to_ascii_lowercase cut (45 ∷ decimal m) ∙ ap (λ zs. str_to_ascii_lowercase cut ++ 45 ∷ zs) (lower_decimal m hm) in
    let right : str_to_ascii_lowercase (other ++ 45 ∷ decimal n) ≡ str_to_ascii_lowercase other ++ 45 ∷ decimal n =
    map-append to_ascii_lowercase other (45 ∷ decimal n) ∙ ap (λ zs. str_to_ascii_lowercase other ++ 45 ∷ zs) (lower_decimal n hn) in
    decimal_injective m n hm hn
    (same_end 45 (str_to_ascii_lowercase cut) (str_to_ascii_lowercase other) (decimal m) (decimal n) (decimal_lacks 45 m refl hm) (decimal_lacks 45 n refl hn) (sym left ∙ eq ∙ right))

service_lower : (cut : List ℕ) (n : ℕ) → n < 2 ^ 64 →
    str_to_ascii_lowercase (cut ++ ((32 ∷ 40 ∷ decimal n) ++ 41 ∷ [])) ≡ (str_to_ascii_lowercase cut ++ 32 ∷ []) ++ 40 ∷ (decimal n ++ 41 ∷ [])
service_lower cut n h =
    map-append to_ascii_lowercase cut ((32 ∷ 40 ∷ decimal n) ++ 41 ∷ [])
    ∙ ap (λ zs. str_to_ascii_lowercase cut ++ 32 ∷ 40 ∷ zs) (map-append to_ascii_lowercase (decimal n) (41 ∷ []) ∙ ap (λ zs. zs ++ 41 ∷ []) (lower_decimal n h))
    ∙ sym (append_assoc (str_to_ascii_lowercase cut) (32 ∷ []) (40 ∷ (decimal n ++ 41 ∷ [])))

closed_lacks : (n : ℕ) → n < 2 ^ 64 → lacks 40 (decimal n ++ 41 ∷ []) ≡ false
closed_lacks n h = list_any-append (λ b. b == 40) (decimal n) (41 ∷ []) ∙ ap (λ b. b || false) (decimal_lacks 40 n refl h)

service_numbers : (m n : ℕ) (cut other : List ℕ) → m < 2 ^ 64 → n < 2 ^ 64 →
    str_to_ascii_lowercase (cut ++ ((32 ∷ 40 ∷ decimal m) ++ 41 ∷ [])) ≡ str_to_ascii_lowercase (other ++ ((32 ∷ 40 ∷ decimal n) ++ 41 ∷ [])) → m ≡ n
service_numbers m n cut other hm hn eq =
    decimal_injective m n hm hn
    (append_cancel_right (decimal m) (decimal n) (41 ∷ [])
    (same_end 40 (str_to_ascii_lowercase cut ++ 32 ∷ []) (str_to_ascii_lowercase other ++ 32 ∷ []) (decimal m ++ 41 ∷ []) (decimal n ++ 41 ∷ []) (closed_lacks m hm) (closed_lacks n hn)
    (sym (service_lower cut m hm) ∙ eq ∙ service_lower other n hn)))

other_than_one : (n : ℕ) → 2 ≤ n → (n == 1) ≡ false
other_than_one n h = grind arith

label_numbers : (group : Group) (m n : ℕ) → 2 ≤ m → 2 ≤ n → m < 2 ^ 64 → n < 2 ^ 64 →
    str_to_ascii_lowercase (numbered_label group m) ≡ str_to_ascii_lowercase (numbered_label group n) → m ≡ n
unfolding renamed host_renamed
label_numbers group m n am an hm hn eq = of (group.id == 0) eq
  where
    of : (b : Bool) → str_to_ascii_lowercase (cond b (host_renamed group.label m) (renamed group.label m)) ≡ str_to_ascii_lowercase (cond b (host_renamed group.label n) (renamed group.label n)) → m ≡ n
    of true e =
        host_numbers group.label m n (cut_to _ group.label) (cut_to _ group.label) hm hn
        (sym (ap (λ b. str_to_ascii_lowercase (cond b group.label (with_suffix group.label (codes "-" ++ decimal m)))) (other_than_one m am)) ∙ e
        ∙ ap (λ b. str_to_ascii_lowercase (cond b group.label (with_suffix group.label (codes "-" ++ decimal n)))) (other_than_one n an))
    of false e =
        service_numbers m n (cut_to _ group.label) (cut_to _ group.label) hm hn
        (sym (ap (λ b. str_to_ascii_lowercase (cond b group.label (with_suffix group.label (codes " (" ++ decimal m ++ codes ")")))) (other_than_one m am)) ∙ e
        ∙ ap (λ b. str_to_ascii_lowercase (cond b group.label (with_suffix group.label (codes " (" ++ decimal n ++ codes ")")))) (other_than_one n an))

abbrev head_of : List (List ℕ) → List ℕ
head_of [] = []
head_of (label ∷ rest) = label

-- two names of a group under numbers from 2 on are different
numbers_part : (group : Group) (m n : ℕ) → 2 ≤ m → 2 ≤ n → m < 2 ^ 64 → n < 2 ^ 64 → m ≢ n → folded_eq (numbered_name group m) (numbered_name group n) ≡ false
numbers_part group m n am an hm hn other = of (folded_eq (numbered_name group m) (numbered_name group n)) refl
  where
    of : (b : Bool) → folded_eq (numbered_name group m) (numbered_name group n) ≡ b → b ≡ false
    of false e = refl
    of true e =
        let alike : folded (numbered_name group m) ≡ folded (numbered_name group n) = (folded_eq-tells (numbered_name group m) (numbered_name group n)).0 e in
        absurd (other (label_numbers group m n am an hm hn (ap head_of alike)))

-- so names under rising numbers are all different
all_part : (group : Group) (m : ℕ) (many first : ℕ) → 2 ≤ m → m < first → first + many ≤ 2 ^ 64 → AllByRecursion (λ name. folded_eq (numbered_name group m) name ≡ false) (map (numbered_name group) (count_up first many))
all_part group m zero first am lt most = tt
all_part group m (suc many) first am lt most =
    (numbers_part group m first am (omega arith) (omega arith) (omega arith) (below m first lt), all_part group m many (first + 1) am (omega arith) (omega arith))
  where
    below : (a b : ℕ) → a < b → a ≢ b
    below a b l e = absurd (no b (subst (λ x. x < b) e l))
      where
        no : (x : ℕ) → x < x → ⊥
        no x k = omega arith

names_part : (group : Group) (many first : ℕ) → 2 ≤ first → first + many ≤ 2 ^ 64 → IsDistinct folded_eq (map (numbered_name group) (count_up first many))
unfolding IsDistinct
names_part group zero first am most = tt
names_part group (suc many) first am most = (all_part group first many (first + 1) am (omega arith) (omega arith), names_part group many (first + 1) (omega arith) (omega arith))

-- what a search finds passes, and where it finds nothing none passes
found_passes : {X : Type 0} (p : X → Bool) (xs : List X) (x : X) → find p xs ≡ Some x → p x ≡ true
found_passes p [] x e = cc
found_passes p (y ∷ ys) x e = of (p y) refl e (found_passes p ys x)
  where
    of : (b : Bool) → p y ≡ b → cond b (Some y) (find p ys) ≡ Some x → (find p ys ≡ Some x → p x ≡ true) → p x ≡ true
    of true f g rest = let same : y ≡ x = cc in ap p (sym same) ∙ f
    of false f g rest = rest g

none_passes : {X : Type 0} (p : X → Bool) (xs : List X) → find p xs ≡ None → (x : X) → In x xs → p x ≡ false
none_passes p [] e x m = absurd m
none_passes p (y ∷ ys) e x m = of (p y) refl e m (λ f n. none_passes p ys f x n)
  where
    of : (b : Bool) → p y ≡ b → cond b (Some y) (find p ys) ≡ None → In x (y ∷ ys) → (find p ys ≡ None → In x ys → p x ≡ false) → p x ≡ false
    of true f g n rest = cc
    of false f g (inl i) rest = ap p i ∙ f
    of false f g (inr n) rest = rest g n

length_count_up : (many first : ℕ) → length (count_up first many) ≡ many
length_count_up zero first = refl
length_count_up (suc many) first = ap suc (length_count_up many (first + 1))

-- more numbers than names leave one free
some_free : (group : Group) (names : List (List (List ℕ))) (first : ℕ) → 2 ≤ first → first + (length names + 1) ≤ 2 ^ 64 →
    ((n : ℕ) → In n (count_up first (length names + 1)) → is_taken names (numbered_name group n) ≡ true) → ⊥
some_free group names first am most taken =
    let numbers : List ℕ = count_up first (length names + 1) in
    let within : length (map (numbered_name group) numbers) ≤ length names =
    length-le_from_is_member folded_eq-equivalence (map (numbered_name group) numbers) names (names_part group (length names + 1) first am most) held in
    let many : length (map (numbered_name group) numbers) ≡ length names + 1 = length_map (numbered_name group) numbers ∙ length_count_up (length names + 1) first in
    omega (arith, within, many)
  where
    held : (name : List (List ℕ)) → is_member folded_eq (map (numbered_name group) (count_up first (length names + 1))) name ≡ true → is_member folded_eq names name ≡ true
    held name h =
        let found : (other : List (List ℕ)) × In other (map (numbered_name group) (count_up first (length names + 1))) × (folded_eq name other ≡ true) = of_any (folded_eq name) (map (numbered_name group) (count_up first (length names + 1))) h in
        let number : (n : ℕ) × In n (count_up first (length names + 1)) × (found.0 ≡ numbered_name group n) = of_map (numbered_name group) found.0 (count_up first (length names + 1)) found.1 in
        let one : (held : List (List ℕ)) × In held names × (folded_eq (numbered_name group number.0) held ≡ true) = of_any (folded_eq (numbered_name group number.0)) names (taken number.0 number.1) in
        any_in (folded_eq name) names one.0 one.1
        (folded_eq-equivalence.congr name found.0 one.0 found.2 ∙ ap (λ k. folded_eq k one.0) number.2 ∙ one.2)

-- The number that is chosen is free, where there is room for numbers.
pub free_number-free : (from : ℕ) (names : List (List (List ℕ))) (group : Group) → 1 ≤ from → from + (length names + 2) ≤ 2 ^ 64 → is_taken names (numbered_name group (free_number from names group)) ≡ false
unfolding free_number
free_number-free from names group af most = of (find (λ number. not (is_taken names (numbered_name group number))) (count_up from (length names + 2))) refl
  where
    test : ℕ → Bool
    test number = not (is_taken names (numbered_name group number))

    behind : (k : ℕ) (n : ℕ) → In n (count_up (from + 1) k) → In n (count_up from (suc k))
    behind k n m = inr m

    of : (o : Option ℕ) → find (λ number. not (is_taken names (numbered_name group number))) (count_up from (length names + 2)) ≡ o → is_taken names (numbered_name group (unwrap_or o from)) ≡ false
    of (Some n) e = not_true (is_taken names (numbered_name group n)) (found_passes test (count_up from (length names + 2)) n e)
    of None e =
        absurd (some_free group names (from + 1) (omega (arith, af)) (omega (arith, most))
        (λ n m. not_not (is_taken names (numbered_name group n)) (none_passes test (count_up from (length names + 2)) e n (all n m))))
      where
        not_not : (b : Bool) → not b ≡ false → b ≡ true
        not_not true h = refl
        not_not false h = cc

        all : (n : ℕ) → In n (count_up (from + 1) (length names + 1)) → In n (count_up from (length names + 2))
        all n m = subst (λ k. In n (count_up from k)) more (behind (length names + 1) n m)
          where
            more : suc (length names + 1) ≡ length names + 2
            more = omega arith
