-- Groups that a packet disturbs hold different names behind it.
use Rattle.std.proofs.Common.{◌≡◌, ℕ, zero, suc, ◌+◌, ◌^◌, ◌≤◌, ◌≢◌, ◌==◌, inl, inr, Bool, true, false, cond, not, ◌&&◌, ◌||◌, List, [], ◌∷◌, map, length, Option, Some, None, refl, ap, subst, ◌∙◌, sym, arith}
use Rattle.std.specs.Prelude.{filter, nat_lt, if◌then◌else◌}
use Rattle.std.specs.List.{cons_option, find}
use Rattle.std.specs.Option.{unwrap_or, option_map_or}
use Rattle.lists.specs.Lists.{count_up}
use Rattle.mdns_base.specs.Hosts.{mdns_port}
use Rattle.dns_name.specs.Names.{folded_eq}
use Rattle.dns_record.specs.Conflicts.{clashes, loses_tie}
use Rattle.mdns_history.specs.declared.mark.Mark.{Mark}
use Rattle.mdns_history.specs.declared.mark.Mark.TheVariants as mark
use Rattle.mdns_history.specs.declared.entry.Entry.{Entry}
use Rattle.mdns_history.specs.Hearings.{Heard, counted_records}
use Rattle.mdns_history.specs.Groups.{Group, group_name, numbered_name, number_of, free_number, is_taken, unique_records}
use Rattle.mdns_history.specs.Sureness.{is_sure}
use Rattle.mdns_history.specs.Claims.{was_probed, greatest_number, giving_up, claim_mark, Holding, holding_of, held_by_others, holdings_after, marks_in_turn}
use Rattle.mdns_asserts.proofs.Elements.{In, in_map, in_filter, of_map, of_filter, any_in, both_no, not_false}
use Rattle.mdns_asserts.proofs.Published.{name_symm}
use Rattle.mdns_asserts.proofs.FreeNumbers.{free_number-free}
use Rattle.mdns_asserts.proofs.Numbered.{HaveNumbers, few_filter, length_map, some_eq, own_id, other_id}

-- no number before the first is chosen
pub free_number-from : (from : ℕ) (names : List (List (List ℕ))) (group : Group) → from ≤ free_number from names group
unfolding free_number
free_number-from from names group = of (find (λ number. not (is_taken names (numbered_name group number))) (count_up from (length names + 2))) refl
  where
    least : (p : ℕ → Bool) (many first : ℕ) (n : ℕ) → find p (count_up first many) ≡ Some n → first ≤ n
    least p zero first n e = cc
    least p (suc many) first n e = one (p first) e (least p many (first + 1) n)
      where
        one : (b : Bool) → cond b (Some first) (find p (count_up (first + 1) many)) ≡ Some n → (find p (count_up (first + 1) many) ≡ Some n → first + 1 ≤ n) → first ≤ n
        one true f more = let same : first ≡ n = ap (λ (o : Option ℕ). option_map_or (λ x. x) o 0) f in omega (arith, same)
        one false f more = let l : first + 1 ≤ n = more f in omega (arith, l)

    of : (o : Option ℕ) → find (λ number. not (is_taken names (numbered_name group number))) (count_up from (length names + 2)) ≡ o → from ≤ unwrap_or o from
    of None e = omega arith
    of (Some n) e = least (λ number. not (is_taken names (numbered_name group number))) (length names + 2) from n e

-- what a packet may do to a group
abbrev pub IsVerdict : List Entry → Group → List (List (List ℕ)) → Option Mark → Type 0
IsVerdict h group others None = Unit {0}
IsVerdict h group others (Some (mark.Contested id)) = id ≡ group.id
IsVerdict h group others (Some (mark.TieLost id)) = id ≡ group.id
IsVerdict h group others (Some (mark.Failed id)) = id ≡ group.id
IsVerdict h group others (Some (mark.Renamed id n)) = (id ≡ group.id) × (n ≡ free_number (number_of group h + 1) others group) × (nat_lt greatest_number n ≡ false)
IsVerdict h group others (Some _) = ⊥

verdict : (heard : Heard) (h : List Entry) (group : Group) (others : List (List (List ℕ))) → IsVerdict h group others (claim_mark heard h group others)
verdict heard h group others =
    of (is_sure group h) (was_probed group h) (clashes (group_name group h) (unique_records group h) (counted_records (Some heard)))
    (not heard.message.response && (heard.from.port == mdns_port) && loses_tie (group_name group h) (unique_records group h) heard.message.authority)
  where
    n : ℕ
    n = free_number (number_of group h + 1) others group

    giving : (a b : Bool) → nat_lt greatest_number (free_number (number_of group h + 1) others group) ≡ b →
        IsVerdict h group others (Some (cond (a || b) (mark.Failed group.id) (mark.Renamed group.id (free_number (number_of group h + 1) others group))))
    giving true b e = refl
    giving false true e = refl
    giving false false e = (refl, refl, e)

    of : (s p c t : Bool) →
        IsVerdict h group others (cond s (cond c (Some (mark.Contested group.id)) None) (cond (not p) None (cond c (Some (giving_up group h others)) (cond t (Some (mark.TieLost group.id)) None))))
    of true p true t = refl
    of true p false t = tt
    of false false c t = tt
    of false true true t = giving group.norename (nat_lt greatest_number (free_number (number_of group h + 1) others group)) refl
    of false true false true = refl
    of false true false false = tt

-- holdings of one name are of one group
abbrev pub AreApart : List Holding → Type 0
AreApart hs = (a b : Holding) → In a hs → In b hs → folded_eq a.name b.name ≡ true → a.id ≡ b.id

-- a holding that a group renames
abbrev renamed_in : ℕ → List (List ℕ) → Holding → Holding
renamed_in id name holding = if holding.id == id then record { id = id; name = name } else holding

few_others : (id : ℕ) (hs : List Holding) → length (held_by_others id hs) ≤ length hs
few_others id [] = omega arith
few_others id (x ∷ hs) = of (not (x.id == id)) (few_others id hs)
  where
    of : (b : Bool) → length (held_by_others id hs) ≤ length hs → length (map (λ (holding : Holding). holding.name) (cond b (x ∷ filter (λ holding. not (holding.id == id)) hs) (filter (λ holding. not (holding.id == id)) hs))) ≤ suc (length hs)
    of true l = omega (arith, l)
    of false l = omega (arith, l)

module _ (h : List Entry) (group : Group) (hs : List Holding) (few : length hs ≤ 2 ^ 63 + 1) (apart : AreApart hs) where
  -- the new name of a renamed group is held by no other
  new_free : (n : ℕ) → n ≡ free_number (number_of group h + 1) (held_by_others group.id hs) group → nat_lt greatest_number n ≡ false → (b : Holding) → In b hs → (b.id == group.id) ≡ false →
      folded_eq (numbered_name group n) b.name ≡ false
  new_free n is small b m other =
      let low : number_of group h + 1 ≤ n = subst (λ k. number_of group h + 1 ≤ k) (sym is) (free_number-from (number_of group h + 1) (held_by_others group.id hs) group) in
      let short : n ≤ 999999 = grind (arith, small) in
      let fewer : length (held_by_others group.id hs) ≤ length hs = few_others group.id hs in
      let room : (number_of group h + 1) + (length (held_by_others group.id hs) + 2) ≤ 2 ^ 64 = omega (arith, low, short, fewer, few) in
      let free : is_taken (held_by_others group.id hs) (numbered_name group n) ≡ false =
      ap (λ k. is_taken (held_by_others group.id hs) (numbered_name group k)) is ∙ free_number-free (number_of group h + 1) (held_by_others group.id hs) group (omega arith) room in
      of (folded_eq (numbered_name group n) b.name) refl free
    where
      listed : In b.name (held_by_others group.id hs)
      listed = in_map (λ (holding : Holding). holding.name) b (filter (λ holding. not (holding.id == group.id)) hs) (in_filter (λ holding. not (holding.id == group.id)) b hs m (not_false (b.id == group.id) other))

      of : (c : Bool) → folded_eq (numbered_name group n) b.name ≡ c → is_taken (held_by_others group.id hs) (numbered_name group n) ≡ false → c ≡ false
      of false e free = refl
      of true e free = absurd (both_no (is_taken (held_by_others group.id hs) (numbered_name group n)) (any_in (folded_eq (numbered_name group n)) (held_by_others group.id hs) b.name listed e) free)

  apart_after : (o : Option Mark) → IsVerdict h group (held_by_others group.id hs) o → AreApart (holdings_after group o hs)
  apart_after None v = apart
  apart_after (Some (mark.Contested id)) v = apart
  apart_after (Some (mark.TieLost id)) v = apart
  apart_after (Some (mark.Failed id)) v = λ a b m n e. apart a b (of_filter (λ (x : Holding). not (x.id == id)) a hs m).0 (of_filter (λ (x : Holding). not (x.id == id)) b hs n).0 e
  apart_after (Some (mark.Renamed id n)) v = λ a b m k e.
      let left : (x : Holding) × In x hs × (a ≡ renamed_in id (numbered_name group n) x) = of_map (renamed_in id (numbered_name group n)) a hs m in
      let right : (x : Holding) × In x hs × (b ≡ renamed_in id (numbered_name group n) x) = of_map (renamed_in id (numbered_name group n)) b hs k in
      ap (λ x. x.id) left.2
      ∙ of left.0 right.0 left.1 right.1 ((left.0).id == id) ((right.0).id == id) refl refl (sym (ap (λ x. folded_eq x.name (renamed_in id (numbered_name group n) right.0).name) left.2 ∙ refl) ∙ sym (ap (λ x. folded_eq a.name x.name) right.2) ∙ e)
      ∙ sym (ap (λ x. x.id) right.2)
    where
      name : List (List ℕ)
      name = numbered_name group n

      put : Bool → Holding → Holding
      put b x = cond b (record { id = id; name = numbered_name group n }) x

      is_other : (x : Holding) → (x.id == id) ≡ false → (x.id == group.id) ≡ false
      is_other x f = sym (ap (λ k. x.id == k) v.0) ∙ f

      of : (x y : Holding) → In x hs → In y hs → (c d : Bool) → (x.id == id) ≡ c → (y.id == id) ≡ d → folded_eq (cond c (record { id = id; name = numbered_name group n }) x).name (cond d (record { id = id; name = numbered_name group n }) y).name ≡ true →
          (cond c (record { id = id; name = numbered_name group n }) x).id ≡ (cond d (record { id = id; name = numbered_name group n }) y).id
      of x y p q true true f g e = refl
      of x y p q true false f g e = absurd (both_no (folded_eq (numbered_name group n) y.name) e (new_free n v.1 v.2 y q (is_other y g)))
      of x y p q false true f g e = absurd (both_no (folded_eq (numbered_name group n) x.name) (name_symm x.name (numbered_name group n) e) (new_free n v.1 v.2 x p (is_other x f)))
      of x y p q false false f g e = apart x y p q e
  apart_after (Some (mark.Bad number)) v = absurd v
  apart_after (Some mark.Full) v = absurd v
  apart_after (Some (mark.Asked key why)) v = absurd v
  apart_after (Some (mark.Announced g)) v = absurd v
  apart_after (Some (mark.Cut session)) v = absurd v

few_after : (group : Group) (o : Option Mark) (hs : List Holding) → length (holdings_after group o hs) ≤ length hs
few_after group None hs = omega arith
few_after group (Some (mark.Contested id)) hs = omega arith
few_after group (Some (mark.TieLost id)) hs = omega arith
few_after group (Some (mark.Failed id)) hs = few_filter (λ (x : Holding). not (x.id == id)) hs
few_after group (Some (mark.Renamed id n)) hs = let same : length (map (renamed_in id (numbered_name group n)) hs) ≡ length hs = length_map (renamed_in id (numbered_name group n)) hs in omega (arith, same)
few_after group (Some (mark.Bad number)) hs = omega arith
few_after group (Some mark.Full) hs = omega arith
few_after group (Some (mark.Asked key why)) hs = omega arith
few_after group (Some (mark.Announced g)) hs = omega arith
few_after group (Some (mark.Cut session)) hs = omega arith

-- what other groups hold stays
kept_other : (h : List Entry) (group : Group) (others : List (List (List ℕ))) (o : Option Mark) → IsVerdict h group others o → (hs : List Holding) (x : Holding) → In x hs → x.id ≢ group.id → In x (holdings_after group o hs)
kept_other h group others None v hs x m other = m
kept_other h group others (Some (mark.Contested id)) v hs x m other = m
kept_other h group others (Some (mark.TieLost id)) v hs x m other = m
kept_other h group others (Some (mark.Failed id)) v hs x m other = in_filter (λ (y : Holding). not (y.id == id)) x hs m (not_false (x.id == id) (other_id x.id id (λ e. other (e ∙ v))))
kept_other h group others (Some (mark.Renamed id n)) v hs x m other =
    subst (λ y. In y (map (renamed_in id (numbered_name group n)) hs)) (ap (λ b. cond b (record { id = id; name = numbered_name group n }) x) (other_id x.id id (λ e. other (e ∙ v.0))))
    (in_map (renamed_in id (numbered_name group n)) x hs m)
kept_other h group others (Some (mark.Bad number)) v hs x m other = absurd v
kept_other h group others (Some mark.Full) v hs x m other = absurd v
kept_other h group others (Some (mark.Asked key why)) v hs x m other = absurd v
kept_other h group others (Some (mark.Announced g)) v hs x m other = absurd v
kept_other h group others (Some (mark.Cut session)) v hs x m other = absurd v

-- the marks of a turn are of its groups
abbrev pub id_in : Mark → Option ℕ
id_in (mark.Renamed group number) = Some group
id_in (mark.Contested group) = Some group
id_in (mark.TieLost group) = Some group
id_in (mark.Failed group) = Some group
id_in _ = None

verdict_id : (h : List Entry) (group : Group) (others : List (List (List ℕ))) (m : Mark) → IsVerdict h group others (Some m) → id_in m ≡ Some group.id
verdict_id h group others (mark.Contested id) v = ap Some v
verdict_id h group others (mark.TieLost id) v = ap Some v
verdict_id h group others (mark.Failed id) v = ap Some v
verdict_id h group others (mark.Renamed id n) v = ap Some v.0
verdict_id h group others (mark.Bad number) v = absurd v
verdict_id h group others mark.Full v = absurd v
verdict_id h group others (mark.Asked key why) v = absurd v
verdict_id h group others (mark.Announced g) v = absurd v
verdict_id h group others (mark.Cut session) v = absurd v

pub turn_ids : (heard : Heard) (h : List Entry) (gs : List Group) (hs : List Holding) (m : Mark) → In m (marks_in_turn heard h gs hs) → (group : Group) × In group gs × (id_in m ≡ Some group.id)
turn_ids heard h [] hs m k = absurd k
turn_ids heard h (g ∷ gs) hs m k =
    of (claim_mark heard h g (held_by_others g.id hs)) (verdict heard h g (held_by_others g.id hs)) k (turn_ids heard h gs (holdings_after g (claim_mark heard h g (held_by_others g.id hs)) hs) m)
  where
    rest : List Mark
    rest = marks_in_turn heard h gs (holdings_after g (claim_mark heard h g (held_by_others g.id hs)) hs)

    behind : (group : Group) × In group gs × (id_in m ≡ Some group.id) → (group : Group) × In group (g ∷ gs) × (id_in m ≡ Some group.id)
    behind found = (found.0, inr found.1, found.2)

    of : (o : Option Mark) → IsVerdict h g (held_by_others g.id hs) o → In m (cons_option o (marks_in_turn heard h gs (holdings_after g (claim_mark heard h g (held_by_others g.id hs)) hs))) →
        (In m (marks_in_turn heard h gs (holdings_after g (claim_mark heard h g (held_by_others g.id hs)) hs)) → (group : Group) × In group gs × (id_in m ≡ Some group.id)) →
        (group : Group) × In group (g ∷ gs) × (id_in m ≡ Some group.id)
    of None v n more = behind (more n)
    of (Some first) v (inl e) more = (g, inl refl, ap id_in e ∙ verdict_id h g (held_by_others g.id hs) first v)
    of (Some first) v (inr n) more = behind (more n)

-- what is held behind a turn
pub record Turned (h : List Entry) (gs : List Group) (hs : List Holding) (marks : List Mark) (final : List Holding) : Type 0 where
  pub apart : AreApart final
  pub renamed : (group : Group) → In group gs → (n : ℕ) → In (mark.Renamed group.id n) marks → In (record { id = group.id; name = numbered_name group n }) final
  pub kept : (group : Group) → In group gs → ((n : ℕ) → In (mark.Renamed group.id n) marks → ⊥) → (In (mark.Failed group.id) marks → ⊥) → In (holding_of h group) final
  pub others : (x : Holding) → In x hs → ((group : Group) → In group gs → x.id ≢ group.id) → In x final

renamed_holding : (group : Group) (id n : ℕ) (hs : List Holding) (h : List Entry) → id ≡ group.id → In (holding_of h group) hs → In (record { id = group.id; name = numbered_name group n }) (map (renamed_in id (numbered_name group n)) hs)
renamed_holding group id n hs h e m =
    let there : In (renamed_in id (numbered_name group n) (holding_of h group)) (map (renamed_in id (numbered_name group n)) hs) = in_map (renamed_in id (numbered_name group n)) (holding_of h group) hs m in
    let Is : Holding → Type 0 = λ x. In x (map (renamed_in id (numbered_name group n)) hs) in
    let hit : (group.id == id) ≡ true = ap (λ k. group.id == k) e ∙ own_id group.id in
    subst Is (ap (λ b. cond b (record { id = id; name = numbered_name group n }) (holding_of h group)) hit ∙ ap (λ k. let x : Holding = record { id = k; name = numbered_name group n } in x) e) there

number_of_mark : Mark → ℕ
number_of_mark (mark.Renamed group number) = number
number_of_mark _ = 0

behind_mark : (o : Option Mark) (marks : List Mark) (m : Mark) → In m marks → In m (cons_option o marks)
behind_mark None marks m k = k
behind_mark (Some first) marks m k = inr k

module _ (h : List Entry) (g : Group) (gs : List Group) (hs : List Holding) (numbers : HaveNumbers (g ∷ gs)) (holds : (group : Group) → In group (g ∷ gs) → In (holding_of h group) hs)
    (marks : List Mark) (final : List Holding) (ids : (m : Mark) → In m marks → (group : Group) × In group gs × (id_in m ≡ Some group.id)) where
  away : (x : Holding) → x.id ≡ g.id → (group : Group) → In group gs → x.id ≢ group.id
  away x e group m f = absurd (numbers.0 group m (sym f ∙ e))

  unmarked : (m : Mark) → id_in m ≡ Some g.id → In m marks → ⊥
  unmarked m e k = let found : (group : Group) × In group gs × (id_in m ≡ Some group.id) = ids m k in numbers.0 found.0 found.1 (some_eq (found.0).id g.id (sym found.2 ∙ e))

  first_renamed : (o : Option Mark) → IsVerdict h g (held_by_others g.id hs) o → Turned h gs (holdings_after g o hs) marks final → (n : ℕ) → In (mark.Renamed g.id n) (cons_option o marks) →
      In (record { id = g.id; name = numbered_name g n }) final
  unfolding number_of_mark
  first_renamed None v t n k = absurd (unmarked (mark.Renamed g.id n) refl k)
  first_renamed (Some (mark.Renamed id number)) v t n (inl e) =
      let same : number ≡ n = sym (ap number_of_mark e) in
      subst (λ i. In (record { id = g.id; name = numbered_name g i }) final) same
      (t.others (record { id = g.id; name = numbered_name g number }) (renamed_holding g id number hs h v.0 (holds g (inl refl))) (away (record { id = g.id; name = numbered_name g number }) refl))
  first_renamed (Some (mark.Contested id)) v t n (inl e) = cc
  first_renamed (Some (mark.TieLost id)) v t n (inl e) = cc
  first_renamed (Some (mark.Failed id)) v t n (inl e) = cc
  first_renamed (Some (mark.Bad number)) v t n (inl e) = absurd v
  first_renamed (Some mark.Full) v t n (inl e) = absurd v
  first_renamed (Some (mark.Asked key why)) v t n (inl e) = absurd v
  first_renamed (Some (mark.Announced other)) v t n (inl e) = absurd v
  first_renamed (Some (mark.Cut session)) v t n (inl e) = absurd v
  first_renamed (Some first) v t n (inr k) = absurd (unmarked (mark.Renamed g.id n) refl k)

  first_kept : (o : Option Mark) → IsVerdict h g (held_by_others g.id hs) o → Turned h gs (holdings_after g o hs) marks final → ((n : ℕ) → In (mark.Renamed g.id n) (cons_option o marks) → ⊥) →
      (In (mark.Failed g.id) (cons_option o marks) → ⊥) → In (holding_of h g) final
  first_kept None v t unrenamed alive = t.others (holding_of h g) (holds g (inl refl)) (away (holding_of h g) refl)
  first_kept (Some (mark.Contested id)) v t unrenamed alive = t.others (holding_of h g) (holds g (inl refl)) (away (holding_of h g) refl)
  first_kept (Some (mark.TieLost id)) v t unrenamed alive = t.others (holding_of h g) (holds g (inl refl)) (away (holding_of h g) refl)
  first_kept (Some (mark.Failed id)) v t unrenamed alive = absurd (alive (inl (ap mark.Failed (sym v))))
  first_kept (Some (mark.Renamed id n)) v t unrenamed alive = absurd (unrenamed n (inl (ap (λ i. mark.Renamed i n) (sym v.0))))
  first_kept (Some (mark.Bad number)) v t unrenamed alive = absurd v
  first_kept (Some mark.Full) v t unrenamed alive = absurd v
  first_kept (Some (mark.Asked key why)) v t unrenamed alive = absurd v
  first_kept (Some (mark.Announced other)) v t unrenamed alive = absurd v
  first_kept (Some (mark.Cut session)) v t unrenamed alive = absurd v

  -- a mark of another group stands behind the first
  later_mark : (o : Option Mark) → IsVerdict h g (held_by_others g.id hs) o → (m : Mark) (group : Group) → In group gs → id_in m ≡ Some group.id → In m (cons_option o marks) → In m marks
  later_mark None v m group k e n = n
  later_mark (Some first) v m group k e (inl same) =
      absurd (numbers.0 group k (some_eq group.id g.id (sym e ∙ ap id_in same ∙ verdict_id h g (held_by_others g.id hs) first v)))
  later_mark (Some first) v m group k e (inr n) = n

  turned_cons : (o : Option Mark) → IsVerdict h g (held_by_others g.id hs) o → ((x : Holding) → In x hs → x.id ≢ g.id → In x (holdings_after g o hs)) → Turned h gs (holdings_after g o hs) marks final →
      Turned h (g ∷ gs) hs (cons_option o marks) final
  turned_cons o v stay t = record {
    apart = t.apart;
    renamed = λ group m n k. by group m n k;
    kept = λ group m unrenamed alive. left group m unrenamed alive;
    others = λ x m off. t.others x (stay x m (off g (inl refl))) (λ group k. off group (inr k));
  }
    where
      by : (group : Group) → In group (g ∷ gs) → (n : ℕ) → In (mark.Renamed group.id n) (cons_option o marks) → In (record { id = group.id; name = numbered_name group n }) final
      by group (inl e) n k = subst (λ (x : Group). In (mark.Renamed x.id n) (cons_option o marks) → In (record { id = x.id; name = numbered_name x n }) final) (sym e) (first_renamed o v t n) k
      by group (inr m) n k = t.renamed group m n (later_mark o v (mark.Renamed group.id n) group m refl k)

      left : (group : Group) → In group (g ∷ gs) → ((n : ℕ) → In (mark.Renamed group.id n) (cons_option o marks) → ⊥) → (In (mark.Failed group.id) (cons_option o marks) → ⊥) → In (holding_of h group) final
      left group (inl e) unrenamed alive =
          subst (λ (x : Group). ((n : ℕ) → In (mark.Renamed x.id n) (cons_option o marks) → ⊥) → (In (mark.Failed x.id) (cons_option o marks) → ⊥) → In (holding_of h x) final) (sym e) (first_kept o v t) unrenamed alive
      left group (inr m) unrenamed alive = t.kept group m (λ n k. unrenamed n (behind_mark o marks (mark.Renamed group.id n) k)) (λ k. alive (behind_mark o marks (mark.Failed group.id) k))

-- Groups of different numbers that hold different names hold different names behind a packet.
pub turned : (heard : Heard) (h : List Entry) (gs : List Group) (hs : List Holding) → HaveNumbers gs → ((group : Group) → In group gs → In (holding_of h group) hs) → AreApart hs → length hs ≤ 2 ^ 63 + 1 →
    (final : List Holding) × Turned h gs hs (marks_in_turn heard h gs hs) final
turned heard h [] hs numbers holds apart few =
    (hs, record { apart = apart; renamed = λ group m n k. absurd m; kept = λ group m a b. absurd m; others = λ x m off. m })
turned heard h (g ∷ gs) hs numbers holds apart few =
    let o : Option Mark = claim_mark heard h g (held_by_others g.id hs) in
    let v : IsVerdict h g (held_by_others g.id hs) o = verdict heard h g (held_by_others g.id hs) in
    let after : List Holding = holdings_after g o hs in
    let within : length after ≤ length hs = few_after g o hs in
    let rest : (final : List Holding) × Turned h gs after (marks_in_turn heard h gs after) final =
    turned heard h gs after numbers.1 (λ group m. kept_other h g (held_by_others g.id hs) o v hs (holding_of h group) (holds group (inr m)) (numbers.0 group m))
    (apart_after h g hs few apart o v) (omega (arith, within, few)) in
    (rest.0, turned_cons h g gs hs numbers holds (marks_in_turn heard h gs after) rest.0 (λ m k. turn_ids heard h gs after m k) o v (kept_other h g (held_by_others g.id hs) o v hs) rest.1)
