-- A hearing cuts the lives of a name's records, one number after another.
use Rattle.std.proofs.Common.{◌≡◌, ℕ, zero, suc, ◌+◌, ◌<◌, ◌≤◌, eqb, nat_lt, nat_le, min, Bool, true, false, cond, not, ◌&&◌, ◌||◌, ⊎_elim, List, [], ◌∷◌, ◌++◌, map, filter, Option, Some, None, slice_get, refl, sym, ap, subst, ◌∙◌, arith, true≢false, IsPermutation}
use Rattle.std.specs.Prelude.{IsSome, IfSome}
use Rattle.std.specs.List.{list_any, AllByRecursion, IsDistinct}
use Rattle.std.specs.Str.{bytes_eq}
use Rattle.std.specs.Map.{keys_of, values_of, lookup}
use Rattle.std.proofs.lemmas.Bool.{and_parts, and_from, and_right, or_left, or_right, false_from_ne_true, false≢true, eq-eqb, leb-true, le-leb, lt-leb, cases_eq, cases_lt}
use Rattle.std.proofs.lemmas.List.Elements.{recursion_from_All}
use Rattle.std.proofs.lemmas.Slice.Eq.{bytes_eq-Decides}
use Rattle.std.proofs.lemmas.Map.Made.{is_some-lookup}
use Rattle.std.proofs.lemmas.Map.Views.{All-values_from_lookup}
use Rattle.indexmap.specs.Layout.{set_value_at}
use Rattle.dns_name.specs.Names.{folded_eq, wire_of, folded}
use Rattle.dns_record.specs.declared.record.Rr.{Rr}
use Rattle.dns_record.specs.Records.{same, data_eq, kind_of}
use Rattle.mdns_history.specs.declared.held.Held.{Held}
use Rattle.mdns_history.specs.Hearings.{Hearing}
use Rattle.mdns_history.specs.Lifetimes.{cuts}
use Rattle.by_name.specs.At.{At, at, at_eq, owner_of}
use Rattle.by_name.specs.Filed.{found, HaveNoGap}
use Rattle.by_name.proofs.Finding.{at_same, at_eq-laws, found_below}
use Rattle.mdns_cache.specs.Lifetimes.{shortened}
use Rattle.mdns_cache.specs.Named.{Entry, is_from, AreNamed, AreFiled}

-- what a hearing leaves of an entry, where those of a name from a number on are still to be looked at
abbrev pub to_come : Hearing → List ℕ → ℕ → Entry → Held
to_come hearing owner number e = cond (is_from owner number e) (shortened hearing e.1) e.1

-- ---- records of other names

uncut_is : (hearing : Hearing) (one : Held) → cuts one.rr one.heard hearing ≡ false → shortened hearing one ≡ one
uncut_is hearing one uncut = ap (λ (b : Bool). record { rr = one.rr; heard = one.heard; word = one.word; end = cond b (min (hearing.moment + 1000) one.end) one.end }) uncut

-- a record of another name is left as it is
other_left : (hearing : Hearing) (one : Held) → folded_eq one.rr.owner hearing.rr.owner ≡ false → shortened hearing one ≡ one
unfolding same
other_left hearing one apart = uncut_is hearing one (ap (λ (b : Bool). (b && data_eq one.rr.rdata hearing.rr.rdata && eqb hearing.rr.ttl 0) || (hearing.rr.flush && b && eqb (kind_of one.rr.rdata) (kind_of hearing.rr.rdata) && nat_lt (one.heard + 1000) hearing.moment)) apart
    ∙ none hearing.rr.flush)
  where
    none : (f : Bool) → (f && false && eqb (kind_of one.rr.rdata) (kind_of hearing.rr.rdata) && nat_lt (one.heard + 1000) hearing.moment) ≡ false
    none true = refl
    none false = refl

pub names_apart : (one other : List (List ℕ)) → bytes_eq (owner_of other) (owner_of one) ≡ false → folded_eq one other ≡ false
unfolding folded_eq
names_apart one other apart =
    false_from_ne_true (bytes_eq (wire_of (folded one)) (wire_of (folded other)))
    (λ e. true≢false (sym ((bytes_eq-Decides (owner_of other) (owner_of one)).1 (sym ((bytes_eq-Decides (wire_of (folded one)) (wire_of (folded other))).0 e))) ∙ apart))

-- at first all of the name are to come, and so the whole hearing is
pub all_to_come : (hearing : Hearing) (es : List Entry) → AreNamed es → map (to_come hearing (owner_of hearing.rr.owner) 0) es ≡ map (shortened hearing) (values_of es)
all_to_come hearing [] named = refl
all_to_come hearing (e ∷ es) named = λ i. of (bytes_eq (owner_of hearing.rr.owner) e.0.owner) refl i ∷ all_to_come hearing es named.1 i
  where
    of : (b : Bool) → bytes_eq (owner_of hearing.rr.owner) e.0.owner ≡ b → cond (b && nat_le 0 e.0.number) (shortened hearing e.1) e.1 ≡ shortened hearing e.1
    of true q = ap (λ (c : Bool). cond c (shortened hearing e.1) e.1) (le-leb 0 e.0.number (omega arith))
    of false q = sym (other_left hearing e.1 (names_apart e.1.rr.owner hearing.rr.owner (ap (bytes_eq (owner_of hearing.rr.owner)) (sym named.0) ∙ q)))

-- ---- the turns of the loop

here_to_come : (hearing : Hearing) (owner : List ℕ) (number : ℕ) (one : Held) → to_come hearing owner number (at owner number, one) ≡ shortened hearing one
here_to_come hearing owner number one =
    ap (λ (b : Bool). cond b (shortened hearing one) one) (and_from (bytes_eq owner owner) (nat_le number number) ((bytes_eq-Decides owner owner).1 refl) (le-leb number number (omega arith)))

past_to_come : (hearing : Hearing) (owner : List ℕ) (number : ℕ) (one : Held) → to_come hearing owner (number + 1) (at owner number, one) ≡ one
past_to_come hearing owner number one =
    ap (λ (b : Bool). cond b (shortened hearing one) one) (and_right (bytes_eq owner owner) (nat_le (number + 1) number) (lt-leb (number + 1) number (omega arith)))

-- other entries are looked at after a turn as before it
others_to_come : (hearing : Hearing) (owner : List ℕ) (number : ℕ) (e : Entry) → at_eq (at owner number) e.0 ≡ false → to_come hearing owner (number + 1) e ≡ to_come hearing owner number e
others_to_come hearing owner number e apart = ap (λ (b : Bool). cond b (shortened hearing e.1) e.1) (of (bytes_eq owner e.0.owner) apart)
  where
    of : (b : Bool) → (b && eqb number e.0.number) ≡ false → (b && nat_le (number + 1) e.0.number) ≡ (b && nat_le number e.0.number)
    of false h = refl
    of true h =
        ⊎_elim (λ less. le-leb (number + 1) e.0.number (omega (arith, less)) ∙ sym (le-leb number e.0.number (omega (arith, less))))
        (λ past. ⊎_elim (λ q. absurd (true≢false (sym (eq-eqb number e.0.number q) ∙ h)))
        (λ other. lt-leb (number + 1) e.0.number (omega (arith, past)) ∙ sym (lt-leb number e.0.number (omega (arith, past, other)))) (cases_eq number e.0.number))
        (cases_lt number e.0.number)

-- a value put at a key, seen by one function before and by another after
put_seen : (f g : Entry → Held) (es : List Entry) (i : ℕ) (k : At) (one new : Held) → slice_get es i ≡ Some (k, one) → IsDistinct at_eq (keys_of es) →
    f (k, new) ≡ g (k, one) → ((e : Entry) → at_eq k e.0 ≡ false → f e ≡ g e) → map f (set_value_at es i new) ≡ map g es
unfolding IsDistinct
put_seen f g [] i k one new h distinct here there = absurd (cc)
put_seen f g (e ∷ es) zero k one new h distinct here there =
    (λ i. ((ap (λ (x : Entry). f (x.0, new)) same ∙ here ∙ ap g (sym same)) i) ∷ rest es (subst (λ (x : Entry). AllByRecursion (λ (y : At). at_eq x.0 y ≡ false) (keys_of es)) same distinct.0) i)
  where
    same : e ≡ (k, one)
    same = cc

    rest : (xs : List Entry) → AllByRecursion (λ (y : At). at_eq k y ≡ false) (keys_of xs) → map f xs ≡ map g xs
    rest [] d = refl
    rest (x ∷ xs) d = λ i. there x d.0 i ∷ rest xs d.1 i
put_seen f g (e ∷ es) (suc i) k one new h distinct here there =
    (λ j. there e (at_eq-laws.symm k e.0 ∙ apart es i h distinct.0) j ∷ put_seen f g es i k one new h distinct.1 here there j)
  where
    apart : (xs : List Entry) (n : ℕ) → slice_get xs n ≡ Some (k, one) → AllByRecursion (λ (y : At). at_eq e.0 y ≡ false) (keys_of xs) → at_eq e.0 k ≡ false
    apart [] n q d = absurd (cc)
    apart (x ∷ xs) zero q d = let same : x ≡ (k, one) = cc in subst (λ (y : Entry). at_eq e.0 y.0 ≡ false) same d.0
    apart (x ∷ xs) (suc n) q d = apart xs n q d.1

-- one turn
pub turn : (hearing : Hearing) (owner : List ℕ) (number i : ℕ) (one : Held) (es : List Entry) → slice_get es i ≡ Some (at owner number, one) → IsDistinct at_eq (keys_of es) →
    map (to_come hearing owner (number + 1)) (set_value_at es i (shortened hearing one)) ≡ map (to_come hearing owner number) es
turn hearing owner number i one es there distinct =
    put_seen (to_come hearing owner (number + 1)) (to_come hearing owner number) es i (at owner number) one (shortened hearing one) there distinct
    (past_to_come hearing owner number (shortened hearing one) ∙ sym (here_to_come hearing owner number one))
    (others_to_come hearing owner number)

no : (o : Option Held) → o ≡ None → IsSome o → ⊥
no None e h = false≢true h
no (Some x) e h = cc

-- at last none is to come
pub none_to_come : (hearing : Hearing) (owner : List ℕ) (number : ℕ) (es : List Entry) → HaveNoGap es → found owner number es ≡ None → map (to_come hearing owner number) es ≡ values_of es
none_to_come hearing owner number es gapless none = all es (λ e there. there)
  where
    -- an entry that is there isn't of the name from the number on
    past : (k : At) → IsSome (lookup (at_eq k) es) → (bytes_eq owner k.owner && nat_le number k.number) ≡ false
    past k some =
        false_from_ne_true (bytes_eq owner k.owner && nat_le number k.number)
        (λ e.
        let parts = and_parts (bytes_eq owner k.owner) (nat_le number k.number) e in
        let same : k ≡ at owner k.number = (λ i. record { owner = sym ((bytes_eq-Decides owner k.owner).0 parts.0) i; number = k.number }) in
        no (found owner number es) none (found_below es gapless owner k.number number (leb-true number k.number parts.1) (subst (λ (q : At). IsSome (lookup (at_eq q) es)) same some)))

    all : (xs : List Entry) → ((k : At) → list_any (at_eq k) (keys_of xs) ≡ true → list_any (at_eq k) (keys_of es) ≡ true) → map (to_come hearing owner number) xs ≡ values_of xs
    all [] within = refl
    all (x ∷ xs) within =
        (λ i. ap (λ (b : Bool). cond b (shortened hearing x.1) x.1) (past x.0 (is_some-lookup (at_eq x.0) es ∙ within x.0 (or_left (at_eq x.0 x.0) (list_any (at_eq x.0) (keys_of xs)) (at_eq-laws.refl x.0)))) i
        ∷ all xs (λ k e. within k (or_right (at_eq k x.0) (list_any (at_eq k) (keys_of xs)) e)) i)

-- ---- the whole hearing

-- neither a goodbye nor a flush: nothing is cut
pub nothing_cut : (hearing : Hearing) → 0 < hearing.rr.ttl → hearing.rr.flush ≡ false → (held : List Held) → map (shortened hearing) held ≡ held
nothing_cut hearing positive still [] = refl
nothing_cut hearing positive still (one ∷ held) = λ i. uncut_is hearing one uncut i ∷ nothing_cut hearing positive still held i
  where
    zero_ttl : eqb hearing.rr.ttl 0 ≡ false
    zero_ttl = false_from_ne_true (eqb hearing.rr.ttl 0) (λ e. let z = Rattle.std.proofs.lemmas.Bool.eqb-true hearing.rr.ttl 0 e in absurd (omega arith))

    back : (a : Bool) → (a && false) ≡ false
    back true = refl
    back false = refl

    uncut : cuts one.rr one.heard hearing ≡ false
    uncut =
        (λ i. (same one.rr hearing.rr && zero_ttl i) || (still i && folded_eq one.rr.owner hearing.rr.owner && eqb (kind_of one.rr.rdata) (kind_of hearing.rr.rdata) && nat_lt (one.heard + 1000) hearing.moment))
        ∙ ap (λ (b : Bool). b || false) (back (same one.rr hearing.rr))

-- ---- no record is the same

owners_apart : (one other : Rr) → folded_eq one.owner other.owner ≡ false → same one other ≡ false
unfolding same
owners_apart one other apart = ap (λ (b : Bool). b && data_eq one.rdata other.rdata) apart

-- the owner of a record that is found is the place's
named_there : (xs : List Entry) → AreNamed xs → (q : At) (one : Held) → lookup (at_eq q) xs ≡ Some one → q.owner ≡ owner_of one.rr.owner
named_there [] h q one e = absurd (cc)
named_there (x ∷ xs) h q one e = here (named_there xs h.1 q one) (at_eq q x.0) refl e
  where
    here : (lookup (at_eq q) xs ≡ Some one → q.owner ≡ owner_of one.rr.owner) → (b : Bool) → at_eq q x.0 ≡ b → cond b (Some x.1) (lookup (at_eq q) xs) ≡ Some one → q.owner ≡ owner_of one.rr.owner
    here ih true f g = ap (λ (k : At). k.owner) (at_same q x.0 f) ∙ h.0 ∙ ap (λ (y : Held). owner_of y.rr.owner) (let s : x.1 ≡ one = cc in s)
    here ih false f g = ih g

-- where none of a name is the same, none is
pub all_apart : (rr : Rr) (number : ℕ) (es : List Entry) → AreFiled es → found (owner_of rr.owner) number es ≡ None →
    ((m : ℕ) (one : Held) → m < number → found (owner_of rr.owner) m es ≡ Some one → same one.rr rr ≡ false) → AllByRecursion (λ (one : Held). same one.rr rr ≡ false) (values_of es)
all_apart rr number es filed none apart =
    recursion_from_All (λ (one : Held). same one.rr rr ≡ false) (values_of es)
    (All-values_from_lookup at_eq-laws (λ (one : Held). same one.rr rr ≡ false) es filed.distinct (λ q. of q (lookup (at_eq q) es) refl))
  where
    owner : List ℕ
    owner = owner_of rr.owner

    of : (q : At) (o : Option Held) → lookup (at_eq q) es ≡ o → IfSome o (λ (one : Held). same one.rr rr ≡ false)
    of q None e = tt
    of q (Some one) e = at_owner (bytes_eq owner q.owner) refl
      where
        at_owner : (b : Bool) → bytes_eq owner q.owner ≡ b → same one.rr rr ≡ false
        at_owner false f = owners_apart one.rr rr (names_apart one.rr.owner rr.owner (ap (bytes_eq owner) (sym (named_there es filed.named q one e)) ∙ f))
        at_owner true f =
            let is : q ≡ at owner q.number = (λ i. record { owner = sym ((bytes_eq-Decides owner q.owner).0 f) i; number = q.number }) in
            let there : found owner q.number es ≡ Some one = subst (λ (k : At). lookup (at_eq k) es ≡ Some one) is e in
            ⊎_elim (λ less. apart q.number one less there)
            (λ past. absurd (no (found owner number es) none (found_below es filed.gapless owner q.number number past (ap Rattle.std.proofs.Common.is_some there))))
            (cases_lt q.number number)
