-- An index has each operation under the name that it asks for, so the touched names that are asked for are those that it has.
use Rattle.std.proofs.Common.{◌≡◌, ℕ, ◌+◌, ◌<◌, Bool, true, false, cond, ◌||◌, List, [], ◌∷◌, length, take, get_or, refl, ap, ◌∙◌, sym, arith, true≢false}
use Rattle.std.specs.Prelude.{nat_lt}
use Rattle.std.specs.List.{list_any, AllByRecursion}
use Rattle.std.specs.Str.{bytes_eq}
use Rattle.std.proofs.lemmas.Bool.{or_left, or_right, lt-ltb}
use Rattle.std.proofs.lemmas.List.Folds.{list_any-append}
use Rattle.std.proofs.lemmas.List.Sorted.{list_any-IsPermutation}
use Rattle.std.proofs.lemmas.Slice.Eq.{bytes_eq-Decides}
use Rattle.dns_name.specs.Names.{folded_eq}
use Rattle.dns_name.proofs.Folding.{folded_eq-equivalence}
use Rattle.dns_record.specs.declared.record.Key.{Key}
use Rattle.mdns_history.specs.declared.operation.Operation.{Operation}
use Rattle.mdns_history.specs.Questions.{keys_of}
use Rattle.mdns_cache.specs.Ended.{is_among}
use Rattle.by_name.specs.At.{At, owner_of}
use Rattle.sd_index.specs.declared.asker.Asker.{Asker}
use Rattle.sd_index.specs.Asked.{asker_eq, askers_of, asks, if_asks}
use Rattle.sd_index.proofs.Lists.{asker_self}
use Rattle.sd_sessions.specs.Sessions.{Session}
use Rattle.sd_sessions.specs.Walked.{AreNamed, AreWithin, IsNamed}
use Rattle.sd_sessions.specs.Indexed.{asker_for, asking_of, askers_in, is_asked, AreIndexed, ArePut}
use Rattle.sd_sessions.proofs.Named.{each-weaker}
use Rattle.sd_sessions.proofs.Nexts.{take-next}

module _ (entries : List (At × Asker)) where
  -- whether an operation stands under a name
  abbrev has : List ℕ → Asker → Bool
  has owner one = list_any (asker_eq one) (askers_of owner entries)

  -- an operation stands under each name that it asks for
  abbrev pub IsFiled : Operation → Type 0
  IsFiled operation = (owner : List ℕ) → asks owner operation.request ≡ true → has owner (asker_for operation) ≡ true

  operations-filed : (os : List Operation) → ((owner : List ℕ) (one : Asker) → list_any (asker_eq one) (asking_of owner os) ≡ true → has owner one ≡ true) → AllByRecursion IsFiled os
  operations-filed [] within = tt
  operations-filed (o ∷ os) within = (first, operations-filed os (λ owner one h. within owner one (joined owner one ∙ later (list_any (asker_eq one) (if_asks owner o.request (asker_for o))) h)))
    where
      joined : (owner : List ℕ) (one : Asker) → list_any (asker_eq one) (asking_of owner (o ∷ os)) ≡ (list_any (asker_eq one) (if_asks owner o.request (asker_for o)) || list_any (asker_eq one) (asking_of owner os))
      joined owner one = list_any-append (asker_eq one) (if_asks owner o.request (asker_for o)) (asking_of owner os)

      later : {b : Bool} (a : Bool) → b ≡ true → (a || b) ≡ true
      later {b} a h = or_right a b h

      first : IsFiled o
      first owner asked =
          within owner (asker_for o) (joined owner (asker_for o)
          ∙ or_left (list_any (asker_eq (asker_for o)) (if_asks owner o.request (asker_for o))) (list_any (asker_eq (asker_for o)) (asking_of owner os))
          (ap (λ (b : Bool). list_any (asker_eq (asker_for o)) (cond b (asker_for o ∷ []) [])) asked ∙ or_left (asker_eq (asker_for o) (asker_for o)) false (asker_self (asker_for o))))

  sessions-filed : (ss : List Session) → ((owner : List ℕ) (one : Asker) → list_any (asker_eq one) (askers_in owner ss) ≡ true → has owner one ≡ true) →
      AllByRecursion (λ (s : Session). AllByRecursion IsFiled s.operations) ss
  sessions-filed [] within = tt
  sessions-filed (s ∷ ss) within = (
    operations-filed s.operations (λ owner one h. within owner one (joined owner one ∙ or_left (list_any (asker_eq one) (asking_of owner s.operations)) (list_any (asker_eq one) (askers_in owner ss)) h)),
    sessions-filed ss (λ owner one h. within owner one (joined owner one ∙ or_right (list_any (asker_eq one) (asking_of owner s.operations)) (list_any (asker_eq one) (askers_in owner ss)) h)),
  )
    where
      joined : (owner : List ℕ) (one : Asker) → list_any (asker_eq one) (askers_in owner (s ∷ ss)) ≡ (list_any (asker_eq one) (asking_of owner s.operations) || list_any (asker_eq one) (askers_in owner ss))
      joined owner one = list_any-append (asker_eq one) (asking_of owner s.operations) (askers_in owner ss)

  -- Each operation of the sessions stands under each name that it asks for.
  pub all-filed : (ss : List Session) → AreIndexed entries ss → AllByRecursion (λ (s : Session). AllByRecursion IsFiled s.operations) ss
  all-filed ss are =
      sessions-filed ss (λ owner one h. list_any-IsPermutation (asker_eq one) (askers_of owner entries) (askers_in owner ss) (are owner) ∙ h)

  -- a name under which one stands is asked for
  asked : (one : Asker) (xs : List Asker) → list_any (asker_eq one) xs ≡ true → nat_lt 0 (length xs) ≡ true
  asked one [] h = absurd (true≢false (sym h))
  asked one (x ∷ xs) h = lt-ltb 0 (length (x ∷ xs)) (omega arith)

  module _ (touched names : List (List (List ℕ))) (put : ArePut touched entries names) where
    keys-named : (one : Asker) (keys : List Key) → ((owner : List ℕ) → list_any (λ (key : Key). bytes_eq owner (owner_of key.name)) keys ≡ true → has owner one ≡ true) →
        AllByRecursion (λ (key : Key). is_among touched key.name ≡ true → is_among names key.name ≡ true) keys
    keys-named one [] within = tt
    keys-named one (key ∷ keys) within = (
      λ is. put key.name is (asked one (askers_of (owner_of key.name) entries)
          (within (owner_of key.name) (or_left (bytes_eq (owner_of key.name) (owner_of key.name)) (list_any (λ (k : Key). bytes_eq (owner_of key.name) (owner_of k.name)) keys) ((bytes_eq-Decides (owner_of key.name) (owner_of key.name)).1 refl)))),
      keys-named one keys (λ owner h. within owner (or_right (bytes_eq owner (owner_of key.name)) (list_any (λ (k : Key). bytes_eq owner (owner_of k.name)) keys) h)),
    )

    operation-named : (o : Operation) → IsFiled o → IsNamed touched names o.request
    operation-named o filed = keys-named (asker_for o) (keys_of o.request) filed

    -- The touched names that operations ask for are put where those are put that the index has.
    pub named-indexed : (ss : List Session) → AreIndexed entries ss → AreNamed touched names ss
    named-indexed ss are =
        each-weaker (λ (s : Session). AllByRecursion IsFiled s.operations) (λ (s : Session). AllByRecursion (λ (o : Operation). IsNamed touched names o.request) s.operations)
        (λ s h. each-weaker IsFiled (λ (o : Operation). IsNamed touched names o.request) (λ o k. operation-named o k) s.operations h) ss (all-filed ss are)

-- ---- names put one after the other

-- names that are the same, case aside, are among the same names
among-alike : (one other : List (List ℕ)) → folded_eq one other ≡ true → (names : List (List (List ℕ))) → is_among names one ≡ is_among names other
among-alike one other same [] = refl
among-alike one other same (n ∷ names) = λ i. folded_eq-equivalence.congr one other n same i || among-alike one other same names i

-- and places have them alike
pub owner-alike : (one other : List (List ℕ)) → folded_eq one other ≡ true → owner_of one ≡ owner_of other
unfolding folded_eq
owner-alike one other same = (bytes_eq-Decides (owner_of one) (owner_of other)).0 same

-- one name more, which is put where it is asked for
pub put-next : (touched : List (List (List ℕ))) (i : ℕ) (name : List (List ℕ)) (entries : List (At × Asker)) (names more : List (List (List ℕ))) → i < length touched → name ≡ get_or touched i name →
    AreWithin names more → ArePut (take i touched) entries names → (is_asked entries name ≡ true → is_among more name ≡ true) → ArePut (take (i + 1) touched) entries more
put-next touched i name entries names more inside is within put now other among asks =
    of (is_among (take i touched) other) refl (folded_eq other name) refl (sym (ap (λ (l : List (List (List ℕ))). is_among l other) (take-next touched i name inside is) ∙ list_any-append (folded_eq other) (take i touched) (name ∷ [])) ∙ among)
  where
    of : (b : Bool) → is_among (take i touched) other ≡ b → (a : Bool) → folded_eq other name ≡ a → (b || (a || false)) ≡ true → is_among more other ≡ true
    of true e a f h = within other (put other e asks)
    of false e true f h = among-alike other name f more ∙ now (ap (λ (owner : List ℕ). nat_lt 0 (length (askers_of owner entries))) (sym (owner-alike other name f)) ∙ asks)
    of false e false f h = absurd (cc)
