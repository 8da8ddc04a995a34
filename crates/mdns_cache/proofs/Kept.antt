-- What taking out a record that has ended keeps.
use Rattle.std.proofs.Common.{◌≡◌, ◌^◌, ◌<◌, ◌+◌, ℕ, ◌≤◌, List, [], ◌∷◌, length, Option, Some, None, IsPermutation, refl, sym, ap, subst, ◌∙◌, arith}
use Rattle.std.specs.Prelude.{IfSome, IfNone}
use Rattle.std.specs.List.{IsDistinct}
use Rattle.std.specs.Map.{values_of}
use Rattle.mdns_cache.specs.Ends.{IsPlayed}
use Rattle.std.proofs.lemmas.List.Sorted.{length_permutation}
use Rattle.mdns_history.specs.declared.held.Held.{Held}
use Rattle.mdns_history.specs.Hearings.{Hearing}
use Rattle.mdns_cache.specs.Lifetimes.{Holds, Stands, AllLive, AllHeard, IsFirstEnded}
use Rattle.mdns_cache.proofs.Hearing.{Stands-later, Stands-taken, Holds-from_stands, AllHeard-taken}
use Rattle.mdns_cache.specs.Named.{Entry, AreFiled, AreOnce}
use Rattle.by_name.specs.Filed.{in_layers}
use Rattle.by_name.proofs.Layers.{in_layers-permutes}

pub length-values : (es : List Entry) → length (values_of es) ≡ length es
length-values [] = refl
length-values (e ∷ es) = ap (λ (n : ℕ). Prim.Native.Nat.suc n) (length-values es)

pub held_len : (es : List Entry) → length (in_layers es) ≡ length es
held_len es = sym (length_permutation (in_layers es) (values_of es) (in_layers-permutes es)) ∙ length-values es

pub nothing_held : {X : Type 0} (held : List X) → length held ≡ 0 → held ≡ []
nothing_held [] h = refl
nothing_held (one ∷ held) h = absurd (omega (arith, h))

module _ (old new : List Held) (now : ℕ) where
  pub stands_after : (o : Option Held) → IfNone o ((new ≡ old) × AllLive now old) → IfSome o (IsFirstEnded now old) → IfSome o (λ one. IsPermutation old (one ∷ new)) →
      (heard : List Hearing) (before : ℕ) → before ≤ now → Stands old heard before → Stands new heard now
  stands_after None none first taken heard before earlier stands = subst (λ (l : List Held). Stands l heard now) (sym none.0) (Stands-later old heard before now earlier stands)
  stands_after (Some one) none first taken heard before earlier stands =
      Stands-taken old new one heard now first.ended taken (Stands-later old heard before now earlier stands)

  pub holds_after : (o : Option Held) → IfNone o ((new ≡ old) × AllLive now old) →
      IfNone o ((heard : List Hearing) (before : ℕ) → before ≤ now → Stands old heard before → Holds new heard now)
  holds_after None none = λ heard before earlier stands.
      subst (λ (l : List Held). Holds l heard now) (sym none.0) (Holds-from_stands now old heard none.1 (Stands-later old heard before now earlier stands))
  holds_after (Some one) none = tt

  pub heard_still : (o : Option Held) → IfNone o ((new ≡ old) × AllLive now old) → IfSome o (λ one. IsPermutation old (one ∷ new)) →
      (moment : ℕ) → AllHeard moment old → AllHeard moment new
  heard_still None none taken moment heard = subst (AllHeard moment) (sym none.0) heard
  heard_still (Some one) none taken moment heard = AllHeard-taken moment old new one taken heard

pub if_none : {X : Type 0} (o : Option X) (P Q : Type 0) → (P → Q) → IfNone o P → IfNone o Q
if_none None P Q gives h = gives h
if_none (Some x) P Q gives h = tt

-- where nothing is held yet
pub nothing_yet : (es : List Entry) (spare : ℕ) (nodes : List ℕ) → es ≡ [] → spare ≡ 0 → nodes ≡ [] →
    AreFiled es × AreOnce (values_of es) × IsPlayed (values_of es) [] nodes × (length es + spare ≤ length nodes) × (length nodes < 2 ^ 60)
unfolding IsDistinct
nothing_yet es spare nodes none no_room no_nodes =
    subst (λ (l : List Entry). AreFiled l × AreOnce (values_of l) × IsPlayed (values_of l) [] nodes × (length l + spare ≤ length nodes) × (length nodes < 2 ^ 60)) (sym none)
    (subst (λ (l : List ℕ). AreFiled [] × AreOnce [] × IsPlayed [] [] l × (0 + spare ≤ length l) × (length l < 2 ^ 60)) (sym no_nodes)
    (filed, once, played, omega (arith, no_room), omega arith))
  where
    filed : AreFiled []
    filed = record { distinct = tt; named = tt; gapless = λ owner number some. absurd (Rattle.std.proofs.lemmas.Bool.false≢true some) }

    once : AreOnce []
    once = tt

    played : IsPlayed [] [] []
    played = record { home = λ j low below. absurd (omega arith); won = λ j low below. absurd (omega arith) }
