-- Names put behind others, and that those which operations ask for are walked.
use Rattle.std.proofs.Common.{◌≡◌, ℕ, ◌+◌, ◌<◌, Bool, true, false, ◌||◌, List, [], ◌∷◌, ◌++◌, map, take, length, get_or, Option, Some, None, refl, ap, subst, ◌∙◌, sym, true≢false}
use Rattle.std.specs.List.{list_any, AllByRecursion}
use Rattle.std.proofs.lemmas.List.{take_more, map-append}
use Rattle.std.proofs.lemmas.List.Folds.{list_any-append}
use Rattle.dns_name.specs.Names.{folded_eq}
use Rattle.dns_name.proofs.Folding.{folded_eq-equivalence}
use Rattle.dns_record.specs.declared.record.Key.{Key}
use Rattle.sd_call.specs.declared.request.Request.{Request}
use Rattle.mdns_history.specs.declared.held.Held.{Held}
use Rattle.mdns_history.specs.declared.operation.Operation.{Operation}
use Rattle.mdns_history.specs.Questions.{keys_of}
use Rattle.mdns_history.specs.Sessions.{Accepted}
use Rattle.mdns_cache.specs.Ended.{is_among}
use Rattle.mdns_cache.specs.Lifetimes.{held_of}
use Rattle.mdns_cache.proofs.ListLemmas.{each-append}
use Rattle.mdns_happened.specs.declared.walk.Walk.{Walk}
use Rattle.mdns_happened.specs.Walks.{is_walked, IsKnown}
use Rattle.sd_sessions.specs.Sessions.{Session}
use Rattle.sd_sessions.specs.Walked.{AreNamed, AreKnown, AreWithin, IsAskedKnown, IsCallNamed, IsCallWalked, IsNamed}

-- a name more
pub within-pushed : (names : List (List (List ℕ))) (more : List (List ℕ)) → AreWithin names (names ++ more ∷ [])
within-pushed names more name h = list_any-append (folded_eq name) names (more ∷ []) ∙ ap (λ b. b || list_any (folded_eq name) (more ∷ [])) h

pub among-pushed : (names : List (List (List ℕ))) (name : List (List ℕ)) → is_among (names ++ name ∷ []) name ≡ true
among-pushed names name =
    list_any-append (folded_eq name) names (name ∷ []) ∙ ap (λ b. list_any (folded_eq name) names || (b || false)) (folded_eq-equivalence.refl name) ∙ last (list_any (folded_eq name) names)
  where
    last : (b : Bool) → (b || true) ≡ true
    last true = refl
    last false = refl

pub each-weaker : {X : Type 0} (P Q : X → Type 0) → ((x : X) → P x → Q x) → (xs : List X) → AllByRecursion P xs → AllByRecursion Q xs
each-weaker P Q gives [] h = tt
each-weaker P Q gives (x ∷ xs) h = (gives x h.0, each-weaker P Q gives xs h.1)

-- one element more, where the names became more
pub each-next : {X : Type 0} (P Q : X → Type 0) → ((x : X) → P x → Q x) → (xs : List X) (i : ℕ) (x : X) → i < length xs → x ≡ get_or xs i x →
    AllByRecursion P (take i xs) → Q x → AllByRecursion Q (take (i + 1) xs)
each-next {X} P Q gives xs i x within is h one =
    subst (AllByRecursion Q) (ap (λ (y : X). take i xs ++ y ∷ []) is ∙ sym (take_more xs i x within))
    (each-append Q (take i xs) (x ∷ []) (each-weaker P Q gives (take i xs) h) (one, tt))

-- one more of a list that is mapped
pub each-map-next : {X Y : Type 0} (f : X → Y) (P Q : Y → Type 0) → ((y : Y) → P y → Q y) → (xs : List X) (i : ℕ) (x : X) → i < length xs → x ≡ get_or xs i x →
    AllByRecursion P (map f (take i xs)) → Q (f x) → AllByRecursion Q (map f (take (i + 1) xs))
each-map-next {X} f P Q gives xs i x within is h one =
    subst (λ (l : List X). AllByRecursion Q (map f l)) (ap (λ (y : X). take i xs ++ y ∷ []) is ∙ sym (take_more xs i x within))
    (subst (AllByRecursion Q) (sym (map-append f (take i xs) (x ∷ []))) (each-append Q (map f (take i xs)) (f x ∷ []) (each-weaker P Q gives (map f (take i xs)) h) (one, tt)))

module _ (touched names more : List (List (List ℕ))) (within : AreWithin names more) where
  pub named-more : (r : Request) → IsNamed touched names r → IsNamed touched more r
  named-more r h =
      each-weaker (λ (key : Key). is_among touched key.name ≡ true → is_among names key.name ≡ true) (λ (key : Key). is_among touched key.name ≡ true → is_among more key.name ≡ true)
      (λ key k e. within key.name (k e)) (keys_of r) h

  pub operations-named-more : (os : List Operation) → AllByRecursion (λ (o : Operation). IsNamed touched names o.request) os → AllByRecursion (λ (o : Operation). IsNamed touched more o.request) os
  operations-named-more os h = each-weaker (λ (o : Operation). IsNamed touched names o.request) (λ (o : Operation). IsNamed touched more o.request) (λ o k. named-more o.request k) os h

  pub sessions-named-more : (ss : List Session) → AreNamed touched names ss → AreNamed touched more ss
  sessions-named-more ss h =
      each-weaker (λ (s : Session). AllByRecursion (λ (o : Operation). IsNamed touched names o.request) s.operations) (λ (s : Session). AllByRecursion (λ (o : Operation). IsNamed touched more o.request) s.operations)
      (λ s k. operations-named-more s.operations k) ss h

-- nothing is asked for of no names
none-touched : (names : List (List (List ℕ))) (keys : List Key) → AllByRecursion (λ (key : Key). is_among [] key.name ≡ true → is_among names key.name ≡ true) keys
none-touched names [] = tt
none-touched names (key ∷ keys) = ((λ e. absurd (true≢false (sym e))), none-touched names keys)

pub none-named : (names : List (List (List ℕ))) (sessions : List Session) → AreNamed [] names sessions
none-named names [] = tt
none-named names (session ∷ sessions) = (each session.operations, none-named names sessions)
  where
    each : (os : List Operation) → AllByRecursion (λ (o : Operation). IsNamed [] names o.request) os
    each [] = tt
    each (o ∷ os) = (none-touched names (keys_of o.request), each os)

-- ---- for whoever walks the names that are put

-- a name among those of the walks was walked
pub walked-among : (walks : List Walk) (name : List (List ℕ)) → is_among (map (λ (walk : Walk). walk.name) walks) name ≡ true → is_walked walks name ≡ true
walked-among walks name h = sym (same walks) ∙ h
  where
    same : (ws : List Walk) → is_among (map (λ (walk : Walk). walk.name) ws) name ≡ is_walked ws name
    same [] = refl
    same (w ∷ ws) = λ i. folded_eq-equivalence.symm name w.name i || same ws i

module _ (held later : List Held) (walks : List Walk) (touched names : List (List (List ℕ))) (walked : map (λ (walk : Walk). walk.name) walks ≡ names)
    (apart : (name : List (List ℕ)) → is_among touched name ≡ false → held_of name later ≡ held_of name held) where
  known_name : (name : List (List ℕ)) → (is_among touched name ≡ true → is_among names name ≡ true) → IsKnown held later walks name
  known_name name named = of (is_among touched name) refl
    where
      of : (b : Bool) → is_among touched name ≡ b → is_walked walks name ≡ false → held_of name later ≡ held_of name held
      of true e none = absurd (true≢false (sym (walked-among walks name (ap (λ (ns : List (List (List ℕ))). is_among ns name) walked ∙ named e)) ∙ none))
      of false e none = apart name e

  known_asked : (r : Request) → IsNamed touched names r → IsAskedKnown held later walks r
  known_asked r h =
      each-weaker (λ (key : Key). is_among touched key.name ≡ true → is_among names key.name ≡ true) (λ (key : Key). IsKnown held later walks key.name) (λ key k. known_name key.name k) (keys_of r) h

  -- Where the touched names that operations ask for are walked, each name that they ask for is known.
  pub named-known : (sessions : List Session) → AreNamed touched names sessions → AreKnown held later walks sessions
  named-known sessions h =
      each-weaker (λ (s : Session). AllByRecursion (λ (o : Operation). IsNamed touched names o.request) s.operations) (λ (s : Session). AllByRecursion (λ (o : Operation). IsAskedKnown held later walks o.request) s.operations)
      (λ s hs. each-weaker (λ (o : Operation). IsNamed touched names o.request) (λ (o : Operation). IsAskedKnown held later walks o.request) (λ o ho. known_asked o.request ho) s.operations hs) sessions h

  -- The names that an accepted call asks for were walked.
  pub call-walked : (call : Option Accepted) → IsCallNamed names call → IsCallWalked walks call
  call-walked None h = tt
  call-walked (Some call) h =
      each-weaker (λ (key : Key). is_among names key.name ≡ true) (λ (key : Key). is_walked walks key.name ≡ true) (λ key k. walked-among walks key.name (ap (λ (ns : List (List (List ℕ))). is_among ns key.name) walked ∙ k)) (keys_of call.request) h
