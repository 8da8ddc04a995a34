-- All questions of a request have one name, so what it asks for is told by the first.
use Rattle.std.proofs.Common.{◌≡◌, ℕ, Bool, true, false, ◌||◌, List, [], ◌∷◌, Some, slice_get, refl, sym, ap, subst, ◌∙◌}
use Rattle.std.specs.List.{list_any, AllByRecursion}
use Rattle.std.specs.Str.{bytes_eq}
use Rattle.dns_record.specs.declared.record.Key.{Key}
use Rattle.sd_call.specs.declared.request.Request.{Request}
use Rattle.mdns_history.specs.Questions.{keys_of}
use Rattle.sd_answer.proofs.Members.{one_name}
use Rattle.by_name.specs.At.{owner_of}
use Rattle.sd_index.specs.Asked.{asks}

asks_one : (owner : List ℕ) (name : List (List ℕ)) (key : Key) (more : List Key) → AllByRecursion (λ (k : Key). k.name ≡ name) (key ∷ more) →
    list_any (λ (k : Key). bytes_eq owner (owner_of k.name)) (key ∷ more) ≡ bytes_eq owner (owner_of name)
asks_one owner name key [] h = ap (λ (n : List (List ℕ)). bytes_eq owner (owner_of n) || false) h.0 ∙ or_false (bytes_eq owner (owner_of name))
  where
    or_false : (b : Bool) → (b || false) ≡ b
    or_false true = refl
    or_false false = refl
asks_one owner name key (next ∷ more) h =
    (λ i. bytes_eq owner (owner_of (h.0 i)) || asks_one owner name next more h.1 i) ∙ twice (bytes_eq owner (owner_of name))
  where
    twice : (b : Bool) → (b || b) ≡ b
    twice true = refl
    twice false = refl

pub asks_first : (owner : List ℕ) (request : Request) (key : Key) (more : List Key) → keys_of request ≡ key ∷ more → asks owner request ≡ bytes_eq owner (owner_of key.name)
asks_first owner request key more are =
    let n = one_name request in
    let all : AllByRecursion (λ (k : Key). k.name ≡ n.0) (key ∷ more) = subst (AllByRecursion (λ (k : Key). k.name ≡ n.0)) are n.1 in
    ap (list_any (λ (k : Key). bytes_eq owner (owner_of k.name))) are ∙ asks_one owner n.0 key more all ∙ ap (λ (m : List (List ℕ)). bytes_eq owner (owner_of m)) (sym all.0)

pub asks_by : (owner : List ℕ) (request : Request) (key : Key) → slice_get (keys_of request) 0 ≡ Some key → asks owner request ≡ bytes_eq owner (owner_of key.name)
asks_by owner request key first = of (keys_of request) refl first
  where
    of : (keys : List Key) → keys_of request ≡ keys → slice_get keys 0 ≡ Some key → asks owner request ≡ bytes_eq owner (owner_of key.name)
    of [] e h = absurd (cc)
    of (x ∷ more) e h = let same : x ≡ key = cc in asks_first owner request x more e ∙ ap (λ (k : Key). bytes_eq owner (owner_of k.name)) same
