-- What answers don't depend on. (RFC 6763 4, 5 and 6)
use Rattle.std.specs.Prelude.{◌≡◌, ℕ, ◌↔◌, true, List, [], ◌∷◌, Bool, filter}
use Rattle.std.specs.List.{list_all, AllByRecursion, Contains}
use Rattle.std.specs.List.Sorted.{IsPermutation, IsSorted}
use Rattle.dns_name.specs.Names.{folded_eq}
use Rattle.dns_record.specs.declared.record.Rr.{Rr}
use Rattle.dns_record.specs.declared.record.Key.{Key}
use Rattle.dns_message.specs.Writing.{is_spellable_data}
use Rattle.sd_call.specs.declared.request.Request.{Request}
use Rattle.sd_call.specs.Answers.{answer_cmp}
use Rattle.mdns_history.specs.Questions.{keys_of}
use Rattle.mdns_history.specs.Answers.{answers_over}

-- Records whose data are as the types of the code allow: then data that have the same bytes are the same.
abbrev pub have_data : List Rr → Bool
have_data rrs = list_all (λ rr. is_spellable_data rr.rdata) rrs

-- Records in another order give the same answers.
abbrev pub IsOrderFree : Type 0
IsOrderFree = (request : Request) (one other : List Rr) → have_data one ≡ true → IsPermutation one other → answers_over request one ≡ answers_over request other

-- The same records give the same answers, however often each is there.
abbrev pub IsCountFree : Type 0
IsCountFree = (request : Request) (one other : List Rr) → have_data one ≡ true → ((rr : Rr) → Contains one rr ↔ Contains other rr) → answers_over request one ≡ answers_over request other

-- All questions of a request have one name.
abbrev pub HaveOneName : Type 0
HaveOneName = (request : Request) → (name : List (List ℕ)) × AllByRecursion (λ (key : Key). key.name ≡ name) (keys_of request)

-- The records of that name alone, in their order, give the answers of all.
abbrev pub IsOfItsName : Type 0
IsOfItsName =
    (request : Request) (question : Key) (more : List Key) (rrs : List Rr) → keys_of request ≡ question ∷ more
    → answers_over request (filter (λ (rr : Rr). folded_eq rr.owner question.name) rrs) ≡ answers_over request rrs

-- Of all records those of the name of the first question give the answers of all.
abbrev pub IsOfOneName : Type 0
IsOfOneName =
    (request : Request) (question : Key) (more : List Key) (all collected : List Rr) → keys_of request ≡ question ∷ more → have_data all ≡ true
    → ((rr : Rr) → Contains collected rr ↔ (Contains all rr × (folded_eq question.name rr.owner ≡ true))) → answers_over request collected ≡ answers_over request all

-- A request that asks nothing has no answers.
abbrev pub IsNothingUnasked : Type 0
IsNothingUnasked = (request : Request) (rrs : List Rr) → keys_of request ≡ [] → answers_over request rrs ≡ []

-- Answers are in the order of their bytes.
abbrev pub AreInOrder : Type 0
AreInOrder = (request : Request) (rrs : List Rr) → IsSorted answer_cmp (answers_over request rrs)
