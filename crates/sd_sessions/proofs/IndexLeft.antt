-- Who asks for a name of the sessions that an event leaves.
use Rattle.std.proofs.Common.{◌≡◌, ℕ, ◌==◌, Bool, true, false, cond, not, ◌&&◌, List, [], ◌∷◌, ◌++◌, map, drop, Option, Some, None, IsPermutation, refl, ap, subst, ◌∙◌, sym, arith, append-nil}
use Rattle.std.specs.Prelude.{filter, nat_lt}
use Rattle.std.specs.List.{find, list_all}
use Rattle.std.proofs.lemmas.List.Concat.{flat_map-append}
use Rattle.std.proofs.lemmas.List.Sorted.{IsPermutation-sym, IsPermutation-trans}
use Rattle.mdns_history.specs.Sessions.{Accepted, after_request, is_number}
use Rattle.mdns_happened.specs.Told.{Told, Taking}
use Rattle.sd_index.specs.declared.asker.Asker.{Asker}
use Rattle.sd_sessions.specs.Answered.{Answering}
use Rattle.sd_sessions.specs.Codes.{has_number}
use Rattle.sd_sessions.specs.Sessions.{Session}
use Rattle.sd_sessions.specs.Settling.{change_told, all_settled, opened_session, remaining_but, with_opened, shifted_told, taken_from, sessions_told}
use Rattle.sd_operations.specs.Operations.{after_own}
use Rattle.sd_sessions.specs.Kept.{numbers_of, IsRising}
use Rattle.sd_sessions.specs.Indexed.{asking_of, askers_by, askers_in, askers_after, left_by}
use Rattle.sd_sessions.proofs.Asking.{RiseBy, all-others, split-off, passes-found}

-- ---- what an event leaves

taken : (owner : List ℕ) (number max : ℕ) (ss : List Session) → askers_in owner (taken_from number max ss) ≡ askers_in owner ss
taken owner number max [] = refl
taken owner number max (s ∷ ss) = of (s.number == number) (taken owner number max ss)
  where
    of : (b : Bool) → askers_in owner (taken_from number max ss) ≡ askers_in owner ss →
        askers_in owner (cond b (record s { queue = drop max s.queue } ∷ ss) (s ∷ taken_from number max ss)) ≡ asking_of owner s.operations ++ askers_in owner ss
    of true ih = refl
    of false ih = ap (λ (l : List Asker). asking_of owner s.operations ++ l) ih

handed : (owner : List ℕ) (taking : Option Taking) (ss : List Session) → askers_in owner (sessions_told taking ss) ≡ askers_in owner ss
handed owner None ss = refl
handed owner (Some taking) ss = taken owner taking.session taking.max ss

opened : (owner : List ℕ) (o : Option ℕ) (ss : List Session) → askers_in owner (with_opened o ss) ≡ askers_in owner ss
opened owner None ss = refl
opened owner (Some n) ss = flat_map-append (λ (s : Session). asking_of owner s.operations) ss (opened_session n ∷ []) ∙ append-nil (askers_in owner ss)

settled : (told : Told) (earlier later : Answering) (owner : List ℕ) (ss : List Session) →
    askers_in owner (remaining_but told.detached (all_settled ss (map (change_told told earlier later) ss))) ≡ askers_after told owner ss
settled told earlier later owner [] = refl
settled told earlier later owner (s ∷ ss) = of (not (is_number s.number told.detached)) (settled told earlier later owner ss)
  where
    Left : List Session
    Left = remaining_but told.detached (all_settled ss (map (change_told told earlier later) ss))

    of : (b : Bool) → askers_in owner Left ≡ askers_after told owner ss →
        askers_in owner (cond b (Rattle.sd_sessions.specs.Settling.settled s (change_told told earlier later s) ∷ Left) Left) ≡ askers_by (left_by told.call) owner (cond b (s ∷ remaining_but told.detached ss) (remaining_but told.detached ss))
    of true ih = ap (λ (l : List Asker). asking_of owner (left_by told.call s) ++ l) ih
    of false ih = ih

-- Who asks for a name of the sessions that are left is told by those that were there.
pub askers-left : (told : Told) (earlier later : Answering) (owner : List ℕ) (ss : List Session) →
    askers_in owner (sessions_told told.taking (shifted_told told ss (map (change_told told earlier later) ss))) ≡ askers_after told owner ss
askers-left told earlier later owner ss =
    handed owner told.taking (shifted_told told ss (map (change_told told earlier later) ss))
    ∙ opened owner told.opened (remaining_but told.detached (all_settled ss (map (change_told told earlier later) ss)))
    ∙ settled told earlier later owner ss

-- where none is detached all are left
pub none-detached : (ss : List Session) → remaining_but None ss ≡ ss
none-detached [] = refl
none-detached (s ∷ ss) = ap (λ (l : List Session). s ∷ l) (none-detached ss)

-- what calls nothing and ends no session changes nothing that is asked
pub idle-left : (told : Told) (owner : List ℕ) (ss : List Session) → told.call ≡ None → told.detached ≡ None → askers_after told owner ss ≡ askers_in owner ss
idle-left told owner ss uncalled undetached = (λ i. askers_by (left_by (uncalled i)) owner (remaining_but (undetached i) ss)) ∙ ap (askers_in owner) (none-detached ss)

-- a call alone
pub call-left : (told : Told) (call : Accepted) (owner : List ℕ) (ss : List Session) → told.call ≡ Some call → told.detached ≡ None → askers_after told owner ss ≡ askers_by (left_by (Some call)) owner ss
call-left told call owner ss called_so undetached =
    (λ i. askers_by (left_by (called_so i)) owner (remaining_but (undetached i) ss)) ∙ ap (askers_by (left_by (Some call)) owner) (none-detached ss)

-- ---- a call, or an end of a session

rise : {Y : Type 0} (f : Session → List Y) (ss : List Session) → IsRising (numbers_of ss) → RiseBy (λ (s : Session). s.number) f ss
rise f [] rising = tt
rise f (s ∷ ss) rising = (sym (same ss) ∙ rising.0, rise f ss rising.1)
  where
    same : (xs : List Session) → list_all (nat_lt s.number) (numbers_of xs) ≡ list_all (λ (x : Session). nat_lt s.number x.number) xs
    same [] = refl
    same (x ∷ xs) = ap (λ (b : Bool). nat_lt s.number x.number && b) (same xs)

-- the sessions of other numbers are not called
called-others : (call : Accepted) (owner : List ℕ) (ss : List Session) →
    askers_by (left_by (Some call)) owner (filter (λ (s : Session). not (s.number == call.session)) ss) ≡ askers_in owner (filter (λ (s : Session). not (s.number == call.session)) ss)
called-others call owner [] = refl
called-others call owner (s ∷ ss) = of (s.number == call.session) refl (called-others call owner ss)
  where
    Others : List Session
    Others = filter (λ (x : Session). not (x.number == call.session)) ss

    of : (b : Bool) → (s.number == call.session) ≡ b → askers_by (left_by (Some call)) owner Others ≡ askers_in owner Others →
        askers_by (left_by (Some call)) owner (cond (not b) (s ∷ Others) Others) ≡ askers_in owner (cond (not b) (s ∷ Others) Others)
    of true e ih = ih
    of false e ih =
        let apart : (call.session == s.number) ≡ false = grind arith in
        λ i. asking_of owner (after_own s.number (cond (apart i) (Some (record { op = call.op; request = call.request })) None) s.operations) ++ ih i

-- A call is carried over from the operations of its session to all sessions.
pub call-filed : (call : Accepted) (owner : List ℕ) (ss : List Session) (s : Session) (before after : List Asker) → IsRising (numbers_of ss) → find (has_number call.session) ss ≡ Some s →
    ((rest : List Asker) → IsPermutation before (asking_of owner s.operations ++ rest) → IsPermutation after (asking_of owner (after_request call.session call.op call.request s.operations) ++ rest)) →
    IsPermutation before (askers_in owner ss) → IsPermutation after (askers_by (left_by (Some call)) owner ss)
call-filed call owner ss s before after rising found files h =
    IsPermutation-trans after (asking_of owner (left_by (Some call) s) ++ askers_by (left_by (Some call)) owner Others) (askers_by (left_by (Some call)) owner ss)
    (subst (λ (l : List Asker). IsPermutation after l) (λ i. asking_of owner (sym left i) ++ sym (called-others call owner ss) i)
    (files (askers_in owner Others) (IsPermutation-trans before (askers_in owner ss) (asking_of owner s.operations ++ askers_in owner Others) h
    (split-off (λ (x : Session). x.number) (λ (x : Session). asking_of owner x.operations) call.session ss s (rise (λ (x : Session). asking_of owner x.operations) ss rising) found))))
    (IsPermutation-sym _ _ (split-off (λ (x : Session). x.number) (λ (x : Session). asking_of owner (left_by (Some call) x)) call.session ss s (rise (λ (x : Session). asking_of owner (left_by (Some call) x)) ss rising) found))
  where
    Others : List Session
    Others = filter (λ (x : Session). not (x.number == call.session)) ss

    here : (s.number == call.session) ≡ true
    here = passes-found (has_number call.session) ss s found

    is : s.number ≡ call.session
    is = grind (arith, here)

    turned : (call.session == s.number) ≡ true
    turned = grind (arith, here)

    left : left_by (Some call) s ≡ after_request call.session call.op call.request s.operations
    left =
        ap (λ (b : Bool). after_own s.number (cond b (Some (record { op = call.op; request = call.request })) None) s.operations) turned
        ∙ ap (λ (n : ℕ). after_request n call.op call.request s.operations) is

-- where no session has the number of a call nothing changes
pub call-missed : (call : Accepted) (owner : List ℕ) (ss : List Session) → find (has_number call.session) ss ≡ None → askers_by (left_by (Some call)) owner ss ≡ askers_in owner ss
call-missed call owner ss none =
    let all : filter (λ (x : Session). not (x.number == call.session)) ss ≡ ss = all-others (λ (x : Session). x.number) (λ (x : Session). asking_of owner x.operations) call.session ss none in
    ap (askers_by (left_by (Some call)) owner) (sym all) ∙ called-others call owner ss ∙ ap (askers_in owner) all

-- the sessions that are left where one is ended
left-others : (n : ℕ) (ss : List Session) → filter (λ (x : Session). not (x.number == n)) ss ≡ remaining_but (Some n) ss
left-others n [] = refl
left-others n (s ∷ ss) =
    let same : (s.number == n) ≡ (n == s.number) = turned s.number n in
    λ i. cond (not (same i)) (s ∷ left-others n ss i) (left-others n ss i)
  where
    turned : (a b : ℕ) → (a == b) ≡ (b == a)
    turned a b = grind arith

-- Where a session is ended its operations are taken out.
pub end-filed : (n : ℕ) (owner : List ℕ) (ss : List Session) (s : Session) (before after : List Asker) → IsRising (numbers_of ss) → find (has_number n) ss ≡ Some s →
    ((rest : List Asker) → IsPermutation before (asking_of owner s.operations ++ rest) → IsPermutation after rest) →
    IsPermutation before (askers_in owner ss) → IsPermutation after (askers_in owner (remaining_but (Some n) ss))
end-filed n owner ss s before after rising found takes h =
    subst (λ (l : List Session). IsPermutation after (askers_in owner l)) (left-others n ss)
    (takes (askers_in owner (filter (λ (x : Session). not (x.number == n)) ss)) (IsPermutation-trans before (askers_in owner ss) _ h
    (split-off (λ (x : Session). x.number) (λ (x : Session). asking_of owner x.operations) n ss s (rise (λ (x : Session). asking_of owner x.operations) ss rising) found)))

pub end-missed : (n : ℕ) (ss : List Session) → find (has_number n) ss ≡ None → remaining_but (Some n) ss ≡ ss
end-missed n ss none = sym (left-others n ss) ∙ all-others {Y = Asker} (λ (x : Session). x.number) (λ (x : Session). []) n ss none
