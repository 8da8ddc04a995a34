-- A call that is accepted: claims can take it in; and where it registers it begins a group, and it is told of that.
use Rattle.std.proofs.Common.{◌≡◌, ℕ, ℤ, ◌^◌, ◌<◌, suc, Bool, true, false, cond, not, ◌||◌, length, List, [], ◌∷◌, ◌++◌, Option, Some, None, refl, ap, subst, ◌∙◌, sym, arith}
use Rattle.std.proofs.lemmas.Bool.{false≢true}
use Rattle.std.specs.Prelude.{nat_le}
use Rattle.std.specs.Ordering.{int_eq}
use Rattle.std.specs.List.{filter_map}
use Rattle.std.specs.Option.{option_map, option_to_list, is_some}
use Rattle.sd_call.specs.declared.request.Request.{Request}
use Rattle.sd_call.specs.declared.request.Request.TheVariants as request
use Rattle.sd_call.specs.Requests.{no_error, invalid, bad_reference, bad_param, unsupported, refused, name_conflict, well_formed, is_register}
use Rattle.mdns_history.specs.declared.event.Event.TheVariants as event
use Rattle.mdns_history.specs.declared.entry.Outcome.TheVariants as outcome
use Rattle.mdns_history.specs.declared.operation.Operation.{Operation}
use Rattle.mdns_history.specs.Outcomes.{most_operations, most_over_life}
use Rattle.mdns_history.specs.Sessions.{Accepted, accepted_call}
use Rattle.sd_sessions.specs.Sessions.{Session}
use Rattle.sd_sessions.specs.Codes.{call_outcome_of}
use Rattle.sd_operations.specs.Codes.{is_running, is_foreign, kept_code}
use Rattle.sd_sessions.specs.Kept.{IsWellFormedCall}
use Rattle.mdns_core.specs.Viewed.{registering}
use Rattle.mdns_history.specs.Groups.{Registration, registration_from}
use Rattle.mdns_happened.specs.declared.around.Registered.{Registered}
use Rattle.mdns_happened.specs.Registrations.{is_told}
use Rattle.mdns_happened.specs.Told.{Told, told_of}
use Rattle.sd_operations.specs.declared.codes.Registering.{Registering}
use Rattle.mdns_probe.specs.Kept.{Kept}
use Rattle.mdns_claims.specs.declared.plan.Plan.{Plan}
use Rattle.mdns_claims.specs.declared.plan.Deed.{Deed}
use Rattle.mdns_claims.specs.declared.plan.Deed.TheVariants.{Nothing, Ticks, Begins, Ends, Changes}
use Rattle.mdns_claims.specs.State.{Contents}
use Rattle.mdns_claims.specs.Later.{begun_by}
use Rattle.mdns_claims.specs.Behind.{Occasion, behind, begun_kept, registration_told, registered_told, groups_told}
use Rattle.mdns_claims.specs.Planned.{IsPlan, IsAcceptable, means_of, kept_by, counted_by}

-- the last element of a list
abbrev last_of : List Kept → Option Kept
last_of [] = None
last_of (one ∷ []) = Some one
last_of (one ∷ other ∷ kept) = last_of (other ∷ kept)

last_behind : (kept : List Kept) (one : Kept) → last_of (kept ++ one ∷ []) ≡ Some one
last_behind [] one = refl
last_behind (first ∷ []) one = refl
last_behind (first ∷ second ∷ kept) one = last_behind (second ∷ kept) one

-- what a call that registers registers
record IsRegistration (session op : ℕ) (r : Request) : Type 0 where
  pub one : Registration
  pub is : registration_from session op r ≡ Some one
  pub session_is : one.session ≡ session
  pub op_is : one.op ≡ op

registration : (session op : ℕ) (r : Request) → is_register r ≡ true → IsRegistration session op r
registration session op (request.Query kind name) h = cc
registration session op (request.Browse regtype) h = cc
registration session op (request.Resolve label regtype) h = cc
registration session op (request.Address families name) h = cc
registration session op (request.Register label regtype port norename txt) h = record { one = _; is = refl; session_is = refl; op_is = refl }
registration session op (request.Update txt) h = cc
registration session op request.Stop h = cc

-- ---- what a call that is accepted asks

abbrev coded : Bool → Bool → Bool → Bool → Bool → ℤ → ℤ
coded used bad formed foreign full rest =
    cond used invalid (cond bad bad_reference (cond (not formed) bad_param (cond foreign unsupported (cond full refused rest))))

-- where registrations are used up none is accepted
refuses : (used bad formed foreign : Bool) (rest : ℤ) → int_eq (coded used bad formed foreign true rest) no_error ≡ false
refuses true bad formed foreign rest = refl
refuses false true formed foreign rest = refl
refuses false false false foreign rest = refl
refuses false false true true rest = refl
refuses false false true false rest = refl

some_left : (registered : ℕ) (s : Bool) → nat_le most_over_life registered ≡ s → (used bad formed foreign more : Bool) (rest : ℤ) →
    int_eq (coded used bad formed foreign (more || s) rest) no_error ≡ true → registered < 2 ^ 63
some_left registered true e used bad formed foreign true rest zero = absurd (false≢true (sym (refuses used bad formed foreign rest) ∙ zero))
some_left registered true e used bad formed foreign false rest zero = absurd (false≢true (sym (refuses used bad formed foreign rest) ∙ zero))
some_left registered false e used bad formed foreign more rest zero = grind (arith, e)

registers_few : (contents : Contents) (session op : ℕ) (r : Request) (ops : List Operation) → int_eq (kept_code (registering contents session op r) ops op r) no_error ≡ true → is_register r ≡ true →
    contents.registered < 2 ^ 63
unfolding kept_code
registers_few contents session op (request.Register label regtype port norename txt) ops zero h =
    let r : Request = request.Register label regtype port norename txt in
    let known : Registering = registering contents session op r in
    some_left contents.registered (nat_le most_over_life contents.registered) refl (is_running op ops) false (well_formed r) (is_foreign known r) (nat_le most_operations (length ops))
    (cond known.taken name_conflict no_error) zero
registers_few contents session op (request.Query kind name) ops zero h = cc
registers_few contents session op (request.Browse regtype) ops zero h = cc
registers_few contents session op (request.Resolve label regtype) ops zero h = cc
registers_few contents session op (request.Address families name) ops zero h = cc
registers_few contents session op (request.Update txt) ops zero h = cc
registers_few contents session op request.Stop ops zero h = cc

-- An accepted call is one that claims can take in.
pub acceptable-call : (contents : Contents) (session op : ℕ) (r : Request) (o : Option Session) →
    IsWellFormedCall (accepted_call (event.Call session op r) (call_outcome_of (registering contents session op r) o op r)) →
    IsAcceptable contents.registered (accepted_call (event.Call session op r) (call_outcome_of (registering contents session op r) o op r))
acceptable-call contents session op r None formed = tt
acceptable-call contents session op r (Some s) formed = of s.cut formed
  where
    code : ℤ
    code = kept_code (registering contents session op r) s.operations op r

    by_code : (b : Bool) → int_eq code no_error ≡ b → IsWellFormedCall (cond b (Some (record { session = session; op = op; request = r })) None) →
        IsAcceptable contents.registered (cond b (Some (record { session = session; op = op; request = r })) None)
    by_code true zero formed = (formed, λ h. registers_few contents session op r s.operations zero h)
    by_code false other formed = tt

    of : (b : Bool) → IsWellFormedCall (accepted_call (event.Call session op r) (cond b outcome.Cut (outcome.Code code))) →
        IsAcceptable contents.registered (accepted_call (event.Call session op r) (cond b outcome.Cut (outcome.Code code)))
    of true formed = tt
    of false formed = by_code (int_eq code no_error) refl formed

-- The same of what is told of a call, where this is known of registrations.
pub acceptable-told : (contents : Contents) (session op : ℕ) (r : Request) (known : Registering) (o : Option Session) (told : Told) → known ≡ registering contents session op r →
    told ≡ told_of (event.Call session op r) (call_outcome_of known o op r) [] → IsWellFormedCall told.call → IsAcceptable contents.registered told.call
acceptable-told contents session op r known o told same is formed =
    let all : told ≡ told_of (event.Call session op r) (call_outcome_of (registering contents session op r) o op r) [] =
    is ∙ ap (λ (k : Registering). told_of (event.Call session op r) (call_outcome_of k o op r) []) same in
    subst (λ (t : Told). IsAcceptable contents.registered t.call) (sym all)
    (acceptable-call contents session op r o (subst (λ (t : Told). IsWellFormedCall t.call) all formed))

-- A plan begins the group of the registration of a session's operation.
pub record Begins_group (deed : Deed) (session op : ℕ) : Type 0 where
  pub one : Kept
  pub begun : begun_by deed ≡ Some one
  pub session_is : one.group.session ≡ session
  pub op_is : one.group.op ≡ op

pub begins-group : (contents : Contents) (at : Occasion) (plan : Plan) → IsPlan contents at plan → (call : Accepted) → at.told.call ≡ Some call → is_register call.request ≡ true →
    Begins_group plan.deed call.session call.op
begins-group contents at plan is call e registers = of plan.deed is.deed.groups is.deed.count
  where
    made : IsRegistration call.session call.op call.request
    made = registration call.session call.op call.request registers

    told : registration_told at.told.call ≡ Some made.one
    told = ap registration_told e ∙ made.is

    counted : registered_told contents.registered at ≡ suc contents.registered
    counted = ap (λ (o : Option Registration). cond (is_some o) (suc contents.registered) contents.registered) told

    no_more : {X : Type 0} (n : ℕ) → n ≡ suc n → X
    no_more n same = absurd (none n same)
      where
        none : (k : ℕ) → k ≡ suc k → ⊥
        none k f = omega (arith, f)

    new : Kept
    new = begun_kept contents.registered contents.kept at made.one

    last_is : last_of (groups_told contents.registered contents.kept at) ≡ Some new
    last_is =
        ap (λ (o : Option Registration). last_of (filter_map (behind at) contents.kept ++ option_to_list (option_map (begun_kept contents.registered contents.kept at) o))) told
        ∙ last_behind (filter_map (behind at) contents.kept) new

    of : (deed : Deed) → kept_by (means_of at) contents.kept deed ≡ groups_told contents.registered contents.kept at → counted_by contents.registered deed ≡ registered_told contents.registered at →
        Begins_group deed call.session call.op
    of Nothing groups count = no_more contents.registered (count ∙ counted)
    of Ticks groups count = no_more contents.registered (count ∙ counted)
    of (Begins one) groups count =
        let same : Some one ≡ Some new = sym (last_behind contents.kept one) ∙ ap last_of groups ∙ last_is in
        let it : one ≡ new = cc in
        record { one = one; begun = refl; session_is = ap (λ (k : Kept). k.group.session) it ∙ made.session_is; op_is = ap (λ (k : Kept). k.group.op) it ∙ made.op_is }
    of Ends groups count = no_more contents.registered (count ∙ counted)
    of (Changes renewals) groups count = no_more contents.registered (count ∙ counted)

-- A registration that a call begins is told, where the group that a deed begins is.
pub begun-told : (contents : Contents) (at : Occasion) (plan : Plan) (deed : Deed) (lines : List Registered) → IsPlan contents at plan → deed ≡ plan.deed →
    ((one : Kept) → begun_by deed ≡ Some one → is_told lines one.group.session one.group.op ≡ true) → (call : Accepted) → at.told.call ≡ Some call → is_register call.request ≡ true →
    is_told lines call.session call.op ≡ true
begun-told contents at plan deed lines is same told call e registers =
    let begins : Begins_group plan.deed call.session call.op = begins-group contents at plan is call e registers in
    (λ i. is_told lines (sym begins.session_is i) (sym begins.op_is i)) ∙ told begins.one (ap begun_by same ∙ begins.begun)
