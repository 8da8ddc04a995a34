-- What is seen of a session's operations around an event, before it and after it.
use Rattle.std.proofs.Common.{◌≡◌, ℕ, ◌<◌, ◌==◌, Bool, true, false, cond, not, ◌&&◌, List, [], ◌∷◌, map, Option, Some, None, refl, ap, subst, ◌∙◌, sym, arith}
use Rattle.std.specs.Prelude.{nat_lt}
use Rattle.std.specs.List.{find, list_all, AllByRecursion}
use Rattle.std.specs.Ordering.{is_lt}
use Rattle.lists.specs.Lists.{insert_by}
use Rattle.dns_record.specs.declared.record.Key.{Key}
use Rattle.dns_record.specs.declared.record.Rr.{Rr}
use Rattle.sd_call.specs.declared.request.Request.{Request}
use Rattle.sd_call.specs.declared.request.Request.TheVariants as request
use Rattle.sd_call.specs.Requests.{with_txt, is_start, is_register}
use Rattle.mdns_history.specs.declared.operation.Operation.{Operation}
use Rattle.mdns_history.specs.Sessions.{Accepted, by_op, has_op, updated, after_request}
use Rattle.mdns_history.specs.Questions.{keys_of}
use Rattle.mdns_history.specs.Answers.{answers_over}
use Rattle.mdns_cache.proofs.ListLemmas.{each-filter}
use Rattle.mdns_happened.specs.declared.around.Around.{Around}
use Rattle.mdns_happened.specs.Registrations.{is_told, AreRegistered}
use Rattle.mdns_happened.specs.Told.{Told}
use Rattle.mdns_happened.specs.Walks.{is_walked, AreWalks, AreOwnWalks, IsKnown}
use Rattle.sd_sessions.specs.Answered.{View, known, answered}
use Rattle.sd_sessions.specs.Sessions.{Session}
use Rattle.sd_sessions.specs.Settling.{left_to}
use Rattle.sd_operations.specs.Operations.{after_own, AreRising}
use Rattle.sd_sessions.specs.Kept.{IsNewIn, HaveRising}
use Rattle.sd_sessions.specs.Walked.{AreBeside, AreKnown, IsAskedKnown, IsBegunTold, IsBeside, IsCallWalked, IsCarried, IsNewSeen, IsSeen, IsSeenOf, IsOwnAlike}

-- where the numbers of operations rise, that of a number is the operation itself
behind : (o : Operation) (os ps : List Operation) → list_all (λ p. nat_lt o.op p.op) ps ≡ true → AllByRecursion (λ p. find (has_op p.op) os ≡ Some p) ps →
    AllByRecursion (λ p. find (has_op p.op) (o ∷ os) ≡ Some p) ps
behind o os [] h found = tt
behind o os (p ∷ ps) h found = of (nat_lt o.op p.op) refl h (λ g. behind o os ps g found.1)
  where
    other : (b : Bool) → (o.op == p.op) ≡ b → o.op < p.op → cond b (Some o) (find (has_op p.op) os) ≡ Some p
    other true e less = let no : ⊥ = grind arith in absurd no
    other false e less = found.0

    of : (b : Bool) → nat_lt o.op p.op ≡ b → (b && list_all (λ q. nat_lt o.op q.op) ps) ≡ true →
        (list_all (λ q. nat_lt o.op q.op) ps ≡ true → AllByRecursion (λ q. find (has_op q.op) (o ∷ os) ≡ Some q) ps) → AllByRecursion (λ q. find (has_op q.op) (o ∷ os) ≡ Some q) (p ∷ ps)
    of true e g rest = let less : o.op < p.op = grind arith in (other (o.op == p.op) refl less, rest g)
    of false e g rest = absurd (cc)

pub found-itself : (os : List Operation) → AreRising os → AllByRecursion (λ o. find (has_op o.op) os ≡ Some o) os
found-itself [] rising = tt
found-itself (o ∷ os) rising = (ap (λ b. cond b (Some o) (find (has_op o.op) os)) itself, behind o os os rising.0 (found-itself os rising.1))
  where
    itself : (o.op == o.op) ≡ true
    itself = grind arith

each : {X : Type 0} (P Q R : X → Type 0) → ((x : X) → P x → Q x → R x) → (xs : List X) → AllByRecursion P xs → AllByRecursion Q xs → AllByRecursion R xs
each P Q R gives [] h k = tt
each P Q R gives (x ∷ xs) h k = (gives x h.0 k.0, each P Q R gives xs h.1 k.1)

module _ (P : Operation → Type 0) where
  pub all-insert : (o : Operation) (os : List Operation) → P o → AllByRecursion P os → AllByRecursion P (insert_by by_op o os)
  all-insert o [] one all = (one, tt)
  all-insert o (p ∷ os) one all = at (is_lt (by_op p o)) (all-insert o os one all.1)
    where
      at : (b : Bool) → AllByRecursion P (insert_by by_op o os) → AllByRecursion P (cond b (p ∷ insert_by by_op o os) (o ∷ p ∷ os))
      at true rest = (all.0, rest)
      at false rest = (one, all)

  pub all-map : (f : Operation → Operation) → ((o : Operation) → P o → P (f o)) → (os : List Operation) → AllByRecursion P os → AllByRecursion P (map f os)
  all-map f keeps [] all = tt
  all-map f keeps (o ∷ os) all = (keeps o all.0, all-map f keeps os all.1)

-- an update changes neither what a request asks nor whether it registers nor its answers
txt_asks : (txt : List ℕ) (r : Request) → keys_of (with_txt txt r) ≡ keys_of r
unfolding keys_of
txt_asks txt (request.Query kind name) = refl
txt_asks txt (request.Browse regtype) = refl
txt_asks txt (request.Resolve label regtype) = refl
txt_asks txt (request.Address families name) = refl
txt_asks txt (request.Register label regtype port norename before) = refl
txt_asks txt (request.Update other) = refl
txt_asks txt request.Stop = refl

txt_registers : (txt : List ℕ) (r : Request) → is_register (with_txt txt r) ≡ is_register r
txt_registers txt (request.Query kind name) = refl
txt_registers txt (request.Browse regtype) = refl
txt_registers txt (request.Resolve label regtype) = refl
txt_registers txt (request.Address families name) = refl
txt_registers txt (request.Register label regtype port norename before) = refl
txt_registers txt (request.Update other) = refl
txt_registers txt request.Stop = refl

txt_answers : (txt : List ℕ) (r : Request) (rrs : List Rr) → answers_over (with_txt txt r) rrs ≡ answers_over r rrs
unfolding answers_over
txt_answers txt (request.Query kind name) rrs = refl
txt_answers txt (request.Browse regtype) rrs = refl
txt_answers txt (request.Resolve label regtype) rrs = refl
txt_answers txt (request.Address families name) rrs = refl
txt_answers txt (request.Register label regtype port norename before) rrs = refl
txt_answers txt (request.Update other) rrs = refl
txt_answers txt request.Stop rrs = refl

pub updated_asks : (op : ℕ) (txt : List ℕ) (o : Operation) → keys_of (updated op txt o).request ≡ keys_of o.request
updated_asks op txt o = of (has_op op o)
  where
    of : (b : Bool) → keys_of (cond b (with_txt txt o.request) o.request) ≡ keys_of o.request
    of true = txt_asks txt o.request
    of false = refl

pub updated_registers : (op : ℕ) (txt : List ℕ) (o : Operation) → is_register (updated op txt o).request ≡ is_register o.request
updated_registers op txt o = of (has_op op o)
  where
    of : (b : Bool) → is_register (cond b (with_txt txt o.request) o.request) ≡ is_register o.request
    of true = txt_registers txt o.request
    of false = refl

updated_answers : (op : ℕ) (txt : List ℕ) (o : Operation) (view : View) → answered view (updated op txt o) ≡ answered view o
updated_answers op txt o view = λ i. cond (updated_registers op txt o i) (view.registered o.session o.op) (over_records i)
  where
    of : (b : Bool) → answers_over (cond b (with_txt txt o.request) o.request) (known view) ≡ answers_over o.request (known view)
    of true = txt_answers txt o.request (known view)
    of false = refl

    over_records : answers_over (updated op txt o).request (known view) ≡ answers_over o.request (known view)
    over_records = of (has_op op o)

module _ (before after : View) (around : Around) (are : AreWalks before.held after.held around.walks.now) (own : AreOwnWalks before.own after.own around.walks.now)
    (told : AreRegistered before.registered after.registered around.registered.now) (operations : List Operation) where
  abbrev Seen : Operation → Type 0
  Seen operation = IsSeenOf before after around operations operation

  -- an operation that was there
  old : (o : Operation) → IsAskedKnown before.held after.held around.walks.now o.request → IsBeside before after around o → find (has_op o.op) operations ≡ Some o → Seen o
  old o asked beside found = record {
    walked = are;
    own = own;
    registered = told;
    known = asked;
    carried = subst (λ (f : Option Operation). IsCarried before after around f o) (sym found) ((λ view. refl), beside);
  }

  -- one that an update changes
  changed : (op : ℕ) (txt : List ℕ) (o : Operation) → Seen o → Seen (updated op txt o)
  changed op txt o seen =
      record {
        walked = are;
        own = own;
        registered = told;
        known = subst (AllByRecursion (λ (key : Key). IsKnown before.held after.held around.walks.now key.name)) (sym (updated_asks op txt o)) seen.known;
        carried = of (find (has_op o.op) operations) seen.carried;
      }
    where
      stays : is_register (updated op txt o).request ≡ true → is_register o.request ≡ true
      stays is = sym (updated_registers op txt o) ∙ is

      beside : IsBeside before after around o → IsBeside before after around (updated op txt o)
      beside is = record {
        own = subst (AllByRecursion (λ (key : Key). IsOwnAlike before after around.walks.now key.name)) (sym (updated_asks op txt o)) is.own;
        registered = λ registers untold. is.registered (stays registers) untold;
      }

      of : (found : Option Operation) → IsCarried before after around found o → IsCarried before after around found (updated op txt o)
      of None new = record {
        walked = subst (AllByRecursion (λ (key : Key). is_walked around.walks.now key.name ≡ true)) (sym (updated_asks op txt o)) new.walked;
        begun = λ registers untold. new.begun (stays registers) untold;
      }
      of (Some one) same = ((λ view. same.0 view ∙ sym (updated_answers op txt o view)), beside same.1)

  -- what was walked is known
  walked_known : (keys : List Key) → AllByRecursion (λ (key : Key). is_walked around.walks.now key.name ≡ true) keys →
      AllByRecursion (λ (key : Key). IsKnown before.held after.held around.walks.now key.name) keys
  walked_known [] walked = tt
  walked_known (key ∷ keys) walked = ((λ none. let no : true ≡ false = sym walked.0 ∙ none in absurd (cc)), walked_known keys walked.1)

  -- one that a call starts
  started : (o : Operation) → IsNewSeen after around o → find (has_op o.op) operations ≡ None → Seen o
  started o new none = record {
    walked = are;
    own = own;
    registered = told;
    known = walked_known (keys_of o.request) new.walked;
    carried = subst (λ (f : Option Operation). IsCarried before after around f o) (sym none) new;
  }

  seen-request : (session op : ℕ) (r : Request) → AllByRecursion (λ (key : Key). is_walked around.walks.now key.name ≡ true) (keys_of r) →
      (is_register r ≡ true → is_told around.registered.now session op ≡ false → after.registered session op ≡ []) → (is_start r ≡ true → find (has_op op) operations ≡ None) →
      AllByRecursion Seen operations → AllByRecursion Seen (after_request session op r operations)
  seen-request session op (request.Query kind name) walked begun new all = all-insert Seen _ operations (started _ (record { walked = walked; begun = begun }) (new refl)) all
  seen-request session op (request.Browse regtype) walked begun new all = all-insert Seen _ operations (started _ (record { walked = walked; begun = begun }) (new refl)) all
  seen-request session op (request.Resolve label regtype) walked begun new all = all-insert Seen _ operations (started _ (record { walked = walked; begun = begun }) (new refl)) all
  seen-request session op (request.Address families name) walked begun new all = all-insert Seen _ operations (started _ (record { walked = walked; begun = begun }) (new refl)) all
  seen-request session op (request.Register label regtype port norename txt) walked begun new all =
      all-insert Seen _ operations (started _ (record { walked = walked; begun = begun }) (new refl)) all
  seen-request session op (request.Update txt) walked begun new all = all-map Seen (updated op txt) (changed op txt) operations all
  seen-request session op request.Stop walked begun new all = each-filter Seen (λ o. not (has_op op o)) operations all

-- all that is told of an operation that was there
abbrev IsBoth : View → View → Around → Operation → Type 0
IsBoth before after around operation = IsAskedKnown before.held after.held around.walks.now operation.request × IsBeside before after around operation

-- What is seen of a session is seen of each operation that an event leaves to it.
pub seen-after : (told : Told) (before after : View) (around : Around) (session : Session) → IsSeen told before after around session →
    AllByRecursion (IsSeenOf before after around session.operations) (left_to told.call session.number session.operations)
seen-after told before after around session seen = of told.call seen.call seen.begun seen.fresh
  where
    both : AllByRecursion (IsBoth before after around) session.operations
    both = each _ _ (IsBoth before after around) (λ o known beside. (known, beside)) session.operations seen.known seen.beside

    own : AllByRecursion (IsSeenOf before after around session.operations) session.operations
    own = each (IsBoth before after around) _ _ (λ o is found. old before after around seen.walked seen.own seen.registered session.operations o is.0 is.1 found) session.operations both (found-itself session.operations seen.rising)

    of : (call : Option Accepted) → IsCallWalked around.walks.now call → IsBegunTold after around call → IsNewIn call session →
        AllByRecursion (IsSeenOf before after around session.operations) (left_to call session.number session.operations)
    of None walked begun new = own
    of (Some call) walked begun new = at (call.session == session.number) refl
      where
        at : (b : Bool) → (call.session == session.number) ≡ b →
            AllByRecursion (IsSeenOf before after around session.operations) (after_own session.number (cond b (Some (record { op = call.op; request = call.request })) None) session.operations)
        at true e =
            let here : call.session ≡ session.number = grind arith in
            let begun_here : is_register call.request ≡ true → is_told around.registered.now session.number call.op ≡ false → after.registered session.number call.op ≡ [] =
            subst (λ (n : ℕ). is_register call.request ≡ true → is_told around.registered.now n call.op ≡ false → after.registered n call.op ≡ []) here begun in
            seen-request before after around seen.walked seen.own seen.registered session.operations session.number call.op call.request walked begun_here (new e) own
        at false e = own

-- Of sessions of which this is known each is seen.
pub all-seen : (told : Told) (before after : View) (around : Around) (sessions : List Session) → AreWalks before.held after.held around.walks.now →
    AreKnown before.held after.held around.walks.now sessions → IsCallWalked around.walks.now told.call → AreBeside told before after around sessions →
    AllByRecursion (IsNewIn told.call) sessions → HaveRising sessions → AllByRecursion (IsSeen told before after around) sessions
all-seen told before after around sessions are known call beside = of sessions known beside.known
  where
    of : (ss : List Session) → AreKnown before.held after.held around.walks.now ss → AllByRecursion (λ (s : Session). AllByRecursion (IsBeside before after around) s.operations) ss →
        AllByRecursion (IsNewIn told.call) ss → HaveRising ss → AllByRecursion (IsSeen told before after around) ss
    of [] known besides new rising = tt
    of (session ∷ ss) known besides new rising = (
      record {
        walked = are;
        own = beside.own;
        registered = beside.registered;
        known = known.0;
        beside = besides.0;
        call = call;
        begun = beside.begun;
        fresh = new.0;
        rising = rising.0;
      },
      of ss known.1 besides.1 new.1 rising.1,
    )
