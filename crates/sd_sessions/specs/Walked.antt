-- Which names of records an event is looked at by, for the operations of sessions.
use Rattle.std.specs.Prelude.{◌≡◌, ℕ, true, false, List, [], ◌∷◌, ◌++◌, Option, Some, None}
use Rattle.std.specs.List.{find, AllByRecursion}
use Rattle.std.specs.List.Sorted.{IsSorted}
use Rattle.dns_record.specs.declared.record.Key.{Key}
use Rattle.sd_call.specs.declared.answer.Answer.{Answer}
use Rattle.sd_call.specs.declared.request.Request.{Request}
use Rattle.sd_call.specs.Answers.{answer_cmp}
use Rattle.sd_call.specs.Requests.{is_register}
use Rattle.sd_answer.specs.Known.{rrs_of}
use Rattle.mdns_history.specs.Answers.{answers_over}
use Rattle.mdns_history.specs.declared.held.Held.{Held}
use Rattle.mdns_history.specs.declared.operation.Operation.{Operation}
use Rattle.mdns_history.specs.Questions.{keys_of}
use Rattle.mdns_history.specs.Sessions.{Accepted, has_op}
use Rattle.mdns_cache.specs.Ended.{is_among}
use Rattle.mdns_cache.specs.Lifetimes.{held_of}
use Rattle.mdns_happened.specs.declared.around.Around.{Around}
use Rattle.mdns_happened.specs.declared.walk.Walk.{Walk}
use Rattle.mdns_happened.specs.Registrations.{is_told, AreRegistered}
use Rattle.mdns_happened.specs.Told.{Told}
use Rattle.mdns_happened.specs.Walks.{is_walked, walk_of, own_of, AreWalks, AreOwnWalks, IsKnown}
use Rattle.sd_sessions.specs.declared.by_names.Compared.{Compared}
use Rattle.sd_sessions.specs.Answered.{View, answered}
use Rattle.sd_sessions.specs.Sessions.{Session}
use Rattle.sd_sessions.specs.Kept.{IsNewIn}
use Rattle.sd_operations.specs.Operations.{AreRising}

-- each operation of the sessions asks for something of which this holds
abbrev pub AllAsk : (Request → Type 0) → List Session → Type 0
AllAsk P sessions = AllByRecursion (λ (session : Session). AllByRecursion (λ (operation : Operation). P operation.request) session.operations) sessions

-- each name that a request asks for is among these names, where it is touched
abbrev pub IsNamed : List (List (List ℕ)) → List (List (List ℕ)) → Request → Type 0
IsNamed touched names request = AllByRecursion (λ (key : Key). is_among touched key.name ≡ true → is_among names key.name ≡ true) (keys_of request)

-- the touched names that operations ask for are among these names
abbrev pub AreNamed : List (List (List ℕ)) → List (List (List ℕ)) → List Session → Type 0
AreNamed touched names sessions = AllAsk (IsNamed touched names) sessions

-- the names that an accepted call asks for are among these names
abbrev pub IsCallNamed : List (List (List ℕ)) → Option Accepted → Type 0
IsCallNamed names None = Unit {0}
IsCallNamed names (Some call) = AllByRecursion (λ (key : Key). is_among names key.name ≡ true) (keys_of call.request)

-- what an event makes of the records of each name that a request asks for is known by walks
abbrev pub IsAskedKnown : List Held → List Held → List Walk → Request → Type 0
IsAskedKnown held later walks request = AllByRecursion (λ (key : Key). IsKnown held later walks key.name) (keys_of request)

-- and of each name that operations ask for
abbrev pub AreKnown : List Held → List Held → List Walk → List Session → Type 0
AreKnown held later walks sessions = AllAsk (IsAskedKnown held later walks) sessions

-- the names that an accepted call asks for were walked
abbrev pub IsCallWalked : List Walk → Option Accepted → Type 0
IsCallWalked walks None = Unit {0}
IsCallWalked walks (Some call) = AllByRecursion (λ (key : Key). is_walked walks key.name ≡ true) (keys_of call.request)

-- What an event makes of the own records of a name is known by walks: the name was walked, or beside the records that are held they give the answers
-- that they gave.
abbrev pub IsOwnAlike : View → View → List Walk → List (List ℕ) → Type 0
IsOwnAlike before after walks name =
    is_walked walks name ≡ false → (request : Request) →
    answers_over request (rrs_of (held_of name before.held) ++ own_of name after.own) ≡ answers_over request (rrs_of (held_of name before.held) ++ own_of name before.own)

-- What an event makes of the own records of each name that an operation asks for is known by walks; and of a registration's answers it is told, or
-- they stay as they are.
pub record IsBeside (before after : View) (around : Around) (operation : Operation) : Type 0 where
  pub own : AllByRecursion (λ (key : Key). IsOwnAlike before after around.walks.now key.name) (keys_of operation.request)
  pub registered : is_register operation.request ≡ true → is_told around.registered.now operation.session operation.op ≡ false
      → after.registered operation.session operation.op ≡ before.registered operation.session operation.op

-- What a registration has that an accepted call begins is told, or it has nothing.
abbrev pub IsBegunTold : View → Around → Option Accepted → Type 0
IsBegunTold after around None = Unit {0}
IsBegunTold after around (Some call) =
    is_register call.request ≡ true → is_told around.registered.now call.session call.op ≡ false → after.registered call.session call.op ≡ []

-- What is handed over around an event tells, beside the records that are held, what becomes of own records and of registrations.
pub record AreBeside (told : Told) (before after : View) (around : Around) (sessions : List Session) : Type 0 where
  pub own : AreOwnWalks before.own after.own around.walks.now
  pub registered : AreRegistered before.registered after.registered around.registered.now
  pub known : AllByRecursion (λ (session : Session). AllByRecursion (IsBeside before after around) session.operations) sessions
  pub begun : IsBegunTold after around told.call

-- What is seen of a session around an event: its operations' names are known, what an accepted call asks for was walked, what becomes of own records
-- and registrations is told, and each operation has a number of its own.
pub record IsSeen (told : Told) (before after : View) (around : Around) (session : Session) : Type 0 where
  pub walked : AreWalks before.held after.held around.walks.now
  pub own : AreOwnWalks before.own after.own around.walks.now
  pub registered : AreRegistered before.registered after.registered around.registered.now
  pub known : AllByRecursion (λ (operation : Operation). IsAskedKnown before.held after.held around.walks.now operation.request) session.operations
  pub beside : AllByRecursion (IsBeside before after around) session.operations
  pub call : IsCallWalked around.walks.now told.call
  pub begun : IsBegunTold after around told.call
  pub fresh : IsNewIn told.call session
  pub rising : AreRising session.operations

-- An operation that is new: what it asks for was walked, and what it has as a registration is told, or it has nothing.
pub record IsNewSeen (after : View) (around : Around) (operation : Operation) : Type 0 where
  pub walked : AllByRecursion (λ (key : Key). is_walked around.walks.now key.name ≡ true) (keys_of operation.request)
  pub begun : is_register operation.request ≡ true → is_told around.registered.now operation.session operation.op ≡ false
      → after.registered operation.session operation.op ≡ []

-- An operation was there before, with the same answers of whatever is known, and what becomes of them is told; or it is new.
abbrev pub IsCarried : View → View → Around → Option Operation → Operation → Type 0
IsCarried before after around None operation = IsNewSeen after around operation
IsCarried before after around (Some one) operation = ((view : View) → answered view one ≡ answered view operation) × IsBeside before after around operation

-- what is seen of an operation around an event, behind the operations before
pub record IsSeenOf (before after : View) (around : Around) (operations : List Operation) (operation : Operation) : Type 0 where
  pub walked : AreWalks before.held after.held around.walks.now
  pub own : AreOwnWalks before.own after.own around.walks.now
  pub registered : AreRegistered before.registered after.registered around.registered.now
  pub known : IsAskedKnown before.held after.held around.walks.now operation.request
  pub carried : IsCarried before after around (find (has_op operation.op) operations) operation

-- the answers of an operation before and after, where they may differ
abbrev pub IsCompared : Option Compared → List Answer → List Answer → Type 0
IsCompared None had has = had ≡ has
IsCompared (Some compared) had has = (compared.had ≡ had) × (compared.has ≡ has)

-- answers before and after are in order
pub record IsInOrder (compared : Compared) : Type 0 where
  pub had : IsSorted answer_cmp compared.had
  pub has : IsSorted answer_cmp compared.has

-- the walk of the name of questions
abbrev pub walk_for : List Key → List Walk → Option Walk
walk_for [] walks = None
walk_for (question ∷ more) walks = walk_of question.name walks

-- the names that are among some are among more
abbrev pub AreWithin : List (List (List ℕ)) → List (List (List ℕ)) → Type 0
AreWithin names more = (name : List (List ℕ)) → is_among names name ≡ true → is_among more name ≡ true
