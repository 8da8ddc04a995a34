-- What is walked for an event is what questions and sessions must know of it.
use Rattle.std.proofs.Common.{◌≡◌, ℕ, Bool, true, false, cond, not, ◌||◌, true≢false, List, [], ◌∷◌, map, Option, Some, None, refl, ap, subst, ◌∙◌, sym}
use Rattle.std.specs.List.{AllByRecursion}
use Rattle.dns_name.specs.Names.{folded_eq}
use Rattle.dns_name.proofs.Folding.{folded_eq-equivalence}
use Rattle.mdns_history.specs.declared.held.Held.{Held}
use Rattle.mdns_history.specs.Announcing.{same_records}
use Rattle.mdns_history.specs.Questions.{keys_of}
use Rattle.mdns_history.specs.Sessions.{Accepted}
use Rattle.mdns_cache.specs.Ended.{is_among}
use Rattle.mdns_cache.specs.Lifetimes.{held_of, AllHeard}
use Rattle.mdns_happened.specs.declared.walk.Walk.{Walk}
use Rattle.mdns_happened.specs.Told.{Told}
use Rattle.mdns_happened.specs.declared.around.Around.{Around}
use Rattle.mdns_happened.specs.Registrations.{is_told, AreRegistered}
use Rattle.sd_call.specs.Requests.{is_register}
use Rattle.mdns_happened.specs.Walks.{is_walked, own_of, AreWalks, AreOwnWalks, IsKnown}
use Rattle.mdns_question.specs.declared.tracked.Tracked.{Tracked}
use Rattle.mdns_asking.specs.Asked.{begun_keys}
use Rattle.mdns_asking.specs.Walked as for_asking
use Rattle.sd_sessions.specs.Sessions.{Session}
use Rattle.sd_sessions.specs.Walked as for_sessions
use Rattle.mdns_core.specs.Viewed.{viewed}
use Rattle.mdns_core.specs.Enough.{IsOwnKept, AreOwnKept, AreEnough, claims_told, with_own}
use Rattle.dns_record.specs.declared.record.Key.{Key}
use Rattle.dns_record.specs.declared.record.Rr.{Rr}
use Rattle.sd_answer.specs.Known.{rrs_of}
use Rattle.sd_answer.specs.Laws.{have_data}
use Rattle.mdns_core.proofs.records.OwnKept.{own-kept}
use Rattle.mdns_probe.specs.Kept.{Kept}
use Rattle.mdns_claims.specs.State.{Contents}
use Rattle.mdns_claims.specs.Behind.{occasion_of, kept_told, contents_told}
use Rattle.mdns_claims.specs.Owned.{own_in, registered_answers}

each_also : {X : Type 0} (P Q : X → Type 0) → ((x : X) → P x → Q x) → (xs : List X) → AllByRecursion P xs → AllByRecursion Q xs
each_also P Q gives [] all = tt
each_also P Q gives (x ∷ xs) all = (gives x all.0, each_also P Q gives xs all.1)

names_walked : (name : List (List ℕ)) (walks : List Walk) → is_among (map (λ (walk : Walk). walk.name) walks) name ≡ is_walked walks name
names_walked name [] = refl
names_walked name (walk ∷ walks) = λ i. folded_eq-equivalence.symm name walk.name i || names_walked name walks i

-- Names were walked. Among them are those of the touched names that sessions or questions ask for; the records of a name that isn't touched stay, held and own.
module _ (held later : List Held) (own own_later : List Rr) (touched names : List (List (List ℕ))) (walks : List Walk) (are : map (λ (walk : Walk). walk.name) walks ≡ names)
    (stay : (name : List (List ℕ)) → is_among touched name ≡ false → held_of name later ≡ held_of name held)
    (own_stay : (name : List (List ℕ)) → is_among touched name ≡ false → same_records (own_of name own) (own_of name own_later) ≡ true) where
  walked : (name : List (List ℕ)) → is_among names name ≡ true → is_walked walks name ≡ true
  walked name among = sym (names_walked name walks) ∙ ap (λ (l : List (List (List ℕ))). is_among l name) are ∙ among

  known : (name : List (List ℕ)) → (is_among touched name ≡ true → is_among names name ≡ true) → IsKnown held later walks name
  known name taken = λ none. of (is_among touched name) refl none
    where
      of : (b : Bool) → is_among touched name ≡ b → is_walked walks name ≡ false → held_of name later ≡ held_of name held
      of true e none = absurd (true≢false (sym (walked name (taken e)) ∙ none))
      of false e none = stay name e

  own_kept : (name : List (List ℕ)) → (is_among touched name ≡ true → is_among names name ≡ true) → IsOwnKept own own_later walks name
  own_kept name taken = λ none. of (is_among touched name) refl none
    where
      of : (b : Bool) → is_among touched name ≡ b → is_walked walks name ≡ false → same_records (own_of name own) (own_of name own_later) ≡ true
      of true e none = absurd (true≢false (sym (walked name (taken e)) ∙ none))
      of false e none = own_stay name e

  for_questions : (told : Told) (moment : ℕ) (questions : List Tracked) → for_asking.AreNamed told moment questions touched names → for_asking.AreEnough told moment questions held later walks
  for_questions told moment questions named = record {
    known = each_also _ _ (λ one taken. known one.key.name taken) questions named.touched;
    asked = each_also _ _ (λ one asked may. walked one.key.name (asked may)) questions named.asked;
    begun = each_also _ _ (λ key among. walked key.name among) (begun_keys told.call) named.begun;
  }

  module _ (before : List (List (List ℕ))) (kept : (name : List (List ℕ)) → is_among before name ≡ true → is_among names name ≡ true) where
    for_operations : (sessions : List Session) → for_sessions.AreNamed touched before sessions → for_sessions.AreKnown held later walks sessions
    for_operations sessions named =
        each_also _ _ (λ session. each_also _ _ (λ operation. each_also _ _ (λ key taken. known key.name (λ touches. kept key.name (taken touches))) (keys_of operation.request)) session.operations) sessions named

    for_own : (sessions : List Session) → for_sessions.AreNamed touched before sessions → AreOwnKept own own_later walks sessions
    for_own sessions named =
        each_also _ _ (λ session. each_also _ _ (λ operation. each_also _ _ (λ key taken. own_kept key.name (λ touches. kept key.name (taken touches))) (keys_of operation.request)) session.operations) sessions named

    for_call : (call : Option Accepted) → for_sessions.IsCallNamed before call → for_sessions.IsCallWalked walks call
    for_call None named = tt
    for_call (Some call) named = each_also _ _ (λ key among. walked key.name (kept key.name among)) (keys_of call.request) named

    -- What was walked is enough, where the names of the sessions were put before those of the questions.
    pub enough-walked : (told : Told) (moment : ℕ) (questions : List Tracked) (sessions : List Session) → AreWalks held later walks → AreOwnWalks own own_later walks → for_asking.AreNamed told moment questions touched names →
        for_sessions.AreNamed touched before sessions → for_sessions.IsCallNamed before told.call → AreEnough told moment held later own own_later questions sessions walks
    enough-walked told moment questions sessions walks_are owned asked served called = record {
      records = walks_are;
      own = owned;
      asking = for_questions told moment questions asked;
      sessions = for_operations sessions served;
      own_kept = for_own sessions served;
      call = for_call told.call called;
    }

-- Beside the held records it is told what becomes of own records, by walks, and of the answers of registrations.
pub beside-told : (told : Told) (contents then : Contents) (held later : List Held) (around : Around) (sessions : List Session) →
    have_data (rrs_of held) ≡ true → have_data (own_in contents.kept) ≡ true → have_data (own_in then.kept) ≡ true →
    AreOwnWalks (own_in contents.kept) (own_in then.kept) around.walks.now → AreOwnKept (own_in contents.kept) (own_in then.kept) around.walks.now sessions →
    AreRegistered (λ session op. registered_answers session op contents.kept) (λ session op. registered_answers session op then.kept) around.registered.now →
    ((session op : ℕ) → is_told around.registered.now session op ≡ false → registered_answers session op then.kept ≡ registered_answers session op contents.kept) →
    ((call : Accepted) → told.call ≡ Some call → is_register call.request ≡ true → is_told around.registered.now call.session call.op ≡ true) →
    for_sessions.AreBeside told (viewed contents held) (viewed then later) around sessions
beside-told told contents then held later around sessions typed typed_own typed_then owned known registered rest begun = record {
  own = owned;
  registered = registered;
  known = each_also _ _ (λ session. each_also _ _ (λ operation keys. record { own = alike (keys_of operation.request) keys; registered = λ registers unheard. rest operation.session operation.op unheard }) session.operations) sessions known;
  begun = begins told.call refl;
}
  where
    alike : (keys : List Key) → AllByRecursion (λ (key : Key). IsOwnKept (own_in contents.kept) (own_in then.kept) around.walks.now key.name) keys →
        AllByRecursion (λ (key : Key). for_sessions.IsOwnAlike (viewed contents held) (viewed then later) around.walks.now key.name) keys
    alike keys kept = each_also _ _ (λ key stays none. own-kept key.name held (own_in contents.kept) (own_in then.kept) typed typed_own typed_then (stays none)) keys kept

    begins : (call : Option Accepted) → told.call ≡ call → for_sessions.IsBegunTold (viewed then later) around call
    begins None e = tt
    begins (Some call) e = λ registers unheard. absurd (true≢false (sym (begun call e registers) ∙ unheard))

-- The later records of walks were heard by a moment, where all were.
heard-of : (moment : ℕ) (name : List (List ℕ)) (held : List Held) → AllHeard moment held → AllHeard moment (held_of name held)
heard-of moment name [] all = tt
heard-of moment name (one ∷ held) all = of (folded_eq one.rr.owner name) (heard-of moment name held all.1)
  where
    of : (b : Bool) → AllHeard moment (held_of name held) → AllHeard moment (cond b (one ∷ held_of name held) (held_of name held))
    of true rest = (all.0, rest)
    of false rest = rest

pub heard-walked : (moment : ℕ) (held later : List Held) (walks : List Walk) → AreWalks held later walks → AllHeard moment later → for_asking.AreHeard moment walks
heard-walked moment held later walks are all =
    each_also _ _ (λ walk is. subst (AllHeard moment) (sym is.later) (heard-of moment walk.name later all)) walks are

-- Walks with own records are the same walks, and have the own records of their names.
module _ (own own_later : List Rr) where
  walks-owned : (held later : List Held) (walks : List Walk) → AreWalks held later walks → AreWalks held later (map (with_own own own_later) walks)
  walks-owned held later [] are = tt
  walks-owned held later (walk ∷ walks) are = (record { earlier = are.0.earlier; later = are.0.later }, walks-owned held later walks are.1)

  own-walked : (walks : List Walk) → AreOwnWalks own own_later (map (with_own own own_later) walks)
  own-walked [] = tt
  own-walked (walk ∷ walks) = (record { earlier = refl; later = refl }, own-walked walks)

  names-owned : (walks : List Walk) → map (λ (walk : Walk). walk.name) (map (with_own own own_later) walks) ≡ map (λ (walk : Walk). walk.name) walks
  names-owned [] = refl
  names-owned (walk ∷ walks) = ap (λ (names : List (List (List ℕ))). walk.name ∷ names) (names-owned walks)

-- What is kept of claims behind what is told has the groups behind it.
pub then-kept : (contents : Contents) (told : Told) (now word : ℕ) → kept_told contents (occasion_of contents told now word) ≡ (claims_told contents told now word).kept
unfolding contents_told
then-kept contents told now word = refl

-- What isn't among more names isn't among those that they have.
pub among-none : (names more : List (List (List ℕ))) → ((name : List (List ℕ)) → is_among names name ≡ true → is_among more name ≡ true) → (name : List (List ℕ)) →
    is_among more name ≡ false → is_among names name ≡ false
among-none names more within name none = of (is_among names name) refl
  where
    of : (b : Bool) → is_among names name ≡ b → b ≡ false
    of true e = absurd (true≢false (sym (within name e) ∙ none))
    of false e = refl

-- Where nothing comes or goes of a name that isn't among those that were put, the same records stay.
pub kept-unmoved : (stays among : Bool) → (not stays ≡ true → among ≡ true) → among ≡ false → stays ≡ true
kept-unmoved true among moved none = refl
kept-unmoved false among moved none = absurd (true≢false (sym (moved refl) ∙ none))

-- What was walked is enough, where own records were put beside the held ones.
pub enough-owned : (held later : List Held) (contents : Contents) (told : Told) (now word : ℕ) (behind : List Kept) (touched names : List (List (List ℕ))) (walks owned : List Walk) →
    behind ≡ kept_told contents (occasion_of contents told now word) →
    owned ≡ map (with_own (own_in contents.kept) (own_in behind)) walks → map (λ (walk : Walk). walk.name) walks ≡ names →
    ((name : List (List ℕ)) → is_among touched name ≡ false → held_of name later ≡ held_of name held) →
    ((name : List (List ℕ)) → is_among touched name ≡ false → same_records (own_of name (own_in contents.kept)) (own_of name (own_in behind)) ≡ true) →
    (before : List (List (List ℕ))) → ((name : List (List ℕ)) → is_among before name ≡ true → is_among names name ≡ true) →
    (questions : List Tracked) (sessions : List Session) → AreWalks held later walks → for_asking.AreNamed told now questions touched names →
    for_sessions.AreNamed touched before sessions → for_sessions.IsCallNamed before told.call →
    AreEnough told now held later (own_in contents.kept) (own_in (claims_told contents told now word).kept) questions sessions owned
enough-owned held later contents told now word behind touched names walks owned behind_is owned_is named stay own_stay before kept questions sessions are asked served called =
    subst (λ (ks : List Kept). AreEnough told now held later own (own_in ks) questions sessions owned) (behind_is ∙ then-kept contents told now word)
    (subst (AreEnough told now held later own (own_in behind) questions sessions) (sym owned_is)
    (enough-walked held later own (own_in behind) touched names (map (with_own own (own_in behind)) walks) (names-owned own (own_in behind) walks ∙ named) stay own_stay before kept
    told now questions sessions (walks-owned own (own_in behind) held later walks are) (own-walked own (own_in behind) walks) asked served called))
  where
    own : List Rr
    own = own_in contents.kept
