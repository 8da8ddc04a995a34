-- What an event asks of the names that are walked for it, and what is told of it where its packet was read.
use Rattle.std.specs.Prelude.{◌≡◌, ℕ, true, false, List}
use Rattle.std.specs.List.{AllByRecursion}
use Rattle.mdns_history.specs.Announcing.{same_records}
use Rattle.mdns_history.specs.Questions.{keys_of}
use Rattle.mdns_history.specs.declared.held.Held.{Held}
use Rattle.mdns_history.specs.declared.mark.Cause.{Cause}
use Rattle.dns_record.specs.declared.record.Key.{Key}
use Rattle.mdns_happened.specs.declared.walk.Walk.{Walk}
use Rattle.mdns_happened.specs.Told.{Told}
use Rattle.mdns_happened.specs.Walks.{is_walked, own_of, AreWalks, AreOwnWalks}
use Rattle.mdns_question.specs.declared.tracked.Tracked.{Tracked}
use Rattle.mdns_asking.specs.Asked.{asked_told}
use Rattle.mdns_asking.specs.Walked as for_asking
use Rattle.sd_sessions.specs.Sessions.{Session}
use Rattle.sd_sessions.specs.Walked as for_sessions
use Rattle.dns_record.specs.declared.record.Rr.{Rr}
use Rattle.mdns_claims.specs.State.{Contents}
use Rattle.mdns_claims.specs.Behind.{occasion_of, contents_told}

-- the questions that are asked for what is told, where these records are live
abbrev pub chosen_for : Told → List Tracked → List Held → ℕ → List (Key × Cause)
chosen_for told questions held now = asked_told told.ticks told.heard questions held now

-- The name was walked, or the same records of it are own before an event and behind it.
abbrev pub IsOwnKept : List Rr → List Rr → List Walk → List (List ℕ) → Type 0
IsOwnKept own later walks name = is_walked walks name ≡ false → same_records (own_of name own) (own_of name later) ≡ true

-- that of each name that operations ask for
abbrev pub AreOwnKept : List Rr → List Rr → List Walk → List Session → Type 0
AreOwnKept own later walks sessions =
    for_sessions.AllAsk (λ request. AllByRecursion (λ (key : Key). IsOwnKept own later walks key.name) (keys_of request)) sessions

-- Walks are enough for an event: they have the records before it and after it of each name of which questions and sessions must know them, and the own
-- records of these names.
pub record AreEnough (told : Told) (now : ℕ) (held later : List Held) (owned owned_later : List Rr) (questions : List Tracked) (before : List Session) (walks : List Walk) : Type 0 where
  pub records : AreWalks held later walks
  pub own : AreOwnWalks owned owned_later walks
  pub asking : for_asking.AreEnough told now questions held later walks
  pub sessions : for_sessions.AreKnown held later walks before
  pub own_kept : AreOwnKept owned owned_later walks before
  pub call : for_sessions.IsCallWalked walks told.call

-- a walk with the own records of its name, before an event and behind it
abbrev pub with_own : List Rr → List Rr → Walk → Walk
with_own own later walk =
    record {
      name = walk.name;
      earlier = walk.earlier;
      later = walk.later;
      own = record { earlier = own_of walk.name own; later = own_of walk.name later };
    }

-- what is kept of claims after what is told
abbrev pub claims_told : Contents → Told → ℕ → ℕ → Contents
claims_told contents told now word = contents_told contents (occasion_of contents told now word)
