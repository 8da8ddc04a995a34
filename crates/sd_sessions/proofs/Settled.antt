-- Settling the changes of sessions from the last one on.
use Rattle.std.proofs.Common.{◌≡◌, ℕ, zero, suc, ◌+◌, ◌<◌, Bool, true, false, cond, ◌||◌, List, [], ◌∷◌, ◌++◌, map, take, length, get_or, set, refl, ap, subst, ◌∙◌, sym, arith, add-one}
use Rattle.sd_call.specs.declared.item.Item.{Item}
use Rattle.mdns_history.specs.Sessions.{is_number}
use Rattle.mdns_happened.specs.Told.{Told}
use Rattle.sd_sessions.specs.Answered.{Answering}
use Rattle.sd_sessions.specs.declared.session.SessionState.{SessionState}
use Rattle.sd_sessions.specs.declared.change.SessionChange.{SessionChange}
use Rattle.sd_sessions.specs.Sessions.{Session}
use Rattle.sd_sessions.specs.Settling.{settled, all_settled, change_told, brought_told}
use Rattle.sd_sessions.specs.Kept.{session_of, sessions_of, HasRoomFor, HaveRising, HaveRoom, IsFit, AreFit}
use Rattle.sd_operations.specs.Operations.{AreRising}

pub none-of : {X : Type 0} (xs : List X) → length xs ≡ 0 → xs ≡ []
none-of [] h = refl
none-of (x ∷ xs) h = absurd (omega arith)

pub all_settled-none : (sessions : List Session) → all_settled sessions [] ≡ sessions
all_settled-none [] = refl
all_settled-none (session ∷ sessions) = refl

-- the last change settled
settled-last : (states : List SessionState) (changes : List SessionChange) (change : SessionChange) (now d : SessionState) → length changes < length states →
    session_of now ≡ settled (session_of (get_or states (length changes) d)) change →
    all_settled (sessions_of (set states (length changes) now)) changes ≡ all_settled (sessions_of states) (changes ++ change ∷ [])
settled-last [] changes change now d within e = absurd (omega arith)
settled-last (state ∷ states) [] change now d within e =
    ap (λ y. y ∷ sessions_of states) e ∙ ap (λ ys. settled (session_of state) change ∷ ys) (sym (all_settled-none (sessions_of states)))
settled-last (state ∷ states) (first ∷ changes) change now d within e =
    ap (λ ys. settled (session_of state) first ∷ ys) (settled-last states changes change now d (omega arith) e)

-- the room that the last change needs, and that of those before it
room-last : (states : List SessionState) (changes : List SessionChange) (change : SessionChange) (now d : SessionState) → length changes < length states →
    HaveRoom states (changes ++ change ∷ []) → HasRoomFor (get_or states (length changes) d) change × HaveRoom (set states (length changes) now) changes
room-last [] changes change now d within room = absurd (omega arith)
room-last (state ∷ states) [] change now d within room = (room.0, tt)
room-last (state ∷ states) (first ∷ changes) change now d within room =
    let rest = room-last states changes change now d (omega arith) room.1 in (rest.0, (room.0, rest.1))

-- the last change fits, and so do those before it
fit-last : (states : List SessionState) (changes : List SessionChange) (change : SessionChange) (now d : SessionState) → length changes < length states →
    AreFit (sessions_of states) (changes ++ change ∷ []) → IsFit (session_of (get_or states (length changes) d)) change × AreFit (sessions_of (set states (length changes) now)) changes
fit-last [] changes change now d within fit = absurd (omega arith)
fit-last (state ∷ states) [] change now d within fit = (fit.0, tt)
fit-last (state ∷ states) (first ∷ changes) change now d within fit =
    let rest = fit-last states changes change now d (omega arith) fit.1 in (rest.0, (fit.0, rest.1))

-- what the last change asks of its session
pub last-asks : (states : List SessionState) (before changes : List SessionChange) (change : SessionChange) (i : ℕ) (d : SessionState) →
    before ≡ changes ++ change ∷ [] → i ≡ length changes → i < length states → HaveRoom states before → AreFit (sessions_of states) before →
    HasRoomFor (get_or states i d) change × IsFit (session_of (get_or states i d)) change
last-asks states before changes change i d is at within room fit =
    let P : ℕ → Type 0 = λ k. HasRoomFor (get_or states k d) change × IsFit (session_of (get_or states k d)) change in
    let within_states : length changes < length states = omega arith in
    subst P (sym at) (
      (room-last states changes change d d within_states (subst (HaveRoom states) is room)).0,
      (fit-last states changes change d d within_states (subst (AreFit (sessions_of states)) is fit)).0,
    )

-- what the last change leaves to settle
pub record Leaves (states : List SessionState) (before changes : List SessionChange) (i : ℕ) (now : SessionState) : Type 0 where
  pub settled : all_settled (sessions_of (set states i now)) changes ≡ all_settled (sessions_of states) before
  pub room : HaveRoom (set states i now) changes
  pub fit : AreFit (sessions_of (set states i now)) changes

pub settle-last : (states : List SessionState) (before changes : List SessionChange) (change : SessionChange) (i : ℕ) (now d : SessionState) →
    before ≡ changes ++ change ∷ [] → i ≡ length changes → i < length states → HaveRoom states before → AreFit (sessions_of states) before →
    session_of now ≡ settled (session_of (get_or states i d)) change → Leaves states before changes i now
settle-last states before changes change i now d is at within room fit e =
    let within_states : length changes < length states = omega arith in
    let P : ℕ → Type 0 = λ k. Leaves states before changes k now in
    subst P (sym at) (record {
      settled = settled-last states changes change now d within_states (subst (λ (k : ℕ). session_of now ≡ settled (session_of (get_or states k d)) change) at e) ∙ ap (all_settled (sessions_of states)) (sym is);
      room = (room-last states changes change now d within_states (subst (HaveRoom states) is room)).1;
      fit = (fit-last states changes change now d within_states (subst (AreFit (sessions_of states)) is fit)).1;
    })

-- The change of a session fits it.
pub change_told-fits : (told : Told) (earlier later : Answering) (session : Session) → AreRising session.operations → IsFit session (change_told told earlier later session)
change_told-fits told earlier later session rising = record { cuts = refl; cut = none; rising = rising }
  where
    of : (a b : Bool) (items : List Item) → a ≡ true → cond (a || b) [] items ≡ []
    of true b items e = refl
    of false b items e = cc

    none : session.cut ≡ true → brought_told told earlier later session ≡ []
    none e = of session.cut (is_number session.number told.detached) _ e

-- The changes of sessions fit them.
pub changes_told-fit : (told : Told) (earlier later : Answering) (sessions : List Session) → HaveRising sessions → AreFit sessions (map (change_told told earlier later) sessions)
changes_told-fit told earlier later [] rising = tt
changes_told-fit told earlier later (session ∷ sessions) rising = (change_told-fits told earlier later session rising.0, changes_told-fit told earlier later sessions rising.1)

-- The changes that a plan has fit the sessions that it was made of.
pub planned-fit : (told : Told) (earlier later : Answering) (sessions : List Session) (changes : List SessionChange) →
    HaveRising sessions → changes ≡ map (change_told told earlier later) sessions → AreFit sessions changes
planned-fit told earlier later sessions changes rising e = subst (AreFit sessions) (sym e) (changes_told-fit told earlier later sessions rising)

-- a session that is kept the same
pub same-set : (states : List SessionState) (i : ℕ) (now d : SessionState) → i < length states → session_of now ≡ session_of (get_or states i d) → sessions_of (set states i now) ≡ sessions_of states
same-set [] i now d h e = absurd (omega arith)
same-set (state ∷ states) zero now d h e = ap (λ y. y ∷ sessions_of states) e
same-set (state ∷ states) (suc i) now d h e = ap (λ ys. session_of state ∷ ys) (same-set states i now d (omega arith) e)

room-next : (states : List SessionState) (changes : List SessionChange) (i : ℕ) (now : SessionState) (change : SessionChange) → i < length states → i < length changes →
    change ≡ get_or changes i change → HasRoomFor now change → HaveRoom (take i states) changes → HaveRoom (take (suc i) (set states i now)) changes
room-next [] changes i now change h k is fits room = absurd (omega arith)
room-next (state ∷ states) [] i now change h k is fits room = absurd (omega arith)
room-next (state ∷ states) (first ∷ changes) zero now change h k is fits room = (subst (HasRoomFor now) is fits, tt)
room-next (state ∷ states) (first ∷ changes) (suc i) now change h k is fits room = (room.0, room-next states changes i now change (omega arith) (omega arith) is fits room.1)

pub room-next-at : (states : List SessionState) (changes : List SessionChange) (i : ℕ) (now : SessionState) (change : SessionChange) → i < length states → i < length changes →
    change ≡ get_or changes i change → HasRoomFor now change → HaveRoom (take i states) changes → HaveRoom (take (i + 1) (set states i now)) changes
room-next-at states changes i now change h k is fits room =
    let P : ℕ → Type 0 = λ n. HaveRoom (take n (set states i now)) changes in subst P (sym (add-one i)) (room-next states changes i now change h k is fits room)
