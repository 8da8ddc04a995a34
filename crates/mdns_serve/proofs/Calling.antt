-- Requests that were read, and the calls that were made of them.
use Rattle.std.proofs.Common.{◌≡◌, ◌∙◌, inl, inr, ℕ, List, [], ◌∷◌, ◌++◌, drop, refl, ap, sym, subst, Bool, true, false, Option, Some, None, Result, Ok, Err, arith, if◌then◌else◌}
use Rattle.std.proofs.lemmas.List.{append-nil, append_assoc}
use Rattle.sd_call.specs.declared.request.Request.{Request}
use Rattle.mdns_history.specs.declared.event.Event.{Event}
use Rattle.mdns_history.specs.declared.entry.Entry.{Entry}
use Rattle.sd_ipc.specs.declared.error.FrameError.{FrameError}
use Rattle.sd_ipc.specs.declared.error.FrameError.TheVariants as frame
use Rattle.sd_ipc.specs.Reading.{request_in, frame_size}
use Rattle.sd_ipc.specs.Taking.{Told, IsRefused, IsOf, TakesUpTo, TakesWhole}
use Rattle.mdns_outside.specs.Parts.{Handed}
use Rattle.mdns_serve.specs.declared.happening.Happening.{Happening}
use Rattle.mdns_serve.specs.declared.happening.Happening.TheVariants.{Entered, Missed}
use Rattle.mdns_serve.specs.declared.reading.ReadEnd.{ReadEnd}
use Rattle.mdns_serve.specs.declared.reading.ReadEnd.TheVariants.{BadFrame, Closed, NoMemory}
use Rattle.mdns_serve.specs.Shares.{Does}
use Rattle.mdns_serve.specs.Packets.{packets_in, packets_of, HandsSome}
use Rattle.mdns_serve.specs.Reading.{IsFor, call_of, AreCalls, Spells, Took, is_shut_outcome, ends_shut, EndsAt, Calls, Goes, Stops, GoesOrStops, CallsOnce, end_after, end_of, IsFrameFault}
use Rattle.mdns_serve.proofs.Handing.{hands_none, hands_append}

-- what a turn does says which event it was for
pub is_for : (clock word : ℕ) (event : Event) (last : ℕ) (turn : Happening) → Does clock word event last turn → IsFor event turn
is_for clock word event last (Entered entry) does = does.0
is_for clock word event last (Missed detaching) does = does

pub packets_append : (turns more : List Happening) → packets_of (turns ++ more) ≡ packets_of turns ++ packets_of more
packets_append [] more = refl
packets_append (turn ∷ turns) more = ap (λ l. packets_in turn ++ l) (packets_append turns more) ∙ sym (append_assoc (packets_in turn) (packets_of turns) (packets_of more))

pub packets_one : (turn : Happening) → packets_of (turn ∷ []) ≡ packets_in turn
packets_one turn = append-nil (packets_in turn)

are_append : (session : ℕ) (requests more : List (ℕ × Request)) (calls others : List Happening) → AreCalls session requests calls → AreCalls session more others → AreCalls session (requests ++ more) (calls ++ others)
are_append session [] more [] others are late = late
are_append session [] more (call ∷ calls) others are late = absurd are
are_append session (request ∷ requests) more [] others are late = absurd are
are_append session (request ∷ requests) more (call ∷ calls) others are late = (are.0, are_append session requests more calls others are.1 late)

spells_append : (bytes rest last : List ℕ) (requests more : List (ℕ × Request)) → Spells bytes requests rest → Spells rest more last → Spells bytes (requests ++ more) last
spells_append bytes rest last [] more is late = subst (λ b. Spells b more last) is late
spells_append bytes rest last (request ∷ requests) more is late = (is.0, spells_append (drop (frame_size bytes) bytes) rest last requests more is.1 late)

took_append : (a b c : Option (List ℕ)) (requests more : List (ℕ × Request)) → Took a b requests → Took b c more → Took a c (requests ++ more)
took_append a b c requests more first late bytes told =
    let early = first bytes told in
    let next = late early.0 early.2 in (next.0, spells_append bytes early.0 next.0 requests more early.1 next.1, next.2)

-- nothing was taken
took_none : (a : Option (List ℕ)) → Took a a []
took_none a bytes told = (bytes, refl, told)

shut_more : (calls : List Happening) (call : Happening) (more : List Happening) → ends_shut (calls ++ call ∷ more) ≡ ends_shut (call ∷ more)
shut_more [] call more = refl
shut_more (first ∷ []) call more = refl
shut_more (first ∷ second ∷ calls) call more = shut_more (second ∷ calls) call more

-- whether the last call found the session closed or cut, where it wasn't so before
shut_after : (calls more : List Happening) → ends_shut calls ≡ false → ends_shut (calls ++ more) ≡ ends_shut more
shut_after calls [] open_still = ap ends_shut (append-nil calls) ∙ open_still
shut_after calls (call ∷ more) open_still = shut_more calls call more

module _ (session : ℕ) where
  calls_append : (a b c : Option (List ℕ)) (m n o : List Happening) (x y z : Option (List Handed)) (requests more : List (ℕ × Request)) (calls others : List Happening)
      → Calls session a b m n x y requests calls → Calls session b c n o y z more others → Calls session a c m o x z (requests ++ more) (calls ++ others)
  calls_append a b c m n o x y z requests more calls others first late = record {
    are = are_append session requests more calls others first.are late.are;
    took = took_append a b c requests more first.took late.took;
    mine = late.mine ∙ ap (λ l. l ++ others) first.mine ∙ append_assoc m calls others;
    air = subst (HandsSome x z) (sym (packets_append calls others)) (hands_append x y z (packets_of calls) (packets_of others) first.air late.air);
  }

  calls_none : (a : Option (List ℕ)) (m : List Happening) (x : Option (List Handed)) → Calls session a a m m x x [] []
  calls_none a m x = record { are = tt; took = took_none a; mine = sym (append-nil m); air = hands_none x }

  pub goes_none : (a : Option (List ℕ)) (m : List Happening) (x : Option (List Handed)) → Goes session a a m m x x
  goes_none a m x = record { requests = []; calls = []; made = calls_none a m x; open_still = refl }

  pub goes_after : (a b c : Option (List ℕ)) (m n o : List Happening) (x y z : Option (List Handed)) → Goes session a b m n x y → Goes session b c n o y z → Goes session a c m o x z
  goes_after a b c m n o x y z first late = record {
    requests = first.requests ++ late.requests;
    calls = first.calls ++ late.calls;
    made = calls_append a b c m n o x y z first.requests late.requests first.calls late.calls first.made late.made;
    open_still = shut_after first.calls late.calls first.open_still ∙ late.open_still;
  }

  pub stops_after : (a b c : Option (List ℕ)) (m n o : List Happening) (x y z : Option (List Handed)) (end : ReadEnd) → Goes session a b m n x y → Stops session b c n o y z end → Stops session a c m o x z end
  stops_after a b c m n o x y z end first late =
      let shut = shut_after first.calls late.calls first.open_still in record {
        requests = first.requests ++ late.requests;
        calls = first.calls ++ late.calls;
        between = late.between;
        made = calls_append a b late.between m n o x y z first.requests late.requests first.calls late.calls first.made late.made;
        ends = late.ends;
        closed = ((λ e. shut ∙ late.closed.0 e), (λ e. late.closed.1 (sym shut ∙ e)));
      }

  -- no call was made
  pub stops_uncalled : (a b : Option (List ℕ)) (m : List Happening) (x : Option (List Handed)) (end : ReadEnd) → (end ≡ Closed → ⊥) → Told a (λ rest. EndsAt end rest b) → Stops session a b m m x x end
  stops_uncalled a b m x end not_closed ends =
      record { requests = []; calls = []; between = a; made = calls_none a m x; ends = ends; closed = ((λ e. absurd (not_closed e)), (λ e. absurd (cc))) }

  one_call : (a b : Option (List ℕ)) (m n : List Happening) (x y : Option (List Handed)) (request : ℕ × Request) (call : Happening)
      → Told a (λ bytes. (request_in bytes ≡ Ok (Some request)) × (b ≡ Some (drop (frame_size bytes) bytes))) → IsFor (call_of session request) call → n ≡ m ++ call ∷ []
      → HandsSome x y (packets_of (call ∷ [])) → Calls session a b m n x y (request ∷ []) (call ∷ [])
  one_call a b m n x y request call read is mine air = record {
    are = (is, tt);
    took = λ bytes told. let r = read bytes told in (drop (frame_size bytes) bytes, (r.0, refl), r.1);
    mine = mine;
    air = air;
  }

  -- a call was made of a request that was read
  pub called : (a b : Option (List ℕ)) (m n : List Happening) (x y : Option (List Handed)) (request : ℕ × Request) (result : Option ReadEnd)
      → Told a (λ bytes. (request_in bytes ≡ Ok (Some request)) × (b ≡ Some (drop (frame_size bytes) bytes)))
      → CallsOnce session request m n x y result → GoesOrStops session a b m n x y result
  called a b m n x y request result read once = subst (GoesOrStops session a b m n x y) (sym once.ends) (of once.call (one_call a b m n x y request once.call read once.is once.mine once.air))
    where
      stays : (rest : List ℕ) → b ≡ Some rest → EndsAt NoMemory rest b
      stays rest told = (0, omega arith, told)

      by : (entry : Entry) → Calls session a b m n x y (request ∷ []) (Entered entry ∷ []) → (shut : Bool) → is_shut_outcome entry.outcome ≡ shut → GoesOrStops session a b m n x y (if shut then Some Closed else None)
      by entry made true is = record { requests = request ∷ []; calls = Entered entry ∷ []; between = b; made = made; ends = λ rest told. told; closed = ((λ e. is), (λ e. refl)) }
      by entry made false is = record { requests = request ∷ []; calls = Entered entry ∷ []; made = made; open_still = is }

      of : (call : Happening) → Calls session a b m n x y (request ∷ []) (call ∷ []) → GoesOrStops session a b m n x y (end_after call)
      of (Entered entry) made = by entry made (is_shut_outcome entry.outcome) refl
      of (Missed detaching) made = record { requests = request ∷ []; calls = Missed detaching ∷ []; between = b; made = made; ends = stays; closed = ((λ e. absurd (cc)), (λ e. absurd (cc))) }

-- what was read is what the bytes spell
pub read_is : {X : Type 0} (value : X) (wanted : Result X FrameError) → IsOf (Ok value) wanted → wanted ≡ Ok value
read_is value wanted (inl (inl e)) = absurd (cc)
read_is value wanted (inl (inr e)) = absurd (cc)
read_is value wanted (inr e) = sym e

pub whole_is : {X : Type 0} (value : X) (size : ℕ) (bytes : List ℕ) (left : Option (List ℕ)) → TakesWhole (Ok value) size bytes left → left ≡ Some (drop size bytes)
whole_is value size bytes left (inl (inl e)) = absurd (cc)
whole_is value size bytes left (inl (inr e)) = absurd (cc)
whole_is value size bytes left (inr e) = e

bad : (error : FrameError) → IsFrameFault error → (error ≡ frame.ReadFault → ⊥) → (error ≡ frame.NoMemory → ⊥) → (bytes : List ℕ) (left : Option (List ℕ))
    → IsOf {X = Option (ℕ × Request)} (Err error) (request_in bytes) → TakesWhole {X = Option (ℕ × Request)} (Err error) (frame_size bytes) bytes left → EndsAt BadFrame bytes left
bad error is_fault no_fault no_want bytes left is whole = ((error, is_fault, spelled is), taken whole)
  where
    not_refused : IsRefused {X = Option (ℕ × Request)} (Err error) → ⊥
    not_refused (inl e) = no_fault (cc)
    not_refused (inr e) = no_want (cc)

    spelled : IsOf {X = Option (ℕ × Request)} (Err error) (request_in bytes) → request_in bytes ≡ Err error
    spelled (inl e) = absurd (not_refused e)
    spelled (inr e) = sym e

    taken : TakesWhole {X = Option (ℕ × Request)} (Err error) (frame_size bytes) bytes left → left ≡ Some (drop (frame_size bytes) bytes)
    taken (inl e) = absurd (not_refused e)
    taken (inr e) = e

-- no frame was read
pub unread : (error : FrameError) (bytes : List ℕ) (left : Option (List ℕ)) → IsOf {X = Option (ℕ × Request)} (Err error) (request_in bytes) → TakesWhole {X = Option (ℕ × Request)} (Err error) (frame_size bytes) bytes left → TakesUpTo (frame_size bytes) bytes left
    → EndsAt (end_of error) bytes left
unread frame.BadLength bytes left is whole within = bad frame.BadLength (inl refl) (λ e. cc) (λ e. cc) bytes left is whole
unread frame.BadKind bytes left is whole within = bad frame.BadKind (inr (inl refl)) (λ e. cc) (λ e. cc) bytes left is whole
unread frame.BadBody bytes left is whole within = bad frame.BadBody (inr (inr (inl refl))) (λ e. cc) (λ e. cc) bytes left is whole
unread frame.Truncated bytes left is whole within = bad frame.Truncated (inr (inr (inr refl))) (λ e. cc) (λ e. cc) bytes left is whole
unread frame.ReadFault bytes left is whole within = within
unread frame.NoMemory bytes left is whole within = within

-- a frame that wasn't read is no call that found the session closed
pub ended_is : (error : FrameError) → end_of error ≡ Closed → ⊥
ended_is frame.BadLength e = cc
ended_is frame.BadKind e = cc
ended_is frame.BadBody e = cc
ended_is frame.Truncated e = cc
ended_is frame.ReadFault e = cc
ended_is frame.NoMemory e = cc
