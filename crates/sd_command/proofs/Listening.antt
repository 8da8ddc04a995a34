-- What was heard so far, what one more item adds, and what an ending says.
use Rattle.std.proofs.Common.{◌≡◌, inl, inr, ℕ, ◌+◌, ◌<◌, ◌≤◌, Bool, if◌then◌else◌, true, false, List, [], ◌∷◌, ◌++◌, length, drop, Option, Some, Result, Ok, Err, IfSome, refl, sym, ap, subst, ◌∙◌, arith, length-append}
use Rattle.std.specs.Io.KnownBytes.{Appends}
use Rattle.std.specs.List.{list_any}
use Rattle.std.proofs.lemmas.List.{append-nil}
use Rattle.std.proofs.lemmas.List.Sums.{sum_by-append}
use Rattle.std.proofs.lemmas.Grind.{flat_map-append, common_steps}
use Rattle.std.proofs.KnownBytes.{Appends-trans, Appends-nil}
use Rattle.sd_call.specs.declared.item.Item.{Item}
use Rattle.sd_ipc.specs.Reading.{item_in, frame_size}
use Rattle.sd_ipc.specs.Taking.{Told}
use Rattle.sd_client.specs.Connections.{Connection, TakesItem, Processes}
use Rattle.sd_client.specs.declared.error.ClientError.{ClientError}
use Rattle.sd_client.specs.declared.error.ClientError.TheVariants as client
use Rattle.sd_command.specs.Endings.{ending_of}
use Rattle.sd_command.specs.Lines.{item_line, lines_of, is_answer, is_refusal, answer_count, GoesOn}
use Rattle.sd_command.specs.Hearing.{AreRead, IsNext, Heard}
use Rattle.sd_command.specs.Steps.{counted, Prints, Steps}
use Rattle.sd_command.specs.declared.ending.Ending.{Ending}
use Rattle.sd_command.specs.declared.ending.Ending.TheVariants.{Done, Usage, PeerFault, Refused, Ended, WriteFault, NoMemory, BadFrame, TooMany}

-- one item more was read
AreRead-snoc : (bytes : List ℕ) (items : List Item) (rest : List ℕ) (item : Item) → AreRead bytes items rest → IsNext rest item → AreRead bytes (items ++ item ∷ []) (drop (frame_size rest) rest)
AreRead-snoc bytes [] rest item e next = (ap item_in (sym e) ∙ next, ap (λ (r : List ℕ). drop (frame_size r) r) e)
AreRead-snoc bytes (first ∷ items) rest item h next = (h.0, AreRead-snoc (drop (frame_size bytes) bytes) items rest item h.1 next)

-- how many lines of answers there are with one item more
one_more : (answers : Bool) (lines : ℕ) → lines + (0 + (if answers then 1 else 0)) ≡ (if answers then lines + 1 else lines)
one_more true lines = omega arith
one_more false lines = omega arith

answer_count-snoc : (items : List Item) (item : Item) → answer_count (items ++ item ∷ []) ≡ counted (answer_count items) item
answer_count-snoc items item = sum_by-append (λ (one : Item). if is_answer one then 1 else 0) items (item ∷ []) ∙ one_more (is_answer item) (answer_count items)

-- no item refuses
none_refuses-snoc : (items : List Item) (item : Item) → list_any is_refusal items ≡ false → is_refusal item ≡ false → list_any is_refusal (items ++ item ∷ []) ≡ false
none_refuses-snoc [] item none h = grind (arith, common_steps, h)
none_refuses-snoc (first ∷ items) item none h = grind (arith, common_steps, none_refuses-snoc items item)

-- the lines of one item more
lines_of-snoc : (items : List Item) (item : Item) → lines_of (items ++ item ∷ []) ≡ lines_of items ++ item_line item
lines_of-snoc items item = flat_map-append item_line items (item ∷ []) ∙ ap (λ (l : List ℕ). lines_of items ++ l) (append-nil (item_line item))

-- What was heard and printed so far: items that let the tool go on.
pub record HasHeard (count : Option ℕ) (old now : Connection) (before after : Option (List ℕ)) (lines reads : ℕ) : Type 0 where
  pub items : List Item
  pub read : Told old.left (λ bytes. (rest : List ℕ) × (now.left ≡ Some rest) × AreRead bytes items rest)
  pub going : GoesOn count items
  pub lines_are : lines ≡ answer_count items
  pub reads_are : length items ≡ reads
  pub printed : Appends before after (lines_of items)
  pub kept : now ≡ record old { left = now.left }

-- at first
pub heard_none : (count : Option ℕ) (old : Connection) (before : Option (List ℕ)) → IfSome count (λ most. 0 < most) → HasHeard count old old before before 0 0
heard_none count old before some = record {
  items = [];
  read = λ bytes e. (bytes, e, refl);
  going = record { none_refuses = refl; below = some };
  lines_are = refl;
  reads_are = refl;
  printed = Appends-nil before;
  kept = refl;
}

-- one item more, behind which the tool goes on
heard_more : (count : Option ℕ) (old mid new : Connection) (before between after : Option (List ℕ)) (lines reads next : ℕ) (item : Item)
    → (h : HasHeard count old mid before between lines reads) → TakesItem mid new item → is_refusal item ≡ false → Appends between after (item_line item)
    → next ≡ answer_count (h.items ++ item ∷ []) → IfSome count (λ most. next < most) → HasHeard count old new before after next (reads + 1)
heard_more count old mid new before between after lines reads next item h t good put counted below = record {
  items = h.items ++ item ∷ [];
  read = λ bytes e. let s = h.read bytes e in (drop (frame_size s.0) s.0, t.taken s.0 s.1, AreRead-snoc bytes h.items s.0 item s.2 (t.spelled s.0 s.1));
  going = record {
    none_refuses = none_refuses-snoc h.items item h.going.none_refuses good;
    below = subst (λ (n : ℕ). IfSome count (λ most. n < most)) counted below;
  };
  lines_are = counted;
  reads_are = length-append h.items (item ∷ []) ∙ ap (λ (n : ℕ). n + 1) h.reads_are;
  printed = subst (Appends before after) (sym (lines_of-snoc h.items item)) (Appends-trans before between after _ _ h.printed put);
  kept = t.rest ∙ ap (λ (c : Connection). record c { left = new.left }) h.kept;
}

-- one item more
pub heard_next : (count : Option ℕ) (old mid new : Connection) (before between after : Option (List ℕ)) (lines reads next : ℕ)
    → HasHeard count old mid before between lines reads → Steps count lines mid new between after (Ok next) → HasHeard count old new before after next (reads + 1)
heard_next count old mid new before between after lines reads next h s =
    let n : next ≡ answer_count (h.items ++ s.0 ∷ []) = s.2.1 ∙ ap (λ (n : ℕ). counted n s.0) h.lines_are ∙ sym (answer_count-snoc h.items s.0) in
    heard_more count old mid new before between after lines reads next s.0 h s.1 s.2.0 s.2.3 n s.2.2

-- how many there are then at most
pub few_more : (lines reads next : ℕ) (item : Item) → lines ≤ reads → next ≡ counted lines item → next ≤ reads + 1
few_more lines reads next item few e = rw e (elim (is_answer item) as (λ b. (if b then lines + 1 else lines) ≤ reads + 1) [ true ↦ omega arith | false ↦ omega arith ])

-- nothing was put
same_put : (before between after : Option (List ℕ)) (bytes : List ℕ) → Appends before between bytes → after ≡ between → Appends before after bytes
same_put before between after bytes h e = subst (λ (o : Option (List ℕ)). Appends before o bytes) (sym e) h

-- why the tool ended
pub heard_end : (ending : Ending) (count : Option ℕ) (old mid new : Connection) (before between after : Option (List ℕ)) (lines reads : ℕ)
    → HasHeard count old mid before between lines reads → reads < 4294967295 → Steps count lines mid new between after (Err ending) → Told old.left (λ bytes. Heard count bytes ending before after)
heard_end Done count old mid new before between after lines reads h few s bytes e =
    let r = h.read bytes e in record {
      items = h.items;
      rest = r.0;
      read = r.2;
      going = h.going;
      few = λ _. rw h.reads_are few;
      closed = (s.0, s.1.spelled r.0 r.1, s.2.0, s.2.1 ∙ ap (λ (n : ℕ). Some (n + 1)) h.lines_are, Appends-trans before between after _ _ h.printed s.2.2);
    }
heard_end Usage count old mid new before between after lines reads h few s bytes e = absurd s
heard_end TooMany count old mid new before between after lines reads h few s bytes e = absurd s
heard_end PeerFault count old mid new before between after lines reads h few s bytes e =
    let r = h.read bytes e in record { items = h.items; rest = r.0; read = r.2; going = h.going; few = λ _. rw h.reads_are few; closed = same_put before between after _ h.printed s }
heard_end NoMemory count old mid new before between after lines reads h few s bytes e =
    let r = h.read bytes e in record { items = h.items; rest = r.0; read = r.2; going = h.going; few = λ _. rw h.reads_are few; closed = same_put before between after _ h.printed s }
heard_end Ended count old mid new before between after lines reads h few s bytes e =
    let r = h.read bytes e in record { items = h.items; rest = r.0; read = r.2; going = h.going; few = λ _. rw h.reads_are few; closed = (s.0 r.0 r.1, same_put before between after _ h.printed s.1) }
heard_end BadFrame count old mid new before between after lines reads h few s bytes e =
    let r = h.read bytes e in record { items = h.items; rest = r.0; read = r.2; going = h.going; few = λ _. rw h.reads_are few; closed = (s.0 r.0 r.1, same_put before between after _ h.printed s.1) }
heard_end Refused count old mid new before between after lines reads h few s bytes e =
    let r = h.read bytes e in record {
      items = h.items;
      rest = r.0;
      read = r.2;
      going = h.going;
      few = λ _. rw h.reads_are few;
      closed = (s.0, s.1.spelled r.0 r.1, s.2.0, Appends-trans before between after _ _ h.printed s.2.1);
    }
heard_end WriteFault count old mid new before between after lines reads h few s bytes e =
    let r = h.read bytes e in record {
      items = h.items;
      rest = r.0;
      read = r.2;
      going = h.going;
      few = λ _. rw h.reads_are few;
      closed = (s.0, s.1.spelled r.0 r.1, (s.2.0, Appends-trans before between after _ _ h.printed s.2.1));
    }

-- as many items as there may be
pub heard_many : (count : Option ℕ) (old mid : Connection) (before after : Option (List ℕ)) (lines : ℕ)
    → HasHeard count old mid before after lines 4294967295 → Told old.left (λ bytes. Heard count bytes TooMany before after)
heard_many count old mid before after lines h bytes e =
    let r = h.read bytes e in record { items = h.items; rest = r.0; read = r.2; going = h.going; few = λ other. absurd (other refl); closed = (h.reads_are, h.printed) }

-- no item was taken
pub no_item : (error : ClientError) (count : Option ℕ) (lines : ℕ) (old new : Connection) (before : Option (List ℕ)) → old.over ≡ false → Processes old new (Err error) → Steps count lines old new before before (Err (ending_of error))
no_item client.BadParam count lines old new before going p = absurd p
no_item client.PeerFault count lines old new before going p = refl
no_item client.Ended count lines old new before going p = elim p [ inl over ↦ cc | inr found ↦ (found.1, refl) ]
no_item client.BadFrame count lines old new before going p = (p.1, refl)
no_item client.NoMemory count lines old new before going p = refl

-- an item was taken, and printed
pub prints_item : (result : Result ℕ Ending) (count : Option ℕ) (lines : ℕ) (old new : Connection) (item : Item) (before after : Option (List ℕ))
    → TakesItem old new item → Prints count lines item before after result → Steps count lines old new before after result
prints_item (Ok answer) count lines old new item before after t p = (item, t, p)
prints_item (Err Done) count lines old new item before after t p = (item, t, p)
prints_item (Err Usage) count lines old new item before after t p = absurd p
prints_item (Err PeerFault) count lines old new item before after t p = absurd p
prints_item (Err Refused) count lines old new item before after t p = (item, t, p)
prints_item (Err Ended) count lines old new item before after t p = absurd p
prints_item (Err WriteFault) count lines old new item before after t p = (item, t, p)
prints_item (Err NoMemory) count lines old new item before after t p = p
prints_item (Err BadFrame) count lines old new item before after t p = absurd p
prints_item (Err TooMany) count lines old new item before after t p = absurd p
