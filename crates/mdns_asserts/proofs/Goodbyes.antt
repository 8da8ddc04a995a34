-- A goodbye is of a record that was own before.
use Rattle.std.proofs.Common.{◌≡◌, Bool, true, false, not, ◌||◌, List, [], ◌∷◌, map, refl, ap, subst, ◌∙◌}
use Rattle.std.specs.Prelude.{nat_lt}
use Rattle.std.specs.List.{list_all, flat_map}
use Rattle.lists.specs.Lists.{ordered, without}
use Rattle.dns_record.specs.declared.record.Rr.{Rr}
use Rattle.dns_record.specs.Records.{same, record_cmp}
use Rattle.dns_record.proofs.Same.{same_tells}
use Rattle.dns_message.specs.declared.message.Message.{Message}
use Rattle.dns_message.specs.Packing.{pack_plain}
use Rattle.mdns_history.specs.declared.event.Event.{Event}
use Rattle.mdns_history.specs.declared.event.Event.TheVariants as event
use Rattle.mdns_history.specs.declared.entry.Sent.{Sent}
use Rattle.mdns_history.specs.declared.entry.Entry.{Entry}
use Rattle.mdns_history.specs.InForce.{Duties, only_if}
use Rattle.mdns_history.specs.Groups.{Group, is_group, group_records}
use Rattle.mdns_history.specs.Sureness.{sure_groups, own_records, is_own}
use Rattle.mdns_history.specs.Sending.{to_all, taken_back, ended_groups, sent_goodbyes}
use Rattle.mdns_history.specs.Fitting.{bare_entry, event_sends, IsLegalFrom}
use Rattle.mdns_history.specs.Debts.{sections}
use Rattle.mdns_asserts.specs.Earned.{takes_back_own}
use Rattle.mdns_asserts.proofs.Elements.{In, all_in, any_in, of_map, of_flat_map, of_filter, of_ordered, of_without, in_flat_map, or_one, or_two}
use Rattle.mdns_asserts.proofs.Followed.{sent-next, of_only_if}
use Rattle.mdns_asserts.proofs.Packed.{of_plain}
use Rattle.mdns_asserts.proofs.Told.{tick_told}

same_taken_back : (rr : Rr) → same (taken_back rr) rr ≡ true
same_taken_back rr = (same_tells (taken_back rr) rr).1 refl

-- the records of goodbyes were own
goodbye_own : (entry : Entry) (past : List Entry) (sent : Sent) (rr : Rr) → In sent (sent_goodbyes entry past) → In rr (sections sent.message) → is_own rr past ≡ true
unfolding sent_goodbyes is_own own_records
goodbye_own entry past sent rr n m =
    let all : List Rr = flat_map (λ group. group_records group past) (ended_groups entry past) in
    let left : List Rr = without same (ordered record_cmp all) (own_records (entry ∷ past)) in
    let found : (message : Message) × In message (pack_plain (map taken_back left)) × (sent ≡ to_all message) = of_map to_all sent (pack_plain (map taken_back left)) n in
    let back : (r : Rr) × In r left × (rr ≡ taken_back r) = of_map taken_back rr left (of_plain (map taken_back left) found.0 rr found.1 (subst (λ s. In rr (sections s.message)) found.2 m)) in
    let of_group : (group : Group) × In group (ended_groups entry past) × In back.0 (group_records group past) =
    of_flat_map (λ group. group_records group past) back.0 (ended_groups entry past) (of_ordered record_cmp back.0 all (of_without same back.0 (ordered record_cmp all) (own_records (entry ∷ past)) back.1)) in
    let sure : In of_group.0 (sure_groups past) = (of_filter (λ group. not (is_group group.id (entry ∷ past))) of_group.0 (sure_groups past) of_group.1).0 in
    any_in (same rr) (own_records past) back.0 (in_flat_map (λ group. group_records group past) of_group.0 back.0 (sure_groups past) sure of_group.2) (ap (λ r. same r back.0) back.2 ∙ same_taken_back back.0)

takes_back : (past : List Entry) (message : Message) → (message.response ≡ true → (rr : Rr) → In rr (sections message) → (nat_lt 0 rr.ttl || is_own rr past) ≡ true) → takes_back_own past message ≡ true
takes_back past message each = of message.response refl
  where
    of : (b : Bool) → message.response ≡ b → (not b || list_all (λ rr. nat_lt 0 rr.ttl || is_own rr past) (sections message)) ≡ true
    of true e = all_in (λ rr. nat_lt 0 rr.ttl || is_own rr past) (sections message) (each e)
    of false e = refl

goodbyes_back : (duties : Duties) (entry : Entry) (past : List Entry) → list_all (λ sent. takes_back_own past sent.message) (only_if duties.announcing (sent_goodbyes entry past)) ≡ true
goodbyes_back duties entry past =
    all_in (λ sent. takes_back_own past sent.message) (only_if duties.announcing (sent_goodbyes entry past))
    (λ sent n. takes_back past sent.message
    (λ response rr m. or_two (nat_lt 0 rr.ttl) (is_own rr past) (goodbye_own entry past sent rr (of_only_if duties.announcing (sent_goodbyes entry past) sent n) m)))

pub sends_back : (duties : Duties) (entry : Entry) (past : List Entry) (ev : Event) → list_all (λ sent. takes_back_own past sent.message) (event_sends duties entry past ev) ≡ true
sends_back duties entry past event.Tick =
    all_in (λ sent. takes_back_own past sent.message) (event_sends duties entry past event.Tick)
    (λ sent n. takes_back past sent.message (λ response rr m. or_one (nat_lt 0 rr.ttl) (is_own rr past) (tick_told duties entry past sent rr n response m).published.lasts))
sends_back duties entry past (event.Boot config) = goodbyes_back duties entry past
sends_back duties entry past event.Attach = goodbyes_back duties entry past
sends_back duties entry past (event.Detach session) = goodbyes_back duties entry past
sends_back duties entry past (event.Call session op request) = goodbyes_back duties entry past
sends_back duties entry past (event.Hear from bytes) = goodbyes_back duties entry past
sends_back duties entry past (event.Take session max) = goodbyes_back duties entry past

-- what an entry of a legal history takes back
pub goodbyes_own : (duties : Duties) (entry : Entry) (past : List Entry) → IsLegalFrom duties entry past → list_all (λ sent. takes_back_own past sent.message) entry.sent ≡ true
goodbyes_own duties entry [] legal = ap (λ e. list_all (λ sent. takes_back_own [] sent.message) e.sent) legal.3
goodbyes_own duties entry (before ∷ past) legal =
    ap (λ e. list_all (λ sent. takes_back_own (before ∷ past) sent.message) e.sent) (legal.0).determined
    ∙ ap (list_all (λ sent. takes_back_own (before ∷ past) sent.message)) (sent-next duties (before ∷ past) entry.moment entry.word entry.event)
    ∙ sends_back duties (bare_entry entry.moment entry.word entry.event (before ∷ past)) (before ∷ past) entry.event
