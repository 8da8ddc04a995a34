-- The goodbyes of an event are of the groups that end with their operations.
use Rattle.std.proofs.Common.{◌≡◌, ℕ, ◌==◌, Bool, true, false, ◌&&◌, ◌||◌, List, [], ◌∷◌, map, refl, ap, sym, ◌∙◌, Option, Some, None}
use Rattle.std.specs.List.{flat_map}
use Rattle.lists.specs.Lists.{ordered, without}
use Rattle.dns_record.specs.declared.record.Rr.{Rr}
use Rattle.dns_record.specs.Records.{same, record_cmp}
use Rattle.dns_message.specs.Packing.{pack_plain}
use Rattle.mdns_history.specs.declared.event.Event.{Event}
use Rattle.mdns_history.specs.declared.event.Event.TheVariants as event
use Rattle.mdns_history.specs.declared.entry.Entry.{Entry}
use Rattle.mdns_history.specs.declared.entry.Sent.{Sent}
use Rattle.mdns_history.specs.declared.entry.Outcome.{Outcome}
use Rattle.mdns_history.specs.Sessions.{Accepted, accepted_call, detached, is_number, stops}
use Rattle.mdns_history.specs.Groups.{Group, group_records}
use Rattle.mdns_history.specs.Sureness.{own_records}
use Rattle.mdns_history.specs.Outcomes.{early_outcome}
use Rattle.mdns_history.specs.Sending.{to_all, taken_back, ended_groups, sent_goodbyes}
use Rattle.mdns_history.specs.Fitting.{bare_entry}
use Rattle.mdns_happened.specs.Told.{Told}
use Rattle.mdns_probe.specs.Kept.{all_kept}
use Rattle.mdns_claims.specs.Behind.{ends_by}
use Rattle.mdns_claims.specs.Owned.{own_in}
use Rattle.mdns_claims.specs.Planned.{going_on}
use Rattle.mdns_claims.specs.Laws.{told_in}
use Rattle.mdns_responding.specs.Announced.{records_in, ended_in, goodbyes_told}
use Rattle.mdns_responding.specs.AnnouncedLaws.{GoodbyesAreKept}
use Rattle.mdns_responding.proofs.Each.{filter_none}
use Rattle.mdns_responding.proofs.Ending.{ended_records}
use Rattle.mdns_responding.proofs.Staying.{only_stops, staying_own}

-- goodbyes of these records, without those that are still own
abbrev said_of : List Rr → List Rr → List Sent
said_of ended own = map to_all (pack_plain (map taken_back (without same (ordered record_cmp ended) own)))

-- an event that accepts another call ends no session
undetached : (ev : Event) (outcome : Outcome) → only_stops (accepted_call ev outcome) ≡ false → ◌≡◌ {A = Option ℕ} (detached ev outcome) None
undetached (event.Boot config) outcome h = refl
undetached event.Attach outcome h = refl
undetached (event.Detach session) outcome h = cc
undetached (event.Call session op request) outcome h = refl
undetached (event.Hear from bytes) outcome h = refl
undetached event.Tick outcome h = refl
undetached (event.Take session max) outcome h = refl

unstopped : (session op : ℕ) (o : Option Accepted) → only_stops o ≡ false → stops session op o ≡ false
unstopped session op None h = refl
unstopped session op (Some call) h = ap (λ b. (call.session == session) && (call.op == op) && b) h ∙ of (call.session == session) (call.op == op)
  where
    of : (a b : Bool) → (a && b && false) ≡ false
    of true true = refl
    of true false = refl
    of false b = refl

pub goodbyes_are : GoodbyesAreKept
unfolding sent_goodbyes
goodbyes_are duties past moment word ev claiming legal later no_boot no_tick = of (only_stops (accepted_call ev (early_outcome ev past))) refl
  where
    bare : Entry
    bare = bare_entry moment word ev past

    told : Told
    told = told_in past moment word ev

    ended : flat_map (λ group. group_records group past) (ended_groups bare past) ≡ records_in (ended_in told (all_kept past))
    ended = ended_records past moment word ev no_boot duties legal

    none_ends : only_stops (accepted_call ev (early_outcome ev past)) ≡ false → (group : Group) → ends_by told [] group ≡ false
    none_ends e group = λ i. (is_number group.session (undetached ev (early_outcome ev past) e i) || unstopped group.session group.op (accepted_call ev (early_outcome ev past)) e i) || false

    nothing : only_stops (accepted_call ev (early_outcome ev past)) ≡ false → records_in (ended_in told (all_kept past)) ≡ []
    nothing e = ap records_in (filter_none (λ one. one.claim.sure && ends_by told [] one.group) (all_kept past) (λ one. ap (λ b. one.claim.sure && b) (none_ends e one.group) ∙ off one.claim.sure))
      where
        off : (b : Bool) → (b && false) ≡ false
        off true = refl
        off false = refl

    of : (b : Bool) → only_stops (accepted_call ev (early_outcome ev past)) ≡ b → sent_goodbyes bare past ≡ goodbyes_told told (all_kept past)
    of true e = λ i. said_of (ended i) (staying_own past moment word ev no_boot e duties claiming legal later no_tick i)
    of false e = ap (λ rrs. said_of rrs (own_records (bare ∷ past))) (ended ∙ nothing e) ∙ sym (ap (λ rrs. said_of rrs (own_in (going_on told [] (all_kept past)))) (nothing e))
