-- Responses and the marks of announcements, told of what is kept of groups, of last multicasts and of queries, are those of the history.
use Rattle.std.proofs.Common.{◌≡◌, ℕ, ◌≤◌, Bool, true, cond, List, [], ◌∷◌, ◌++◌, map, Some, None, refl, ap, ◌∙◌, sym, append-nil, arith}
use Rattle.std.specs.Prelude.{filter}
use Rattle.std.specs.List.{filter_map, flat_map, cons_option}
use Rattle.lists.specs.Lists.{ordered}
use Rattle.dns_record.specs.declared.record.Rr.{Rr}
use Rattle.dns_record.specs.Records.{record_cmp}
use Rattle.dns_message.specs.Packing.{pack_reply}
use Rattle.mdns_history.specs.declared.event.Event.TheVariants as event
use Rattle.mdns_history.specs.declared.entry.Entry.{Entry}
use Rattle.mdns_history.specs.declared.entry.Sent.{Sent}
use Rattle.mdns_history.specs.InForce.{Duties, only_if}
use Rattle.mdns_history.specs.History.{now}
use Rattle.mdns_history.specs.Multicasts.{multicast_gap, released_records}
use Rattle.mdns_history.specs.Sureness.{own_records}
use Rattle.mdns_history.specs.Sending.{to_all, is_free, wanted_by, announced_records, sent_unicasts}
use Rattle.mdns_history.specs.Fitting.{bare_entry, IsLegal}
use Rattle.mdns_probe.specs.Kept.{Kept, announced_for}
use Rattle.mdns_claims.specs.State.{Contents, Stands}
use Rattle.mdns_claims.specs.Behind.{Occasion, ends, renewed_if, ticked_at, ticked_on, behind, kept_told, occasion_of}
use Rattle.mdns_claims.specs.Laws.{told_in}
use Rattle.mdns_claims.specs.Owned.{own_in}
use Rattle.mdns_reply.specs.Lasts.{Last}
use Rattle.mdns_reply.specs.Lasts as lasts
use Rattle.mdns_debts.specs.Queries.{Query, Placed, owed_queries, replies_at}
use Rattle.mdns_debts.specs.Releasing.{released_by}
use Rattle.mdns_debts.specs.Following.{queries_in}
use Rattle.mdns_debts.proofs.Debts.{are_released_by}
use Rattle.mdns_debts.proofs.Unicasts.{are_replied_to}
use Rattle.mdns_debts.proofs.Kept.{lasts_tell_no_more}
use Rattle.mdns_owing.specs.Owing.{last_in}
use Rattle.mdns_responding.specs.Announced.{announced_in, records_in, goodbyes_told}
use Rattle.mdns_responding.proofs.Announced.{announced_records_are, announced_marks_are, ticks_tell_own}
use Rattle.mdns_responding.proofs.TakenBack.{goodbyes_are}
use Rattle.mdns_responding.specs.Told.{is_free_by}
use Rattle.mdns_responding.specs.Laws.{Follows, ResponsesFollow}

-- a tick leaves each group
all_ticked : (at : Occasion) → at.told.ticks ≡ true → (kept : List Kept) → filter_map (behind at) kept ≡ map (ticked_on at) kept
all_ticked at ticks [] = refl
all_ticked at ticks (one ∷ kept) =
    (λ i. cons_option (cond (ticks i) (Some (ticked_on at one)) (cond (ends at one.group) None (Some (renewed_if at one)))) (all_ticked at ticks kept i))

flat_map-map : {X Y Z : Type 0} (f : Y → List Z) (g : X → Y) (xs : List X) → flat_map f (map g xs) ≡ flat_map (λ x. f (g x)) xs
flat_map-map f g [] = refl
flat_map-map f g (x ∷ xs) = ap (λ l. f (g x) ++ l) (flat_map-map f g xs)

module _ (duties : Duties) (past : List Entry) (moment word : ℕ) (contents : Contents) (kept : List Last) (queries : List Query) (claiming : duties.claiming ≡ true)
    (announcing : duties.announcing ≡ true) (replying : duties.replying ≡ true)
    (legal : IsLegal duties past) (later : now past ≤ moment) (stands : Stands contents past) (lasting : lasts.Stands kept past) (owed : queries ≡ queries_in past) where
  -- nobody can tell the last multicasts that are kept from those of the history
  free-same : is_free past moment ≡ is_free_by kept moment
  unfolding lasts.Stands
  free-same = λ i rr. sym ((lasting rr).gaps multicast_gap moment (omega arith) later) i

  abbrev tick : Entry
  tick = bare_entry moment word event.Tick past

  abbrev at : Occasion
  at = occasion_of contents (told_in past moment word event.Tick) moment word

  -- the messages with these answers, of which some are held back, beside these own records
  abbrev messages : (Rr → Bool) → List Rr → List Rr → List Sent
  messages free answers own = map to_all (pack_reply (ordered record_cmp answers) (map (λ rr. filter free (wanted_by own rr.rdata)) (ordered record_cmp answers)))

  -- what a tick releases is told of the queries and the last multicasts that are kept
  released-are : released_records past moment ≡ released_by (last_in kept) moment queries
  released-are =
      are_released_by past moment
      ∙ sym ((lasts_tell_no_more kept past lasting).released moment (queries_in past) later)
      ∙ ap (released_by (last_in kept) moment) (sym owed)

  answers-are : (only_if duties.announcing (announced_records tick past) ++ only_if duties.replying (released_records past moment))
      ≡ filter (is_free_by kept moment) (records_in (announced_in moment contents.kept)) ++ released_by (last_in kept) moment queries
  answers-are =
      (λ i. only_if (announcing i) (announced_records tick past) ++ only_if (replying i) (released-are i))
      ∙ ap (λ (rrs : List Rr). rrs ++ released_by (last_in kept) moment queries)
      (announced_records_are duties past moment word claiming legal later
      ∙ (λ i. filter (free-same i) (records_in (announced_in moment (sym stands.kept i)))))

  -- so are the replies to askers
  unicasts-are : sent_unicasts past moment ≡ flat_map (replies_at moment) queries
  unicasts-are = are_replied_to past moment ∙ sym (flat_map-map (replies_at moment) (λ (placed : Placed). placed.1) (owed_queries past)) ∙ ap (flat_map (replies_at moment)) (sym owed)

  own-are : own_records (tick ∷ past) ≡ own_in (kept_told contents at)
  own-are =
      ticks_tell_own duties past moment word contents.announces claiming legal later
      ∙ ap (λ (ks : List Kept). own_in (map (ticked_at moment contents.announces) ks)) (sym stands.kept)
      ∙ ap own_in (sym (append-nil (filter_map (behind at) contents.kept) ∙ all_ticked at refl contents.kept))

  tick_follows : Follows duties past moment word event.Tick contents kept queries
  tick_follows = record {
    sent = sym (λ i. messages (free-same i) (answers-are i) (own-are i) ++ unicasts-are i);
    marks = ap (λ (ks : List Kept). announced_for (map (λ one. one.claim) ks) moment) stands.kept ∙ sym (announced_marks_are duties past moment word claiming legal later);
  }

-- What is read off what is kept is what the history says.
pub responses_follow : ResponsesFollow
responses_follow duties past moment word event.Tick contents kept queries claiming announcing replying no_boot legal later stands lasting owed =
    tick_follows duties past moment word contents kept queries claiming announcing replying legal later stands lasting owed
responses_follow duties past moment word (event.Boot config) contents kept queries claiming announcing replying no_boot legal later stands lasting owed = cc
responses_follow duties past moment word event.Attach contents kept queries claiming announcing replying no_boot legal later stands lasting owed = record {
  sent = ap (λ (ks : List Kept). goodbyes_told (told_in past moment word event.Attach) ks) stands.kept ∙ sym (goodbyes_are duties past moment word event.Attach claiming legal later refl refl);
  marks = refl;
}
responses_follow duties past moment word (event.Detach session) contents kept queries claiming announcing replying no_boot legal later stands lasting owed = record {
  sent = ap (λ (ks : List Kept). goodbyes_told (told_in past moment word (event.Detach session)) ks) stands.kept ∙ sym (goodbyes_are duties past moment word (event.Detach session) claiming legal later refl refl);
  marks = refl;
}
responses_follow duties past moment word (event.Call session op request) contents kept queries claiming announcing replying no_boot legal later stands lasting owed = record {
  sent = ap (λ (ks : List Kept). goodbyes_told (told_in past moment word (event.Call session op request)) ks) stands.kept
      ∙ sym (goodbyes_are duties past moment word (event.Call session op request) claiming legal later refl refl);
  marks = refl;
}
responses_follow duties past moment word (event.Hear from bytes) contents kept queries claiming announcing replying no_boot legal later stands lasting owed = record {
  sent = ap (λ (ks : List Kept). goodbyes_told (told_in past moment word (event.Hear from bytes)) ks) stands.kept ∙ sym (goodbyes_are duties past moment word (event.Hear from bytes) claiming legal later refl refl);
  marks = refl;
}
responses_follow duties past moment word (event.Take session max) contents kept queries claiming announcing replying no_boot legal later stands lasting owed = record {
  sent = ap (λ (ks : List Kept). goodbyes_told (told_in past moment word (event.Take session max)) ks) stands.kept ∙ sym (goodbyes_are duties past moment word (event.Take session max) claiming legal later refl refl);
  marks = refl;
}
