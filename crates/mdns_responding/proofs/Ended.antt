-- Where an event ends no group there is no goodbye; and which records are own behind an event, group by group.
use Rattle.std.proofs.Common.{◌≡◌, ℕ, ℤ, Bor, ◌||◌, ◌&&◌, Bool, true, false, not, cond, List, [], ◌∷◌, ◌++◌, map, refl, ap, ◌∙◌, sym, append-nil}
use Rattle.std.specs.Prelude.{filter}
use Rattle.std.specs.List.{list_any, flat_map}
use Rattle.std.proofs.lemmas.List.Folds.{list_any-append}
use Rattle.dns_message.specs.Packing.{pack_plain}
use Rattle.lists.specs.Lists.{ordered, without}
use Rattle.dns_record.specs.declared.record.Rr.{Rr}
use Rattle.dns_record.specs.Records.{same, record_cmp}
use Rattle.mdns_history.specs.Groups.{Group}
use Rattle.mdns_history.specs.Sending.{to_all, taken_back}
use Rattle.sd_call.specs.declared.request.Request.{Request}
use Rattle.mdns_happened.specs.declared.happened.Happened.{Happened}
use Rattle.mdns_happened.specs.declared.happened.Happened.TheVariants as happening
use Rattle.mdns_happened.specs.Told.{Told, told_by}
use Rattle.mdns_probe.specs.declared.claim.Claim.{Claim}
use Rattle.mdns_probe.specs.Kept.{Kept}
use Rattle.mdns_claims.specs.Behind.{ends_by}
use Rattle.mdns_claims.specs.Owned.{own_in}
use Rattle.mdns_claims.specs.Planned.{going_on}
use Rattle.mdns_responding.specs.Announced.{records_in, ended_in, goodbyes_told}
use Rattle.mdns_reply.specs.Lasts.{Last}
use Rattle.mdns_debts.specs.Queries.{Query}
use Rattle.mdns_responding.specs.Told.{responses_told}

none-ended : (told : Told) → ((group : Group) → ends_by told [] group ≡ false) → (kept : List Kept) → ended_in told kept ≡ []
none-ended told none [] = refl
none-ended told none (one ∷ kept) = of one.claim.sure ∙ none-ended told none kept
  where
    of : (b : Bool) → cond (b && ends_by told [] one.group) (one ∷ ended_in told kept) (ended_in told kept) ≡ ended_in told kept
    of true = ap (λ c. cond c (one ∷ ended_in told kept) (ended_in told kept)) (none one.group)
    of false = refl

-- Where an event ends no group it sends no goodbye.
pub no-goodbyes : (told : Told) → ((group : Group) → ends_by told [] group ≡ false) → (kept : List Kept) → goodbyes_told told kept ≡ []
unfolding pack_plain
no-goodbyes told none kept =
    ap (λ (ended : List Kept). map to_all (pack_plain (map taken_back (without same (ordered record_cmp (records_in ended)) (own_in (going_on told [] kept)))))) (none-ended told none kept)

-- A record is own behind an event where the first group has it and is sure and goes on, or else one of the others.
pub still-more : (told : Told) (rr : Rr) (one : Kept) (kept : List Kept) →
    list_any (same rr) (own_in (going_on told [] (one ∷ kept))) ≡ (list_any (same rr) (own_in (going_on told [] (one ∷ []))) || list_any (same rr) (own_in (going_on told [] kept)))
still-more told rr one kept = of (ends_by told [] one.group)
  where
    rest : List Kept
    rest = going_on told [] kept

    sure : List Claim
    sure = filter (λ claim. claim.sure) (map (λ (other : Kept). other.claim) rest)

    records : Claim → List Rr
    records claim = claim.unique ++ claim.shared

    of_sure : (s : Bool) → list_any (same rr) (flat_map records (cond s (one.claim ∷ sure) sure)) ≡ (list_any (same rr) (flat_map records (cond s (one.claim ∷ []) [])) || list_any (same rr) (flat_map records sure))
    of_sure true =
        list_any-append (same rr) (records one.claim) (flat_map records sure)
        ∙ ap (λ (l : List Rr). list_any (same rr) l || list_any (same rr) (flat_map records sure)) (sym (append-nil (records one.claim)))
    of_sure false = refl

    of : (e : Bool) → list_any (same rr) (own_in (cond (not e) (one ∷ rest) rest)) ≡ (list_any (same rr) (own_in (cond (not e) (one ∷ []) [])) || list_any (same rr) (own_in rest))
    of true = refl
    of false = of_sure one.claim.sure

-- What happened sends no response, where time hasn't passed, no call was answered and no session was ended.
pub no_responses : (happened : Happened) (moment : ℕ) (lasts : List Last) (queries : List Query) (kept later : List Kept) → (happened ≡ happening.Ticked → ⊥)
    → ((session op : ℕ) (request : Bor Request) (code : ℤ) → happened ≡ happening.Called session op request code → ⊥) → ((session : ℕ) → happened ≡ happening.Detached session → ⊥)
    → responses_told (told_by happened) moment lasts queries kept later ≡ []
no_responses happening.Ticked moment lasts queries kept later time called ended = absurd (time refl)
no_responses (happening.Heard said) moment lasts queries kept later time called ended = no-goodbyes (told_by (happening.Heard said)) (λ group. refl) kept
no_responses (happening.Refused why) moment lasts queries kept later time called ended = no-goodbyes (told_by (happening.Refused why)) (λ group. refl) kept
no_responses (happening.Opened session) moment lasts queries kept later time called ended = no-goodbyes (told_by (happening.Opened session)) (λ group. refl) kept
no_responses (happening.Called session op request code) moment lasts queries kept later time called ended = absurd (called session op request code refl)
no_responses (happening.Detached session) moment lasts queries kept later time called ended = absurd (ended session refl)
no_responses (happening.Took session max) moment lasts queries kept later time called ended = no-goodbyes (told_by (happening.Took session max)) (λ group. refl) kept
no_responses (happening.Nothing why) moment lasts queries kept later time called ended = no-goodbyes (told_by (happening.Nothing why)) (λ group. refl) kept
