-- Own records by name, the NSEC records of sure names, and the answers of registrations, read off the groups that are kept.
use Rattle.std.specs.Prelude.{◌≡◌, ℕ, Bool, true, List, ◌∷◌, [], ◌++◌, map, filter, if◌then◌else◌}
use Rattle.std.specs.List.{list_any}
use Rattle.std.specs.Option.{option_map_or}
use Rattle.dns_name.specs.Names.{folded_eq}
use Rattle.dns_record.specs.declared.record.Rr.{Rr}
use Rattle.dns_record.specs.Records.{same}
use Rattle.sd_call.specs.declared.answer.Answer.{Answer}
use Rattle.sd_call.specs.declared.answer.Answer.TheVariants.{Conflict}
use Rattle.mdns_history.specs.Answers.{named_if}
use Rattle.mdns_history.specs.Debts.{nsec_record, is_nsec}
use Rattle.mdns_probe.specs.declared.claim.Claim.{Claim}
use Rattle.mdns_probe.specs.Kept.{Kept, name_of, own_of}
use Rattle.mdns_probe.specs.Answering.{registered_by}

-- the records of a name, case aside
abbrev pub of_name : List (List ℕ) → List Rr → List Rr
of_name name rrs = filter (λ rr. folded_eq rr.owner name) rrs

-- the own records of groups
abbrev pub own_in : List Kept → List Rr
own_in kept = own_of (map (λ one. one.claim) kept)

-- the NSEC record of a group's name: it says which types the name has (RFC 6762 6.1)
abbrev pub nsec_for : Kept → Rr
nsec_for one = nsec_record (name_of one) one.claim.unique

-- the NSEC records of the groups that are sure
abbrev pub nsecs_in : List Kept → List Rr
nsecs_in kept = map nsec_for (filter (λ one. one.claim.sure) kept)

-- Whether a record is the daemon's to send: it is own, or the NSEC record of a sure name. (RFC 6762 6 and 6.1)
abbrev pub is_ours : List Kept → Rr → Bool
is_ours kept rr = if is_nsec rr then list_any (same rr) (nsecs_in kept) else list_any (same rr) (own_in kept)

-- the answers of a registration, where these groups are live
abbrev pub registered_answers : ℕ → ℕ → List Kept → List Answer
registered_answers session op kept = option_map_or (λ one. named_if one.claim.sure (name_of one)) (registered_by session op kept) (Conflict ∷ [])

-- whether a name is one of several, case aside
abbrev pub is_among : List (List (List ℕ)) → List (List ℕ) → Bool
is_among names name = list_any (folded_eq name) names

-- the names that are among some are among others, case aside
abbrev pub AreWithin : List (List (List ℕ)) → List (List (List ℕ)) → Type 0
AreWithin some others = (name : List (List ℕ)) → is_among some name ≡ true → is_among others name ≡ true

-- the records of a claim that have a name, if it is sure
abbrev pub claimed_of : List (List ℕ) → Bool → Claim → List Rr
claimed_of name sure claim = if sure then of_name name claim.unique ++ of_name name claim.shared else []

-- the records of a claim, if it is sure
abbrev pub claimed : Bool → Claim → List Rr
claimed sure claim = if sure then claim.unique ++ claim.shared else []

-- the NSEC record of a group's name, if it is sure
abbrev pub nsec_if_sure : Kept → List Rr
nsec_if_sure one = if one.claim.sure then nsec_for one ∷ [] else []
