-- Each probe goes to all, and lists the unique records of a live group of its name.
use Rattle.std.proofs.Common.{◌≡◌, ℕ, Bool, true, false, not, ◌&&◌, List, [], ◌∷◌, map, refl, ap, ◌∙◌}
use Rattle.std.specs.List.{list_all, list_any}
use Rattle.mdns_base.specs.declared.host.Dest.TheVariants.{All}
use Rattle.mdns_base.specs.Hosts.{dest_eq}
use Rattle.dns_name.specs.Names.{folded_eq}
use Rattle.dns_record.specs.declared.record.Rr.{Rr}
use Rattle.dns_record.specs.Records.{same}
use Rattle.dns_record.proofs.Same.{same_tells}
use Rattle.mdns_history.specs.declared.entry.Sent.{Sent}
use Rattle.mdns_history.specs.declared.entry.Entry.{Entry}
use Rattle.mdns_history.specs.InForce.{Duties}
use Rattle.mdns_history.specs.Groups.{Group, groups, group_name, unique_records}
use Rattle.mdns_history.specs.Sureness.{is_probe}
use Rattle.mdns_history.specs.Probing.{is_probed_at, probed_groups}
use Rattle.mdns_history.specs.Announcing.{same_records}
use Rattle.mdns_history.specs.Sending.{unflushed}
use Rattle.mdns_history.specs.Fitting.{IsLegalFrom}
use Rattle.mdns_asserts.specs.Earned.{is_whole}
use Rattle.mdns_asserts.proofs.Elements.{In, all_in, any_in, in_map, of_map, of_filter, and_both, or_one, or_two, not_false}
use Rattle.mdns_asserts.proofs.Probes.{IsProbing, probe_sent}

-- records are the same without their flush bits
unflushed_same : (rrs : List Rr) → same_records rrs (map unflushed rrs) ≡ true
unflushed_same rrs =
    and_both (list_all (λ rr. list_any (same rr) (map unflushed rrs)) rrs) (list_all (λ rr. list_any (same rr) rrs) (map unflushed rrs))
    (all_in (λ rr. list_any (same rr) (map unflushed rrs)) rrs (λ rr m. any_in (same rr) (map unflushed rrs) (unflushed rr) (in_map unflushed rr rrs m) ((same_tells rr (unflushed rr)).1 refl)))
    (all_in (λ rr. list_any (same rr) rrs) (map unflushed rrs) (λ rr m. let found : (r : Rr) × In r rrs × (rr ≡ unflushed r) = of_map unflushed rr rrs m in
    any_in (same rr) rrs found.0 found.1 (ap (λ r. same r found.0) found.2 ∙ (same_tells (unflushed found.0) found.0).1 refl)))

probing_whole : (claiming : Bool) (past : List Entry) (moment : ℕ) (name : List (List ℕ)) (sent : Sent) → IsProbing claiming past moment name sent → is_whole name past sent ≡ true
unfolding probed_groups
probing_whole claiming past moment name sent p =
    let claims : Group → Bool = λ group. folded_eq (group_name group past) name && same_records (unique_records group past) sent.message.authority in
    let listed : same_records (unique_records p.group past) sent.message.authority ≡ true = ap (λ (s : Sent). same_records (unique_records p.group past) s.message.authority) p.sends ∙ unflushed_same (unique_records p.group past) in
    or_two (not (is_probe name sent.message)) (dest_eq sent.to All && list_any claims (groups past))
    (and_both (dest_eq sent.to All) (list_any claims (groups past)) (ap (λ (s : Sent). dest_eq s.to All) p.sends)
    (any_in claims (groups past) p.group (of_filter (is_probed_at past moment) p.group (groups past) p.due).0
    (and_both (folded_eq (group_name p.group past) name) (same_records (unique_records p.group past) sent.message.authority) p.named listed)))

-- Each probe that an entry of a legal history sends is whole.
pub probes_whole : (duties : Duties) (entry : Entry) (past : List Entry) → IsLegalFrom duties entry past → (name : List (List ℕ)) → list_all (is_whole name past) entry.sent ≡ true
probes_whole duties entry [] legal name = ap (λ e. list_all (is_whole name []) e.sent) legal.3
probes_whole duties entry (before ∷ past) legal name = all_in (is_whole name (before ∷ past)) entry.sent (λ sent n. of sent n (is_probe name sent.message) refl)
  where
    of : (sent : Sent) → In sent entry.sent → (b : Bool) → is_probe name sent.message ≡ b → is_whole name (before ∷ past) sent ≡ true
    of sent n true e = probing_whole duties.claiming (before ∷ past) entry.moment name sent (probe_sent name duties entry (before ∷ past) (legal.0).determined sent n e)
    of sent n false e = or_one (not (is_probe name sent.message)) _ (not_false (is_probe name sent.message) e)
