-- The records of sure groups: what a deed that takes none makes of them.
use Rattle.std.proofs.Common.{◌≡◌, ◌∙◌, ℕ, Bool, true, false, cond, ◌&&◌, ◌||◌, List, [], ◌∷◌, ◌++◌, map, refl, ap, sym}
use Rattle.std.specs.List.{list_any}
use Rattle.std.proofs.lemmas.Bool.{and_parts, and_from}
use Rattle.std.proofs.lemmas.List.Folds.{list_any-append}
use Rattle.dns_record.specs.declared.record.Rr.{Rr}
use Rattle.dns_record.specs.Records.{same}
use Rattle.mdns_history.specs.Groups.{numbered_name}
use Rattle.mdns_history.specs.Debts.{is_nsec, nsec_record}
use Rattle.mdns_probe.specs.Claiming.{is_settle_due}
use Rattle.mdns_probe.specs.Kept.{Kept}
use Rattle.mdns_claimants.specs.Owned.{own_in, nsecs_in, is_ours}
use Rattle.mdns_claimants.proofs.Sure.{has_own, has_nsec, any_own, any_nsec}
use Rattle.mdns_claims.specs.declared.plan.Deed.{Deed}
use Rattle.mdns_claims.specs.declared.plan.Deed.TheVariants.{Nothing, Ticks, Begins, Ends, Changes}
use Rattle.mdns_claimants.specs.Due.{ticked_at}
use Rattle.mdns_claims.specs.Later.{Shown, shown_of, takes_none}
use Rattle.mdns_claims.specs.Planned.{Means, kept_by}
use Rattle.mdns_claims.proofs.Ticked.{shown_ticked}

-- what takes no record away

either_true : (a b c d : Bool) → (a ≡ true → c ≡ true) → (b ≡ true → d ≡ true) → (a || b) ≡ true → (c || d) ≡ true
either_true true b c d one other h = ap (λ (e : Bool). e || d) (one refl)
either_true false b true d one other h = refl
either_true false b false d one other h = other h

-- a test that groups pass which a change leaves passing
any_kept : (t : Kept → Bool) (change : Kept → Kept) → ((one : Kept) → t one ≡ true → t (change one) ≡ true) → (kept : List Kept) → list_any t kept ≡ true → list_any t (map change kept) ≡ true
any_kept t change stays [] h = h
any_kept t change stays (one ∷ kept) h = either_true (t one) (list_any t kept) (t (change one)) (list_any t (map change kept)) (stays one) (any_kept t change stays kept) h

any_more : (t : Kept → Bool) (kept others : List Kept) → list_any t kept ≡ true → list_any t (kept ++ others) ≡ true
any_more t kept others h = list_any-append t kept others ∙ ap (λ (b : Bool). b || list_any t others) h

-- a tick leaves a sure group sure, with its name and its records
ticked_tells : (m : ℕ) (announces : Bool) (f : Shown → Bool) → ((s : Shown) → f s ≡ (s.sure && f (record s { sure = true }))) → (one : Kept) → f (shown_of one) ≡ true → f (shown_of (ticked_at m announces one)) ≡ true
ticked_tells m announces f sure one h =
    ap f (shown_ticked m announces one)
    ∙ sure (record { group = one.group; number = one.number; sure = one.claim.sure || is_settle_due m one.claim; unique = one.claim.unique; shared = one.claim.shared })
    ∙ and_from (one.claim.sure || is_settle_due m one.claim) (f (record (shown_of one) { sure = true })) (ap (λ (b : Bool). b || is_settle_due m one.claim) parts.0) parts.1
  where
    parts : (one.claim.sure ≡ true) × (f (record (shown_of one) { sure = true }) ≡ true)
    parts = and_parts one.claim.sure (f (record (shown_of one) { sure = true })) (sym (sure (shown_of one)) ∙ h)

itself : (b c : Bool) → (b && c) ≡ (b && (true && c))
itself true c = refl
itself false c = refl

-- what passes a test among the own records, or among the NSEC records, still is among them
module _ (t : Rr → Bool) (means : Means) (kept : List Kept) where
  stays : (test : Kept → Bool) → ((one : Kept) → test one ≡ true → test (ticked_at means.moment means.announces one) ≡ true) → (deed : Deed) → takes_none deed ≡ true → list_any test kept ≡ true → list_any test (kept_by means kept deed) ≡ true
  stays test ticks Nothing none h = h
  stays test ticks Ticks none h = any_kept test (ticked_at means.moment means.announces) ticks kept h
  stays test ticks (Begins one) none h = any_more test kept (one ∷ []) h
  stays test ticks Ends none h = absurd (cc)
  stays test ticks (Changes renewals) none h = absurd (cc)

  pub own_stays : (deed : Deed) → takes_none deed ≡ true → list_any t (own_in kept) ≡ true → list_any t (own_in (kept_by means kept deed)) ≡ true
  own_stays deed none h =
      any_own t (kept_by means kept deed)
      ∙ stays (has_own t) (λ one k. ticked_tells means.moment means.announces (λ s. s.sure && list_any t (s.unique ++ s.shared)) (λ s. itself s.sure (list_any t (s.unique ++ s.shared))) one k) deed none (sym (any_own t kept) ∙ h)

  pub nsec_stays : (deed : Deed) → takes_none deed ≡ true → list_any t (nsecs_in kept) ≡ true → list_any t (nsecs_in (kept_by means kept deed)) ≡ true
  nsec_stays deed none h =
      any_nsec t (kept_by means kept deed)
      ∙ stays (has_nsec t) (λ one k. ticked_tells means.moment means.announces (λ s. s.sure && t (nsec_record (numbered_name s.group s.number) s.unique)) (λ s. itself s.sure (t (nsec_record (numbered_name s.group s.number) s.unique))) one k) deed none (sym (any_nsec t kept) ∙ h)

-- what is the daemon's to send stays so
pub ours_stay : (means : Means) (kept : List Kept) (deed : Deed) → takes_none deed ≡ true → (rr : Rr) → is_ours kept rr ≡ true → is_ours (kept_by means kept deed) rr ≡ true
ours_stay means kept deed none rr ours = of (is_nsec rr) ours
  where
    of : (b : Bool) → cond b (list_any (same rr) (nsecs_in kept)) (list_any (same rr) (own_in kept)) ≡ true → cond b (list_any (same rr) (nsecs_in (kept_by means kept deed))) (list_any (same rr) (own_in (kept_by means kept deed))) ≡ true
    of true h = nsec_stays (same rr) means kept deed none h
    of false h = own_stays (same rr) means kept deed none h
