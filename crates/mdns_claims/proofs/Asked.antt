-- What questions have of own records behind a deed, once these were put group by group.
use Rattle.std.proofs.Common.{◌≡◌, ℕ, ◌+◌, ◌<◌, ◌≤◌, List, [], ◌∷◌, ◌++◌, length, get_or, drop, Option, Some, None, refl, ap, sym, subst, ◌∙◌, append-nil}
use Rattle.std.specs.List.{cons_option}
use Rattle.std.specs.Option.{option_map, option_map_or, option_to_list}
use Rattle.std.proofs.lemmas.List.{drop_more, drop_all}
use Rattle.dns_record.specs.declared.record.Rr.{Rr}
use Rattle.mdns_asked.specs.Asked.{Contents, IsPut}
use Rattle.mdns_asked.proofs.Asking.{none_put, then_put}
use Rattle.mdns_probe.specs.Kept.{Kept}
use Rattle.mdns_claimants.specs.Owned.{claimed, own_in}
use Rattle.mdns_claimants.proofs.Asked.{own_first, own_last}
use Rattle.mdns_claims.specs.declared.plan.Deed.{Deed}
use Rattle.mdns_claims.specs.Later.{shown_of, shown_all, later_of, later_from, begun_by}
use Rattle.mdns_claims.specs.Planned.{Means, kept_by}
use Rattle.mdns_claims.proofs.Made.{later_all}

pub own_option : (o : Option Kept) (kept : List Kept) → own_in (cons_option o kept) ≡ option_map_or shown_all (option_map shown_of o) [] ++ own_in kept
own_option None kept = refl
own_option (Some one) kept = own_first one kept

pub own_begun : (kept : List Kept) (o : Option Kept) → own_in (kept ++ option_to_list o) ≡ own_in kept ++ option_map_or (λ (one : Kept). claimed one.claim.sure one.claim) o []
own_begun kept None = ap own_in (append-nil kept) ∙ sym (append-nil (own_in kept))
own_begun kept (Some one) = own_last kept one

module _ (means : Means) (deed : Deed) (kept : List Kept) where
  -- what is put of the groups from a place on is all that is left to put
  abbrev pub IsLeft : ℕ → Contents → Contents → Type 0
  IsLeft place start now =
      (after : Contents) → IsPut (own_in (later_from means deed place (drop place kept))) now after → IsPut (own_in (later_from means deed 0 kept)) start after

  -- one group more was put
  pub left_more : (place : ℕ) (one : Kept) (start before now : Contents) (more : List Rr) → place < length kept → one ≡ get_or kept place one
      → more ≡ option_map_or shown_all (option_map shown_of (later_of means deed place one)) [] → IsPut more before now → IsLeft place start before → IsLeft (place + 1) start now
  left_more place one start before now more within is seen put had after rest =
      had after (
      subst (λ (rrs : List Rr). IsPut rrs before after)
      (ap (λ (l : List Rr). l ++ own_in (later_from means deed (place + 1) (drop (place + 1) kept))) seen
      ∙ sym (own_option (later_of means deed place one) (later_from means deed (place + 1) (drop (place + 1) kept)))
      ∙ ap (λ (l : List Kept). own_in (later_from means deed place l)) (ap (λ (k : Kept). k ∷ drop (place + 1) kept) is ∙ sym (drop_more kept place one within)))
      (then_put more (own_in (later_from means deed (place + 1) (drop (place + 1) kept))) before now after put rest))

  -- all groups were put
  pub left_none : (place : ℕ) (start now : Contents) → length kept ≤ place → IsLeft place start now → IsPut (own_in (later_from means deed 0 kept)) start now
  left_none place start now past had =
      had now (subst (λ (l : List Kept). IsPut (own_in (later_from means deed place l)) now now) (sym (drop_all place kept past)) (none_put now))

  -- the group that begins was put behind them
  pub all_asked : (start between after : Contents) (o : Option Kept) → IsPut (own_in (later_from means deed 0 kept)) start between → o ≡ begun_by deed
      → IsPut (option_map_or (λ (one : Kept). claimed one.claim.sure one.claim) o []) between after → IsPut (own_in (kept_by means kept deed)) start after
  all_asked start between after o first begins last =
      subst (λ (rrs : List Rr). IsPut rrs start after)
      (ap (λ (x : Option Kept). own_in (later_from means deed 0 kept) ++ option_map_or (λ (one : Kept). claimed one.claim.sure one.claim) x []) begins
      ∙ sym (own_begun (later_from means deed 0 kept) (begun_by deed)) ∙ ap own_in (sym (later_all means deed kept)))
      (then_put (own_in (later_from means deed 0 kept)) (option_map_or (λ (one : Kept). claimed one.claim.sure one.claim) o []) start between after first last)
