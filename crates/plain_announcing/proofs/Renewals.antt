-- The last entry that renews a group's claim, looked for from the last entry on.
use Rattle.std.proofs.Common.{◌≡◌, ℕ, Bool, true, false, not, ◌&&◌, ◌||◌, List, [], ◌∷◌, ◌++◌, length, refl, ap, sym, ◌∙◌, append-nil, append_assoc, arith}
use Rattle.std.specs.Prelude.{if◌then◌else◌}
use Rattle.std.specs.List.{cons_option}
use Rattle.std.specs.Option.{option_or, unwrap_or}
use Rattle.mdns_history.specs.declared.entry.Entry.{Entry}
use Rattle.mdns_history.specs.History.{last_at, moment_if, has_mark}
use Rattle.mdns_history.specs.Groups.{Group, group_records}
use Rattle.mdns_history.specs.Sureness.{is_sure}
use Rattle.mdns_history.specs.Announcing.{announcement_moments, claim_moment, is_announcement_of, renews_claim, same_records}
use Rattle.plain_history.specs.Kept.{kept_if}
use Rattle.plain_announcing.specs.Renewed.{renews_last}

-- nothing is renewed without an entry
pub renews_none : (group : Group) (history : List Entry) → length history ≡ 0 → renews_last group history ≡ false
renews_none group [] h = refl
renews_none group (entry ∷ past) h = absurd (omega arith)

-- a claim is renewed where the group is sure, and wasn't before or had other records
pub renews_both : (group : Group) (history : List Entry) (entry : Entry) (past : List Entry) → history ≡ entry ∷ past →
    renews_last group history ≡ (is_sure group history && (not (is_sure group past) || not (same_records (group_records group history) (group_records group past))))
renews_both group history entry past e =
    ap (renews_last group) e
    ∙ ap (λ (h : List Entry). is_sure group h && (not (is_sure group past) || not (same_records (group_records group h) (group_records group past)))) (sym e)

-- the moment of the last entry, where it renews the claim
pub claim_here : (group : Group) (history : List Entry) (entry : Entry) (past : List Entry) → history ≡ entry ∷ past → renews_last group history ≡ true → claim_moment group history ≡ entry.moment
unfolding claim_moment
claim_here group history entry past e h =
    let here : renews_claim group entry past ≡ true = ap (renews_last group) (sym e) ∙ h in
    ap (claim_moment group) e
    ∙ ap (λ b. unwrap_or (option_or (moment_if b entry.moment) (last_at (λ entry past. moment_if (renews_claim group entry past) entry.moment) past)) 0) here

-- the moment of an earlier entry, where the last one doesn't
pub claim_before : (group : Group) (history : List Entry) (entry : Entry) (past : List Entry) → history ≡ entry ∷ past → renews_last group history ≡ false →
    claim_moment group past ≡ claim_moment group history
unfolding claim_moment
claim_before group history entry past e h =
    let here : renews_claim group entry past ≡ false = ap (renews_last group) (sym e) ∙ h in
    ap (λ b. unwrap_or (option_or (moment_if b entry.moment) (last_at (λ entry past. moment_if (renews_claim group entry past) entry.moment) past)) 0) (sym here)
    ∙ ap (claim_moment group) (sym e)

-- no moment without an entry
pub claim_never : (group : Group) (history : List Entry) → length history ≡ 0 → claim_moment group history ≡ 0
unfolding claim_moment
claim_never group [] h = refl
claim_never group (entry ∷ past) h = absurd (omega arith)

-- whether an entry announced a group
abbrev pub announces : Group → Entry → Bool
announces group entry = has_mark (is_announcement_of group.id) entry

-- what an entry says, in front of what the earlier ones say
said : (b : Bool) (moment : ℕ) (rest : List ℕ) → cons_option (moment_if b moment) rest ≡ kept_if b moment ++ rest
said true moment rest = refl
said false moment rest = refl

-- the announcements of an entry that renews the claim, behind others
pub announced_here : (group : Group) (history : List Entry) (entry : Entry) (past : List Entry) (before : List ℕ) → history ≡ entry ∷ past → renews_last group history ≡ true →
    before ++ kept_if (announces group entry) entry.moment ≡ before ++ announcement_moments group history
unfolding announcement_moments
announced_here group history entry past before e h =
    let here : renews_claim group entry past ≡ true = ap (renews_last group) (sym e) ∙ h in
    ap (λ (l : List ℕ). before ++ l)
    (sym (append-nil (kept_if (announces group entry) entry.moment)) ∙ sym (said (announces group entry) entry.moment [])
    ∙ ap (λ b. cons_option (moment_if (announces group entry) entry.moment) (if b then [] else announcement_moments group past)) (sym here)
    ∙ ap (announcement_moments group) (sym e))

-- those of one that doesn't
pub announced_next : (group : Group) (history : List Entry) (entry : Entry) (past : List Entry) (before : List ℕ) → history ≡ entry ∷ past → renews_last group history ≡ false →
    (before ++ kept_if (announces group entry) entry.moment) ++ announcement_moments group past ≡ before ++ announcement_moments group history
unfolding announcement_moments
announced_next group history entry past before e h =
    let here : renews_claim group entry past ≡ false = ap (renews_last group) (sym e) ∙ h in
    append_assoc before (kept_if (announces group entry) entry.moment) (announcement_moments group past)
    ∙ ap (λ (l : List ℕ). before ++ l)
    (sym (said (announces group entry) entry.moment (announcement_moments group past))
    ∙ ap (λ b. cons_option (moment_if (announces group entry) entry.moment) (if b then [] else announcement_moments group past)) (sym here)
    ∙ ap (announcement_moments group) (sym e))

-- none without an entry
pub announced_never : (group : Group) (history : List Entry) (before : List ℕ) → length history ≡ 0 → before ≡ before ++ announcement_moments group history
unfolding announcement_moments
announced_never group [] before h = sym (append-nil before)
announced_never group (entry ∷ past) before h = absurd (omega arith)
