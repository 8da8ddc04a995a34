-- Kept moments stand for a history that gets an entry more.
use Rattle.std.proofs.Common.{◌≡◌, ◌∙◌, ⊎_elim, inl, ℕ, ◌+◌, ◌-◌, ◌*◌, ◌≤◌, ◌<◌, Bool, true, false, if◌then◌else◌, List, [], ◌∷◌, Option, Some, None, refl, sym, subst, arith}
use Rattle.std.proofs.lemmas.Bool.{le-leb, le-ltb, leb-false}
use Rattle.std.specs.Option.{option_flatten, option_or}
use Rattle.dns_record.specs.declared.record.Rr.{Rr}
use Rattle.mdns_history.specs.declared.entry.Entry.{Entry}
use Rattle.mdns_history.specs.History.{now, latest}
use Rattle.mdns_history.specs.Debts.{multicasts_in, is_multicast, is_goodbye, multicast_change, last_multicast, is_long_ago, is_recent}
use Rattle.mdns_reply.specs.Lasts.{Last, last_of, most_ttl, is_kept, if_kept, kept_time, IsKept, IsLeft, Stands}
use Rattle.mdns_reply.specs.Laws.{StandLater}

-- what an entry does to a last multicast
change : Rr → ℕ → List Rr → Option ℕ → Option ℕ
change rr moment sent before = if is_multicast rr sent then Some moment else if is_goodbye rr sent then None else before

last_changed : (rr : Rr) (entry : Entry) (past : List Entry) → last_multicast rr (entry ∷ past) ≡ change rr entry.moment (multicasts_in entry) (last_multicast rr past)
unfolding last_multicast change
last_changed rr entry past = by (is_multicast rr (multicasts_in entry)) (is_goodbye rr (multicasts_in entry))
  where
    by : (b c : Bool) → option_flatten (option_or (if b then Some (Some entry.moment) else if c then Some None else None) (latest (multicast_change rr) past)) ≡ (if b then Some entry.moment else if c then None else option_flatten (latest (multicast_change rr) past))
    by true c = refl
    by false true = refl
    by false false = refl

-- what can't be told apart can't be later
kept_later : (rr : Rr) (before later : ℕ) (kept actual : Option ℕ) → before ≤ later → IsKept rr before kept actual → IsKept rr later kept actual
kept_later rr before later kept actual h k = record { gaps = λ gap moment g m. k.gaps gap moment g (omega arith); recent = λ moment m small. k.recent moment (omega arith) small }

kept_itself : (rr : Rr) (moment : ℕ) (one : Option ℕ) → IsKept rr moment one one
kept_itself rr moment one = record { gaps = λ gap later g m. refl; recent = λ later m small. refl }

kept_changed : (rr : Rr) (moment : ℕ) (sent : List Rr) (kept actual : Option ℕ) → IsKept rr moment kept actual → IsKept rr moment (change rr moment sent kept) (change rr moment sent actual)
unfolding change
kept_changed rr moment sent kept actual k = by (is_multicast rr sent) (is_goodbye rr sent)
  where
    by : (b c : Bool) → IsKept rr moment (if b then Some moment else if c then None else kept) (if b then Some moment else if c then None else actual)
    by true c = kept_itself rr moment (Some moment)
    by false true = kept_itself rr moment None
    by false false = k

-- an old moment can't be told from none
old_is_none : (rr : Rr) (moment last : ℕ) (actual : Option ℕ) → is_kept moment last ≡ false → IsKept rr moment (Some last) actual → IsKept rr moment None actual
old_is_none rr moment last actual old k = record {
  gaps = λ gap later g m. sym (le-leb (last + gap) later (let h = far in omega arith)) ∙ k.gaps gap later g m;
  recent = λ later m small. sym (le-ltb (4 * (later - last)) (1000 * rr.ttl) (let h = far in omega arith)) ∙ k.recent later m small;
}
  where
    far : kept_time < moment - last
    far = leb-false (moment - last) kept_time old

kept_left : (rr : Rr) (moment : ℕ) (before after actual : Option ℕ) → IsLeft moment before after → IsKept rr moment before actual → IsKept rr moment after actual
kept_left rr moment before after actual left k =
    ⊎_elim (λ e. subst (λ (o : Option ℕ). IsKept rr moment o actual) (sym e) k) (λ e. subst (λ (o : Option ℕ). IsKept rr moment o actual) (sym e) (filtered before k)) left
  where
    by : (last : ℕ) (b : Bool) → is_kept moment last ≡ b → IsKept rr moment (Some last) actual → IsKept rr moment (if b then Some last else None) actual
    by last true e h = h
    by last false e h = old_is_none rr moment last actual e h

    filtered : (one : Option ℕ) → IsKept rr moment one actual → IsKept rr moment (if_kept moment one) actual
    filtered None h = h
    filtered (Some last) h = by last (is_kept moment last) refl h

-- The moments that an entry left stand for the history with it.
pub stand_after : (moment : ℕ) (sent : List Rr) (before noted after : List Last)
    → ((rr : Rr) → last_of rr noted ≡ (if is_multicast rr sent then Some moment else if is_goodbye rr sent then None else last_of rr before))
    → ((rr : Rr) → IsLeft moment (last_of rr noted) (last_of rr after))
    → (entry : Entry) (past : List Entry) → entry.moment ≡ moment → now past ≤ moment → multicasts_in entry ≡ sent → Stands before past → Stands after (entry ∷ past)
unfolding Stands change
stand_after moment sent before noted after notes leaves entry past at later is stands = λ rr.
    let kept = kept_later rr (now past) moment (last_of rr before) (last_multicast rr past) later (stands rr) in
    let changed = kept_changed rr moment sent (last_of rr before) (last_multicast rr past) kept in
    let actual : change rr moment sent (last_multicast rr past) ≡ last_multicast rr (entry ∷ past) = sym (last_changed rr entry past ∙ (λ i. change rr (at i) (is i) (last_multicast rr past))) in
    let mine : IsKept rr moment (last_of rr noted) (last_multicast rr (entry ∷ past)) = subst (λ (o : Option ℕ). IsKept rr moment o (last_multicast rr (entry ∷ past))) (sym (notes rr)) (subst (λ (o : Option ℕ). IsKept rr moment (change rr moment sent (last_of rr before)) o) actual changed) in
    subst (λ (m : ℕ). IsKept rr m (last_of rr after) (last_multicast rr (entry ∷ past))) (sym at) (kept_left rr moment (last_of rr noted) (last_of rr after) (last_multicast rr (entry ∷ past)) (leaves rr) mine)

pub stand_later : StandLater
stand_later lasts entry past nothing later stands = stand_after entry.moment [] lasts lasts lasts (λ rr. refl) (λ rr. inl refl) entry past refl later nothing stands

nowhere : Stands [] []
unfolding Stands last_multicast
nowhere = λ rr. kept_itself rr 0 None

-- No moments stand for the first entry, where it multicasts nothing.
pub none_stand : (entry : Entry) → multicasts_in entry ≡ [] → Stands [] (entry ∷ [])
none_stand entry nothing = stand_later [] entry [] nothing (omega arith) nowhere

-- What kept moments tell, a history tells: whether so much time has passed, and whether a quarter of the TTL hasn't.
pub gap_told : (lasts : List Last) (history : List Entry) (rr : Rr) (gap moment : ℕ) (r : Bool) → r ≡ is_long_ago gap moment (last_of rr lasts) → gap ≤ 1000 → Stands lasts history → now history ≤ moment
    → r ≡ is_long_ago gap moment (last_multicast rr history)
unfolding Stands
gap_told lasts history rr gap moment r is small stands later = is ∙ (stands rr).gaps gap moment small later

pub recent_told : (lasts : List Last) (history : List Entry) (rr : Rr) (moment : ℕ) (r : Bool) → r ≡ is_recent rr moment (last_of rr lasts) → Stands lasts history → now history ≤ moment → rr.ttl ≤ most_ttl
    → r ≡ is_recent rr moment (last_multicast rr history)
unfolding Stands
recent_told lasts history rr moment r is stands later small = is ∙ (stands rr).recent moment later small
