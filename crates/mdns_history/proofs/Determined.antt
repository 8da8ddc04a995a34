-- One entry fits, and no other.
use Rattle.std.proofs.Common.{◌≡◌, ℕ, ◌≤◌, false, List, refl, ◌∙◌, sym}
use Rattle.mdns_history.specs.declared.event.Event.{Event}
use Rattle.mdns_history.specs.declared.entry.Entry.{Entry}
use Rattle.mdns_history.specs.History.{now}
use Rattle.mdns_history.specs.InForce.{Duties}
use Rattle.mdns_history.specs.Fitting.{next_entry, Fits, FitsAt, ExactlyOneFits, is_boot, last_moment}

-- the entry that the definitions make fits
pub next_entry-fits : (duties : Duties) (past : List Entry) (moment word : ℕ) (event : Event) → now past ≤ moment → moment ≤ last_moment → is_boot event ≡ false →
    Fits duties (next_entry duties past moment word event) past
unfolding next_entry
next_entry-fits duties past moment word event later in_time no_boot = record { later = later; in_time = in_time; no_boot = no_boot; determined = refl }

-- entries that fit and have moment, word and event in common are one
pub fits_once : (duties : Duties) (past : List Entry) (a b : Entry) → Fits duties a past → Fits duties b past → a.moment ≡ b.moment → a.word ≡ b.word → a.event ≡ b.event → a ≡ b
fits_once duties past a b fa fb m w e = fa.determined ∙ rw (m, w, e) (sym fb.determined)

-- what fits at a moment, with a word, for an event is what the definitions make
is_next : (duties : Duties) (past : List Entry) (moment word : ℕ) (event : Event) (entry : Entry) → FitsAt duties past moment word event entry →
    entry ≡ next_entry duties past moment word event
is_next duties past moment word event entry h = h.fits.determined ∙ rw (h.at_moment, h.with_word, h.for_event)

pub exactly_one : ExactlyOneFits
unfolding next_entry
exactly_one duties past moment word event later in_time no_boot = (
  next_entry duties past moment word event,
  record { fits = next_entry-fits duties past moment word event later in_time no_boot; at_moment = refl; with_word = refl; for_event = refl },
  λ other h. is_next duties past moment word event other h,
)
