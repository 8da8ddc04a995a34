use Rattle.std.proofs.Common.{◌≤◌, ◌++◌, ◌↔◌, ℕ, List, IsTrue, length, ap, sym, subst}
use Rattle.mdns_history.specs.declared.held.Held.{Held}
use Rattle.mdns_history.specs.Lifetimes.{live_of}
use Rattle.mdns_cache.specs.Lifetimes.{hearings_at, Stands}
use Rattle.mdns_cache.proofs.Hearing.{Stands-from_held}
use Rattle.mdns_records.specs.State.{State}
use Rattle.mdns_records.proofs.records.Records.fits.Goals as goal

pub returns-clause-told : goal.returns-clause-told
returns-clause-told c = λ word past before earlier holds.
    let stands = Stands-from_held c.args.self.now.held past before c.args.now earlier holds in
    let there : Stands c.self.inside.cache.held past c.args.now = subst (λ (held : List Held). Stands held past c.args.now) (sym (ap (λ (v : State). v.held) c.self.view_is)) stands in
    subst (λ (most : ℕ). IsTrue c.fits.result ↔ (length (live_of (hearings_at c.args.now word c.args.heard.now ++ past) c.args.now) ≤ most)) c.self.invariant.0 (c.fits.ensures.live past word there)
