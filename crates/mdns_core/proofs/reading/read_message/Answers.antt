use Rattle.std.proofs.Common.{◌↔◌, ◌∙◌, ◌≤◌, ◌++◌, [], ◌∷◌, ℕ, IsTrue, cond, Bool, List, length, ap, subst, sym}
use Rattle.dns_record.specs.declared.record.Rr.{Rr}
use Rattle.mdns_happened.specs.Told.{Told}
use Rattle.mdns_history.specs.declared.mark.Mark.TheVariants as mark
use Rattle.mdns_core.proofs.records.HeardPackets.{refused-ignored, refused-unless, room-left, ok_with}
use Rattle.mdns_history.specs.Lifetimes.{live_of}
use Rattle.mdns_cache.specs.Lifetimes.{hearings_at}
use Rattle.mdns_records.specs.After.{held_after}
use Rattle.mdns_core.proofs.reading.read_message.Goals as goal

pub returns-then-is_ignored-clause-refused : goal.returns-then-is_ignored-clause-refused
returns-then-is_ignored-clause-refused c = ok_with c.brings_nothing.result
    (λ reading told past before earlier holds.
    ap (λ (t : Told). t.refusal) told
    ∙ refused-ignored c.args.when.moment c.args.when.word before c.args.from.now c.args.message past c.args.records.now.held (sym c.is_ignored.ensures ∙ c.if-is_ignored.true) earlier holds c.requires.within)
    c.brings_nothing.ensures.told

pub returns-then-not-fits-clause-refused : goal.returns-then-not-fits-clause-refused
returns-then-not-fits-clause-refused c = ok_with c.brings_nothing-then-not-fits.result
    (λ reading told past before earlier holds.
    ap (λ (t : Told). t.refusal) told
    ∙ ap (λ (b : Bool). cond b [] (mark.Full ∷ [])) (sym c.if-not-fits.true)
    ∙ refused-unless c.args.when.moment c.args.when.word c.args.from.now c.args.message c.as_slice.result.now past c.fits.result
    (sym c.is_ignored.ensures ∙ c.if-is_ignored.false) (c.as_slice.ensures ∙ c.in_ok-heard.ensures) (subst (λ (m : ℕ). before ≤ m → IsTrue c.fits.result ↔ (length (live_of (hearings_at m c.args.when.word c.as_slice.result.now ++ past) m) ≤ 32768)) c.at.ensures
    (λ low. c.fits.ensures.told c.args.when.word past before low holds) earlier))
    c.brings_nothing-then-not-fits.ensures.told

pub returns-then-is_ignored-clause-room : goal.returns-then-is_ignored-clause-room
returns-then-is_ignored-clause-room c = ok_with c.brings_nothing.result
    (λ reading none. room-left c.args.when.moment c.args.when.word reading.heard c.args.records.now.held none c.requires.within)
    c.brings_nothing.ensures.records

pub returns-then-not-fits-clause-room : goal.returns-then-not-fits-clause-room
returns-then-not-fits-clause-room c = ok_with c.brings_nothing-then-not-fits.result
    (λ reading none. room-left c.args.when.moment c.args.when.word reading.heard c.args.records.now.held none c.requires.within)
    c.brings_nothing-then-not-fits.ensures.records

pub returns-clause-room : goal.returns-clause-room
returns-clause-room c =
    subst (λ (rrs : List Rr). length (held_after c.args.when.moment c.args.when.word rrs c.args.records.now.held) ≤ 32768) c.as_slice.ensures
    (subst (λ (m : ℕ). length (held_after m c.args.when.word c.as_slice.result.now c.args.records.now.held) ≤ 32768) c.at.ensures
    ((c.fits.ensures.room c.args.when.word).0 c.if-not-fits.false))

pub returns-clause-refused : goal.returns-clause-refused
returns-clause-refused c = λ past before earlier holds.
    ap (λ (b : Bool). cond b [] (mark.Full ∷ [])) (sym c.if-not-fits.false)
    ∙ refused-unless c.args.when.moment c.args.when.word c.args.from.now c.args.message c.as_slice.result.now past c.fits.result
    (sym c.is_ignored.ensures ∙ c.if-is_ignored.false) (c.as_slice.ensures ∙ c.in_ok-heard.ensures) (subst (λ (m : ℕ). before ≤ m → IsTrue c.fits.result ↔ (length (live_of (hearings_at m c.args.when.word c.as_slice.result.now ++ past) m) ≤ 32768)) c.at.ensures
    (λ low. c.fits.ensures.told c.args.when.word past before low holds) earlier)
