use Rattle.std.proofs.Common.{◌≡◌, true, List, ◌∷◌, refl, ap, ◌∙◌, sym}
use Rattle.mdns_history.specs.declared.entry.Entry.{Entry}
use Rattle.mdns_history.specs.InForce.{all_duties}
use Rattle.mdns_history.specs.Fitting.{next_entry}
use Rattle.plain_history.specs.Last.{are_by}
use Rattle.plain_legal.specs.Trial.{may_follow}
use Rattle.plain_legal.proofs.Standing.{next_stands}
use Rattle.plain_legal.proofs.Fitted.{in_time_of, fits_from, next_is, by_of}
use Rattle.plain_legal.proofs.following.go_on.Goals as goal

pub new-requires : goal.new-requires
new-requires c =
    in_time_of c.args.history.now.items c.args.entry (sym (c.may_follow.ensures ∙ ap (λ (h : List Entry). may_follow h c.args.entry) c.deref.ensures.value) ∙ c.if-not-may_follow.false)

pub next_entry-requires-clause-by : goal.next_entry-requires-clause-by
next_entry-requires-clause-by c =
    ap (λ m. are_by m c.args.history.now.items) c.new.ensures
    ∙ by_of c.args.history.now.items c.args.entry c.requires.legal (sym (c.may_follow.ensures ∙ ap (λ (h : List Entry). may_follow h c.args.entry) c.deref.ensures.value) ∙ c.if-not-may_follow.false)

pub put_first-requires : goal.put_first-requires
put_first-requires c =
    let may : may_follow c.args.history.now.items c.args.entry ≡ true = sym (c.may_follow.ensures ∙ ap (λ (h : List Entry). may_follow h c.args.entry) c.deref.ensures.value) ∙ c.if-not-may_follow.false in
    let is : c.in_ok-next.next ≡ next_entry all_duties c.args.history.now.items c.args.entry.moment c.args.entry.word c.args.entry.event =
    c.in_ok-next.ensures.next ∙ ap (λ m. next_entry all_duties c.args.history.now.items m c.args.entry.word c.args.entry.event) c.new.ensures in
    next_stands all_duties c.args.history.now.items c.args.entry.moment c.args.entry.word c.args.entry.event c.in_ok-next.next (in_time_of c.args.history.now.items c.args.entry may) is

pub returns-clause-put : goal.returns-clause-put
returns-clause-put c =
    let is : c.in_ok-next.next ≡ next_entry all_duties c.args.history.now.items c.args.entry.moment c.args.entry.word c.args.entry.event =
    c.in_ok-next.ensures.next ∙ ap (λ m. next_entry all_duties c.args.history.now.items m c.args.entry.word c.args.entry.event) c.new.ensures in
    λ _. c.in_ok-put_first.ensures
    ∙ (λ i. next_is c.args.history.now.items c.args.entry c.in_ok-next.next is (c.has.ensures.0 c.if-not-has.false) i ∷ c.in_ok-next.ensures.kept i)

pub returns-clause-fits : goal.returns-clause-fits
returns-clause-fits c =
    let may : may_follow c.args.history.now.items c.args.entry ≡ true = sym (c.may_follow.ensures ∙ ap (λ (h : List Entry). may_follow h c.args.entry) c.deref.ensures.value) ∙ c.if-not-may_follow.false in
    let is : c.in_ok-next.next ≡ next_entry all_duties c.args.history.now.items c.args.entry.moment c.args.entry.word c.args.entry.event =
    c.in_ok-next.ensures.next ∙ ap (λ m. next_entry all_duties c.args.history.now.items m c.args.entry.word c.args.entry.event) c.new.ensures in
    (λ _. fits_from c.args.history.now.items c.args.entry c.in_ok-next.next may is (c.has.ensures.0 c.if-not-has.false), λ _. refl)
