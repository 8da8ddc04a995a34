use Rattle.std.proofs.Common.{ℕ, sym, subst, OnOk}
use Rattle.std.specs.Prelude.{is_some}
use Rattle.mdns_question.specs.declared.tracked.Tracked.{Tracked}
use Rattle.mdns_question.specs.Refreshing.{cause_of}
use Rattle.mdns_happened.specs.declared.happened.Happened.{Happened}
use Rattle.mdns_happened.specs.Told.{told_by}
use Rattle.mdns_asking.specs.Walked.{may_be_asked}
use Rattle.mdns_asking.specs.Places.{ArePut}
use Rattle.mdns_asking.proofs.PutPlaces.{none_asked}
use Rattle.mdns_asking.proofs.places.Places.put_maybe_asked.Goals as goal

pub returns-in-Ticked : goal.returns-in-Ticked
returns-in-Ticked c =
    subst (λ (it : Happened). OnOk c.put_due.result (ArePut (may_be_asked (told_by it) c.args.when.moment) c.args.asker.now.questions c.args.self.now.places.items c.put_due.new.self.places.items)) (sym c.in-Ticked.is)
    (subst (λ (m : ℕ). OnOk c.put_due.result (ArePut (λ (one : Tracked). is_some (cause_of m one)) c.args.asker.now.questions c.args.self.now.places.items c.put_due.new.self.places.items)) c.at.ensures c.put_due.ensures)

pub returns-in-Heard : goal.returns-in-Heard
returns-in-Heard c =
    subst (λ (it : Happened). OnOk c.put_heard.result (ArePut (may_be_asked (told_by it) c.args.when.moment) c.args.asker.now.questions c.args.self.now.places.items c.put_heard.new.self.places.items)) (sym c.in-Heard.is)
    c.put_heard.ensures

pub returns-in_default : goal.returns-in_default
returns-in_default c = none_asked c.args.happened.now c.args.when.moment c.args.asker.now.questions c.args.self.now.places.items c.in_default.not-Ticked c.in_default.not-Heard
