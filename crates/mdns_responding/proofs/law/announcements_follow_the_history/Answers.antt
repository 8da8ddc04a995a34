use Rattle.mdns_responding.proofs.Announced.{announced_records_are, announced_marks_are, ticks_tell_own}
use Rattle.mdns_responding.proofs.TakenBack.{goodbyes_are}
use Rattle.mdns_responding.proofs.law.announcements_follow_the_history.Goals as goal

pub returns : goal.returns
returns c = record { announced = announced_records_are; marked = announced_marks_are; own = ticks_tell_own; goodbyes = goodbyes_are }
