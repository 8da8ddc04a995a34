use Rattle.std.proofs.Common.{◌≡◌, ◌++◌, take}
use Rattle.std.specs.List.{filter_map, flat_map}
use Rattle.mdns_history.specs.Answers.{resolved_with, matching}
use Rattle.sd_answer.specs.Known.{rrs_of, rrs_in}
use Rattle.sd_answer.proofs.answers.put_places.Given as goal

abbrev pub invariant-loop-one : goal.invariant-loop-one
invariant-loop-one l = l.answers ≡ l.initial.answers ++ flat_map (λ srv. filter_map (λ txt. resolved_with srv.rdata txt.rdata) (matching l.questions (rrs_in l.known))) (matching l.questions (rrs_of (take l.one-index l.known.held.now)))

abbrev pub invariant-loop-rr : goal.invariant-loop-rr
invariant-loop-rr l = l.answers ≡ l.initial.answers ++ flat_map (λ srv. filter_map (λ txt. resolved_with srv.rdata txt.rdata) (matching l.questions (rrs_in l.known))) (matching l.questions (take l.rr-index l.known.own.now))
