use Rattle.std.proofs.Common.{◌≡◌, ◌++◌, take}
use Rattle.std.specs.List.{filter_map}
use Rattle.mdns_history.specs.Answers.{resolved_with, matching}
use Rattle.sd_answer.specs.Known.{rrs_of}
use Rattle.sd_answer.proofs.answers.put_pairs.Given as goal

abbrev pub invariant-loop-one : goal.invariant-loop-one
invariant-loop-one l = l.answers ≡ l.initial.answers ++ filter_map (λ txt. resolved_with l.place txt.rdata) (matching l.questions (rrs_of (take l.one-index l.known.held.now)))

abbrev pub invariant-loop-rr : goal.invariant-loop-rr
invariant-loop-rr l = l.answers ≡ l.initial.answers ++ filter_map (λ txt. resolved_with l.place txt.rdata) (matching l.questions (take l.rr-index l.known.own.now))
