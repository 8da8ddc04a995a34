use Rattle.std.proofs.Common.{◌≡◌, true, take}
use Rattle.std.specs.List.{AllByRecursion}
use Rattle.dns_record.specs.declared.record.Key.{Key}
use Rattle.mdns_cache.specs.Ended.{is_among}
use Rattle.sd_sessions.specs.Put.{is_name_in, ArePutOnce, ArePutOnly}
use Rattle.sd_sessions.specs.Walked.{AreWithin}
use Rattle.sd_sessions.proofs.names.put_names_of.Given as goal

abbrev pub invariant-loop-question : goal.invariant-loop-question
invariant-loop-question l =
    record {
      kept : AreWithin l.initial.names.items l.names.items;
      only : ArePutOnly (is_name_in (take l.question-index l.questions)) l.initial.names.items l.names.items;
      once : ArePutOnce l.initial.names.items l.names.items;
      asked : AllByRecursion (λ (key : Key). is_among l.names.items key.name ≡ true) (take l.question-index l.questions);
    }
