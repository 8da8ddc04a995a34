use Rattle.std.proofs.Common.{◌≡◌, take}
use Rattle.std.specs.List.{flat_map}
use Rattle.indexmap.specs.IndexSet.{insert_all}
use Rattle.mdns_history.specs.Debts.{owed_eq}
use Rattle.mdns_owing.specs.Owing.{heard_in, last_in, ours_in, owed_for}
use Rattle.mdns_owing.proofs.Asked.{AreAnswered}
use Rattle.mdns_owing.proofs.hearing.Ours.put_many_owed.Given as goal

abbrev pub invariant-loop-question : goal.invariant-loop-question
invariant-loop-question l =
    record {
      put : l.owed.keys ≡ insert_all owed_eq l.initial.owed.keys (flat_map (owed_for (ours_in l.self.claims.now.contents.kept) (last_in l.self.lasts.now.lasts) (heard_in l.hearing.heard.now) l.hearing.moment) (take l.question-index l.questions));
      answered : AreAnswered (owed_for (ours_in l.self.claims.now.contents.kept) (last_in l.self.lasts.now.lasts) (heard_in l.hearing.heard.now) l.hearing.moment) l.asked.keys l.owed.keys;
    }
