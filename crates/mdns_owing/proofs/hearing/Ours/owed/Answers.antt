use Rattle.std.proofs.Common.{◌≡◌, ◌∙◌, subst, List}
use Rattle.std.specs.Prelude.{IfOk}
use Rattle.std.specs.List.{flat_map}
use Rattle.dns_record.specs.declared.record.Question.{Question}
use Rattle.indexmap.specs.IndexSet.{insert_all}
use Rattle.mdns_history.specs.Debts.{Owed, owed_eq}
use Rattle.mdns_owing.specs.Keys.{owed_is_equivalence}
use Rattle.mdns_owing.specs.Owing.{heard_in, last_in, ours_in, owed_for}
use Rattle.mdns_owing.proofs.Once.{each_put}
use Rattle.mdns_owing.proofs.hearing.Ours.owed.Goals as goal

pub returns : goal.returns
returns c =
    let of : Question → List Owed = owed_for (ours_in c.args.self.now.claims.now.contents.kept) (last_in c.args.self.now.lasts.now.lasts) (heard_in c.args.heard.now) c.args.now in
    let whole = c.in_ok-put_all_owed.ensures
    ∙ (λ i. insert_all owed_eq (c.with_hasher-owed.ensures.empty i) (flat_map of (c.as_slice-2.ensures i)))
    ∙ each_put owed_eq owed_is_equivalence (flat_map of c.args.heard.now.message.questions) in
    subst (λ (keys : List Owed). IfOk c.in_turn.result (λ owed. owed.items ≡ keys)) whole c.in_turn.ensures
