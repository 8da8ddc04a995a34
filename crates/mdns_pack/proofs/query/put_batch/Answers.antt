use Rattle.std.proofs.Common.{◌++◌, Bool, List, sym, subst, ◌∙◌}
use Rattle.std.specs.List.{list_any}
use Rattle.dns_record.specs.declared.record.Rr.{Rr}
use Rattle.dns_record.specs.Records.{matches}
use Rattle.dns_message.specs.declared.message.Message.{Message}
use Rattle.dns_message.specs.Packing.{bare_query, batch_messages}
use Rattle.mdns_pack.specs.Listing.{IsListed}
use Rattle.mdns_pack.proofs.Chains.{underway-over, underway-put}
use Rattle.mdns_pack.proofs.query.put_batch.Goals as goal
use Rattle.mdns_pack.proofs.query.put_batch.Goals.{then-matches_any+in_ok-put_known, else-matches_any}

pub loop-listing-preserved : goal.loop-listing-preserved
loop-listing-preserved c =
    let asked : Rr → Bool = λ rr. list_any (λ key. matches key rr) c.args.batch.now in
    elim c.if-matches_any.branch [
      | then-matches_any+in_ok-put_known w ↦ record {
        underway =
            underway-put (c.args.messages.now ++ batch_messages c.args.known.now c.args.batch.now) c.loop-listing.messages c.if-matches_any.messages
            (bare_query c.loop-listing.draft.questions c.loop-listing.listed.items) (bare_query c.if-matches_any.draft.questions c.if-matches_any.listed.items) asked
            c.args.known.now c.loop-listing.listing-index c.listing-item.result c.loop-listing-test.true c.listing-item.is (sym c.matches_any.ensures ∙ w.if-matches_any.true)
            (w.messages-is ∙ w.in_ok-put_known.ensures.messages)
            ((λ i. bare_query (w.draft-is i).questions (w.listed-is i).items) ∙ w.in_ok-put_known.ensures.message) c.loop-listing.invariant.underway;
        listed =
            subst (λ (m : Message). IsListed m c.if-matches_any.listed.items) (sym w.draft-is)
            (subst (λ (rrs : List Rr). IsListed w.put_known.new.draft rrs) (λ i. (sym w.listed-is i).items) w.in_ok-put_known.ensures.kept);
      }
      | else-matches_any w ↦ record {
        underway =
            underway-over (c.args.messages.now ++ batch_messages c.args.known.now c.args.batch.now) c.loop-listing.messages c.if-matches_any.messages
            (bare_query c.loop-listing.draft.questions c.loop-listing.listed.items) (bare_query c.if-matches_any.draft.questions c.if-matches_any.listed.items) asked
            c.args.known.now c.loop-listing.listing-index c.listing-item.result c.loop-listing-test.true c.listing-item.is (sym c.matches_any.ensures ∙ w.if-matches_any.false)
            w.messages-is (λ i. bare_query (w.draft-is i).questions (w.listed-is i).items) c.loop-listing.invariant.underway;
        listed =
            subst (λ (m : Message). IsListed m c.if-matches_any.listed.items) (sym w.draft-is)
            (subst (λ (rrs : List Rr). IsListed c.loop-listing.draft rrs) (λ i. (sym w.listed-is i).items) c.loop-listing.invariant.listed);
      }
    ]
