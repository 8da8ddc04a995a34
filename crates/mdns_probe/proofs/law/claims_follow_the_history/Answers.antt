use Rattle.mdns_probe.proofs.Follows.{set_back_follows, ticked_follows, replaced_follows}
use Rattle.mdns_probe.proofs.Spacing.{set_back_paced, kept_paced}
use Rattle.mdns_probe.proofs.law.claims_follow_the_history.Goals as goal

pub returns : goal.returns
returns c = record {
  set_back = set_back_follows;
  ticked = ticked_follows;
  replaced = replaced_follows;
  paced_anew = set_back_paced;
  paced = kept_paced;
}
