use Rattle.std.proofs.Common.{◌≡◌, ℕ, List, true, subst}
use Rattle.std.proofs.lemmas.List.{take_all}
use Rattle.dns_record.specs.declared.record.Key.{Key}
use Rattle.mdns_cache.specs.Ended.{is_among}
use Rattle.sd_sessions.specs.Put.{is_name_in, ArePutOnly}
use Rattle.sd_sessions.proofs.PutOnly.{only-next}
use Rattle.mdns_asking.proofs.PutNames.{put-next}
use Rattle.mdns_asking.proofs.names.put_key_names.Goals as goal

pub loop-key-preserved : goal.loop-key-preserved
loop-key-preserved c =
    let IsPut : List (List (List ℕ)) → Key → Type 0 = λ names key. is_among names key.name ≡ true in
    record {
      kept = λ name h. c.in_ok-put_once.ensures.kept name (c.loop-key.invariant.kept name h);
      named = put-next (IsPut c.loop-key.names.items) (IsPut c.put_once.new.names.items) c.args.keys.now c.loop-key.key-index c.key-item.result c.loop-key-test.true c.key-item.is
          (λ key put. c.in_ok-put_once.ensures.kept key.name put) c.in_ok-put_once.ensures.put c.loop-key.invariant.named;
      only = only-next (λ (key : Key). key.name) c.args.keys.now c.loop-key.key-index c.key-item.result c.loop-key-test.true c.key-item.is
          c.args.names.now.items c.loop-key.names.items c.put_once.new.names.items c.loop-key.invariant.only c.in_ok-put_once.ensures.only;
      once = λ e. c.in_ok-put_once.ensures.once (c.loop-key.invariant.once e);
    }

pub returns-clause-only : goal.returns-clause-only
returns-clause-only c =
    subst (λ (l : List Key). ArePutOnly (is_name_in l) c.args.names.now.items c.loop-key.names.items) (take_all c.loop-key.key-index c.args.keys.now c.loop-key-test.false) c.loop-key.invariant.only
