use Rattle.std.proofs.Common.{ℕ, List, subst}
use Rattle.std.proofs.lemmas.List.{take_all}
use Rattle.mdns_cache.specs.Ended.{is_among}
use Rattle.sd_sessions.specs.Indexed.{ArePut}
use Rattle.sd_sessions.specs.Put.{ArePutOnly}
use Rattle.sd_sessions.proofs.PutOnly.{only-next}
use Rattle.sd_sessions.proofs.IndexNamed.{put-next}
use Rattle.sd_sessions.proofs.names.put_touched.Goals as goal

pub loop-name-preserved : goal.loop-name-preserved
loop-name-preserved c =
    record {
      kept = λ name h. c.in_ok-put_if_asked.ensures.kept name (c.loop-name.invariant.kept name h);
      only = only-next (λ (name : List (List ℕ)). name) c.args.touched.now c.loop-name.name-index c.name-item.result c.loop-name-test.true c.name-item.is
          c.args.names.now.items c.loop-name.names.items c.put_if_asked.new.names.items c.loop-name.invariant.only c.in_ok-put_if_asked.ensures.only;
      once = λ e. c.in_ok-put_if_asked.ensures.once (c.loop-name.invariant.once e);
      put = put-next c.args.touched.now c.loop-name.name-index c.name-item.result c.args.askers.now.entries c.loop-name.names.items c.put_if_asked.new.names.items c.loop-name-test.true c.name-item.is
          c.in_ok-put_if_asked.ensures.kept c.loop-name.invariant.put c.in_ok-put_if_asked.ensures.put;
    }

pub returns-clause-put : goal.returns-clause-put
returns-clause-put c =
    subst (λ (l : List (List (List ℕ))). ArePut l c.args.askers.now.entries c.loop-name.names.items) (take_all c.loop-name.name-index c.args.touched.now c.loop-name-test.false) c.loop-name.invariant.put

pub returns-clause-only : goal.returns-clause-only
returns-clause-only c =
    subst (λ (l : List (List (List ℕ))). ArePutOnly (is_among l) c.args.names.now.items c.loop-name.names.items) (take_all c.loop-name.name-index c.args.touched.now c.loop-name-test.false) c.loop-name.invariant.only
