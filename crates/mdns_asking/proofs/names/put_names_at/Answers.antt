use Rattle.std.proofs.Common.{◌≡◌, ℕ, true, get_or, sym, subst}
use Rattle.std.proofs.lemmas.List.{get_or_default}
use Rattle.dns_name.specs.Names.{folded_eq}
use Rattle.mdns_cache.specs.Ended.{is_among}
use Rattle.mdns_question.specs.declared.tracked.Tracked.{Tracked}
use Rattle.sd_sessions.specs.Put.{ArePutOnly}
use Rattle.mdns_asking.proofs.PutNames.{named_next, named_all, only_again}
use Rattle.mdns_asking.proofs.names.put_names_at.Goals as goal

pub loop-place-preserved : goal.loop-place-preserved
loop-place-preserved c =
    let place : ℕ = get_or c.args.places.now c.loop-place.place-index 0 in
    let is : place ≡ get_or c.args.places.now c.loop-place.place-index place = get_or_default c.args.places.now c.loop-place.place-index 0 place c.loop-place-test.true in
    record {
      kept = λ name h. c.in_ok-near.ensures.kept name (c.loop-place.invariant.kept name h);
      named = named_next c.args.questions.now c.args.places.now c.loop-place.place-index place c.index-questions-place.result c.loop-place.names.items c.put_near.new.names.items
          c.loop-place-test.true is (c.requires c.loop-place.place-index 0 c.loop-place-test.true) c.index-questions-place.is c.in_ok-near.ensures.kept
          (subst (λ (x : Tracked). is_among c.put_near.new.names.items x.key.name ≡ true) (sym c.index-questions-place.is) c.in_ok-near.ensures.put) c.loop-place.invariant.named;
      only = λ test put. only_again test c.args.questions.now c.args.places.now c.loop-place.place-index place c.index-questions-place.result
          c.args.names.now.items c.loop-place.names.items c.put_near.new.names.items c.loop-place-test.true is put c.index-questions-place.is (c.loop-place.invariant.only test put)
          (subst (λ (x : Tracked). ArePutOnly (λ name. folded_eq name x.key.name) c.loop-place.names.items c.put_near.new.names.items) (sym c.index-questions-place.is) c.in_ok-near.ensures.only);
      once = λ e. c.in_ok-near.ensures.once (c.loop-place.invariant.once e);
    }

pub returns-clause-named : goal.returns-clause-named
returns-clause-named c = λ test put. named_all test c.args.questions.now c.args.places.now c.loop-place.place-index c.loop-place.names.items put c.loop-place-test.false c.loop-place.invariant.named
