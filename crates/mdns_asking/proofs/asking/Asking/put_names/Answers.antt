use Rattle.std.proofs.Common.{◌≡◌, ◌∙◌, ◌||◌, ℕ, Bool, List, [], ap, sym, subst}
use Rattle.mdns_cache.specs.Ended.{is_among}
use Rattle.mdns_happened.specs.Told.{told_by}
use Rattle.mdns_question.specs.declared.tracked.Tracked.{Tracked}
use Rattle.sd_sessions.specs.Put.{is_called, ArePutOnly}
use Rattle.sd_sessions.proofs.PutOnly.{only-also}
use Rattle.mdns_asking.specs.State.{State}
use Rattle.mdns_asking.specs.Walked.{is_maybe_asked, may_be_asked, AreNamed}
use Rattle.mdns_asking.specs.Places.{ArePut}
use Rattle.mdns_asking.proofs.PutPlaces.{all_within}
use Rattle.mdns_asking.proofs.PutNames.{named_both, only_near}
use Rattle.mdns_asking.proofs.asking.Asking.put_names.Goals as goal

-- places that are put of questions, both named in another way
same_put : (test : Tracked → Bool) (questions others : List Tracked) (places copied : List ℕ) → others ≡ questions → copied ≡ places → ArePut test questions [] places → ArePut test others [] copied
same_put test questions others places copied e f put = subst (λ (q : List Tracked). ArePut test q [] copied) (sym e) (subst (ArePut test questions []) (sym f) put)

pub put_names_at-requires : goal.put_names_at-requires
put_names_at-requires c =
    let near : Tracked → Bool = λ one. is_among c.args.touched.now one.key.name || may_be_asked (told_by c.args.happened.now) c.args.when.moment one in
    all_within near c.questions.result.now c.as_slice.result.now
    (same_put near c.self.inside.asker.questions c.questions.result.now c.in_ok-places.places.places.items c.as_slice.result.now c.questions.ensures c.as_slice.ensures c.in_ok-places.ensures)

pub returns-clause-named : goal.returns-clause-named
returns-clause-named c =
    let near : Tracked → Bool = λ one. is_among c.args.touched.now one.key.name || may_be_asked (told_by c.args.happened.now) c.args.when.moment one in
    subst (λ (questions : List Tracked). AreNamed (told_by c.args.happened.now) c.args.when.moment questions c.args.touched.now c.put_begun_names.new.names.items)
    (c.questions.ensures ∙ ap (λ (s : State). s.questions) c.self.view_is)
    (named_both (told_by c.args.happened.now) c.args.when.moment c.questions.result.now c.args.touched.now c.put_names_at.new.names.items c.put_begun_names.new.names.items
    (c.in_ok-put_names_at.ensures.named near
    (same_put near c.self.inside.asker.questions c.questions.result.now c.in_ok-places.places.places.items c.as_slice.result.now c.questions.ensures c.as_slice.ensures c.in_ok-places.ensures))
    c.in_ok-put_begun_names.ensures.kept c.in_ok-put_begun_names.ensures.named)

pub returns-clause-only : goal.returns-clause-only
returns-clause-only c =
    let near : Tracked → Bool = λ one. is_among c.args.touched.now one.key.name || may_be_asked (told_by c.args.happened.now) c.args.when.moment one in
    subst (λ (questions : List Tracked). ArePutOnly (λ name. (is_among c.args.touched.now name || is_maybe_asked (told_by c.args.happened.now) c.args.when.moment questions name) || is_called (told_by c.args.happened.now).call name)
    c.args.names.now.items c.put_begun_names.new.names.items)
    (c.questions.ensures ∙ ap (λ (s : State). s.questions) c.self.view_is)
    (only-also (λ name. is_among c.args.touched.now name || is_maybe_asked (told_by c.args.happened.now) c.args.when.moment c.questions.result.now name) (is_called (told_by c.args.happened.now).call)
    c.args.names.now.items c.put_names_at.new.names.items c.put_begun_names.new.names.items
    (only_near (told_by c.args.happened.now) c.args.when.moment c.args.touched.now c.questions.result.now c.args.names.now.items c.put_names_at.new.names.items
    (c.in_ok-put_names_at.ensures.only near
    (same_put near c.self.inside.asker.questions c.questions.result.now c.in_ok-places.places.places.items c.as_slice.result.now c.questions.ensures c.as_slice.ensures c.in_ok-places.ensures)))
    c.in_ok-put_begun_names.ensures.only)
