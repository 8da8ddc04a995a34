use Rattle.std.proofs.Common.{◌∙◌, List, length, refl, sym, ap, subst, arith}
use Rattle.std.specs.Map.{values_of}
use Rattle.std.proofs.lemmas.Map.Entries.{length-values_of}
use Rattle.std.proofs.lemmas.Option.{slice_get_within}
use Rattle.by_name.proofs.Changes.{values-set_value_at}
use Rattle.by_name.proofs.Removed.{length-put}
use Rattle.dns_record.specs.Records.{same}
use Rattle.mdns_cache.specs.Flushed.{without_flush}
use Rattle.mdns_cache.specs.Lifetimes.{hearing_at}
use Rattle.mdns_cache.specs.Named.{Entry, AreFiled}
use Rattle.mdns_cache.proofs.Goodbyes.{cut_to, goodbye_none, goodbye_one}
use Rattle.mdns_cache.proofs.Visiting.{filed_put}
use Rattle.mdns_cache.proofs.heard.take_back.Goals as goal

pub cut_at-requires-clause-index : goal.cut_at-requires-clause-index
cut_at-requires-clause-index c =
    let some = c.in-Some.ensures.some in
    let within = slice_get_within (values_of c.args.records.now.entries) c.in-Some.index some.0 some.1 in
    let len = length-values_of c.args.records.now.entries in
    omega (arith, within, len)

pub returns-in-Some-clause-values : goal.returns-in-Some-clause-values
unfolding same
returns-in-Some-clause-values c =
    let some = c.in-Some.ensures.some in
    let es : List Entry = c.args.records.now.entries in
    ap values_of (c.cut_at.ensures.entries some.0 some.1) ∙ values-set_value_at es c.in-Some.index (cut_to c.args.now some.0)
    ∙ sym (goodbye_one (hearing_at c.args.now 0 (without_flush c.args.rr.now)) c.requires.goodbye refl (values_of es) c.in-Some.index some.0 c.requires.once some.1 some.2)

pub returns-in-Some-clause-filed : goal.returns-in-Some-clause-filed
returns-in-Some-clause-filed c =
    let some = c.in-Some.ensures.some in
    subst AreFiled (sym (c.cut_at.ensures.entries some.0 some.1)) (filed_put c.args.records.now.entries c.in-Some.index some.0 (cut_to c.args.now some.0) some.1 refl c.requires.filed)

pub returns-in-Some-clause-len : goal.returns-in-Some-clause-len
returns-in-Some-clause-len c =
    let some = c.in-Some.ensures.some in
    ap length (c.cut_at.ensures.entries some.0 some.1) ∙ length-put c.args.records.now.entries c.in-Some.index (cut_to c.args.now some.0)

pub returns-in_default-clause-values : goal.returns-in_default-clause-values
unfolding same
returns-in_default-clause-values c = sym (goodbye_none (hearing_at c.args.now 0 (without_flush c.args.rr.now)) c.requires.goodbye refl (values_of c.args.records.now.entries) c.in_default.ensures.none)
