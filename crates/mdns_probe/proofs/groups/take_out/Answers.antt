use Rattle.std.proofs.Common.{◌≡◌, ap, sym, ◌∙◌, Some, None}
use Rattle.std.specs.List.{position}
use Rattle.mdns_probe.specs.Claiming.{is_of}
use Rattle.mdns_probe.proofs.FirstOf.{is_first, taken_out, found_there, none_out, none_found}
use Rattle.mdns_probe.proofs.groups.take_out.Goals as goal

pub returns-in-Some-clause-taken : goal.returns-in-Some-clause-taken
returns-in-Some-clause-taken c =
    let at : Some c.in-Some.place ≡ position (is_of c.args.group) c.args.claims.now.items = sym c.in-Some.is ∙ c.place_of.ensures ∙ ap (position (is_of c.args.group)) c.deref.ensures.value in
    ap Some c.remove.ensures.value
    ∙ sym (found_there c.args.group c.args.claims.now.items c.in-Some.place c.remove.result (is_first c.args.group c.args.claims.now.items c.in-Some.place c.remove.result at))

pub returns-in-Some-clause-claims : goal.returns-in-Some-clause-claims
returns-in-Some-clause-claims c =
    let at : Some c.in-Some.place ≡ position (is_of c.args.group) c.args.claims.now.items = sym c.in-Some.is ∙ c.place_of.ensures ∙ ap (position (is_of c.args.group)) c.deref.ensures.value in
    c.remove.ensures.items
    ∙ taken_out c.args.group c.args.claims.now.items c.in-Some.place c.remove.result (is_first c.args.group c.args.claims.now.items c.in-Some.place c.remove.result at)

pub returns-in-None-clause-taken : goal.returns-in-None-clause-taken
returns-in-None-clause-taken c =
    let at : None ≡ position (is_of c.args.group) c.args.claims.now.items = sym c.in-None.is ∙ c.place_of.ensures ∙ ap (position (is_of c.args.group)) c.deref.ensures.value in
    sym (none_found c.args.group c.args.claims.now.items at)

pub returns-in-None-clause-claims : goal.returns-in-None-clause-claims
returns-in-None-clause-claims c =
    let at : None ≡ position (is_of c.args.group) c.args.claims.now.items = sym c.in-None.is ∙ c.place_of.ensures ∙ ap (position (is_of c.args.group)) c.deref.ensures.value in
    none_out c.args.group c.args.claims.now.items at
