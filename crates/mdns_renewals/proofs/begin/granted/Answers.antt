use Rattle.std.proofs.Common.{◌≡◌, ◌+◌, ◌∙◌, ap, sym, map, Option}
use Rattle.std.specs.Option.{unwrap_or}
use Rattle.sd_name.specs.ServiceTypes.{ServiceType}
use Rattle.mdns_history.specs.Groups.{Group, group_of, free_number, no_type}
use Rattle.mdns_probe.specs.Kept.{name_of}
use Rattle.mdns_renewals.specs.Occasions.{wait_told, txt_asked}
use Rattle.mdns_renewals.specs.Seen.{occasion_in}
use Rattle.mdns_renewals.specs.Wishes.{registration_of}
use Rattle.mdns_renewals.proofs.Wished.{granted_is}
use Rattle.mdns_renewals.proofs.begin.granted.Goals as goal

pub returns-clause-value : goal.returns-clause-value
returns-clause-value c = λ called.
    let type : c.in_ok-regtype_of.field-0 ≡ (registration_of c.args.wish.now).type = sym (ap (λ (o : Option ServiceType). unwrap_or o no_type) c.in_ok-regtype_of.ensures) in
    let fresh : c.service-fresh.result ≡ record {
      id = c.args.registered + 1;
      session = c.args.wish.now.session;
      op = c.args.wish.now.op;
      label = c.args.wish.now.label.now;
      type = (registration_of c.args.wish.now).type;
      port = c.args.wish.now.port;
      norename = c.args.wish.now.norename;
      first = 1;
    } =
    c.service-fresh.ensures
    ∙ (λ i. record {
      id = c.args.registered + 1;
      session = c.args.wish.now.session;
      op = c.args.wish.now.op;
      label = c.in_ok-label_of.ensures i;
      type = type i;
      port = c.args.wish.now.port;
      norename = c.args.wish.now.norename;
      first = 1;
    }) in
    let naming : c.in_ok-naming.naming ≡ group_of (c.args.registered + 1) (map name_of c.args.groups.now) (registration_of c.args.wish.now) =
    c.in_ok-naming.ensures ∙ ap (λ (group : Group). record group { first = free_number 1 (map name_of c.args.groups.now) group }) fresh in
    granted_is (occasion_in c.args.seen.now) c.args.registered c.args.groups.now (registration_of c.args.wish.now) c.in_ok-naming.naming c.wait-wait.result c.args.wish.now.txt.now c.in_ok-one.one
    c.in_ok-one.ensures.value naming (c.wait-wait.ensures.value ∙ ap (wait_told (occasion_in c.args.seen.now)) c.id.ensures) (sym (ap txt_asked called))
