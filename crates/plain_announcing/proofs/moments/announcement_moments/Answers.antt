use Rattle.std.proofs.Common.{◌≡◌, ◌∙◌, ◌∷◌, ◌++◌, ℕ, List, length, ap, sym, arith}
use Rattle.mdns_history.specs.declared.entry.Entry.{Entry}
use Rattle.mdns_history.specs.History.{has_mark}
use Rattle.mdns_history.specs.Groups.{Group}
use Rattle.mdns_history.specs.Announcing.{announcement_moments, is_announcement_of}
use Rattle.plain_history.specs.Kept.{kept_if}
use Rattle.plain_announcing.proofs.Renewals.{announces, announced_here, announced_next}
use Rattle.plain_announcing.proofs.moments.announcement_moments.Goals as goal

pub returns-then-renews : goal.returns-then-renews
returns-then-renews c =
    let group = c.args.group.now in
    let entry = c.in-Some.entry.now in
    let past = c.in-Some.past.now in
    let rest = c.loop-entry.rest.now in
    let before = c.loop-entry.moments.items in
    let split : rest ≡ entry ∷ past = c.in-Some.ensures.cases.0 in
    let told : c.announces-announced.result ≡ announces group entry =
    c.announces-announced.ensures ∙ ap (λ (e : Entry). has_mark (is_announcement_of c.group.inside.id) e) c.entry.ensures
    ∙ ap (λ (g : Group). announces g entry) c.group.view_is in
    let put : c.put_moment_if.new.moments.items ≡ before ++ kept_if (announces group entry) entry.moment =
    c.in_ok-put_moment_if.ensures ∙ ap (λ b. before ++ kept_if b entry.moment) told in
    put ∙ announced_here group rest entry past before split (sym c.in_ok-renews.ensures ∙ c.if-renews.true) ∙ c.loop-entry.invariant.moments

pub loop-entry-preserved : goal.loop-entry-preserved
loop-entry-preserved c =
    let group = c.args.group.now in
    let entry = c.in-Some.entry.now in
    let past = c.in-Some.past.now in
    let rest = c.loop-entry.rest.now in
    let before = c.loop-entry.moments.items in
    let split : rest ≡ entry ∷ past = c.in-Some.ensures.cases.0 in
    let told : c.announces-announced.result ≡ announces group entry =
    c.announces-announced.ensures ∙ ap (λ (e : Entry). has_mark (is_announcement_of c.group.inside.id) e) c.entry.ensures
    ∙ ap (λ (g : Group). announces g entry) c.group.view_is in
    let put : c.put_moment_if.new.moments.items ≡ before ++ kept_if (announces group entry) entry.moment =
    c.in_ok-put_moment_if.ensures ∙ ap (λ b. before ++ kept_if b entry.moment) told in
    record {
      moments = ap (λ (l : List ℕ). l ++ announcement_moments group past) put
          ∙ announced_next group rest entry past before split (sym c.in_ok-renews.ensures ∙ c.if-renews.false) ∙ c.loop-entry.invariant.moments;
      short = omega (arith, ap length split);
    }
