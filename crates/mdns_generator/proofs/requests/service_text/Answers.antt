use Rattle.std.proofs.Common.{◌≡◌, ◌≤◌, ℕ, List, length, subst, sym, ◌∙◌}
use Rattle.mdns_generator.specs.Generated.{service_text}
use Rattle.mdns_generator.proofs.Short.{short_service}
use Rattle.mdns_generator.proofs.requests.service_text.Goals as goal

pub text-requires : goal.text-requires
text-requires c =
    let is : c.as_str.result.now ≡ service_text c.args.number = c.as_str.ensures.value ∙ c.in_ok-string.ensures.ok in
    subst (λ (text : List ℕ). length text ≤ 1024) (sym is) (short_service c.args.number c.requires)
