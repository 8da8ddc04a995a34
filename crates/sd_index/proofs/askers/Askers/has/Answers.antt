use Rattle.std.proofs.Common.{◌≡◌, ◌∙◌, ℕ, nat_lt, Bor, List, Option, None, Some, length, is_some, ap, refl, sym}
use Rattle.std.specs.Option.{option_copied}
use Rattle.by_name.specs.At.{At, owner_of}
use Rattle.by_name.specs.Filed.{Filing, found}
use Rattle.sd_index.specs.declared.asker.Asker.{Asker}
use Rattle.sd_index.specs.Asked.{askers_of}
use Rattle.sd_index.proofs.Named.{has_filed}
use Rattle.sd_index.proofs.askers.Askers.has.Goals as goal

copied : (o : Option (Bor Asker)) → is_some (option_copied o) ≡ is_some o
copied None = refl
copied (Some x) = refl

pub returns : goal.returns
returns c =
    let es : List (At × Asker) = c.self.inside.filed.entries in
    let owner : List ℕ = owner_of c.args.name.now in
    let there : is_some c.get.result ≡ is_some (found owner 0 es) =
    sym (copied c.get.result) ∙ ap is_some c.get.ensures ∙ ap (λ (k : At). is_some (found k.owner k.number es)) c.new.ensures in
    c.is_some.ensures ∙ there ∙ has_filed owner es c.len-len.ensures.filed ∙ ap (λ (v : Filing Asker). nat_lt 0 (length (askers_of owner v.entries))) c.self.view_is
