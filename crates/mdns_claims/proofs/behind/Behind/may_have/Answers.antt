use Rattle.std.proofs.Common.{◌≡◌, ◌∙◌, Bool, true, false, not, refl, sym}
use Rattle.mdns_claims.specs.Seen.{means_in}
use Rattle.mdns_claims.proofs.Made.{none_later}
use Rattle.mdns_claims.proofs.behind.Behind.may_have.Goals as goal

is_true : (b : Bool) → not b ≡ false → b ≡ true
is_true true e = refl
is_true false e = absurd (cc)

pub returns-else-may_have : goal.returns-else-may_have
returns-else-may_have c = λ e place name is.
    none_later (means_in c.args.self.now.means) c.args.self.now.deed.now place c.args.one.now name (sym c.takes_none.ensures ∙ is_true _ e) (c.may_have.ensures c.if-may_have.false name is)
