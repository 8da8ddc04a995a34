use Rattle.std.proofs.Common.{◌∙◌, ap, List, ℕ}
use Rattle.std.specs.Str.{bytes_eq}
use Rattle.dns_name.specs.InPlace.{bytes_in}
use Rattle.dns_name.proofs.Folding.{is_bytes_eq}
use Rattle.dns_name.proofs.folded.FoldedName.is_same.Goals as goal

pub returns : goal.returns
returns c =
    is_bytes_eq _ _ c.is_spelled_as.result c.is_spelled_as.ensures
    ∙ ap (λ (b : List ℕ). bytes_eq b (bytes_in c.other.inside.wire)) c.self.view_is ∙ ap (bytes_eq c.args.self.now) c.other.view_is
