use Rattle.std.proofs.Common.{◌++◌, ◌∙◌, sym, ap, append-nil, append_assoc, [], ◌∷◌, List, ℕ}
use Rattle.dns_name.proofs.WrittenText.{labels_text, told_next}
use Rattle.dns_name.proofs.name.Name.put_labels.Goals as goal

pub loop-label-preserved : goal.loop-label-preserved
loop-label-preserved c =
    told_next c.loop-label.out.items c.push.new.self.items c.in-Some.label.now (c.args.out.now.items ++ labels_text c.args.self.now) c.loop-label.labels c.next_label.new.self c.in-Some.ensures.0 c.loop-label.invariant
    (c.in_ok-push.ensures.items ∙ ap (λ (l : List ℕ). l ++ 46 ∷ []) c.in_ok-put_label_text.ensures ∙ append_assoc c.loop-label.out.items _ (46 ∷ []))

pub returns : goal.returns
returns c =
    sym (append-nil c.loop-label.out.items) ∙ ap (λ (l : List (List ℕ)). c.loop-label.out.items ++ labels_text l) (sym c.in_default.ensures.0)
    ∙ c.loop-label.invariant
