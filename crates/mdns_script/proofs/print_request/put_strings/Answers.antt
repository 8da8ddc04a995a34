use Rattle.std.proofs.Common.{◌∙◌, ap, length}
use Rattle.std.specs.Prelude.{min, ℕ}
use Rattle.mdns_script.proofs.TxtWords.{string_put}
use Rattle.mdns_script.proofs.print_request.put_strings.Goals as goal

pub strings-preserved : goal.strings-preserved
strings-preserved c =
    string_put c.in-Some.size.now c.min.result _ c.strings.out.items c.push.new.self.items c.put_label.new.out.items c.strings.rest.now c.in-Some.after.now c.split_at.result.0.now c.split_at.result.1.now
    c.in-Some.ensures.cases.0 (c.min.ensures ∙ ap (λ (n : ℕ). min n (length c.in-Some.after.now)) c.from.ensures) c.split_at.ensures.front c.split_at.ensures.back c.in_ok-push.ensures.items
    c.in_ok-put_label.ensures c.strings.invariant
