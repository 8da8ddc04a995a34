use Rattle.std.proofs.Common.{◌≡◌, ◌∙◌, ◌+◌, ◌-◌, ◌≤◌, ◌<◌, ℕ, false, not, length, refl, arith}
use Rattle.mdns_history.specs.Groups.{is_taken, numbered_name}
use Rattle.plain_groups.proofs.Numbers.{find_next}
use Rattle.plain_groups.proofs.names.free_number.Goals as goal

pub loop-number-preserved : goal.loop-number-preserved
loop-number-preserved c =
    let names = c.args.names.now in
    let group = c.args.group.now in
    let number = c.loop-number.number in
    let end = c.args.from + (length names + 2) in
    let taken : not (is_taken names (numbered_name group number)) ≡ false = cc in
    let more : end - number ≡ end - (number + 1) + 1 = omega arith in
    find_next (λ (n : ℕ). not (is_taken names (numbered_name group n))) number (number + 1) (end - number) (end - (number + 1)) taken refl more ∙ c.loop-number.invariant
