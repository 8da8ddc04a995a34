use Rattle.std.proofs.Common.{inl, inr, refl}
use Rattle.sd_command.specs.Commands.{Asked}
use Rattle.sd_command.proofs.Commanding.{no_socket, no_count, no_request, a_command, made_some, made_none}
use Rattle.sd_command.proofs.top.run.Goals as goal

pub returns-in_default : goal.returns-in_default
returns-in_default g c = inl (record { same = refl; cause = inl (refl, no_socket _ c.in_default.ensures) })

pub returns-in_default-count : goal.returns-in_default-count
returns-in_default-count g c = inl (record { same = refl; cause = inl (refl, no_count _ _ _ c.in-Some.ensures c.in_default-count.ensures.value) })

pub returns-in-Ok : goal.returns-in-Ok
returns-in-Ok g c =
    let asked : Asked = record { socket = c.in-Some.socket.now; count = c.in-Some-count.count; request = c.in-Ok.request } in
    inr (asked, a_command _ _ _ _ _ _ c.in-Some.ensures c.in-Some-count.ensures.value (made_some _ _ c.in-Ok.ensures.made), c.ask.ensures)

pub returns-in-Err-BadParam : goal.returns-in-Err-BadParam
returns-in-Err-BadParam g c =
    let made = rw c.in-Err-BadParam.field-0-is at c.in-Err-BadParam.ensures.made in
    inl (record { same = refl; cause = inl (refl, no_request _ _ _ _ _ c.in-Some.ensures c.in-Some-count.ensures.value (made_none _ made)) })
