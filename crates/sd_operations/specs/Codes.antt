-- How calls are answered, told of a session's operations and of what is known of registrations.
use Rattle.std.specs.Prelude.{ℕ, ℤ, nat_le, Bool, true, false, not, ◌&&◌, ◌||◌, List, length, Option, Some, None, if◌then◌else◌}
use Rattle.std.specs.List.{find}
use Rattle.std.specs.Option.{is_some}
use Rattle.dns_name.specs.Names.{is_under}
use Rattle.sd_name.specs.ServiceTypes.{local_name}
use Rattle.sd_call.specs.declared.request.Request.{Request}
use Rattle.sd_call.specs.declared.request.Request.TheVariants as request
use Rattle.sd_call.specs.Requests.{no_error, bad_param, bad_reference, unsupported, name_conflict, invalid, refused, well_formed, is_start, is_register}
use Rattle.mdns_history.specs.declared.operation.Operation.{Operation}
use Rattle.mdns_history.specs.Sessions.{has_op}
use Rattle.mdns_history.specs.Outcomes.{most_operations}
use Rattle.sd_operations.specs.declared.codes.Registering.{Registering}

-- whether an operation of a number is there
abbrev pub is_running : ℕ → List Operation → Bool
is_running op operations = is_some (find (has_op op) operations)

-- an update of what is no registration, or of one that has no live group
abbrev pub updates_none : Registering → Option Operation → Bool
updates_none known None = true
updates_none known (Some operation) = not (is_register operation.request && known.live)

-- a stop of what isn't there, or an update of what is no live registration
abbrev pub refers_to_none : Registering → ℕ → Request → List Operation → Bool
refers_to_none known op request.Stop operations = not (is_running op operations)
refers_to_none known op (request.Update txt) operations = updates_none known (find (has_op op) operations)
refers_to_none known op _ operations = false

-- a name that isn't under `local`, or a registration without a host
abbrev pub is_foreign : Registering → Request → Bool
is_foreign known (request.Query kind name) = not (is_under name local_name)
is_foreign known (request.Address families name) = not (is_under name local_name)
is_foreign known (request.Register label regtype port norename txt) = not known.hosted
is_foreign known _ = false

-- one operation too many of its session, or one registration too many of all
abbrev pub is_too_many : Registering → Request → List Operation → Bool
is_too_many known request operations = nat_le most_operations (length operations) || (is_register request && known.spent)

-- the code of a call of a session with these operations
unfoldable pub kept_code : Registering → List Operation → ℕ → Request → ℤ
kept_code known operations op request =
    if is_start request && is_running op operations then invalid
    else if refers_to_none known op request operations then bad_reference
    else if not (well_formed request) then bad_param
    else if is_foreign known request then unsupported
    else if is_start request && is_too_many known request operations then refused
    else if known.taken then name_conflict
    else no_error
