-- Registrations that are asked for. (RFC 6763 4)
use Rattle.std.specs.Prelude.{◌≡◌, ℕ, ◌<◌, ◌^◌, true, IsTrue, Option, Some, None, if◌then◌else◌}
use Rattle.std.specs.Option.{unwrap_or}
use Rattle.sd_name.specs.ServiceTypes.{service_type}
use Rattle.sd_call.specs.declared.request.Request.TheVariants as request
use Rattle.sd_call.specs.Requests.{well_formed, is_register}
use Rattle.mdns_history.specs.Sessions.{Accepted}
use Rattle.mdns_history.specs.Groups.{Registration, no_type}
use Rattle.mdns_renewals.specs.declared.begin.Wish.{Wish}

-- the call that asks for one
abbrev pub asked_by : Wish → Accepted
asked_by wish = record { session = wish.session; op = wish.op; request = request.Register wish.label.now wish.regtype.now wish.port wish.norename wish.txt.now }

-- what is then registered
abbrev pub registration_of : Wish → Registration
registration_of wish =
    record {
      session = wish.session;
      op = wish.op;
      label = wish.label.now;
      type = unwrap_or (service_type wish.regtype.now) no_type;
      port = wish.port;
      norename = wish.norename;
    }

-- an accepted call, if it registers
abbrev pub registering : Option Accepted → Option Accepted
registering None = None
registering (Some call) = if is_register call.request then Some call else None

-- An accepted call is well formed, and a registration finds room for another.
abbrev pub IsAcceptable : ℕ → Option Accepted → Type 0
IsAcceptable registered None = Unit {0}
IsAcceptable registered (Some call) = IsTrue (well_formed call.request) × (is_register call.request ≡ true → registered < 2 ^ 63)
