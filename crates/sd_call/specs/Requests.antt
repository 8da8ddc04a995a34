-- Requests: their codes, and when they are well formed. (RFC 6763 4 and 7, RFC 6335 5.1)
use Rattle.std.specs.Prelude.{ℕ, ℤ, pos, negsuc, ◌==◌, nat_le, Bool, true, false, not, ◌&&◌, ◌||◌, List, length, Option, Some, None}
use Rattle.dns_record.specs.Records.{opt_kind}
use Rattle.sd_name.specs.ServiceTypes.{ServiceType, service_type, is_service_label}
use Rattle.txt_record.specs.Strings.{is_txt}
use Rattle.sd_call.specs.declared.request.Request.{Request}
use Rattle.sd_call.specs.declared.request.Request.TheVariants.{Query, Browse, Resolve, Address, Register, Update, Stop}

-- the codes of `dns_sd.h`: a negsuc is the number below its negative
abbrev pub no_error : ℤ
no_error = pos 0

-- a request that isn't well formed
abbrev pub bad_param : ℤ
bad_param = negsuc 65539

-- a stop or an update of what isn't there
abbrev pub bad_reference : ℤ
bad_reference = negsuc 65540

-- a name that isn't under the top domain, or a registration without a host
abbrev pub unsupported : ℤ
unsupported = negsuc 65543

-- a name that is held
abbrev pub name_conflict : ℤ
name_conflict = negsuc 65547

-- the number of an operation that is in use
abbrev pub invalid : ℤ
invalid = negsuc 65548

-- a limit that is reached
abbrev pub refused : ℤ
refused = negsuc 65552

-- whether a text is a service type with at most so many subtypes
abbrev pub has_subtypes_up_to : ℕ → Option ServiceType → Bool
has_subtypes_up_to most None = false
has_subtypes_up_to most (Some type) = nat_le (length type.subtypes) most

-- The families of addresses are IPv4, IPv6 or both.
abbrev pub is_families : ℕ → Bool
is_families families = nat_le 1 families && nat_le families 3

-- whether a request is well formed
abbrev pub well_formed : Request → Bool
well_formed (Query kind name) = not ((kind == 0) || (kind == opt_kind))
well_formed (Browse regtype) = has_subtypes_up_to 1 (service_type regtype)
well_formed (Resolve label regtype) = is_service_label label && has_subtypes_up_to 0 (service_type regtype)
well_formed (Address families name) = is_families families
well_formed (Register label regtype port norename txt) =
    is_service_label label && has_subtypes_up_to 16 (service_type regtype) && not (port == 0) && is_txt txt
well_formed (Update txt) = is_txt txt
well_formed Stop = true

-- A starting call begins an operation.
abbrev pub is_start : Request → Bool
is_start (Update txt) = false
is_start Stop = false
is_start _ = true

-- whether a request registers a service
abbrev pub is_register : Request → Bool
is_register (Register label regtype port norename txt) = true
is_register _ = false

-- a registration with its TXT replaced
abbrev pub with_txt : List ℕ → Request → Request
with_txt txt (Register label regtype port norename before) = Register label regtype port norename txt
with_txt txt (Query kind name) = Query kind name
with_txt txt (Browse regtype) = Browse regtype
with_txt txt (Resolve label regtype) = Resolve label regtype
with_txt txt (Address families name) = Address families name
with_txt txt (Update other) = Update other
with_txt txt Stop = Stop
