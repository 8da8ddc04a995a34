-- Which texts may be the label of a host.
use Rattle.std.specs.Prelude.{ℕ, Bool, not, ◌&&◌, List, Option, Some, None, if◌then◌else◌}
use Rattle.std.specs.List.{list_all}
use Rattle.std.specs.Str.{is_utf8}
use Rattle.dns_name.specs.Names.{is_label}
use Rattle.sd_name.specs.ServiceTypes.{is_control}

-- text of 1 to 63 bytes without ASCII control characters
abbrev pub is_host_text : List ℕ → Bool
is_host_text text = is_label text && is_utf8 text && list_all (λ b. not (is_control b)) text

-- the label of a text, where it may be a host's
abbrev pub host_label_of : List ℕ → Option (List ℕ)
host_label_of text = if is_host_text text then Some text else None
