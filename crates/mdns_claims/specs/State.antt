-- What contracts see of the claims of a daemon, and the histories that they stand for. (RFC 6762 8 and 9)
use Rattle.std.specs.Prelude.{◌≡◌, ℕ, Bool, List, Option, Some}
use Rattle.std.specs.Option.{unwrap_or}
use Rattle.mdns_conflict.specs.Storms as storms
use Rattle.mdns_history.specs.declared.config.Config.{Config}
use Rattle.mdns_history.specs.declared.entry.Entry.{Entry}
use Rattle.mdns_history.specs.History.{latest, config_of}
use Rattle.mdns_history.specs.Groups.{renaming, registered_count}
use Rattle.mdns_history.specs.Probing.{conflict_moments}
use Rattle.mdns_probe.specs.Kept.{Kept, all_kept}

-- What is kept of claims: the daemon's configuration, whether it announces what it claims, the number of its host's name (also where the host's group
-- failed), how many registrations were accepted, the live groups by number, and what is kept of conflicts.
pub record Contents : Type 0 where
  pub config : Config
  pub announces : Bool
  pub number : ℕ
  pub registered : ℕ
  pub kept : List Kept
  pub storm : storms.Contents

-- what contracts see of claims: what is kept, and for how many more groups there is room
pub record State : Type 0 where
  pub contents : Contents
  pub spare : ℕ

-- What is kept of claims stands for a history.
pub record Stands (contents : Contents) (history : List Entry) : Type 0 where
  pub config : ◌≡◌ {A = Option Config} (config_of history) (Some contents.config)
  pub number : contents.number ≡ unwrap_or (latest (renaming 0) history) 1
  pub registered : contents.registered ≡ registered_count history
  pub kept : contents.kept ≡ all_kept history
  pub storm : storms.Stands contents.storm (conflict_moments history)
