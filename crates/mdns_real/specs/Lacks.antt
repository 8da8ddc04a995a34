-- The errors for which a door waits.
use Rattle.std.specs.Prelude.{ℤ, pos, ◌≡◌, ◌⊎◌, Option, Some}

-- Whether the error number of a call says that there is no room for a connection yet: no memory (ENOMEM, 12), no file of the
-- machine (ENFILE, 23) or of the process (EMFILE, 24), or no buffer (ENOBUFS, 105).
abbrev pub IsLack : Option ℤ → Type 0
IsLack code = (code ≡ Some (pos 12)) ⊎ (code ≡ Some (pos 23)) ⊎ (code ≡ Some (pos 24)) ⊎ (code ≡ Some (pos 105))
