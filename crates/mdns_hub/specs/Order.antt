-- The order of packets under way.
use Rattle.std.specs.Coded.{×_prop, Unit-prop, le_prop, Coded-set, coded_bool}
use Rattle.std.specs.Prelude.{◌≡◌, ℕ, ◌≤◌, nat_le, ⊤, Bool, true, List, [], ◌∷◌, Option, Some, None}
use Rattle.lists.specs.Lists.{count_where}
use Rattle.mdns_hub.specs.declared.delivery.Delivery.{Delivery}

-- No packet is heard before a moment, nor before the one in front of it, and each is on its way to a daemon that is kept.
abbrev pub AreFit : ℕ → (ℕ → Bool) → List Delivery → Type 0
AreFit moment kept [] = ⊤
AreFit moment kept (delivery ∷ rest) = ((moment ≤ delivery.moment) × (kept delivery.daemon ≡ true)) × AreFit delivery.moment kept rest

-- that is a fact, which holds in one way
pub AreFit-prop : (moment : ℕ) (kept : ℕ → Bool) (deliveries : List Delivery) → IsProp (AreFit moment kept deliveries)
AreFit-prop moment kept [] = Unit-prop
AreFit-prop moment kept (delivery ∷ rest) = ×_prop (×_prop le_prop (Coded-set coded_bool (kept delivery.daemon) true)) (AreFit-prop delivery.moment kept rest)

-- when the first packet is heard
abbrev pub first_moment : List Delivery → Option ℕ
first_moment [] = None
first_moment (delivery ∷ rest) = Some delivery.moment

-- how many packets are heard by a moment
abbrev pub early_count : ℕ → List Delivery → ℕ
early_count now deliveries = count_where (λ delivery. nat_le delivery.moment now) deliveries
