-- Numbers near 0. Assumes nothing.
use Rattle.std.specs.Prelude.{ℕ, ℤ, pos, neg_ℤ, ◌≤ℤ◌}

-- z lies within b of 0
abbrev pub Near : ℕ → ℤ → Type 0
Near b z = (neg_ℤ (pos b) ≤ℤ z) × (z ≤ℤ pos b)
