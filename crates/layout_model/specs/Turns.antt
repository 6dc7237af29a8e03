-- The factor and the quarter turns of a placement, by the real of the file that says them. W says which whole number the
-- real is, where it is one.
use Rattle.std.specs.Prelude.{◌≡◌, ◌⊎◌, ◌≤◌, ◌*◌, ◌%◌, ℕ, zero, suc, ℤ, pos, neg_ℤ, ◌*ℤ◌, ◌≤ℤ◌}

-- that many degrees are that many quarter turns counterclockwise
abbrev pub IsTurn : ℤ → ℕ → Type 0
IsTurn degrees turns =
    ((turns ≡ 0) × ((degrees ≡ pos 0) ⊎ (degrees ≡ pos 360) ⊎ (degrees ≡ neg_ℤ (pos 360))))
    ⊎ ((turns ≡ 1) × ((degrees ≡ pos 90) ⊎ (degrees ≡ neg_ℤ (pos 270))))
    ⊎ ((turns ≡ 2) × ((degrees ≡ pos 180) ⊎ (degrees ≡ neg_ℤ (pos 180))))
    ⊎ ((turns ≡ 3) × ((degrees ≡ pos 270) ⊎ (degrees ≡ neg_ℤ (pos 90))))

-- how many quarter turns counterclockwise that many times 90 degrees are, by the sign: 0 for none
abbrev pub turns_by : ℕ → ℕ → ℕ
turns_by zero quarters = quarters % 4
turns_by (suc sign) quarters = (3 * quarters) % 4

-- a whole number from 1 to 16
abbrev pub IsFactorBy : (ℤ → Type 0) → Type 0
IsFactorBy W = (n : ℕ) × W (pos n) × (1 ≤ n) × (n ≤ 16)

-- a multiple of 90 from -360 to 360
abbrev pub IsQuarterAngleBy : (ℤ → Type 0) → Type 0
IsQuarterAngleBy W = (quarters : ℤ) × W (pos 90 *ℤ quarters) × (neg_ℤ (pos 4) ≤ℤ quarters) × (quarters ≤ℤ pos 4)
