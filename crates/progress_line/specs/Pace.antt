-- How many lines may be shown.
use Rattle.std.specs.Prelude.{ℕ, ◌+◌, ◌-◌, min}

-- what may be shown once this second has come: one more for each second since the last one, at most eight
abbrev pub refilled : ℕ → ℕ → ℕ → ℕ
refilled left last second = min (left + (second - last)) 8
