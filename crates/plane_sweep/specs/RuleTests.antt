-- A rule as a test of windings.
use Rattle.std.specs.Prelude.{ℤ, ◌≡◌, ◌↔◌, Bool, true}
use Rattle.scan_line.specs.Rules.{IsWinding, Takes}
use Rattle.trap_join.specs.declared.front.Growing.{Growing}
use Rattle.active_lines.specs.declared.item.Windings.{Windings}
use Rattle.plane_sweep.specs.declared.runs.Leaving.{Leaving}

-- the test takes just the windings that the rule does
abbrev pub IsTest : (ℤ → ℤ → Bool → Type 0) → (Windings → Bool) → Type 0
IsTest post takes = (w : Windings) → IsWinding w.a → IsWinding w.b → Takes post w.a w.b ↔ (takes w ≡ true)

-- the trapezoid that is open at a line, as one that grows
abbrev pub growing_at : Leaving → Growing
growing_at l = record { y0 = l.opened.since; left = l.left; right = l.opened.right }
