use Rattle.std.proofs.Common.{◌≡◌, ℕ, ◌∷◌, [], ◌∙◌, ap, ◌≤◌, arith}
use Rattle.progress_line.specs.Text.{put}
use Rattle.progress_line.proofs.Putting.{put_more, put_full, used_length}
use Rattle.progress_line.proofs.line.Line.push.Goals as goal

pub returns-then-self-lt-COLUMNS : goal.returns-then-self-lt-COLUMNS
returns-then-self-lt-COLUMNS c =
    put_more c.self.inside.bytes c.self.inside.used c.args.byte _ c.visible.ensures c.self.told c.if-self-lt-COLUMNS.true
    ∙ ap (λ l. put l (c.args.byte ∷ [])) c.self.view_is

pub returns-else-self-lt-COLUMNS : goal.returns-else-self-lt-COLUMNS
returns-else-self-lt-COLUMNS c =
    put_full _ _ (used_length c.self.inside.bytes _ c.self.inside.used c.self.view_is c.self.told c.self.invariant
    ∙ full c.if-self-lt-COLUMNS.false c.self.invariant)
  where
    full : {n : ℕ} → 120 ≤ n → n ≤ 120 → n ≡ 120
    full a b = omega arith
