-- What is said through a buffer.
use Rattle.std.specs.Prelude.{ℕ, ◌≡◌, List, ◌++◌}
use Rattle.depot.specs.Content.{Content, with_said}

-- of these bytes all were said but the last, which are held back
pub record IsSaidButFor (before : Content) (bytes held : List ℕ) (now : Content) : Type 0 where
  pub said : List ℕ
  pub content : now ≡ with_said before said
  pub whole : said ++ held ≡ bytes
