-- What a line of a deck says.
use Rattle.std.specs.Prelude.{ℕ, ℤ, List}
use Rattle.deck_text.specs.declared.statement.Operator.{Operator}
use Rattle.deck_text.specs.declared.statement.Sizing.{Sizing}

pub data Setting : Type 0 where
  -- grid steps per micrometre
  UnitIs : ℤ → Setting
  -- the top cell
  TopIs : List ℕ → Setting
  -- rows per band
  BandIs : ℤ → Setting
  -- the limits of a shot
  LimitsAre : (height width : ℤ) → Setting
  -- the frame for inverting
  FrameIs : (x0 y0 x1 y1 : ℤ) → Setting

pub data Operation : Type 0 where
  LayerOf : (layer datatype : ℤ) → Operation
  Combines : Operator → (a b : List ℕ) → Operation
  Sizes : Sizing → (a : List ℕ) (dx dy : ℤ) → Operation
  Inverts : (a : List ℕ) → Operation
  Mirrors : (a : List ℕ) (m : ℤ) → Operation

pub data Statement : Type 0 where
  Sets : Setting → Statement
  Defines : (name : List ℕ) → Operation → Statement
  Writes : (a file : List ℕ) (layer datatype : ℤ) → Statement

-- what a line is: nothing or a comment, no form of the table, or a statement
pub data Reading : Type 0 where
  Passed : Reading
  Refused : (column : ℕ) → Reading
  Says : Statement → Reading

-- a line's number, from 1, and its statement
pub record Said : Type 0 where
  pub line : ℕ
  pub says : Statement
