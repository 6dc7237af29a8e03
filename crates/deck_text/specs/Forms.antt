-- The table of forms: the word that a line begins with, what follows it, and what the line says.
use Rattle.std.specs.Prelude.{ℕ, ◌+◌, Bool, false, ◌==◌, List, [], ◌∷◌, length, codes, find, Option, Some, None, Result, Ok, Err, if◌then◌else◌}
use Rattle.std.specs.Str.{bytes_eq}
use Rattle.deck_text.specs.Tokens.{Piece, pieces_at}
use Rattle.deck_text.specs.Kinds.{Kind, Name, File, Cell, Number, Sides, Values, fields, ◌>>=◌}
use Rattle.deck_text.specs.Statements.{UnitIs, TopIs, BandIs, LimitsAre, FrameIs, LayerOf, Combines, Sizes, Inverts}
use Rattle.deck_text.specs.Statements.{Mirrors, Statement, Sets, Defines, Writes, Reading, Passed, Refused, Says}
use Rattle.deck_text.specs.declared.statement.Operator.TheVariants as operators
use Rattle.deck_text.specs.declared.statement.Sizing.TheVariants as sizings
use Rattle.deck_text.specs.declared.command.Command.{Command}
use Rattle.deck_text.specs.declared.command.Command.TheVariants as commands

abbrev pub word_of : Command → List ℕ
word_of commands.Unit = codes "unit"
word_of commands.Top = codes "top"
word_of commands.Band = codes "band"
word_of commands.Limits = codes "limits"
word_of commands.Frame = codes "frame"
word_of commands.Layer = codes "layer"
word_of commands.Or = codes "or"
word_of commands.And = codes "and"
word_of commands.Sub = codes "sub"
word_of commands.Xor = codes "xor"
word_of commands.Grow = codes "grow"
word_of commands.Shrink = codes "shrink"
word_of commands.Invert = codes "invert"
word_of commands.Mirror = codes "mirror"
word_of commands.Write = codes "write"

abbrev pub kinds_of : Command → List Kind
kinds_of commands.Unit = Number ∷ []
kinds_of commands.Top = Cell ∷ []
kinds_of commands.Band = Number ∷ []
kinds_of commands.Limits = Number ∷ Number ∷ []
kinds_of commands.Frame = Number ∷ Number ∷ Number ∷ Number ∷ []
kinds_of commands.Layer = Name ∷ Number ∷ Number ∷ []
kinds_of commands.Or = Name ∷ Name ∷ Name ∷ []
kinds_of commands.And = Name ∷ Name ∷ Name ∷ []
kinds_of commands.Sub = Name ∷ Name ∷ Name ∷ []
kinds_of commands.Xor = Name ∷ Name ∷ Name ∷ []
kinds_of commands.Grow = Name ∷ Name ∷ Sides ∷ []
kinds_of commands.Shrink = Name ∷ Name ∷ Sides ∷ []
kinds_of commands.Invert = Name ∷ Name ∷ []
kinds_of commands.Mirror = Name ∷ Name ∷ Number ∷ []
kinds_of commands.Write = Name ∷ File ∷ Number ∷ Number ∷ []

abbrev pub meaning_of : (command : Command) → Values (kinds_of command) → Statement
meaning_of commands.Unit (n, end) = Sets (UnitIs n)
meaning_of commands.Top (cell, end) = Sets (TopIs cell)
meaning_of commands.Band (rows, end) = Sets (BandIs rows)
meaning_of commands.Limits (height, (width, end)) = Sets (LimitsAre height width)
meaning_of commands.Frame (x0, (y0, (x1, (y1, end)))) = Sets (FrameIs x0 y0 x1 y1)
meaning_of commands.Layer (name, (layer, (datatype, end))) = Defines name (LayerOf layer datatype)
meaning_of commands.Or (name, (a, (b, end))) = Defines name (Combines operators.Or a b)
meaning_of commands.And (name, (a, (b, end))) = Defines name (Combines operators.And a b)
meaning_of commands.Sub (name, (a, (b, end))) = Defines name (Combines operators.Sub a b)
meaning_of commands.Xor (name, (a, (b, end))) = Defines name (Combines operators.Xor a b)
meaning_of commands.Grow (name, (a, ((dx, dy), end))) = Defines name (Sizes sizings.Grow a dx dy)
meaning_of commands.Shrink (name, (a, ((dx, dy), end))) = Defines name (Sizes sizings.Shrink a dx dy)
meaning_of commands.Invert (name, (a, end)) = Defines name (Inverts a)
meaning_of commands.Mirror (name, (a, (m, end))) = Defines name (Mirrors a m)
meaning_of commands.Write (a, (file, (layer, (datatype, end)))) = Writes a file layer datatype

-- the words after the settings
abbrev pub area_commands : List Command
area_commands =
    commands.Layer ∷ commands.Or ∷ commands.And ∷ commands.Sub ∷ commands.Xor ∷ commands.Grow ∷ commands.Shrink
    ∷ commands.Invert ∷ commands.Mirror ∷ commands.Write ∷ []

abbrev pub all_commands : List Command
all_commands = commands.Unit ∷ commands.Top ∷ commands.Band ∷ commands.Limits ∷ commands.Frame ∷ area_commands

abbrev pub command_among : List Command → List ℕ → Option Command
command_among among token = find (λ command. bytes_eq token (word_of command)) among

-- the command of which the token is the word
unfoldable pub command_of : List ℕ → Option Command
command_of token = command_among all_commands token

-- what the pieces after the word say, or the column of the first thing that doesn't fit
unfoldable pub statement_of : Command → ℕ → List Piece → Result Statement ℕ
statement_of command past ps = fields (kinds_of command) past ps >>= λ values. Ok (meaning_of command values)

abbrev pub reading_of : Result Statement ℕ → Reading
reading_of (Ok statement) = Says statement
reading_of (Err column) = Refused column

abbrev pub command_reading : ℕ → ℕ → Option Command → List Piece → Reading
command_reading past column None ps = Refused column
command_reading past column (Some command) ps = reading_of (statement_of command past ps)

-- the first byte is `#`
abbrev pub is_comment : List ℕ → Bool
is_comment [] = false
is_comment (b ∷ bytes) = b == 35

abbrev pub pieces_reading : ℕ → List Piece → Reading
pieces_reading past [] = Passed
pieces_reading past (p ∷ ps) = if is_comment p.bytes then Passed else command_reading past p.column (command_of p.bytes) ps

-- one past the line's last byte
abbrev pub past : List ℕ → ℕ
past line = length line + 1

-- a line without a piece, or of which the first begins with `#`, is passed over; any other has a form of the table, or is
-- refused at the first piece that doesn't fit, or past its end where a piece is missing
unfoldable pub reading : List ℕ → Reading
reading line = pieces_reading (past line) (pieces_at line 0)
