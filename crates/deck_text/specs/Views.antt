-- What the statements that are lent from a line say, without where their bytes lie.
use Rattle.std.specs.Prelude.{◌≡◌, ℕ, Option, Some, None, Result, Ok, Err}
use Rattle.deck_text.specs.Statements.{Setting, UnitIs, TopIs, BandIs, LimitsAre, FrameIs, Operation, LayerOf, Combines}
use Rattle.deck_text.specs.Statements.{Sizes, Inverts, Mirrors, Statement, Sets, Defines, Writes, Reading, Passed}
use Rattle.deck_text.specs.Statements.{Refused, Says}
use Rattle.deck_text.specs.declared.statement.Setting.{Setting as LentSetting}
use Rattle.deck_text.specs.declared.statement.Setting.TheVariants as settings
use Rattle.deck_text.specs.declared.statement.Operation.{Operation as LentOperation}
use Rattle.deck_text.specs.declared.statement.Operation.TheVariants as operations
use Rattle.deck_text.specs.declared.statement.Statement.{Statement as LentStatement}
use Rattle.deck_text.specs.declared.statement.Statement.TheVariants as statements

abbrev pub setting_view : LentSetting → Setting
setting_view (settings.Unit n) = UnitIs n
setting_view (settings.Top cell) = TopIs cell.bytes.now
setting_view (settings.Band rows) = BandIs rows
setting_view (settings.Limits limits) = LimitsAre limits.height limits.width
setting_view (settings.Frame frame) = FrameIs frame.x0 frame.y0 frame.x1 frame.y1

abbrev pub operation_view : LentOperation → Operation
operation_view (operations.Layer layer datatype) = LayerOf layer datatype
operation_view (operations.Combine operator a b) = Combines operator a.now b.now
operation_view (operations.Resize sizing a dx dy) = Sizes sizing a.now dx dy
operation_view (operations.Invert a) = Inverts a.now
operation_view (operations.Mirror a m) = Mirrors a.now m

abbrev pub statement_view : LentStatement → Statement
statement_view (statements.Set setting) = Sets (setting_view setting)
statement_view (statements.Define name operation) = Defines name.now (operation_view operation)
statement_view (statements.Write writing) = Writes writing.name.now writing.file.now writing.layer writing.datatype

-- what a function returned, seen by view, is what reading gives
abbrev pub Reads : {X Y : Type 0} → (X → Y) → Result X ℕ → Result Y ℕ → Type 0
Reads view (Ok x) read = read ≡ Ok (view x)
Reads view (Err column) read = read ≡ Err column

-- the same of an optional value
abbrev pub Gives : {X Y : Type 0} → (X → Y) → Option X → Option Y → Type 0
Gives view (Some x) given = given ≡ Some (view x)
Gives view None given = given ≡ None

abbrev pub IsReading : Result (Option LentStatement) ℕ → Reading → Type 0
IsReading (Ok None) read = read ≡ Passed
IsReading (Ok (Some statement)) read = read ≡ Says (statement_view statement)
IsReading (Err column) read = read ≡ Refused column
