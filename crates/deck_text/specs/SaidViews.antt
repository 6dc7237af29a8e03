-- Statements with their lines, without where their bytes lie.
use Rattle.std.specs.Prelude.{List, map}
use Rattle.deck_text.specs.Statements.{Said}
use Rattle.deck_text.specs.Views.{statement_view}
use Rattle.deck_text.specs.declared.said.Said.{Said as LentSaid}

abbrev pub said_view : LentSaid → Said
said_view m = record { line = m.line; says = statement_view m.says }

abbrev pub said_views : List LentSaid → List Said
said_views saids = map said_view saids
