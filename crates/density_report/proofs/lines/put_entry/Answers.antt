use Rattle.std.proofs.Common.{rules}
use Rattle.std.specs.Prelude.{decimal}
use Rattle.std.specs.Fmt.{signed_decimal}
use Rattle.density_report.specs.Texts.{entry_line}
use Rattle.density_report.proofs.TextLemmas.{field, three_fields}
use Rattle.density_report.proofs.lines.put_entry.Goals as goal

pub returns-clause-value : goal.returns-clause-value
unfolding entry_line
returns-clause-value c =
    let e = c.args.entry.now in
    three_fields
    c.args.buffer.now c.put_number.new.buffer c.put_number-2.new.buffer c.put_count.new.buffer c.push.new.self
    (signed_decimal e.column) (signed_decimal e.row) (decimal e.tiles)
    (field _ _ e.column _ (search rules) c.put_number.ensures.value)
    (field _ _ e.row _ (search rules) c.put_number-2.ensures.value)
    c.put_count.ensures.value
    c.push.ensures.value
