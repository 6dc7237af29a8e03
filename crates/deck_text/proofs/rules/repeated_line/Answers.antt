use Rattle.std.proofs.Common.{sym}
use Rattle.deck_text.specs.SaidViews.{said_views}
use Rattle.deck_text.proofs.IndexLemmas.{repeats_none}
use Rattle.deck_text.proofs.rules.repeated_line.Goals as goal

pub returns-in-Define : goal.returns-in-Define
returns-in-Define c = rw c.in-Define.is (c.line_of.ensures (said_views c.args.before.now) c.requires)

pub returns-in-Write : goal.returns-in-Write
returns-in-Write c = rw c.in-Write.is
    (sym (repeats_none (said_views c.args.before.now) c.in-Write.field-0.name.now c.in-Write.field-0.file.now
    c.in-Write.field-0.layer c.in-Write.field-0.datatype))
