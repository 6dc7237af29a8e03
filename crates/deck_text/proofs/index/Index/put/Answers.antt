use Rattle.std.proofs.Common.{ap}
use Rattle.deck_text.specs.SaidViews.{said_view}
use Rattle.deck_text.specs.Views.{statement_view}
use Rattle.deck_text.proofs.IndexLemmas.{put_setting, put_definition, put_output, on_ok}
use Rattle.deck_text.proofs.index.Index.put.Goals as goal

pub returns-in-Set : goal.returns-in-Set
returns-in-Set c = λ saids is. put_setting saids (said_view c.args.said) c.args.self.now _ (ap statement_view c.in-Set.is) is

pub returns-in-Define : goal.returns-in-Define
returns-in-Define c = λ saids is.
    let new = rw c.in-Define.is at c.requires.new in
    on_ok c.define.result
    (λ names files definitions outputs. put_definition saids
    (said_view c.args.said) c.args.self.now c.define.new.self c.in-Define.name.now _
    (ap statement_view c.in-Define.is) new names files definitions outputs is)
    c.define.ensures.names c.define.ensures.files c.define.ensures.definitions c.define.ensures.outputs

pub returns-in-Write : goal.returns-in-Write
returns-in-Write c = λ saids is.
    on_ok c.write.result
    (λ files names definitions outputs. put_output saids
    (said_view c.args.said) c.args.self.now c.write.new.self _ c.in-Write.writing.file.now _ _
    (ap statement_view c.in-Write.is) files names definitions outputs is)
    c.write.ensures.files c.write.ensures.names c.write.ensures.definitions c.write.ensures.outputs
