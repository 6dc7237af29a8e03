use Rattle.std.proofs.Common.{◌∙◌, ap}
use Rattle.progress_line.specs.Frames.{frame}
use Rattle.progress_line.proofs.Showing.{written_once}
use Rattle.progress_line.proofs.screen.Screen.show.Goals as goal

pub returns-clause-once : goal.returns-clause-once
returns-clause-once g c =
    let once =
    written_once _ _ c.write-shown.result c.bytes-2.result.now _
    (c.bytes-2.ensures ∙ c.frame-frame.ensures ∙ ap (λ l. frame l c.args.self.now.columns) (c.bytes.ensures ∙ c.line-line.ensures))
    c.write-shown.ensures.bytes in
    (c.saturating_sub.result, once.0, once.1)
