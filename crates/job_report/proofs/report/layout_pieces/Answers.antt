use Rattle.std.proofs.Common.{◌∙◌}
use Rattle.job_report.proofs.ReportLemmas.{layout_is}
use Rattle.job_report.proofs.report.layout_pieces.Goals as goal

pub returns : goal.returns
returns c =
    layout_is c.args.format c.args.cells c.args.counts.now c.as_bytes.result.now c.from.result c.from-2.result
    c.from-3.result c.from-4.result c.from-5.result c.from-6.result
    (c.as_bytes.ensures.value ∙ c.format_name.ensures) c.from.ensures c.from-2.ensures c.from-3.ensures c.from-4.ensures c.from-5.ensures c.from-6.ensures
