use Rattle.std.proofs.Common.{sym, ap, ◌∙◌, arith}
use Rattle.std.specs.String.{string_bytes}
use Rattle.depot.specs.declared.filing.File.{File}
use Rattle.depot.proofs.FilingLemmas.{place-first, none-more, text_same, text_differs}
use Rattle.depot.proofs.filing.place.Goals as goal

pub returns-then-eq : goal.returns-then-eq
returns-then-eq c =
    let f = c.index-files-i.result in
    place-first c.args.files.now c.args.name.now c.loop-i.i f (omega arith) c.loop-i.invariant
    (ap (λ (x : File). string_bytes x.name) (sym c.index-files-i.is) ∙ sym c.as_str.ensures.value ∙ text_same _ _ _ c.eq.ensures c.if-eq.true)

pub loop-i-preserved : goal.loop-i-preserved
loop-i-preserved c =
    let f = c.index-files-i.result in
    none-more c.args.files.now c.args.name.now c.loop-i.i f (omega arith) c.loop-i.invariant
    (λ same. text_differs _ _ _ c.eq.ensures c.if-eq.false (c.as_str.ensures.value ∙ ap (λ (x : File). string_bytes x.name) c.index-files-i.is ∙ same))
