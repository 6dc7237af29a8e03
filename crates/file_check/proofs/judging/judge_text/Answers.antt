use Rattle.std.proofs.Common.{refl}
use Rattle.std.proofs.lemmas.Result.{IfErr-weaker}
use Rattle.file_check.specs.Files.{IsExactText}
use Rattle.geo_stream.specs.Refusals.{IsForFault}
use Rattle.geo_stream.proofs.ForCallers.{for_fault_weaker}
use Rattle.file_check.specs.Judgements.{data_of, IsShotsFault, IsBytesFault}
use Rattle.file_check.proofs.Lengths.{few_shots}
use Rattle.file_check.proofs.Answering.{both_ok, bytes_fault, exact_text}
use Rattle.file_check.proofs.judging.judge_text.Goals as goal

pub returns-then-not-has_head-clause-refused : goal.returns-then-not-has_head-clause-refused
returns-then-not-has_head-clause-refused g c = rw c.refused-then-not-has_head.ensures (
  refl,
  record {
    s = data_of c.in-Ok.file;
    text = c.in-Ok.ensures.found;
    other = λ h.
        (let no = c.if-not-has_head.ensures.1 h in let clash : ⊥ = cc in clash);
  },
)

pub judge_shots-requires-clause-few : goal.judge_shots-requires-clause-few
judge_shots-requires-clause-few g c = rw c.as_slice.ensures (few_shots c.args.bytes.now _ _ _ c.in-Ok.ensures.found c.requires.short)

pub returns-clause-ok : goal.returns-clause-ok
returns-clause-ok g c =
    let head = c.if-not-has_head.ensures.0 refl in
    both_ok c.judge_shots.result _ _ (IsExactText c.args.plan.now c.args.place c.args.output.now c.args.bytes.now)
    (exact_text c.args.plan.now c.args.place c.args.output.now c.args.bytes.now c.in-Ok.file c.in-Ok.ensures.found head)
    (rw c.as_slice.ensures at c.judge_shots.ensures.ok) (rw c.as_slice.ensures at c.judge_shots.ensures.exact)

pub returns-clause-refused : goal.returns-clause-refused
returns-clause-refused g c =
    let head = c.if-not-has_head.ensures.0 refl in
    let of_bytes = IsBytesFault c.args.plan.now c.args.place c.args.output.now c.args.bytes.now in
    IfErr-weaker c.judge_shots.result _ (IsForFault of_bytes)
    (λ refusal. for_fault_weaker (IsShotsFault c.args.plan.now c.args.place c.in-Ok.file.shots) of_bytes refusal
    (bytes_fault c.args.plan.now c.args.place c.args.output.now c.args.bytes.now c.in-Ok.file c.in-Ok.ensures.found head))
    (rw c.as_slice.ensures at c.judge_shots.ensures.refused)
