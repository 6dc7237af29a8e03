use Rattle.std.proofs.Common.{refl, arith, inl, inr}
use Rattle.shot_repeat.proofs.Progressing.{undefined, shown, pair_back, judged_by, too_many}
use Rattle.shot_repeat.proofs.reading.judged.Goals as goal

pub returns-in_default-clause-refused : goal.returns-in_default-clause-refused
returns-in_default-clause-refused c = λ before k.
    inl (
      refl,
      undefined before c.args.progress.now c.args.so_far c.args.modal.now c.args.written.now k c.requires.last
          (λ f s. let some = c.in_default.ensures.all f s in absurd (cc)),
    )

pub returns-then-not-agrees-clause-refused : goal.returns-then-not-agrees-clause-refused
returns-then-not-agrees-clause-refused c = λ before k.
    let s = shown before c.args.progress.now c.args.so_far c.args.modal.now c.args.written.now c.in-Some.fields k c.requires.last c.in-Some.ensures.some in
    inr (
      s.defined,
      inl (
        refl,
        λ h. let yes = c.agrees.ensures.1
            (pair_back before c.args.progress.now c.args.so_far c.args.written.now c.in-Some.fields k s h) in absurd (cc),
      ),
    )

pub returns-then-count-gt-MOST_OF_RECORD-clause-refused :
    goal.returns-then-count-gt-MOST_OF_RECORD-clause-refused
returns-then-count-gt-MOST_OF_RECORD-clause-refused c = λ before k.
    let s = shown before c.args.progress.now c.args.so_far c.args.modal.now c.args.written.now c.in-Some.fields k c.requires.last c.in-Some.ensures.some in
    too_many before c.args.progress.now c.args.so_far c.args.progress.now.at c.args.written.now c.in-Some.fields k s (c.agrees.ensures.0 c.if-not-agrees.false)
    (inl (omega (arith, c.if-count-gt-MOST_OF_RECORD.true, c.count_of-count.ensures)))

pub returns-then-so_far-count-gt-MOST_OF_FILE-clause-refused :
    goal.returns-then-so_far-count-gt-MOST_OF_FILE-clause-refused
returns-then-so_far-count-gt-MOST_OF_FILE-clause-refused c = λ before k.
    let s = shown before c.args.progress.now c.args.so_far c.args.modal.now c.args.written.now c.in-Some.fields k c.requires.last c.in-Some.ensures.some in
    too_many before c.args.progress.now c.args.so_far c.args.progress.now.at c.args.written.now c.in-Some.fields k s (c.agrees.ensures.0 c.if-not-agrees.false)
    (inr (omega (arith, c.if-so_far-count-gt-MOST_OF_FILE.true, c.count_of-count.ensures)))

pub returns-clause-ok : goal.returns-clause-ok
returns-clause-ok c = λ before k.
    let s = shown before c.args.progress.now c.args.so_far c.args.modal.now c.args.written.now c.in-Some.fields k c.requires.last c.in-Some.ensures.some in
    judged_by before c.args.progress.now c.args.so_far c.args.written.now c.in-Some.fields k s (c.agrees.ensures.0 c.if-not-agrees.false)
    (omega (arith, c.if-count-gt-MOST_OF_RECORD.false, c.count_of-count.ensures))
    (omega (arith, c.if-so_far-count-gt-MOST_OF_FILE.false, c.count_of-count.ensures))
