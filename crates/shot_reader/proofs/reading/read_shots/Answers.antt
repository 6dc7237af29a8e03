use Rattle.std.proofs.Common.{◌≡◌, ◌++◌, ℕ, List, drop, get_or, refl, ap, sym, subst, ◌∙◌, arith, inl}
use Rattle.std.specs.Prelude.{flat_map, All}
use Rattle.std.proofs.Math.Seq.{drop-length}
use Rattle.half_grid.specs.Trapezoids.{Trapezoid, IsShot}
use Rattle.oas_lex.specs.ShotText.{spelling_of}
use Rattle.shot_reader.specs.Refusals.{IsFirstShotFault}
use Rattle.shot_reader.specs.declared.refusing.ShotBad.TheVariants as faults
use Rattle.shot_reader.proofs.Ids.{first_byte}
use Rattle.shot_reader.proofs.Rests.{found_next, not_nil, file_of, up_to, all_more}
use Rattle.shot_reader.proofs.Faults.{no_fault, text_right, text_read, read_fault, cut_fault, end_fault, told}
use Rattle.shot_reader.proofs.reading.read_shots.Goals as goal
use Rattle.shot_reader.proofs.reading.read_shots.Goals.{then-loop-at-test+else-bytes-at-ne-END, else-loop-at-test}

-- ---- no head

no_head : (c : goal.After-longest_head) → IsFirstShotFault c.args.bytes.now (faults.Head c.longest_head.result)
no_head c =
    inl (
      c.longest_head.result,
      refl,
      record {
        no_head = λ unit after h e. let some = c.in_default.ensures.read unit after h e in absurd (cc);
        begins = c.longest_head.ensures.begins;
        longest = c.longest_head.ensures.longest;
      },
    )

pub returns-in_default-clause-refused : goal.returns-in_default-clause-refused
returns-in_default-clause-refused c = λ unit l d shots h p all e. absurd (text_right c.args.bytes.now unit l d shots _ h p all e (no_head c))

pub returns-in_default-clause-first_fault : goal.returns-in_default-clause-first_fault
returns-in_default-clause-first_fault c = no_head c

pub returns-in_default-clause-every_fault : goal.returns-in_default-clause-every_fault
returns-in_default-clause-every_fault c = told c.args.bytes.now _ _ refl (no_head c)

-- ---- a record

record_fault : (c : goal.After-drop-shots-inside) → IsFirstShotFault c.args.bytes.now c.in-Err.bad
record_fault c =
    read_fault c.args.bytes.now c.in-Some.first c.loop-at.at c.in-Some.unit c.loop-at.pair c.loop-at.shots _
    c.in-Some.ensures.found.0 c.loop-at.invariant.within c.in-Some.ensures.found.2 c.loop-at.invariant.pair
    c.loop-at.invariant.legal c.loop-at.invariant.found
    c.in-Err.ensures.refused

pub returns-in-Err-clause-refused : goal.returns-in-Err-clause-refused
returns-in-Err-clause-refused c = λ unit l d shots h p all e. absurd (text_right c.args.bytes.now unit l d shots _ h p all e (record_fault c))

pub returns-in-Err-clause-first_fault : goal.returns-in-Err-clause-first_fault
returns-in-Err-clause-first_fault c = record_fault c

pub returns-in-Err-clause-every_fault : goal.returns-in-Err-clause-every_fault
returns-in-Err-clause-every_fault c = told c.args.bytes.now _ _ refl (record_fault c)

pub loop-at-preserved : goal.loop-at-preserved
loop-at-preserved c =
    let pushed = c.in_ok-push.ensures.ok in
    let z = c.in-Ok.record.shot in
    let m = c.in-Ok.record.pair.layer in
    let e = c.in-Ok.record.pair.datatype in
    record {
      within = c.in-Ok.ensures.next.1;
      pair = (λ w. not_nil c.loop-at.shots z (sym pushed ∙ w), c.in-Ok.ensures.pair.0);
      legal = subst (λ (zs : List Trapezoid). All IsShot zs) (sym pushed) (all_more c.loop-at.shots z c.loop-at.invariant.legal c.in-Ok.ensures.shot);
      found = found_next c.loop-at.pair m e c.loop-at.shots z (drop c.in-Some.first c.args.bytes.now)
          (drop c.loop-at.at c.args.bytes.now)
          (drop c.in-Ok.record.next c.args.bytes.now) c.loop-at.invariant.pair c.in-Ok.ensures.pair.1
          c.loop-at.invariant.found c.in-Ok.ensures.found
          ∙ ap (λ (zs : List Trapezoid). flat_map (spelling_of m e) zs ++ drop c.in-Ok.record.next c.args.bytes.now) (sym pushed);
    }

-- ---- the bytes end

cut : (c : goal.After-drop-shots-inside-then-at-bytes) → IsFirstShotFault c.args.bytes.now (faults.Record c.loop-at.at)
cut c =
    read_fault c.args.bytes.now c.in-Some.first c.loop-at.at c.in-Some.unit c.loop-at.pair c.loop-at.shots _
    c.in-Some.ensures.found.0 c.loop-at.invariant.within c.in-Some.ensures.found.2 c.loop-at.invariant.pair
    c.loop-at.invariant.legal c.loop-at.invariant.found
    (cut_fault c.loop-at.pair (drop c.loop-at.at c.args.bytes.now) c.loop-at.at
    (ap (λ (n : ℕ). drop n c.args.bytes.now) c.if-at-bytes.true ∙ drop-length c.args.bytes.now))

pub returns-then-at-bytes-clause-refused : goal.returns-then-at-bytes-clause-refused
returns-then-at-bytes-clause-refused c = λ unit l d shots h p all e. absurd (text_right c.args.bytes.now unit l d shots _ h p all e (cut c))

pub returns-then-at-bytes-clause-first_fault : goal.returns-then-at-bytes-clause-first_fault
returns-then-at-bytes-clause-first_fault c = cut c

pub returns-then-at-bytes-clause-every_fault : goal.returns-then-at-bytes-clause-every_fault
returns-then-at-bytes-clause-every_fault c = told c.args.bytes.now _ _ refl (cut c)

-- ---- END

last : (c : goal.After-drop-shots-inside-then-not-ends_at) → IsFirstShotFault c.args.bytes.now (faults.End c.loop-at.at)
last c =
    let two : get_or (drop c.loop-at.at c.args.bytes.now) 0 0 ≡ 2 = elim c.loop-at-test.branch [
      | then-loop-at-test+else-bytes-at-ne-END w ↦ omega (arith, first_byte c.args.bytes.now c.loop-at.at, w.if-bytes-at-ne-END.false)
      | else-loop-at-test w ↦ absurd (omega (arith, w.loop-at-test.false, c.if-at-bytes.false, c.loop-at.invariant.within))
    ] in
    read_fault c.args.bytes.now c.in-Some.first c.loop-at.at c.in-Some.unit c.loop-at.pair c.loop-at.shots _
    c.in-Some.ensures.found.0 c.loop-at.invariant.within c.in-Some.ensures.found.2 c.loop-at.invariant.pair
    c.loop-at.invariant.legal c.loop-at.invariant.found
    (end_fault c.loop-at.pair (drop c.loop-at.at c.args.bytes.now) c.loop-at.at two (λ e. let w = c.ends_at.ensures.1 e in absurd (cc)))

pub returns-then-not-ends_at-clause-refused : goal.returns-then-not-ends_at-clause-refused
returns-then-not-ends_at-clause-refused c = λ unit l d shots h p all e. absurd (text_right c.args.bytes.now unit l d shots _ h p all e (last c))

pub returns-then-not-ends_at-clause-first_fault : goal.returns-then-not-ends_at-clause-first_fault
returns-then-not-ends_at-clause-first_fault c = last c

pub returns-then-not-ends_at-clause-every_fault : goal.returns-then-not-ends_at-clause-every_fault
returns-then-not-ends_at-clause-every_fault c = told c.args.bytes.now _ _ refl (last c)

-- ---- a shot file

pub returns-clause-found : goal.returns-clause-found
returns-clause-found c = file_of c.args.bytes.now (drop c.in-Some.first c.args.bytes.now)
    (drop c.loop-at.at c.args.bytes.now) c.in-Some.unit c.loop-at.pair c.loop-at.shots c.in-Some.ensures.found.0
    c.in-Some.ensures.found.2 c.loop-at.invariant.legal c.loop-at.invariant.pair c.loop-at.invariant.found
    (c.ends_at.ensures.0 c.if-not-ends_at.false)

pub returns-clause-read : goal.returns-clause-read
returns-clause-read c = λ unit l d shots h p all e.
    let same = text_read c.args.bytes.now c.loop-at.at c.loop-at.pair
    (up_to c.args.bytes.now c.in-Some.first c.loop-at.at c.in-Some.unit c.loop-at.pair c.loop-at.shots
    c.in-Some.ensures.found.0 c.loop-at.invariant.within c.in-Some.ensures.found.2 c.loop-at.invariant.pair
    c.loop-at.invariant.legal c.loop-at.invariant.found)
    unit l d shots (c.ends_at.ensures.0 c.if-not-ends_at.false) h p all e in
    (same.0, same.1, same.2)

pub returns-clause-every_fault : goal.returns-clause-every_fault
returns-clause-every_fault c = λ bad w.
    absurd (no_fault c.args.bytes.now c.loop-at.at c.loop-at.pair bad
    (up_to c.args.bytes.now c.in-Some.first c.loop-at.at c.in-Some.unit c.loop-at.pair c.loop-at.shots
    c.in-Some.ensures.found.0 c.loop-at.invariant.within c.in-Some.ensures.found.2 c.loop-at.invariant.pair
    c.loop-at.invariant.legal c.loop-at.invariant.found)
    (c.ends_at.ensures.0 c.if-not-ends_at.false) w)
