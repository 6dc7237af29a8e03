use Rattle.std.proofs.Common.{refl, inl, []}
use Rattle.shot_repeat.specs.Refusals.{IsFirstPackFault}
use Rattle.shot_repeat.specs.declared.refusing.PackBad.TheVariants as faults
use Rattle.shot_repeat.proofs.Files.{file_right, one_file, told, told_of}
use Rattle.shot_repeat.proofs.Progressing.{none_read, wanting_by, ok_by, err_by}
use Rattle.shot_repeat.proofs.packed_file.read_packed.Goals as goal

-- ---- no head

no_head : (c : goal.After-longest_head) → IsFirstPackFault c.args.bytes.now (faults.Head c.longest_head.result)
no_head c =
    inl (
      c.longest_head.result,
      refl,
      record {
        no_head = λ unit after h e. let some = c.in_default.ensures.read unit after h e in absurd (cc);
        begins = c.longest_head.ensures.begins;
        longest = c.longest_head.ensures.longest;
      },
    )

pub returns-in_default-clause-refused : goal.returns-in_default-clause-refused
returns-in_default-clause-refused c = λ unit pair shots f. absurd (file_right c.args.bytes.now unit pair shots _ f (no_head c))

pub returns-in_default-clause-first_fault : goal.returns-in_default-clause-first_fault
returns-in_default-clause-first_fault c = no_head c

pub returns-in_default-clause-every_fault : goal.returns-in_default-clause-every_fault
returns-in_default-clause-every_fault c = told c.args.bytes.now _ _ refl (no_head c)

-- ---- the number of shots

pub check_number-requires : goal.check_number-requires
check_number-requires c = (
  c.in-Some.unit,
  record {
    unit_fits = c.in-Some.ensures.found.0;
    read =
        none_read c.args.bytes.now c.in-Some.unit _ [] c.in-Some.ensures.found.1 c.in-Some.ensures.found.2 refl
        (record {
          layer = c.nothing_written.ensures.layer;
          datatype = c.nothing_written.ensures.datatype;
          width = c.nothing_written.ensures.width;
          height = c.nothing_written.ensures.height;
          x = c.nothing_written.ensures.x;
          y = c.nothing_written.ensures.y;
        })
        refl;
  },
)

pub take_file-requires-clause-start : goal.take_file-requires-clause-start
take_file-requires-clause-start c = record {
  unit_fits = c.in-Some.ensures.found.0;
  read =
      none_read c.args.bytes.now c.in-Some.unit _ [] c.in-Some.ensures.found.1 c.in-Some.ensures.found.2 refl
      (record {
        layer = c.nothing_written.ensures.layer;
        datatype = c.nothing_written.ensures.datatype;
        width = c.nothing_written.ensures.width;
        height = c.nothing_written.ensures.height;
        x = c.nothing_written.ensures.x;
        y = c.nothing_written.ensures.y;
      })
      refl;
}

pub returns-in-Err-clause-refused : goal.returns-in-Err-clause-refused
returns-in-Err-clause-refused c = λ unit pair shots f. absurd
    (file_right c.args.bytes.now unit pair shots c.in-Err.bad f c.in-Err.ensures.refused)

pub returns-in-Err-clause-every_fault : goal.returns-in-Err-clause-every_fault
returns-in-Err-clause-every_fault c = told c.args.bytes.now c.in-Err.bad _ refl c.in-Err.ensures.refused

-- ---- the records

pub returns-clause-read : goal.returns-clause-read
returns-clause-read c = λ unit pair shots f.
    ok_by c.take_file.result _ _
    (λ file found. one_file c.args.bytes.now file.unit unit file.pair pair file.shots shots found.stands f.stands)
    c.take_file.ensures.found

pub returns-clause-refused : goal.returns-clause-refused
returns-clause-refused c = λ unit pair shots f.
    err_by c.take_file.result _ _
    (λ refusal fault. wanting_by _ refusal fault (λ bad w. file_right c.args.bytes.now unit pair shots bad f w))
    c.take_file.ensures.refused

pub returns-clause-every_fault : goal.returns-clause-every_fault
returns-clause-every_fault c =
    told_of _ c.args.bytes.now c.take_file.result
    (λ file found bad w. file_right c.args.bytes.now file.unit file.pair file.shots bad found w)
    c.take_file.ensures.found c.take_file.ensures.refused
