use Rattle.job_input.proofs.layouts.tree_of.Goals as goal
use Rattle.job_input.proofs.Told.{tree_fault}

pub returns-in-Err-Fault : goal.returns-in-Err-Fault
returns-in-Err-Fault c =
    let no_top = rw c.in-Err-Fault.field-0-is at c.in-Err-Fault.ensures.no_top in
    record {
      told = tree_fault c.args.deck.now c.args.layout c.in-Err-Fault.bad
          (λ e. let same = no_top.1 e in cc) (rw c.in-Err-Fault.field-0-is at c.in-Err-Fault.ensures.fault);
    }
