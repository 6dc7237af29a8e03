use Rattle.std.proofs.Common.{ap}
use Rattle.std.specs.Prelude.{IsTrue}
use Rattle.mdp_job.proofs.Table.{table_later, accepts, accepts_after, refuses, refuses_after}
use Rattle.mdp_job.proofs.Ends.{ends_of}
use Rattle.mdp_job.proofs.Finals.{coverage, certifies, faults_told}
use Rattle.mdp_job.proofs.Said.{speaks}
use Rattle.mdp_job.proofs.Left.{leaves}
use Rattle.mdp_job.proofs.job.run.Goals as goal

pub returns-clause-covers : goal.returns-clause-covers
returns-clause-covers g c = λ told.
    coverage _ _ _ _ _ _ _ _ _ _
    (ends_of _ _ _ _ _ _ _ _ _ _ _ told (c.answered-ending.ensures.table told) (c.answered-ending.ensures.file told)
    c.answered-ending.ensures.counts c.answered-ending.ensures.counted c.say_line.ensures.counted
    (λ e. ap g.D.Depot.content (c.say_line.ensures.done e)) (rw c.file_word.ensures at (c.say_line.ensures.said told))
    (rw c.file_word.ensures at (c.say_line.ensures.whole told)))

pub returns-clause-certifies : goal.returns-clause-certifies
returns-clause-certifies g c = λ told.
    certifies _ _ _ _ _ _ _ _ _ _
    (ends_of _ _ _ _ _ _ _ _ _ _ _ told (c.answered-ending.ensures.table told) (c.answered-ending.ensures.file told)
    c.answered-ending.ensures.counts c.answered-ending.ensures.counted c.say_line.ensures.counted
    (λ e. ap g.D.Depot.content (c.say_line.ensures.done e)) (rw c.file_word.ensures at (c.say_line.ensures.said told))
    (rw c.file_word.ensures at (c.say_line.ensures.whole told)))

pub returns-clause-leaves : goal.returns-clause-leaves
returns-clause-leaves g c = λ told.
    leaves _ _ _ _ _ _ _ _ _ _
    (ends_of _ _ _ _ _ _ _ _ _ _ _ told (c.answered-ending.ensures.table told) (c.answered-ending.ensures.file told)
    c.answered-ending.ensures.counts c.answered-ending.ensures.counted c.say_line.ensures.counted
    (λ e. ap g.D.Depot.content (c.say_line.ensures.done e)) (rw c.file_word.ensures at (c.say_line.ensures.said told))
    (rw c.file_word.ensures at (c.say_line.ensures.whole told)))

pub returns-clause-says : goal.returns-clause-says
returns-clause-says g c = λ told.
    speaks _ _ _ _ _ _ _ _ _ _
    (ends_of _ _ _ _ _ _ _ _ _ _ _ told (c.answered-ending.ensures.table told) (c.answered-ending.ensures.file told)
    c.answered-ending.ensures.counts c.answered-ending.ensures.counted c.say_line.ensures.counted
    (λ e. ap g.D.Depot.content (c.say_line.ensures.done e)) (rw c.file_word.ensures at (c.say_line.ensures.said told))
    (rw c.file_word.ensures at (c.say_line.ensures.whole told)))

pub returns-clause-accepts : goal.returns-clause-accepts
returns-clause-accepts g c = λ told.
    accepts_after _ _ _ _ _ _ _
    (accepts _ _ _ _ _ (table_later _ _ _ _ _ _ _ _ _ c.say_line.ensures.counted (c.answered-ending.ensures.table told)))

pub returns-clause-refuses : goal.returns-clause-refuses
returns-clause-refuses g c = λ told.
    refuses_after _ _ _ _ _ _ _
    (refuses _ _ _ _ _ (table_later _ _ _ _ _ _ _ _ _ c.say_line.ensures.counted (c.answered-ending.ensures.table told)))

pub returns-clause-faults_told : goal.returns-clause-faults_told
returns-clause-faults_told g c =
    faults_told _ _ _ (IsTrue g.D.Depot.tells) c.answered-ending.result.status
    c.answered-ending.ensures.counts c.answered-ending.ensures.counted c.say_line.ensures.counted
    c.say_line.ensures.reads (λ e. ap g.D.Depot.counts (c.say_line.ensures.done e)) c.answered-ending.ensures.read_fault c.answered-ending.ensures.write_fault
