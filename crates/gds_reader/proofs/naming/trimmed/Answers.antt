use Rattle.std.proofs.Common.{◌≡◌, ◌∙◌, arith, sym, refl, subst, take}
use Rattle.gds_reader.specs.Values.{without_nuls}
use Rattle.gds_reader.proofs.naming.trimmed.Goals as goal
use Rattle.gds_reader.proofs.naming.trimmed.Goals.{then-loop-end-test+else-bytes-end-eq0, else-loop-end-test}
use Rattle.gds_reader.proofs.NameLemmas.{nul_dropped, nothing_dropped}

pub loop-end-preserved : goal.loop-end-preserved
loop-end-preserved c = record {
  within = omega arith;
  same = nul_dropped c.loop-end.end c.args.bytes.now (omega arith) (omega arith) (omega arith) ∙ c.loop-end.invariant.same;
}

pub returns : goal.returns
returns c =
    elim c.loop-end-test.branch [
      | then-loop-end-test+else-bytes-end-eq0 w ↦ nothing_dropped c.loop-end.end c.args.bytes.now (omega arith)
          (omega arith) (λ e. absurd (omega arith)) ∙ c.loop-end.invariant.same
      | else-loop-end-test w ↦
          (let none : c.loop-end.end ≡ 0 = omega arith in subst
          (λ n. take n c.args.bytes.now ≡ without_nuls (take n c.args.bytes.now)) (sym none) refl)
          ∙ c.loop-end.invariant.same
    ]
