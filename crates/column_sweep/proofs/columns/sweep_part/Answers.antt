use Rattle.std.proofs.Common.{ℤ, Bool, ap, sym, subst, ◌≡◌, ◌∙◌}
use Rattle.std.proofs.lemmas.Result.{on_ok_weaker}
use Rattle.scan_line.specs.Rules.{IsRule}
use Rattle.column_sweep.specs.Sweeps.{IsSwept}
use Rattle.column_sweep.proofs.Sweeping.{swept_of_given}
use Rattle.column_sweep.proofs.Lending.{lent_is_rule, lent_swept}
use Rattle.column_sweep.proofs.Progressing.{swept_as}
use Rattle.column_sweep.proofs.columns.sweep_part.Goals as goal

pub new-asked-requires : goal.new-asked-requires
new-asked-requires g c = lent_is_rule _ _ _ _ c.requires.rule (λ a b h k. (c.requires.rule, (h, k))) (λ a b r h. h) (λ a b r h. h)

pub begin-requires-clause-rule : goal.begin-requires-clause-rule
begin-requires-clause-rule g c =
    let pre : g.row.F.Denot → ℤ → ℤ → Type 0 = λ rule a b. g.F.Fn.pre rule (a, (b, tt)) in
    let post : g.row.F.Denot → ℤ → ℤ → Bool → Type 0 = λ rule a b r. g.F.Fn.post rule (a, (b, tt)) r in
    let own : IsRule (pre c.new-asked.result.0.now) (post c.new-asked.result.0.now) = subst
    (λ rule. IsRule (pre rule.0.now) (post rule.0.now)) (sym c.new-asked.ensures) c.requires.rule in
    lent_is_rule _ _ _ _ own (λ a b h k. (own, (h, k))) (λ a b r h. h) (λ a b r h. h)

pub sort_out-requires-clause-rule : goal.sort_out-requires-clause-rule
sort_out-requires-clause-rule g c =
    let pre : g.row.F.Denot → ℤ → ℤ → Type 0 = λ rule a b. g.F.Fn.pre rule (a, (b, tt)) in
    let post : g.row.F.Denot → ℤ → ℤ → Bool → Type 0 = λ rule a b r. g.F.Fn.post rule (a, (b, tt)) r in
    let own : IsRule (pre c.in_ok-scan.scan.rule.0.now) (post c.in_ok-scan.scan.rule.0.now) =
    subst (λ rule. IsRule (pre rule.0.now) (post rule.0.now)) (sym c.in_ok-scan.ensures.rule)
    (subst (λ rule. IsRule (pre rule.0.now) (post rule.0.now)) (sym c.new-asked.ensures) c.requires.rule) in
    lent_is_rule _ _ _ _ own (λ a b h k. (own, (h, k))) (λ a b r h. h) (λ a b r h. h)

pub returns-clause-swept : goal.returns-clause-swept
returns-clause-swept g c =
    let post : g.row.F.Denot → ℤ → ℤ → Bool → Type 0 = λ rule a b r. g.F.Fn.post rule (a, (b, tt)) r in
    let kept : c.in_ok-scan.scan.rule.0.now ≡ c.args.rule.now = ap (λ rule. rule.0.now) c.in_ok-scan.ensures.rule ∙ ap
    (λ rule. rule.0.now) c.new-asked.ensures in
    on_ok_weaker c.sort_out.result
    (swept_as _ (IsSwept (post c.args.rule.now) c.args.edges.items c.args.window)
    (λ traps swept. swept_of_given post c.args.rule.now c.in_ok-scan.scan.rule.0.now c.in_ok-scan.scan.edges
    c.args.edges.items c.args.window c.in_ok-scan.scan.window kept c.in_ok-scan.ensures.edges
    c.in_ok-scan.ensures.window traps
    (lent_swept (post c.in_ok-scan.scan.rule.0.now) _ (λ a b r h. h) (λ a b r h. h) c.in_ok-scan.scan.edges c.in_ok-scan.scan.window traps swept))
    c.args.column.from.x c.args.column.to.x _ _ _ _)
    c.sort_out.ensures.swept
