use Rattle.std.proofs.Common.{ℤ, Bool, ap, sym, subst, ◌≡◌, ◌∙◌}
use Rattle.std.proofs.lemmas.Result.{IfOk-weaker}
use Rattle.scan_line.specs.Rules.{IsRule}
use Rattle.column_sweep.specs.Tries.{IsTried}
use Rattle.column_sweep.proofs.Sweeping.{tried_of_given}
use Rattle.column_sweep.proofs.Lending.{lent_is_rule, lent_tried}
use Rattle.column_sweep.proofs.sweep.plain_within.Goals as goal

pub new-asked-requires : goal.new-asked-requires
new-asked-requires g c = lent_is_rule _ _ _ _ c.requires.rule (λ a b h k. (c.requires.rule, (h, k))) (λ a b r h. h) (λ a b r h. h)

pub begin-requires-clause-rule : goal.begin-requires-clause-rule
begin-requires-clause-rule g c =
    let pre : g.row.F.Denot → ℤ → ℤ → Type 0 = λ rule a b. g.F.Fn.pre rule (a, (b, tt)) in
    let post : g.row.F.Denot → ℤ → ℤ → Bool → Type 0 = λ rule a b r. g.F.Fn.post rule (a, (b, tt)) r in
    let own : IsRule (pre c.new-asked.result.0.now) (post c.new-asked.result.0.now) = subst
    (λ rule. IsRule (pre rule.0.now) (post rule.0.now)) (sym c.new-asked.ensures) c.requires.rule in
    lent_is_rule _ _ _ _ own (λ a b h k. (own, (h, k))) (λ a b r h. h) (λ a b r h. h)

pub joined_within-requires-clause-rule : goal.joined_within-requires-clause-rule
joined_within-requires-clause-rule g c =
    let pre : g.row.F.Denot → ℤ → ℤ → Type 0 = λ rule a b. g.F.Fn.pre rule (a, (b, tt)) in
    let post : g.row.F.Denot → ℤ → ℤ → Bool → Type 0 = λ rule a b r. g.F.Fn.post rule (a, (b, tt)) r in
    let own : IsRule (pre c.in_ok-scan.scan.rule.0.now) (post c.in_ok-scan.scan.rule.0.now) =
    subst (λ rule. IsRule (pre rule.0.now) (post rule.0.now)) (sym c.in_ok-scan.ensures.rule)
    (subst (λ rule. IsRule (pre rule.0.now) (post rule.0.now)) (sym c.new-asked.ensures) c.requires.rule) in
    lent_is_rule _ _ _ _ own (λ a b h k. (own, (h, k))) (λ a b r h. h) (λ a b r h. h)

pub returns-clause-tried : goal.returns-clause-tried
returns-clause-tried g c =
    let post : g.row.F.Denot → ℤ → ℤ → Bool → Type 0 = λ rule a b r. g.F.Fn.post rule (a, (b, tt)) r in
    let kept : c.in_ok-scan.scan.rule.0.now ≡ c.args.rule.now = ap (λ rule. rule.0.now) c.in_ok-scan.ensures.rule ∙ ap
    (λ rule. rule.0.now) c.new-asked.ensures in
    IfOk-weaker c.joined_within.result _ (IsTried (post c.args.rule.now) c.args.edges.items c.args.window)
    (λ tried h. tried_of_given post c.args.rule.now c.in_ok-scan.scan.rule.0.now c.in_ok-scan.scan.edges
    c.args.edges.items c.args.window c.in_ok-scan.scan.window kept c.in_ok-scan.ensures.edges
    c.in_ok-scan.ensures.window tried
    (lent_tried (post c.in_ok-scan.scan.rule.0.now) _ (λ a b r h. h) (λ a b r h. h) c.in_ok-scan.scan.edges c.in_ok-scan.scan.window tried h))
    c.joined_within.ensures.tried
