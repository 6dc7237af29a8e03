use Rattle.std.proofs.Common.{◌≡◌, ◌∙◌, ◌<◌, ◌+◌, ◌-◌, ◌∷◌, ◌++◌, length, map, reverse, drop, ap, sym, subst, arith, w64, FitsSigned, rules}
use Rattle.std.proofs.lemmas.Int.{to_z-of_z}
use Rattle.std.proofs.lemmas.List.{drop_more}
use Rattle.tone_mirror.specs.Mirrors.{mirrored_trapezoid}
use Rattle.deck_plan.proofs.ImageLemmas.{put_more}
use Rattle.deck_plan.proofs.mirroring.put_images.Goals as goal

pub loop-number-preserved : goal.loop-number-preserved
loop-number-preserved c =
    let m : FitsSigned w64 c.args.axis.m = search rules in
    let n = c.loop-number.number - 1 in
    let traps = c.args.traps.now in
    let trap = c.index-traps-number.result in
    let inside : n < length traps = omega (arith, c.loop-number.invariant.within, c.loop-number-test.true) in
    let here : drop n traps ≡ trap ∷ drop (n + 1) traps = drop_more traps n trap inside ∙ ap (λ x. x ∷ drop (n + 1) traps) (sym c.index-traps-number.is) in
    let up : c.loop-number.number ≡ n + 1 = omega (arith, c.loop-number-test.true) in
    let image : c.mirrored.result ≡ mirrored_trapezoid c.args.axis.m trap = simp to_z-of_z at c.mirrored.ensures.image in
    record {
      within = omega (arith, c.loop-number.invariant.within);
      images = put_more c.args.axis.m traps n trap c.mirrored.result c.args.images.now.items c.loop-number.images.items c.push.new.self.items here
          (subst (λ k. c.loop-number.images.items ≡ c.args.images.now.items ++ reverse
          (map (mirrored_trapezoid c.args.axis.m) (drop k traps))) up c.loop-number.invariant.images)
          c.in_ok-push.ensures.items image;
    }
