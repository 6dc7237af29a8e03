-- The stripes from the least to the greatest that a shot meets.
use Rattle.std.proofs.Common.{◌≡◌, ℕ, ◌+◌, ℤ, pos, ◌+ℤ◌, ◌*ℤ◌, ◌≤ℤ◌, ◌<ℤ◌, List, [], length, get_or, All, inl, refl, ap, sym, subst, ◌∙◌, arith}
use Rattle.std.proofs.lemmas.Int.{ints, clamps}
use Rattle.std.proofs.lemmas.List.Elements.{All-contains}
use Rattle.std.specs.Int.{int_max}
use Rattle.depot.specs.Content.{Content, IsPartMade}
use Rattle.half_grid.specs.Trapezoids.{Trapezoid, IsShot}
use Rattle.geo_stream.specs.Flattened.{end_to_end}
use Rattle.field_split.specs.Fields.{IsFieldSize, AreStripeLists}
use Rattle.field_split.specs.Looks.{AreStripesOf, IsWithinStripes}
use Rattle.field_split.proofs.ForCallers.{multiples, fewer, next_start}
use Rattle.shot_writer.specs.declared.parts.Head.{Head}
use Rattle.field_output.specs.declared.sums.Stripes.{Stripes}
use Rattle.field_output.specs.Lists.{lists_from, list_at, AreBegun}
use Rattle.field_output.specs.Meeting.{IsPlaced, HaveRows}
use Rattle.field_output.specs.Stripes.{AreAllStripeLists, AreStripesWritten, AreStripesPartWritten, AreStripeSums}
use Rattle.field_output.specs.Stripes.{stripe_name, stripe_text, sums_from, sums_of, with_stripe_files}
use Rattle.field_output.proofs.ListLemmas.{are_lists, lists_length, one_more}

module _ (size first last : ℤ) (shots : List Trapezoid) (sized : IsFieldSize size) (legal : All IsShot shots) (span : AreStripesOf size shots first last) where
  some : pos 0 <ℤ size
  some = omega (arith, ints, sized.least)

  pub in_order : first ≤ℤ last
  in_order =
      let z = span.least.0 in
      let meets = span.least.2 in
      let within = All-contains (IsWithinStripes size first last) shots z span.within span.least.1 in
      let up = fewer first (last +ℤ pos 1) size some (omega (arith, ints, meets.stripe.from, meets.below_top, within.high)) in
      omega (arith, ints, up)

  module _ (count : ℕ) (is : (first +ℤ pos count) ≡ (last +ℤ pos 1)) where
    pub are_placed : All (IsPlaced size first count) shots
    are_placed = λ i d lt. record {
      low = (span.within i d lt).low;
      high = subst (λ (k : ℤ). (get_or shots i d).y1 ≤ℤ (k *ℤ size)) (sym is)
          (span.within i d lt).high;
    }

    pub have_rows : HaveRows size first count
    have_rows = λ place lt.
        let k = first +ℤ pos place in
        let low = span.least.2 in
        let high = span.greatest.2 in
        let low_shot = All-contains IsShot shots span.least.0 legal span.least.1 in
        let high_shot = All-contains IsShot shots span.greatest.0 legal span.greatest.1 in
        let upto : k ≤ℤ last = omega (arith, ints, is, lt) in
        let from : first ≤ℤ k = omega (arith, ints) in
        let start = multiples k last size some upto in
        let end = multiples (first +ℤ pos 1) (k +ℤ pos 1) size some (omega (arith, ints, from)) in
        let next = next_start k size in
        let y = int_max low.row (k *ℤ size) in (
          y,
          record {
            low = omega (arith, ints, clamps, low_shot.reach.y0.low, low.above_bottom);
            high = omega (arith, ints, clamps, low_shot.reach.y1.high, low.below_top, start, high.stripe.from, high.below_top, high_shot.reach.y1.high);
          },
          record { from = omega (arith, ints, clamps); below = omega (arith, ints, clamps, low.stripe.below, end, next, sized.least) },
        )

    pub all_lists : AreAllStripeLists shots size first last (lists_from size shots first count)
    all_lists = record {
      each = are_lists size shots sized legal first count;
      number = ap (λ (n : ℕ). first +ℤ pos n)
          (lists_length size shots first count) ∙ is;
    }

    pub are_written : (before now : Content) (base : List ℕ) (h : Head) → now ≡ with_stripe_files before base h first
        (lists_from size shots first count) → AreStripesWritten before base h shots size first last now
    are_written before now base h e = record { lists = lists_from size shots first count; stripes = all_lists; files = e }

    pub are_sums : (written : Stripes) → written.each.items ≡ sums_from first (lists_from size shots first count) → written.all ≡ sums_of
        (end_to_end (lists_from size shots first count)) → AreStripeSums shots size first last written
    are_sums written each all = record { lists = lists_from size shots first count; stripes = all_lists; each = each; all = all }

    pub are_part : (before now : Content) (base : List ℕ) (h : Head) → AreBegun before base h shots size first count now
        → AreStripesPartWritten before base h shots size first last now
    are_part before now base h b =
        let lists = lists_from size shots first b.place in
        let same : length lists ≡ b.place = lists_length size shots first b.place in
        record {
          whole = lists;
          begun = list_at size shots first b.place;
          stripes = subst (AreStripeLists size first shots) (one_more size shots first b.place) (are_lists size shots sized legal first (b.place + 1));
          within = omega (arith, ints, same, is, b.within);
          files = subst (λ (n : ℕ). IsPartMade (with_stripe_files before base h first lists) (stripe_name base (first +ℤ pos n)) (stripe_text h
              (list_at size shots first b.place)) now) (sym same) b.files;
        }

  -- nothing was begun
  pub none_begun : (before : Content) (base : List ℕ) (h : Head) → AreStripesPartWritten before base h shots size first last before
  none_begun before base h = record {
    whole = [];
    begun = list_at size shots first 0;
    stripes = subst (AreStripeLists size first shots) (one_more size shots first 0) (are_lists size shots sized legal first (0 + 1));
    within = omega (arith, ints, in_order);
    files = inl refl;
  }
