-- A name holds one shot file that can be split, or one reason why it isn't.
use Rattle.std.proofs.Common.{◌≡◌, ℕ, ℤ, pos, ◌+ℤ◌, ◌-ℤ◌, ◌≤ℤ◌, ◌<ℤ◌, List, [], ◌∷◌, All, slice_get, Some, refl, sym, ap, subst, arith}
use Rattle.std.proofs.lemmas.Int.{ints, by_lt_z}
use Rattle.std.proofs.lemmas.Option.{get_or_from_slice_get, slice_get_within}
use Rattle.std.proofs.lemmas.List.Elements.{All-get_or, All-contains}
use Rattle.half_grid.specs.Trapezoids.{Trapezoid}
use Rattle.depot.specs.Content.{Content, IsNotThere}
use Rattle.depot.proofs.ForCallers.{longer_there}
use Rattle.field_split.specs.Fields.{IsInStretch}
use Rattle.field_split.specs.Looks.{IsFieldShot, IsFirstTooWide, MeetsStripe, IsWithinStripes, AreStripesOf}
use Rattle.field_split.proofs.ForCallers.{fewer, next_start}
use Rattle.mdp_job.specs.ShotFiles.{ShotData, HoldsShots}
use Rattle.mdp_job.specs.Splitting.{CanBeSplit, HoldsFields, AreManyStripes, IsFieldsFault}
use Rattle.mdp_job.specs.Table.{splitting_command}
use Rattle.job_report.specs.declared.faults.CheckFault.{CheckFault}
use Rattle.job_report.specs.declared.faults.CheckFault.TheVariants as faults
use Rattle.mdp_job.proofs.FileRows.{IsOneThing}
use Rattle.mdp_job.proofs.OneThing.{shots_there, shots_short, bad_there, bad_short, shots_right, same_bad, same_shots}

-- ---- shots past the reach of a field

shot_at : (P : Trapezoid → Type 0) (shots : List Trapezoid) (k : ℕ) (z : Trapezoid) → All P shots → slice_get shots k ≡ Some z → P z
shot_at P shots k z h at =
    let within = slice_get_within shots k z at in
    subst P (get_or_from_slice_get shots k z z at) (All-get_or P shots k z within h)

-- none is, or this is the first
none_wide : (shots : List Trapezoid) (k : ℕ) → All IsFieldShot shots → IsFirstTooWide shots k → ⊥
none_wide shots k h wide =
    let shot = shot_at IsFieldShot shots k wide.shot h wide.at in
    wide.too_wide shot.reach

one_wide : (shots : List Trapezoid) (j k : ℕ) → IsFirstTooWide shots j → IsFirstTooWide shots k → j ≡ k
one_wide shots j k g h =
    by_lt_z (pos j) (pos k)
    (λ lt. absurd (g.too_wide (h.earlier j g.shot (omega (arith, ints, lt)) g.at)))
    (λ le. by_lt_z (pos k) (pos j)
    (λ lt. absurd (h.too_wide (g.earlier k h.shot (omega (arith, ints, lt)) h.at)))
    (λ ge. omega (arith, ints, le, ge)))

-- ---- the stripes that shots meet

-- a stretch that has a number is of some size
size_some : (size k v : ℤ) → IsInStretch size k v → pos 0 <ℤ size
size_some size k v h = omega (arith, ints, h.from, h.below, next_start k size)

module _ (size : ℤ) (shots : List Trapezoid) where
  -- a stripe that a shot meets is none below the least, nor above the greatest
  above_least : (first last k : ℤ) (z : Trapezoid) → IsWithinStripes size first last z → MeetsStripe size k z → first ≤ℤ k
  above_least first last k z within meets =
      let some = size_some size k meets.row meets.stripe in
      let least = fewer first (k +ℤ pos 1) size some (omega (arith, ints, within.low, meets.above_bottom, meets.stripe.below)) in
      omega (arith, ints, least)

  below_greatest : (first last k : ℤ) (z : Trapezoid) → IsWithinStripes size first last z → MeetsStripe size k z → k ≤ℤ last
  below_greatest first last k z within meets =
      let some = size_some size k meets.row meets.stripe in
      let greatest = fewer k (last +ℤ pos 1) size some (omega (arith, ints, within.high, meets.below_top, meets.stripe.from)) in
      omega (arith, ints, greatest)

  first_below : (first last other more : ℤ) → AreStripesOf size shots first last → AreStripesOf size shots other more → first ≤ℤ other
  first_below first last other more h g =
      let (z, there, meets) = g.least in
      above_least first last other z (All-contains (IsWithinStripes size first last) shots z h.within there) meets

  last_above : (first last other more : ℤ) → AreStripesOf size shots first last → AreStripesOf size shots other more → more ≤ℤ last
  last_above first last other more h g =
      let (z, there, meets) = g.greatest in
      below_greatest first last more z (All-contains (IsWithinStripes size first last) shots z h.within there) meets

  one_span : (first last other more : ℤ) → AreStripesOf size shots first last → AreStripesOf size shots other more → (last -ℤ first) ≡ (more -ℤ other)
  one_span first last other more h g =
      let a = first_below first last other more h g in
      let b = first_below other more first last g h in
      let c = last_above first last other more h g in
      let d = last_above other more first last g h in
      omega (arith, ints, a, b, c, d)

  -- they are few, or this many
  few_or_many : (value : ℕ) → CanBeSplit size shots → AreManyStripes size shots value → ⊥
  few_or_many value can h =
      let few = can.few h.first h.last h.stripes in
      omega (arith, ints, few, h.number, h.many)

  one_number : (value other : ℕ) → AreManyStripes size shots value → AreManyStripes size shots other → value ≡ other
  one_number value other h g =
      let same = one_span h.first h.last g.first g.last h.stripes g.stripes in
      omega (arith, ints, same, h.number, g.number)

-- which shots can be split
pub can_split : (size : ℤ) (shots : List Trapezoid) (first last : ℤ) → All IsFieldShot shots
    → AreStripesOf size shots first last → (last -ℤ first) <ℤ pos 4096 → CanBeSplit size shots
can_split size shots first last within stripes few = record {
  within = within;
  few = λ other more h. (let same = one_span size shots first last other more stripes h in omega (arith, ints, same, few));
}

no_stripes : (size : ℤ) (shots : List Trapezoid) (first last : ℤ) → shots ≡ [] → AreStripesOf size shots first last → ⊥
no_stripes size [] first last e h = let (z, (k, few, at), meets) = h.least in absurd (omega (arith, few))
no_stripes size (z ∷ shots) first last e h = let no : ⊥ = cc in no

pub can_split_none : (size : ℤ) (shots : List Trapezoid) → All IsFieldShot shots → shots ≡ [] → CanBeSplit size shots
can_split_none size shots within none = record { within = within; few = λ first last h. absurd (no_stripes size shots first last none h) }

-- ---- files

module _ (size : ℤ) (c : Content) (file : List ℕ) where
  fields_there : (s : ShotData) → HoldsFields size c file s → IsNotThere c file → ⊥
  fields_there s h missing = shots_there c file s h.holds missing

  fault_there : (fault : CheckFault) → IsFieldsFault size c file fault → IsNotThere c file → ⊥
  fault_there faults.Long h missing = longer_there 268435456 c file missing h
  fault_there (faults.Bad bad) h missing = bad_there c file bad h missing
  fault_there faults.Head h missing = h
  fault_there (faults.Miscovered t count wanted) h missing = h
  fault_there (faults.TooLarge shot) h missing = h
  fault_there (faults.Pack bad) h missing = h
  fault_there (faults.Wide k) h missing = shots_there c file h.s h.holds missing
  fault_there (faults.Stripes value) h missing = shots_there c file h.s h.holds missing

  -- a file that can be split has no fault
  not_wide : (s t : ShotData) (k : ℕ) → HoldsShots c file s → HoldsShots c file t → All IsFieldShot s.shots → IsFirstTooWide t.shots k → ⊥
  not_wide s t k h g within wide = none_wide s.shots k within (subst (λ (zs : List Trapezoid). IsFirstTooWide zs k) (sym (same_shots c file s t h g)) wide)

  fields_right : (s : ShotData) (fault : CheckFault) → HoldsFields size c file s → IsFieldsFault size c file fault → ⊥
  fields_right s faults.Long h k = shots_short c file s h.holds k
  fields_right s (faults.Bad bad) h k = shots_right c file s bad h.holds k
  fields_right s faults.Head h k = k
  fields_right s (faults.Miscovered t count wanted) h k = k
  fields_right s (faults.TooLarge shot) h k = k
  fields_right s (faults.Pack bad) h k = k
  fields_right s (faults.Wide j) h k = not_wide s k.s j h.holds k.holds h.can.within k.wide
  fields_right s (faults.Stripes value) h k =
      few_or_many size s.shots value h.can
      (subst (λ (zs : List Trapezoid). AreManyStripes size zs value) (sym (same_shots c file s k.s h.holds k.holds)) k.many)

  one_fault : (fault other : CheckFault) → IsFieldsFault size c file fault → IsFieldsFault size c file other → fault ≡ other
  one_fault faults.Long faults.Long h k = refl
  one_fault faults.Long (faults.Bad bad) h k = absurd (bad_short c file bad k h)
  one_fault faults.Long (faults.Wide j) h k = absurd (shots_short c file k.s k.holds h)
  one_fault faults.Long (faults.Stripes value) h k = absurd (shots_short c file k.s k.holds h)
  one_fault (faults.Bad bad) faults.Long h k = absurd (bad_short c file bad h k)
  one_fault (faults.Bad bad) (faults.Bad other) h k = ap faults.Bad (same_bad c file bad other h k)
  one_fault (faults.Bad bad) (faults.Wide j) h k = absurd (shots_right c file k.s bad k.holds h)
  one_fault (faults.Bad bad) (faults.Stripes value) h k = absurd (shots_right c file k.s bad k.holds h)
  one_fault (faults.Wide i) faults.Long h k = absurd (shots_short c file h.s h.holds k)
  one_fault (faults.Wide i) (faults.Bad bad) h k = absurd (shots_right c file h.s bad h.holds k)
  one_fault (faults.Wide i) (faults.Wide j) h k =
      ap faults.Wide (one_wide k.s.shots i j (subst (λ (zs : List Trapezoid). IsFirstTooWide zs i) (same_shots c file h.s k.s h.holds k.holds) h.wide) k.wide)
  one_fault (faults.Wide i) (faults.Stripes value) h k = absurd (not_wide k.s h.s i k.holds h.holds k.within h.wide)
  one_fault (faults.Stripes value) faults.Long h k = absurd (shots_short c file h.s h.holds k)
  one_fault (faults.Stripes value) (faults.Bad bad) h k = absurd (shots_right c file h.s bad h.holds k)
  one_fault (faults.Stripes value) (faults.Wide j) h k = absurd (not_wide h.s k.s j h.holds k.holds h.within k.wide)
  one_fault (faults.Stripes value) (faults.Stripes other) h k =
      ap faults.Stripes (one_number size k.s.shots value other
      (subst (λ (zs : List Trapezoid). AreManyStripes size zs value) (same_shots c file h.s k.s h.holds k.holds) h.many) k.many)
  one_fault faults.Head other h k = absurd h
  one_fault (faults.Miscovered t count wanted) other h k = absurd h
  one_fault (faults.TooLarge shot) other h k = absurd h
  one_fault (faults.Pack bad) other h k = absurd h
  one_fault fault faults.Head h k = absurd k
  one_fault fault (faults.Miscovered t count wanted) h k = absurd k
  one_fault fault (faults.TooLarge shot) h k = absurd k
  one_fault fault (faults.Pack bad) h k = absurd k

pub splitting_one : (size : ℤ) (out : List ℕ) → IsOneThing (splitting_command size out)
splitting_one size out = record {
  held_there = λ c file s h missing. fields_there size c file s h missing;
  fault_there = λ c file fault h missing. fault_there size c file fault h missing;
  right = λ c file s fault h k. fields_right size c file s fault h k;
  one = λ c file fault other h k. one_fault size c file fault other h k;
}
