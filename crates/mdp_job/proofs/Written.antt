-- What the writing of the outputs leaves, in the words of the program's call.
use Rattle.std.proofs.Common.{◌≡◌, ◌⊎◌, inl, inr, ℕ, suc, Bool, List, [], length, take, slice_get, Option, Some, refl, sym, ap, subst, ◌∙◌, arith}
use Rattle.std.proofs.lemmas.Option.{slice_get_within}
use Rattle.std.specs.Prelude.{IsTrue, IsSomeAnd}
use Rattle.std.specs.FinMap.{get}
use Rattle.half_grid.specs.Trapezoids.{CoversExactly}
use Rattle.half_grid.specs.declared.plane.Tile.{Tile}
use Rattle.depot.specs.Content.{Content, Files, with_left, with_said}
use Rattle.fracture.specs.Economy.{HasNoNeedlessCut}
use Rattle.shot_writer.specs.Writing.{triangles_of}
use Rattle.shot_writer.specs.declared.parts.Sums.{Sums}
use Rattle.deck_text.specs.Decks.{IsDeck}
use Rattle.deck_text.proofs.ForCallers.{sound}
use Rattle.deck_text.specs.declared.deck.Output.{Output}
use Rattle.deck_text.specs.declared.deck.Deck.{Deck}
use Rattle.deck_plan.specs.Areas.{IsInArea}
use Rattle.shot_output.specs.ShotLists.{IsShotList}
use Rattle.half_grid.specs.Sizes.{IsNumberIn}
use Rattle.shot_output.specs.Laws.{HasRules}
use Rattle.shot_output.proofs.ForCallers.{has_rules, shots_are_legal, shots_fit, shots_cover, shots_are_few, triangles_are_tiles}
use Rattle.shot_output.specs.Files.{rules_of, text_of, IsTextOf, IsWholeOutput, OnlyFilesOf, IsPartOf, AreCutShort}
use Rattle.job_input.specs.declared.reading.Input.{Input}
use Rattle.mdp_job.specs.Denoted.{plan_of, area_of, ChangesOnly}
use Rattle.mdp_job.specs.Headline.{AreCovered}
use Rattle.mdp_job.specs.Outputs.{IsCovered, IsEconomic, AreEconomic, IsSummed, AreSummed, IsBegun, AreSpoiled}
use Rattle.mdp_job.specs.Parts.{IsAllWritten}

pub rules : (bytes layout deck : List ℕ) (d : Deck) → IsDeck bytes layout deck d → HasRules d
rules bytes layout deck d is = has_rules layout deck d (sound bytes layout deck d is)

-- the area of an output that is there, by the output's place
abbrev area_at : Input → Option Output → Tile → Type 0
area_at input o t = IsSomeAnd o (λ output. IsInArea input.tree.layout.cells input.tree.top input.deck output.name t)

-- ---- an output that is whole

pub whole_covered : (tells : Bool) (input : Input) (now : Content) (k : ℕ) (output : Output) (sum : Sums) → IsTrue tells
    → HasRules input.deck → slice_get input.deck.outputs k ≡ Some output
    → IsWholeOutput (plan_of input) k tells now sum → IsCovered now.made input output
whole_covered tells input now k output sum told rules e w = (
  text_of input.deck output w.shots,
  w.holds output e told,
  record {
    shots = w.shots;
    text = refl;
    legal = shots_are_legal (plan_of input) k w.shots rules w.list;
    within = shots_fit (plan_of input) k w.shots rules w.list;
    cover = subst (λ (o : Option Output). CoversExactly w.shots (area_at input o)) e (shots_cover (plan_of input) k w.shots rules w.list);
  },
)

whole_economic : (tells : Bool) (input : Input) (now : Content) (k : ℕ) (output : Output) (sum : Sums) → IsTrue tells
    → HasRules input.deck → slice_get input.deck.outputs k ≡ Some output
    → IsWholeOutput (plan_of input) k tells now sum → IsEconomic now.made input output
whole_economic tells input now k output sum told rules e w = record {
  shots = w.shots;
  made = w.holds output e told;
  list = subst (λ (o : Option Output). IsShotList (rules_of input.deck) (area_at input o) w.shots) e w.list;
  few = subst (λ (o : Option Output). HasNoNeedlessCut input.deck.band input.deck.limits.height input.deck.limits.width
      (area_at input o) w.shots) e (shots_are_few (plan_of input) k w.shots rules w.list);
}

whole_summed : (tells : Bool) (input : Input) (now : Content) (k : ℕ) (output : Output) (sum : Sums) → IsTrue tells
    → HasRules input.deck → slice_get input.deck.outputs k ≡ Some output
    → IsWholeOutput (plan_of input) k tells now sum → IsSummed now.made input output sum
whole_summed tells input now k output sum told rules e w =
    let tiles : IsNumberIn (area_of input output) (triangles_of w.shots) =
    subst (λ (o : Option Output). IsNumberIn (area_at input o) (triangles_of w.shots)) e (triangles_are_tiles (plan_of input) k w.shots rules w.list) in
    let triangles : sum.triangles ≡ triangles_of w.shots = omega (arith, w.summed.triangles) in
    record {
      shots = w.shots;
      made = w.holds output e told;
      number = omega (arith, w.summed.shots);
      triangles = triangles;
      tiles = subst (λ (n : ℕ). IsNumberIn (area_of input output) n) (sym triangles) tiles;
    }

-- ---- all outputs

pub all_covered : (tells : Bool) (input : Input) (before now : Content) (sums : List Sums) → IsTrue tells
    → HasRules input.deck → IsAllWritten tells before now input sums
    → (k : ℕ) (output : Output) → slice_get input.deck.outputs k ≡ Some output → IsCovered now.made input output
all_covered tells input before now sums told rules w k output e =
    let each = w.each k (slice_get_within input.deck.outputs k output e) in
    whole_covered tells input now k output each.0 told rules e each.2

pub all_economic : (tells : Bool) (input : Input) (before now : Content) (sums : List Sums) → IsTrue tells
    → HasRules input.deck → IsAllWritten tells before now input sums → AreEconomic now.made input
all_economic tells input before now sums told rules w k output e =
    let each = w.each k (slice_get_within input.deck.outputs k output e) in
    whole_economic tells input now k output each.0 told rules e each.2

same_sum : (o : Option Sums) (x y : Sums) → o ≡ Some x → o ≡ Some y → x ≡ y
same_sum o x y e f = let h : Some x ≡ Some y = sym e ∙ f in cc

pub all_summed : (tells : Bool) (input : Input) (before now : Content) (sums : List Sums) → IsTrue tells
    → HasRules input.deck → IsAllWritten tells before now input sums → AreSummed now.made input sums
all_summed tells input before now sums told rules w = record {
  count = w.count;
  each = λ k output sum e f.
      let each = w.each k (slice_get_within input.deck.outputs k output e) in
      subst (λ (s : Sums). IsSummed now.made input output s) (same_sum (slice_get sums k) each.0 sum each.1 f)
      (whole_summed tells input now k output each.0 told rules e each.2);
}

-- ---- what else changes

-- but for the files nothing changed in the writing, and then something was said
only_files : (b m a : Content) (input : Input) (n : ℕ) (x : List ℕ) → OnlyFilesOf (plan_of input) n (with_left b []) m
    → a ≡ with_said m x → ChangesOnly b a input.deck n
only_files b m a input n x only e = record {
  others = λ name free. ap (λ (c : Content). get c.made name) e ∙ only.others name free;
  rest = subst (λ (c : Content). c ≡ record b { left = []; made = c.made; current = c.current; said = c.said })
      (sym (e ∙ ap (λ (c : Content). with_said c x) only.rest)) refl;
}

pub covered_then : (tells : Bool) (input : Input) (b m a : Content) (sums : List Sums) (x : List ℕ) → IsTrue tells
    → HasRules input.deck → IsAllWritten tells (with_left b []) m input sums → a ≡ with_said m x
    → AreCovered b a input
covered_then tells input b m a sums x told rules w e = record {
  each = λ k output there.
      subst (λ (f : Files). IsCovered f input output) (sym (ap (λ (c : Content). c.made) e))
      (all_covered tells input (with_left b []) m sums told rules w k output there);
  others = only_files b m a input (length input.deck.outputs) x (w.rest told) e;
}

-- ---- outputs that were cut short

begun : (input : Input) (now : Content) (k : ℕ) (output : Output) (text : List ℕ) (n : ℕ)
    → slice_get input.deck.outputs k ≡ Some output → IsTextOf (plan_of input) k output text
    → get now.made output.file ≡ Some (take n text) → IsBegun now.made input output
begun input now k output text n e of is = record {
  bytes = take n text;
  made = is;
  shots = of.0;
  list = subst (λ (o : Option Output). IsShotList (rules_of input.deck) (area_at input o) of.0) e of.1;
  n = n;
  is = ap (take n) of.2;
}

part_begun : (input : Input) (b m : Content) (k : ℕ) (output : Output) → slice_get input.deck.outputs k ≡ Some output
    → IsPartOf (plan_of input) k (with_left b []) m → (get m.made output.file ≡ get b.made output.file) ⊎ IsBegun m.made input output
part_begun input b m k output e p =
    elim (p output e) [
      | inl same ↦ inl same
      | inr (text, n, of, some, is) ↦ inr (begun input m k output text n e of is)
    ]

part_then : (input : Input) (b : Content) (output : Output) (f g : Files) → f ≡ g
    → (get g output.file ≡ get b.made output.file) ⊎ IsBegun g input output → (get f output.file ≡ get b.made output.file) ⊎ IsBegun f input output
part_then input b output f g e p = subst (λ (x : Files). (get x output.file ≡ get b.made output.file) ⊎ IsBegun x input output) (sym e) p

pub cut_spoiled : (tells : Bool) (input : Input) (b m a : Content) (x : List ℕ) → IsTrue tells → HasRules input.deck
    → AreCutShort (plan_of input) tells (with_left b []) m → a ≡ with_said m x → AreSpoiled b a input
cut_spoiled tells input b m a x told rules w e =
    let files : a.made ≡ m.made = ap (λ (c : Content). c.made) e in
    record {
      place = w.k;
      inside = w.inside;
      whole = λ k output less there.
          let each = w.whole k less in
          subst (λ (f : Files). IsCovered f input output × IsEconomic f input output) (sym files)
          (whole_covered tells input m k output each.0 told rules there each.1, whole_economic tells input m k output each.0 told rules there each.1);
      part = λ output there.
          part_then input b output a.made m.made files
          (part_begun input b m w.k output there (w.part told (slice_get_within input.deck.outputs w.k output there)));
      others = only_files b m a input (suc w.k) x (w.rest told) e;
    }

-- all outputs are whole, and then something was said
fewer : (p : Input) (n : ℕ) (b m : Content) → OnlyFilesOf (plan_of p) n b m → OnlyFilesOf (plan_of p) (suc n) b m
fewer p n b m only = record { others = λ name free. only.others name (λ i output less there. free i output (omega (arith, less)) there); rest = only.rest }

none_there : (input : Input) (output : Output) → slice_get input.deck.outputs (length input.deck.outputs) ≡ Some output → ⊥
none_there input output e = let less = slice_get_within input.deck.outputs (length input.deck.outputs) output e in omega (arith, less)

pub unsaid_spoiled : (tells : Bool) (input : Input) (b m a : Content) (sums : List Sums) (x : List ℕ) → IsTrue tells
    → HasRules input.deck → IsAllWritten tells (with_left b []) m input sums → a ≡ with_said m x
    → AreSpoiled b a input
unsaid_spoiled tells input b m a sums x told rules w e =
    let files : a.made ≡ m.made = ap (λ (c : Content). c.made) e in
    record {
      place = length input.deck.outputs;
      inside = omega (arith);
      whole = λ k output less there.
          subst (λ (f : Files). IsCovered f input output × IsEconomic f input output) (sym files) (
            all_covered tells input (with_left b []) m sums told rules w k output there,
            all_economic tells input
                (with_left b []) m sums told rules w k output there,
          );
      part = λ output there. absurd (none_there input output there);
      others = only_files b m a input (suc (length input.deck.outputs)) x (fewer input (length input.deck.outputs) (with_left b []) m (w.rest told)) e;
    }

-- what was said in the writing: nothing
pub cut_said : (tells : Bool) (input : Input) (b m : Content) → IsTrue tells → AreCutShort (plan_of input) tells (with_left b []) m → m.said ≡ b.said
cut_said tells input b m told w = ap (λ (c : Content). c.said) (w.rest told).rest

pub written_said : (tells : Bool) (input : Input) (b m : Content) (sums : List Sums) → IsTrue tells
    → IsAllWritten tells (with_left b []) m input sums → m.said ≡ b.said
written_said tells input b m sums told w = ap (λ (c : Content). c.said) (w.rest told).rest
