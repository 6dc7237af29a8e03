-- A file is exact in the words of the program's call where it is a shot file whose verdict is Exact, and the other way round.
use Rattle.std.proofs.Common.{◌≡◌, ℕ, ◌*◌, List, [], ◌∷◌, length, slice_get, Option, Some, None, IfSome, IsSomeAnd, refl, sym, ap, subst, ◌∙◌, arith}
use Rattle.std.proofs.lemmas.Option.{get_or_from_slice_get, slice_get_within, same_Some}
use Rattle.std.proofs.lemmas.List.Elements.{All-get_or}
use Rattle.half_grid.specs.Trapezoids.{Trapezoid, CoversExactly}
use Rattle.half_grid.specs.declared.plane.Tile.{Tile}
use Rattle.depot.specs.Content.{Content}
use Rattle.layout_model.specs.declared.pair.Pair.{Pair}
use Rattle.oas_lex.specs.ShotLaws.{IsNarrowPair}
use Rattle.oas_lex.specs.ShotText.{IsUnit, shot_text}
use Rattle.deck_text.specs.Sound.{IsSound, IsSoundOutput}
use Rattle.deck_text.specs.declared.deck.Output.{Output}
use Rattle.deck_text.specs.declared.deck.Deck.{Deck}
use Rattle.deck_text.proofs.ForCallers.{sound}
use Rattle.deck_plan.specs.Areas.{IsInArea}
use Rattle.shot_reader.specs.Reading.{IsFileOf, IsPairOf, AgreesWithPair}
use Rattle.shot_checker.specs.declared.verdicts.Verdict.TheVariants.{Exact}
use Rattle.shot_writer.specs.declared.parts.Sums.{Sums}
use Rattle.shot_output.specs.Files.{text_of}
use Rattle.half_grid.specs.Sizes.{IsNumberIn}
use Rattle.shot_output.proofs.ForCallers.{area_count}
use Rattle.job_input.specs.Accepted.{HoldsInput}
use Rattle.job_input.specs.declared.reading.Input.{Input}
use Rattle.file_check.specs.Certificates.{IsCertified}
use Rattle.file_check.specs.Files.{IsExactFile, AreExactFiles}
use Rattle.file_check.proofs.ForCallers.{IsClass, Judged, AllClasses, file_of_place}
use Rattle.mdp_job.specs.Denoted.{plan_of, area_of}
use Rattle.mdp_job.specs.Headline.{AreExact}
use Rattle.mdp_job.specs.Certificates.{IsExact, AreExactBefore, IsExactSum, AreExactSums}

-- the area of an output that is there, by the output's place
abbrev area_at : Input → Option Output → Tile → Type 0
area_at input o t = IsSomeAnd o (λ output. IsInArea input.tree.layout.cells input.tree.top input.deck output.name t)

-- ---- from a shot file

text_with : (bytes : List ℕ) (unit : ℕ) (pair : Option Pair) (shots : List Trapezoid) (deck : Deck) (output : Output)
    → IsFileOf bytes unit pair shots → unit ≡ 2 * deck.unit → IfSome pair (λ p. p ≡ output.pair)
    → bytes ≡ text_of deck output shots
unfolding shot_text
text_with bytes unit None shots deck output f e h =
    let none : shots ≡ [] = f.pair_fits in
    f.text ∙ rw (none, e) refl
text_with bytes unit (Some p) shots deck output f e h =
    let layer : f.layer ≡ output.pair.layer = sym f.agrees.0 ∙ ap (λ (q : Pair). q.layer) h in
    let datatype : f.datatype ≡ output.pair.datatype = sym f.agrees.1 ∙ ap (λ (q : Pair). q.datatype) h in
    f.text ∙ rw (layer, datatype, e) refl

cover_of : (input : Input) (k : ℕ) (output : Output) (shots : List Trapezoid) → slice_get input.deck.outputs k
    ≡ Some output → IsCertified (plan_of input) k shots → CoversExactly shots (area_of input output)
cover_of input k output shots at h = subst (λ (o : Option Output). CoversExactly shots (area_at input o)) at h.covers

pub file_exact : (input : Input) (c : Content) (k : ℕ) (output : Output) (sums : Sums) → slice_get input.deck.outputs k
    ≡ Some output → IsExactFile (plan_of input) k output c sums → IsExact c input output
file_exact input c k output sums at (bytes, holds, x) = (
  bytes,
  holds.held,
  holds.short,
  record {
    shots = x.s.shots;
    text = text_with bytes x.s.unit x.s.pair x.s.shots input.deck output x.text x.head.unit x.head.pair;
    legal = x.text.legal;
    within = x.certified.fit;
    cover = cover_of input k output x.s.shots at x.certified;
  },
)

file_sum : (input : Input) (c : Content) (k : ℕ) (output : Output) (sums : Sums) → slice_get input.deck.outputs k
    ≡ Some output → IsExactFile (plan_of input) k output c sums → IsExactSum c input output sums
file_sum input c k output sums at (bytes, holds, x) =
    let text = text_with bytes x.s.unit x.s.pair x.s.shots input.deck output x.text x.head.unit x.head.pair in
    let tiles = area_count (area_of input output) x.s.shots x.text.legal (cover_of input k output x.s.shots at x.certified) in
    record {
      shots = x.s.shots;
      held = holds.held ∙ ap Some text;
      number = x.sums_are.shots_are;
      triangles = x.sums_are.triangles_are;
      tiles = subst (λ (n : ℕ). IsNumberIn (area_of input output) n) (sym x.sums_are.triangles_are) tiles;
    }

pub before_exact : (input : Input) (c : Content) (n : ℕ) (sums : List Sums) → AreExactFiles (plan_of input) c n sums → AreExactBefore c input n
before_exact input c n sums h k output less at =
    let file = file_of_place (plan_of input) c n sums h k output less at in
    file_exact input c k output file.0 at file.2

pub all_exact : (input : Input) (c : Content) (sums : List Sums) → AreExactFiles (plan_of input) c (length input.deck.outputs) sums → AreExact c input
all_exact input c sums h k output at = before_exact input c (length input.deck.outputs) sums h k output (slice_get_within input.deck.outputs k output at) at

pub all_summed : (input : Input) (c : Content) (sums : List Sums) → AreExactFiles (plan_of input) c (length input.deck.outputs) sums → AreExactSums c input sums
all_summed input c sums h = record {
  count = h.count;
  each = λ k output sum at of.
      let file = file_of_place (plan_of input) c (length input.deck.outputs) sums h k output (slice_get_within input.deck.outputs k output at) at in
      subst (λ (s : Sums). IsExactSum c input output s) (same_Some file.0 sum (sym file.1 ∙ of)) (file_sum input c k output file.0 at file.2);
}

-- ---- to a shot file

-- the pair that a file of these shots says
abbrev pair_for : Output → List Trapezoid → Option Pair
pair_for output [] = None
pair_for output (z ∷ shots) = Some output.pair

pair_fits : (output : Output) (shots : List Trapezoid) → IsNarrowPair output.pair.layer output.pair.datatype → IsPairOf (pair_for output shots) shots
pair_fits output [] narrow = refl
pair_fits output (z ∷ shots) narrow = (λ e. let no : ⊥ = cc in no, narrow)

pair_agrees : (output : Output) (shots : List Trapezoid) → AgreesWithPair (pair_for output shots) output.pair.layer output.pair.datatype
pair_agrees output [] = tt
pair_agrees output (z ∷ shots) = (refl, refl)

pair_is : (output : Output) (shots : List Trapezoid) → IfSome (pair_for output shots) (λ p. p ≡ output.pair)
pair_is output [] = tt
pair_is output (z ∷ shots) = refl

unit_fits : (layout deck : List ℕ) (d : Deck) → IsSound layout deck d → IsUnit (2 * d.unit)
unit_fits layout deck d s = record { even = omega (arith); some = omega (arith, s.unit_low); few = omega (arith, s.unit_high) }

output_sound : (layout deck : List ℕ) (d : Deck) (k : ℕ) (output : Output) → IsSound layout deck d
    → slice_get d.outputs k ≡ Some output → IsSoundOutput layout deck (length d.steps) output
output_sound layout deck d k output s at =
    let within = slice_get_within d.outputs k output at in
    subst (IsSoundOutput layout deck (length d.steps)) (get_or_from_slice_get d.outputs k output output at)
    (All-get_or (IsSoundOutput layout deck (length d.steps)) d.outputs k output within s.outputs)

narrow_pair : (layout deck : List ℕ) (count : ℕ) (o : Output) → IsSoundOutput layout deck count o → IsNarrowPair o.pair.layer o.pair.datatype
narrow_pair layout deck count o s = record { layer_bits = omega (arith, s.narrow.layer); datatype_bits = omega (arith, s.narrow.datatype) }

pub exact_file : (input : Input) (c : Content) (layout deck : List ℕ) (k : ℕ) (output : Output)
    → HoldsInput c layout deck input → slice_get input.deck.outputs k ≡ Some output → IsExact c input output
    → IsClass (plan_of input) k output c (Judged Exact)
exact_file input c layout deck k output holds at (bytes, held, short, is) =
    let s = sound holds.holds_deck.bytes layout deck input.deck holds.holds_deck.is_deck in
    let pair = pair_for output is.shots in (
      bytes,
      record { held = held; short = short },
      record {
        s = record { unit = 2 * input.deck.unit; pair = pair; shots = is.shots };
        text = record {
          unit_fits = unit_fits layout deck input.deck s;
          legal = is.legal;
          pair_fits = pair_fits output is.shots (narrow_pair layout deck (length input.deck.steps) output (output_sound layout deck input.deck k output s at));
          layer = output.pair.layer;
          datatype = output.pair.datatype;
          agrees = pair_agrees output is.shots;
          text = is.text;
        };
        head = record { unit = refl; pair = pair_is output is.shots };
        verdict_is = record {
          fit = is.within;
          covers = subst (λ (o : Option Output). CoversExactly is.shots (area_at input o)) (sym at) is.cover;
        };
      },
    )

pub classes_before : (input : Input) (c : Content) (layout deck : List ℕ) (n : ℕ) → HoldsInput c layout deck input
    → AreExactBefore c input n → AllClasses (plan_of input) c n
classes_before input c layout deck n holds h k output less at = exact_file input c layout deck k output holds at (h k output less at)

pub classes_all : (input : Input) (c : Content) (layout deck : List ℕ) → HoldsInput c layout deck input
    → AreExact c input → AllClasses (plan_of input) c (length input.deck.outputs)
classes_all input c layout deck holds h k output less at = exact_file input c layout deck k output holds at (h k output at)
