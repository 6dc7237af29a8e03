-- The counts with one more record.
use Rattle.std.proofs.Common.{◌≡◌, ℕ, ◌+◌, ◌≤◌, suc, Bool, true, false, if◌then◌else◌, not, IsTrue, Some, List, [], ◌∷◌, refl, length, arith}
use Rattle.layout_model.specs.declared.cells.Counts.{Counts}
use Rattle.layout_model.specs.declared.pair.Pair.{Pair}
use Rattle.oas_record.specs.declared.records.NameKind.TheVariants as kinds
use Rattle.oas_record.specs.declared.records.OasRecord.{OasRecord}
use Rattle.oas_record.specs.declared.records.OasRecord.TheVariants as records
use Rattle.oas_record.specs.declared.shapes.ShapeHead.{ShapeHead}
use Rattle.oas_record.specs.declared.shapes.ShapeKind.{ShapeKind}
use Rattle.oas_record.specs.declared.shapes.ShapeKind.TheVariants as shapes
use Rattle.oas_reader.specs.Bodies.{body_of, shape_body}
use Rattle.layout_model.specs.Counting.{AreAtMost}
use Rattle.oas_reader.specs.Drawn.{with_record}
use Rattle.oas_reader.specs.Items.{Item, records_in, count_in}
use Rattle.oas_reader.specs.Meaning.{counts_of, is_kept, is_other, is_text, is_property, is_wanted}
use Rattle.oas_reader.specs.Rules.{KeepsToOthers}
use Rattle.oas_reader.specs.Taking.{wanting_of}
use Rattle.oas_reader.specs.declared.bodies.Body.{Body}
use Rattle.oas_reader.specs.declared.bodies.Body.TheVariants as bodies

abbrev counts : ℕ → ℕ → ℕ → ℕ → Counts
counts k o t p = record { kept = k; other = o; texts = t; nodes = 0; boxes = 0; properties = p }

same_counts : (k o t p k' o' t' p' : ℕ) → k ≡ k' → o ≡ o' → t ≡ t' → p ≡ p' → counts k o t p ≡ counts k' o' t' p'
same_counts k o t p k' o' t' p' a b c d = rw (a, b, c, d) refl

none_more : (k o t p : ℕ) → counts k o t p ≡ counts (k + 0) (o + 0) (t + 0) (p + 0)
none_more k o t p = same_counts k o t p (k + 0) (o + 0) (t + 0) (p + 0) (omega arith) (omega arith) (omega arith) (omega arith)

kept_more : (k o t p : ℕ) → counts (k + 1) o t p ≡ counts (k + 1) (o + 0) (t + 0) (p + 0)
kept_more k o t p = same_counts (k + 1) o t p (k + 1) (o + 0) (t + 0) (p + 0) (omega arith) (omega arith) (omega arith) (omega arith)

other_more : (k o t p : ℕ) → counts k (o + 1) t p ≡ counts (k + 0) (o + 1) (t + 0) (p + 0)
other_more k o t p = same_counts k (o + 1) t p (k + 0) (o + 1) (t + 0) (p + 0) (omega arith) (omega arith) (omega arith) (omega arith)

text_more : (k o t p : ℕ) → counts k o (t + 1) p ≡ counts (k + 0) (o + 0) (t + 1) (p + 0)
text_more k o t p = same_counts k o (t + 1) p (k + 0) (o + 0) (t + 1) (p + 0) (omega arith) (omega arith) (omega arith) (omega arith)

property_more : (k o t p : ℕ) → counts k o t (p + 1) ≡ counts (k + 0) (o + 0) (t + 0) (p + 1)
property_more k o t p = same_counts k o t (p + 1) (k + 0) (o + 0) (t + 0) (p + 1) (omega arith) (omega arith) (omega arith) (omega arith)

shape_more : (k o t p : ℕ) (body : Body) (w : Bool)
    → with_record (Some w) body (counts k o t p) ≡ counts (k + (if w then 1 else 0)) (o + (if not w then 1 else 0)) (t + 0) (p + 0)
shape_more k o t p body true = kept_more k o t p
shape_more k o t p body false = other_more k o t p

undrawn_more : (k o t p : ℕ) (body : Body) (w : Bool) → (IsTrue w → ⊥)
    → with_record (Some w) body (counts k o t p) ≡ counts (k + 0) (o + (if not w then 1 else 0)) (t + 0) (p + 0)
undrawn_more k o t p body true not_wanted = absurd (not_wanted refl)
undrawn_more k o t p body false not_wanted = other_more k o t p

abbrev kept_in : List Pair → List OasRecord → ℕ
kept_in wanted past = count_in (is_kept wanted) past

abbrev other_in : List Pair → List OasRecord → ℕ
other_in wanted past = count_in (is_other wanted) past

abbrev texts_in : List OasRecord → ℕ
texts_in past = count_in (λ _ r. is_text r) past

abbrev properties_in : List OasRecord → ℕ
properties_in past = count_in (λ _ r. is_property r) past

shape_counted : (wanted : List Pair) (past : List OasRecord) (head : ShapeHead) (kind : ShapeKind)
    → KeepsToOthers (is_wanted wanted (records.Shape head kind ∷ past)) (records.Shape head kind)
    → with_record (Some (is_wanted wanted (records.Shape head kind ∷ past))) (shape_body head.info kind) (counts_of wanted past)
    ≡ counts_of wanted (records.Shape head kind ∷ past)
shape_counted wanted past head (shapes.Circle radius) h =
    undrawn_more (kept_in wanted past) (other_in wanted past) (texts_in past) (properties_in past) bodies.Undrawn
    (is_wanted wanted (records.Shape head (shapes.Circle radius) ∷ past)) h
shape_counted wanted past head (shapes.XGeometry attribute text) h =
    undrawn_more (kept_in wanted past) (other_in wanted past) (texts_in past) (properties_in past) bodies.Undrawn
    (is_wanted wanted (records.Shape head (shapes.XGeometry attribute text) ∷ past)) h
shape_counted wanted past head kind h =
    shape_more (kept_in wanted past) (other_in wanted past) (texts_in past) (properties_in past) (shape_body head.info kind)
    (is_wanted wanted (records.Shape head kind ∷ past))

pub counted : (wanted : List Pair) (past : List OasRecord) (r : OasRecord) → KeepsToOthers (is_wanted wanted (r ∷ past)) r
    → with_record (wanting_of wanted past r) (body_of r) (counts_of wanted past) ≡ counts_of wanted (r ∷ past)
counted wanted past (records.Name kinds.Cell text number) h = none_more (kept_in wanted past) (other_in wanted past) (texts_in past) (properties_in past)
counted wanted past (records.Text info text textlayer texttype x y repetition) h =
    text_more (kept_in wanted past) (other_in wanted past) (texts_in past) (properties_in past)
counted wanted past (records.Shape head kind) h = shape_counted wanted past head kind h
counted wanted past (records.Property info name count values) h =
    property_more (kept_in wanted past) (other_in wanted past) (texts_in past) (properties_in past)
counted wanted past records.LastProperty h = property_more (kept_in wanted past) (other_in wanted past) (texts_in past) (properties_in past)
counted wanted past r h = none_more (kept_in wanted past) (other_in wanted past) (texts_in past) (properties_in past)

-- ---- as many as the records at most

step_few : (b : Bool) (n m : ℕ) → n ≤ m → n + (if b then 1 else 0) ≤ suc m
step_few true n m h = omega (arith, h)
step_few false n m h = omega (arith, h)

pub count_few : (test : List OasRecord → OasRecord → Bool) (past : List OasRecord) → count_in test past ≤ length past
count_few test [] = omega arith
count_few test (r ∷ past) = step_few (test past r) (count_in test past) (length past) (count_few test past)

pub items_few : (past : List Item) → length (records_in past) ≡ length past
items_few [] = refl
items_few (x ∷ past) = let e = items_few past in omega (arith, e)

pub counts_few : (wanted : List Pair) (past : List Item) (limit : ℕ) → length past ≤ limit → AreAtMost limit (counts_of wanted (records_in past))
counts_few wanted past limit few =
    let same = items_few past in
    record {
      kept = omega (arith, same, count_few (is_kept wanted) (records_in past));
      other = omega (arith, same, count_few (is_other wanted) (records_in past));
      texts = omega (arith, same, count_few (λ _ r. is_text r) (records_in past));
      nodes = omega arith;
      boxes = omega arith;
      properties = omega (arith, same, count_few (λ _ r. is_property r) (records_in past));
    }
