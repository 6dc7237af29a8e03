-- How far the pouring of a list has come, and what a step or a refusal makes of it.
use Rattle.std.proofs.Common.{◌≡◌, ℕ, ℤ, pos, ◌*ℤ◌, ◌<ℤ◌, ◌+◌, ◌<◌, ◌≤◌, List, [], ◌∷◌, ◌++◌, length, take}
use Rattle.std.proofs.Common.{unsigned_abs, sym, ap, subst, ◌∙◌, arith, append_assoc, ◌-ℤ◌, ◌+ℤ◌}
use Rattle.std.proofs.lemmas.Int.{ints}
use Rattle.std.proofs.lemmas.List.{append-nil, length-append, take-append-le, flat_map_more}
use Rattle.std.proofs.lemmas.List.Sums.{sum_by_push}
use Rattle.std.proofs.lemmas.Grind.{flat_map-append}
use Rattle.std.proofs.lemmas.Int.{unsigned_abs-mul}
use Rattle.std.proofs.Math.Nat.{mul-pos}
use Rattle.std.proofs.Math.Seq.{take-append-add}
use Rattle.depot.specs.Content.{Content, with_written, IsPartWritten}
use Rattle.depot.proofs.ForCallers.{appended-appended}
use Rattle.half_grid.specs.Trapezoids.{Trapezoid, IsLegal, bottom_of, top_of}
use Rattle.layout_model.specs.declared.pair.Pair.{Pair}
use Rattle.oas_lex.specs.ShotText.{spelling_of}
use Rattle.shot_writer.specs.declared.parts.Sums.{Sums}
use Rattle.shot_writer.specs.Writing.{records_of, triangles_in, AreSumsAfter, IsWrittenButFor}

-- some items were taken, their records were written but for those that are held, and the stream stands for the rest
pub record Poured {S : Type 0} (stands_for : S → List Trapezoid → Type 0) (tells : Type 0) (pair : Pair)
    (before : Sums) (old : Content) (items : List Trapezoid) (now : Content) (sums : Sums) (held : List ℕ)
    (stream : S) : Type 0 where
  pub taken : List Trapezoid
  pub rest : List Trapezoid
  pub split : items ≡ taken ++ rest
  pub stands : stands_for stream rest
  pub sums_are : AreSumsAfter before taken sums
  pub written : tells → IsWrittenButFor old (records_of pair taken) held now

-- a product of two positive numbers is positive
product_some : (h w : ℤ) (n : ℕ) → pos 0 <ℤ h → pos 0 <ℤ w → pos n ≡ h *ℤ w → 0 < n
product_some h w n hp wp e =
    let a : 0 < unsigned_abs h = omega (arith, ints) in
    let b : 0 < unsigned_abs w = omega (arith, ints) in
    subst (λ (m : ℕ). 0 < m) (sym (ap unsigned_abs e ∙ unsigned_abs-mul h w)) (mul-pos a b)

-- a legal trapezoid has a triangle
pub some_triangles : (z : Trapezoid) (n : ℕ) → IsLegal z → pos n ≡ (z.y1 -ℤ z.y0) *ℤ (bottom_of z +ℤ top_of z) → 0 < n
some_triangles z n legal e =
    let rows : pos 0 <ℤ (z.y1 -ℤ z.y0) = let h = legal.has_rows in omega (arith, ints) in
    product_some (z.y1 -ℤ z.y0) (bottom_of z +ℤ top_of z) n rows legal.not_flat e

-- two pieces that are written one after another are written as one
pub with_written-twice : (c : Content) (a b : List ℕ) → with_written (with_written c a) b ≡ with_written c (a ++ b)
with_written-twice c a b = ap (λ files. record c { made = files }) (appended-appended c.made c.current a b)

-- one more was taken and put
pub one_more : {S : Type 0} {stands_for : S → List Trapezoid → Type 0} {tells : Type 0} {pair : Pair} {before : Sums}
    {old : Content} {items : List Trapezoid} {now : Content} {sums : Sums} {held : List ℕ} {stream : S}
    → (p : Poured stands_for tells pair before old items now sums held stream)
    → (z : Trapezoid) (others : List Trapezoid) (after : S) → p.rest ≡ z ∷ others → stands_for after others
    → (later : Content) (more : List ℕ) → (tells → IsWrittenButFor now (held ++ spelling_of pair.layer pair.datatype z) more later)
    → (count : ℕ) → count ≡ triangles_in z
    → Poured stands_for tells pair before old items later (record { shots = sums.shots + 1; triangles = sums.triangles + count }) more after
one_more {S} {stands_for} {tells} {pair} {before} {old} {items} {now} {sums} {held} p z others after e stands later more step count is = record {
  taken = p.taken ++ z ∷ [];
  rest = others;
  split = p.split ∙ ap (λ r. p.taken ++ r) e ∙ sym (append_assoc p.taken (z ∷ []) others);
  stands = stands;
  sums_are = record {
    shots = let a = p.sums_are.shots in omega (arith, length-append p.taken (z ∷ []));
    triangles = let a = p.sums_are.triangles in omega (arith, sum_by_push triangles_in p.taken z);
  };
  written = λ told. let w = p.written told in let v = step told in record {
    written = w.written ++ v.written;
    content = v.content ∙ ap (λ c. with_written c v.written) w.content ∙ with_written-twice old w.written v.written;
    whole =
        append_assoc w.written v.written more ∙ ap (λ l. w.written ++ l) v.whole ∙ sym (append_assoc w.written held (spelling_of pair.layer pair.datatype z))
        ∙ ap (λ l. l ++ spelling_of pair.layer pair.datatype z) w.whole
        ∙ flat_map_more (spelling_of pair.layer pair.datatype) [] p.taken z;
  };
}

-- what is held makes a prefix of the whole, where a prefix of it was written
pub part_of : (w h r : List ℕ) (n : ℕ) → n ≤ length h → w ++ take n h ≡ take (length w + n) ((w ++ h) ++ r)
part_of w h r n le =
    sym (ap (take (length w + n)) (append_assoc w h r) ∙ take-append-add w (h ++ r) n ∙ ap (λ l. w ++ l) (take-append-le n h r le))

-- a refusal of what is held leaves a prefix of all records
pub refused_part : {S : Type 0} {stands_for : S → List Trapezoid
    → Type 0} {tells : Type 0} {pair : Pair} {before : Sums} {old : Content} {items : List Trapezoid} {now : Content}
    {sums : Sums} {held : List ℕ} {stream : S}
    → (p : Poured stands_for tells pair before old items now sums held stream)
    → (later : Content) → tells → IsPartWritten now held later → IsPartWritten old (records_of pair items) later
refused_part {S} {stands_for} {tells} {pair} {before} {old} {items} {now} {sums} {held} p later told part =
    let w = p.written told in
    let whole : records_of pair items ≡ (w.written ++ held) ++ records_of pair p.rest =
    ap (records_of pair) p.split ∙ flat_map-append (spelling_of pair.layer pair.datatype) p.taken p.rest ∙ ap
    (λ l. l ++ records_of pair p.rest) (sym w.whole) in (
      length w.written + part.0,
      omega (arith, ap length whole, length-append (w.written ++ held) (records_of pair p.rest), length-append w.written held, part.1),
      part.2 ∙ ap (λ c. with_written c (take part.0 held)) w.content ∙ with_written-twice old w.written (take part.0 held)
          ∙ ap (with_written old) (part_of w.written held (records_of pair p.rest) part.0 part.1 ∙ ap (take (length w.written + part.0)) (sym whole)),
    )

-- where none is left, and what is held is written, all is written
pub all_poured : {S : Type 0} {stands_for : S → List Trapezoid → Type 0} {tells : Type 0} {pair : Pair} {before : Sums}
    {old : Content} {items : List Trapezoid} {now : Content} {sums : Sums} {held : List ℕ} {stream : S}
    → (p : Poured stands_for tells pair before old items now sums held stream)
    → p.rest ≡ [] → (later : Content) → tells → later ≡ with_written now held → later ≡ with_written old (records_of pair items)
all_poured {S} {stands_for} {tells} {pair} {before} {old} {items} {now} {sums} {held} p none later told e =
    let w = p.written told in
    e ∙ ap (λ c. with_written c held) w.content ∙ with_written-twice old w.written held
    ∙ ap (with_written old) (w.whole ∙ ap (records_of pair) (sym (p.split ∙ ap (λ r. p.taken ++ r) none ∙ append-nil p.taken)))
