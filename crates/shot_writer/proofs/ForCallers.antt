-- What crates above may cite: what a file holds after each call of its writer, with no other call between.
use Rattle.std.proofs.Common.{◌≡◌, ℕ, ◌+◌, ◌≤◌, List, [], ◌∷◌, ◌++◌, length, take, Some, sym, ap, ◌∙◌, arith, append_assoc, refl}
use Rattle.std.proofs.lemmas.List.{append-nil, length-append}
use Rattle.std.proofs.lemmas.Grind.{flat_map-append}
use Rattle.depot.specs.Content.{Content, appended, with_file, with_written, IsPartWritten}
use Rattle.depot.proofs.ForCallers.{appended-appended, appended-insert}
use Rattle.std.specs.FinMap.{insert}
use Rattle.geo_stream.specs.Flattened.{end_to_end}
use Rattle.half_grid.specs.Trapezoids.{Trapezoid}
use Rattle.layout_model.specs.declared.pair.Pair.{Pair}
use Rattle.oas_lex.specs.ShotText.{head, end, spelling_of, shot_text}
use Rattle.shot_writer.specs.Writing.{records_of}
use Rattle.shot_writer.specs.WritingLaw.{after_puts, WritingLaw}
pub use Rattle.shot_writer.proofs.SoFar.{part_of, with_written-twice}

-- the bytes before END
abbrev pub text_so_far : ℕ → Pair → List Trapezoid → List ℕ
text_so_far unit pair shots = head unit ++ records_of pair shots

-- what is written to a file that was made with bytes makes it longer
pub file_more : (c : Content) (name a b : List ℕ) → with_written (with_file c name a) b ≡ with_file c name (a ++ b)
file_more c name a b =
    ap (λ files. record c { made = files; current = Some name })
    (ap (λ files. appended files (Some name) b) (sym (appended-insert c.made name a)) ∙ appended-appended
    (insert c.made name []) (Some name) a b ∙ appended-insert c.made name (a ++ b))

-- after `start`
pub started_text : (c now : Content) (name : List ℕ) (unit : ℕ) (pair : Pair) → now ≡ with_file c name (head unit)
    → now ≡ with_file c name (text_so_far unit pair [])
started_text c now name unit pair e = e ∙ ap (with_file c name) (sym (append-nil (head unit)))

-- after `put`
pub put_text : (c before now : Content) (name : List ℕ) (unit : ℕ) (pair : Pair) (xs ys : List Trapezoid)
    → before ≡ with_file c name (text_so_far unit pair xs) → now ≡ with_written before (records_of pair ys)
    → now ≡ with_file c name (text_so_far unit pair (xs ++ ys))
put_text c before now name unit pair xs ys e f =
    f ∙ ap (λ (b : Content). with_written b (records_of pair ys)) e ∙ file_more c name (text_so_far unit pair xs) (records_of pair ys)
    ∙ ap (with_file c name)
    (append_assoc (head unit) (records_of pair xs) (records_of pair ys) ∙ ap (λ l. head unit ++ l)
    (sym (flat_map-append (spelling_of pair.layer pair.datatype) xs ys)))

-- after `finish`
pub finished_text : (c before now : Content) (name : List ℕ) (unit : ℕ) (pair : Pair) (xs : List Trapezoid)
    → before ≡ with_file c name (text_so_far unit pair xs) → now ≡ with_written before end
    → now ≡ with_file c name (shot_text unit pair.layer pair.datatype xs)
unfolding shot_text
finished_text c before now name unit pair xs e f =
    f ∙ ap (λ (b : Content). with_written b end) e ∙ file_more c name (text_so_far unit pair xs) end

-- after a refused `put` a prefix of the text of any list that begins so
pub put_part : (c before now : Content) (name : List ℕ) (unit : ℕ) (pair : Pair) (xs ys zs : List Trapezoid)
    → before ≡ with_file c name (text_so_far unit pair xs) → IsPartWritten before (records_of pair ys) now → (n : ℕ)
    × (n ≤ length (shot_text unit pair.layer pair.datatype (xs ++ ys ++ zs)))
    × (now ≡ with_file c name (take n (shot_text unit pair.layer pair.datatype (xs ++ ys ++ zs))))
unfolding shot_text
put_part c before now name unit pair xs ys zs e part =
    let f = spelling_of pair.layer pair.datatype in
    let w = text_so_far unit pair xs in
    let rest = records_of pair zs ++ end in
    let whole : head unit ++ records_of pair (xs ++ ys ++ zs) ++ end ≡ (w ++ records_of pair ys) ++ rest =
    ap (λ l. head unit ++ l ++ end) (flat_map-append f (xs ++ ys) zs ∙ ap (λ l. l ++ records_of pair zs) (flat_map-append f xs ys))
    ∙ ap (λ l. l ++ end)
    (sym (ap (λ l. l ++ records_of pair zs) (append_assoc (head unit) (records_of pair xs) (records_of pair ys))
    ∙ append_assoc (head unit) (records_of pair xs ++ records_of pair ys) (records_of pair zs)))
    ∙ append_assoc (w ++ records_of pair ys) (records_of pair zs) end in (
      length w + part.0,
      omega (arith, ap length whole, length-append (w ++ records_of pair ys) rest, length-append w (records_of pair ys), part.1),
      part.2 ∙ ap (λ (b : Content). with_written b (take part.0 (records_of pair ys))) e ∙ file_more c name w (take part.0 (records_of pair ys))
          ∙ ap (with_file c name) (part_of w (records_of pair ys) rest part.0 part.1 ∙ ap (take (length w + part.0)) (sym whole)),
    )

-- after a refused `finish` a prefix of the text
pub finish_part : (c before now : Content) (name : List ℕ) (unit : ℕ) (pair : Pair) (xs : List Trapezoid)
    → before ≡ with_file c name (text_so_far unit pair xs) → IsPartWritten before end now → (n : ℕ)
    × (n ≤ length (shot_text unit pair.layer pair.datatype xs))
    × (now ≡ with_file c name (take n (shot_text unit pair.layer pair.datatype xs)))
unfolding shot_text
finish_part c before now name unit pair xs e part =
    let w = text_so_far unit pair xs in
    let whole : head unit ++ records_of pair xs ++ end ≡ (w ++ end) ++ [] = sym (append-nil (w ++ end)) in (
      length w + part.0,
      omega (arith, ap length whole, length-append (w ++ end) [], length-append w end, part.1),
      part.2 ∙ ap (λ (b : Content). with_written b (take part.0 end)) e ∙ file_more c name w (take part.0 end)
          ∙ ap (with_file c name) (part_of w end [] part.0 part.1 ∙ ap (take (length w + part.0)) (sym whole)),
    )

-- all calls together
pub writing : WritingLaw
writing c name unit pair lists = from (with_file c name (head unit)) [] lists (started_text c _ name unit pair refl)
  where
    from : (before : Content) (xs : List Trapezoid) (lists : List (List Trapezoid))
        → before ≡ with_file c name (text_so_far unit pair xs)
        → with_written (after_puts pair before lists) end ≡ with_file c name
        (shot_text unit pair.layer pair.datatype (xs ++ end_to_end lists))
    from before xs [] e = finished_text c before _ name unit pair xs e refl ∙ ap
        (λ zs. with_file c name (shot_text unit pair.layer pair.datatype zs)) (sym (append-nil xs))
    from before xs (ys ∷ lists) e =
        from (with_written before (records_of pair ys)) (xs ++ ys) lists (put_text c before _ name unit pair xs ys e refl)
        ∙ ap (λ zs. with_file c name (shot_text unit pair.layer pair.datatype zs)) (append_assoc xs ys (end_to_end lists))
