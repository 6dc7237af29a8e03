-- What the calls of a writer leave in an output's file.
use Rattle.std.proofs.Common.{Result, Ok, Err, OnOk, OnErr, IfOk, ℕ, ◌+◌, ◌*◌, ◌≤◌, ◌≡◌, Bool, IsTrue, List, []}
use Rattle.std.proofs.Common.{◌++◌, length, take, get_or, slice_get, Some, arith, refl, sym, ap, subst, append_assoc, ◌∙◌, inl, inr}
use Rattle.std.proofs.lemmas.List.{length-append, take-append-le}
use Rattle.std.proofs.lemmas.Option.{get_or_from_slice_get}
use Rattle.std.proofs.Math.Seq.{take-append-add}
use Rattle.depot.specs.Content.{Content, with_file, with_current, with_written, IsPartWritten, IsPartMade}
use Rattle.half_grid.specs.Trapezoids.{Trapezoid}
use Rattle.layout_model.specs.declared.pair.Pair.{Pair}
use Rattle.oas_lex.specs.ShotText.{head, end, shot_text}
use Rattle.deck_text.specs.declared.deck.Output.{Output}
use Rattle.deck_plan.specs.Plans.{Planned}
use Rattle.shot_writer.specs.Writing.{records_of}
use Rattle.shot_writer.specs.declared.parts.Sums.{Sums}
use Rattle.shot_writer.proofs.ForCallers.{file_more, started_text, put_text, finished_text, finish_part}
use Rattle.shot_output.specs.Files.{text_of, IsListOf, IsTextOf}
use Rattle.shot_output.specs.Bands.{IsPut, IsPutPart}

-- what holds of an answer by two of its facts, and of a refusal by one
pub ok_both : {T E : Type 0} (r : Result T E) {A : Type 0} {P Q : T → Type 0} → OnOk r A → IfOk r P → ((x : T) → A → P x → Q x) → IfOk r Q
ok_both (Ok x) a p f = f x a p
ok_both (Err bad) a p f = tt

pub err_then : {T E : Type 0} (r : Result T E) {A B : Type 0} → OnErr r A → (A → B) → OnErr r B
err_then (Ok x) a f = tt
err_then (Err bad) a f = f a

-- the output at a place of a list, as it is read
pub is_output : (outputs others : List Output) (k : ℕ) (output found : Output) → found ≡ get_or others k found
    → others ≡ outputs → slice_get outputs k ≡ Some output → found ≡ output
is_output outputs others k output found is same there = is ∙ ap (λ (l : List Output). get_or l k found) same
    ∙ get_or_from_slice_get outputs k output found there

-- what is written to the file alone, as a part of the file's bytes
made : (c now : Content) (name bytes : List ℕ) (n : ℕ) → n ≤ length bytes → now ≡ with_file c name (take n bytes) → IsPartMade c name bytes now
made c now name bytes n few e =
    inr (n, few, subst (λ (x : Content). x ≡ with_current (with_file c name (take n bytes)) x.current) (sym e) refl)

-- a prefix of the bytes that come first is a prefix of all
made_more : (c now : Content) (name xs ys zs : List ℕ) → zs ≡ xs ++ ys → IsPartMade c name xs now → IsPartMade c name zs now
made_more c now name xs ys zs e (inl same) = inl same
made_more c now name xs ys zs e (inr (n, few, is)) =
    inr (
      n,
      omega (arith, few, ap length e, length-append xs ys),
      is ∙ ap (λ (l : List ℕ). with_current (with_file c name l) now.current) (sym (ap (take n) e ∙ take-append-le n xs ys few)),
    )

-- the text is the head, the records and END
text_parts : (unit : ℕ) (pair : Pair) (shots : List Trapezoid)
    → shot_text unit pair.layer pair.datatype shots ≡ (head unit ++ records_of pair shots) ++ end
unfolding shot_text
text_parts unit pair shots = refl

module _ (p : Planned) (k : ℕ) (c₀ : Content) (output : Output) (unit : ℕ) (pair : Pair) (unit_is : unit ≡ 2 * p.deck.unit) (pair_is : pair ≡ output.pair) where
  text_is : (shots : List Trapezoid) → shot_text unit pair.layer pair.datatype shots ≡ text_of p.deck output shots
  text_is shots = ap (λ (n : ℕ). shot_text n pair.layer pair.datatype shots) unit_is ∙ ap
      (λ (q : Pair). shot_text (2 * p.deck.unit) q.layer q.datatype shots) pair_is

  pub start_cut : (now : Content) (all : (shots : List Trapezoid) × IsListOf p k shots) → IsPartMade c₀ output.file (head unit) now
      → (text : List ℕ) × IsTextOf p k output text × IsPartMade c₀ output.file text now
  start_cut now all part =
      let rest = records_of pair all.0 ++ end in (
        shot_text unit pair.layer pair.datatype all.0,
        (all.0, all.1, text_is all.0),
        made_more c₀ now output.file (head unit) rest (shot_text unit pair.layer pair.datatype all.0)
            (text_parts unit pair all.0 ∙ append_assoc (head unit) (records_of pair all.0) end) part,
      )

  pub put_cut : (s now : Content) (tells : Bool) → IsTrue tells → s ≡ with_file c₀ output.file (head unit) → IsPutPart p k pair tells s now
      → (text : List ℕ) × IsTextOf p k output text × IsPartMade c₀ output.file text now
  put_cut s now tells told started put =
      let part = put.content told in
      let xs = head unit in
      let ys = records_of pair put.shots in (
        shot_text unit pair.layer pair.datatype put.shots,
        (put.shots, put.list, text_is put.shots),
        made_more c₀ now output.file (xs ++ ys) end (shot_text unit pair.layer pair.datatype put.shots) (text_parts unit pair put.shots)
            (made c₀ now output.file (xs ++ ys) (length xs + part.0) (omega (arith, part.1, length-append xs ys))
            (part.2 ∙ ap (λ (x : Content). with_written x (take part.0 ys)) started ∙ file_more c₀ output.file xs
            (take part.0 ys) ∙ ap (with_file c₀ output.file) (sym (take-append-add xs ys part.0)))),
      )

  -- the records of all shots were put
  put_whole : (s c : Content) (shots : List Trapezoid) → s ≡ with_file c₀ output.file (head unit)
      → c ≡ with_written s (records_of pair shots) → c ≡ with_file c₀ output.file (head unit ++ records_of pair shots)
  put_whole s c shots started put = put_text c₀ s c output.file unit pair [] shots (started_text c₀ s output.file unit pair started) put

  pub finish_cut : (s c now : Content) (tells : Bool) (sums : Sums) → IsTrue tells
      → s ≡ with_file c₀ output.file (head unit) → IsPut p k pair tells s c sums → IsPartWritten c end now
      → (text : List ℕ) × IsTextOf p k output text × IsPartMade c₀ output.file text now
  finish_cut s c now tells sums told started put part =
      let f = finish_part c₀ c now output.file unit pair put.shots (put_whole s c put.shots started (put.content told)) part in (
        shot_text unit pair.layer pair.datatype put.shots,
        (put.shots, put.list, text_is put.shots),
        made c₀ now output.file (shot_text unit pair.layer pair.datatype put.shots) f.0 f.1 f.2,
      )

  pub finished : (s c now : Content) (tells : Bool) (sums : Sums) → IsTrue tells
      → s ≡ with_file c₀ output.file (head unit) → (put : IsPut p k pair tells s c sums) → now ≡ with_written c end
      → now ≡ with_file c₀ output.file (text_of p.deck output put.shots)
  finished s c now tells sums told started put end_is =
      finished_text c₀ c now output.file unit pair put.shots
      (put_whole s c put.shots started (put.content told)) end_is ∙ ap (with_file c₀ output.file)
      (text_is put.shots)
