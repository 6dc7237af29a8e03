-- What holds after Done, from the table of answers.
use Rattle.std.proofs.Common.{◌≡◌, ◌≢◌, ◌⊎◌, inl, inr, ℕ, pos, ◌≤◌, Bool, List, [], ◌++◌, length, Option, None, Some, refl, sym, ap, subst, ◌∙◌, arith}
use Rattle.depot.specs.Content.{Content, held_as, with_left}
use Rattle.depot.specs.Counts.{Counts, NeverFall, Rose}
use Rattle.depot.proofs.ForCallers.{Rose-earlier}
use Rattle.layout_model.specs.declared.pair.Pair.{Pair}
use Rattle.std.proofs.lemmas.Int.{ints}
use Rattle.half_grid.specs.Trapezoids.{Trapezoid}
use Rattle.field_split.specs.Fields.{IsFieldSize}
use Rattle.oas_lex.specs.ShotLaws.{IsNarrowPair}
use Rattle.oas_lex.specs.ShotText.{shot_text}
use Rattle.shot_reader.specs.Reading.{IsPairOf, AgreesWithPair, IsFileOf as IsTextFile}
use Rattle.shot_repeat.specs.Packed.{IsPackedText, IsPackedFile}
use Rattle.shot_repeat.proofs.ForCallers.{one_file, text_stands, text_is_file, text_is_short}
use Rattle.job_input.specs.Accepted.{HoldsInput}
use Rattle.job_input.specs.declared.reading.Input.{Input}
use Rattle.job_words.specs.Words.{Fracture, Check, Shots, Pack, Unpack, Split, Density, Generate, IsFracture, IsCheck}
use Rattle.mdp_job.specs.Runs.{run_of}
use Rattle.mdp_job.specs.Headline.{Covers, Certifies}
use Rattle.mdp_job.specs.Outputs.{AreEconomic, AreSummed, IsReported, report_on}
use Rattle.mdp_job.specs.Certificates.{IsExactReported}
use Rattle.mdp_job.specs.ShotFiles.{ShotData, pair_or, packed_of, IsGivenBack}
use Rattle.mdp_job.specs.Densities.{AreTablesSaid}
use Rattle.mdp_job.specs.Parts.{IsDone, IsMade, IsFractured}
use Rattle.mdp_job.specs.Table.{listing_command, packing_command, unpacking_command, splitting_command}
use Rattle.mdp_job.specs.Clauses.{Spares, Generates, Packs, Unpacks, Splits, Tabulates, Coverage, Reports, Lists, FaultsTold}
use Rattle.mdp_job.specs.Parts.{CountsFor}
use Rattle.job_report.specs.declared.status.Status.{Status}
use Rattle.job_report.specs.declared.status.Status.TheVariants as answers
use Rattle.mdp_job.proofs.Rows.{done_given}
use Rattle.mdp_job.proofs.CheckRows.{done_exactly, certified}
use Rattle.mdp_job.proofs.DensityRows.{density_done}
use Rattle.mdp_job.proofs.FileRows.{done_is, ended_done, memory_done, write_done}
use Rattle.mdp_job.proofs.Exactness.{all_summed as exact_summed}
use Rattle.mdp_job.proofs.Table.{answer_for}
use Rattle.mdp_job.proofs.Contents.{one_content}
use Rattle.mdp_job.proofs.Taken.{fewer_shots}
use Rattle.mdp_job.proofs.SplitCovers.{lists_keep}
use Rattle.mdp_job.proofs.Ends.{Ends, input_rules}
use Rattle.mdp_job.proofs.Written.{all_economic, all_summed, covered_then, written_said}
use Rattle.mdp_job.proofs.PackFiles.{packed_shots}

made_done : (tells : Bool) (b a : Content) (wr rr : Type 0) (input : Input) (s : Status)
    → IsMade tells b a wr rr input s → s ≡ answers.Done → IsDone tells b a input
made_done tells b a wr rr input s (inl x) e = x.1
made_done tells b a wr rr input s (inr (inl x)) e = absurd (write_done (sym x.0 ∙ e))
made_done tells b a wr rr input s (inr (inr x)) e = absurd (memory_done (sym x.0 ∙ e))

-- what is known after Done of `fracture`
record Finished (tells : Bool) (b a : Content) (layout deck : List ℕ) : Type 0 where
  input : Input
  holds : HoldsInput b layout deck input
  done : IsDone tells (with_left b []) a input

-- ---- the pair of a file's records

narrow_or : (pair : Option Pair) (shots : List Trapezoid) → IsPairOf pair shots → IsNarrowPair (pair_or pair).layer (pair_or pair).datatype
narrow_or None shots h = record { layer_bits = omega (arith); datatype_bits = omega (arith) }
narrow_or (Some pair) shots h = h.1

agrees_or : (pair : Option Pair) → AgreesWithPair pair (pair_or pair).layer (pair_or pair).datatype
agrees_or None = tt
agrees_or (Some pair) = (refl, refl)

-- the packed text stands for the shots of a file, and is read again
packed_stands : (bytes : List ℕ) (s : ShotData) → IsTextFile bytes s.unit s.pair s.shots → IsPackedText (packed_of s) s.unit s.pair s.shots
packed_stands bytes s f =
    text_stands s.unit (pair_or s.pair).layer (pair_or s.pair).datatype s.pair s.shots f.unit_fits
    (narrow_or s.pair s.shots f.pair_fits) f.legal f.pair_fits (agrees_or s.pair)

packed_is_file : (bytes : List ℕ) (s : ShotData) → IsTextFile bytes s.unit s.pair s.shots → length bytes ≤ 268435456 → IsPackedFile
    (packed_of s) s.unit s.pair s.shots
packed_is_file bytes s f short =
    text_is_file s.unit (pair_or s.pair).layer (pair_or s.pair).datatype s.pair s.shots f.unit_fits
    (narrow_or s.pair s.shots f.pair_fits) f.legal f.pair_fits (agrees_or s.pair) (fewer_shots bytes s.unit s.pair s.shots f short)

-- a file has the text of its shots with its pair, which is no shorter than their packed text
plain_is : (unit l d : ℕ) (pair : Option Pair) (shots : List Trapezoid) → IsPairOf pair shots → AgreesWithPair pair l d
    → shot_text unit (pair_or pair).layer (pair_or pair).datatype shots ≡ shot_text unit l d shots
unfolding shot_text
plain_is unit l d None shots none agrees = subst (λ (zs : List Trapezoid). shot_text unit 0 0 zs ≡ shot_text unit l d zs) (sym none) refl
plain_is unit l d (Some pair) shots fits agrees =
    ap (λ (k : ℕ). shot_text unit k pair.datatype shots) agrees.0 ∙ ap (λ (k : ℕ). shot_text unit l k shots) agrees.1

packed_short : (bytes : List ℕ) (s : ShotData) → IsTextFile bytes s.unit s.pair s.shots → length (packed_of s) ≤ length bytes
packed_short bytes s f =
    omega (
      arith,
      text_is_short s.unit (pair_or s.pair).layer (pair_or s.pair).datatype s.shots,
      ap length (plain_is s.unit f.layer f.datatype s.pair s.shots f.pair_fits f.agrees),
      ap length f.text,
    )

same_data : (s t : ShotData) → s.unit ≡ t.unit → s.pair ≡ t.pair → s.shots ≡ t.shots → s ≡ t
same_data s t p q r =
    ap (λ (u : ℕ). let d : ShotData = record { unit = u; pair = s.pair; shots = s.shots } in d) p
    ∙ (ap (λ (o : Option Pair). let d : ShotData = record { unit = t.unit; pair = o; shots = s.shots } in d) q
    ∙ ap (λ (zs : List Trapezoid). let d : ShotData = record { unit = t.unit; pair = t.pair; shots = zs } in d) r)

given_back : (bytes : List ℕ) (s : ShotData) → IsTextFile bytes s.unit s.pair s.shots → length bytes ≤ 268435456 → IsGivenBack s (packed_of s)
given_back bytes s f short = record {
  taken = λ c name held. record {
    bytes = packed_of s;
    held = held;
    short = omega (arith, packed_short bytes s f, short);
    form = packed_is_file bytes s f short;
  };
  alone = λ c name other held h. (
      let same = one_content (held_as c name) h.bytes (packed_of s) h.held held in
      let one = one_file (packed_of s) other.unit s.unit other.pair s.pair other.shots s.shots
      (subst (λ (text : List ℕ). IsPackedText text other.unit other.pair other.shots) same h.form.stands) (packed_stands bytes s f) in
      same_data other s one.0 one.1 one.2
      );
}

module _ (tells : Bool) (b m a : Content) (o p q : Counts) (words : List (List ℕ)) (s : Status) (top : Option (List ℕ))
    (h : Ends tells b m a o p q words s top) where
  finished : (layout deck : List ℕ) → IsFracture words layout deck → s ≡ answers.Done → Finished tells b a layout deck
  finished layout deck is e =
      let given = done_given (IsFractured tells (run_of b m o p)) (run_of b m o p) layout deck s top
      (answer_for tells (run_of b m o p) words s top h.table (Fracture layout deck) is) e in
      record {
        input = given.input;
        holds = given.holds;
        done = subst (λ (c : Content). IsDone tells (with_left b []) c given.input) (sym (h.done e))
            (made_done tells (with_left b []) m (Rose o.write_faults p.write_faults) (Rose o.refused p.refused) given.input s given.is e);
      }

  covers : Covers (run_of b a o q) words s
  covers layout deck is e =
      let f = finished layout deck is e in (
        f.input,
        f.holds,
        covered_then tells f.input b f.done.whole a f.done.sums (report_on f.input f.done.sums) h.told
            (input_rules b layout deck f.input f.holds) f.done.written f.done.said,
      )

  economy : Spares (run_of b a o q) words s
  economy layout deck is e =
      let f = finished layout deck is e in
      let economic = all_economic tells f.input (with_left b []) f.done.whole f.done.sums h.told (input_rules b layout deck f.input f.holds) f.done.written in
      (f.input, f.holds, subst (λ files. AreEconomic files f.input) (sym (ap (λ (c : Content). c.made) f.done.said)) economic)

  packs : Packs (run_of b a o q) words s
  packs file out is e =
      let x = done_is (packing_command out) (run_of b m o p) file s (answer_for tells (run_of b m o p) words s top h.table (Pack file out) is) e in
      (x.0, x.1, packed_shots x.0, packed_stands x.1.bytes x.0 x.1.form, h.done e ∙ x.2, given_back x.1.bytes x.0 x.1.form x.1.short)

  unpacks : Unpacks (run_of b a o q) words s
  unpacks file out is e =
      let x = done_is (unpacking_command out) (run_of b m o p) file s (answer_for tells (run_of b m o p) words s top h.table (Unpack file out) is) e in
      (x.0, x.1, h.done e ∙ x.2)

  splits : Splits (run_of b a o q) words s
  splits size file out is e =
      let x = done_is (splitting_command (pos size) out) (run_of b m o p) file s
      (answer_for tells (run_of b m o p) words s top h.table (Split size file out) is) e in
      let sized : IsFieldSize (pos size) = record { least = omega (arith, ints, is.number.from); most = omega (arith, ints, is.number.to) } in (
        x.0,
        x.1,
        record { made = x.2.made; text = x.2.text; all = x.2.all; said = h.done e ∙ x.2.said },
        lists_keep (pos size) sized x.0.shots x.1.holds.form.legal x.2.all.first x.2.all.lists x.2.all.stripes,
      )

  generates : Generates (run_of b a o q) words s
  generates n file is e = h.done e ∙ ended_done _ _ _ _ s (answer_for tells (run_of b m o p) words s top h.table (Generate n file) is) e

  pub coverage : Coverage (run_of b a o q) words s
  coverage = record { cover = covers; economy = economy; packed = packs; unpacked = unpacks; split = splits; generated = generates }

  pub certifies : Certifies (run_of b a o q) words s
  certifies layout deck is e = certified (run_of b m o p) layout deck s top (answer_for tells (run_of b m o p) words s top h.table (Check layout deck) is) e

  -- ---- what was said

  reported : (layout deck : List ℕ) → IsFracture words layout deck → s ≡ answers.Done → (input : Input) × HoldsInput b layout deck input × IsReported b a input
  reported layout deck is e =
      let f = finished layout deck is e in
      let summed = all_summed tells f.input (with_left b []) f.done.whole f.done.sums h.told (input_rules b layout deck f.input f.holds) f.done.written in (
        f.input,
        f.holds,
        record {
          sums = f.done.sums;
          summed = subst (λ files. AreSummed files f.input f.done.sums) (sym (ap (λ (c : Content). c.made) f.done.said)) summed;
          said = ap (λ (c : Content). c.said) f.done.said
              ∙ ap (λ t. t ++ report_on f.input f.done.sums) (written_said tells f.input b f.done.whole f.done.sums h.told f.done.written);
        },
      )

  exactly_reported : (layout deck : List ℕ) → IsCheck words layout deck → s ≡ answers.Done → (input : Input)
      × HoldsInput b layout deck input × IsExactReported b a input
  exactly_reported layout deck is e =
      let x = done_exactly (run_of b m o p) layout deck s top (answer_for tells (run_of b m o p) words s top h.table (Check layout deck) is) e in (
        x.input,
        x.holds,
        record {
          sums = x.reported.sums;
          summed = exact_summed x.input b x.reported.sums x.reported.exact;
          said = ap (λ (c : Content). c.said) (h.done e) ∙ ap (λ (c : Content). c.said) x.reported.said;
        },
      )

  pub reports : Reports (run_of b a o q) words s
  reports = record { fracture = reported; check = exactly_reported }

  pub lists : Lists (run_of b a o q) words s
  lists file is e =
      let x = done_is listing_command (run_of b m o p) file s (answer_for tells (run_of b m o p) words s top h.table (Shots file) is) e in
      (x.0, x.1, h.done e ∙ x.2)

  pub tabulates : Tabulates (run_of b a o q) words s
  tabulates size layout deck is e =
      let x = density_done (run_of b m o p) (pos size) layout deck s top
      (answer_for tells (run_of b m o p) words s top h.table (Density size layout deck) is) e in
      (x.0, x.1, subst (λ (c : Content). AreTablesSaid (with_left b []) c (pos size) x.0) (sym (h.done e)) x.2)

-- ---- what was counted

reads_told : (o p q : Counts) (s : Status) → CountsFor o p s → q.read_faults ≡ p.read_faults → p.refused ≤ q.refused → s ≢ answers.ReadFault
    → (q.read_faults ≡ o.read_faults) ⊎ ((s ≡ answers.NoMemory) × Rose o.refused q.refused)
reads_told o p q answers.Done c same later n = inl (same ∙ ap (λ (x : Counts). x.read_faults) c)
reads_told o p q answers.Words c same later n = inl (same ∙ ap (λ (x : Counts). x.read_faults) c)
reads_told o p q (answers.Deck fault) c same later n = inl (same ∙ ap (λ (x : Counts). x.read_faults) c)
reads_told o p q (answers.Layout fault) c same later n = inl (same ∙ ap (λ (x : Counts). x.read_faults) c)
reads_told o p q answers.ReadFault c same later n = absurd (n refl)
reads_told o p q answers.WriteFault c same later n = inl (same ∙ c)
reads_told o p q answers.NoMemory (inl rose) same later n = inr (refl, Rose-earlier o.refused p.refused q.refused rose later)
reads_told o p q answers.NoMemory (inr c) same later n = inl (same ∙ ap (λ (x : Counts). x.read_faults) c)
reads_told o p q (answers.No place fault) c same later n = inl (same ∙ ap (λ (x : Counts). x.read_faults) c)

both_never : (o p q : Counts) → NeverFall o p → NeverFall p q → NeverFall o q
both_never o p q h k = record {
  read_faults = omega (arith, h.read_faults, k.read_faults);
  write_faults = omega (arith, h.write_faults, k.write_faults);
  refused = omega (arith, h.refused, k.refused);
}

pub faults_told : (o p q : Counts) (tells : Type 0) (s : Status) → CountsFor o p s → NeverFall o p → NeverFall p q
    → q.read_faults ≡ p.read_faults → (s ≡ answers.Done → q ≡ p)
    → (s ≡ answers.ReadFault → Rose o.read_faults p.read_faults ⊎ tells)
    → (s ≡ answers.WriteFault → Rose o.write_faults p.write_faults) → FaultsTold o q tells s
faults_told o p q tells s c earlier later same done read write = record {
  done = λ e. done e ∙ subst (λ (x : Status). CountsFor o p x) e c;
  reads = reads_told o p q s c same later.refused;
  read_fault = λ e. elim (read e) [
    | inl rose ↦ inl (Rose-earlier o.read_faults p.read_faults q.read_faults rose later.read_faults)
    | inr holds ↦ inr holds
  ];
  write_fault = λ e. Rose-earlier o.write_faults p.write_faults q.write_faults (write e) later.write_faults;
  never_fall = both_never o p q earlier later;
}
