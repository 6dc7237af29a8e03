-- A packed shot file says one thing, and has no fault.
use Rattle.std.proofs.Common.{◌≡◌, ◌≢◌, ◌⊎◌, ℕ, suc, ◌+◌, ◌≤◌, List, [], ◌∷◌, ◌++◌, map, length, take, drop, Option}
use Rattle.std.proofs.Common.{Some, None, All, refl, arith, ap, sym, subst, ◌∙◌, inl, inr, append_assoc, length-append}
use Rattle.std.specs.Prelude.{flat_map, Result, Ok, Err, IfOk}
use Rattle.std.proofs.lemmas.List.Sums.{sum_by-append}
use Rattle.std.proofs.Math.Seq.{take-append_seam, drop-append_seam}
use Rattle.geo_stream.specs.Refusals.{IfFault}
use Rattle.geo_stream.specs.declared.refusal.Refusal.{Refusal}
use Rattle.geo_stream.specs.declared.refusal.Refusal.TheVariants.{Fault, NoMemory}
use Rattle.half_grid.specs.Trapezoids.{Trapezoid, IsShot}
use Rattle.layout_model.specs.declared.pair.Pair.{Pair}
use Rattle.oas_lex.specs.ShotText.{head, end, fields_of}
use Rattle.oas_lex.specs.declared.fields.ShotFields.{ShotFields}
use Rattle.oas_lex.proofs.ForCallers.{head_peel, shot_names}
use Rattle.shot_reader.specs.Reading.{IsPairOf, AgreesWithPair}
use Rattle.shot_reader.proofs.ForCallers.{unit_small}
use Rattle.shot_repeat.specs.Packed.{IsPackedText, IsPackedFile, HasFew, most_of_file}
use Rattle.shot_repeat.specs.Records.{IsNarrow, record_text}
use Rattle.shot_repeat.specs.Refusals.{HasFirstPair, count_given, AreRight, ArePackRecordsReadUpTo, IsFirstPackFault}
use Rattle.shot_repeat.specs.Values.{fields_in, shot_count, step_of, given, all_given, AreDefined}
use Rattle.shot_repeat.specs.declared.record.PackRecord.{PackRecord}
use Rattle.shot_repeat.specs.declared.refusing.PackBad.{PackBad}
use Rattle.shot_repeat.proofs.Gifts.{length_moved, length_map, some_given, first_given, halves, all_front, all_rest}
use Rattle.shot_repeat.proofs.Rights.{no_fault, one_fault}
use Rattle.shot_repeat.proofs.Unique.{one_list, narrow_rest}

-- ---- the shots are one list

shots_by : (l d m e : ℕ) (ys zs : List Trapezoid) → All IsShot ys → All IsShot zs → map (fields_of l d) ys ≡ map (fields_of m e) zs → ys ≡ zs
shots_by l d m e [] [] h g w = refl
shots_by l d m e [] (z ∷ zs) h g w = absurd (cc)
shots_by l d m e (y ∷ ys) [] h g w = absurd (cc)
shots_by l d m e (y ∷ ys) (z ∷ zs) h g w =
    let first : fields_of l d y ≡ fields_of m e z = cc in
    let others : map (fields_of l d) ys ≡ map (fields_of m e) zs = cc in
    let one : y ≡ z = shot_names y z (h 0 y (omega arith)) (g 0 z (omega arith))
    (ap (λ (f : ShotFields). f.width) first) (ap (λ (f : ShotFields). f.height) first)
    (ap (λ (f : ShotFields). f.left_delta) first) (ap (λ (f : ShotFields). f.right_delta) first)
    (ap (λ (f : ShotFields). f.x) first) (ap (λ (f : ShotFields). f.y) first) in
    let rest = shots_by l d m e ys zs (λ k x below. h (suc k) x (omega arith)) (λ k x below. g (suc k) x (omega arith)) others in
    ap (λ (t : Trapezoid). t ∷ ys) one ∙ ap (λ (t : List Trapezoid). z ∷ t) rest

pairs_by : (l d m e : ℕ) (ys zs : List Trapezoid) → map (fields_of l d) ys ≡ map (fields_of m e) zs → ys ≢ [] → (l ≡ m) × (d ≡ e)
pairs_by l d m e [] zs w h = absurd (h refl)
pairs_by l d m e (y ∷ ys) [] w h = absurd (cc)
pairs_by l d m e (y ∷ ys) (z ∷ zs) w h =
    let first : fields_of l d y ≡ fields_of m e z = cc in
    (ap (λ (f : ShotFields). f.layer) first, ap (λ (f : ShotFields). f.datatype) first)

pair : ℕ → ℕ → Pair
pair layer datatype = record { layer = layer; datatype = datatype }

pair_by : (a b c d : ℕ) → a ≡ c → b ≡ d → pair a b ≡ pair c d
pair_by a b c d p q = rw (p, q) refl

same_pair : (p q : Pair) → p.layer ≡ q.layer → p.datatype ≡ q.datatype → p ≡ q
unfolding pair
same_pair p q a b = pair_by p.layer p.datatype q.layer q.datatype a b

pair_one : (l d m e : ℕ) (first other : Option Pair) (ys zs : List Trapezoid) → IsPairOf first ys → IsPairOf other zs
    → AgreesWithPair first l d → AgreesWithPair other m e → ys ≡ zs → (ys ≢ [] → (l ≡ m) × (d ≡ e)) → first ≡ other
pair_one l d m e None None ys zs i j a b s h = refl
pair_one l d m e None (Some q) ys zs i j a b s h = absurd (j.0 (sym s ∙ i))
pair_one l d m e (Some p) None ys zs i j a b s h = absurd (i.0 (s ∙ j))
pair_one l d m e (Some p) (Some q) ys zs i j a b s h = ap Some (same_pair p q (a.0 ∙ ((h i.0).0 ∙ sym b.0)) (a.1 ∙ ((h i.0).1 ∙ sym b.1)))

text_is : (bytes : List ℕ) (unit : ℕ) (records : List PackRecord)
    → bytes ≡ head unit ++ flat_map record_text records ++ end
    → bytes ≡ head unit ++ (flat_map record_text records ++ end)
text_is bytes unit records e = e ∙ append_assoc (head unit) (flat_map record_text records) end

-- the same bytes say the same
pub one_file : (bytes : List ℕ) (unit other_unit : ℕ) (first other : Option Pair) (ys zs : List Trapezoid)
    → IsPackedText bytes unit first ys → IsPackedText bytes other_unit other zs
    → (unit ≡ other_unit) × (first ≡ other) × (ys ≡ zs)
one_file bytes unit other_unit first other ys zs f g =
    let whole = head_peel unit other_unit (flat_map record_text f.records ++ end)
    (flat_map record_text g.records ++ end) (unit_small unit f.unit_fits) (unit_small other_unit g.unit_fits)
    (sym (text_is bytes unit f.records f.text) ∙ text_is bytes other_unit g.records g.text) in
    let records = one_list f.records g.records f.narrow g.narrow whole.1 in
    let shots : map (fields_of f.layer f.datatype) ys ≡ map (fields_of g.layer g.datatype) zs =
    f.shots_given ∙ (ap (all_given []) records ∙ sym g.shots_given) in
    let same = shots_by f.layer f.datatype g.layer g.datatype ys zs f.legal g.legal shots in (
      whole.0,
      pair_one f.layer f.datatype g.layer g.datatype first other ys zs f.pair_fits g.pair_fits f.agrees
          g.agrees same (pairs_by f.layer f.datatype g.layer g.datatype ys zs shots),
      same,
    )

-- ---- the records of a file are right

-- the pair of the first record is this one
abbrev IsFirst : List PackRecord → ℕ → ℕ → Type 0
IsFirst [] l d = Unit {0}
IsFirst (b ∷ before) l d = ((fields_in [] b).layer ≡ l) × ((fields_in [] b).datatype ≡ d)

first_has : (before : List PackRecord) (r : PackRecord) (l d : ℕ) → IsFirst before l d → l ≡ (fields_in before r).layer
    → d ≡ (fields_in before r).datatype → HasFirstPair before r
first_has [] r l d h e f = tt
first_has (b ∷ before) r l d h e f = (h.0 ∙ e, h.1 ∙ f)

first_next : (before : List PackRecord) (r : PackRecord) (l d : ℕ) → IsFirst before l d
    → l ≡ (fields_in before r).layer → d ≡ (fields_in before r).datatype → IsFirst (before ++ r ∷ []) l d
first_next [] r l d h e f = (sym e, sym f)
first_next (b ∷ before) r l d h e f = h

are_by : (f : ShotFields) (l d : ℕ) (zs : List Trapezoid) (gs : List ShotFields) → l ≡ f.layer → d ≡ f.datatype
    → map (fields_of l d) zs ≡ gs → map (fields_of f.layer f.datatype) zs ≡ gs
are_by f l d zs gs e g h = ap (λ (n : ℕ). map (fields_of n f.datatype) zs) (sym e) ∙ (ap (λ (n : ℕ). map (fields_of l n) zs) (sym g) ∙ h)

few_more : (before : List PackRecord) (r : PackRecord) → count_given (before ++ r ∷ []) ≡ count_given before + shot_count r.repetition
few_more before r = omega (arith, sum_by-append (λ (s : PackRecord). shot_count s.repetition) before (r ∷ []))

rights : (before records : List PackRecord) (l d : ℕ) (shots : List Trapezoid) → All IsNarrow records
    → AreDefined before records → All HasFew records → All IsShot shots
    → map (fields_of l d) shots ≡ all_given before records → IsFirst before l d → count_given before + length shots ≤ most_of_file → AreRight before records
rights before [] l d shots n defined few legal are first all = tt
rights before (r ∷ rest) l d shots n defined few legal are first all =
    let two = halves (fields_of l d) shots (given before r) (all_given (before ++ r ∷ []) rest) are in
    let pairs = first_given (fields_in before r) (step_of r.repetition) 0 (shot_count r.repetition) l d two.front (some_given r.repetition) two.fronts in
    let whole : All IsShot (two.front ++ two.rest) = subst (λ (t : List Trapezoid). All IsShot t) two.split legal in
    let size : length two.front ≡ shot_count r.repetition = sym (length_map (fields_of l d) two.front)
    ∙ (ap length two.fronts ∙ length_moved (fields_in before r) (step_of r.repetition) 0
    (shot_count r.repetition)) in
    let sum = ap length two.split ∙ length-append two.front two.rest in (
      record {
        narrow = n 0 r (omega arith);
        defined = defined.0;
        pair = first_has before r l d first pairs.0 pairs.1;
        few = record { own = few 0 r (omega arith); all = omega (arith, all, sum, size) };
        legal = record {
          shots = two.front;
          legal = all_front IsShot two.front two.rest whole;
          are = are_by (fields_in before r) l d two.front (given before r) pairs.0 pairs.1 two.fronts;
        };
      },
      rights (before ++ r ∷ []) rest l d two.rest (narrow_rest r rest n) defined.1
          (λ k x below. few (suc k) x (omega arith)) (all_rest IsShot two.front two.rest whole) two.rests
          (first_next before r l d first pairs.0 pairs.1)
          (omega (arith, all, sum, size, few_more before r)),
    )

-- what stands before END
front_of : ℕ → List PackRecord → List ℕ
front_of unit records = head unit ++ flat_map record_text records

pub file_up : (bytes : List ℕ) (unit : ℕ) (first : Option Pair) (shots : List Trapezoid)
    (f : IsPackedFile bytes unit first shots) → (at : ℕ) × ArePackRecordsReadUpTo bytes at f.stands.records × (drop at bytes ≡ end)
unfolding front_of
file_up bytes unit first shots f =
    let s = f.stands in
    let front = front_of unit s.records in (
      length front,
      record {
        within = omega (arith, ap length s.text, length-append front end);
        unit = unit;
        unit_fits = s.unit_fits;
        right = rights [] s.records s.layer s.datatype shots s.narrow s.defined f.few_each s.legal s.shots_given tt (omega (arith, f.few));
        text = ap (take (length front)) s.text ∙ take-append_seam front end;
      },
      ap (drop (length front)) s.text ∙ drop-append_seam front end,
    )

pub file_right : (bytes : List ℕ) (unit : ℕ) (first : Option Pair) (shots : List Trapezoid) (bad : PackBad)
    → IsPackedFile bytes unit first shots → IsFirstPackFault bytes bad → ⊥
file_right bytes unit first shots bad f fault =
    let up = file_up bytes unit first shots f in no_fault bytes up.0 f.stands.records bad up.1 up.2 fault

pub told : {T : Type 0} (bytes : List ℕ) (own : PackBad) (result : Result T (Refusal PackBad)) → result ≡ Err (Fault own)
    → IsFirstPackFault bytes own → (bad : PackBad) → IsFirstPackFault bytes bad → (result ≡ Err (Fault bad))
    ⊎ (result ≡ Err NoMemory)
told {T} bytes own result e f bad w =
    let wrong : PackBad → Result T (Refusal PackBad) = λ b. Err (Fault b) in
    inl (e ∙ ap wrong (one_fault bytes own bad f w))

-- the same of an answer, which is no fault where the bytes have none
pub told_of : {T : Type 0} (P : T → Type 0) (bytes : List ℕ) (result : Result T (Refusal PackBad))
    → ((x : T) → P x → (bad : PackBad) → IsFirstPackFault bytes bad → ⊥) → IfOk result P
    → IfFault result (IsFirstPackFault bytes) → (bad : PackBad) → IsFirstPackFault bytes bad
    → (result ≡ Err (Fault bad)) ⊎ (result ≡ Err NoMemory)
told_of {T} P bytes (Ok x) none found refused bad w = absurd (none x found bad w)
told_of {T} P bytes (Err (Fault own)) none found refused bad w = told bytes own (Err (Fault own)) refl refused bad w
told_of {T} P bytes (Err NoMemory) none found refused bad w = inr refl
