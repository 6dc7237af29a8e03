-- What the file of an output is falls into classes, of which just one holds. So just one file is the first that isn't
-- exact.
use Rattle.std.proofs.Common.{pos, ◌≡◌, ◌≢◌, ◌⊎◌, inl, inr, ℕ, ◌<◌, List, length, Option, Some, None, IsSomeAnd}
use Rattle.std.proofs.Common.{slice_get, get_or, refl, sym, ap, subst, ◌∙◌, arith}
use Rattle.std.proofs.lemmas.Int.{ints, by_lt_z}
use Rattle.std.proofs.lemmas.Option.{none-some, same_Some, slice_get-get_or, slice_get_within}
use Rattle.half_grid.specs.Trapezoids.{Trapezoid}
use Rattle.depot.specs.Content.{Content, IsNotThere, IsLongerThan}
use Rattle.depot.proofs.ForCallers.{longer_there}
use Rattle.layout_model.specs.declared.pair.Pair.{Pair}
use Rattle.deck_text.specs.declared.deck.Output.{Output}
use Rattle.deck_plan.specs.Plans.{Planned, planned_area}
use Rattle.shot_reader.specs.Refusals.{IsFirstShotFault}
use Rattle.shot_reader.specs.declared.refusing.ShotBad.{ShotBad}
use Rattle.shot_reader.proofs.ForCallers.{file_right, one_fault}
use Rattle.shot_reader.proofs.ForCallers.{one_file}
use Rattle.shot_writer.specs.declared.parts.Sums.{Sums}
use Rattle.shot_checker.specs.Verdicts.{IsFirstTooLarge}
use Rattle.shot_checker.specs.declared.verdicts.Verdict.{Verdict}
use Rattle.shot_checker.specs.declared.verdicts.Verdict.TheVariants.{Exact, Miscovered, TooLarge}
use Rattle.file_check.specs.Certificates.{IsCertified, IsMiscover}
use Rattle.file_check.proofs.Certifying.{one_fault as one_miscover, not_covered, not_all_fit}
use Rattle.file_check.specs.Files.{ShotData, IsTextOf, HasHeadOf, HasOtherHead, HasShots, HoldsShotBytes, IsExactFile}
use Rattle.file_check.specs.Files.{IsCheckFaultOf, OfOutput, AreExactFiles, IsFileFault, IsFirstFileFault}
use Rattle.file_check.specs.declared.faults.CheckFault.{CheckFault}
use Rattle.file_check.specs.declared.faults.CheckFault.TheVariants as faults
use Rattle.file_check.specs.declared.faults.CheckBad.TheVariants as answers

-- ---- what a name holds

one_content : (c : Content) (name a b : List ℕ) → HoldsShotBytes c name a → HoldsShotBytes c name b → a ≡ b
one_content c name a b h g = same_Some a b (sym h.held ∙ g.held)

there : (c : Content) (name bytes : List ℕ) → HoldsShotBytes c name bytes → IsNotThere c name → ⊥
there c name bytes h missing = none-some bytes (sym missing ∙ h.held)

fits : (c : Content) (name bytes : List ℕ) → HoldsShotBytes c name bytes → IsLongerThan 268435456 c name → ⊥
fits c name bytes h long =
    let above : 268435456 < length bytes = subst (λ (held : Option (List ℕ)). IsSomeAnd held (λ bs. 268435456 < length bs)) h.held long in
    let below = h.short in
    omega arith

-- ---- the classes

-- It isn't there, has more bytes than the limit, has a first fault, has another head, or is a shot file whose shots have a
-- verdict, which may be Exact.
pub data Class : Type 0 where
  Missing : Class
  TooLong : Class
  Faulty : ShotBad → Class
  OtherHead : Class
  Judged : Verdict → Class

-- what a verdict says of shots of output k
abbrev pub IsVerdictOn : Planned → ℕ → List Trapezoid → Verdict → Type 0
IsVerdictOn p k shots Exact = IsCertified p k shots
IsVerdictOn p k shots (Miscovered t count wanted) = IsMiscover p k shots t count wanted
IsVerdictOn p k shots (TooLarge i) = IsFirstTooLarge shots p.deck.limits i

-- the bytes are the text of shots with this verdict
pub record IsJudged (p : Planned) (k : ℕ) (output : Output) (bytes : List ℕ) (verdict : Verdict) : Type 0 where
  pub s : ShotData
  pub text : IsTextOf bytes s
  pub head : HasHeadOf p.deck output s
  pub verdict_is : IsVerdictOn p k s.shots verdict

abbrev pub IsClass : Planned → ℕ → Output → Content → Class → Type 0
IsClass p k output c Missing = IsNotThere c output.file
IsClass p k output c TooLong = IsLongerThan 268435456 c output.file
IsClass p k output c (Faulty bad) = (bytes : List ℕ) × HoldsShotBytes c output.file bytes × IsFirstShotFault bytes bad
IsClass p k output c OtherHead = (bytes : List ℕ) × HoldsShotBytes c output.file bytes × HasOtherHead p output bytes
IsClass p k output c (Judged verdict) = (bytes : List ℕ) × HoldsShotBytes c output.file bytes × IsJudged p k output bytes verdict

-- ---- shots have one verdict

one_too_large : (shots : List Trapezoid) (p : Planned) (i j : ℕ) → IsFirstTooLarge shots p.deck.limits i → IsFirstTooLarge shots p.deck.limits j → i ≡ j
one_too_large shots p i j h g =
    by_lt_z (pos i) (pos j)
    (λ lt. absurd (h.too_large (g.before_fit i h.shot (omega (arith, ints, lt)) h.at)))
    (λ le. by_lt_z (pos j) (pos i)
    (λ lt. absurd (g.too_large (h.before_fit j g.shot (omega (arith, ints, lt)) g.at)))
    (λ ge. omega (arith, ints, le, ge)))

module _ (p : Planned) (k : ℕ) (shots : List Trapezoid) where
  one_verdict : (x y : Verdict) → IsVerdictOn p k shots x → IsVerdictOn p k shots y → x ≡ y
  one_verdict Exact Exact h g = refl
  one_verdict Exact (Miscovered t count wanted) h g = absurd (not_covered (planned_area p k) shots t count wanted g.fault h.covers)
  one_verdict Exact (TooLarge i) h g = absurd (not_all_fit p.deck.limits shots i g h.fit)
  one_verdict (Miscovered t count wanted) Exact h g = absurd (not_covered (planned_area p k) shots t count wanted h.fault g.covers)
  one_verdict (Miscovered t count wanted) (Miscovered u m n) h g = one_miscover (planned_area p k) shots t u count wanted m n h.fault g.fault
  one_verdict (Miscovered t count wanted) (TooLarge i) h g = absurd (not_all_fit p.deck.limits shots i g h.fit)
  one_verdict (TooLarge i) Exact h g = absurd (not_all_fit p.deck.limits shots i h g.fit)
  one_verdict (TooLarge i) (Miscovered t count wanted) h g = absurd (not_all_fit p.deck.limits shots i h g.fit)
  one_verdict (TooLarge i) (TooLarge j) h g = ap TooLarge (one_too_large shots p i j h g)

-- ---- just one class holds

one_data : (bytes : List ℕ) (s t : ShotData) → IsTextOf bytes s → IsTextOf bytes t → s ≡ t
one_data bytes s t h g =
    let same = one_file bytes s.unit t.unit s.pair t.pair s.shots t.shots h g in
    ap (λ (u : ℕ). record { unit = u; pair = s.pair; shots = s.shots }) same.0
    ∙ ap (λ (p : Option Pair). record { unit = t.unit; pair = p; shots = s.shots }) same.1
    ∙ ap (λ (z : List Trapezoid). record { unit = t.unit; pair = t.pair; shots = z }) same.2

module _ (p : Planned) (k : ℕ) (output : Output) (c : Content) where
  same_bytes : (a b : List ℕ) → HoldsShotBytes c output.file a → HoldsShotBytes c output.file b → a ≡ b
  same_bytes a b h g = one_content c output.file a b h g

  fault_fault : (a b : List ℕ) (bad other : ShotBad) → a ≡ b → IsFirstShotFault a bad → IsFirstShotFault b other → bad ≡ other
  fault_fault a b bad other e f g = one_fault b bad other (subst (λ (bs : List ℕ). IsFirstShotFault bs bad) e f) g

  fault_head : (a b : List ℕ) (bad : ShotBad) → a ≡ b → IsFirstShotFault a bad → HasOtherHead p output b → ⊥
  fault_head a b bad e f g = file_right b g.s.unit g.s.pair g.s.shots bad g.text (subst (λ (bs : List ℕ). IsFirstShotFault bs bad) e f)

  fault_judged : (a b : List ℕ) (bad : ShotBad) (verdict : Verdict) → a ≡ b → IsFirstShotFault a bad → IsJudged p k output b verdict → ⊥
  fault_judged a b bad verdict e f g = file_right b g.s.unit g.s.pair g.s.shots bad g.text (subst (λ (bs : List ℕ). IsFirstShotFault bs bad) e f)

  head_judged : (a b : List ℕ) (verdict : Verdict) → a ≡ b → HasOtherHead p output a → IsJudged p k output b verdict → ⊥
  head_judged a b verdict e f g =
      let same : g.s ≡ f.s = one_data a g.s f.s (subst (λ (bs : List ℕ). IsTextOf bs g.s) (sym e) g.text) f.text in
      f.other (subst (HasHeadOf p.deck output) same g.head)

  judged_judged : (a b : List ℕ) (x y : Verdict) → a ≡ b → IsJudged p k output a x → IsJudged p k output b y → x ≡ y
  judged_judged a b x y e f g =
      let same : g.s ≡ f.s = one_data a g.s f.s (subst (λ (bs : List ℕ). IsTextOf bs g.s) (sym e) g.text) f.text in
      one_verdict p k f.s.shots x y f.verdict_is (subst (λ (s : ShotData). IsVerdictOn p k s.shots y) same g.verdict_is)

  pub one_class : (x y : Class) → IsClass p k output c x → IsClass p k output c y → x ≡ y
  one_class Missing Missing h g = refl
  one_class Missing TooLong h g = absurd (longer_there 268435456 c output.file h g)
  one_class Missing (Faulty bad) h g = absurd (there c output.file g.0 g.1 h)
  one_class Missing OtherHead h g = absurd (there c output.file g.0 g.1 h)
  one_class Missing (Judged verdict) h g = absurd (there c output.file g.0 g.1 h)
  one_class TooLong Missing h g = absurd (longer_there 268435456 c output.file g h)
  one_class TooLong TooLong h g = refl
  one_class TooLong (Faulty bad) h g = absurd (fits c output.file g.0 g.1 h)
  one_class TooLong OtherHead h g = absurd (fits c output.file g.0 g.1 h)
  one_class TooLong (Judged verdict) h g = absurd (fits c output.file g.0 g.1 h)
  one_class (Faulty bad) Missing h g = absurd (there c output.file h.0 h.1 g)
  one_class (Faulty bad) TooLong h g = absurd (fits c output.file h.0 h.1 g)
  one_class (Faulty bad) (Faulty other) h g = ap Faulty (fault_fault h.0 g.0 bad other (same_bytes h.0 g.0 h.1 g.1) h.2 g.2)
  one_class (Faulty bad) OtherHead h g = absurd (fault_head h.0 g.0 bad (same_bytes h.0 g.0 h.1 g.1) h.2 g.2)
  one_class (Faulty bad) (Judged verdict) h g = absurd (fault_judged h.0 g.0 bad verdict (same_bytes h.0 g.0 h.1 g.1) h.2 g.2)
  one_class OtherHead Missing h g = absurd (there c output.file h.0 h.1 g)
  one_class OtherHead TooLong h g = absurd (fits c output.file h.0 h.1 g)
  one_class OtherHead (Faulty bad) h g = absurd (fault_head g.0 h.0 bad (same_bytes g.0 h.0 g.1 h.1) g.2 h.2)
  one_class OtherHead OtherHead h g = refl
  one_class OtherHead (Judged verdict) h g = absurd (head_judged h.0 g.0 verdict (same_bytes h.0 g.0 h.1 g.1) h.2 g.2)
  one_class (Judged verdict) Missing h g = absurd (there c output.file h.0 h.1 g)
  one_class (Judged verdict) TooLong h g = absurd (fits c output.file h.0 h.1 g)
  one_class (Judged verdict) (Faulty bad) h g = absurd (fault_judged g.0 h.0 bad verdict (same_bytes g.0 h.0 g.1 h.1) g.2 h.2)
  one_class (Judged verdict) OtherHead h g = absurd (head_judged g.0 h.0 verdict (same_bytes g.0 h.0 g.1 h.1) g.2 h.2)
  one_class (Judged x) (Judged y) h g = ap Judged (judged_judged h.0 g.0 x y (same_bytes h.0 g.0 h.1 g.1) h.2 g.2)

-- ---- faults and exact files as classes

abbrev pub class_of : CheckFault → Class
class_of faults.Long = TooLong
class_of (faults.Bad bad) = Faulty bad
class_of faults.Head = OtherHead
class_of (faults.Miscovered t count wanted) = Judged (Miscovered t count wanted)
class_of (faults.TooLarge i) = Judged (TooLarge i)

-- the fault of a class that is one's
abbrev fault_of : Class → CheckFault
fault_of Missing = faults.Long
fault_of TooLong = faults.Long
fault_of (Faulty bad) = faults.Bad bad
fault_of OtherHead = faults.Head
fault_of (Judged Exact) = faults.Long
fault_of (Judged (Miscovered t count wanted)) = faults.Miscovered t count wanted
fault_of (Judged (TooLarge i)) = faults.TooLarge i

own_fault : (fault : CheckFault) → fault_of (class_of fault) ≡ fault
own_fault faults.Long = refl
own_fault (faults.Bad bad) = refl
own_fault faults.Head = refl
own_fault (faults.Miscovered t count wanted) = refl
own_fault (faults.TooLarge i) = refl

pub same_class : (x y : CheckFault) → class_of x ≡ class_of y → x ≡ y
same_class x y e = sym (own_fault x) ∙ (ap fault_of e ∙ own_fault y)

module _ (p : Planned) (k : ℕ) (output : Output) (c : Content) where
  judged_as : (bytes : List ℕ) (verdict : Verdict)
      → HasShots p output bytes (λ shots. IsVerdictOn p k shots verdict) → IsJudged p k output bytes verdict
  judged_as bytes verdict h = record { s = h.s; text = h.text; head = h.head; verdict_is = h.holds_of }

  pub fault_class : (fault : CheckFault) → IsCheckFaultOf p k output c fault → IsClass p k output c (class_of fault) × (class_of fault ≢ Judged Exact)
  fault_class faults.Long h = (h, λ e. let no : ⊥ = cc in no)
  fault_class (faults.Bad bad) h = (h, λ e. let no : ⊥ = cc in no)
  fault_class faults.Head h = (h, λ e. let no : ⊥ = cc in no)
  fault_class (faults.Miscovered t count wanted) h =
      ((h.0, h.1, judged_as h.0 (Miscovered t count wanted) h.2), λ e. let no : ⊥ = cc in no)
  fault_class (faults.TooLarge i) h = ((h.0, h.1, judged_as h.0 (TooLarge i) h.2), λ e. let no : ⊥ = cc in no)

  pub exact_class : (sums : Sums) → IsExactFile p k output c sums → IsClass p k output c (Judged Exact)
  exact_class sums h = let x = h.2 in (h.0, h.1, record { s = x.s; text = x.text; head = x.head; verdict_is = x.certified })

-- ---- the first file that isn't exact

-- each of the first n outputs has an exact file
abbrev pub AllClasses : Planned → Content → ℕ → Type 0
AllClasses p c n = (k : ℕ) (output : Output) → k < n → slice_get p.deck.outputs k ≡ Some output → IsClass p k output c (Judged Exact)

pub record IsFirstAt (p : Planned) (c : Content) (place : ℕ) (x : Class) : Type 0 where
  pub before : AllClasses p c place
  pub output : Output
  pub at : slice_get p.deck.outputs place ≡ Some output
  pub class : IsClass p place output c x
  pub not_exact : x ≢ Judged Exact

module _ (p : Planned) (c : Content) where
  not_before : (n : ℕ) (place : ℕ) (x : Class) → AllClasses p c n → IsFirstAt p c place x → place < n → ⊥
  not_before n place x all first less = first.not_exact (one_class p place first.output c x (Judged Exact) first.class (all place first.output less first.at))

  pub no_first : (place : ℕ) (x : Class) → AllClasses p c (length p.deck.outputs) → IsFirstAt p c place x → ⊥
  no_first place x all first = not_before (length p.deck.outputs) place x all first (slice_get_within p.deck.outputs place first.output first.at)

  pub one_first : (i j : ℕ) (x y : Class) → IsFirstAt p c i x → IsFirstAt p c j y → (i ≡ j) × (x ≡ y)
  one_first i j x y h g =
      by_lt_z (pos i) (pos j)
      (λ lt. absurd (not_before j i x g.before h (omega (arith, ints, lt))))
      (λ le. by_lt_z (pos j) (pos i)
      (λ lt. absurd (not_before i j y h.before g (omega (arith, ints, lt))))
      (λ ge. (let same : i ≡ j = omega (arith, ints, le, ge) in
      let output : h.output ≡ g.output = same_Some h.output g.output (sym h.at ∙ (ap (slice_get p.deck.outputs) same ∙ g.at)) in (
        same,
        one_class p j g.output c x y
            (subst (λ (k : ℕ). IsClass p k g.output c x) same (subst (λ (o : Output). IsClass p i o c x) output h.class))
            g.class,
      ))))

  at_output : (k : ℕ) (output : Output) (holds : Output → Type 0) → slice_get p.deck.outputs k ≡ Some output → OfOutput p k holds → holds output
  at_output k output holds at h = subst (λ (o : Option Output). IsSomeAnd o holds) at h

  -- the file of an output among the first n
  pub file_of_place : (n : ℕ) (sums : List Sums) → AreExactFiles p c n sums → (k : ℕ) (output : Output) → k < n → slice_get p.deck.outputs k ≡ Some output
      → (sum : Sums) × (slice_get sums k ≡ Some sum) × IsExactFile p k output c sum
  file_of_place n sums h k output less at =
      let none : Sums = record { shots = 0; triangles = 0 } in
      let sum = get_or sums k none in
      let found : slice_get sums k ≡ Some sum = slice_get-get_or sums k none (let count = h.count in omega (arith, count, less)) in
      (sum, found, at_output k output (λ o. IsExactFile p k o c sum) at (h.each k sum found))

  pub all_classes : (n : ℕ) (sums : List Sums) → AreExactFiles p c n sums → AllClasses p c n
  all_classes n sums h k output less at = let file = file_of_place n sums h k output less at in exact_class p k output c file.0 file.2

  -- the output of a place of which something holds
  found : (k : ℕ) (o : Option Output) (holds : Output → Type 0) → slice_get p.deck.outputs k ≡ o → IsSomeAnd o holds
      → (output : Output) × (slice_get p.deck.outputs k ≡ Some output) × holds output
  found k (Some output) holds at h = (output, at, h)
  found k None holds at h = absurd h

  -- the files before a place are exact, and this is why the file there isn't
  pub record RefusedFile (place : ℕ) (fault : CheckFault) : Type 0 where
    pub sums : List Sums
    pub before : AreExactFiles p c place sums
    pub output : Output
    pub at : slice_get p.deck.outputs place ≡ Some output
    pub fault_is : IsCheckFaultOf p place output c fault

  pub refused_file : (read_rose : Type 0) (place : ℕ) (fault : CheckFault)
      → IsFirstFileFault p c read_rose (answers.Refused place fault) → RefusedFile place fault
  refused_file read_rose place fault h =
      let f = found h.place (slice_get p.deck.outputs h.place)
      (λ output. IsFileFault p h.place output c read_rose (answers.Refused place fault)) refl h.fault in
      subst (λ (k : ℕ). RefusedFile k fault) (sym f.2.0) (record { sums = h.sums; before = h.before; output = f.0; at = f.1; fault_is = f.2.1 })

  pub fault_first : (read_rose : Type 0) (place : ℕ) (fault : CheckFault)
      → IsFirstFileFault p c read_rose (answers.Refused place fault) → IsFirstAt p c place (class_of fault)
  fault_first read_rose place fault h =
      let f = refused_file read_rose place fault h in
      let class = fault_class p place f.output c fault f.fault_is in
      record { before = all_classes place f.sums f.before; output = f.output; at = f.at; class = class.0; not_exact = class.1 }

  -- the files before a place are exact, and the file there isn't there
  pub record MissingFile : Type 0 where
    pub place : ℕ
    pub sums : List Sums
    pub before : AreExactFiles p c place sums
    pub output : Output
    pub at : slice_get p.deck.outputs place ≡ Some output
    pub missing : IsNotThere c output.file

  pub missing_file : (read_rose : Type 0) → IsFirstFileFault p c read_rose answers.ReadFault → read_rose ⊎ MissingFile
  missing_file read_rose h =
      let f = found h.place (slice_get p.deck.outputs h.place) (λ output. IsFileFault p h.place output c read_rose answers.ReadFault) refl h.fault in
      elim f.2 [
        | inl rose ↦ inl rose
        | inr missing ↦ inr (record { place = h.place; sums = h.sums; before = h.before; output = f.0; at = f.1; missing = missing })
      ]

  pub missing_first : (m : MissingFile) → IsFirstAt p c m.place Missing
  missing_first m = record {
    before = all_classes m.place m.sums m.before;
    output = m.output;
    at = m.at;
    class =
        m.missing;
    not_exact = λ e. let no : ⊥ = cc in no;
  }
