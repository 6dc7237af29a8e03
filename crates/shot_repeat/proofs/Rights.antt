-- Lists of records with which nothing is wrong: what follows them, and where they end.
use Rattle.std.proofs.Common.{◌≡◌, ℕ, ◌≤◌, List, [], ◌∷◌, ◌++◌, length, drop, All, refl, arith, ap, sym, subst, ◌∙◌, inl, inr, append_assoc}
use Rattle.std.specs.Prelude.{flat_map}
use Rattle.std.proofs.lemmas.List.{append-nil, take-append-drop, length-drop}
use Rattle.std.proofs.lemmas.List.Elements.{All-cons}
use Rattle.oas_lex.specs.ShotText.{head, end}
use Rattle.oas_lex.proofs.ForCallers.{head_peel}
use Rattle.shot_reader.proofs.ForCallers.{unit_small}
use Rattle.shot_repeat.specs.Packed.{HasFew}
use Rattle.shot_repeat.specs.Records.{IsNarrow, record_text}
use Rattle.shot_repeat.specs.Values.{AreDefined}
use Rattle.shot_repeat.specs.Refusals.{IsWholePackRecord, IsPackSpelled, IsRight, AreRight, IsPackValueFault, IsPackRecordFault, ArePackRecordsReadUpTo, IsFirstPackFault}
use Rattle.shot_repeat.specs.declared.record.PackRecord.{PackRecord}
use Rattle.shot_repeat.specs.declared.refusing.PackBad.{PackBad}
use Rattle.shot_repeat.specs.declared.refusing.PackBad.TheVariants as faults
use Rattle.shot_repeat.proofs.Unique.{one_record, more}
use Rattle.shot_repeat.proofs.Wholes.{text_whole, whole_not_end}

-- ---- one more record

pub right_more : (before rs : List PackRecord) (r : PackRecord) → AreRight before rs → IsRight (before ++ rs) r → AreRight before (rs ++ r ∷ [])
right_more before [] r h g = (subst (λ (b : List PackRecord). IsRight b r) (append-nil before) g, tt)
right_more before (s ∷ rs) r h g = (
  h.0,
  right_more (before ++ s ∷ []) rs r h.1
      (subst (λ (b : List PackRecord). IsRight b r) (sym (append_assoc before (s ∷ []) rs)) g),
)

pub right_narrow : (before rs : List PackRecord) → AreRight before rs → All IsNarrow rs
right_narrow before [] h = λ k d below. absurd (omega arith)
right_narrow before (r ∷ rs) h = All-cons IsNarrow r rs h.0.narrow (right_narrow (before ++ r ∷ []) rs h.1)

pub right_few : (before rs : List PackRecord) → AreRight before rs → All HasFew rs
right_few before [] h = λ k d below. absurd (omega arith)
right_few before (r ∷ rs) h = All-cons HasFew r rs h.0.few.own (right_few (before ++ r ∷ []) rs h.1)

pub right_defined : (before rs : List PackRecord) → AreRight before rs → AreDefined before rs
right_defined before [] h = tt
right_defined before (r ∷ rs) h = (h.0.defined, right_defined (before ++ r ∷ []) rs h.1)

-- ---- where they end

-- no record that is right after these begins here
abbrev pub Stops : List PackRecord → List ℕ → Type 0
Stops before rest = (r : PackRecord) (after : List ℕ) → IsRight before r → rest ≡ record_text r ++ after → ⊥

spelled_whole : (rest : List ℕ) (r : PackRecord) → IsPackSpelled rest r → IsWholePackRecord rest
spelled_whole rest r s = text_whole r rest s.after s.narrow s.text

spelled_same : (rest : List ℕ) (r s : PackRecord) → IsPackSpelled rest r → IsPackSpelled rest s → r ≡ s
spelled_same rest r s a b = (one_record r s a.after b.after a.narrow b.narrow (sym a.text ∙ b.text)).0

spelled_by : (before : List PackRecord) (rest : List ℕ) (r : PackRecord) (after : List ℕ) → IsRight before r → rest ≡ record_text r ++ after → IsPackSpelled rest r
spelled_by before rest r after h e = record { narrow = h.narrow; after = after; text = e }

value_wrong : (before : List PackRecord) (r : PackRecord) (at : ℕ) (bad : PackBad) → IsPackValueFault before r at bad → IsRight before r → ⊥
value_wrong before r at bad (inl a) h = a.1 h.defined
value_wrong before r at bad (inr (d, inl a)) h = a.1 h.pair
value_wrong before r at bad (inr (d, inr (p, inl a))) h = a.1 h.few
value_wrong before r at bad (inr (d, inr (p, inr a))) h = a.2 h.legal

pub fault_stops : (before : List PackRecord) (rest : List ℕ) (at : ℕ) (bad : PackBad) → IsPackRecordFault before rest at bad → Stops before rest
fault_stops before rest at bad (inl a) = λ r after h e. whole_not_end rest (text_whole r rest after h.narrow e) a.1
fault_stops before rest at bad (inr (inl a)) = λ r after h e. a.2 (text_whole r rest after h.narrow e)
fault_stops before rest at bad (inr (inr (inl a))) = λ r after h e. a.2 r (spelled_by before rest r after h e)
fault_stops before rest at bad (inr (inr (inr a))) = λ r after h e.
    value_wrong before a.0 at bad a.2 (subst (λ (s : PackRecord). IsRight before s) (spelled_same rest r a.0 (spelled_by before rest r after h e) a.1) h)

pub end_stops : (before : List PackRecord) (rest : List ℕ) → rest ≡ end → Stops before rest
end_stops before rest e r after h f = whole_not_end rest (text_whole r rest after h.narrow f) (_, e)

-- two lists of records that are right, after which no record that is right begins, are one
pub meet : (before ys zs ends other : List PackRecord) (x y : List ℕ) → AreRight before ys → AreRight before zs
    → before ++ ys ≡ ends → before ++ zs ≡ other → Stops ends x → Stops other y
    → flat_map record_text ys ++ x ≡ flat_map record_text zs ++ y → (ys ≡ zs) × (x ≡ y)
meet before [] [] ends other x y h g p q s t e = (refl, e)
meet before [] (z ∷ zs) ends other x y h g p q s t e =
    absurd (s z (flat_map record_text zs ++ y) (subst (λ (b : List PackRecord). IsRight b z) (sym (append-nil before) ∙ p) g.0) (e ∙ more z zs y))
meet before (v ∷ ys) [] ends other x y h g p q s t e =
    absurd (t v (flat_map record_text ys ++ x) (subst (λ (b : List PackRecord). IsRight b v) (sym (append-nil before) ∙ q) h.0) (sym e ∙ more v ys x))
meet before (v ∷ ys) (z ∷ zs) ends other x y h g p q s t e =
    let one = one_record v z (flat_map record_text ys ++ x) (flat_map record_text zs ++ y) h.0.narrow g.0.narrow (sym (more v ys x) ∙ (e ∙ more z zs y)) in
    let right : AreRight (before ++ z ∷ []) ys = subst (λ (r : PackRecord). AreRight (before ++ r ∷ []) ys) one.0 h.1 in
    let own : (before ++ z ∷ []) ++ ys ≡ ends = append_assoc before (z ∷ []) ys ∙ (ap (λ (r : PackRecord). before ++ r ∷ ys) (sym one.0) ∙ p) in
    let rest = meet (before ++ z ∷ []) ys zs ends other x y right g.1 own (append_assoc before (z ∷ []) zs ∙ q) s t one.1 in
    (ap (λ (r : PackRecord). r ∷ ys) one.0 ∙ ap (λ (rs : List PackRecord). z ∷ rs) rest.0, rest.1)

-- ---- the file

pub up_whole : (bytes : List ℕ) (at : ℕ) (records : List PackRecord) (u : ArePackRecordsReadUpTo bytes at records)
    → bytes ≡ head u.unit ++ (flat_map record_text records ++ drop at bytes)
up_whole bytes at records u =
    sym (take-append-drop at bytes) ∙ (ap (λ (t : List ℕ). t ++ drop at bytes) u.text ∙ append_assoc (head u.unit)
    (flat_map record_text records) (drop at bytes))

pub up_same : (bytes : List ℕ) (at to : ℕ) (rs ss : List PackRecord) (u : ArePackRecordsReadUpTo bytes at rs)
    (v : ArePackRecordsReadUpTo bytes to ss) → Stops rs (drop at bytes) → Stops ss (drop to bytes)
    → (u.unit ≡ v.unit) × (rs ≡ ss) × (drop at bytes ≡ drop to bytes)
up_same bytes at to rs ss u v s t =
    let whole = head_peel u.unit v.unit (flat_map record_text rs ++ drop at bytes)
    (flat_map record_text ss ++ drop to bytes) (unit_small u.unit u.unit_fits) (unit_small v.unit v.unit_fits)
    (sym (up_whole bytes at rs u) ∙ up_whole bytes to ss v) in
    let both = meet [] rs ss rs ss (drop at bytes) (drop to bytes) u.right v.right refl refl s t whole.1 in
    (whole.0, both.0, both.1)

at_one : (bytes : List ℕ) (at to : ℕ) → at ≤ length bytes → to ≤ length bytes → drop at bytes ≡ drop to bytes → to ≡ at
at_one bytes at to h g e = omega (arith, length-drop at bytes, length-drop to bytes, ap length e)

-- ---- one fault

value_one : (before : List PackRecord) (r : PackRecord) (at : ℕ) (bad other : PackBad) → IsPackValueFault before r at bad
    → IsPackValueFault before r at other → bad ≡ other
value_one before r at bad other (inl a) (inl b) = a.0 ∙ sym b.0
value_one before r at bad other (inl a) (inr b) = absurd (a.1 b.0)
value_one before r at bad other (inr a) (inl b) = absurd (b.1 a.0)
value_one before r at bad other (inr (d, inl a)) (inr (f, inl b)) = a.0 ∙ sym b.0
value_one before r at bad other (inr (d, inl a)) (inr (f, inr b)) = absurd (a.1 b.0)
value_one before r at bad other (inr (d, inr a)) (inr (f, inl b)) = absurd (b.1 a.0)
value_one before r at bad other (inr (d, inr (p, inl a))) (inr (f, inr (q, inl b))) = a.0 ∙ sym b.0
value_one before r at bad other (inr (d, inr (p, inl a))) (inr (f, inr (q, inr b))) = absurd (a.1 b.0)
value_one before r at bad other (inr (d, inr (p, inr a))) (inr (f, inr (q, inl b))) = absurd (b.1 a.0)
value_one before r at bad other (inr (d, inr (p, inr a))) (inr (f, inr (q, inr b))) = a.1 ∙ sym b.1

record_one : (before : List PackRecord) (rest : List ℕ) (at : ℕ) (bad other : PackBad)
    → IsPackRecordFault before rest at bad → IsPackRecordFault before rest at other → bad ≡ other
record_one before rest at bad other (inl a) (inl b) = a.0 ∙ sym b.0
record_one before rest at bad other (inl a) (inr (inl b)) = absurd (b.1 a.1)
record_one before rest at bad other (inl a) (inr (inr (inl b))) = absurd (whole_not_end rest b.1 a.1)
record_one before rest at bad other (inl a) (inr (inr (inr b))) = absurd (whole_not_end rest (spelled_whole rest b.0 b.1) a.1)
record_one before rest at bad other (inr (inl a)) (inl b) = absurd (a.1 b.1)
record_one before rest at bad other (inr (inl a)) (inr (inl b)) = a.0 ∙ sym b.0
record_one before rest at bad other (inr (inl a)) (inr (inr (inl b))) = absurd (a.2 b.1)
record_one before rest at bad other (inr (inl a)) (inr (inr (inr b))) = absurd (a.2 (spelled_whole rest b.0 b.1))
record_one before rest at bad other (inr (inr (inl a))) (inl b) = absurd (whole_not_end rest a.1 b.1)
record_one before rest at bad other (inr (inr (inl a))) (inr (inl b)) = absurd (b.2 a.1)
record_one before rest at bad other (inr (inr (inl a))) (inr (inr (inl b))) = a.0 ∙ sym b.0
record_one before rest at bad other (inr (inr (inl a))) (inr (inr (inr b))) = absurd (a.2 b.0 b.1)
record_one before rest at bad other (inr (inr (inr a))) (inl b) = absurd (whole_not_end rest (spelled_whole rest a.0 a.1) b.1)
record_one before rest at bad other (inr (inr (inr a))) (inr (inl b)) = absurd (b.2 (spelled_whole rest a.0 a.1))
record_one before rest at bad other (inr (inr (inr a))) (inr (inr (inl b))) = absurd (b.2 a.0 a.1)
record_one before rest at bad other (inr (inr (inr a))) (inr (inr (inr b))) =
    value_one before a.0 at bad other a.2 (subst (λ (r : PackRecord). IsPackValueFault before r at other) (spelled_same rest b.0 a.0 b.1 a.1) b.2)

pub one_fault : (bytes : List ℕ) (bad other : PackBad) → IsFirstPackFault bytes bad → IsFirstPackFault bytes other → bad ≡ other
one_fault bytes bad other (inl a) (inl b) =
    let same : a.0 ≡ b.0 = omega (arith, b.2.longest a.0 a.2.begins, a.2.longest b.0 b.2.begins) in
    a.1 ∙ (ap faults.Head same ∙ sym b.1)
one_fault bytes bad other (inl a) (inr b) = absurd (a.2.no_head b.2.unit _ b.2.unit_fits (up_whole bytes b.0 b.1 b.2))
one_fault bytes bad other (inr a) (inl b) = absurd (b.2.no_head a.2.unit _ a.2.unit_fits (up_whole bytes a.0 a.1 a.2))
one_fault bytes bad other (inr a) (inr b) =
    let same = up_same bytes a.0 b.0 a.1 b.1 a.2 b.2 (fault_stops a.1 (drop a.0 bytes) a.0 bad a.3) (fault_stops b.1 (drop b.0 bytes) b.0 other b.3) in
    let place : b.0 ≡ a.0 = at_one bytes a.0 b.0 a.2.within b.2.within same.2 in
    let moved = subst (λ (n : ℕ). IsPackRecordFault b.1 (drop n bytes) n other) place b.3 in
    let own = subst (λ (rs : List PackRecord). IsPackRecordFault rs (drop a.0 bytes) a.0 other) (sym same.1) moved in
    record_one a.1 (drop a.0 bytes) a.0 bad other a.3 own

end_right : (before : List PackRecord) (rest : List ℕ) (at : ℕ) (bad : PackBad) → rest ≡ end → IsPackRecordFault before rest at bad → ⊥
end_right before rest at bad e (inl a) = a.2 e
end_right before rest at bad e (inr (inl a)) = a.1 (_, e)
end_right before rest at bad e (inr (inr (inl a))) = whole_not_end rest a.1 (_, e)
end_right before rest at bad e (inr (inr (inr a))) = whole_not_end rest (spelled_whole rest a.0 a.1) (_, e)

-- bytes that were read up to END have no fault
pub no_fault : (bytes : List ℕ) (at : ℕ) (records : List PackRecord) (bad : PackBad) → ArePackRecordsReadUpTo bytes at records
    → drop at bytes ≡ end → IsFirstPackFault bytes bad → ⊥
no_fault bytes at records bad u e (inl b) = b.2.no_head u.unit _ u.unit_fits (up_whole bytes at records u)
no_fault bytes at records bad u e (inr b) =
    let same = up_same bytes at b.0 records b.1 u b.2 (end_stops records (drop at bytes) e) (fault_stops b.1 (drop b.0 bytes) b.0 bad b.3) in
    end_right b.1 (drop b.0 bytes) b.0 bad (sym same.2 ∙ e) b.3
