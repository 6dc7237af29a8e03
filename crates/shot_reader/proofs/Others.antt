-- Bytes that are no shot file have a first fault.
use Rattle.std.proofs.Common.{◌≡◌, ℕ, zero, suc, ◌+◌, ◌-◌, ◌<◌, ◌≤◌, length, take, drop, Option, Some, None, List, []}
use Rattle.std.proofs.Common.{◌∷◌, ◌++◌, append_assoc, refl, arith, ap, sym, ◌∙◌, inl, inr, length-append}
use Rattle.std.proofs.lemmas.List.{flat_map_more, append-nil, length-take-le, take-append-drop}
use Rattle.std.proofs.lemmas.Bool.{cases_lt}
use Rattle.std.proofs.Math.Seq.{take-append_seam}
use Rattle.std.specs.Prelude.{flat_map}
use Rattle.half_grid.specs.Trapezoids.{Trapezoid, IsShot}
use Rattle.layout_model.specs.declared.pair.Pair.{Pair}
use Rattle.oas_lex.specs.ShotText.{IsUnit, head, end, spelling_of, text_of}
use Rattle.oas_lex.specs.ShotLaws.{IsNarrowPair}
use Rattle.oas_lex.proofs.ForCallers.{spelling_is, spelling_some}
use Rattle.oas_lex.specs.declared.fields.ShotFields.{ShotFields}
use Rattle.shot_reader.specs.declared.refusing.ShotBad.TheVariants as faults
use Rattle.shot_reader.specs.Fields.{HasShape}
use Rattle.shot_reader.specs.Reading.{AgreesWithPair, IsPairOf, IsFileOf}
use Rattle.shot_reader.specs.Refusals.{BeginsHead, BeginsEnd, IsShotSpelled, IsShotRecordFault, AreShotsReadUpTo}
use Rattle.shot_reader.specs.Laws.{IsNoFile, HasNoFault}
use Rattle.shot_reader.proofs.Faults.{up_whole}
use Rattle.shot_reader.proofs.Rests.{text_parts, not_nil, all_more}

-- ---- the head

-- the bytes begin with no head
abbrev IsHeadless : List ℕ → Type 0
IsHeadless bytes = (unit : ℕ) (after : List ℕ) → IsUnit unit → bytes ≡ head unit ++ after → ⊥

-- of the prefixes that begin some head one is longest
climb : (fuel : ℕ) (bytes : List ℕ) (n : ℕ) → BeginsHead bytes n → length bytes - n ≤ fuel → IsHeadless bytes → HasNoFault bytes → ⊥
climb zero bytes n b few none right =
    right (faults.Head n) (inl (n, refl, record { no_head = none; begins = b; longest = λ m c. omega (arith, c.within, few) }))
climb (suc fuel) bytes n b few none right =
    right (faults.Head n) (inl (
      n,
      refl,
      record {
        no_head = none;
        begins = b;
        longest = λ m c. elim (cases_lt n m) [ inl more ↦ absurd (climb fuel bytes m c (omega (arith, few, more)) none right) | inr le ↦ le ];
      },
    ))

two_is_unit : IsUnit 2
two_is_unit = record { even = refl; some = omega arith; few = omega arith }

none_begins : (bytes : List ℕ) → BeginsHead bytes 0
none_begins bytes = record { within = omega arith; unit = 2; unit_fits = two_is_unit; rest = head 2; text = refl }

headed : (bytes : List ℕ) → IsHeadless bytes → HasNoFault bytes → ⊥
headed bytes none right = climb (length bytes) bytes 0 (none_begins bytes) (omega arith) none right

-- ---- one record more

-- where a record with another pair may stand next, its pair is that of the records before it
same_front : (first : Option Pair) (l d m e : ℕ) (shots : List Trapezoid) → IsPairOf first shots → AgreesWithPair first l d → AgreesWithPair first m e
    → flat_map (spelling_of l d) shots ≡ flat_map (spelling_of m e) shots
same_front None l d m e shots none g h = ap (flat_map (spelling_of l d)) none ∙ sym (ap (flat_map (spelling_of m e)) none)
same_front (Some p) l d m e shots some g h = rw (← g.0, ← g.1, ← h.0, ← h.1) refl

-- a reading that has come further
record Further (bytes : List ℕ) (at : ℕ) : Type 0 where
  to : ℕ
  pair : Option Pair
  up : AreShotsReadUpTo bytes to pair
  more : at < to

front_after : ℕ → ℕ → ℕ → List Trapezoid → List ℕ
front_after unit l d shots = head unit ++ flat_map (spelling_of l d) shots

spelled_as : (first : Option Pair) (rest : List ℕ) (f : ShotFields) (z : Trapezoid) (s : IsShotSpelled first rest f)
    → HasShape f z → rest ≡ spelling_of f.layer f.datatype z ++ s.after
spelled_as first rest f z s shape = s.text ∙ ap (λ (t : List ℕ). t ++ s.after) (ap text_of shape ∙ sym (spelling_is f.layer f.datatype z))

text_more : (bytes : List ℕ) (at : ℕ) (first : Option Pair) (u : AreShotsReadUpTo bytes at first) (f : ShotFields)
    (z : Trapezoid) (s : IsShotSpelled first (drop at bytes) f) → HasShape f z
    → bytes ≡ front_after u.unit f.layer f.datatype (u.shots ++ z ∷ []) ++ s.after
unfolding front_after
text_more bytes at first u f z s shape =
    let own = spelling_of f.layer f.datatype in
    let front : take at bytes ≡ head u.unit ++ flat_map own u.shots =
    u.text ∙ ap (λ (t : List ℕ). head u.unit ++ t) (same_front first u.layer u.datatype f.layer f.datatype u.shots u.pair_fits u.agrees s.agrees) in
    sym (take-append-drop at bytes)
    ∙ (ap (λ (t : List ℕ). t ++ drop at bytes) front
    ∙ (ap (λ (t : List ℕ). (head u.unit ++ flat_map own u.shots) ++ t) (spelled_as first (drop at bytes) f z s shape)
    ∙ (sym (append_assoc (head u.unit ++ flat_map own u.shots) (own z) s.after)
    ∙ ap (λ (t : List ℕ). t ++ s.after) (flat_map_more own (head u.unit) u.shots z))))

front_length : (bytes : List ℕ) (at : ℕ) (first : Option Pair) (u : AreShotsReadUpTo bytes at first) (f : ShotFields)
    (z : Trapezoid) (s : IsShotSpelled first (drop at bytes) f)
    → length (front_after u.unit f.layer f.datatype (u.shots ++ z ∷ [])) ≡ at + length (spelling_of f.layer f.datatype z)
unfolding front_after
front_length bytes at first u f z s =
    let own = spelling_of f.layer f.datatype in
    let front : take at bytes ≡ head u.unit ++ flat_map own u.shots =
    u.text ∙ ap (λ (t : List ℕ). head u.unit ++ t) (same_front first u.layer u.datatype f.layer f.datatype u.shots u.pair_fits u.agrees s.agrees) in
    let whole : length ((head u.unit ++ flat_map own u.shots) ++ own z) ≡ length
    (head u.unit ++ flat_map own (u.shots ++ z ∷ [])) = ap length (flat_map_more own (head u.unit) u.shots z) in
    let size : length (head u.unit ++ flat_map own u.shots) ≡ at = ap length (sym front) ∙ length-take-le at bytes u.within in
    omega (arith, whole, size, length-append (head u.unit ++ flat_map own u.shots) (own z))

further : (bytes : List ℕ) (at : ℕ) (first : Option Pair) (u : AreShotsReadUpTo bytes at first) (f : ShotFields)
    (z : Trapezoid) → IsShotSpelled first (drop at bytes) f → IsShot z → HasShape f z → Further bytes at
unfolding front_after
further bytes at first u f z s h shape =
    let front = front_after u.unit f.layer f.datatype (u.shots ++ z ∷ []) in
    let text : bytes ≡ front ++ s.after = text_more bytes at first u f z s shape in
    let narrow : IsNarrowPair f.layer f.datatype = record { layer_bits = s.narrow.layer; datatype_bits = s.narrow.datatype } in
    record {
      to = length front;
      pair = Some (record { layer = f.layer; datatype = f.datatype });
      up = record {
        within = omega (arith, ap length text, length-append front s.after);
        unit = u.unit;
        unit_fits = u.unit_fits;
        shots = u.shots ++ z ∷ [];
        legal = all_more u.shots z u.legal h;
        layer = f.layer;
        datatype = f.datatype;
        narrow = narrow;
        pair_fits = (not_nil u.shots z, narrow);
        agrees = (refl, refl);
        text = ap (take (length front)) text ∙ take-append_seam front s.after;
      };
      more = omega (arith, front_length bytes at first u f z s, spelling_some f.layer f.datatype z);
    }

-- ---- the whole

-- what was read up to END is a shot file
file_here : (bytes : List ℕ) (at : ℕ) (first : Option Pair) (u : AreShotsReadUpTo bytes at first) → drop at bytes ≡ end → IsFileOf bytes u.unit first u.shots
file_here bytes at first u e = record {
  unit_fits = u.unit_fits;
  legal = u.legal;
  pair_fits = u.pair_fits;
  layer = u.layer;
  datatype = u.datatype;
  agrees = u.agrees;
  text = up_whole bytes at first u
      ∙ (ap (λ (t : List ℕ). head u.unit ++ (flat_map (spelling_of u.layer u.datatype) u.shots ++ t)) e ∙ sym
      (text_parts u.unit u.layer u.datatype u.shots));
}

-- END, and each fault of a record, aside: a record follows
one_more : (bytes : List ℕ) (at : ℕ) (first : Option Pair) → AreShotsReadUpTo bytes at first → IsNoFile bytes → HasNoFault bytes → (Further bytes at → ⊥) → ⊥
one_more bytes at first u no_file right last =
    let wrong : (bad : _) → IsShotRecordFault first (drop at bytes) at bad → ⊥ = λ bad fault. right bad (inr (at, first, u, fault)) in
    let no_end : BeginsEnd (drop at bytes) → ⊥ = λ b. wrong (faults.End at) (inl (refl, b, λ e. no_file u.unit first u.shots (file_here bytes at first u e))) in
    wrong (faults.Record at) (inr (inl (
      refl,
      no_end,
      λ whole.
          wrong (faults.Spelling at) (inr (inr (inl (
            refl,
            whole,
            λ f s.
                wrong (faults.Illegal at) (inr (inr (inr (refl, (f, s, λ z h shape. last (further bytes at first u f z s h shape)))))),
          )))),
    )))

go_on : (fuel : ℕ) (bytes : List ℕ) (at : ℕ) (first : Option Pair) → AreShotsReadUpTo bytes at first
    → length bytes - at ≤ fuel → IsNoFile bytes → HasNoFault bytes → ⊥
go_on zero bytes at first u few no_file right = one_more bytes at first u no_file right (λ m. omega (arith, m.more, m.up.within, few))
go_on (suc fuel) bytes at first u few no_file right =
    one_more bytes at first u no_file right (λ m. go_on fuel bytes m.to m.pair m.up (omega (arith, m.more, few)) no_file right)

head_read : (bytes : List ℕ) (unit : ℕ) (after : List ℕ) → IsUnit unit → bytes ≡ head unit ++ after → AreShotsReadUpTo bytes (length (head unit)) None
head_read bytes unit after h e = record {
  within = omega (arith, ap length e, length-append (head unit) after);
  unit = unit;
  unit_fits = h;
  shots = [];
  legal = λ k z below. absurd (omega arith);
  layer = 0;
  datatype = 0;
  narrow = record { layer_bits = omega arith; datatype_bits = omega arith };
  pair_fits = refl;
  agrees = tt;
  text = ap (take (length (head unit))) e ∙ (take-append_seam (head unit) after ∙ sym (append-nil (head unit)));
}

pub never_neither : (bytes : List ℕ) → IsNoFile bytes → HasNoFault bytes → ⊥
never_neither bytes no_file right =
    headed bytes (λ unit after h e. go_on (length bytes) bytes (length (head unit)) None (head_read bytes unit after h e) (omega arith) no_file right) right
