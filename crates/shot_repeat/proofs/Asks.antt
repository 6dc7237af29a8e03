-- How many shots the records ask for that are spelled from a place on.
use Rattle.std.proofs.Common.{◌≡◌, ℕ, ◌+◌, ◌≤◌, List, [], ◌∷◌, ◌++◌, length, drop, All, refl, arith, ap, sym, subst, ◌∙◌, append_assoc, length-append}
use Rattle.std.specs.Prelude.{flat_map}
use Rattle.std.proofs.lemmas.List.{append-nil, append_cancel_left}
use Rattle.std.proofs.lemmas.List.Elements.{All-append, All-cons}
use Rattle.std.proofs.lemmas.List.Sums.{sum_by-append}
use Rattle.std.proofs.lemmas.Grind.{flat_map-append}
use Rattle.half_grid.specs.Trapezoids.{Trapezoid}
use Rattle.oas_lex.specs.ShotText.{head, end}
use Rattle.shot_repeat.specs.Asking.{AreFew, AskForFew}
use Rattle.shot_repeat.specs.Packed.{HasFew, most_of_record, most_of_file}
use Rattle.shot_repeat.specs.Progress.{HasRead}
use Rattle.shot_repeat.specs.Records.{IsNarrow, record_text}
use Rattle.shot_repeat.specs.Refusals.{count_given}
use Rattle.shot_repeat.specs.Values.{shot_count}
use Rattle.shot_repeat.specs.declared.reading.Progress.{Progress}
use Rattle.shot_repeat.specs.declared.record.PackRecord.{PackRecord}
use Rattle.shot_repeat.proofs.Gifts.{all_front, all_rest}
use Rattle.shot_repeat.proofs.Rights.{right_few, right_narrow}
use Rattle.shot_repeat.proofs.Texts.{record_some}
use Rattle.shot_repeat.proofs.Unique.{one_record, more, narrow_rest, record_not_end}

-- no record is spelled here
abbrev pub NoneBegins : List ℕ → Type 0
NoneBegins rest = (r : PackRecord) (after : List ℕ) → IsNarrow r → rest ≡ record_text r ++ after → ⊥

-- what is spelled before a place where none is begins with any records that are spelled
prefix : (rs ss : List PackRecord) (a b : List ℕ) → All IsNarrow rs → All IsNarrow ss → NoneBegins a
    → flat_map record_text rs ++ a ≡ flat_map record_text ss ++ b → (ts : List PackRecord) × (rs ≡ ss ++ ts)
prefix [] [] a b h k none e = ([], refl)
prefix [] (s ∷ ss) a b h k none e = absurd (none s (flat_map record_text ss ++ b) (k 0 s (omega arith)) (e ∙ more s ss b))
prefix (r ∷ rs) [] a b h k none e = (r ∷ rs, refl)
prefix (r ∷ rs) (s ∷ ss) a b h k none e =
    let both = one_record r s (flat_map record_text rs ++ a) (flat_map record_text ss ++ b) (h 0 r (omega arith))
    (k 0 s (omega arith)) (sym (more r rs a) ∙ (e ∙ more s ss b)) in
    let rest = prefix rs ss a b (narrow_rest r rs h) (narrow_rest s ss k) none both.1 in
    (rest.0, ap (λ (t : PackRecord). t ∷ rs) both.0 ∙ ap (λ (t : List PackRecord). s ∷ t) rest.1)

few_front : (rs ss ts : List PackRecord) → rs ≡ ss ++ ts → AreFew rs → AreFew ss
few_front rs ss ts e h = record {
  each = all_front HasFew ss ts (subst (λ (t : List PackRecord). All HasFew t) e h.each);
  all = omega (arith, h.all, ap count_given e, sum_by-append (λ (s : PackRecord). shot_count s.repetition) ss ts);
}

-- the records up to a place where none is spelled are few, and so are any that begin there
pub few_by : (rest after : List ℕ) (rs : List PackRecord) → All IsNarrow rs → rest ≡ flat_map record_text rs ++ after
    → AreFew rs → NoneBegins after → AskForFew rest
few_by rest after rs narrow e few none ss b =
    let front = prefix rs ss after b.after narrow b.narrow none (sym e ∙ b.text) in
    few_front rs ss front.0 front.1 few

-- so many shots are asked for by the records before a place
pub record Asked (bytes : List ℕ) (at next total : ℕ) : Type 0 where
  pub within : next ≤ length bytes
  pub records : List PackRecord
  pub narrow : All IsNarrow records
  pub text : drop at bytes ≡ flat_map record_text records ++ drop next bytes
  pub total_is : count_given records ≡ total
  pub few : AreFew records

pub none_asked : (bytes : List ℕ) (at : ℕ) → at ≤ length bytes → Asked bytes at at 0
none_asked bytes at h = record {
  within = h;
  records = [];
  narrow = λ k d below. absurd (omega arith);
  text = refl;
  total_is = refl;
  few = record { each = λ k d below. absurd (omega arith); all = omega arith };
}

one_more : (rs : List PackRecord) (r : PackRecord) → IsNarrow r → All IsNarrow rs → All IsNarrow (rs ++ r ∷ [])
one_more rs r h all = All-append IsNarrow rs (r ∷ []) all (All-cons IsNarrow r [] h (λ k d below. absurd (omega arith)))

few_more : (rs : List PackRecord) (r : PackRecord) → HasFew r → All HasFew rs → All HasFew (rs ++ r ∷ [])
few_more rs r h all = All-append HasFew rs (r ∷ []) all (All-cons HasFew r [] h (λ k d below. absurd (omega arith)))

text_on : (rest before after : List ℕ) (rs : List PackRecord) (r : PackRecord)
    → rest ≡ flat_map record_text rs ++ before → before ≡ record_text r ++ after
    → rest ≡ flat_map record_text (rs ++ r ∷ []) ++ after
text_on rest before after rs r e f =
    e ∙ (ap (λ (t : List ℕ). flat_map record_text rs ++ t) f
    ∙ (ap (λ (t : List ℕ). flat_map record_text rs ++ (t ++ after)) (sym (append-nil (record_text r)))
    ∙ (sym (append_assoc (flat_map record_text rs) (record_text r ++ []) after)
    ∙ ap (λ (t : List ℕ). t ++ after) (sym (flat_map-append record_text rs (r ∷ []))))))

count_on : (rs : List PackRecord) (r : PackRecord) → count_given (rs ++ r ∷ []) ≡ count_given rs + shot_count r.repetition
count_on rs r = omega (arith, sum_by-append (λ (s : PackRecord). shot_count s.repetition) rs (r ∷ []))

pub one_asked : (bytes : List ℕ) (at next after total count : ℕ) (r : PackRecord) → Asked bytes at next total
    → IsNarrow r → drop next bytes ≡ record_text r ++ drop after bytes → after ≤ length bytes
    → count ≡ shot_count r.repetition
    → count ≤ most_of_record → total + count ≤ most_of_file → Asked bytes at after (total + count)
one_asked bytes at next after total count r a narrow e within c own all = record {
  within = within;
  records = a.records ++ r ∷ [];
  narrow = one_more a.records r narrow a.narrow;
  text = text_on (drop at bytes) (drop next bytes) (drop after bytes) a.records r a.text e;
  total_is = omega (arith, count_on a.records r, a.total_is, c);
  few = record { each = few_more a.records r (omega (arith, own, c)) a.few.each; all = omega (arith, count_on a.records r, a.total_is, c, all) };
}

last_few : (rs : List PackRecord) (s : PackRecord) → All HasFew (rs ++ s ∷ []) → shot_count s.repetition ≤ most_of_record
last_few rs s h = all_rest HasFew rs (s ∷ []) h 0 s (omega arith)

-- a record too much
pub too_many_asked : (bytes after : List ℕ) (at next total : ℕ) (r : PackRecord) → Asked bytes at next total
    → IsNarrow r → drop next bytes ≡ record_text r ++ after
    → AskForFew (drop at bytes) → (shot_count r.repetition ≤ most_of_record) × (total + shot_count r.repetition ≤ most_of_file)
too_many_asked bytes after at next total r a narrow e few =
    let all = few (a.records ++ r ∷ [])
    (record {
      narrow = one_more a.records r narrow a.narrow;
      after = after;
      text = text_on (drop at bytes)
          (drop next bytes) after a.records r a.text e;
    }) in
    (last_few a.records r all.each, omega (arith, all.all, count_on a.records r, a.total_is))

pub none_in_nothing : (rest : List ℕ) → rest ≡ [] → NoneBegins rest
none_in_nothing rest e r after narrow f = absurd (omega (arith, ap length (sym e ∙ f), record_some r, length-append (record_text r) after))

pub none_in_end : (rest : List ℕ) → rest ≡ end → NoneBegins rest
none_in_end rest e r after narrow f = record_not_end r _ after (sym e ∙ f)

-- a file that was read to its end asks for few enough
pub seen_few : (bytes : List ℕ) (unit : ℕ) (p q : Progress) (records : List PackRecord) (shots : List Trapezoid)
    → HasRead bytes unit [] p [] → HasRead bytes unit records q shots → drop q.at bytes ≡ end
    → AskForFew (drop p.at bytes)
seen_few bytes unit p q records shots a h e =
    let text : drop p.at bytes ≡ flat_map record_text records ++ drop q.at bytes = append_cancel_left (head unit)
    (drop p.at bytes) (flat_map record_text records ++ drop q.at bytes) (sym a.text ∙ h.text) in
    few_by (drop p.at bytes) (drop q.at bytes) records (right_narrow [] records h.right) text
    (record { each = right_few [] records h.right; all = omega (arith, h.few, h.kept.count) })
    (none_in_end (drop q.at bytes) e)
