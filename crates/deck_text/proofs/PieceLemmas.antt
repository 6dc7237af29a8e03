-- The first piece of a line from an offset on.
use Rattle.std.proofs.Common.{◌≡◌, ℕ, suc, ◌+◌, ◌-◌, ◌<◌, ◌≤◌, Bool, true, false, ◌&&◌, List, [], ◌∷◌, ◌++◌, length}
use Rattle.std.proofs.Common.{get_or, take, drop, refl, ap, subst, ◌∙◌, inl, inr, arith}
use Rattle.std.specs.Char.{is_ascii_graphic}
use Rattle.std.proofs.lemmas.Bool.{cases_lt}
use Rattle.std.proofs.lemmas.Bool.Decides.{nat_tests}
use Rattle.std.proofs.lemmas.List.{get_or-take, get_or-drop, length-take, length-drop, drop_more, drop_all}
use Rattle.std.proofs.lemmas.List.Folds.{drop_split}
use Rattle.deck_text.specs.Tokens.{Piece, piece, is_blank, goes_on, longer, pieces_from, pieces_at}

graphic_no_blank : (b : ℕ) → is_ascii_graphic b ≡ true → is_blank b ≡ false
graphic_no_blank b h = grind (arith, nat_tests)

pub skip : (line : List ℕ) (i : ℕ) → i < length line → is_blank (get_or line i 0) ≡ true → pieces_at line i ≡ pieces_at line (i + 1)
unfolding pieces_from
skip line i lt e = rw (drop_more line i 0 lt, e) refl

pub none_left : (line : List ℕ) (i : ℕ) → length line ≤ i → pieces_at line i ≡ []
unfolding pieces_from
none_left line i le = rw (drop_all i line le) refl

-- bytes of a token, one by one
abbrev pub IsRun : List ℕ → Type 0
IsRun t = (k : ℕ) → k < length t → is_ascii_graphic (get_or t k 0) ≡ true

tail_run : (b : ℕ) (t : List ℕ) → IsRun (b ∷ t) → IsRun t
tail_run b t h k lt = h (suc k) (omega arith)

-- one step at a byte of a token
alone : (b : ℕ) (bytes : List ℕ) (column : ℕ) → is_blank b ≡ false → (is_ascii_graphic b && goes_on bytes) ≡ false
    → pieces_from column (b ∷ bytes) ≡ piece column (b ∷ []) ∷ pieces_from (column + 1) bytes
unfolding pieces_from
alone b bytes column blank end = rw (blank, end) refl

joined : (b : ℕ) (bytes : List ℕ) (column : ℕ) → is_blank b ≡ false → (is_ascii_graphic b && goes_on bytes) ≡ true
    → pieces_from column (b ∷ bytes) ≡ longer column b (pieces_from (column + 1) bytes)
unfolding pieces_from
joined b bytes column blank on = rw (blank, on) refl

and_same : (x y z : Bool) → x ≡ true → y ≡ z → (x && y) ≡ z
and_same x y z e f = rw e f

and_no : (x y : Bool) → x ≡ false → (x && y) ≡ false
and_no x y e = rw e refl

further : (column n : ℕ) (rest : List ℕ) → pieces_from (column + 1 + n) rest ≡ pieces_from (column + suc n) rest
further column n rest =
    let e : column + 1 + n ≡ column + suc n = omega arith in
    ap (λ (c : ℕ). pieces_from c rest) e

pub run_first : (t rest : List ℕ) (column : ℕ) → 0 < length t → IsRun t → goes_on rest ≡ false
    → pieces_from column (t ++ rest) ≡ piece column t ∷ pieces_from (column + length t) rest
run_first [] rest column some h stop = absurd (omega arith)
run_first (b ∷ []) rest column some h stop =
    let graphic : is_ascii_graphic b ≡ true = h 0 (omega arith) in
    alone b rest column (graphic_no_blank b graphic) (and_same (is_ascii_graphic b) (goes_on rest) false graphic stop)
run_first (b ∷ d ∷ t) rest column some h stop =
    let graphic : is_ascii_graphic b ≡ true = h 0 (omega arith) in
    let next : is_ascii_graphic d ≡ true = h 1 (omega arith) in
    let later = run_first (d ∷ t) rest (column + 1) (omega arith) (tail_run b (d ∷ t) h) stop in
    joined b (d ∷ (t ++ rest)) column (graphic_no_blank b graphic) (and_same (is_ascii_graphic b) (is_ascii_graphic d) true graphic next)
    ∙ (ap (λ (ps : List Piece). longer column b ps) later ∙ ap (λ (ps : List Piece). piece column (b ∷ d ∷ t) ∷ ps) (further column (length (d ∷ t)) rest))

-- ---- at an offset of a line

stop_at : (line : List ℕ) (end : ℕ) → (end < length line → is_ascii_graphic (get_or line end 0) ≡ false) → goes_on (drop end line) ≡ false
stop_at line end h = elim (cases_lt end (length line)) [
  | inl lt ↦ rw (drop_more line end 0 lt) (h lt)
  | inr le ↦ rw (drop_all end line le) refl
]

run_between : (line : List ℕ) (start end : ℕ)
    → ((k : ℕ) → start ≤ k → k < end → is_ascii_graphic (get_or line k 0) ≡ true)
    → IsRun (take (end - start) (drop start line))
run_between line start end h k lt =
    let below : k < end - start = omega (arith, length-take (end - start) (drop start line)) in
    rw (get_or-take (end - start) (drop start line) k 0 below, get_or-drop start line k 0) (h (start + k) (omega arith) (omega arith))

-- a byte, and those after it
pub from_first : (P : ℕ → Type 0) (start end : ℕ) → P start → ((k : ℕ) → start < k → k < end → P k) → (k : ℕ) → start ≤ k → k < end → P k
from_first P start end first later k le lt = elim (cases_lt start k) [
  | inl more ↦ later k more lt
  | inr same ↦ let e : start ≡ k = omega arith in subst P e first
]

pub run_at : (line : List ℕ) (start end : ℕ) → start < end → end ≤ length line → ((k : ℕ) → start ≤ k → k < end → is_ascii_graphic (get_or line k 0) ≡ true)
    → (end < length line → is_ascii_graphic (get_or line end 0) ≡ false)
    → pieces_at line start ≡ piece (start + 1) (take (end - start) (drop start line)) ∷ pieces_at line end
run_at line start end lt within h stop =
    let t : List ℕ = take (end - start) (drop start line) in
    let count : length (take (end - start) (drop start line)) ≡ end - start = omega
    (arith, length-take (end - start) (drop start line), length-drop start line) in
    let column : start + 1 + length (take (end - start) (drop start line)) ≡ end + 1 = omega (arith, count) in
    ap (λ (bytes : List ℕ). pieces_from (start + 1) bytes) (drop_split line start end (omega arith))
    ∙ (run_first (take (end - start) (drop start line)) (drop end line) (start + 1) (omega (arith, count))
    (run_between line start end h) (stop_at line end stop)
    ∙ ap (λ (c : ℕ). piece (start + 1) (take (end - start) (drop start line)) ∷ pieces_from c (drop end line)) column)

pub stray_at : (line : List ℕ) (start : ℕ) → start < length line → is_blank (get_or line start 0) ≡ false → is_ascii_graphic (get_or line start 0) ≡ false
    → pieces_at line start ≡ piece (start + 1) (take (start + 1 - start) (drop start line)) ∷ pieces_at line (start + 1)
stray_at line start lt blank other =
    let parts : drop start line ≡ get_or line start 0 ∷ drop (start + 1) line = drop_more line start 0 lt in
    let one : start + 1 - start ≡ 1 = omega arith in
    rw (one, parts) (alone (get_or line start 0) (drop (start + 1) line) (start + 1) blank
    (and_no (is_ascii_graphic (get_or line start 0)) (goes_on (drop (start + 1) line)) other))
