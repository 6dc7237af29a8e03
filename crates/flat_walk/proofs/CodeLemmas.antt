-- Entries by codes.
use Rattle.std.proofs.Common.{◌≡◌, ◌⊎◌, inl, inr, ℕ, zero, suc, ◌+◌, ◌-◌, ◌<◌, ◌≤◌, nat_lt, false, List, [], ◌∷◌, ◌++◌, Option, Some, None}
use Rattle.std.proofs.Common.{ℤ, FitsSigned, w64, to_z, of_z, MatchOption, Result, Ok, Err, OnErr, drop, length, replicate}
use Rattle.std.proofs.Common.{slice_get, get_or, refl, sym, ap, subst, ◌∙◌, arith, length-append}
use Rattle.std.specs.Int.{int_min, int_max}
use Rattle.std.proofs.Math.Seq.{get_or-append_seam}
use Rattle.std.proofs.lemmas.Bool.{ltb-false}
use Rattle.std.proofs.lemmas.Int.{to_z-of_z}
use Rattle.std.proofs.lemmas.List.{get_or_append_left, length-drop}
use Rattle.std.proofs.lemmas.Option.{none-some, same_Some, get_or_from_slice_get, slice_get_past}
use Rattle.half_grid.specs.Trapezoids.{Trapezoid}
use Rattle.half_grid.specs.declared.plane.Point.{Point}
use Rattle.half_grid.specs.declared.extent.Frame.{Frame}
use Rattle.half_grid.specs.declared.plane.Line.TheVariants.{Upright}
use Rattle.layout_model.specs.declared.shapes.Shape.{Shape}
use Rattle.flat_walk.specs.Kept.{Entry, alone, bare}
use Rattle.flat_walk.specs.Entries.{entry_at, entries_from, own_frame, own_pieces, IsCoded, AreCoded, IsOwnShape}
use Rattle.flat_walk.specs.Hands.{first_count}
use Rattle.flat_walk.specs.PieceLists.{upright}
use Rattle.flat_walk.specs.Stores.{entry_in}
use Rattle.flat_walk.specs.declared.stores.EntryRef.{EntryRef}
use Rattle.flat_walk.proofs.BlockLemmas.{drop_on}
use Rattle.flat_walk.proofs.RestLemmas.{drop_here, drop_past}

module _ (shapes : List Shape) where
  -- ---- a longer store

  entry_on : (store more : List Entry) (n code : ℕ) → IsCoded shapes store n code
      → entry_at shapes (store ++ more) n code ≡ entry_at shapes store n code
  entry_on store more n zero is = refl
  entry_on store more n (suc number) is = get_or_append_left store more bare number is

  code_on : (store more : List Entry) (n code : ℕ) → IsCoded shapes store n code → IsCoded shapes (store ++ more) n code
  code_on store more n zero is = is
  code_on store more n (suc number) is = let e = length-append store more in omega (arith, e, is)

  -- what the codes stood for they stand for
  pub store_on : (store more : List Entry) (n : ℕ) (codes : List ℕ) → AreCoded shapes store n codes
      → entries_from shapes (store ++ more) n codes ≡ entries_from shapes store n codes
  store_on store more n [] are = refl
  store_on store more n (code ∷ codes) are =
      rw (entry_on store more n code are.0, store_on store more (suc n) codes are.1) refl

  pub coded_on : (store more : List Entry) (n : ℕ) (codes : List ℕ) → AreCoded shapes store n codes → AreCoded shapes (store ++ more) n codes
  coded_on store more n [] are = are
  coded_on store more n (code ∷ codes) are = (code_on store more n code are.0, coded_on store more (suc n) codes are.1)

  -- ---- one more code

  codes_more : (store : List Entry) (n m : ℕ) (codes : List ℕ) (code : ℕ) → m ≡ n + length codes
      → entries_from shapes store n (codes ++ code ∷ []) ≡ entries_from shapes store n codes ++ entry_at shapes store m code ∷ []
  codes_more store n m [] code is = ap (λ i. entry_at shapes store i code ∷ []) (let e : n ≡ m = omega (arith, is) in e)
  codes_more store n m (c ∷ codes) code is =
      ap (λ l. entry_at shapes store n c ∷ l) (codes_more store (suc n) m codes code (omega (arith, is)))

  coded_more : (store : List Entry) (n m : ℕ) (codes : List ℕ) (code : ℕ) → m ≡ n + length codes → AreCoded shapes store n codes
      → IsCoded shapes store m code → AreCoded shapes store n (codes ++ code ∷ [])
  coded_more store n m [] code is are last = (subst (λ i. IsCoded shapes store i code) (let e : m ≡ n = omega (arith, is) in e) last, tt)
  coded_more store n m (c ∷ codes) code is are last = (are.0, coded_more store (suc n) m codes code (omega (arith, is)) are.1 last)

  last_entry : (store : List Entry) (e : Entry) (n code : ℕ) → code ≡ length (store ++ e ∷ []) → entry_at shapes (store ++ e ∷ []) n code ≡ e
  last_entry store e n code is =
      let long : code ≡ suc (length store) = let l = length-append store (e ∷ []) in omega (arith, l, is) in
      rw long (get_or-append_seam store e [] bare)

  last_code : (store : List Entry) (e : Entry) (n code : ℕ) → code ≡ length (store ++ e ∷ []) → IsCoded shapes (store ++ e ∷ []) n code
  last_code store e n zero is = absurd (let l = length-append store (e ∷ []) in omega (arith, l, is))
  last_code store e n (suc number) is = omega (arith, is)

  -- the code of the entry that was put last
  pub code_pushed : (store new : List Entry) (e : Entry) (codes after : List ℕ) (code : ℕ) → new ≡ store ++ e ∷ [] → after ≡ codes ++ code ∷ []
      → code ≡ length new → AreCoded shapes store 0 codes → entries_from shapes new 0 after ≡ entries_from shapes store 0 codes ++ e ∷ []
  code_pushed store new e codes after code one more last are =
      rw (one, more)
      (codes_more (store ++ e ∷ []) 0 (length codes) codes code (omega arith)
      ∙ (rw (store_on store (e ∷ []) 0 codes are, last_entry store e (length codes) code (last ∙ ap length one)) refl))

  pub coded_pushed : (store new : List Entry) (e : Entry) (codes after : List ℕ) (code : ℕ) → new ≡ store ++ e ∷ [] → after ≡ codes ++ code ∷ []
      → code ≡ length new → AreCoded shapes store 0 codes → AreCoded shapes new 0 after
  coded_pushed store new e codes after code one more last are =
      rw (one, more)
      (coded_more (store ++ e ∷ []) 0 (length codes) codes code (omega arith) (coded_on store (e ∷ []) 0 codes are)
      (last_code store e (length codes) code (last ∙ ap length one)))

  -- a store with one more, which no code stands for yet
  pub store_more : (store new : List Entry) (e : Entry) (codes after : List ℕ) → new ≡ store ++ e ∷ [] → after ≡ codes → AreCoded shapes store 0 codes
      → entries_from shapes new 0 after ≡ entries_from shapes store 0 codes
  store_more store new e codes after one same are = rw (one, same) (store_on store (e ∷ []) 0 codes are)

  pub stored_more : (store new : List Entry) (e : Entry) (codes after : List ℕ) → new ≡ store ++ e ∷ [] → after ≡ codes → AreCoded shapes store 0 codes
      → AreCoded shapes new 0 after
  stored_more store new e codes after one same are = rw (one, same) (coded_on store (e ∷ []) 0 codes are)

  -- the same code so many times
  codes_each : (store : List Entry) (e : Entry) (code : ℕ) → ((n : ℕ) → entry_at shapes store n code ≡ e) → (count n : ℕ)
      → entries_from shapes store n (replicate count code) ≡ replicate count e
  codes_each store e code is zero n = refl
  codes_each store e code is (suc count) n = rw (is n, codes_each store e code is count (suc n)) refl

  coded_each : (store : List Entry) (code : ℕ) → ((n : ℕ) → IsCoded shapes store n code) → (count n : ℕ)
      → AreCoded shapes store n (replicate count code)
  coded_each store code is zero n = tt
  coded_each store code is (suc count) n = (is n, coded_each store code is count (suc n))

  codes_joined : (store : List Entry) (codes more : List ℕ) (n m : ℕ) → m ≡ n + length codes
      → entries_from shapes store n (codes ++ more) ≡ entries_from shapes store n codes ++ entries_from shapes store m more
  codes_joined store [] more n m is = ap (λ i. entries_from shapes store i more) (let e : n ≡ m = omega (arith, is) in e)
  codes_joined store (c ∷ codes) more n m is =
      ap (λ l. entry_at shapes store n c ∷ l) (codes_joined store codes more (suc n) m (omega (arith, is)))

  coded_joined : (store : List Entry) (codes more : List ℕ) (n m : ℕ) → m ≡ n + length codes → AreCoded shapes store n codes
      → AreCoded shapes store m more → AreCoded shapes store n (codes ++ more)
  coded_joined store [] more n m is are later = subst (λ i. AreCoded shapes store i more) (let e : m ≡ n = omega (arith, is) in e) later
  coded_joined store (c ∷ codes) more n m is are later = (are.0, coded_joined store codes more (suc n) m (omega (arith, is)) are.1 later)

  pub each_pushed : (store new : List Entry) (e : Entry) (codes after : List ℕ) (code count : ℕ) → new ≡ store ++ e ∷ []
      → after ≡ codes ++ replicate count code → code ≡ length new → AreCoded shapes store 0 codes
      → entries_from shapes new 0 after ≡ entries_from shapes store 0 codes ++ replicate count e
  each_pushed store new e codes after code count one more last are =
      let is = λ (n : ℕ). last_entry store e n code (last ∙ ap length one) in
      rw (one, more)
      (codes_joined (store ++ e ∷ []) codes (replicate count code) 0 (length codes) (omega arith)
      ∙ (rw (store_on store (e ∷ []) 0 codes are, codes_each (store ++ e ∷ []) e code is count (length codes)) refl))

  pub coded_each_pushed : (store new : List Entry) (e : Entry) (codes after : List ℕ) (code count : ℕ) → new ≡ store ++ e ∷ []
      → after ≡ codes ++ replicate count code → code ≡ length new → AreCoded shapes store 0 codes → AreCoded shapes new 0 after
  coded_each_pushed store new e codes after code count one more last are =
      let is = λ (n : ℕ). last_code store e n code (last ∙ ap length one) in
      rw (one, more)
      (coded_joined (store ++ e ∷ []) codes (replicate count code) 0 (length codes) (omega arith) (coded_on store (e ∷ []) 0 codes are)
      (coded_each (store ++ e ∷ []) code is count (length codes)))

  -- the code of a rectangle
  pub own_pushed : (store : List Entry) (codes after : List ℕ) (number : ℕ) (pieces : List Trapezoid) → number ≡ length codes → after ≡ codes ++ 0 ∷ []
      → own_pieces (slice_get shapes number) ≡ pieces
      → entries_from shapes store 0 after ≡ entries_from shapes store 0 codes ++ alone pieces ∷ []
  own_pushed store codes after number pieces here more is =
      rw more (codes_more store 0 number codes 0 (omega (arith, here)) ∙ ap (λ l. entries_from shapes store 0 codes ++ alone l ∷ []) is)

  pub coded_own : (store : List Entry) (codes after : List ℕ) (number : ℕ) → number ≡ length codes → after ≡ codes ++ 0 ∷ []
      → IsOwnShape shapes number → AreCoded shapes store 0 codes → AreCoded shapes store 0 after
  coded_own store codes after number here more own are = rw more (coded_more store 0 number codes 0 (omega (arith, here)) are own)

  -- ---- what is there

  pub entries_long : (store : List Entry) (n : ℕ) (codes : List ℕ) → length (entries_from shapes store n codes) ≡ length codes
  entries_long store n [] = refl
  entries_long store n (code ∷ codes) = ap suc (entries_long store (suc n) codes)

  entries_slot : (store : List Entry) (codes : List ℕ) (n m k code : ℕ) → m ≡ n + k → slice_get codes k ≡ Some code
      → slice_get (entries_from shapes store n codes) k ≡ Some (entry_at shapes store m code)
  entries_slot store [] n m k code is at = absurd (none-some code at)
  entries_slot store (c ∷ codes) n m zero code is at =
      let e : n ≡ m = omega (arith, is) in rw (same_Some c code at, e) refl
  entries_slot store (c ∷ codes) n m (suc k) code is at = entries_slot store codes (suc n) m k code (omega (arith, is)) at

  coded_slot : (store : List Entry) (codes : List ℕ) (n m k code : ℕ) → m ≡ n + k → AreCoded shapes store n codes
      → slice_get codes k ≡ Some code → IsCoded shapes store m code
  coded_slot store [] n m k code is are at = absurd (none-some code at)
  coded_slot store (c ∷ codes) n m zero code is are at =
      let e : n ≡ m = omega (arith, is) in
      subst (λ i. IsCoded shapes store m i) (same_Some c code at) (subst (λ i. IsCoded shapes store i c) e are.0)
  coded_slot store (c ∷ codes) n m (suc k) code is are at = coded_slot store codes (suc n) m k code (omega (arith, is)) are.1 at

  -- a rectangle
  pub own_there : (store : List Entry) (codes : List ℕ) (k : ℕ) → AreCoded shapes store 0 codes → slice_get codes k ≡ Some 0 → IsOwnShape shapes k
  own_there store codes k are at = coded_slot store codes 0 k k 0 (omega arith) are at

  pub own_slot : (store : List Entry) (codes : List ℕ) (k : ℕ) → slice_get codes k ≡ Some 0
      → slice_get (entries_from shapes store 0 codes) k ≡ Some (alone (own_pieces (slice_get shapes k)))
  own_slot store codes k at = entries_slot store codes 0 k k 0 (omega arith) at

  -- an entry of the store
  pub stored_there : (store : List Entry) (codes : List ℕ) (k code number : ℕ) → AreCoded shapes store 0 codes → slice_get codes k ≡ Some code
      → code ≡ suc number → number < length store
  stored_there store codes k code number are at is = coded_slot store codes 0 k k (suc number) (omega arith) are (at ∙ ap Some is)

  pub stored_slot : (store : List Entry) (codes : List ℕ) (k code number : ℕ) (entry : Entry) → slice_get codes k ≡ Some code → code ≡ suc number
      → slice_get store number ≡ Some entry → slice_get (entries_from shapes store 0 codes) k ≡ Some entry
  stored_slot store codes k code number entry at is there =
      entries_slot store codes 0 k k (suc number) (omega arith) (at ∙ ap Some is) ∙ ap Some (get_or_from_slice_get store number entry bare there)

  -- ---- what a table answers

  pub past_long : (store : List Entry) (codes : List ℕ) (entries : List Entry) (k : ℕ) → length codes ≤ k
      → entries_from shapes store 0 codes ≡ entries → length entries ≤ k
  past_long store codes entries k past is =
      let e : length entries ≡ length codes = ap length (sym is) ∙ entries_long store 0 codes in
      omega (arith, e, past)

  pub not_there : (store : List Entry) (codes : List ℕ) (entries : List Entry) (k : ℕ) (entry : Entry) → length codes ≤ k
      → entries_from shapes store 0 codes ≡ entries → slice_get entries k ≡ Some entry → ⊥
  not_there store codes entries k entry past is at =
      none-some entry (sym (slice_get_past entries k (past_long store codes entries k past is)) ∙ at)

  pub past_count : (store : List Entry) (codes : List ℕ) (entries : List Entry) (k : ℕ) → length codes ≤ k
      → entries_from shapes store 0 codes ≡ entries → first_count (drop k entries) ≡ 1
  past_count store codes entries k past is = rw (drop_past entries k (past_long store codes entries k past is)) refl

  pub own_count : (store : List Entry) (codes : List ℕ) (entries : List Entry) (k : ℕ) (entry : Entry) → AreCoded shapes store 0 codes
      → slice_get codes k ≡ Some 0 → entries_from shapes store 0 codes ≡ entries → slice_get entries k ≡ Some entry → 1 ≡ length entry.pieces
  own_count store codes entries k entry are at is there =
      let own = own_there store codes k are at in
      let here = own.here in
      let framed = own.is in
      let one : own_pieces (slice_get shapes k) ≡ upright own.frame ∷ [] = rw (here, framed) refl in
      let slot : slice_get entries k ≡ Some (alone (own_pieces (slice_get shapes k))) = rw (← is) (own_slot store codes k at) in
      sym (ap length one) ∙ ap (λ (e : Entry). length e.pieces) (same_Some (alone (own_pieces (slice_get shapes k))) entry (sym slot ∙ there))

  pub own_first : (store : List Entry) (codes : List ℕ) (entries : List Entry) (k : ℕ) → slice_get codes k ≡ Some 0
      → entries_from shapes store 0 codes ≡ entries → first_count (drop k entries) ≡ 1
  own_first store codes entries k at is =
      let e = alone (own_pieces (slice_get shapes k)) in
      rw (← is) (ap first_count (drop_here (entries_from shapes store 0 codes) k e (own_slot store codes k at)))

  pub stored_count : (store : List Entry) (codes : List ℕ) (entries : List Entry) (k code number : ℕ) (kept entry : Entry) → slice_get codes k ≡ Some code
      → code ≡ suc number → slice_get store number ≡ Some kept → entries_from shapes store 0 codes ≡ entries → slice_get entries k ≡ Some entry → kept ≡ entry
  stored_count store codes entries k code number kept entry at is here same there =
      same_Some kept entry (sym (stored_slot store codes k code number kept at is here) ∙ (ap (λ l. slice_get l k) same ∙ there))

  pub stored_first : (store : List Entry) (codes : List ℕ) (entries : List Entry) (k code number : ℕ) (kept : Entry) → slice_get codes k ≡ Some code
      → code ≡ suc number → slice_get store number ≡ Some kept → entries_from shapes store 0 codes ≡ entries
      → first_count (drop k entries) ≡ kept.more + 1
  stored_first store codes entries k code number kept at is here same =
      rw (← same) (ap first_count (drop_here (entries_from shapes store 0 codes) k kept (stored_slot store codes k code number kept at is here)))

pub code_less : (code : ℕ) → (code ≡ 0 → ⊥) → code ≡ suc (code - 1)
code_less zero some = absurd (some refl)
code_less (suc n) some = omega arith

-- ---- the entries from one on

pub found_first : (entries : List Entry) (k : ℕ) (found : Option EntryRef)
    → MatchOption found (length entries ≤ k) (λ e. slice_get entries k ≡ Some (entry_in e))
    → MatchOption found (drop k entries ≡ []) (λ e. drop k entries ≡ entry_in e ∷ drop 1 (drop k entries))
found_first entries k None past = drop_past entries k past
found_first entries k (Some e) at =
    let here = drop_here entries k (entry_in e) at in
    here ∙ ap (λ l. entry_in e ∷ l) (sym (drop_on k 1 (k + 1) entries refl))

slot_dropped : {X : Type 0} (xs : List X) (n : ℕ) (x : X) (rest : List X) → drop n xs ≡ x ∷ rest → slice_get xs n ≡ Some x
slot_dropped xs zero x rest is = rw is refl
slot_dropped [] (suc n) x rest is = slot_dropped [] n x rest (drop_past [] n (omega arith) ∙ is)
slot_dropped (y ∷ xs) (suc n) x rest is = slot_dropped xs n x rest is

none_dropped : {X : Type 0} (xs : List X) (n : ℕ) → drop n xs ≡ [] → length xs ≤ n
none_dropped xs n is = let e : length xs - n ≡ 0 = sym (length-drop n xs) ∙ ap length is in omega (arith, e)

pub found_later : (entries later : List Entry) (n : ℕ) (found : Option EntryRef) → later ≡ drop n entries
    → MatchOption found (later ≡ []) (λ e. later ≡ entry_in e ∷ drop 1 later)
    → MatchOption found (length entries ≤ n) (λ e. slice_get entries n ≡ Some (entry_in e))
found_later entries later n None is none = none_dropped entries n (sym is ∙ none)
found_later entries later n (Some e) is some = slot_dropped entries n (entry_in e) (drop 1 later) (sym is ∙ some)

le_or : (m k : ℕ) → (k < m) ⊎ (m ≤ k)
le_or zero k = inr (omega arith)
le_or (suc m) zero = inl (omega arith)
le_or (suc m) (suc k) = elim (le_or m k) [ inl h ↦ inl (omega (arith, h)) | inr h ↦ inr (omega (arith, h)) ]

pub dropped_after : (entries : List Entry) (first count next : ℕ)
    → (first + count < length entries → next ≡ first + count) → (length entries ≤ first + count → length entries ≤ next)
    → drop next entries ≡ drop count (drop first entries)
dropped_after entries first count next before past = elim (le_or (length entries) (first + count)) [
  | inl h ↦ sym (drop_on first count next entries (before h))
  | inr h ↦ drop_past entries next (past h) ∙ (sym (drop_past entries (first + count) h) ∙ sym (drop_on first count (first + count) entries refl))
]

-- ---- four corners

five_points : (points : List Point) (d : Point) → 5 ≤ length points → length points < 6
    → own_frame points
    ≡ Some (record {
      x0 = int_min (get_or points 0 d).x (get_or points 2 d).x;
      y0 = int_min (get_or points 0 d).y (get_or points 2 d).y;
      x1 = int_max (get_or points 0 d).x (get_or points 2 d).x;
      y1 = int_max (get_or points 0 d).y (get_or points 2 d).y;
    })
five_points [] d least below = absurd (omega (arith, least))
five_points (a ∷ []) d least below = absurd (omega (arith, least))
five_points (a ∷ b ∷ []) d least below = absurd (omega (arith, least))
five_points (a ∷ b ∷ c ∷ []) d least below = absurd (omega (arith, least))
five_points (a ∷ b ∷ c ∷ e ∷ []) d least below = absurd (omega (arith, least))
five_points (a ∷ b ∷ c ∷ e ∷ f ∷ []) d least below = refl
five_points (a ∷ b ∷ c ∷ e ∷ f ∷ g ∷ points) d least below = absurd (omega (arith, below))

-- of such numbers
pub own_frame_is : (points : List Point) (d : Point) (x0 y0 x1 y1 : ℤ) → 5 ≤ length points → length points < 6
    → x0 ≡ int_min (get_or points 0 d).x (get_or points 2 d).x → y0 ≡ int_min (get_or points 0 d).y (get_or points 2 d).y
    → x1 ≡ int_max (get_or points 0 d).x (get_or points 2 d).x → y1 ≡ int_max (get_or points 0 d).y (get_or points 2 d).y
    → own_frame points ≡ Some (record { x0 = x0; y0 = y0; x1 = x1; y1 = y1 })
own_frame_is points d x0 y0 x1 y1 least below e f g h = rw (e, f, g, h) (five_points points d least below)

pub same_bits : (a b : ℤ) → FitsSigned w64 a → FitsSigned w64 b → of_z w64 a ≡ of_z w64 b → a ≡ b
same_bits a b f g same = sym (to_z-of_z w64 a f) ∙ (ap (to_z w64) same ∙ to_z-of_z w64 b g)

pub upright_is : (t : Trapezoid) (f : Frame) (y0 y1 left right : ℤ) → y0 ≡ t.y0 → y1 ≡ t.y1 → y0 ≡ f.y0 → y1 ≡ f.y1
    → Upright left ≡ t.left → Upright right ≡ t.right → left ≡ f.x0 → right ≡ f.x1 → t ≡ upright f
upright_is t f y0 y1 left right a b c d e g h i = rw (← c, ← d, ← h, ← i, a, b, e, g) refl

-- ---- results

pub on_err : {T E P : Type 0} (r : Result T E) → P → OnErr r P
on_err (Ok x) p = tt
on_err (Err e) p = p
