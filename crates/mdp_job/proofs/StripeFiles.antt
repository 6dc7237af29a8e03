-- The files of stripes: what was said while they were made, and that their lists are one.
use Rattle.std.proofs.Common.{◌≡◌, inl, inr, ℕ, ℤ, pos, ◌+ℤ◌, List, [], ◌∷◌, length, take, All, refl, sym, ap, subst, ◌∙◌, arith}
use Rattle.std.proofs.lemmas.Int.{ints}
use Rattle.half_grid.specs.Trapezoids.{Trapezoid, IsShot}
use Rattle.depot.specs.Content.{Content, with_left, with_file, with_said}
use Rattle.shot_writer.specs.declared.parts.Head.{Head}
use Rattle.field_split.specs.Fields.{IsFieldSize, AreStripeLists}
use Rattle.field_split.proofs.ForCallers.{one_stripe_list}
use Rattle.field_output.specs.Stripes.{AreAllStripeLists, with_stripe_files, stripe_name, stripe_text}
use Rattle.mdp_job.specs.ShotFiles.{ShotData}
use Rattle.mdp_job.specs.Splitting.{head_of, AreAllMade, IsSplitCutShort, IsPartSplit}
use Rattle.mdp_job.specs.FieldAnswers.{IsHalfSplit}
use Rattle.mdp_job.proofs.Ends.{unsaid, quiet_is, made_quiet, part_made_said}

-- ---- what was said

stripes_said : (c : Content) (base : List ℕ) (head : Head) (k : ℤ) (lists : List (List Trapezoid)) → (with_stripe_files c base head k lists).said ≡ c.said
stripes_said c base head k [] = refl
stripes_said c base head k (pieces ∷ lists) = stripes_said (with_file c (stripe_name base k) (stripe_text head pieces)) base head (k +ℤ pos 1) lists

module _ (b m : Content) (size : ℤ) (out : List ℕ) (s : ShotData) where
  pub cut_said : IsSplitCutShort b m size out s → m.said ≡ b.said
  cut_said cut =
      let w = cut.files in
      part_made_said (with_stripe_files b out (head_of s) cut.first w.whole) m _ _ w.files ∙ stripes_said b out (head_of s) cut.first w.whole

  -- while all files were made nothing was said
  pub made_said : (text : List ℕ) → AreAllMade b m size out s text → m.said ≡ b.said
  made_said text all = ap (λ (c : Content). c.said) all.content ∙ stripes_said b out (head_of s) all.first all.lists

-- all files were made and a part of their lines said, and then something more: but for what was said they are made
pub all_quiet : (b c m a : Content) (size : ℤ) (out : List ℕ) (s : ShotData) (text front x : List ℕ) → AreAllMade (with_left b []) c size out s text
    → m ≡ with_said c front → a ≡ with_said m x → AreAllMade (with_left b []) (unsaid b a) size out s text
all_quiet b c m a size out s text front x all f e =
    let quiet = made_quiet b c m a front x (made_said (with_left b []) c size out s text all) f e in
    subst (λ (d : Content). AreAllMade (with_left b []) d size out s text) (sym quiet) all

pub half_quiet : (b m a : Content) (size : ℤ) (out : List ℕ) (s : ShotData) (x : List ℕ) → IsHalfSplit (with_left b []) m size out s → a ≡ with_said m x
    → IsPartSplit (with_left b []) (unsaid b a) size out s
half_quiet b m a size out s x (inl cut) e =
    let quiet = quiet_is b m a x (cut_said (with_left b []) m size out s cut) e in
    inl (subst (λ (c : Content). IsSplitCutShort (with_left b []) c size out s) (sym quiet) cut)
half_quiet b m a size out s x (inr (c, text, all, (n, few, f))) e = inr (text, all_quiet b c m a size out s text (take n text) x all f e)

-- ---- there is one list of stripe lists

module _ (size : ℤ) (fields : IsFieldSize size) (shots : List Trapezoid) (legal : All IsShot shots) where
  lists_one : (k : ℤ) (xs ys : List (List Trapezoid)) → AreStripeLists size k shots xs → AreStripeLists size k shots ys → length xs ≡ length ys → xs ≡ ys
  lists_one k [] [] p q e = refl
  lists_one k [] (y ∷ ys) p q e = absurd (omega (arith, e))
  lists_one k (x ∷ xs) [] p q e = absurd (omega (arith, e))
  lists_one k (x ∷ xs) (y ∷ ys) p q e =
      let here : x ≡ y = one_stripe_list size k fields shots x y legal p.0 q.0 in
      let rest : xs ≡ ys = lists_one (k +ℤ pos 1) xs ys p.1 q.1 (omega (arith, e)) in
      ap (λ (z : List Trapezoid). z ∷ xs) here ∙ ap (λ (zs : List (List Trapezoid)). y ∷ zs) rest

  pub all_lists_one : (first last : ℤ) (xs ys : List (List Trapezoid)) → AreAllStripeLists shots size first last xs
      → AreAllStripeLists shots size first last ys → xs ≡ ys
  all_lists_one first last xs ys p q = lists_one first xs ys p.each q.each (omega (arith, ints, p.number, q.number))
