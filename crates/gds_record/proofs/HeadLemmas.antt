-- The table of heads: each kind has a head of its own.
use Rattle.std.proofs.Common.{◌≡◌, ℕ, Bool, true, List, [], ◌∷◌, Some, None, refl, sym, ap, ◌∙◌, ◌==◌, arith}
use Rattle.std.specs.Prelude.{find, ◌≢◌}
use Rattle.std.proofs.lemmas.Bool.Decides.{nat_tests}
use Rattle.gds_record.specs.declared.kinds.Kind.{Kind}
use Rattle.gds_record.specs.declared.kinds.Kind.TheVariants.{Header, BgnLib, LibName, Units, EndLib, BgnStr, StrName}
use Rattle.gds_record.specs.declared.kinds.Kind.TheVariants.{EndStr, Boundary, Path, Sref, Aref, Text, Layer, DataType}
use Rattle.gds_record.specs.declared.kinds.Kind.TheVariants.{Width, Xy, EndEl, Sname, ColRow, Node, TextType}
use Rattle.gds_record.specs.declared.kinds.Kind.TheVariants.{Presentation, String, Strans, Mag, Angle, RefLibs, Fonts}
use Rattle.gds_record.specs.declared.kinds.Kind.TheVariants.{PathType, Generations, AttrTable, ElFlags, NodeType}
use Rattle.gds_record.specs.declared.kinds.Kind.TheVariants.{PropAttr, PropValue, Box, BoxType, Plex, BgnExtn, EndExtn}
use Rattle.gds_record.specs.declared.kinds.Kind.TheVariants.{StrClass, Format, LibDirSize, SrfName, LibSecur}
use Rattle.gds_record.specs.Heads.{head_of, kinds, kind_with_head}

-- a kind is found by its head
pub kind_with_head-head_of : (kind : Kind) → kind_with_head (head_of kind) ≡ Some kind
unfolding kind_with_head
kind_with_head-head_of Header = refl
kind_with_head-head_of BgnLib = refl
kind_with_head-head_of LibName = refl
kind_with_head-head_of Units = refl
kind_with_head-head_of EndLib = refl
kind_with_head-head_of BgnStr = refl
kind_with_head-head_of StrName = refl
kind_with_head-head_of EndStr = refl
kind_with_head-head_of Boundary = refl
kind_with_head-head_of Path = refl
kind_with_head-head_of Sref = refl
kind_with_head-head_of Aref = refl
kind_with_head-head_of Text = refl
kind_with_head-head_of Layer = refl
kind_with_head-head_of DataType = refl
kind_with_head-head_of Width = refl
kind_with_head-head_of Xy = refl
kind_with_head-head_of EndEl = refl
kind_with_head-head_of Sname = refl
kind_with_head-head_of ColRow = refl
kind_with_head-head_of Node = refl
kind_with_head-head_of TextType = refl
kind_with_head-head_of Presentation = refl
kind_with_head-head_of String = refl
kind_with_head-head_of Strans = refl
kind_with_head-head_of Mag = refl
kind_with_head-head_of Angle = refl
kind_with_head-head_of RefLibs = refl
kind_with_head-head_of Fonts = refl
kind_with_head-head_of PathType = refl
kind_with_head-head_of Generations = refl
kind_with_head-head_of AttrTable = refl
kind_with_head-head_of ElFlags = refl
kind_with_head-head_of NodeType = refl
kind_with_head-head_of PropAttr = refl
kind_with_head-head_of PropValue = refl
kind_with_head-head_of Box = refl
kind_with_head-head_of BoxType = refl
kind_with_head-head_of Plex = refl
kind_with_head-head_of BgnExtn = refl
kind_with_head-head_of EndExtn = refl
kind_with_head-head_of StrClass = refl
kind_with_head-head_of Format = refl
kind_with_head-head_of LibDirSize = refl
kind_with_head-head_of SrfName = refl
kind_with_head-head_of LibSecur = refl

-- two kinds with one head are the same kind
pub head_of_unique : (j k : Kind) → head_of j ≡ head_of k → j ≡ k
head_of_unique j k same =
    let found : Some j ≡ Some k = sym (kind_with_head-head_of j) ∙ ap kind_with_head same ∙ kind_with_head-head_of k in
    cc

-- what is found passes the test
find_passes : {X : Type 0} (p : X → Bool) (xs : List X) (x : X) → find p xs ≡ Some x → p x ≡ true
find_passes p [] x h = cc
find_passes p (y ∷ ys) x h = grind (arith, find_passes p ys x)

-- a kind that is found has the head
pub head_of-kind_with_head : (head : ℕ) (kind : Kind) → kind_with_head head ≡ Some kind → head_of kind ≡ head
unfolding kind_with_head
head_of-kind_with_head head kind h =
    let passes : (head_of kind == head) ≡ true = find_passes (λ k. head_of k == head) kinds kind h in grind (arith, nat_tests)

-- where no kind is found, none has the head
pub no_kind : (head : ℕ) → kind_with_head head ≡ None → (kind : Kind) → head ≢ head_of kind
no_kind head h kind same =
    let found : kind_with_head head ≡ Some kind = ap kind_with_head same ∙ kind_with_head-head_of kind in cc
