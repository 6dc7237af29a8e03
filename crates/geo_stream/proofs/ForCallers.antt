-- What a caller may want: the list that a mapped stream stands for, by the function that its closure computes, the stable merge, and what
-- holds of the fault of a refusal.
use Rattle.std.proofs.Common.{List, [], ◌∷◌, All, map}
use Rattle.std.specs.List.{AllZip, AllByRecursion}
use Rattle.geo_stream.specs.Refusals.{IsForFault}
use Rattle.geo_stream.specs.declared.refusal.Refusal.{Refusal}
use Rattle.geo_stream.specs.declared.refusal.Refusal.TheVariants.{Fault, NoMemory}
use Rattle.std.proofs.lemmas.List.Elements.{recursion_from_All}
-- the merge of two sorted lists is sorted, has the items of both, and keeps the order of those that tie
pub use Rattle.geo_stream.proofs.StableMerge.{merge_is_stable}

-- where something stands beside each item, a list of such things stands beside the list
pub listed : {A B : Type 0} (R : A → B → Type 0) (items : List A) → All (λ x. (y : B) × R x y) items → (others : List B) × AllZip R items others
listed {A} {B} R items h = by_recursion items (recursion_from_All (λ x. (y : B) × R x y) items h)
  where
    by_recursion : (items : List A) → AllByRecursion (λ x. (y : B) × R x y) items → (others : List B) × AllZip R items others
    by_recursion [] h = ([], tt)
    by_recursion (x ∷ items) h = let rest = by_recursion items h.1 in (h.0.0 ∷ rest.0, (h.0.1, rest.1))

-- what holds of each fault of a refusal holds of it where more is asked
pub for_fault_weaker : {F : Type 0} (P Q : F → Type 0) (refusal : Refusal F) → ((fault : F) → P fault → Q fault)
    → IsForFault P refusal → IsForFault Q refusal
for_fault_weaker P Q (Fault fault) h p = h fault p
for_fault_weaker P Q NoMemory h p = tt
