-- What a plan's deck gives for its outputs.
use Rattle.std.proofs.Common.{◌≡◌, ℕ, ◌<◌, ◌^◌, pos, ◌≤ℤ◌, List, Option, Some, None, All, IsSomeAnd, length, slice_get, get_or, refl, sym, subst, arith}
use Rattle.std.proofs.lemmas.Int.{ints}
use Rattle.std.proofs.lemmas.Option.{slice_get-get_or}
use Rattle.deck_text.specs.Sound.{IsSoundOutput}
use Rattle.deck_text.specs.declared.deck.Output.{Output}
use Rattle.deck_text.specs.declared.deck.Deck.{Deck}
use Rattle.deck_plan.specs.declared.needs.Need.{Need}
use Rattle.deck_plan.specs.Halos.{NeedIs, AreHalos}

pub some_and_weaker : {A : Type 0} (o : Option A) (P Q : A → Type 0) → ((x : A) → P x → Q x) → IsSomeAnd o P → IsSomeAnd o Q
some_and_weaker None P Q f h = h
some_and_weaker (Some x) P Q f h = f x h

pub named_is : (outputs : List Output) (k : ℕ) (d : Output) → k < length outputs
    → IsSomeAnd (slice_get outputs k) (λ output. output.name ≡ (get_or outputs k d).name)
named_is outputs k d inside = subst (λ found. IsSomeAnd found (λ output. output.name ≡ (get_or outputs k d).name))
    (sym (slice_get-get_or outputs k d inside)) refl

pub named_inside : (layout_name deck_name : List ℕ) (count : ℕ) (outputs : List Output) (k : ℕ) (d : Output)
    → All (IsSoundOutput layout_name deck_name count) outputs → k < length outputs → (get_or outputs k d).name < count
named_inside layout_name deck_name count outputs k d all inside = (all k d inside).defined

pub halo_bounds : (deck : Deck) (name : ℕ) (needs : List (Option Need)) → name < 256 → AreHalos deck name 0 needs
    → (n : ℕ) (need : Need) → NeedIs needs n need → (pos 0 ≤ℤ need.halo) × (need.halo ≤ℤ pos (2 ^ 40))
halo_bounds deck name needs few h n need is = (h.low n need is, (let high = h.high n need is in omega (arith, ints, high, few)))
