-- What deck and layout are falls into classes, of which just one holds. Each answer of the table but want of memory and a
-- counted fault of reading is that of its class.
use Rattle.std.proofs.Common.{◌≡◌, ℕ, ◌<◌, List, length, Option, Some, refl, sym, ap, subst, ◌∙◌, arith}
use Rattle.std.specs.Prelude.{IsSomeAnd}
use Rattle.std.proofs.lemmas.Option.{none-some, same_Some}
use Rattle.depot.specs.Content.{Content, IsNotThere, IsLongerThan}
use Rattle.depot.proofs.ForCallers.{longer_there}
use Rattle.layout_model.specs.declared.cells.Layout.{Layout}
use Rattle.gds_reader.specs.declared.refusing.GdsBad.{GdsBad}
use Rattle.oas_reader.specs.Reading.{OneLayout, OneFault, NoLayoutWithFault}
use Rattle.oas_reader.specs.declared.refusing.OasBad.{OasBad}
use Rattle.gds_reader.proofs.ForCallers.{one_layout as one_gds_layout, one_fault as one_gds_fault, no_layout_with_fault as no_gds_layout_with_fault}
use Rattle.cell_tree.specs.Cells.{cell_number}
use Rattle.cell_tree.specs.Trees.{Rooted}
use Rattle.deck_text.specs.Decks.{IsDeck, layers_of}
use Rattle.deck_text.specs.declared.refusal.DeckBad.{DeckBad}
use Rattle.deck_text.specs.declared.deck.Deck.{Deck}
use Rattle.deck_text.proofs.ForCallers.{one_deck, one_fault as one_deck_fault, never_both}
use Rattle.job_input.specs.Accepted.{Holds, HoldsDeck, IsLayoutFor, HoldsLayout, IsTreeFor}
use Rattle.job_input.specs.Refused.{HoldsDeckFault, IsGdsFaultFor, IsOasFaultFor}
use Rattle.job_input.specs.declared.formats.Format.{Format}
use Rattle.job_input.specs.declared.formats.Format.TheVariants.{Gdsii, Oasis}

-- ---- what a name holds

one_content : (c : Content) (name : List ℕ) (limit : ℕ) (a b : List ℕ) → Holds c name limit a → Holds c name limit b → a ≡ b
one_content c name limit a b h g = same_Some a b (sym h.held ∙ g.held)

there : (c : Content) (name : List ℕ) (limit : ℕ) (bytes : List ℕ) → Holds c name limit bytes → IsNotThere c name → ⊥
there c name limit bytes h missing = none-some bytes (sym missing ∙ h.held)

fits : (c : Content) (name : List ℕ) (limit : ℕ) (bytes : List ℕ) → Holds c name limit bytes → IsLongerThan limit c name → ⊥
fits c name limit bytes h long =
    let above : limit < length bytes = subst (λ (held : Option (List ℕ)). IsSomeAnd held (λ bs. limit < length bs)) h.held long in
    let below = h.short in
    omega arith

-- ---- the classes

-- what the layout is for an accepted deck
pub data LayoutClass : Type 0 where
  NoLayout : LayoutClass
  LongLayout : LayoutClass
  GdsFault : GdsBad → LayoutClass
  OasFault : OasBad → LayoutClass
  GoodLayout : Format → Layout → LayoutClass

pub data Class : Type 0 where
  NoDeck : Class
  LongDeck : Class
  BadDeck : DeckBad → Class
  GoodDeck : Deck → LayoutClass → Class

abbrev pub IsLayoutClass : Content → List ℕ → Deck → LayoutClass → Type 0
IsLayoutClass c layout d NoLayout = IsNotThere c layout
IsLayoutClass c layout d LongLayout = IsLongerThan 268435456 c layout
IsLayoutClass c layout d (GdsFault bad) = (bytes : List ℕ) × Holds c layout 268435456 bytes × IsGdsFaultFor d bytes bad
IsLayoutClass c layout d (OasFault bad) = (bytes : List ℕ) × Holds c layout 268435456 bytes × IsOasFaultFor d bytes bad
IsLayoutClass c layout d (GoodLayout f l) = HoldsLayout c layout d f l

abbrev pub IsClass : Content → (layout deck : List ℕ) → Class → Type 0
IsClass c layout deck NoDeck = IsNotThere c deck
IsClass c layout deck LongDeck = IsLongerThan 65536 c deck
IsClass c layout deck (BadDeck bad) = HoldsDeckFault c layout deck bad
IsClass c layout deck (GoodDeck d x) = HoldsDeck c layout deck d × IsLayoutClass c layout d x

-- ---- what bytes are

-- of OASIS bytes: one layout at most, one first fault at most, and never both
pub record OasisLaws : Type 0 where
  pub one_layout : OneLayout
  pub one_fault : OneFault
  pub apart : NoLayoutWithFault

pub laws_of : OneLayout → OneFault → NoLayoutWithFault → OasisLaws
laws_of one_layout one_fault apart = record { one_layout = one_layout; one_fault = one_fault; apart = apart }

gds_gds : (d : Deck) (bytes : List ℕ) (bad other : GdsBad) → IsGdsFaultFor d bytes bad → IsGdsFaultFor d bytes other → bad ≡ other
gds_gds d bytes bad other f g = one_gds_fault bytes d.unit (layers_of d.steps) bad other f.fault g.fault

gds_oas : (d : Deck) (bytes : List ℕ) (bad : GdsBad) (other : OasBad) → IsGdsFaultFor d bytes bad → IsOasFaultFor d bytes other → ⊥
gds_oas d bytes bad other f g = f.is_format g.is_format

gds_good : (d : Deck) (bytes : List ℕ) (bad : GdsBad) (f : Format) (l : Layout) → IsGdsFaultFor d bytes bad → IsLayoutFor d bytes f l → ⊥
gds_good d bytes bad Gdsii l h g = no_gds_layout_with_fault bytes d.unit (layers_of d.steps) l bad g.is_layout h.fault
gds_good d bytes bad Oasis l h g = h.is_format g.is_format

module _ (laws : OasisLaws) (d : Deck) (bytes : List ℕ) where
  oas_oas : (bad other : OasBad) → IsOasFaultFor d bytes bad → IsOasFaultFor d bytes other → bad ≡ other
  oas_oas bad other f g = laws.one_fault bytes d.unit (layers_of d.steps) bad other f.fault g.fault

  oas_good : (bad : OasBad) (f : Format) (l : Layout) → IsOasFaultFor d bytes bad → IsLayoutFor d bytes f l → ⊥
  oas_good bad Gdsii l h g = g.is_format h.is_format
  oas_good bad Oasis l h g = laws.apart bytes d.unit (layers_of d.steps) l bad g.is_layout h.fault

  good_good : (f g : Format) (l m : Layout) → IsLayoutFor d bytes f l → IsLayoutFor d bytes g m → GoodLayout f l ≡ GoodLayout g m
  good_good Gdsii Gdsii l m h k = ap (GoodLayout Gdsii) (one_gds_layout bytes d.unit (layers_of d.steps) l m h.is_layout k.is_layout)
  good_good Gdsii Oasis l m h k = absurd (h.is_format k.is_format)
  good_good Oasis Gdsii l m h k = absurd (k.is_format h.is_format)
  good_good Oasis Oasis l m h k = ap (GoodLayout Oasis) (laws.one_layout bytes d.unit (layers_of d.steps) l m h.is_layout k.is_layout)

-- ---- just one class of the layout holds

module _ (laws : OasisLaws) (c : Content) (layout : List ℕ) (d : Deck) where
  -- what holds of the bytes of a name holds of those that it holds
  moved : (A : List ℕ → Type 0) (a b : List ℕ) → Holds c layout 268435456 a → Holds c layout 268435456 b → A a → A b
  moved A a b h g x = subst A (one_content c layout 268435456 a b h g) x

  one_layout_class : (x y : LayoutClass) → IsLayoutClass c layout d x → IsLayoutClass c layout d y → x ≡ y
  one_layout_class NoLayout NoLayout h g = refl
  one_layout_class NoLayout LongLayout h g = absurd (longer_there 268435456 c layout h g)
  one_layout_class NoLayout (GdsFault bad) h g = absurd (there c layout 268435456 g.0 g.1 h)
  one_layout_class NoLayout (OasFault bad) h g = absurd (there c layout 268435456 g.0 g.1 h)
  one_layout_class NoLayout (GoodLayout f l) h g = absurd (there c layout 268435456 g.bytes g.holds h)
  one_layout_class LongLayout NoLayout h g = absurd (longer_there 268435456 c layout g h)
  one_layout_class LongLayout LongLayout h g = refl
  one_layout_class LongLayout (GdsFault bad) h g = absurd (fits c layout 268435456 g.0 g.1 h)
  one_layout_class LongLayout (OasFault bad) h g = absurd (fits c layout 268435456 g.0 g.1 h)
  one_layout_class LongLayout (GoodLayout f l) h g = absurd (fits c layout 268435456 g.bytes g.holds h)
  one_layout_class (GdsFault bad) NoLayout h g = absurd (there c layout 268435456 h.0 h.1 g)
  one_layout_class (GdsFault bad) LongLayout h g = absurd (fits c layout 268435456 h.0 h.1 g)
  one_layout_class (GdsFault bad) (GdsFault other) h g =
      ap GdsFault (gds_gds d g.0 bad other (moved (λ bs. IsGdsFaultFor d bs bad) h.0 g.0 h.1 g.1 h.2) g.2)
  one_layout_class (GdsFault bad) (OasFault other) h g =
      absurd (gds_oas d g.0 bad other (moved (λ bs. IsGdsFaultFor d bs bad) h.0 g.0 h.1 g.1 h.2) g.2)
  one_layout_class (GdsFault bad) (GoodLayout f l) h g =
      absurd (gds_good d g.bytes bad f l (moved (λ bs. IsGdsFaultFor d bs bad) h.0 g.bytes h.1 g.holds h.2) g.is_layout)
  one_layout_class (OasFault bad) NoLayout h g = absurd (there c layout 268435456 h.0 h.1 g)
  one_layout_class (OasFault bad) LongLayout h g = absurd (fits c layout 268435456 h.0 h.1 g)
  one_layout_class (OasFault bad) (GdsFault other) h g =
      absurd (gds_oas d h.0 other bad (moved (λ bs. IsGdsFaultFor d bs other) g.0 h.0 g.1 h.1 g.2) h.2)
  one_layout_class (OasFault bad) (OasFault other) h g =
      ap OasFault (oas_oas laws d g.0 bad other (moved (λ bs. IsOasFaultFor d bs bad) h.0 g.0 h.1 g.1 h.2) g.2)
  one_layout_class (OasFault bad) (GoodLayout f l) h g =
      absurd (oas_good laws d g.bytes bad f l (moved (λ bs. IsOasFaultFor d bs bad) h.0 g.bytes h.1 g.holds h.2) g.is_layout)
  one_layout_class (GoodLayout f l) NoLayout h g = absurd (there c layout 268435456 h.bytes h.holds g)
  one_layout_class (GoodLayout f l) LongLayout h g = absurd (fits c layout 268435456 h.bytes h.holds g)
  one_layout_class (GoodLayout f l) (GdsFault bad) h g =
      absurd (gds_good d h.bytes bad f l (moved (λ bs. IsGdsFaultFor d bs bad) g.0 h.bytes g.1 h.holds g.2) h.is_layout)
  one_layout_class (GoodLayout f l) (OasFault bad) h g =
      absurd (oas_good laws d h.bytes bad f l (moved (λ bs. IsOasFaultFor d bs bad) g.0 h.bytes g.1 h.holds g.2) h.is_layout)
  one_layout_class (GoodLayout f l) (GoodLayout k m) h g =
      good_good laws d g.bytes f k l m (moved (λ bs. IsLayoutFor d bs f l) h.bytes g.bytes h.holds g.holds h.is_layout) g.is_layout

-- ---- just one class holds

module _ (laws : OasisLaws) (c : Content) (layout deck : List ℕ) where
  fault_fault : (bad other : DeckBad) → HoldsDeckFault c layout deck bad → HoldsDeckFault c layout deck other → bad ≡ other
  fault_fault bad other h g =
      let same = one_content c deck 65536 h.bytes g.bytes h.holds g.holds in
      one_deck_fault g.bytes layout deck bad other (rw same at h.fault) g.fault

  deck_fault : (d : Deck) (bad : DeckBad) → HoldsDeck c layout deck d → HoldsDeckFault c layout deck bad → ⊥
  deck_fault d bad h g =
      let same = one_content c deck 65536 h.bytes g.bytes h.holds g.holds in
      never_both g.bytes layout deck d bad (subst (λ bs. IsDeck bs layout deck d) same h.is_deck) g.fault

  pub deck_deck : (d e : Deck) → HoldsDeck c layout deck d → HoldsDeck c layout deck e → d ≡ e
  deck_deck d e h g =
      let same = one_content c deck 65536 h.bytes g.bytes h.holds g.holds in
      one_deck g.bytes layout deck d e (subst (λ bs. IsDeck bs layout deck d) same h.is_deck) g.is_deck

  both_good : (d e : Deck) (x y : LayoutClass) → HoldsDeck c layout deck d × IsLayoutClass c layout d x
      → HoldsDeck c layout deck e × IsLayoutClass c layout e y → GoodDeck d x ≡ GoodDeck e y
  both_good d e x y h g =
      let same : d ≡ e = deck_deck d e h.0 g.0 in
      let class : x ≡ y = one_layout_class laws c layout e x y (subst (λ (f : Deck). IsLayoutClass c layout f x) same h.1) g.1 in
      ap (λ f. GoodDeck f x) same ∙ ap (GoodDeck e) class

  pub one_class : (x y : Class) → IsClass c layout deck x → IsClass c layout deck y → x ≡ y
  one_class NoDeck NoDeck h g = refl
  one_class NoDeck LongDeck h g = absurd (longer_there 65536 c deck h g)
  one_class NoDeck (BadDeck bad) h g = absurd (there c deck 65536 g.bytes g.holds h)
  one_class NoDeck (GoodDeck d x) h g = absurd (there c deck 65536 g.0.bytes g.0.holds h)
  one_class LongDeck NoDeck h g = absurd (longer_there 65536 c deck g h)
  one_class LongDeck LongDeck h g = refl
  one_class LongDeck (BadDeck bad) h g = absurd (fits c deck 65536 g.bytes g.holds h)
  one_class LongDeck (GoodDeck d x) h g = absurd (fits c deck 65536 g.0.bytes g.0.holds h)
  one_class (BadDeck bad) NoDeck h g = absurd (there c deck 65536 h.bytes h.holds g)
  one_class (BadDeck bad) LongDeck h g = absurd (fits c deck 65536 h.bytes h.holds g)
  one_class (BadDeck bad) (BadDeck other) h g = ap BadDeck (fault_fault bad other h g)
  one_class (BadDeck bad) (GoodDeck d x) h g = absurd (deck_fault d bad g.0 h)
  one_class (GoodDeck d x) NoDeck h g = absurd (there c deck 65536 h.0.bytes h.0.holds g)
  one_class (GoodDeck d x) LongDeck h g = absurd (fits c deck 65536 h.0.bytes h.0.holds g)
  one_class (GoodDeck d x) (BadDeck bad) h g = absurd (deck_fault d bad h.0 g)
  one_class (GoodDeck d x) (GoodDeck e y) h g = both_good d e x y h g

-- ---- just one tree

-- a layout has one tree for a deck
pub same_root : (d : Deck) (t u : Rooted) → t.layout ≡ u.layout → IsTreeFor d t → IsTreeFor d u → t ≡ u
same_root d t u of tree other =
    let here : cell_number u.layout.cells d.top ≡ Some t.top = subst (λ (l : Layout). cell_number l.cells d.top ≡ Some t.top) of tree.top in
    let top : t.top ≡ u.top = same_Some t.top u.top (sym here ∙ other.top) in
    ap (λ (l : Layout). record { layout = l; top = t.top }) of ∙ ap (λ (n : ℕ). record { layout = u.layout; top = n }) top
