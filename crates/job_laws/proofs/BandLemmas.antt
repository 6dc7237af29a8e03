-- What a deck denotes doesn't depend on the height of its bands, so two runs with the same layout make files of one area.
use Rattle.std.proofs.Common.{◌≡◌, ◌⊎◌, ℕ, zero, suc, ◌*◌, ℤ, List, length, Some, IsSomeAnd, slice_get, refl, sym, ap, subst, ◌∙◌, inl, inr}
use Rattle.std.proofs.lemmas.Option.{same_Some}
use Rattle.std.specs.FinMap.{get}
use Rattle.std.specs.List.{All}
use Rattle.half_grid.specs.Trapezoids.{Trapezoid, FitsLimits, CoversExactly, count_in}
use Rattle.half_grid.specs.declared.plane.Tile.{Tile}
use Rattle.layout_model.specs.declared.cells.Cell.{Cell}
use Rattle.layout_model.specs.declared.cells.Layout.{Layout}
use Rattle.depot.specs.Content.{Content, held_as}
use Rattle.gds_reader.proofs.ForCallers.{one_layout as one_gds_layout}
use Rattle.oas_reader.specs.Reading.{OneLayout}
use Rattle.oas_lex.specs.ShotText.{shot_text}
use Rattle.cell_tree.specs.Cells.{cell_number}
use Rattle.deck_text.specs.Decks.{IsDeck, layers_of}
use Rattle.deck_text.proofs.ForCallers.{one_deck}
use Rattle.deck_text.specs.declared.deck.Deck.{Deck}
use Rattle.deck_text.specs.declared.deck.Output.{Output}
use Rattle.deck_plan.specs.Areas.{IsInStep, area_over, IsInArea}
use Rattle.job_input.specs.Accepted.{HoldsDeck, IsLayoutFor, HoldsInput}
use Rattle.job_input.specs.declared.formats.Format.{Format}
use Rattle.job_input.specs.declared.formats.Format.TheVariants.{Gdsii, Oasis}
use Rattle.job_input.specs.declared.reading.Input.{Input}
use Rattle.mdp_job.specs.Denoted.{area_of}
use Rattle.mdp_job.specs.Headline.{IsShotFile}
use Rattle.mdp_job.specs.Runs.{Run}
use Rattle.job_laws.specs.BandLaws.{with_band, DenoteOneArea, BandsKeepAreas}
use Rattle.job_laws.proofs.KnownAreas.{area_known}

-- ---- areas

-- the areas over one step more
abbrev over_more : List Cell → ℕ → Deck → (ℕ → Tile → Type 0) → ℕ → Tile → Type 0
over_more cells top deck area n t = IsSomeAnd (slice_get deck.steps n) (λ step. IsInStep cells top deck.frame area step t)

over_same : (cells : List Cell) (top : ℕ) (deck : Deck) (band : ℤ) (steps : ℕ)
    → area_over cells top (with_band deck band) steps ≡ area_over cells top deck steps
over_same cells top deck band zero = refl
over_same cells top deck band (suc steps) =
    ap (over_more cells top deck) (over_same cells top deck band steps)

area_same : (cells : List Cell) (top : ℕ) (deck : Deck) (band : ℤ) (name : ℕ)
    → IsInArea cells top (with_band deck band) name ≡ IsInArea cells top deck name
unfolding IsInArea
area_same cells top deck band name = ap (λ (area : ℕ → Tile → Type 0). area name) (over_same cells top deck band (length deck.steps))

-- two lists that cover a decided area exactly have each tile as often
counts_same : (area : Tile → Type 0) (one other : List Trapezoid) (t : Tile) → area t ⊎ (area t → ⊥) → CoversExactly one area
    → CoversExactly other area → count_in one t ≡ count_in other t
counts_same area one other t (inl inside) c d = c.once t inside ∙ sym (d.once t inside)
counts_same area one other t (inr out) c d = c.never t out ∙ sym (d.never t out)

-- ---- one layout

layouts_same : OneLayout → (d : Deck) (band : ℤ) (bytes : List ℕ) (f g : Format) (l m : Layout) → IsLayoutFor d bytes f l
    → IsLayoutFor (with_band d band) bytes g m → l ≡ m
layouts_same law d band bytes Gdsii Gdsii l m p q = one_gds_layout bytes d.unit (layers_of d.steps) l m p.is_layout q.is_layout
layouts_same law d band bytes Gdsii Oasis l m p q = absurd (p.is_format q.is_format)
layouts_same law d band bytes Oasis Gdsii l m p q = absurd (q.is_format p.is_format)
layouts_same law d band bytes Oasis Oasis l m p q = law bytes d.unit (layers_of d.steps) l m p.is_layout q.is_layout

-- a name holds one deck at most
one_deck_of : (c : Content) (layout deck : List ℕ) (d other : Deck) → HoldsDeck c layout deck d → HoldsDeck c layout deck other → d ≡ other
one_deck_of c layout deck d other p q =
    let same : p.bytes ≡ q.bytes = same_Some p.bytes q.bytes (sym p.holds.held ∙ q.holds.held) in
    one_deck q.bytes layout deck d other (subst (λ bytes. IsDeck bytes layout deck d) same p.is_deck) q.is_deck

-- the two inputs differ in the bands of their decks alone
record DifferInBands (one two : Input) (band : ℤ) : Type 0 where
  decks : two.deck ≡ with_band one.deck band
  cells : one.tree.layout.cells ≡ two.tree.layout.cells
  tops : one.tree.top ≡ two.tree.top

module _ (law : OneLayout) (c e : Content) (layout deck other_layout other_deck : List ℕ) (d : Deck) (band : ℤ) (one two : Input)
    (holds : HoldsInput c layout deck one) (holds_other : HoldsInput e other_layout other_deck two)
    (deck_is : HoldsDeck c layout deck d) (other_deck_is : HoldsDeck e other_layout other_deck (with_band d band))
    (same : held_as c layout ≡ held_as e other_layout) where
  first_deck : one.deck ≡ d
  first_deck = one_deck_of c layout deck one.deck d holds.holds_deck deck_is

  second_deck : two.deck ≡ with_band d band
  second_deck = one_deck_of e other_layout other_deck two.deck (with_band d band) holds_other.holds_deck other_deck_is

  decks_differ : two.deck ≡ with_band one.deck band
  decks_differ = second_deck ∙ ap (λ (dk : Deck). with_band dk band) (sym first_deck)

  one_content : holds.holds_layout.bytes ≡ holds_other.holds_layout.bytes
  one_content = same_Some holds.holds_layout.bytes holds_other.holds_layout.bytes
      (sym holds.holds_layout.holds.held ∙ same ∙ holds_other.holds_layout.holds.held)

  one_layout : one.tree.layout ≡ two.tree.layout
  one_layout = layouts_same law one.deck band holds_other.holds_layout.bytes one.format two.format one.tree.layout two.tree.layout
      (subst (λ bytes. IsLayoutFor one.deck bytes one.format one.tree.layout) one_content holds.holds_layout.is_layout)
      (subst (λ (dk : Deck). IsLayoutFor dk holds_other.holds_layout.bytes two.format two.tree.layout) decks_differ holds_other.holds_layout.is_layout)

  one_top : one.tree.top ≡ two.tree.top
  one_top = same_Some one.tree.top two.tree.top (sym holds.is_tree.top
      ∙ subst (λ (l : Layout). cell_number l.cells one.deck.top ≡ Some two.tree.top) (sym one_layout)
      (subst (λ (dk : Deck). cell_number two.tree.layout.cells dk.top ≡ Some two.tree.top) decks_differ holds_other.is_tree.top))

  differ_in_bands : DifferInBands one two band
  differ_in_bands = record { decks = decks_differ; cells = ap (λ (l : Layout). l.cells) one_layout; tops = one_top }

-- ---- files

areas_same : (one two : Input) (band : ℤ) (output : Output) → DifferInBands one two band → area_of two output ≡ area_of one output
areas_same one two band output differ =
    ap (λ (dk : Deck). IsInArea two.tree.layout.cells two.tree.top dk output.name) differ.decks
    ∙ area_same two.tree.layout.cells two.tree.top one.deck band output.name
    ∙ ap (λ (cells : List Cell). IsInArea cells two.tree.top one.deck output.name) (sym differ.cells)
    ∙ ap (λ (top : ℕ). IsInArea one.tree.layout.cells top one.deck output.name) (sym differ.tops)

file_same : (one two : Input) (band : ℤ) (output : Output) (bytes : List ℕ) → DifferInBands one two band → IsShotFile two output bytes
    → IsShotFile one output bytes
file_same one two band output bytes differ file = record {
  shots = file.shots;
  text = file.text ∙ ap (λ (dk : Deck). shot_text (2 * dk.unit) output.pair.layer output.pair.datatype file.shots) differ.decks;
  legal = file.legal;
  within = subst (λ (dk : Deck). All (FitsLimits dk.limits.height dk.limits.width) file.shots) differ.decks file.within;
  cover = subst (CoversExactly file.shots) (areas_same one two band output differ) file.cover;
}

-- the two files of an output
one_area : (r s : Run) (input : Input) (output : Output) (bytes other : List ℕ) → get r.after.made output.file ≡ Some bytes
    → get s.after.made output.file ≡ Some other → IsShotFile input output bytes → IsShotFile input output other → DenoteOneArea r s input output
one_area r s input output bytes other made made_other file other_file = record {
  bytes = bytes;
  other = other;
  made = made;
  made_other = made_other;
  file = file;
  other_file = other_file;
  same = λ t.
      counts_same (area_of input output) file.shots other_file.shots t
      (area_known input.tree.layout.cells input.tree.top input.deck output.name t) file.cover other_file.cover;
}

pub bands_keep_areas : OneLayout → BandsKeepAreas
bands_keep_areas law r s words more layout deck other_layout other_deck d band is is_more covers covers_more deck_is other_deck_is same =
    let one = covers layout deck is refl in
    let two = covers_more other_layout other_deck is_more refl in
    let differ = differ_in_bands law r.before s.before layout deck other_layout other_deck d band one.0 two.0 one.1 two.1 deck_is other_deck_is same in
    let first = first_deck law r.before s.before layout deck other_layout other_deck d band one.0 two.0 one.1 two.1 deck_is other_deck_is same in
    let second = second_deck law r.before s.before layout deck other_layout other_deck d band one.0 two.0 one.1 two.1 deck_is other_deck_is same in
    record {
      input = one.0;
      holds = one.1;
      each = λ k output at.
          (let a = one.2.each k output (subst (λ (dk : Deck). slice_get dk.outputs k ≡ Some output) (sym first) at) in
          let b = two.2.each k output (subst (λ (dk : Deck). slice_get dk.outputs k ≡ Some output) (sym second) at) in
          one_area r s one.0 output a.0 b.0 a.1 b.1 a.2 (file_same one.0 two.0 band output b.0 differ b.2));
    }
