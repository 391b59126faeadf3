-- The theorems, as statements. A function of src/ has each for its contract, so that the crate fails without its proof.
-- Assumes nothing.
use Rattle.std.specs.Prelude.{◌≡◌, false, not, ◌||◌, T, ◌↔◌}
use Rattle.games.specs.Form.{Form, Forms, 𝟎, lefts, rights, ◌∈◌, any, ◌&◌, ◌⧺◌}
use Rattle.games.specs.Sides.{Side, Left, Right, options, other, with_options}
use Rattle.games.specs.Order.{◌≥◌, ◌≈◌}
use Rattle.games.specs.Sums.{negative, changed, ◌⊕◌}
use Rattle.games.specs.Play.{wins, NoStarterWins}
use Rattle.games.specs.Listing.{◌≺◌}
use Rattle.games.specs.Canon.{AsGood, Canonical, bypassed}
use Rattle.games.specs.Tests.{is_canonical}
use Rattle.games.specs.Text.{bytes}

-- G ≥ H exactly when no Right option of G is ≤ H and no Left option of H is ≥ G
abbrev pub OrderReads : Type 0
OrderReads = (g h : Form) → (g ≥ h) ↔ (((r : Form) → r ∈ rights g → ¬ (h ≥ r)) × ((l : Form) → l ∈ lefts h → ¬ (l ≥ g)))

-- it is reflexive, transitive and decidable
abbrev pub OrderIsOne : Type 0
OrderIsOne = ((g : Form) → g ≥ g) × ((g h k : Form) → g ≥ h → h ≥ k → g ≥ k) × ((g h : Form) → Dec (g ≥ h))

-- A Left option is never ≥ its form, and a form never ≥ its Right option
abbrev pub OptionsNever : Type 0
OptionsNever = ((g l : Form) → l ∈ lefts g → ¬ (l ≥ g)) × ((g r : Form) → r ∈ rights g → ¬ (g ≥ r))

-- A starter can win exactly when some first move, in either part, leaves a play that the other, starting it, cannot win
abbrev pub PlayReads : Type 0
PlayReads = (s : Side) (g h : Form)
    → wins s g h ≡ (any (λ o. not (wins (other s) o h)) (options s g) || any (λ o. not (wins (other s) g o)) (options (other s) h))

-- G ≥ H exactly when Right, starting the difference of G and H, cannot win; G ≤ H exactly when Left cannot
abbrev pub OrderByPlay : Type 0
OrderByPlay = (g h : Form) → ((g ≥ h) ↔ (wins Right g h ≡ false)) × ((h ≥ g) ↔ (wins Left g h ≡ false))

-- Two forms are equal exactly when whoever starts their difference loses
abbrev pub EqualByPlay : Type 0
EqualByPlay = (g h : Form) → (g ≈ h) ↔ NoStarterWins g h

-- The six together: the order and the play tell the same.
pub record PlayTellsTheOrder : Type 0 where
  pub order_reads : OrderReads
  pub order_is_one : OrderIsOne
  pub options_never : OptionsNever
  pub play_reads : PlayReads
  pub order_by_play : OrderByPlay
  pub equal_by_play : EqualByPlay

-- A move in a sum is a move in one of its parts, and those in the first stand first
abbrev pub SumReads : Type 0
SumReads = (s : Side) (g h : Form) → options s (g ⊕ h) ≡ changed (λ o. o ⊕ h) (options s g) ⧺ changed (λ o. g ⊕ o) (options s h)

-- The sum of a game and its negative equals 0
abbrev pub NegativeCancels : Type 0
NegativeCancels = (g : Form) → (g ⊕ negative g) ≈ 𝟎

-- each form of xs has an equal one among ys
abbrev pub Alike : Forms → Forms → Type 0
Alike xs ys = (x : Form) → x ∈ xs → (y : Form) × (y ∈ ys) × (y ≈ x)

-- Changing options for equal ones keeps the value
abbrev pub EqualOptions : Type 0
EqualOptions = (g h : Form) → ((s : Side) → Alike (options s g) (options s h)) → ((s : Side) → Alike (options s h) (options s g)) → g ≈ h

-- Dropping a dominated option a, which stands after pre and before post, keeps the value
abbrev pub DominatedGoes : Type 0
DominatedGoes = (s : Side) (g a : Form) (pre post : Forms) → options s g ≡ pre ⧺ (a & post)
    → (b : Form) → b ∈ (pre ⧺ post) → AsGood s b a → g ≈ with_options s (pre ⧺ post) g

-- Bypassing an option a that is reversible by b keeps the value
abbrev pub ReversibleGoes : Type 0
ReversibleGoes = (s : Side) (g a : Form) (pre post : Forms) → options s g ≡ pre ⧺ (a & post)
    → (b : Form) → b ∈ options (other s) a → AsGood s g b → g ≈ bypassed s g pre b post

-- Each form equals exactly one canonical form
abbrev pub CanonicalFormIsOne : Type 0
CanonicalFormIsOne = (g : Form) → (c : Form) × Canonical c × (g ≈ c) × ((d : Form) → Canonical d → g ≈ d → d ≡ c)

-- The test decides which forms are canonical
abbrev pub CanonicalDecided : Type 0
CanonicalDecided = (g : Form) → (T (is_canonical g) → Canonical g) × (Canonical g → T (is_canonical g))

-- The listing order is a strict total order: of two forms one comes before the other, or they are one form
pub data Placed (g h : Form) : Type 0 where
  before : g ≺ h → Placed g h
  same : g ≡ h → Placed g h
  after : h ≺ g → Placed g h

abbrev pub ListingIsStrict : Type 0
ListingIsStrict = ((g : Form) → ¬ (g ≺ g)) × ((g h k : Form) → g ≺ h → h ≺ k → g ≺ k) × ((g h : Form) → Placed g h)

-- Two forms with one text are one form
abbrev pub TextTells : Type 0
TextTells = (g h : Form) → bytes g ≡ bytes h → g ≡ h
