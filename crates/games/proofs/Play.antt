-- A starter of the difference of G and H cannot win exactly when G is as good as H for the other side.
-- Assumes nothing.
use Rattle.std.proofs.Common.{◌≡◌, ℕ, zero, suc, ◌+◌, ◌≤◌, Bool, true, false, not, ◌&&◌, ◌||◌, T, ◌↔◌, sym, refl, ap, ◌∙◌, ap₂, arith}
use mathlib.Core.Bool.{not-not}
use Rattle.games.specs.Form.{Form, lefts, rights, any, size}
use Rattle.games.specs.Sides.{Side, Left, Right, other, options}
use Rattle.games.specs.Order.{ge, ◌≥◌, ◌≈◌}
use Rattle.games.specs.Play.{wins_in, wins, NoStarterWins}
use Rattle.games.specs.Tests.{as_good}
use Rattle.games.proofs.Form.{size_pos, any_cong}
use Rattle.games.proofs.Order.{ge_law}
use Rattle.games.proofs.Sides.{option_size}

de_morgan : (a b : Bool) → not (not a && not b) ≡ (a || b)
de_morgan true b = refl
de_morgan false b = not-not b

or_swap : (a b : Bool) → (a || b) ≡ (b || a)
or_swap true true = refl
or_swap true false = refl
or_swap false true = refl
or_swap false false = refl

-- what the order's law says of the denial
not_ge : (g h : Form) → not (ge g h) ≡ (any (λ r. ge h r) (rights g) || any (λ l. ge l g) (lefts h))
not_ge g h = rw (ge_law g h, de_morgan)

not_good : (s : Side) (g h : Form) → not (as_good (other s) g h) ≡ (any (λ o. as_good s o h) (options s g) || any (λ o. as_good s g o) (options (other s) h))
not_good Left g h = not_ge h g ∙ or_swap (any (λ r. ge g r) (rights h)) (any (λ l. ge l h) (lefts g))
not_good Right g h = not_ge g h

-- the other of the other is the side itself
back : (s : Side) (x y : Form) → not (not (as_good (other (other s)) x y)) ≡ as_good s x y
back Left x y = not-not (ge x y)
back Right x y = not-not (ge y x)

wins_in_lem : (n : ℕ) (s : Side) (g h : Form) → size g + size h ≤ n → wins_in n s g h ≡ not (as_good (other s) g h)
wins_in_lem zero s g h a = let k = size_pos g in absurd (omega arith)
wins_in_lem (suc n) s g h a =
    ap₂ ◌||◌
    (any_cong _ _ (options s g) (λ o i. let k = option_size s g i in ap not (wins_in_lem n (other s) o h (omega arith)) ∙ back s o h))
    (any_cong _ _ (options (other s) h) (λ o i. let k = option_size (other s) h i in ap not (wins_in_lem n (other s) g o (omega arith)) ∙ back s g o))
    ∙ sym (not_good s g h)

pub wins_is : (s : Side) (g h : Form) → wins s g h ≡ not (as_good (other s) g h)
unfolding wins
wins_is s g h = wins_in_lem (size g + size h) s g h (omega arith)

-- the rule of play: the bound of its definition does not matter
pub wins_law : (s : Side) (g h : Form)
    → wins s g h ≡ (any (λ o. not (wins (other s) o h)) (options s g) || any (λ o. not (wins (other s) g o)) (options (other s) h))
wins_law s g h = wins_is s g h ∙ not_good s g h ∙ ap₂ ◌||◌
    (any_cong _ _ (options s g) (λ o _. sym (ap not (wins_is (other s) o h) ∙ back s o h)))
    (any_cong _ _ (options (other s) h) (λ o _. sym (ap not (wins_is (other s) g o) ∙ back s g o)))

-- a test that holds is not denied
held : (b : Bool) → T b → not b ≡ false
held true t = refl
held false t = absurd t

holds_back : (b : Bool) → not b ≡ false → T b
holds_back true e = tt
holds_back false e = let z : ◌≡◌ {A = ℕ} 0 1 = cc in absurd (omega arith)

pub ≥_by_play : (g h : Form) → (g ≥ h) ↔ (wins Right g h ≡ false)
≥_by_play g h = ((λ p. wins_is Right g h ∙ held (ge g h) p.holds), λ e. record { holds = holds_back (ge g h) (sym (wins_is Right g h) ∙ e) })

pub ≤_by_play : (g h : Form) → (h ≥ g) ↔ (wins Left g h ≡ false)
≤_by_play g h = ((λ p. wins_is Left g h ∙ held (ge h g) p.holds), λ e. record { holds = holds_back (ge h g) (sym (wins_is Left g h) ∙ e) })

pub ≈_by_play : (g h : Form) → (g ≈ h) ↔ NoStarterWins g h
≈_by_play g h = (to, λ f. record { above = (≥_by_play g h).1 (f Right); below = (≤_by_play g h).1 (f Left) })
  where
    to : g ≈ h → NoStarterWins g h
    to e Left = (≤_by_play g h).0 e.below
    to e Right = (≥_by_play g h).0 e.above
