-- Short partizan games as forms.
-- Assumes nothing.
use Rattle.std.specs.Prelude.{ℕ, suc, ◌+◌, Bool, false, ◌||◌}

infixr 50 ◌&◌
infixr 45 ◌⧺◌
infix 40 ◌∈◌
-- A form is a list of Left options and a list of Right options, each a form made before it.
-- (As a game it is a pair of sets: neither order nor repeats change its value, `EqualOptions` in Laws.)
mutual
  pub data Form : Type 0 where
    form : Forms → Forms → Form

  pub data Forms : Type 0 where
    ∅ : Forms
    ◌&◌ : Form → Forms → Forms

abbrev pub lefts : Form → Forms
lefts (form ls rs) = ls

abbrev pub rights : Form → Forms
rights (form ls rs) = rs

-- 0 = {|}, the form without options
abbrev pub 𝟎 : Form
𝟎 = form ∅ ∅

-- 1 = {0|}, -1 = {|0}, * = {0|0}
abbrev pub 𝟏 : Form
𝟏 = form (𝟎 & ∅) ∅

abbrev pub _𝟏 : Form
_𝟏 = form ∅ (𝟎 & ∅)

abbrev pub ⋆ : Form
⋆ = form (𝟎 & ∅) (𝟎 & ∅)

-- x stands in the list
pub data ◌∈◌ : Form → Forms → Type 0 where
  here : {x : Form} {xs : Forms} → x ∈ (x & xs)
  there : {x y : Form} {xs : Forms} → x ∈ xs → x ∈ (y & xs)

-- one list after the other
abbrev pub ◌⧺◌ : Forms → Forms → Forms
∅ ⧺ ys = ys
(x & xs) ⧺ ys = x & (xs ⧺ ys)

-- some form of the list passes the test
abbrev pub any : (Form → Bool) → Forms → Bool
any p ∅ = false
any p (x & xs) = p x || any p xs

-- how many forms a form is made of, itself among them: a bound for the recursions over two forms
abbrev mutual
  pub size : Form → ℕ
  size (form ls rs) = suc (sizes ls + sizes rs)

  pub sizes : Forms → ℕ
  sizes ∅ = 0
  sizes (g & gs) = size g + sizes gs
