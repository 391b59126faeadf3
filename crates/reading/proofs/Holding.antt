-- The frames of the code hold what the open brackets do, as brackets open and close.
-- Assumes nothing.
use Rattle.std.proofs.Common.{◌≡◌, ℕ, suc, List, [], ◌∷◌, length, Some, Option, sym, refl, ap, ◌∙◌, subst, arith}
use Rattle.std.specs.Prelude.{IsSome}
use Rattle.games.specs.Form.{Form, Forms, ∅}
use Rattle.games.specs.Numbered.{Lists}
use Rattle.games.specs.declared.side.Side.{Side}
use Rattle.games.specs.Reader.{Bracket, in_left, in_right, put, finish, brackets}
use Rattle.calls.specs.Rows.{no_numbers}
use Rattle.calls.specs.Brackets.{put_number, put_outside}
use Rattle.reading.specs.declared.frames.Frame.{Frame}
use Rattle.reading.specs.Held.{Fresh, Held, Holds, Popped, Turned}
use Rattle.reading.specs.Sided.{with_number}

module _ {A : Type 0} (keeps : A → Lists → Type 0) where
  abbrev frame : Side → A → Frame A
  frame s p = record { side = s; options = p }

  pub holds_length : (fs : List (Frame A)) (bs : List Bracket) (ls : List Lists) → Holds keeps fs bs ls → length fs ≡ length bs
  holds_length [] [] [] h = refl
  holds_length [] [] (l ∷ ls) h = absurd h
  holds_length [] (b ∷ bs) ls h = absurd h
  holds_length (f ∷ fs) [] ls h = absurd h
  holds_length (f ∷ fs) (b ∷ bs) [] h = absurd h
  holds_length (f ∷ fs) (b ∷ bs) (l ∷ ls) h = ap suc (holds_length fs bs ls h.1)

  -- where no bracket is open there are no numbers
  pub holds_none : (fs : List (Frame A)) (bs : List Bracket) (ls : List Lists) → Holds keeps fs bs ls → bs ≡ [] → ls ≡ []
  holds_none [] [] [] h e = refl
  holds_none [] [] (l ∷ ls) h e = absurd h
  holds_none [] (b ∷ bs) ls h e = absurd h
  holds_none (f ∷ fs) [] ls h e = absurd h
  holds_none (f ∷ fs) (b ∷ bs) [] h e = absurd h
  holds_none (f ∷ fs) (b ∷ bs) (l ∷ ls) h e = let z : ◌≡◌ {A = ℕ} 0 1 = cc in absurd (omega arith)

  pub holds_open : (f : Frame A) (fs later : List (Frame A)) (bs : List Bracket) (ls : List Lists) → Fresh keeps f → later ≡ f ∷ fs → Holds keeps fs bs ls → Holds keeps later (in_left ∅ ∷ bs) (no_numbers ∷ ls)
  holds_open f fs later bs ls n e h = subst (λ x. Holds keeps x (in_left ∅ ∷ bs) (no_numbers ∷ ls)) (sym e) (record { in_side = n.0; numbers = n.1 }, h)

  pub holds_bar : (fs later : List (Frame A)) (bs : List Bracket) (ls : List Lists) (gs hs : Forms) → Turned fs later → Holds keeps fs (in_left gs ∷ bs) ls → Holds keeps later (in_right gs hs ∷ bs) ls
  holds_bar [] later bs ls gs hs e h = absurd h
  holds_bar (f ∷ fs) later bs [] gs hs e h = absurd h
  holds_bar (f ∷ fs) later bs (l ∷ ls) gs hs e h = subst (λ x. Holds keeps x (in_right gs hs ∷ bs) (l ∷ ls)) (sym e) (record { in_side = refl; numbers = h.0.numbers }, h.1)

  -- the innermost bracket is there
  pub holds_some : (fs later : List (Frame A)) (b : Bracket) (bs : List Bracket) (ls : List Lists) (r : Option A) → Popped fs r later → Holds keeps fs (b ∷ bs) ls → IsSome r
  holds_some [] later b bs ls r p h = absurd h
  holds_some (f ∷ fs) later b bs ls r p h = subst IsSome (sym p.0) refl

  -- its numbers, and what the brackets outside have
  pub record Inner (o : A) (later : List (Frame A)) (bs : List Bracket) (ls : List Lists) : Type 0 where
    pub numbers : Lists
    pub rest : List Lists
    pub are : ls ≡ numbers ∷ rest
    pub kept : keeps o numbers
    pub held : Holds keeps later bs rest

  pub holds_close : (fs later : List (Frame A)) (b : Bracket) (bs : List Bracket) (ls : List Lists) (r : Option A) (o : A) → r ≡ Some o → Popped fs r later → Holds keeps fs (b ∷ bs) ls → Inner o later bs ls
  holds_close [] later b bs ls r o e p h = absurd h
  holds_close (f ∷ fs) later b bs [] r o e p h = absurd h
  holds_close (f ∷ fs) later b bs (l ∷ ls) r o e p h =
      let told : Some o ≡ Some f.options = sym e ∙ p.0 in
      let same : o ≡ f.options = cc in
      record { numbers = l; rest = ls; are = refl; kept = subst (λ x. keeps x l) (sym same) h.0.numbers; held = subst (λ x. Holds keeps x bs ls) (sym p.1) h.1 }

  module _ (f : Frame A) (p : A) (m : ℕ) (puts : (l : Lists) → keeps f.options l → keeps p (with_number f.side m l)) where
    held_put : (g : Form) (b : Bracket) (l : Lists) → Held keeps f b l → Held keeps (frame f.side p) (put g b) (put_number m b l)
    held_put g (in_left gs) l h = record { in_side = h.in_side; numbers = subst (λ s. keeps p (with_number s m l)) h.in_side (puts l h.numbers) }
    held_put g (in_right gs hs) l h = record { in_side = h.in_side; numbers = subst (λ s. keeps p (with_number s m l)) h.in_side (puts l h.numbers) }

    put_on : (fs : List (Frame A)) (g : Form) (bs : List Bracket) (ls : List Lists) → Holds keeps (f ∷ fs) bs ls → Holds keeps (frame f.side p ∷ fs) (brackets (finish g bs)) (put_outside m bs ls)
    put_on fs g [] ls h = absurd h
    put_on fs g (b ∷ bs) [] h = absurd h
    put_on fs g (b ∷ bs) (l ∷ ls) h = (held_put g b l h.0, h.1)

    pub holds_put : (was fs later : List (Frame A)) → was ≡ f ∷ fs → later ≡ frame f.side p ∷ fs → (g : Form) (bs : List Bracket) (ls : List Lists) → Holds keeps was bs ls
        → Holds keeps later (brackets (finish g bs)) (put_outside m bs ls)
    holds_put was fs later e d g bs ls h = subst (λ x. Holds keeps x (brackets (finish g bs)) (put_outside m bs ls)) (sym d) (put_on fs g bs ls (subst (λ x. Holds keeps x bs ls) e h))
