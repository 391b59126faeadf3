-- What a look-up's proof needs: the forms of the brackets closed so far are nodes', and each open bracket has the numbers of its options, as written.
-- Assumes nothing.
use Rattle.std.proofs.Common.{◌≡◌, ℕ, ◌<◌, List, [], ◌∷◌, ◌++◌, length, get_or, sym, refl, ap, ◌∙◌, subst, ap₂}
use Rattle.std.specs.List.{AllByRecursion}
use Rattle.games.specs.Form.{Form, Forms, form, ∅, ◌&◌, ◌⧺◌, lefts, rights}
use Rattle.games.specs.Numbered.{Lists, each, form_by}
use Rattle.games.specs.Text.{Mark, open_mark, bar, close_mark, comma, text}
use Rattle.games.specs.Reader.{State, wants, done, next, Alive, at, brackets, outside}
use Rattle.calls.specs.Rows.{Rows, no_numbers, node, Below}
use Rattle.calls.specs.Answers.{told, refused_at}
use Rattle.calls.specs.Texts.{Written, closings}
use Rattle.calls.specs.Reading.{Stands, Listed, LooksUp}
use Rattle.calls.specs.Sound.{Sound}
use Rattle.calls.proofs.Evaluating.{each_++}
use Rattle.calls.proofs.Written.{rows_as_written}
use Rattle.calls.specs.Brackets.{put_outside}
use Rattle.calls.proofs.Bracketed.{closed_parts, closing, close_parts, open_same, bar_same, comma_same, Frames, frames_open, frames_bar, frames_comma, frames_close, closing_lists, last_form, split_at}

-- the numbers are nodes', and their forms are the given ones
pub record Names (rows : Rows) (ns : List ℕ) (gs : Forms) : Type 0 where
  pub below : AllByRecursion (λ m. m < length rows) ns
  pub stand_for : each (node rows) ns ≡ gs

names_none : (rows : Rows) → Names rows [] ∅
names_none rows = record { below = tt; stand_for = refl }

all_push : {A : Type 0} (P : A → Type 0) (xs : List A) (x : A) → AllByRecursion P xs → P x → AllByRecursion P (xs ++ x ∷ [])
all_push P [] x a p = (p, tt)
all_push P (y ∷ xs) x a p = (a.0, all_push P xs x a.1 p)

names_push : (rows : Rows) (n : ℕ) (g : Form) → Stands rows g n → (ns : List ℕ) (gs : Forms) → Names rows ns gs → Names rows (ns ++ n ∷ []) (gs ⧺ (g & ∅))
names_push rows n g s ns gs x = record {
  below = all_push (λ m. m < length rows) ns n x.below s.inside;
  stand_for = each_++ (node rows) ns (n ∷ []) ∙ ap₂ (λ xs y. xs ⧺ (y & ∅)) x.stand_for s.as_written;
}

-- The reader stands at q: the forms closed so far are nodes', and the numbers of the open brackets are kept.
pub record LookedUp (rows : Rows) (q : State) (frames : List Lists) : Type 0 where
  pub listed : AllByRecursion (Listed rows) (closed_parts q)
  pub numbers : Frames (Names rows) (brackets q) frames

module _ (rows : Rows) where
  pub look_begins : LookedUp rows (wants []) []
  look_begins = record { listed = tt; numbers = tt }

  moved : (q p : State) (ls ks : List Lists) → closed_parts p ≡ closed_parts q → Frames (Names rows) (brackets p) ks → LookedUp rows q ls → LookedUp rows p ks
  moved q p ls ks e f x = record { listed = subst (AllByRecursion (Listed rows)) (sym e) x.listed; numbers = f }

  pub look_opens : (q : State) (ls : List Lists) → Alive (next q open_mark) → LookedUp rows q ls → LookedUp rows (next q open_mark) (no_numbers ∷ ls)
  look_opens q ls a x = moved q (next q open_mark) ls (no_numbers ∷ ls) (open_same q a) (frames_open (Names rows) (names_none rows) q ls a x.numbers) x

  pub look_bars : (q : State) (ls : List Lists) → Alive (next q bar) → LookedUp rows q ls → LookedUp rows (next q bar) ls
  look_bars q ls a x = moved q (next q bar) ls ls (bar_same q a) (frames_bar (Names rows) (names_none rows) q ls a x.numbers) x

  pub look_commas : (q : State) (ls : List Lists) → Alive (next q comma) → LookedUp rows q ls → LookedUp rows (next q comma) ls
  look_commas q ls a x = moved q (next q comma) ls ls (comma_same q a) (frames_comma (Names rows) (names_none rows) q ls a x.numbers) x

  lists_of : (g : Form) (l : Lists) → each (node rows) l.left ≡ lefts g → each (node rows) l.right ≡ rights g → form_by (node rows) l ≡ g
  lists_of (form xs ys) l p q = ap₂ form p q

  -- the innermost bracket's lists are row n, or no row: then its form is node n's, or no node's
  module _ (sound : Sound rows) (q : State) (l : Lists) (ls : List Lists) (alive : Alive (next q close_mark)) (x : LookedUp rows q (l ∷ ls)) where
    names : Names rows l.left (lefts (closing q)) × Names rows l.right (rights (closing q))
    names = closing_lists (Names rows) q l ls alive x.numbers

    inside : Below (length rows) l
    inside = record { on_left = names.0.below; on_right = names.1.below }

    spelt : form_by (node rows) l ≡ closing q
    spelt = lists_of (closing q) l names.0.stand_for names.1.stand_for

    pub row_stands : (n : ℕ) → n < length rows → get_or rows n no_numbers ≡ l → Stands rows (closing q) n
    row_stands n k e = record { inside = k; as_written = (rows_as_written rows sound n l k inside).1 e ∙ spelt }

    pub no_row_stands : ((n : ℕ) → n < length rows → ¬ (get_or rows n no_numbers ≡ l)) → ¬ Listed rows (closing q)
    no_row_stands f y = f y.at y.stands.inside ((rows_as_written rows sound y.at l y.stands.inside inside).0 (y.stands.as_written ∙ sym spelt))

    -- a closing bracket is found
    pub look_closes : (n : ℕ) → n < length rows → get_or rows n no_numbers ≡ l → LookedUp rows (next q close_mark) (put_outside n (outside q) ls)
    look_closes n k e =
        let s = row_stands n k e in
        record {
          listed = subst (AllByRecursion (Listed rows)) (sym (close_parts q alive)) (all_push (Listed rows) (closed_parts q) (closing q) x.listed (record { at = n; stands = s }));
          numbers = frames_close (Names rows) n (closing q) (names_push rows n (closing q) s) q l ls refl alive x.numbers;
        }

  -- the last one is the whole form's
  pub look_ends : (q : State) (l : Lists) (ls : List Lists) (t : List ℕ) (g : Form) (n : ℕ) → Sound rows → Written t g → next q close_mark ≡ done g → LookedUp rows q (l ∷ ls)
      → n < length rows → get_or rows n no_numbers ≡ l → LooksUp rows t (told n)
  look_ends q l ls t g n sound w e x k r =
      let a : Alive (next q close_mark) = subst Alive (sym e) tt in
      LooksUp.listed g n w (subst (λ h. Stands rows h n) (last_form g q e) (row_stands sound q l ls a x n k r))

  -- a closing bracket that is not found ends the look-up, and its place is named
  pub look_misses : (t : List ℕ) (g : Form) (ms rest : List Mark) (l : Lists) (ls : List Lists) → Sound rows → Written t g → text g ≡ ms ++ close_mark ∷ rest → LookedUp rows (at ms) (l ∷ ls)
      → ((n : ℕ) → n < length rows → ¬ (get_or rows n no_numbers ≡ l)) → LooksUp rows t (refused_at 9 (length ms))
  look_misses t g ms rest l ls sound w e x f =
      let y = split_at g ms rest e in
      let place : get_or (closings 0 t) (length (closed_parts (at ms))) 0 ≡ length ms = ap (λ u. get_or (closings 0 u) (length (closed_parts (at ms))) 0) (sym w.by_form) ∙ y.place in
      subst (λ p. LooksUp rows t (refused_at 9 p)) place
      (LooksUp.missing g (closing (at ms)) (closed_parts (at ms)) y.behind w y.split x.listed (no_row_stands sound (at ms) l ls y.alive x f))
