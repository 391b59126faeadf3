-- The text of a node, of its options, and of the first options of a list.
-- Assumes nothing.
use Rattle.std.proofs.Common.{◌≡◌, ℕ, zero, suc, ◌+◌, ◌<◌, ◌≤◌, min, ◌⊎◌, List, [], ◌∷◌, ◌++◌, map, length, get_or, take, drop, Some, None, Option, sym, refl, ap, ◌∙◌, ⊎_elim, arith}
use Rattle.std.proofs.ByRecursion.{All-from_get_or}
use Rattle.std.proofs.lemmas.List.{append-nil, append_assoc, get_or_past, length-append, map-append, take-append-drop, take_more}
use Rattle.std.proofs.lemmas.Bool.{cases_lt}
use Rattle.games.specs.declared.side.Side.{Side}
use Rattle.games.specs.declared.side.Side.TheVariants.{Left, Right}
use Rattle.std.specs.Option.{SomeIff}
use Rattle.games.specs.Form.{Form, Forms, ∅, ◌&◌, ◌⧺◌}
use Rattle.games.specs.Numbered.{Lists, list_of, each, form_by}
use Rattle.games.specs.Text.{byte, comma, close_mark, bar, text, texts, more, bytes}
use Rattle.rulesets.proofs.Positions.{left_some, nth_some}
use Rattle.stores.specs.Rows.{Lawful, row_at}
use Rattle.calls.specs.Rows.{Rows, Below, node}
use Rattle.calls.proofs.Evaluating.{each_++}
use Rattle.calls.proofs.Rows.{node_law, node_past}
use Rattle.dictionary.specs.Printing.{options_text}

-- a text of options goes on behind its first ones with the others, each after a comma
more_⧺ : (xs ys : Forms) → more (xs ⧺ ys) ≡ more xs ++ more ys
more_⧺ ∅ ys = refl
more_⧺ (x & xs) ys = ap (λ t. comma ∷ (text x ++ t)) (more_⧺ xs ys) ∙ ap (λ t. comma ∷ t) (sym (append_assoc (text x) (more xs) (more ys)))

texts_⧺ : (x : Form) (xs ys : Forms) → texts ((x & xs) ⧺ ys) ≡ texts (x & xs) ++ more ys
texts_⧺ x xs ys = ap (λ t. text x ++ t) (more_⧺ xs ys) ∙ sym (append_assoc (text x) (more xs) (more ys))

-- the comma before the number at an index, unless that is the first
abbrev pub gap : ℕ → List ℕ
gap zero = []
gap (suc i) = 44 ∷ []

module _ (f : ℕ → Form) where
  -- the text of the numbers of a list
  abbrev pub written : List ℕ → List ℕ
  written xs = map byte (texts (each f xs))

  written_push : (x : ℕ) (xs : List ℕ) (y : ℕ) → written ((x ∷ xs) ++ y ∷ []) ≡ written (x ∷ xs) ++ (44 ∷ bytes (f y))
  written_push x xs y =
      ap (λ gs. map byte (texts gs)) (each_++ f (x ∷ xs) (y ∷ []))
      ∙ ap (map byte) (texts_⧺ (f x) (each f xs) (f y & ∅))
      ∙ map-append byte (texts (each f (x ∷ xs))) (comma ∷ (text (f y) ++ []))
      ∙ ap (λ t. written (x ∷ xs) ++ (44 ∷ map byte t)) (append-nil (text (f y)))

  written_first : (y : ℕ) → written (y ∷ []) ≡ bytes (f y)
  written_first y = ap (map byte) (append-nil (text (f y)))

  -- one more number, at index i
  pub written_more : (xs : List ℕ) (i y : ℕ) → i < length xs → get_or xs i 0 ≡ y → written (take (i + 1) xs) ≡ written (take i xs) ++ (gap i ++ bytes (f y))
  written_more xs i y h e = ap written (take_more xs i 0 h ∙ ap (λ z. take i xs ++ z ∷ []) e) ∙ step xs i h
    where
      step : (xs : List ℕ) (i : ℕ) → i < length xs → written (take i xs ++ y ∷ []) ≡ written (take i xs) ++ (gap i ++ bytes (f y))
      step xs zero h = written_first y
      step [] (suc i) h = absurd (omega arith)
      step (x ∷ xs) (suc i) h = written_push x (take i xs) y

  -- the first numbers of a list have the front of its text
  parts : (xs ys : List ℕ) → (rest : List ℕ) × (written (xs ++ ys) ≡ written xs ++ rest)
  parts [] ys = (written ys, refl)
  parts (x ∷ xs) ys = (map byte (more (each f ys)), ap (λ gs. map byte (texts gs)) (each_++ f (x ∷ xs) ys) ∙ ap (map byte) (texts_⧺ (f x) (each f xs) (each f ys)) ∙ map-append byte (texts (each f (x ∷ xs))) (more (each f ys)))

  pub written_front : (xs : List ℕ) (i : ℕ) → length (written (take i xs)) ≤ length (written xs)
  written_front xs i =
      let (rest, e) = parts (take i xs) (drop i xs) in
      let l : length (written xs) ≡ length (written (take i xs)) + length rest = ap length (ap written (sym (take-append-drop i xs)) ∙ e) ∙ length-append (written (take i xs)) rest in
      omega arith

-- the text of a node from the texts of its options
form_text : (f : ℕ → Form) (l : Lists) → bytes (form_by f l) ≡ 123 ∷ (written f l.left ++ (124 ∷ (written f l.right ++ 125 ∷ [])))
form_text f l =
    ap (λ t. 123 ∷ t) (map-append byte (texts (each f l.left)) (bar ∷ (texts (each f l.right) ++ (close_mark ∷ [])))
    ∙ ap (λ t. written f l.left ++ (124 ∷ t)) (map-append byte (texts (each f l.right)) (close_mark ∷ [])))

module _ (rows : Rows) (room : ℕ) (law : Lawful rows room) where
  below : (n : ℕ) → Below n (row_at rows n)
  below n = record { on_left = All-from_get_or (λ m. m < n) (row_at rows n).left 0 (law.lower Left n); on_right = All-from_get_or (λ m. m < n) (row_at rows n).right 0 (law.lower Right n) }

  pub node_reads : (n : ℕ) → node rows n ≡ form_by (node rows) (row_at rows n)
  node_reads n = ⊎_elim (λ h. node_law rows n h (below n)) (λ h. node_past rows n h ∙ sym (ap (form_by (node rows)) (get_or_past rows n _ h))) (either n)
    where
      either : (n : ℕ) → (n < length rows) ⊎ (length rows ≤ n)
      either n = cases_lt n (length rows)

  pub node_text : (n : ℕ) → bytes (node rows n) ≡ 123 ∷ (options_text rows Left n ++ (124 ∷ (options_text rows Right n ++ 125 ∷ [])))
  node_text n = ap bytes (node_reads n) ∙ form_text (node rows) (row_at rows n)

  -- its length
  pub node_length : (n : ℕ) → length (bytes (node rows n)) ≡ 3 + (length (options_text rows Left n) + length (options_text rows Right n))
  node_length n =
      let a = options_text rows Left n in
      let b = options_text rows Right n in
      let e = ap length (node_text n) in
      let l = length-append a (124 ∷ (b ++ 125 ∷ [])) in
      let r = length-append b (125 ∷ []) in
      omega arith

length_gap : (i : ℕ) → length (gap i) ≡ min i 1
length_gap zero = refl
length_gap (suc i) = omega arith

-- what the number at an index adds to the length
length_more : (f : ℕ → Form) (xs : List ℕ) (i y : ℕ) → i < length xs → get_or xs i 0 ≡ y → length (written f (take (i + 1) xs)) ≡ length (written f (take i xs)) + (min i 1 + length (bytes (f y)))
length_more f xs i y h e =
    let l = ap length (written_more f xs i y h e) in
    let m = length-append (written f (take i xs)) (gap i ++ bytes (f y)) in
    let n = length-append (gap i) (bytes (f y)) in
    let k = length_gap i in
    omega arith

-- the text of the options before an index
abbrev pub before : Rows → Side → ℕ → ℕ → List ℕ
before rows s n i = written (node rows) (take i (list_of s (row_at rows n)))

module _ (rows : Rows) (room : ℕ) (law : Lawful rows room) (s : Side) (n : ℕ) where
  module _ (i y : ℕ) (rest : List ℕ) (there : drop i (list_of s (row_at rows n)) ≡ y ∷ rest) where
    at_index : (i < length (list_of s (row_at rows n))) × (get_or (list_of s (row_at rows n)) i 0 ≡ y)
    at_index = let xs = list_of s (row_at rows n) in nth_some xs i y (left_some xs i y rest there).0

    -- an option has a lower number
    pub option_falls : y < n
    option_falls =
        let (h, e) = at_index in
        let k = law.lower s n i h in
        omega arith

    -- the text grows by an option's, behind a comma unless it is the first
    pub before_more : before rows s n (i + 1) ≡ before rows s n i ++ (gap i ++ bytes (node rows y))
    before_more = let (h, e) = at_index in written_more (node rows) (list_of s (row_at rows n)) i y h e

    pub before_longer : length (before rows s n (i + 1)) ≡ length (before rows s n i) + (min i 1 + length (bytes (node rows y)))
    before_longer = let (h, e) = at_index in length_more (node rows) (list_of s (row_at rows n)) i y h e

    -- the options behind it are left
    pub then_left : rest ≡ drop (i + 1) (list_of s (row_at rows n))
    then_left = (left_some (list_of s (row_at rows n)) i y rest there).1

  pub before_short : (i : ℕ) → length (before rows s n i) ≤ length (options_text rows s n)
  before_short i = written_front (node rows) (list_of s (row_at rows n)) i

-- what is left of a budget, in other words
pub checked_as : (r : Option ℕ) (a b : ℕ) (P Q : Type 0) → (P → Q) → (Q → P) → (P → a ≡ b) → SomeIff r P a → SomeIff r Q b
checked_as None a b P Q p q e c = λ h. c (q h)
checked_as (Some x) a b P Q p q e (h, k) = (p h, k ∙ e h)
