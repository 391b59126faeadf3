-- The bytes of a written strip: a character for each cell.
-- Assumes nothing.
use Rattle.std.proofs.Common.{◌≡◌, ℕ, suc, ◌+◌, ◌*◌, Bool, true, false, cond, eqb, List, [], ◌∷◌, ◌++◌, length, is_some, Some, None, Ok, Err, Option, Result, is_ok, sym, refl, ap, ◌∙◌, ap₂, arith}
use Rattle.std.specs.Option.{option_map}
use Rattle.std.proofs.lemmas.Bool.{cond-true, cond-false, cond_both, eqb-true, true≢false}
use Rattle.rulesets.specs.Rules.{Rules}
use Rattle.toads.specs.Toads.{toads as toads_rules}
use Rattle.toads.specs.Making.{sized}
use Rattle.toads.specs.Cells.{cell_of}
use Rattle.toads.specs.declared.cell.Cell.{Cell as Held}
use Rattle.toads.specs.declared.cell.Cell.TheVariants.{Empty, Toad, Frog}
use Rattle.toads.specs.Strips.{first_wrong, code_of, Read}
use Rattle.toads.specs.declared.text.Position.{Position}
use Rattle.toads.specs.declared.text.TextFault.{TextFault}
use Rattle.toads.specs.declared.text.TextFault.TheVariants.{Character, Size}
use Rattle.lines.specs.Syntax.{Items, Cell, toad, frog, blank, toads, spell_cell, spell_more, items_of}
use Rattle.boards.specs.Boards.{all, cells_code, cells_position, meaning}
use Rattle.boards.proofs.Same.{at_code, same_position}

-- the bytes of cells
abbrev pub spelt : List Cell → List ℕ
spelt cells = spell_more [] spell_cell cells

pub all_right : (cells : List Cell) → first_wrong (spelt cells) ≡ None
all_right [] = refl
all_right (toad ∷ cells) = ap (option_map suc) (all_right cells)
all_right (frog ∷ cells) = ap (option_map suc) (all_right cells)
all_right (blank ∷ cells) = ap (option_map suc) (all_right cells)

pub as_many : (cells : List Cell) → length (spelt cells) ≡ length cells
as_many [] = refl
as_many (toad ∷ cells) = ap suc (as_many cells)
as_many (frog ∷ cells) = ap suc (as_many cells)
as_many (blank ∷ cells) = ap suc (as_many cells)

pub same_code : (cells : List Cell) → code_of (spelt cells) ≡ cells_code cells
same_code [] = refl
same_code (toad ∷ cells) = ap (λ n. 1 + 4 * n) (same_code cells)
same_code (frog ∷ cells) = ap (λ n. 2 + 4 * n) (same_code cells)
same_code (blank ∷ cells) = ap (λ n. 0 + 4 * n) (same_code cells)

-- a character that stands for a cell is its byte
abbrev CellByte : ℕ → Option Held → Type 0
CellByte c o = is_some o ≡ true → (cell : Cell) × (c ∷ [] ≡ spell_cell cell)

cell_byte : (c : ℕ) → CellByte c (cell_of c)
cell_byte c =
    cond_both (eqb c 84) (Some Toad) (cond (eqb c 70) (Some Frog) (cond (eqb c 46) (Some Empty) None)) (CellByte c)
    (λ h _. (toad, ap (λ b. b ∷ []) (eqb-true c 84 h)))
    (λ _. cond_both (eqb c 70) (Some Frog) (cond (eqb c 46) (Some Empty) None) (CellByte c)
    (λ h _. (frog, ap (λ b. b ∷ []) (eqb-true c 70 h)))
    (λ _. cond_both (eqb c 46) (Some Empty) None (CellByte c)
    (λ h _. (blank, ap (λ b. b ∷ []) (eqb-true c 46 h)))
    (λ _ e. absurd (true≢false (sym e)))))

none_wrong : (b : Bool) (o : Option ℕ) → cond b (option_map suc o) (Some 0) ≡ None → (b ≡ true) × (o ≡ None)
none_wrong true None e = (refl, refl)
none_wrong true (Some i) e = let z : ◌≡◌ {A = ℕ} 0 1 = cc in absurd (omega arith)
none_wrong false o e = let z : ◌≡◌ {A = ℕ} 0 1 = cc in absurd (omega arith)

-- characters of which none is wrong are bytes of cells
cells_spelt : (text : List ℕ) → first_wrong text ≡ None → (cells : List Cell) × (text ≡ spelt cells)
cells_spelt [] e = ([], refl)
cells_spelt (c ∷ text) e =
    let w = none_wrong (is_some (cell_of c)) (first_wrong text) e in
    let here = cell_byte c w.0 in
    let rest = cells_spelt text w.1 in
    (here.0 ∷ rest.0, ap₂ ◌++◌ here.1 rest.1)

pub strip_spelt : (text : List ℕ) → first_wrong text ≡ None → sized (length text) ≡ true → (cells : Items Cell) × (text ≡ items_of (toads cells))
strip_spelt text e s =
    let w = cells_spelt text e in
    some (w.0) (w.1)
  where
    some : (cells : List Cell) → text ≡ spelt cells → (cells : Items Cell) × (text ≡ items_of (toads cells))
    some [] e = absurd (true≢false (sym s ∙ ap (λ t. sized (length t)) e))
    some (cell ∷ cells) e = (record { first = cell; more = cells }, e)

module _ (text : List ℕ) (cells : Items Cell) (e : text ≡ items_of (toads cells)) where
  -- no character of it is wrong
  strip_right : first_wrong text ≡ None
  strip_right = ap first_wrong e ∙ all_right (all cells)

  cells_are : length text ≡ length (all cells)
  cells_are = ap length e ∙ as_many (all cells)

  -- a strip that was read, and one whose size was refused
  pub strip_read : (R : Rules) (n : ℕ) → sized (length text) ≡ true → R ≡ toads_rules (length text) → n ≡ code_of text → meaning (toads cells) ≡ at_code R n
  strip_read R n s r c =
      cond-true (sized (length (all cells))) (Some (cells_position cells)) None (ap sized (sym cells_are) ∙ s)
      ∙ same_position (ap toads_rules (sym cells_are) ∙ sym r) (sym (same_code (all cells)) ∙ ap code_of (sym e) ∙ sym c)

  pub strip_refused : (r : Result Position TextFault) → Read text r → false ≡ is_ok r → meaning (toads cells) ≡ None
  strip_refused (Ok p) h b = absurd (true≢false (sym b))
  strip_refused (Err (Character i)) h b =
      let w : None ≡ Some i = sym strip_right ∙ h in
      let z : ◌≡◌ {A = ℕ} 0 1 = cc in
      absurd (omega arith)
  strip_refused (Err Size) h b = cond-false (sized (length (all cells))) (Some (cells_position cells)) None (ap sized (sym cells_are) ∙ h.1)
