-- The bytes of written rows, read one by one.
-- Assumes nothing.
use Rattle.std.proofs.Common.{◌≡◌, ℕ, suc, ◌+◌, ◌*◌, ◌^◌, ◌<◌, ◌≤◌, ltb, List, [], ◌∷◌, ◌++◌, length, Some, None, Option, refl, ap, ◌∙◌, ap₂, ⊎_elim, pow-suc, arith}
use lib.Bits.{bit_or}
use Rattle.std.proofs.lemmas.Nat.{or_comm, or_shifted, pow-add}
use Rattle.std.proofs.lemmas.Bool.{cond-true, cond-false, lt-ltb, le-ltb, cases_lt}
use Rattle.lines.specs.Syntax.{Square, vacant, filled, spell_square, spell_more}
use Rattle.boards.specs.declared.setup.rows.Begun.{Begun}
use Rattle.boards.specs.Boards.{square_bit, squares_code}
use Rattle.boards.specs.Stepping.{run}
use Rattle.boards.specs.RowsRead.{put, row_step}
use Rattle.boards.proofs.Running.{run_none}

-- the bytes of squares
abbrev pub spelt : List Square → List ℕ
spelt squares = spell_more [] spell_square squares

pub code_below : (qs : List Square) → squares_code qs < 2 ^ length qs
code_below [] = omega arith
code_below (vacant ∷ qs) = let k = code_below qs in omega (arith, pow-suc 2 (length qs))
code_below (filled ∷ qs) = let k = code_below qs in omega (arith, pow-suc 2 (length qs))

pub code_append : (xs ys : List Square) → squares_code (xs ++ ys) ≡ squares_code xs + 2 ^ length xs * squares_code ys
code_append [] ys = (let e : squares_code ys ≡ 0 + 1 * squares_code ys = omega arith in e)
code_append (x ∷ xs) ys =
    let k = code_append xs ys in
    let e : 2 ^ suc (length xs) * squares_code ys ≡ 2 * (2 ^ length xs * squares_code ys) = ap (λ p. p * squares_code ys) (pow-suc 2 (length xs)) ∙ turned (2 ^ length xs) (squares_code ys) in
    omega arith
  where
    turned : (a b : ℕ) → a * 2 * b ≡ 2 * (a * b)
    turned a b = grind arith

-- the state after squares that fit
abbrev pub after : Begun → List Square → Begun
after s qs = record { columns = s.columns; start = s.start; squares = s.squares + length qs; code = s.code + 2 ^ s.squares * squares_code qs }

same_rows : (c : Option ℕ) (at m n x y : ℕ) → m ≡ n → x ≡ y → ◌≡◌ {A = Begun} (record { columns = c; start = at; squares = m; code = x }) (record { columns = c; start = at; squares = n; code = y })
same_rows c at m n x y p q = ap₂ (λ (k w : ℕ). record { columns = c; start = at; squares = k; code = w }) p q

-- one square
bit_put : (code k b : ℕ) → code < 2 ^ k → bit_or code (b * 2 ^ k) ≡ code + 2 ^ k * b
bit_put code k b h = or_comm code (b * 2 ^ k) ∙ or_shifted b k code h ∙ turned b (2 ^ k) code
  where
    turned : (b p c : ℕ) → b * p + c ≡ c + p * b
    turned b p c = grind arith

abbrev one_more : Begun → Square → Begun
one_more s q = record { columns = s.columns; start = s.start; squares = s.squares + 1; code = s.code + 2 ^ s.squares * square_bit q }

put_one : (s : Begun) (q : Square) → s.squares < 30 → s.code < 2 ^ s.squares → put s (square_bit q) ≡ Some (one_more s q)
put_one s q h l =
    cond-true (ltb s.squares 30) (Some (record { columns = s.columns; start = s.start; squares = s.squares + 1; code = bit_or s.code (square_bit q * 2 ^ s.squares) })) None (lt-ltb _ _ h)
    ∙ ap Some (same_rows s.columns s.start _ _ _ _ refl (bit_put s.code s.squares (square_bit q) l))

put_none : (s : Begun) (b : ℕ) → 30 ≤ s.squares → put s b ≡ None
put_none s b h = cond-false (ltb s.squares 30) (Some (record { columns = s.columns; start = s.start; squares = s.squares + 1; code = bit_or s.code (b * 2 ^ s.squares) })) None (le-ltb _ _ h)

-- the byte of a square puts it
put_byte : (o : Option Begun) (s : Begun) (q : Square) (t : List ℕ) → put s (square_bit q) ≡ o → run row_step (Some s) (spell_square q ++ t) ≡ run row_step o t
put_byte o s vacant t e = ap (λ p. run row_step p t) e
put_byte o s filled t e = ap (λ p. run row_step p t) e

small_more : (s : Begun) (q : Square) → s.code < 2 ^ s.squares → (one_more s q).code < 2 ^ (one_more s q).squares
small_more s vacant l = let e = pow-add 2 s.squares 1 in omega arith
small_more s filled l = let e = pow-add 2 s.squares 1 in omega arith

after_more : (s : Begun) (q : Square) (qs : List Square) → after (one_more s q) qs ≡ after s (q ∷ qs)
after_more s q qs = same_rows s.columns s.start _ _ _ _ (omega arith) (ap (λ p. s.code + 2 ^ s.squares * square_bit q + p * squares_code qs) (pow-add 2 s.squares 1) ∙ grouped s.code (2 ^ s.squares) (square_bit q) (squares_code qs))
  where
    grouped : (c p b n : ℕ) → c + p * b + p * 2 * n ≡ c + p * (b + 2 * n)
    grouped c p b n = grind arith

after_none : (s : Begun) → s ≡ after s []
after_none s = same_rows s.columns s.start _ _ _ _ (omega arith) (omega arith)

-- squares that fit, and squares that are too many
pub put_all : (s : Begun) (qs : List Square) → s.squares + length qs ≤ 30 → s.code < 2 ^ s.squares → run row_step (Some s) (spelt qs) ≡ Some (after s qs)
put_all s [] h l = ap Some (after_none s)
put_all s (q ∷ qs) h l =
    put_byte (Some (one_more s q)) s q (spelt qs) (put_one s q (omega arith) l)
    ∙ put_all (one_more s q) qs (omega arith) (small_more s q l)
    ∙ ap Some (after_more s q qs)

pub put_too_many : (s : Begun) (qs : List Square) → s.squares ≤ 30 → 30 < s.squares + length qs → s.code < 2 ^ s.squares → run row_step (Some s) (spelt qs) ≡ None
put_too_many s [] f h l = absurd (omega arith)
put_too_many s (q ∷ qs) f h l = ⊎_elim
    (λ room. put_byte (Some (one_more s q)) s q (spelt qs) (put_one s q room l) ∙ put_too_many (one_more s q) qs (omega arith) (omega arith) (small_more s q l))
    (λ full. put_byte None s q (spelt qs) (put_none s (square_bit q) full) ∙ run_none row_step (spelt qs))
    (cases_lt s.squares 30)
