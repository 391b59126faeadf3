-- Numerals: digit by digit.
-- Assumes nothing.
use Rattle.std.proofs.Common.{◌≡◌, ℕ, zero, suc, ◌+◌, ◌*◌, ◌/◌, ◌%◌, ◌<◌, List, [], ◌∷◌, ◌++◌, map, get_or, sym, refl, ap, ◌∙◌, subst, mod-eq_of_lt, arith}
use native.Mathlib.Nat.{div-eq_of_lt}
use lib.Arith.{digits_div, digits_mod}
use Rattle.std.specs.Int.Digits.{digits_of, AllBelowBase}
use Rattle.std.proofs.lemmas.Int.Digits.{digits_of_step, all_below_base_digits_of, first_digits_of}
use Rattle.std.proofs.lemmas.List.{map-append}
use Rattle.lines.specs.Syntax.{numeral}

abbrev pub ascii : ℕ → ℕ
ascii digit = 48 + digit

pub numeral_zero : numeral 0 ≡ 48 ∷ []
unfolding numeral
numeral_zero = refl

pub numeral_digits : (n : ℕ) → 0 < n → numeral n ≡ map ascii (digits_of 10 n)
unfolding numeral
numeral_digits zero l = absurd (omega arith)
numeral_digits (suc n) l = refl

pub numeral_one : (d : ℕ) → 0 < d → d < 10 → numeral d ≡ ascii d ∷ []
numeral_one d p l =
    let q : d / 10 ≡ 0 = div-eq_of_lt l in
    let r : d % 10 ≡ d = mod-eq_of_lt l in
    numeral_digits d p ∙ ap (map ascii) (digits_of_step 10 d (omega arith) p ∙ (ap (λ n. digits_of 10 n ++ (d % 10 ∷ [])) q ∙ ap (λ n. n ∷ []) r))

pub numeral_more : (n d : ℕ) → 0 < n → d < 10 → numeral (n * 10 + d) ≡ numeral n ++ (ascii d ∷ [])
numeral_more n d p l =
    let q : (n * 10 + d) / 10 ≡ n = digits_div n l in
    let r : (n * 10 + d) % 10 ≡ d = digits_mod n l in
    let big : 0 < n * 10 + d = omega arith in
    numeral_digits (n * 10 + d) big
    ∙ (ap (map ascii) (digits_of_step 10 (n * 10 + d) (omega arith) big)
    ∙ (ap (λ m. map ascii (digits_of 10 m ++ ((n * 10 + d) % 10 ∷ []))) q
    ∙ (ap (λ m. map ascii (digits_of 10 n ++ (m ∷ []))) r
    ∙ (map-append ascii (digits_of 10 n) (d ∷ []) ∙ ap (λ m. m ++ (ascii d ∷ [])) (sym (numeral_digits n p))))))

-- the digits of a positive number: a first one that is not 0, and more
pub record Figures (n : ℕ) : Type 0 where
  pub first : ℕ
  pub others : List ℕ
  pub positive : 0 < first
  pub small : first < 10
  pub under : AllBelowBase 10 others
  pub are : numeral n ≡ ascii first ∷ map ascii others

pub figures : (n : ℕ) → 0 < n → Figures n
figures n p = go (digits_of 10 n) refl
  where
    go : (ds : List ℕ) → digits_of 10 n ≡ ds → Figures n
    go [] e = let h : 0 < 0 = subst (λ v. 0 < get_or v 0 0) e (first_digits_of 10 n (omega arith) p) in absurd (omega arith)
    go (d ∷ ds) e =
        let u : AllBelowBase 10 (d ∷ ds) = subst (λ v. AllBelowBase 10 v) e (all_below_base_digits_of 10 n (omega arith)) in
        record { first = d; others = ds; positive = subst (λ v. 0 < get_or v 0 0) e (first_digits_of 10 n (omega arith) p); small = u.0; under = u.1; are = numeral_digits n p ∙ ap (map ascii) e }

-- what holds of each digit
pub digit_cases : (P : ℕ → Type 0) → P 0 → P 1 → P 2 → P 3 → P 4 → P 5 → P 6 → P 7 → P 8 → P 9 → (d : ℕ) → d < 10 → P d
digit_cases P a b c d e f g h i j zero l = a
digit_cases P a b c d e f g h i j (suc zero) l = b
digit_cases P a b c d e f g h i j (suc (suc zero)) l = c
digit_cases P a b c d e f g h i j (suc (suc (suc zero))) l = d
digit_cases P a b c d e f g h i j (suc (suc (suc (suc zero)))) l = e
digit_cases P a b c d e f g h i j (suc (suc (suc (suc (suc zero))))) l = f
digit_cases P a b c d e f g h i j (suc (suc (suc (suc (suc (suc zero)))))) l = g
digit_cases P a b c d e f g h i j (suc (suc (suc (suc (suc (suc (suc zero))))))) l = h
digit_cases P a b c d e f g h i j (suc (suc (suc (suc (suc (suc (suc (suc zero)))))))) l = i
digit_cases P a b c d e f g h i j (suc (suc (suc (suc (suc (suc (suc (suc (suc zero))))))))) l = j
digit_cases P a b c d e f g h i j (suc (suc (suc (suc (suc (suc (suc (suc (suc (suc n)))))))))) l = absurd (omega arith)
