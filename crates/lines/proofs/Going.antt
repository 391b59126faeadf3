-- How the steps over a line join.
-- Assumes nothing.
use Rattle.std.proofs.Common.{◌≡◌, ℕ, ◌+◌, ◌<◌, ◌≤◌, List, [], ◌∷◌, ◌++◌, length, get_or, drop, sym, refl, ap, ◌∙◌, subst, append_assoc, arith}
use mathlib.Core.Option.{Option, none, some}
use Rattle.std.proofs.lemmas.List.{drop_more, length-append}
use Rattle.lines.specs.Machine.{Symbol, just, letters, rules, pick, onto, next, depth, Stands}
use Rattle.lines.specs.Reading.{Spans, Goes, Fails}
use Rattle.calls.specs.declared.fault.TextFault.{TextFault}
use Rattle.calls.specs.declared.fault.TextFault.TheVariants.{WrongByte, EarlyEnd, TooDeep}
use Rattle.lines.proofs.Machine.{next_under}
use Rattle.lines.proofs.Depth.{depth_++}
use Rattle.lines.proofs.Standing.{stands_more, stands_wrong, stands_deep, stands_early}

pub spans_nil : (t : List ℕ) (i : ℕ) → Spans t i i []
spans_nil t i = record { bytes = refl; ends = omega arith }

pub spans_one : (t : List ℕ) (i : ℕ) → i < length t → Spans t i (i + 1) (get_or t i 0 ∷ [])
spans_one t i l = record { bytes = drop_more t i 0 l; ends = refl }

pub spans_++ : {t : List ℕ} {i j l : ℕ} {w v : List ℕ} → Spans t i j w → Spans t j l v → Spans t i l (w ++ v)
spans_++ {t} {i} {j} {l} {w} {v} a b =
    let e = length-append w v in
    let p = a.ends in
    let q = b.ends in
    record { bytes = a.bytes ∙ (ap (λ z. w ++ z) b.bytes ∙ sym (append_assoc w v (drop l t))); ends = omega arith }

pub goes_nil : (t : List ℕ) (i : ℕ) (s : List Symbol) → Goes t i i s s []
goes_nil t i s = record { passes = λ k d h. h; spans = spans_nil t i }

pub goes_++ : {t : List ℕ} {i j l : ℕ} {s s' s'' : List Symbol} {w v : List ℕ} → Goes t i j s s' w → Goes t j l s' s'' v → Goes t i l s s'' (w ++ v)
goes_++ a b = record { passes = λ k d h. b.passes k d (a.passes k d h); spans = spans_++ a.spans b.spans }

-- with more symbols below
pub goes_under : {t : List ℕ} {i j : ℕ} {s s' : List Symbol} {w : List ℕ} (r : List Symbol) → depth r ≡ 0 → Goes t i j s s' w → Goes t i j (s ++ r) (s' ++ r) w
goes_under {t} {i} {j} {s} {s'} r e a =
    record { passes = λ k d h. let f = depth_++ r k in subst (λ z. Stands t j z) (sym (append_assoc s' r k)) (a.passes (r ++ k) (omega arith) (subst (λ z. Stands t i z) (append_assoc s r k) h)); spans = a.spans }

pub fails_under : {t : List ℕ} {i : ℕ} {s : List Symbol} {f : TextFault} (r : List Symbol) → depth r ≡ 0 → Fails t i s f → Fails t i (s ++ r) f
fails_under {t} {i} {s} r e a = record { faulty = λ k d h. let f = depth_++ r k in a.faulty (r ++ k) (omega arith) (subst (λ z. Stands t i z) (append_assoc s r k) h) }

pub fails_after : {t : List ℕ} {i j : ℕ} {s s' : List Symbol} {w : List ℕ} {f : TextFault} → Goes t i j s s' w → Fails t j s' f → Fails t i s f
fails_after a b = record { faulty = λ k d h. b.faulty k d (a.passes k d h) }

-- one byte
none_under : (x : Symbol) (s k : List Symbol) (b : ℕ) → next (x ∷ s) b ≡ none → next (x ∷ (s ++ k)) b ≡ none
none_under x s k b e = go (pick b (rules x)) e
  where
    go : (q : Option (List Symbol)) → onto q s ≡ none → onto q (s ++ k) ≡ none
    go none d = refl
    go (some r) d = let z : ◌≡◌ {A = ℕ} 0 1 = cc in absurd (omega arith)

pub goes_one : (t : List ℕ) (i : ℕ) (s s' : List Symbol) → i < length t → next s (get_or t i 0) ≡ some s' → depth s' ≤ 96 → Goes t i (i + 1) s s' (get_or t i 0 ∷ [])
goes_one t i s s' l e d = record {
  passes = λ k z h. let f = depth_++ s' k in stands_more h (s' ++ k) l (next_under s s' k (get_or t i 0) e) (omega arith);
  spans = spans_one t i l;
}

pub fails_wrong : (t : List ℕ) (i : ℕ) (x : Symbol) (s : List Symbol) → i < length t → next (x ∷ s) (get_or t i 0) ≡ none → Fails t i (x ∷ s) (WrongByte i)
fails_wrong t i x s l e = record { faulty = λ k d h. stands_wrong h l (none_under x s k (get_or t i 0) e) }

pub fails_early : (t : List ℕ) (i : ℕ) (x : Symbol) (s : List Symbol) → length t ≤ i → Fails t i (x ∷ s) (EarlyEnd i)
fails_early t i x s l = record { faulty = λ k d h. stands_early h l }

-- a word, letter by letter
pub depth_letters : (w : List ℕ) → depth (letters w) ≡ 0
depth_letters [] = refl
depth_letters (b ∷ w) = let e = depth_letters w in omega arith

pub letters_at : (w : List ℕ) (n : ℕ) → n < length w → letters (drop n w) ≡ just (get_or w n 0) ∷ letters (drop (n + 1) w)
letters_at w n l = ap letters (drop_more w n 0 l)

pub fails_deep : (t : List ℕ) (i : ℕ) (s s' : List Symbol) → i < length t → next s (get_or t i 0) ≡ some s' → depth s' ≡ 97 → Fails t i s (TooDeep i)
fails_deep t i s s' l e d = record { faulty = λ k z h. let f = depth_++ s' k in stands_deep h (s' ++ k) l (next_under s s' k (get_or t i 0) e) (omega arith) }
