-- From one state of the reader to the next.
-- Assumes nothing.
use Rattle.std.proofs.Common.{◌≡◌, ℕ, ◌+◌, ◌<◌, ◌≤◌, cond, List, [], ◌∷◌, ◌++◌, length, get_or, take, drop, sym, refl, ap, ◌∙◌, subst, append-nil, arith}
use mathlib.Core.Option.{none, some}
use Rattle.std.proofs.lemmas.Bool.{eq-eqb, ne_eqb}
use Rattle.std.proofs.lemmas.List.{take_more, take_all, drop_all, drop_more}
use Rattle.calls.specs.declared.fault.TextFault.{TextFault}
use Rattle.calls.specs.declared.fault.TextFault.TheVariants.{WrongByte, EarlyEnd, TooDeep}
use Rattle.lines.specs.Machine.{Symbol, just, letters, rules, pick, onto, next, depth}
use Rattle.lines.specs.Reading.{Goes, Fails, Passed, Failed}
use Rattle.lines.specs.Words.{Word}
use Rattle.lines.specs.declared.reader.Reader.{Reader}
use Rattle.lines.proofs.Depth.{depth_++}
use Rattle.lines.proofs.Going.{goes_nil, goes_++, goes_under, goes_one, fails_after, fails_under, fails_early, fails_wrong, fails_deep, depth_letters, letters_at}

pub passed_nil : (r : Reader) (s : List Symbol) → Passed r r s s []
passed_nil r s = record { same = refl; goes = goes_nil r.line.now r.at s }

pub passed_++ : {b m a : Reader} {s s' s'' : List Symbol} {w v : List ℕ} → Passed b m s s' w → Passed m a s' s'' v → Passed b a s s'' (w ++ v)
passed_++ {b} {m} {a} {s} {s'} {s''} {w} {v} p q = record { same = q.same ∙ p.same; goes = goes_++ p.goes (subst (λ t. Goes t m.at a.at s' s'' v) p.same q.goes) }

pub failed_after : {b m a : Reader} {s s' : List Symbol} {w : List ℕ} {f : TextFault} → Passed b m s s' w → Failed m a s' f → Failed b a s f
failed_after {b} {m} {a} {s} {s'} {w} {f} p q = record { same = q.same ∙ p.same; fails = fails_after p.goes (subst (λ t. Fails t m.at s' f) p.same q.fails) }

-- with more symbols below
pub passed_under : {b a : Reader} {s s' : List Symbol} {w : List ℕ} (k : List Symbol) → depth k ≡ 0 → Passed b a s s' w → Passed b a (s ++ k) (s' ++ k) w
passed_under k d p = record { same = p.same; goes = goes_under k d p.goes }

pub failed_under : {b a : Reader} {s : List Symbol} {f : TextFault} (k : List Symbol) → depth k ≡ 0 → Failed b a s f → Failed b a (s ++ k) f
failed_under k d q = record { same = q.same; fails = fails_under k d q.fails }

-- one byte, from the state b to the state a
module _ (b a : Reader) (byte : ℕ) (within : b.at < length b.line.now) (here : byte ≡ get_or b.line.now b.at 0) where
  pub passed_one : (s s' : List Symbol) → a.line.now ≡ b.line.now → a.at ≡ b.at + 1 → next s byte ≡ some s' → depth s' ≤ 96 → Passed b a s s' (byte ∷ [])
  passed_one s s' same on e d =
      let g = goes_one b.line.now b.at s s' within (ap (next s) (sym here) ∙ e) d in
      record { same = same; goes = subst (λ j. Goes b.line.now b.at j s s' (byte ∷ [])) (sym on) (subst (λ z. Goes b.line.now b.at (b.at + 1) s s' (z ∷ [])) (sym here) g) }

  pub failed_wrong : (x : Symbol) (k : List Symbol) → a.line.now ≡ b.line.now → next (x ∷ k) byte ≡ none → Failed b a (x ∷ k) (WrongByte b.at)
  failed_wrong x k same e = record { same = same; fails = fails_wrong b.line.now b.at x k within (ap (next (x ∷ k)) (sym here) ∙ e) }

  pub failed_deep : (s s' : List Symbol) → a.line.now ≡ b.line.now → next s byte ≡ some s' → depth s' ≡ 97 → Failed b a s (TooDeep b.at)
  failed_deep s s' same e d = record { same = same; fails = fails_deep b.line.now b.at s s' within (ap (next s) (sym here) ∙ e) d }

pub failed_early : (b a : Reader) (x : Symbol) (k : List Symbol) (f : TextFault) → a.line.now ≡ b.line.now → length b.line.now ≤ b.at → f ≡ EarlyEnd b.at → Failed b a (x ∷ k) f
failed_early b a x k f same l e = record { same = same; fails = subst (λ z. Fails b.line.now b.at (x ∷ k) z) (sym e) (fails_early b.line.now b.at x k l) }

-- the only byte with which a symbol begins
pub expects_passed : (b a : Reader) (x : Symbol) (s : List Symbol) (byte seen : ℕ) → rules x ≡ (byte, s) ∷ [] → depth s ≡ 0 → a.line.now ≡ b.line.now → a.at ≡ b.at + 1
    → b.at < length b.line.now → seen ≡ get_or b.line.now b.at 0 → seen ≡ byte → Passed b a (x ∷ []) s (byte ∷ [])
expects_passed b a x s byte seen e z same on within here d =
    let n : next (x ∷ []) byte ≡ some s = ap (λ rs. onto (pick byte rs) []) e ∙ (ap (λ c. onto (cond c (some s) none) []) (eq-eqb byte byte refl) ∙ ap some (append-nil s)) in
    passed_one b a byte within (sym d ∙ here) (x ∷ []) s same on n (omega arith)

pub expects_failed : (b a : Reader) (x : Symbol) (s : List Symbol) (byte seen : ℕ) → rules x ≡ (byte, s) ∷ [] → a.line.now ≡ b.line.now
    → b.at < length b.line.now → seen ≡ get_or b.line.now b.at 0 → ¬ (seen ≡ byte) → Failed b a (x ∷ []) (WrongByte b.at)
expects_failed b a x s byte seen e same within here n =
    failed_wrong b a seen within here x [] same (ap (λ rs. onto (pick seen rs) []) e ∙ ap (λ c. onto (cond c (some s) none) []) (ne_eqb seen byte n))

-- after n bytes of a word
abbrev pub Spelling : Reader → Reader → List ℕ → ℕ → Type 0
Spelling b a w n = Passed b a (letters w) (letters (drop n w)) (take n w)

pub spelling_more : {b m a : Reader} (w : List ℕ) (n : ℕ) → n < length w → Spelling b m w n → Passed m a (just (get_or w n 0) ∷ []) [] (get_or w n 0 ∷ []) → Spelling b a w (n + 1)
spelling_more {b} {m} {a} w n h p q =
    let rest = letters (drop (n + 1) w) in
    let c : Passed m a (letters (drop n w)) rest (get_or w n 0 ∷ []) = subst (λ z. Passed m a z rest (get_or w n 0 ∷ [])) (sym (letters_at w n h)) (passed_under rest (depth_letters (drop (n + 1) w)) q) in
    subst (λ z. Passed b a (letters w) rest z) (sym (take_more w n 0 h)) (passed_++ p c)

pub spelling_fails : {b m a : Reader} {f : TextFault} (w : List ℕ) (n : ℕ) → n < length w → Spelling b m w n → Failed m a (just (get_or w n 0) ∷ []) f → Failed b a (letters w) f
spelling_fails {b} {m} {a} {f} w n h p q =
    let rest = letters (drop (n + 1) w) in
    failed_after p (subst (λ z. Failed m a z f) (sym (letters_at w n h)) (failed_under rest (depth_letters (drop (n + 1) w)) q))

pub spelling_all : {b a : Reader} (w : List ℕ) (n : ℕ) → length w ≤ n → Spelling b a w n → Passed b a (letters w) [] w
spelling_all {b} {a} w n h p = subst (λ z. Passed b a (letters w) [] z) (take_all n w h) (subst (λ z. Passed b a (letters w) (letters z) (take n w)) (drop_all n w h) p)

-- A word w, of which the first letter leads on from y: from b to m over the first letter, and then over the other letters u.
module _ (b m : Reader) (letter : ℕ) (within : b.at < length b.line.now) (here : letter ≡ get_or b.line.now b.at 0) (same : m.line.now ≡ b.line.now) (on : m.at ≡ b.at + 1)
    (y : Symbol) (w u : List ℕ) (rest : List Symbol) (begins : letter ≡ get_or w 0 0) (word : Word y w rest) (others : u ≡ drop 1 w) where
  first_letter : Passed b m (y ∷ []) (letters u ++ rest) (get_or w 0 0 ∷ [])
  first_letter =
      let d = word.quiet in
      let f = depth_++ (letters u) rest in
      let k = depth_letters u in
      let e : next (y ∷ []) letter ≡ some (letters u ++ rest) = ap (next (y ∷ [])) begins ∙ (word.leads ∙ ap (λ z. some (letters z ++ rest)) (sym others)) in
      subst (λ z. Passed b m (y ∷ []) (letters u ++ rest) (z ∷ [])) begins (passed_one b m letter within here (y ∷ []) (letters u ++ rest) same on e (omega arith))

  pub word_failed : {a : Reader} {f : TextFault} → Failed m a (letters u) f → Failed b a (y ∷ []) f
  word_failed q = failed_after first_letter (failed_under rest word.quiet q)

  pub word_passed : {a : Reader} {v : List ℕ} → Passed m a (letters u) [] v → v ≡ u → (w' : List ℕ) × Passed b a (y ∷ []) rest w' × (w' ≡ w)
  word_passed {a} {v} p e =
      let l = word.lettered in
      let g : (get_or w 0 0 ∷ []) ++ v ≡ w = ap (λ z. get_or w 0 0 ∷ z) (e ∙ others) ∙ sym (drop_more w 0 0 l) in
      (_, passed_++ first_letter (passed_under rest word.quiet p), g)
