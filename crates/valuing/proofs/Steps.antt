-- The steps of valuing: successors are valued in turn, and then the position is sealed.
-- Assumes nothing.
use Rattle.std.proofs.Common.{◌≡◌, ℕ, suc, ◌+◌, ◌<◌, ◌≤◌, Bool, false, ◌&&◌, ◌||◌, eqb, ltb, List, [], ◌∷◌, ◌++◌, length, get_or, take, drop, Some, Ok, Err, Result, sym, refl, ◌∙◌, subst}
use Rattle.std.specs.List.{slice_get}
use Rattle.std.proofs.lemmas.List.{take_more, take_all, set-get_or, set_split}
use Rattle.games.specs.declared.side.Side.{Side}
use Rattle.games.specs.declared.side.Side.TheVariants.{Left, Right}
use Rattle.games.specs.Numbered.{Lists}
use Rattle.nodesets.specs.Pairs.{Sets}
use Rattle.memory.specs.Holds.{More}
use Rattle.rulesets.specs.Rules.{Rules, Lawful, game}
use Rattle.rulesets.proofs.Positions.{nth_some}
use Rattle.calls.specs.Answers.{told, refused, refused_at}
use Rattle.calls.specs.Entering.{Entry, Enters, accepted}
use Rattle.calls.specs.Positions.{order}
use Rattle.calls.specs.Rows.{Rows, first}
use Rattle.calls.specs.Sealing.{SealsNumbers}
use Rattle.calls.proofs.Entering.{turn_grows}
use Rattle.calls.proofs.Evaluating.{valuing_none, valuing_more, position_sealed, position_refused, stops_left, stops_right}
use Rattle.dictionary.specs.declared.fault.DictionaryFault.{DictionaryFault}
use Rattle.dictionary.specs.Faults.{answer_of, number_of}
use Rattle.dictionary.specs.Kept.{ListsOf}
use Rattle.valuing.specs.declared.fault.ValueFault.{ValueFault}
use Rattle.valuing.specs.declared.fault.ValueFault.TheVariants.{Illegal, Position}
use Rattle.valuing.specs.Answers.{refusal}
use Rattle.valuing.specs.Sides.{Are, SoFar, Turned}
use Rattle.valuing.specs.Sure.{Sure}
use Rattle.valuing.specs.Valued.{Entered}
use Rattle.valuing.proofs.Noted.{right_grows, right_noted}
use Rattle.valuing.proofs.Told.{are_none, are_more}

pub split : (ms : List ℕ) (i : ℕ) → i < length ms → ms ≡ take i ms ++ get_or ms i 0 ∷ drop (suc i) ms
split ms i k = sym (set-get_or ms i 0) ∙ set_split ms i (get_or ms i 0) k

pub number_in : {c n : ℕ} {a b : Rows} {R : Rules} {m : ℕ} → Entered R c a m (told n) b → n < length b
number_in {c} {n} {a} {b} {R} {m} x = go x.holds
  where
    go : {es : List Entry} → Enters c a (game R m) (order R m) (told n) b es → n < length b
    go (accepted t) = ((turn_grows t).right _ first).inside

pub not_plain : {R : Rules} {c m k : ℕ} {a b : Rows} → Entered R c a m (refused k) b → ⊥
not_plain {R} {c} {m} {k} {a} {b} x = never x.holds
  where
    never : {es : List Entry} → Enters c a (game R m) (order R m) (refused k) b es → ⊥
    never y = elim y [ ]

module _ (R : Rules) (l : Lawful R) (c : ℕ) where
  pub start : (a : Rows) (ms : List ℕ) (p : ℕ → Bool) → ((k : ℕ) → p k ≡ false) → SoFar R c a (take 0 ms) p a
  start a ms p e = record { numbers = []; are = are_none p e; entries = []; holds = valuing_none R l c a }

  pub more : (ms : List ℕ) (p q : ℕ → Bool) (i m n : ℕ) (a b d : Rows) → Some m ≡ slice_get ms i → n < 384 → ((k : ℕ) → q k ≡ ((eqb k n && ltb k 384) || p k))
      → SoFar R c a (take i ms) p b → Entered R c b m (told n) d → SoFar R c a (take (i + 1) ms) q d
  more ms p q i m n a b d at small put f x =
      let (k, e) = nth_some ms i m at in
      record {
        numbers = f.numbers ++ n ∷ [];
        are = are_more f.numbers p q n small put f.are;
        entries = x.entries ++ f.entries;
        holds = rw (take_more ms i 0 k, e) (valuing_more R l c (take i ms) m f.holds x.holds);
      }

  pub all_done : (ms : List ℕ) (p : ℕ → Bool) (i : ℕ) (a b : Rows) → length ms ≤ i → SoFar R c a (take i ms) p b → SoFar R c a ms p b
  all_done ms p i a b k f = rw (take_all i ms k) at f

  -- a refusal in a Left successor
  pub refused_left : (f : ValueFault) (code i m : ℕ) (p : ℕ → Bool) (a b d : Rows) → Some m ≡ slice_get (R.moves Left code) i
      → SoFar R c a (take i (R.moves Left code)) p b → Entered R c b m (refusal f) d → Entered R c a code (refusal f) d
  refused_left Illegal code i m p a b d at s x = absurd (not_plain x)
  refused_left (Position z f) code i m p a b d at s x =
      let ms = R.moves Left code in
      let (k, e) = nth_some ms i m at in
      record { entries = _; holds = stops_left R l c code (take i ms) (drop (suc i) ms) m (subst (λ y. ms ≡ take i ms ++ y ∷ drop (suc i) ms) e (split ms i k)) s.holds x.holds }

  -- a refusal in a Right successor, the Left ones being valued
  pub refused_right : (f : ValueFault) (code i m : ℕ) (p q : ℕ → Bool) (a b₀ b d : Rows) → Some m ≡ slice_get (R.moves Right code) i → SoFar R c a (R.moves Left code) p b₀
      → SoFar R c b₀ (take i (R.moves Right code)) q b → Entered R c b m (refusal f) d → Entered R c a code (refusal f) d
  refused_right Illegal code i m p q a b₀ b d at h s x = absurd (not_plain x)
  refused_right (Position z f) code i m p q a b₀ b d at h s x =
      let ms = R.moves Right code in
      let (k, e) = nth_some ms i m at in
      record { entries = _; holds = stops_right R l c code (take i ms) (drop (suc i) ms) m (subst (λ y. ms ≡ take i ms ++ y ∷ drop (suc i) ms) e (split ms i k)) h.holds s.holds x.holds }

  -- the position itself is sealed, or not
  pub sealed : (code n : ℕ) (p q : ℕ → Bool) (a b₀ b d : Rows) → (h : SoFar R c a (R.moves Left code) p b₀) → (s : SoFar R c b₀ (R.moves Right code) q b)
      → SealsNumbers c b (record { left = h.numbers; right = s.numbers }) (told n) d → Entered R c a code (told n) d
  sealed code n p q a b₀ b d h s x = record { entries = _; holds = position_sealed R l c code h.holds s.holds x }

  pub not_sealed : (code k : ℕ) (p q : ℕ → Bool) (a b₀ b d : Rows) → (h : SoFar R c a (R.moves Left code) p b₀) → (s : SoFar R c b₀ (R.moves Right code) q b)
      → SealsNumbers c b (record { left = h.numbers; right = s.numbers }) (refused k) d → Entered R c a code (refused_at k code) d
  not_sealed code k p q a b₀ b d h s x = record { entries = _; holds = position_refused R l c code h.holds s.holds x }

-- the lists of the numbers told are lists of the two sets
pub both : (o : Sets) (p q : ℕ → Bool) (ls rs : List ℕ) → Are ls p → Are rs q → ((k : ℕ) → o Left k ≡ p k) → ((k : ℕ) → o Right k ≡ q k) → ListsOf o (record { left = ls; right = rs })
both o p q ls rs a b e f Left k = (λ i. e k ∙ (a k).0 i, λ h. (a k).1 (sym (e k) ∙ h))
both o p q ls rs a b e f Right k = (λ i. f k ∙ (b k).0 i, λ h. (b k).1 (sym (f k) ∙ h))

-- What holds between the state in which the loop over the successors ms began, with room c₀, rows a and the set p₀, and the state after i turns: ok says that the memory is right.
pub record Turn (R : Rules) (ms : List ℕ) (i : ℕ) (p₀ p : ℕ → Bool) (c₀ c : ℕ) (a b : Rows) (ok₀ ok : Type 0) : Type 0 where
  pub room : c ≡ c₀
  pub kept : ok₀ → ok
  pub so_far : ok₀ → ((k : ℕ) → p₀ k ≡ false) → SoFar R c₀ a (take i ms) p b

module _ (R : Rules) (l : Lawful R) where
  pub begins : (ms : List ℕ) (p : ℕ → Bool) (c : ℕ) (a : Rows) (ok : Type 0) → Turn R ms 0 p p c c a a ok ok
  begins ms p c a ok = record { room = refl; kept = λ h. h; so_far = λ h e. start R l c a ms p e }

  pub again : (ms : List ℕ) (i m n : ℕ) (p₀ p q : ℕ → Bool) (c₀ c c' : ℕ) (a b d : Rows) (ok₀ ok ok' : Type 0) → Turn R ms i p₀ p c₀ c a b ok₀ ok → Some m ≡ slice_get ms i → c' ≡ c → (ok → ok')
      → (ok → Entered R c b m (told n) d) → (ok → n < 384) → ((k : ℕ) → q k ≡ ((eqb k n && ltb k 384) || p k)) → Turn R ms (i + 1) p₀ q c₀ c' a d ok₀ ok'
  again ms i m n p₀ p q c₀ c c' a b d ok₀ ok ok' t at ce keeps x small put = record {
    room = ce ∙ t.room;
    kept = λ h. keeps (t.kept h);
    so_far = λ h e. more R l c₀ ms p q i m n a b d at (small (t.kept h)) put (t.so_far h e) (subst (λ z. Entered R z b m (told n) d) t.room (x (t.kept h)));
  }

  -- a successor is refused
  pub broke : (s : Side) (code i m : ℕ) (p₀ p q : ℕ → Bool) (c₀ c : ℕ) (a b d : Rows) (ok₀ ok : Type 0) (r : Result (Unit {0}) ValueFault) (f : ValueFault) → r ≡ Err f
      → Turn R (R.moves s code) i p₀ p c₀ c a b ok₀ ok → Some m ≡ slice_get (R.moves s code) i → (ok → Entered R c b m (refusal f) d) → ok₀ → ((k : ℕ) → p₀ k ≡ false) → Turned R c₀ a s code q d r
  broke s code i m p₀ p q c₀ c a b d ok₀ ok r f e t at x h none =
      subst (λ y. Turned R c₀ a s code q d y) (sym e) (Turned.stopped i m p b (t.so_far h none) at (subst (λ z. Entered R z b m (refusal f) d) t.room (x (t.kept h))))

  -- none is
  pub whole : (s : Side) (code i : ℕ) (p₀ p : ℕ → Bool) (c₀ c : ℕ) (a b : Rows) (ok₀ ok : Type 0) → length (R.moves s code) ≤ i → Turn R (R.moves s code) i p₀ p c₀ c a b ok₀ ok
      → ok₀ → ((k : ℕ) → p₀ k ≡ false) → Turned R c₀ a s code p b (Ok tt)
  whole s code i p₀ p c₀ c a b ok₀ ok k t h none = Turned.all (all_done R l c₀ (R.moves s code) p i a b k (t.so_far h none))

  module _ (c : ℕ) (code : ℕ) where
    pub left_stops : {q : ℕ → Bool} {a b : Rows} {f : ValueFault} → Turned R c a Left code q b (Err f) → Entered R c a code (refusal f) b
    left_stops {a = a} {b = b} {f = f} (Turned.stopped i m p d s at x) = refused_left R l c f code i m p a d b at s x

    pub left_all : {p : ℕ → Bool} {a b : Rows} → Turned R c a Left code p b (Ok tt) → SoFar R c a (R.moves Left code) p b
    left_all (Turned.all s) = s

    pub right_stops : {p q : ℕ → Bool} {a b₀ b : Rows} {f : ValueFault} → SoFar R c a (R.moves Left code) p b₀ → Turned R c b₀ Right code q b (Err f) → Entered R c a code (refusal f) b
    right_stops {p = p} {a = a} {b₀ = b₀} {b = b} {f = f} h (Turned.stopped i m q d s at x) = refused_right R l c f code i m p q a b₀ d b at h s x

    pub right_all : {q : ℕ → Bool} {b₀ b : Rows} → Turned R c b₀ Right code q b (Ok tt) → SoFar R c b₀ (R.moves Right code) q b
    right_all (Turned.all s) = s

    -- both sides are valued, and their numbers are sealed
    module _ (p q : ℕ → Bool) (a b₀ b d : Rows) (h : SoFar R c a (R.moves Left code) p b₀) (s : SoFar R c b₀ (R.moves Right code) q b)
        (o : Sets) (on_left : (k : ℕ) → o Left k ≡ p k) (on_right : (k : ℕ) → o Right k ≡ q k) (r : Result ℕ DictionaryFault) (seals : (n : Lists) → ListsOf o n → SealsNumbers c b n (answer_of r) d) where
      abbrev numbers : Lists
      numbers = record { left = h.numbers; right = s.numbers }

      numbers_seal : SealsNumbers c b numbers (answer_of r) d
      numbers_seal = seals numbers (both o p q h.numbers s.numbers h.are s.are on_left on_right)

      pub ends_told : (n : ℕ) → r ≡ Ok n → Entered R c a code (told n) d
      ends_told n e = sealed R l c code n p q a b₀ b d h s (subst (λ y. SealsNumbers c b numbers (answer_of y) d) e numbers_seal)

      pub ends_refused : (f : DictionaryFault) → r ≡ Err f → Entered R c a code (refused_at (number_of f) code) d
      ends_refused f e = not_sealed R l c code (number_of f) p q a b₀ b d h s (subst (λ y. SealsNumbers c b numbers (answer_of y) d) e numbers_seal)

      -- what the memory held is right still, and so is what was told
      pub ends_sure : (holds : ℕ → ℕ → Type 0) → Sure R b holds → Sure R d holds
      ends_sure holds right = right_grows R c b d numbers (answer_of r) holds numbers_seal right

      pub ends_noted : (holds holds' : ℕ → ℕ → Type 0) → Sure R b holds → (n : ℕ) → r ≡ Ok n → n < 384 → More holds code n holds' → Sure R d holds'
      ends_noted holds holds' right n e small noted = right_noted R c a d holds holds' code n (ends_told n e) small (ends_sure holds right) noted
