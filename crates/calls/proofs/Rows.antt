-- The forms of nodes: what a row added at the end changes, and a node's law.
-- Assumes nothing.
use Rattle.std.proofs.Common.{◌≡◌, ℕ, suc, ◌+◌, ◌<◌, ◌≤◌, List, [], ◌∷◌, ◌++◌, length, get_or, take, drop, sym, refl, ap, ◌∙◌, ap₂, append_assoc, arith}
use Rattle.std.specs.List.{AllByRecursion}
use Rattle.std.proofs.lemmas.List.{length-append, length-take-le, get_or_append_left, get_or_past, get_or_push, set_split, set-get_or}
use Rattle.games.specs.Form.{Form, form, ◌&◌, 𝟎}
use Rattle.games.specs.Numbered.{Lists, each, form_by}
use Rattle.calls.specs.Rows.{Rows, no_numbers, made_after, node, Below}

made_length : (before : List Form) (rows : Rows) → length (made_after before rows) ≡ length before + length rows
made_length before [] = omega arith
made_length before (r ∷ rows) =
    let x = form_by (λ n. get_or before n 𝟎) r in
    let a = made_length (before ++ x ∷ []) rows in
    let b = length-append before (x ∷ []) in
    omega arith

made_old : (before : List Form) (rows : Rows) (n : ℕ) → n < length before → get_or (made_after before rows) n 𝟎 ≡ get_or before n 𝟎
made_old before [] n lt = refl
made_old before (r ∷ rows) n lt =
    let x = form_by (λ n. get_or before n 𝟎) r in
    let b = length-append before (x ∷ []) in
    made_old (before ++ x ∷ []) rows n (omega arith) ∙ get_or_append_left before (x ∷ []) 𝟎 n lt

made_++ : (before : List Form) (a b : Rows) → made_after before (a ++ b) ≡ made_after (made_after before a) b
made_++ before [] b = refl
made_++ before (r ∷ a) b = made_++ (before ++ form_by (λ n. get_or before n 𝟎) r ∷ []) a b

-- rows added at the end change no node before them
pub node_old : (a b : Rows) (n : ℕ) → n < length a → node (a ++ b) n ≡ node a n
unfolding node
node_old a b n lt =
    let k = made_length [] a in
    ap (λ t. get_or t n 𝟎) (made_++ [] a b) ∙ made_old (made_after [] a) b n (omega arith)

-- the node of a row added at the end
pub node_new : (a : Rows) (r : Lists) → node (a ++ r ∷ []) (length a) ≡ form_by (node a) r
unfolding node
node_new a r =
    let k = made_length [] a in
    ap (λ t. get_or t (length a) 𝟎) (made_++ [] a (r ∷ [])) ∙ get_or_push (made_after [] a) (form_by (node a) r) 𝟎 (length a) (omega arith)

-- past the rows every node is 0
pub node_past : (rows : Rows) (n : ℕ) → length rows ≤ n → node rows n ≡ 𝟎
unfolding node
node_past rows n h = let k = made_length [] rows in get_or_past (made_after [] rows) n 𝟎 (omega arith)

pub each_same : (P : ℕ → Type 0) (f h : ℕ → Form) → ((n : ℕ) → P n → f n ≡ h n) → (ns : List ℕ) → AllByRecursion P ns → each f ns ≡ each h ns
each_same P f h e [] a = refl
each_same P f h e (n ∷ ns) a = ap₂ ◌&◌ (e n a.0) (each_same P f h e ns a.1)

pub form_by_same : (k : ℕ) (f h : ℕ → Form) → ((n : ℕ) → n < k → f n ≡ h n) → (r : Lists) → Below k r → form_by f r ≡ form_by h r
form_by_same k f h e r b = ap₂ form (each_same (λ m. m < k) f h e r.left b.on_left) (each_same (λ m. m < k) f h e r.right b.on_right)

-- the options of a node are the forms of the nodes that its row names
pub node_law : (rows : Rows) (n : ℕ) → n < length rows → Below n (get_or rows n no_numbers) → node rows n ≡ form_by (node rows) (get_or rows n no_numbers)
node_law rows n lt b =
    let r = get_or rows n no_numbers in
    let a = take n rows in
    let rest = drop (suc n) rows in
    let la : length a ≡ n = length-take-le n rows (omega arith) in
    let split : rows ≡ a ++ r ∷ rest = sym (set-get_or rows n no_numbers) ∙ set_split rows n r lt in
    let regroup : rows ≡ (a ++ r ∷ []) ++ rest = split ∙ sym (append_assoc a (r ∷ []) rest) in
    let ln = length-append a (r ∷ []) in
    let e₁ : node rows n ≡ node (a ++ r ∷ []) n = ap (λ t. node t n) regroup ∙ node_old (a ++ r ∷ []) rest n (omega arith) in
    let e₂ : node (a ++ r ∷ []) n ≡ node (a ++ r ∷ []) (length a) = ap (λ m. node (a ++ r ∷ []) m) (sym la) in
    let e₃ : form_by (node a) r ≡ form_by (node rows) r =
    form_by_same n (node a) (node rows) (λ m k. sym (ap (λ t. node t m) split ∙ node_old a (r ∷ rest) m (omega arith))) r b in
    e₁ ∙ (e₂ ∙ (node_new a r ∙ e₃))
