-- The marks of a form's text are taken in turn: each bracket is closed with the numbers of its options.
-- Assumes nothing.
use Rattle.std.specs.Prelude.{IsSome}
use Rattle.std.proofs.Common.{◌≡◌, ℕ, ◌+◌, ◌<◌, ◌≤◌, List, [], ◌∷◌, length, take, drop, Some, Ok, Err, Option, Result, sym, ◌∙◌, subst, arith}
use Rattle.games.specs.Form.{Form, ∅}
use Rattle.games.specs.Numbered.{Lists}
use Rattle.games.specs.Text.{open_mark, bar, close_mark, comma, text}
use Rattle.games.specs.Reader.{Bracket, State, done, finish, next, brackets, outside}
use Rattle.calls.specs.Rows.{no_numbers}
use Rattle.calls.specs.Texts.{Written}
use Rattle.calls.specs.Brackets.{put_outside}
use Rattle.calls.proofs.Bracketed.{closing}
use Rattle.reading.specs.declared.frames.Frame.{Frame}
use Rattle.reading.specs.Held.{Fresh, Holds, Popped, Turned}
use Rattle.reading.specs.Walked.{Walk, Walked}
use Rattle.reading.proofs.Holding.{Inner, holds_bar, holds_close, holds_length, holds_none, holds_open, holds_some}
use Rattle.reading.proofs.Upto.{upto, There, opened, barred, comma_same, shut, not_open, not_bar, not_comma, finish_last, some_room, upto_end}

module _ {A C E : Type 0} (keeps : A → Lists → Type 0) (closes : C → Lists → ℕ → Result ℕ E → C → Type 0) (start : C) (g : Form) where
  -- the machine is in the state q after some marks: the walk so far, what the frames hold, and at the end the number told last
  pub record In (q : State) (frames : List (Frame A)) (last : ℕ) (c : C) : Type 0 where
    pub lists : List Lists
    pub walk : Walk closes start q lists c
    pub holds : Holds keeps frames (brackets q) lists
    pub ends : q ≡ done g → Walked closes start g (Ok last) c

  pub starts : (frames : List (Frame A)) (last : ℕ) → frames ≡ [] → In (upto g 0) frames last start
  starts frames last e = record { lists = []; walk = Walk.begins; holds = subst (λ f. Holds keeps f [] []) (sym e) tt; ends = λ d. let z : ◌≡◌ {A = ℕ} 0 1 = cc in absurd (omega arith) }

  module _ (i : ℕ) (frames later : List (Frame A)) (last : ℕ) (c : C) (t : In (upto g i) frames last c) where
    abbrev q : State
    q = upto g i

    moved : (p : State) (fs : List (Frame A)) (n : ℕ) (d : C) → upto g (i + 1) ≡ p → In p fs n d → In (upto g (i + 1)) fs n d
    moved p fs n d e x = subst (λ s. In s fs n d) (sym e) x

    pub few_open : There g i open_mark → length frames < 96
    few_open x = let n = holds_length keeps frames (brackets q) t.lists t.holds in let h = some_room g i x in omega arith

    pub at_open : There g i open_mark → (f : Frame A) → Fresh keeps f → later ≡ f ∷ frames → In (upto g (i + 1)) later last c
    at_open x f n e = moved (next q open_mark) later last c x.moves_on (record {
      lists = no_numbers ∷ t.lists;
      walk = Walk.opens q t.lists c x.alive t.walk;
      holds = subst (λ bs. Holds keeps later bs (no_numbers ∷ t.lists)) (sym (opened q x.alive)) (holds_open keeps f frames later (brackets q) t.lists n e t.holds);
      ends = λ d. absurd (not_open q g d);
    })

    pub at_bar : There g i bar → Turned frames later → In (upto g (i + 1)) later last c
    at_bar x e =
        let b = barred q x.alive in
        moved (next q bar) later last c x.moves_on (record {
          lists = t.lists;
          walk = Walk.bars q t.lists c x.alive t.walk;
          holds = subst (λ bs. Holds keeps later bs t.lists) (sym b.is) (holds_bar keeps frames later (outside q) t.lists b.lefts ∅ e (subst (λ bs. Holds keeps frames bs t.lists) b.was t.holds));
          ends = λ d. absurd (not_bar q g d);
        })

    pub at_comma : There g i comma → In (upto g (i + 1)) frames last c
    at_comma x = moved (next q comma) frames last c x.moves_on (record {
      lists = t.lists;
      walk = Walk.commas q t.lists c x.alive t.walk;
      holds = subst (λ bs. Holds keeps frames bs t.lists) (sym (comma_same q x.alive)) t.holds;
      ends = λ d. absurd (not_comma q g d);
    })

    -- a bracket closes
    module _ (x : There g i close_mark) (r : Option A) (popped : Popped frames r later) where
      there_is : Holds keeps frames ((shut q x.alive).inner ∷ outside q) t.lists
      there_is = subst (λ bs. Holds keeps frames bs t.lists) (shut q x.alive).was t.holds

      pub some_open : IsSome r
      some_open = holds_some keeps frames later (shut q x.alive).inner (outside q) t.lists r popped there_is

      module _ (o : A) (is : r ≡ Some o) where
        abbrev z : Inner keeps o later (outside q) t.lists
        z = holds_close keeps frames later (shut q x.alive).inner (outside q) t.lists r o is popped there_is

        before : Walk closes start q (z.numbers ∷ z.rest) c
        before = subst (λ ls. Walk closes start q ls c) z.are t.walk

        pub at_close : (n : ℕ) (d : C) (put : List (Frame A)) → ((l : Lists) → keeps o l → closes c l i (Ok n) d × (n < 384))
            → (n < 384 → (f : Form) (bs : List Bracket) (ls : List Lists) → Holds keeps later bs ls → Holds keeps put (brackets (finish f bs)) (put_outside n bs ls)) → In (upto g (i + 1)) put n d
        at_close n d put said puts =
            let s = shut q x.alive in
            let (closed, small) = said z.numbers z.kept in
            moved (next q close_mark) put n d x.moves_on (record {
              lists = put_outside n (outside q) z.rest;
              walk = Walk.shuts q z.numbers z.rest c d i n x.alive before closed;
              holds = subst (λ p. Holds keeps put (brackets p) (put_outside n (outside q) z.rest)) (sym s.is) (puts small (closing q) (outside q) z.rest z.held);
              ends = λ e.
                  let none_outside : outside q ≡ [] = finish_last (closing q) g (outside q) (sym s.is ∙ e) in
                  Walked.ends q z.numbers c d i n e (subst (λ ls. Walk closes start q (z.numbers ∷ ls) c) (holds_none keeps later (outside q) z.rest z.held none_outside) before) closed;
            })

        pub at_stop : (e : E) (d : C) → ((l : Lists) → keeps o l → closes c l i (Err e) d × Unit {0}) → length (take i (text g)) ≡ i → Walked closes start g (Err e) d
        at_stop e d said n =
            Walked.stops (take i (text g)) (drop (i + 1) (text g)) z.numbers z.rest c d e x.split before (subst (λ p. closes c z.numbers p (Err e) d) (sym n) (said z.numbers z.kept).0)

  pub at_end : (i : ℕ) (frames : List (Frame A)) (last : ℕ) (c : C) (t : List ℕ) → Written t g → length t ≤ i → In (upto g i) frames last c → Walked closes start g (Ok last) c
  at_end i frames last c t w over x = x.ends (upto_end g t w i over)

-- where the ways of a mark meet
pub joined : {C F : Type 0} (T : C → F → ℕ → Type 0) {d e : C} {f k : F} {m n : ℕ} → d ≡ e → f ≡ k → m ≡ n → T e k n → T d f m
joined T {d} {e} {f} {k} {m} {n} p q r x = subst (λ y. T y f m) (sym p) (subst (λ y. T e y m) (sym q) (subst (λ y. T e k y) (sym r) x))
