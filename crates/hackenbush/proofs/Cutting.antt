-- Cutting an edge: the flood without it, and then on along it.
use Rattle.std.proofs.Common.{◌≡◌, ℕ, ◌*◌, ◌%◌, ◌^◌, ◌<◌, Bool, true, false, cond, not, ◌&&◌, eqb, ltb, ◌≢◌, List, length, get_or, Some, None, sym, refl, ap, ◌∙◌, inl, inr, arith}
use lib.Bits.{bit_or, bit_xor}
use Rattle.std.specs.Bool.{then_some}
use Rattle.std.proofs.lemmas.Nat.{or_lt, xor_lt, pow_below}
use Rattle.std.proofs.lemmas.Option.{slice_get-get_or}
use Rattle.std.proofs.lemmas.Bool.{cases_Bool, cases_eq, cases_lt, both_ways, and_parts, and_from, or_cases, or_parts, or_right, eqb-true, eq-eqb, ne_eqb, lt-ltb, le-ltb, not_from_false}
use Rattle.bits.specs.Bits.{bit}
use Rattle.bits.proofs.Words.{bit_or_lem, bit_none, bit_one, bit_past, bits_same, some_bit, one_shl_64}
use Rattle.hackenbush.specs.declared.edge.Edge.{Edge}
use Rattle.hackenbush.specs.declared.picture.Picture.{Picture}
use Rattle.hackenbush.specs.Joined.{Joined, ground, along, back}
use Rattle.hackenbush.specs.Hackenbush.{fall, legal, without, cut}
use Rattle.hackenbush.specs.Floods.{Flooding, Flooded, Dry}
use Rattle.hackenbush.specs.Pictures.{edges_of}
use Rattle.hackenbush.specs.Reading.{blank, limit_is, count_is}
use Rattle.hackenbush.specs.Codes.{bit_fall, fall_below}
use Rattle.hackenbush.proofs.Flags.{bit_cleared, bit_within}
use Rattle.hackenbush.proofs.Flooding.{flooding_none, flooded_fall, dry_falls}
use Rattle.hackenbush.specs.Standing.{legal_made, legal_found}

-- what is joined without an edge is joined with it
more_joined : {es : List Edge} {p q : ℕ → Bool} → ((i : ℕ) → p i ≡ true → q i ≡ true) → {v : ℕ} → Joined es p v → Joined es q v
more_joined f ground = ground
more_joined f (along i e at u p) = along i e at (f i u) (more_joined f p)
more_joined f (back i e at u p) = back i e at (f i u) (more_joined f p)

-- nothing is dry in the end exactly when the code is legal
legal_dry : (es : List Edge) (n wet dry : ℕ) → n < 2 ^ length es → Flooding es (bit n) wet dry → ((i : ℕ) → bit dry i ≡ true → Dry es wet i) → dry < 2 ^ length es
    → legal es n ≡ eqb dry 0
legal_dry es n wet dry small f closed low = elim (cases_eq dry 0) [ inl e ↦ none e ∙ sym (eq-eqb dry 0 e) | inr e ↦ some e ∙ sym (ne_eqb dry 0 e) ]
  where
    here : (j : ℕ) → j < length es → cond (bit n j) (not (bit dry j)) (bit dry j) ≡ bit (fall es (bit n)) j
    here j h = dry_falls f closed j (get_or es j blank) (slice_get-get_or es j blank h) ∙ sym (bit_fall es (bit n) j)

    none : dry ≡ 0 → legal es n ≡ true
    none e = legal_made es n small (bits_same (length es) _ n (fall_below es (bit n)) small (λ j h.
        sym (here j h) ∙ rw (e, bit_none j) (elim (bit n j) as (λ b. cond b true false ≡ b) [ true ↦ refl | false ↦ refl ])))

    some : dry ≢ 0 → legal es n ≡ false
    some e = elim (cases_Bool (legal es n)) [
      | inl l ↦
          let (j, h, b) = some_bit (length es) dry low e in
          let s = f.standing j b in
          absurd (both_ways (bit n j) (ap (λ (m : ℕ). bit m j) (sym (legal_found es n l).1) ∙ sym (here j h) ∙ rw (s, b)) s)
      | inr l ↦ l
    ]

-- `flag` is the code of edge k alone
module _ (es : List Edge) (n k flag : ℕ) (one : flag ≡ 2 ^ k) (set : bit n k ≡ true) (small : n < 2 ^ length es) where
  pub place_below : k < length es
  place_below = bit_within n (length es) k small set

  flag_below : flag < 2 ^ length es
  flag_below = rw one (pow_below k (length es) place_below)

  flag_is : (i : ℕ) → bit flag i ≡ eqb i k
  flag_is i = ap (λ (m : ℕ). bit m i) one ∙ bit_one k i

  pub others_below : bit_xor n flag < 2 ^ length es
  others_below = xor_lt (length es) n flag small flag_below

  others_are : (i : ℕ) → bit (bit_xor n flag) i ≡ (ltb i (length es) && without n k i)
  others_are i = ap (λ (m : ℕ). bit (bit_xor n m) i) one ∙ bit_cleared n k set i ∙ elim (cases_lt i (length es)) [
    | inl h ↦ rw (lt-ltb i (length es) h)
    | inr h ↦ rw (le-ltb i (length es) h, bit_past n (length es) i small h)
  ]

  module _ (wet dry : ℕ) (f : Flooded es 1 (bit_xor n flag) wet dry) where
    pub cut_is : bit_xor (bit_xor n flag) dry ≡ cut es n k
    cut_is = flooded_fall es (without n k) (bit_xor n flag) wet dry others_are others_below f

    pub all_below : bit_or dry flag < 2 ^ length es
    all_below = or_lt (length es) dry flag (omega (arith, f.below, others_below)) flag_below

    -- the flood goes on with the edge that was left out
    goes_on : Flooding es (bit n) wet (bit_or dry flag)
    goes_on = let g = f.keeps (without n k) (flooding_none es (without n k) (bit_xor n flag) others_are) in record {
      ground = g.ground;
      sound = λ v b. more_joined (λ i u. (and_parts (bit n i) _ u).0) (g.sound v b);
      standing = λ i b. elim (or_cases (bit dry i) (bit flag i) (sym (bit_or_lem dry flag i) ∙ b)) [
        | inl c ↦ (and_parts (bit n i) _ (g.standing i c)).0
        | inr c ↦ rw (eqb-true i k (sym (flag_is i) ∙ c)) set
      ];
      done = λ i e at u b.
          let c = or_parts (bit dry i) (bit flag i) (sym (bit_or_lem dry flag i) ∙ b) in
          g.done i e at (and_from _ _ u (not_from_false _ (sym (flag_is i) ∙ c.1))) c.0;
    }

    pub legal_is : (wet' dry' : ℕ) → Flooded es wet (bit_or dry flag) wet' dry' → legal es n ≡ eqb dry' 0
    legal_is wet' dry' h = legal_dry es n wet' dry' small (h.keeps (bit n) goes_on) h.closed (omega (arith, h.below, all_below))

-- the code of edge k alone, as the program shifts it
abbrev pub flag_of : ℕ → ℕ
flag_of k = (1 * 2 ^ k) % 18446744073709551616

-- The same of a picture.
module _ (p : Picture) (n k : ℕ) (set : bit n k ≡ true) (fits : n < 2 ^ 64) (under : n < flag_of p.count) where
  one : flag_of k ≡ 2 ^ k
  one = one_shl_64 k (bit_within n 64 k fits set)

  small : n < 2 ^ length (edges_of p)
  small = omega (arith, limit_is p)

  pub picture_others : bit_xor n (flag_of k) < 2 ^ p.count
  picture_others = rw (← count_is p) (others_below (edges_of p) n k (flag_of k) one set small)

  -- the edge is one of the picture, and is left for a look
  pub picture_place : k < p.count
  picture_place = rw (← count_is p) (place_below (edges_of p) n k (flag_of k) one set small)

  pub picture_left : (dry : ℕ) → bit (bit_or dry (flag_of k)) k ≡ true
  picture_left dry = bit_or_lem dry (flag_of k) k ∙ or_right _ _ (flag_is (edges_of p) n k (flag_of k) one set small k ∙ eq-eqb k k refl)

  module _ (wet dry : ℕ) (f : Flooded (edges_of p) 1 (bit_xor n (flag_of k)) wet dry) where
    pub picture_all : bit_or dry (flag_of k) < 2 ^ p.count
    picture_all = rw (← count_is p) (all_below (edges_of p) n k (flag_of k) one set small wet dry f)

    module _ (wet' dry' : ℕ) (g : Flooded (edges_of p) wet (bit_or dry (flag_of k)) wet' dry') where
      when : legal (edges_of p) n ≡ eqb dry' 0
      when = legal_is (edges_of p) n k (flag_of k) one set small wet dry f wet' dry' g

      pub cut_told : then_some (eqb dry' 0) (bit_xor (bit_xor n (flag_of k)) dry) ≡ cond (legal (edges_of p) n) (Some (cut (edges_of p) n k)) None
      cut_told = rw (when, cut_is (edges_of p) n k (flag_of k) one set small wet dry f) (either (eqb dry' 0) _)
        where
          either : (b : Bool) (m : ℕ) → then_some b m ≡ cond b (Some m) None
          either true m = refl
          either false m = refl
