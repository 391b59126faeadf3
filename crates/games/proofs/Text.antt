-- Two forms with the same text are the same.
-- Assumes nothing.
use Rattle.std.proofs.Common.{◌≡◌, ℕ, cond, eqb, List, [], ◌∷◌, map, refl, ap, ap₂}
use mathlib.Core.Option.{Option, none, some}
use Rattle.games.specs.Form.{Form}
use Rattle.games.specs.Text.{Mark, open_mark, bar, close_mark, comma, byte, text, bytes}
use Rattle.games.proofs.Reader.{read}
use Rattle.games.proofs.Reading.{read_text}

-- two forms with the same text are the same
pub text_injective : (g h : Form) → text g ≡ text h → g ≡ h
text_injective g h e =
    let a = read_text g in
    let b = read_text h in
    let c = ap read e in
    cc

-- the mark of a byte
abbrev pub mark : ℕ → Option Mark
mark n = cond (eqb n 123) (some open_mark) (cond (eqb n 124) (some bar) (cond (eqb n 125) (some close_mark) (cond (eqb n 44) (some comma) none)))

pub mark_byte : (m : Mark) → mark (byte m) ≡ some m
mark_byte open_mark = refl
mark_byte bar = refl
mark_byte close_mark = refl
mark_byte comma = refl

byte_injective : (m n : Mark) → byte m ≡ byte n → m ≡ n
byte_injective m n e =
    let a = mark_byte m in
    let b = mark_byte n in
    let c = ap mark e in
    cc

pub map_byte_injective : (a b : List Mark) → map byte a ≡ map byte b → a ≡ b
map_byte_injective [] [] e = refl
map_byte_injective [] (n ∷ b) e = cc
map_byte_injective (m ∷ a) [] e = cc
map_byte_injective (m ∷ a) (n ∷ b) e =
    let p : byte m ≡ byte n = cc in
    let q : map byte a ≡ map byte b = cc in
    ap₂ ◌∷◌ (byte_injective m n p) (map_byte_injective a b q)

pub bytes_injective : (g h : Form) → bytes g ≡ bytes h → g ≡ h
bytes_injective g h e = text_injective g h (map_byte_injective (text g) (text h) e)
