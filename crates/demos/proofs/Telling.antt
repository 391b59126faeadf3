-- The text that print has written at the front of a buffer.
use Rattle.std.proofs.Common.{◌≡◌, ℕ, List, ◌++◌, length, take, drop}
use Rattle.std.proofs.Math.Seq.{take-append_seam}
use Rattle.games.specs.Text.{bytes}
use Rattle.calls.specs.Answers.{told}
use Rattle.calls.specs.Asking.{Prints, written}
use Rattle.calls.specs.Rows.{Rows, node}
use Rattle.dictionary.specs.Printing.{Printed}

module _ (rows : Rows) (n : ℕ) (before after : List ℕ) where
  front_told : (end : ℕ) (text : List ℕ) → Prints rows n (length before) (told end) text → after ≡ text ++ drop (length text) before → Prints rows n (length before) (told (length (take end after))) (take end after)
  front_told end text (written known fits short) front =
      rw (front, take-append_seam (bytes (node rows n)) (drop (length (bytes (node rows n))) before)) (written known fits short)

  pub printed_front : (end : ℕ) → Printed rows n before (told end) after → Prints rows n (length before) (told (length (take end after))) (take end after)
  printed_front end p = front_told end p.text p.prints p.front
