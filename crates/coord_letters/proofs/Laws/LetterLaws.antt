-- The ways through the letters.
use mathlib.Core.Path.{◌≡◌, refl, sym}
use mathlib.Core.Bool.{Bool, false}
use Prim.Native.Nat.{ℕ}
use borrow.Author.Tests.{eq-eqb, ne_eqb}
use Rattle.byte_lists.specs.Each.{some}
use Rattle.coord_record.specs.declared.Op.{Op}
use Rattle.coord_record.specs.declared.Tally.{Tally}
use Rattle.coord_tally.specs.Counting.{said_no}
use Rattle.coord_letters.specs.Letters.{letter_f, letter_h, letter_l, letter_x, read_letter, abort_letter}
use Rattle.message.specs.Kinds.{read_kind, third_round}

pub letter_f_lem : (op : Op) → op.phase ≡ read_kind → letter_f ≡ read_letter op
unfolding read_letter
letter_f_lem op e = sym (rw (eq-eqb op.phase read_kind e) refl)

pub letter_h_lem : (op : Op) → (op.phase ≡ read_kind → ⊥) → op.round ≡ third_round → letter_h ≡ read_letter op
unfolding read_letter
letter_h_lem op n e = sym (rw (ne_eqb op.phase read_kind n, eq-eqb op.round third_round e) refl)

pub letter_l_lem : (op : Op) → (op.phase ≡ read_kind → ⊥) → (op.round ≡ third_round → ⊥) → letter_l ≡ read_letter op
unfolding read_letter
letter_l_lem op n e = sym (rw (ne_eqb op.phase read_kind n, ne_eqb op.round third_round e) refl)

pub letter_x_lem : (n : ℕ) (op : Op) (t : Tally) (a : Bool) → a ≡ some (said_no t.counted t.granted) n → a ≡ false → letter_x ≡ abort_letter n op t
unfolding abort_letter
letter_x_lem n op t a ea z = sym (rw (← ea, z) refl)
