-- Places in a history. A history is a list, newest first, so a place is named by what lies below it: an end of the list.
use Rattle.std.specs.Prelude.{List, ◌∷◌}

-- a is an end of h
pub data Suf {A : Type 0} (a : List A) : List A → Type 0 where
  whole : Suf a a
  above : {f : A} {h : List A} → Suf a h → Suf a (f ∷ h)

-- f stands in h, with what lies below it
abbrev pub In : {A : Type 0} → A → List A → Type 0
In {A} f h = (b : List A) × Suf (f ∷ b) h
