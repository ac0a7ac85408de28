-- What opening an image answers, by the refusal's number.
use Rattle.std.specs.Prelude.{List, ℕ}
use Rattle.image.specs.declared.Entry.{Entry}
use Rattle.image.specs.declared.Head.{Head}

-- the answer of an opening
pub data ImageAnswer : Type 0 where
  Opened : Head → ImageAnswer
  Refused : ℕ → ImageAnswer

-- an opened brick, with its working log beside the answer
pub record Opening : Type 0 where
  pub answer : ImageAnswer
  pub log : List Entry
