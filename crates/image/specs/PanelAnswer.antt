-- What the service panel shows of an image, by the refusal's number.
use Rattle.std.specs.Prelude.{ℕ}
use Rattle.image.specs.declared.Panel.{Panel}

pub data Shown : Type 0 where
  Values : Panel → Shown
  Refused : ℕ → Shown
