-- What one order means for those who read and write: the words for it, of any list of what is seen.
use Rattle.std.specs.Prelude.{◌≡◌, ◌⊎◌, List, ◌∷◌, ◌++◌, ℕ}
use Rattle.order.specs.Claim.{Plain, Blocks, Result, write, read_block, write_block, bytes, stripe, Ending, finished, Seen, Operation, ◌∈◌, Before}
use Rattle.order.specs.Claim.{Once, fed}

-- Operation t ended, by answer, abort or cut, before operation u began.
abbrev pub EndedBefore : {P : Plain} → List (Seen P) → ℕ → ℕ → Type 0
EndedBefore {P} l t u = (r : Ending P) × (k : P.Kind) × Before (Seen.ended t r) (Seen.began u k) l

-- Operation t began before operation u ended.
abbrev pub BeganBefore : {P : Plain} → List (Seen P) → ℕ → ℕ → Type 0
BeganBefore {P} l t u = (k : P.Kind) × (r : Ending P) × Before (Seen.began t k) (Seen.ended u r) l

-- Operation x neither ended before t began ..
pub record Within {P : Plain} (l : List (Seen P)) (t u x : ℕ) : Type 0 where
  pub not-before : ¬ EndedBefore l x t
  -- .. nor began after u ended.
  pub not_after : ¬ EndedBefore l u x

-- Operation t began as x, and finished and gave a.
abbrev pub OperationGave : {P : Plain} → List (Seen P) → ℕ → P.Kind → P.Given → Type 0
OperationGave l t x a = Seen.began t x ∈ l × Seen.ended t (finished a) ∈ l

-- Some operations of a run, in order: each began with this kind and these bytes,
pub record InOrder {P : Plain} (l : List (Seen P)) (os : List (Operation P)) : Type 0 where
  pub begun : (o : Operation P) → o ∈ os → Seen.began o.time o.kind ∈ l
  -- none stands there twice,
  pub once : Once os
  -- and what ended, by answer, abort or crash, before another began stands ahead of it.
  pub ahead : (o p : Operation P) → o ∈ os → p ∈ os → EndedBefore l o.time p.time → Before o p os

-- A cut of the one order (`Claim.OneOrder`) at operation t, which began as x and gave a: the operations os stand ahead of it.
pub record CutAt {P : Plain} (l : List (Seen P)) (t : ℕ) (x : P.Kind) (a : P.Given) (os : List (Operation P)) : Type 0 where
  pub in_order : InOrder l os
  -- t gave what the plain stripe gives after them.
  pub gave : a ≡ P.gives x (fed P.zeros os)
  -- What finished before t began is among them,
  pub finished-there : (o : Operation P) (g : P.Given) → OperationGave l o.time o.kind g → EndedBefore l o.time t → o ∈ os
  -- what began after t ended is not.
  pub not_after : (o : Operation P) → o ∈ os → ¬ EndedBefore l t o.time

-- A cut at two operations: ahead of t stand those of `before`; ahead of u these, t itself, and those of `between`.
pub record CutAtTwo {P : Plain} (l : List (Seen P)) (t : ℕ) (x : P.Kind) (a : P.Given) (u : ℕ) (y : P.Kind) (b : P.Given) : Type 0 where
  pub before : List (Operation P)
  pub between : List (Operation P)
  pub first : CutAt l t x a before
  pub second : CutAt l u y b (before ++ (record { time = t; kind = x } ∷ between))
  -- What stands in `between` neither ended before t began nor began after u ended.
  pub within : (o : Operation P) → o ∈ between → Within l t u o.time
  -- What ended before t began, by answer, abort or crash, stands in `before`, or in neither list: it is there for both or away for both.
  pub there-or-away : (o : Operation P) → Seen.began o.time o.kind ∈ l → EndedBefore l o.time t → (o ∈ before) ⊎ (¬ (o ∈ before ++ between))

-- Operations t and u, which began as x and y, gave a and b: what the plain stripe gives after one list of operations.
pub record AfterOneList {P : Plain} (l : List (Seen P)) (t : ℕ) (x : P.Kind) (a : P.Given) (u : ℕ) (y : P.Kind) (b : P.Given) : Type 0 where
  pub list : List (Operation P)
  pub in_order : InOrder l list
  pub first-gave : a ≡ P.gives x (fed P.zeros list)
  pub second-gave : b ≡ P.gives y (fed P.zeros list)
  -- What finished before both began is in it,
  pub finished-there : (o : Operation P) (g : P.Given)
      → OperationGave l o.time o.kind g → EndedBefore l o.time t → EndedBefore l o.time u → o ∈ list
  -- what began after both had ended is not.
  pub not_after : (o : Operation P) → o ∈ list → ¬ (EndedBefore l t o.time × EndedBefore l u o.time)

module _ {S B : Type 0} {blocks : Blocks S B} {z : S} (l : List (Seen (stripe blocks z))) where
  -- Read t finished and gave a.
  abbrev pub ReadGave : ℕ → S → Type 0
  ReadGave t a = Seen.ended t (finished (bytes a)) ∈ l

  -- Operation w is a write of v, and no other write has these bytes.
  abbrev pub OnlyWriteOf : ℕ → S → Type 0
  OnlyWriteOf w v = Seen.began w (write v) ∈ l × ((x : ℕ) → Seen.began x (write v) ∈ l → x ≡ w)

  -- Operation x is a write of b that neither ended before t began nor began after u ended.
  abbrev pub WriteWithin : (t u x : ℕ) → S → Type 0
  WriteWithin t u x b = Seen.began x (write b) ∈ l × Within l t u x

  -- No write of one block began.
  abbrev pub NoBlockWrites : Type 0
  NoBlockWrites = (w j : ℕ) (b : B) → ¬ (Seen.began w (write_block j b) ∈ l)

-- Operation w is a write, of the stripe or of one block.
pub data IsWrite {S B : Type 0} {blocks : Blocks S B} {z : S} (l : List (Seen (stripe blocks z))) (w : ℕ) : Type 0 where
  of_stripe : {v : S} → Seen.began w (write v) ∈ l → IsWrite l w
  of_block : {j : ℕ} {b : B} → Seen.began w (write_block j b) ∈ l → IsWrite l w

-- Read t, of the stripe or of block j alone, finished and gave a as block j.
pub data BlockGave {S B : Type 0} {blocks : Blocks S B} {z : S} (l : List (Seen (stripe blocks z))) (j t : ℕ) (a : B) : Type 0 where
  in_stripe : {v : S} → Seen.ended t (finished (bytes v)) ∈ l → blocks.at j v ≡ a → BlockGave l j t a
  alone : Seen.began t (read_block j) ∈ l → Seen.ended t (finished (Result.block a)) ∈ l → BlockGave l j t a

-- Operation w, a write of the stripe or of block j alone, writes a as block j.
pub data BlockWritten {S B : Type 0} {blocks : Blocks S B} {z : S} (l : List (Seen (stripe blocks z))) (j w : ℕ) (a : B) : Type 0 where
  in_stripe : {v : S} → Seen.began w (write v) ∈ l → blocks.at j v ≡ a → BlockWritten l j w a
  alone : Seen.began w (write_block j a) ∈ l → BlockWritten l j w a

module _ {S B : Type 0} {blocks : Blocks S B} {z : S} (l : List (Seen (stripe blocks z))) (j : ℕ) where
  -- Operation w writes a as block j, and no other operation writes this there.
  abbrev pub OnlyBlockWriteOf : ℕ → B → Type 0
  OnlyBlockWriteOf w a = BlockWritten l j w a × ((x : ℕ) → BlockWritten l j x a → x ≡ w)

  -- Operation x writes b as block j, and neither ended before t began nor began after u ended.
  abbrev pub BlockWriteWithin : (t u x : ℕ) → B → Type 0
  BlockWriteWithin t u x b = BlockWritten l j x b × Within l t u x
