-- The claim: the operations on a stripe have one order.
-- It is said of a flat list of what is seen of a run, operations beginning and ending, in the order of the events.
-- How a stripe is kept is no part of it.
use Rattle.std.specs.Prelude.{◌≡◌, ◌≢◌, ℕ}
use mathlib.Core.List.{List, [], ◌∷◌, Memᴰ}

-- The plain stripe: what an operation of each kind does to it, and what that operation gives at its place.
pub record Plain : Type 1 where
  pub Kind : Type 0
  pub Stripe : Type 0
  pub Given : Type 0
  pub zeros : Stripe
  pub effect : Kind → Stripe → Stripe
  pub gives : Kind → Stripe → Given

-- A stripe is a row of blocks: block j of it, and the stripe with block j set.
pub record Blocks (S B : Type 0) : Type 0 where
  pub at : ℕ → S → B
  pub set : ℕ → B → S → S

-- Document 01's operations on a stripe of these blocks, and E2's on one block of it;
pub data Action {S B : Type 0} (blocks : Blocks S B) : Type 0 where
  read : Action blocks
  write : S → Action blocks
  read_block : ℕ → Action blocks
  write_block : ℕ → B → Action blocks

-- and what they give: ok, the bytes that were read, or the block.
pub data Result (S B : Type 0) : Type 0 where
  ok : Result S B
  bytes : S → Result S B
  block : B → Result S B

-- "A write sets it to its bytes." "A read gives it as it stands and changes nothing." E2: "on the plain stripe, fed j too, a write of
-- block j sets that block alone, and a read of block j gives it."
unfoldable pub changed : {S B : Type 0} {blocks : Blocks S B} → Action blocks → S → S
changed read s = s
changed (write v) s = v
changed (read_block j) s = s
changed {S} {B} {blocks} (write_block j b) s = blocks.set j b s

unfoldable pub given : {S B : Type 0} {blocks : Blocks S B} → Action blocks → S → Result S B
given read s = bytes s
given (write v) s = ok
given {S} {B} {blocks} (read_block j) s = block (blocks.at j s)
given (write_block j b) s = ok

-- The plain stripe of document 01 with the operations of E2, by its blocks and its zeros.
abbrev pub stripe : {S B : Type 0} → Blocks S B → S → Plain
stripe {S} {B} blocks z =
    record { Kind = Action blocks; Stripe = S; Given = Result S B; zeros = z; effect = changed; gives = given }

-- How an operation ends. "It is finished at the event that answers ok or gives what was read, aborted at the event that
-- answers abort, cut at a crash of its coordinator before either."
pub data Ending (P : Plain) : Type 0 where
  finished : P.Given → Ending P
  aborted : Ending P
  cut : Ending P

-- One thing seen: the operation of this time begins, or ends. A time names one operation.
pub data Seen (P : Plain) : Type 0 where
  began : ℕ → P.Kind → Seen P
  ended : ℕ → Ending P → Seen P

-- An operation as it is fed to the plain stripe.
pub record Operation (P : Plain) : Type 0 where
  pub time : ℕ
  pub kind : P.Kind

infix 50 ◌∈◌
abbrev pub ◌∈◌ : {A : Type 0} → A → List A → Type 0
◌∈◌ a l = Memᴰ a l

-- a stands in the list, and b after it
pub data Before {A : Type 0} (a b : A) : List A → Type 0 where
  here : {x : A} {l : List A} → a ≡ x → b ∈ l → Before a b (x ∷ l)
  later : {x : A} {l : List A} → Before a b l → Before a b (x ∷ l)

-- No operation twice.
unfoldable pub Once : {P : Plain} → List (Operation P) → Type 0
Once [] = Unit {0}
Once {P} (o ∷ os) = ((x : Operation P) → x ∈ os → o.time ≢ x.time) × Once os

-- The plain stripe stands at s and is fed the operations in order: each that finished gave what the stripe gives at its place.
unfoldable pub Right : {P : Plain} → List (Seen P) → P.Stripe → List (Operation P) → Type 0
Right l s [] = Unit {0}
Right {P} l s (o ∷ os) =
    ((g : P.Given) → Seen.ended o.time (finished g) ∈ l → g ≡ P.gives o.kind s) × Right l (P.effect o.kind s) os

-- Demand 3, of what is seen of a run.
pub record OneOrder (P : Plain) (l : List (Seen P)) : Type 0 where
  -- a time names one operation: none begins twice
  pub named : (t : ℕ) (k k' : P.Kind) → ¬ Before (Seen.began t k) (Seen.began t k') l
  -- "the operations on a stripe have one order": a list of operations ..
  pub order : List (Operation P)
  -- .. that began, each with the kind and bytes that it began with
  pub begun : (o : Operation P) → o ∈ order → Seen.began o.time o.kind ∈ l
  -- "stand in it once"
  pub once : Once order
  -- "all finished reads and writes stand in it .., with some of those aborted, cut short or still running"
  pub all : (t : ℕ) (g : P.Given) → Seen.ended t (finished g) ∈ l → (o : Operation P) × (o.time ≡ t) × (o ∈ order)
  -- "each finished read gave, byte for byte, what the writes before it in that order left where it reads, zeros where none wrote"
  pub right : Right l P.zeros order
  -- "what ended, by answer, abort or crash, before another began stands ahead of it or nowhere"
  pub ahead : (x y : Operation P) (r : Ending P) (k : P.Kind) → x ∈ order → y ∈ order
      → Before (Seen.ended x.time r) (Seen.began y.time k) l → Before x y order

-- the plain stripe after these operations
unfoldable pub fed : {P : Plain} → P.Stripe → List (Operation P) → P.Stripe
fed s [] = s
fed {P} s (o ∷ os) = fed (P.effect o.kind s) os
