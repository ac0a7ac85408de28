-- Which histories can be: what each fact requires of the facts before it.
use Rattle.std.specs.Prelude.{◌≡◌, ◌⊎◌, Bool, [], ◌∷◌, ℕ, ◌≤◌, ◌<◌, T}
use Rattle.settings.specs.Count.{count}
use Rattle.order.specs.Claim.{Plain}
use Rattle.order.specs.Places.{In}
use Rattle.order.specs.Quorums.{Quorums, Many, Few}
use Rattle.order.specs.Facts.{
  Source,
  itself,
  over,
  End,
  written,
  recovered,
  one_round,
  aborted,
  cut,
  Fact,
  began,
  promised,
  launched,
  stored,
  showed,
  ended,
  History,
}

module _ {P : Plain} (h : History P) where
  -- the operation of time t began, with some kind
  abbrev pub Began : ℕ → Type 0
  Began t = (k : P.Kind) × In (began t k) h

  -- its Write round was sent, from some source
  abbrev pub Launched : ℕ → Type 0
  Launched t = (s : Source) × In (launched t s) h

  -- it ended, somehow
  abbrev pub Ended : ℕ → Type 0
  Ended t = (e : End P) × In (ended t e) h

  -- all that brick b promised is at most t
  abbrev pub PromisedUpTo : ℕ → ℕ → Type 0
  PromisedUpTo b t = (t' : ℕ) → In (promised b t') h → t' ≤ t

-- This kind changes nothing: a read.
abbrev pub Keeps : (P : Plain) → P.Kind → Type 0
Keeps P k = (s : P.Stripe) → P.effect k s ≡ s

-- This kind sets the whole stripe to v, whatever stood there.
abbrev pub Sets : (P : Plain) → P.Kind → P.Stripe → Type 0
Sets P k v = (s : P.Stripe) → P.effect k s ≡ v

-- The time t stands for the stripe v.
pub data Val {P : Plain} (h : History P) : ℕ → P.Stripe → Type 0 where
  -- 0 stands for zeros
  fresh : Val h 0 P.zeros
  -- a store launched from the operation itself stands for what that sets
  sets : {t : ℕ} {k : P.Kind} {v : P.Stripe} → In (launched t itself) h → In (began t k) h → Sets P k v → Val h t v
  -- a store launched over c stands for the effect of its operation on what c stands for
  onto : {t c : ℕ} {k : P.Kind} {s v : P.Stripe}
      → In (launched t (over c)) h
      → In (began t k) h
      → Val h c s
      → P.effect k s ≡ v
      → Val h t v

module _ (S : Quorums) {P : Plain} (h : History P) where
  -- u is committed: it is 0, or q bricks stored it, each at some time
  abbrev pub Committed : ℕ → Type 0
  Committed u = (u ≡ 0) ⊎ Many S.n S.q (λ b. In (stored b u) h)

  -- a later time is committed
  abbrev pub Passed : ℕ → Type 0
  Passed u = (t : ℕ) × (u < t) × Committed t

-- u is dead, it can never be committed: q bricks promised a later time, and fewer than m of them stored u.
pub record Dead (S : Quorums) {P : Plain} (h : History P) (u : ℕ) : Type 0 where
  pub bricks : ℕ → Bool
  pub quorum : S.q ≤ count bricks S.n
  pub promise : (b : ℕ) → b < S.n → T (bricks b) → (t : ℕ) × (u < t) × In (promised b t) h
  pub few : Few S.n S.m (λ b. T (bricks b) × In (stored b u) h)

-- u is gone: an entry of it may be missing.
abbrev pub Gone : (S : Quorums) {P : Plain} (h : History P) → ℕ → Type 0
Gone S h u = Passed S h u ⊎ Dead S h u

-- An operation of time t begins.
pub record OkBegan {P : Plain} (h : History P) (t : ℕ) : Type 0 where
  -- 0 is before all times
  pub positive : 0 < t
  -- no two operations share a time
  pub new : (k : P.Kind) → ¬ In (began t k) h

-- Brick b promises t.
pub record OkPromised {P : Plain} (h : History P) (b t : ℕ) : Type 0 where
  -- t was asked for by an operation
  pub known : Began h t
  -- a brick's promise never falls
  pub rising : PromisedUpTo h b t

-- A store of t may be made from what c stands for.
pub record Follows (S : Quorums) {P : Plain} (h : History P) (t c : ℕ) : Type 0 where
  -- c is earlier
  pub below : c < t
  -- c is the fresh stripe or a store
  pub known : (c ≡ 0) ⊎ Launched h c
  -- every time that was passed over is gone
  pub between : (u : ℕ) → c < u → u < t → Gone S h u

abbrev pub From : (S : Quorums) {P : Plain} (h : History P) → ℕ → Source → Type 0
-- only an operation that sets the whole stripe needs no predecessor
From S {P} h t itself = (k : P.Kind) × (v : P.Stripe) × In (began t k) h × Sets P k v
From S h t (over c) = Follows S h t c

-- The Write round of t is sent.
pub record OkLaunched (S : Quorums) {P : Plain} (h : History P) (t : ℕ) (s : Source) : Type 0 where
  -- its operation runs
  pub known : Began h t
  pub running : ¬ Ended h t
  -- this is its only Write round
  pub new : ¬ Launched h t
  -- a quorum promised t
  pub order : Many S.n S.q (λ b. In (promised b t) h)
  -- what is sent comes from the operation itself, or from the latest time that is not gone
  pub source : From S h t s

-- Brick b stores t.
pub record OkStored {P : Plain} (h : History P) (b t : ℕ) : Type 0 where
  -- it was sent
  pub known : Launched h t
  -- a brick stores nothing below its promise
  pub allowed : PromisedUpTo h b t

-- Brick b shows c to the read t.
pub record OkShowed {P : Plain} (h : History P) (b t c : ℕ) : Type 0 where
  -- it was asked
  pub known : Began h t
  -- it stored what it shows
  pub has : (c ≡ 0) ⊎ In (stored b c) h
  -- and promised nothing above that
  pub settled : PromisedUpTo h b c

-- The operation t gave what it gives of the stripe that c stands for.
pub record Gives {P : Plain} (h : History P) (t c : ℕ) (g : P.Given) : Type 0 where
  pub kind : P.Kind
  pub asked : In (began t kind) h
  -- it is a read
  pub keeps : Keeps P kind
  pub stripe : P.Stripe
  pub value : Val h c stripe
  -- byte for byte
  pub bytes : g ≡ P.gives kind stripe

-- The operation t gave what it gives of any stripe.
pub record Says {P : Plain} (h : History P) (t : ℕ) (g : P.Given) : Type 0 where
  pub kind : P.Kind
  pub asked : In (began t kind) h
  pub blind : (s : P.Stripe) → P.gives kind s ≡ g

abbrev pub HasAnswered : (S : Quorums) {P : Plain} (h : History P) → ℕ → End P → Type 0
-- after a Write round: a quorum stored t
HasAnswered S h t (written g) = Committed S h t × Says h t g
HasAnswered S h t (recovered g) = Committed S h t × Gives h t t g
-- in one round: nothing was sent to be stored, and a quorum showed c
HasAnswered S h t (one_round c g) = (¬ Launched h t) × Many S.n S.q (λ b. In (showed b t c) h) × Gives h t c g
-- an abort or a crash requires nothing more
HasAnswered S h t aborted = Unit {0}
HasAnswered S h t cut = Unit {0}

-- The operation t ends.
pub record OkEnded (S : Quorums) {P : Plain} (h : History P) (t : ℕ) (e : End P) : Type 0 where
  -- it runs
  pub known : Began h t
  pub running : ¬ Ended h t
  pub answer : HasAnswered S h t e

abbrev pub Ok : (S : Quorums) {P : Plain} → Fact P → History P → Type 0
Ok S (began t k) h = OkBegan h t
Ok S (promised b t) h = OkPromised h b t
Ok S (launched t s) h = OkLaunched S h t s
Ok S (stored b t) h = OkStored h b t
Ok S (showed b t c) h = OkShowed h b t c
Ok S (ended t e) h = OkEnded S h t e

-- A history is valid if each fact meets what it requires of those before it.
pub data Valid (S : Quorums) {P : Plain} : History P → Type 0 where
  start : Valid S []
  next : {f : Fact P} {h : History P} → Valid S h → Ok S f h → Valid S (f ∷ h)
