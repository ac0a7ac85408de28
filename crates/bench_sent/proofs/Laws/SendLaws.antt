-- A message to each brick, one row after the other.
use mathlib.Core.Path.{◌≡◌, refl, sym, ap, ap₂, subst, ◌∙◌}
use mathlib.Core.List.{List, [], ◌∷◌, ◌++◌, append_assoc, append-nil}
use Prim.Native.Nat.{ℕ, ◌+◌, ◌-◌, ◌*◌, ◌≤◌, ◌<◌}
use native.Mathlib.Omega.{arith}
use native.Mathlib.Nat.{suc-mul, mul-le-mul_right}
use native.Mathlib.Numerals.{add-one}
use lib.ListN.{length, take, drop, replicate}
use borrow.Author.Tests.{eq-eqb, ne_eqb}
use Rattle.byte_lists.specs.Lists.{zeros}
use Rattle.byte_lists.proofs.Laws.ZeroLaws.{zeros_take, zeros_length}
use Rattle.erasure.specs.Code.{block_of}
use Rattle.byte_lists.proofs.Laws.StackLaws.{part_length}
use Rattle.message.specs.Kinds.{write_kind, modify_kind}
use Rattle.message.specs.declared.Message.{Message}
use Rattle.register.specs.Driver.{with_blocks}
use Rattle.register.specs.Runs.{Item, message, block_for, old_for, to_all}
use Rattle.bench_sent.specs.Sent.{items_of}
use Rattle.bench_sent.specs.Workers.{Coded, Added, Sends}
use Rattle.bench_sent.specs.Workers.{One, Picked}
use Rattle.bench_limits.specs.Limits.{bench_size}

-- a brick's block is within the buffer
pub block_within : (n j size : ℕ) (msg : Message) (blocks stripe coded : List ℕ) → Coded n size msg blocks stripe coded → j < n → msg.kind ≡ write_kind
    → j * size + size ≤ length coded
block_within n j size msg blocks stripe coded c h e = let w = c.enough e in let q = mul-le-mul_right size h in let p = suc-mul j size in omega arith

pub coded_fewer : (n j size : ℕ) (msg : Message) (blocks stripe coded : List ℕ) → Coded n size msg blocks stripe coded → j < n
    → Coded (j + 1) size msg blocks stripe coded
coded_fewer n j size msg blocks stripe coded c h =
    record {
      enough = λ e. (let w = block_within n j size msg blocks stripe coded c h e in let p = suc-mul j size in let q = add-one j in
          subst (λ (x : ℕ). x * size ≤ length coded) (sym q) (omega arith));
      new-there = c.new-there;
      old-there = c.old-there;
    }

-- a block as code cuts it out of many
cut_block : (size j : ℕ) (all block : List ℕ) → block ≡ take (j * size + size - j * size) (drop (j * size) all) → block ≡ block_of size all j
unfolding block_of
cut_block size j all block e = let cut : j * size + size - j * size ≡ size = omega arith in e ∙ ap (λ (x : ℕ). take x (drop (j * size) all)) cut

module _ (j size : ℕ) (msg : Message) (blocks stripe coded : List ℕ) where
  -- with a Write goes block j,
  pub picked_write : (none : List ℕ) → msg.kind ≡ write_kind → Coded (j + 1) size msg blocks stripe coded → none ≡ replicate size 0
      → Picked j size msg blocks stripe coded (take (j * size + size - j * size) (drop (j * size) coded)) none
  unfolding block_for old_for with_blocks zeros
  picked_write none e c z =
      let w = eq-eqb msg.kind write_kind e in
      let m = ne_eqb msg.kind modify_kind (λ q. omega arith) in
      record {
        long = part_length size coded (j * size) (block_within (j + 1) j size msg blocks stripe coded c (omega arith) e);
        old-long = ap length z ∙ zeros_length size;
        block-is = λ s es. cut_block size j coded _ refl ∙ rw (w, m, es) refl;
        old-is = λ s es. z ∙ rw (m, es) refl;
      }

  -- with Modify the new and the old block,
  pub picked_modify : msg.kind ≡ modify_kind → Coded (j + 1) size msg blocks stripe coded
      → Picked j size msg blocks stripe coded (take (msg.block * size + size - msg.block * size) (drop (msg.block * size) stripe))
      (take (msg.block * size + size - msg.block * size) (drop (msg.block * size) blocks))
  unfolding block_for old_for with_blocks
  picked_modify e c =
      let w = ne_eqb msg.kind write_kind (λ q. omega arith) in
      let m = eq-eqb msg.kind modify_kind e in
      record {
        long = part_length size stripe (msg.block * size) (c.new-there e);
        old-long = part_length size blocks (msg.block * size) (c.old-there e);
        block-is = λ s es. cut_block size msg.block stripe _ refl ∙ rw (w, m) refl;
        old-is = λ s es. cut_block size msg.block blocks _ refl ∙ rw m refl;
      }

  -- and with any other zeros
  pub picked_zeros : (none : List ℕ) → (msg.kind ≡ write_kind → ⊥) → (msg.kind ≡ modify_kind → ⊥) → none ≡ replicate size 0
      → Picked j size msg blocks stripe coded none none
  unfolding block_for old_for with_blocks zeros
  picked_zeros none e f z =
      let w = ne_eqb msg.kind write_kind e in
      let m = ne_eqb msg.kind modify_kind f in
      let l : length none ≡ size = ap length z ∙ zeros_length size in
      record { long = l; old-long = l; block-is = λ s es. z ∙ rw (w, m, es) refl; old-is = λ s es. z ∙ rw (m, es) refl }

  -- what stands in row at is what the driver sends to brick j
  pub one_by : (at : ℕ) (block old numbers bytes numbers' bytes' : List ℕ) → Picked j size msg blocks stripe coded block old
      → Added at block numbers bytes numbers' bytes' (message j msg block old) → One at j size msg blocks stripe coded numbers bytes numbers' bytes'
  one_by at block old numbers bytes numbers' bytes' p a =
      record {
        items = λ s es. (
            a.items size p.long ∙ ap₂ (λ (b o : List ℕ). items_of size numbers bytes at ++ message j msg b o ∷ []) (p.block-is s es) (p.old-is s es)
            );
      }

-- none, and one more
pub sends_none : (k size : ℕ) (msg : Message) (blocks stripe coded numbers bytes : List ℕ)
    → Sends k 0 size msg blocks stripe coded numbers bytes numbers bytes
unfolding to_all
sends_none k size msg blocks stripe coded numbers bytes =
    record {
      items = λ s es. (
          let e : k + 0 ≡ k = omega arith in
          ap (items_of size numbers bytes) e ∙ sym (append-nil (items_of size numbers bytes k))
          );
    }

pub sends_more : (k j size : ℕ) (msg : Message) (blocks stripe coded numbers bytes numbers' bytes' numbers'' bytes'' : List ℕ)
    → Sends k j size msg blocks stripe coded numbers bytes numbers' bytes'
    → One (k + j) j size msg blocks stripe coded numbers' bytes' numbers'' bytes''
    → Sends k (j + 1) size msg blocks stripe coded numbers bytes numbers'' bytes''
unfolding to_all with_blocks
sends_more k j size msg blocks stripe coded numbers bytes numbers' bytes' numbers'' bytes'' a o =
    record {
      items = λ s es. (
          let e : k + (j + 1) ≡ k + j + 1 = omega arith in
          let c = with_blocks size msg blocks stripe coded in
          let i : Item = message j msg (block_for s c j) (old_for s c) in
          ap (items_of size numbers'' bytes'') e ∙ o.items s es
          ∙ ap (λ (l : List Item). l ++ i ∷ []) (a.items s es)
          ∙ append_assoc (items_of size numbers bytes k) (to_all s c j) (i ∷ [])
          ∙ ap (λ (x : ℕ). items_of size numbers bytes k ++ to_all s c x) (sym (add-one j))
          );
    }

-- the zeros that stand for a block
pub zeros_cut : (size : ℕ) → size ≤ bench_size → take {A = ℕ} size (replicate bench_size 0) ≡ replicate size 0
unfolding zeros
zeros_cut size h = zeros_take bench_size size h
