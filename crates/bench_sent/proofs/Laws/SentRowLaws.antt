-- Rows stored and read back.
use mathlib.Core.Path.{◌≡◌, refl, sym, ap, ap₂, ◌∙◌}
use mathlib.Core.Bool.{true, false}
use mathlib.Core.List.{List, [], ◌∷◌, ◌++◌}
use Prim.Native.Nat.{ℕ, zero, suc, ◌+◌, ◌-◌, ◌*◌, ◌%◌, ◌≤◌, ◌<◌}
use native.Mathlib.Omega.{arith}
use native.Mathlib.Nat.{mod-eq_of_lt}
use native.Mathlib.Numerals.{add-one}
use lib.ListN.{length, take, drop, get_or, get_or-append}
use lib.Seq.{length-take-le, get_or-append-add, get_or-take}
use Rattle.byte_lists.specs.Lists.{zeros, put}
use Rattle.byte_lists.proofs.Laws.PutLaws.{put_is, put_length, put_in, put_first, put_before, cut_same}
use Rattle.message.specs.declared.Message.{Message}
use Rattle.message.specs.declared.Reply.{Reply}
use Rattle.register.specs.Runs.{Item, message, reply}
use Rattle.settings.proofs.Laws.CountLaws.{one_is}
use Rattle.bench_sent.specs.Sent.{number_at, is_reply, flags_at, sent_block_at, old_block_at, message_at, reply_at, item_at, items_of}
use Rattle.bench_sent.specs.Workers.{Added, message_row, reply_row, numbers_with, bytes_with, old_with, no_flags}
use Rattle.bench_limits.specs.Limits.{bench_size, row_numbers, row_bytes, tag_place, brick_place, kind_place, time_place, round_place, max_place}
use Rattle.bench_limits.specs.Limits.{yes_place, held_place, stripe_place, old_time_place, data_block_place, comparison_place}
use Rattle.bench_limits.specs.Limits.{flag_count, block_place, old_block_place}

-- a number that was put is found there
pub put_read : (at i : ℕ) (row l : List ℕ) → at ≤ length l → i < length row → get_or (put at row l) (at + i) 0 ≡ get_or row i 0
put_read at i row l h hi =
    let n = length-take-le at l h in
    ap (λ (x : List ℕ). get_or x (at + i) 0) (put_is at row l)
    ∙ ap (λ (k : ℕ). get_or (take at l ++ (row ++ drop (at + length row) l)) (k + i) 0) (sym n)
    ∙ get_or-append-add (take at l) (row ++ drop (at + length row) l) i 0
    ∙ get_or-append row (drop (at + length row) l) 0 i hi

-- the rows before row k are as they were
pub record Below (k : ℕ) (numbers bytes numbers' bytes' : List ℕ) : Type 0 where
  pub same_numbers : take (k * row_numbers) numbers' ≡ take (k * row_numbers) numbers
  pub same_bytes : take (k * row_bytes) bytes' ≡ take (k * row_bytes) bytes

module _ (k : ℕ) (numbers bytes numbers' bytes' : List ℕ) (b : Below k numbers bytes numbers' bytes') where
  number_below : (j i : ℕ) → j < k → i < row_numbers → number_at numbers' j i ≡ number_at numbers j i
  unfolding number_at
  number_below j i hj hi =
      let h : j * row_numbers + i < k * row_numbers = omega arith in
      sym (get_or-take (k * row_numbers) numbers' (j * row_numbers + i) 0 h) ∙ ap (λ (l : List ℕ). get_or l (j * row_numbers + i) 0) b.same_numbers
      ∙ get_or-take (k * row_numbers) numbers (j * row_numbers + i) 0 h

  flags_below : (j : ℕ) → j < k → flags_at bytes' j ≡ flags_at bytes j
  unfolding flags_at
  flags_below j hj = cut_same (j * row_bytes) flag_count (k * row_bytes) bytes bytes' (omega arith) b.same_bytes

  block_below : (size j : ℕ) → size ≤ bench_size → j < k → sent_block_at size bytes' j ≡ sent_block_at size bytes j
  unfolding sent_block_at
  block_below size j hs hj = cut_same (j * row_bytes + block_place) size (k * row_bytes) bytes bytes' (omega arith) b.same_bytes

  old_below : (size j : ℕ) → size ≤ bench_size → j < k → old_block_at size bytes' j ≡ old_block_at size bytes j
  unfolding old_block_at
  old_below size j hs hj = cut_same (j * row_bytes + old_block_place) size (k * row_bytes) bytes bytes' (omega arith) b.same_bytes

  item_below : (size j : ℕ) → size ≤ bench_size → j < k → item_at size numbers' bytes' j ≡ item_at size numbers bytes j
  unfolding item_at is_reply message_at reply_at
  item_below size j hs hj =
      let n0 = number_below j tag_place hj (omega arith) in
      let n1 = number_below j brick_place hj (omega arith) in
      let n2 = number_below j kind_place hj (omega arith) in
      let n3 = number_below j time_place hj (omega arith) in
      let n4 = number_below j round_place hj (omega arith) in
      let n5 = number_below j max_place hj (omega arith) in
      let n6 = number_below j yes_place hj (omega arith) in
      let n7 = number_below j held_place hj (omega arith) in
      let n8 = number_below j stripe_place hj (omega arith) in
      let n9 = number_below j old_time_place hj (omega arith) in
      let n10 = number_below j data_block_place hj (omega arith) in
      let n11 = number_below j comparison_place hj (omega arith) in
      let f = flags_below j hj in
      let d = block_below size j hs hj in
      let o = old_below size j hs hj in
      rw (n0, n1, n2, n3, n4, n5, n6, n7, n8, n9, n10, n11, f, d, o)

  pub items_below : (size j : ℕ) → size ≤ bench_size → j ≤ k → items_of size numbers' bytes' j ≡ items_of size numbers bytes j
  unfolding items_of
  items_below size zero hs hj = refl
  items_below size (suc j) hs hj =
      ap₂ (λ (l : List Item) (i : Item). l ++ i ∷ []) (items_below size j hs (omega arith)) (item_below size j hs (omega arith))

  -- and with row k there is one item more
  items_more : (size : ℕ) (item : Item) → size ≤ bench_size → item_at size numbers' bytes' k ≡ item
      → items_of size numbers' bytes' (k + 1) ≡ items_of size numbers bytes k ++ item ∷ []
  unfolding items_of
  items_more size item hs f =
      ap (items_of size numbers' bytes') (add-one k)
      ∙ ap₂ (λ (l : List Item) (i : Item). l ++ i ∷ []) (items_below size k hs (omega arith)) f

module _ (k : ℕ) (row flags block numbers bytes : List ℕ)
    (nr : length row ≡ row_numbers) (nf : length flags ≡ flag_count) (nb : length block ≤ bench_size)
    (hn : k * row_numbers + row_numbers ≤ length numbers) (hb : k * row_bytes + row_bytes ≤ length bytes) where
  number_stored : (i : ℕ) → i < row_numbers → number_at (numbers_with k row numbers) k i ≡ get_or row i 0
  unfolding number_at numbers_with
  number_stored i hi = put_read (k * row_numbers) i row numbers (omega arith) (omega arith)

  flags_put : length (put (k * row_bytes) flags bytes) ≡ length bytes
  flags_put = put_length (k * row_bytes) flags bytes (omega arith)

  flags_stored : flags_at (bytes_with k flags block bytes) k ≡ flags
  unfolding flags_at bytes_with
  flags_stored =
      cut_same (k * row_bytes) flag_count (k * row_bytes + block_place) (put (k * row_bytes) flags bytes) (put (k * row_bytes + block_place) block (put (k * row_bytes) flags bytes)) (omega arith)
      (put_first (k * row_bytes + block_place) (k * row_bytes + block_place) block (put (k * row_bytes) flags bytes) (omega arith) (omega (arith, flags_put)))
      ∙ put_in (k * row_bytes) flag_count flags bytes nf (omega arith)

  block_stored : (size : ℕ) → length block ≡ size → sent_block_at size (bytes_with k flags block bytes) k ≡ block
  unfolding sent_block_at bytes_with
  block_stored size e = put_in (k * row_bytes + block_place) size block (put (k * row_bytes) flags bytes) e (omega (arith, flags_put))

  stored_below : Below k numbers bytes (numbers_with k row numbers) (bytes_with k flags block bytes)
  unfolding numbers_with bytes_with
  stored_below =
      record {
        same_numbers = put_first (k * row_numbers) (k * row_numbers) row numbers (omega arith) (omega arith);
        same_bytes =
            put_first (k * row_bytes + block_place) (k * row_bytes) block (put (k * row_bytes) flags bytes) (omega arith) (omega (arith, flags_put))
            ∙ put_first (k * row_bytes) (k * row_bytes) flags bytes (omega arith) (omega arith);
      }

  -- the old block behind them
  module _ (old : List ℕ) (lo : length old ≡ length block) where
    row_put_lem : length (bytes_with k flags block bytes) ≡ length bytes
    unfolding bytes_with
    row_put_lem = put_length (k * row_bytes + block_place) block (put (k * row_bytes) flags bytes) (omega (arith, flags_put)) ∙ flags_put

    flags_kept : flags_at (old_with k old (bytes_with k flags block bytes)) k ≡ flags
    unfolding flags_at old_with
    flags_kept =
        put_before (k * row_bytes + old_block_place) (k * row_bytes) flag_count old (bytes_with k flags block bytes) (omega arith) (omega (arith, row_put_lem))
        ∙ flags_stored

    block_kept : (size : ℕ) → length block ≡ size → sent_block_at size (old_with k old (bytes_with k flags block bytes)) k ≡ block
    unfolding sent_block_at old_with
    block_kept size e =
        put_before (k * row_bytes + old_block_place) (k * row_bytes + block_place) size old (bytes_with k flags block bytes) (omega arith) (omega (arith, row_put_lem))
        ∙ block_stored size e

    old_stored : (size : ℕ) → length block ≡ size → old_block_at size (old_with k old (bytes_with k flags block bytes)) k ≡ old
    unfolding old_block_at old_with
    old_stored size e = put_in (k * row_bytes + old_block_place) size old (bytes_with k flags block bytes) (lo ∙ e) (omega (arith, row_put_lem))

    stored_both_below : Below k numbers bytes (numbers_with k row numbers) (old_with k old (bytes_with k flags block bytes))
    unfolding old_with
    stored_both_below =
        record {
          same_numbers = stored_below.same_numbers;
          same_bytes =
              put_first (k * row_bytes + old_block_place) (k * row_bytes) old (bytes_with k flags block bytes) (omega arith) (omega (arith, row_put_lem))
              ∙ stored_below.same_bytes;
        }

-- a message's row is read back as the message
message_read : (k brick : ℕ) (msg : Message) (block old numbers bytes : List ℕ) → msg.kind < 256 → length msg.targets ≡ flag_count → length block ≤ bench_size
    → length old ≡ length block
    → k * row_numbers + row_numbers ≤ length numbers → k * row_bytes + row_bytes ≤ length bytes → (size : ℕ) → length block ≡ size
    → item_at size (numbers_with k (message_row brick msg) numbers) (old_with k old (bytes_with k msg.targets block bytes)) k ≡ message brick msg block old
unfolding item_at is_reply message_at reply_at message_row
message_read k brick msg block old numbers bytes hk nf nb lo hn hb size e =
    let row = message_row brick msg in
    let n : (i : ℕ) → i < row_numbers → number_at (numbers_with k row numbers) k i ≡ get_or row i 0
    = number_stored k row msg.targets block numbers bytes refl nf nb hn hb in
    let n0 = n tag_place (omega arith) in
    let n1 = n brick_place (omega arith) in
    let n2 = n kind_place (omega arith) in
    let n3 = n time_place (omega arith) in
    let n4 = n round_place (omega arith) in
    let n5 = n max_place (omega arith) in
    let n8 = n stripe_place (omega arith) in
    let n9 = n old_time_place (omega arith) in
    let n10 = n data_block_place (omega arith) in
    let f = flags_kept k row msg.targets block numbers bytes refl nf nb hn hb old lo in
    let d = block_kept k row msg.targets block numbers bytes refl nf nb hn hb old lo size e in
    let o = old_stored k row msg.targets block numbers bytes refl nf nb hn hb old lo size e in
    let m : msg.kind % 256 ≡ msg.kind = mod-eq_of_lt hk in
    rw (n0, n1, n2, n3, n4, n5, n8, n9, n10, f, d, o, m)

-- a reply's row is read back as the reply
no_flags_length : length no_flags ≡ flag_count
unfolding no_flags zeros
no_flags_length = refl

reply_read : (k : ℕ) (r : Reply) (block numbers bytes : List ℕ) → r.kind < 256 → r.comparison < 256 → length block ≤ bench_size
    → k * row_numbers + row_numbers ≤ length numbers → k * row_bytes + row_bytes ≤ length bytes → (size : ℕ) → length block ≡ size
    → item_at size (numbers_with k (reply_row r) numbers) (bytes_with k no_flags block bytes) k ≡ reply r block
unfolding item_at is_reply message_at reply_at reply_row
reply_read k r block numbers bytes hk hc nb hn hb size e =
    let row = reply_row r in
    let nf = no_flags_length in
    let n : (i : ℕ) → i < row_numbers → number_at (numbers_with k row numbers) k i ≡ get_or row i 0
    = number_stored k row no_flags block numbers bytes refl nf nb hn hb in
    let n0 = n tag_place (omega arith) in
    let n1 = n brick_place (omega arith) in
    let n2 = n kind_place (omega arith) in
    let n3 = n time_place (omega arith) in
    let n4 = n round_place (omega arith) in
    let n5 = n max_place (omega arith) in
    let n6 = n yes_place (omega arith) in
    let n7 = n held_place (omega arith) in
    let n8 = n stripe_place (omega arith) in
    let n11 = n comparison_place (omega arith) in
    let d = block_stored k row no_flags block numbers bytes refl nf nb hn hb size e in
    let m : r.kind % 256 ≡ r.kind = mod-eq_of_lt hk in
    let c : r.comparison % 256 ≡ r.comparison = mod-eq_of_lt hc in
    rw (n0, n1, n2, n3, n4, n5, n6, n7, n8, n11, d, m, c, one_is r.yes, one_is r.held)

-- what the stores of a message and of a reply leave
pub message_added : (k brick : ℕ) (msg : Message) (block old numbers bytes numbers' bytes' : List ℕ) → msg.kind < 256 → length msg.targets ≡ flag_count
    → length block ≤ bench_size → length old ≡ length block → k * row_numbers + row_numbers ≤ length numbers → k * row_bytes + row_bytes ≤ length bytes
    → numbers' ≡ numbers_with k (message_row brick msg) numbers → bytes' ≡ old_with k old (bytes_with k msg.targets block bytes)
    → Added k block numbers bytes numbers' bytes' (message brick msg block old)
unfolding message_row
message_added k brick msg block old numbers bytes numbers' bytes' hk nf nb lo hn hb en eb =
    record {
      items = λ size e. (
          ap₂ (λ (n b : List ℕ). items_of size n b (k + 1)) en eb
          ∙ items_more k numbers bytes _ _ (stored_both_below k (message_row brick msg) msg.targets block numbers bytes refl nf nb hn hb old lo) size _
          (omega arith) (message_read k brick msg block old numbers bytes hk nf nb lo hn hb size e)
          );
    }

pub reply_added : (k : ℕ) (r : Reply) (block numbers bytes numbers' bytes' : List ℕ) → r.kind < 256 → r.comparison < 256
    → length block ≤ bench_size → k * row_numbers + row_numbers ≤ length numbers → k * row_bytes + row_bytes ≤ length bytes
    → numbers' ≡ numbers_with k (reply_row r) numbers → bytes' ≡ bytes_with k no_flags block bytes
    → Added k block numbers bytes numbers' bytes' (reply r block)
unfolding reply_row
reply_added k r block numbers bytes numbers' bytes' hk hc nb hn hb en eb =
    record {
      items = λ size e. (
          ap₂ (λ (n b : List ℕ). items_of size n b (k + 1)) en eb
          ∙ items_more k numbers bytes _ _ (stored_below k (reply_row r) no_flags block numbers bytes refl no_flags_length nb hn hb) size _
          (omega arith) (reply_read k r block numbers bytes hk hc nb hn hb size e)
          );
    }

-- a row as its reader takes it apart
pub item_message : (size k b : ℕ) (msg : Message) (block old numbers bytes : List ℕ) → is_reply numbers k ≡ false → b ≡ number_at numbers k brick_place
    → msg ≡ message_at numbers bytes k → block ≡ sent_block_at size bytes k → old ≡ old_block_at size bytes k
    → item_at size numbers bytes k ≡ message b msg block old
unfolding item_at
item_message size k b msg block old numbers bytes t eb em e o = rw (t, eb, em, e, o)

pub item_reply : (size k : ℕ) (r : Reply) (block numbers bytes : List ℕ) → is_reply numbers k ≡ true
    → r ≡ reply_at numbers k → block ≡ sent_block_at size bytes k → item_at size numbers bytes k ≡ reply r block
unfolding item_at
item_reply size k r block numbers bytes t er e = rw (t, er, e)

-- a row's blocks, as code cuts them out
part_cut : (size at from till : ℕ) (bytes : List ℕ) → from ≡ at → till ≡ from + size → take (till - from) (drop from bytes) ≡ take size (drop at bytes)
part_cut size at from till bytes ef et =
    let e : till - from ≡ size = omega arith in
    ap₂ (λ (a b : ℕ). take a (drop b bytes)) e ef

pub block_cut : (size k from till : ℕ) (bytes : List ℕ) → from ≡ k * row_bytes + block_place → till ≡ from + size
    → take (till - from) (drop from bytes) ≡ sent_block_at size bytes k
unfolding sent_block_at
block_cut size k from till bytes ef et = part_cut size (k * row_bytes + block_place) from till bytes ef et

pub old_cut : (size k from till : ℕ) (bytes : List ℕ) → from ≡ k * row_bytes + old_block_place → till ≡ from + size
    → take (till - from) (drop from bytes) ≡ old_block_at size bytes k
unfolding old_block_at
old_cut size k from till bytes ef et = part_cut size (k * row_bytes + old_block_place) from till bytes ef et
