-- One line after the other of a chunk.
use mathlib.Core.Path.{◌≡◌, refl, sym, subst}
use mathlib.Core.Logic.{◌≢◌}
use mathlib.Core.Bool.{Bool, true, false, cond, true≢false}
use mathlib.Core.List.{List, [], ◌∷◌, ◌++◌, append_assoc}
use Prim.Native.Nat.{ℕ, ◌≤◌}
use native.Mathlib.Omega.{arith}
use lib.Dec.{ltb}
use lib.ListN.{length, take, drop}
use Rattle.bench_lines.specs.Cutting.{CutOff, Cuts, none, part, whole, last_line}
use Rattle.bench_lines.specs.declared.Cut.{Cut}
use Rattle.bench_lines.proofs.Laws.CutLaws.{cut_within}
use Rattle.bench_player.specs.Calls as calls
use Rattle.bench_player.specs.Calls.{Calls}
use Rattle.bench_player.specs.Lining.{Called}
use Rattle.bench_player.specs.declared.LinePlayed.{LinePlayed}
use Rattle.bench_rules.specs.Turning.{Lent}
use Rattle.bench_state.specs.declared.Bench.{Bench}
use Rattle.bench_io.specs.Workers.{goes_on, at_end, cannot_write, after_last, write_status, HeldPlayed, ChunkPlayed, PlayedLast}
use Rattle.bench_io.specs.declared.Standing.{Standing}
use Rattle.bench_io.specs.declared.Pass.{Pass}

-- bytes that are no line yet, and a line
pub plays_not : (ended : Bool) (held : ℕ) (line : List ℕ) (b : Bench) (l : Lent) (out : List ℕ) → ended ≡ false
    → HeldPlayed ended held line b l out (record { bench = b; held = held; status = goes_on }) l out
unfolding write_status
plays_not true held line b l out e = absurd (true≢false e)
plays_not false held line b l out e = record { text = []; calls = calls.none b l out; held-is = refl; written = true; status-is = refl }

pub plays_line : (ended : Bool) (held : ℕ) (line : List ℕ) (b : Bench) (l : Lent) (out : List ℕ) (o : LinePlayed) (l' : Lent) (out' : List ℕ) (written : Bool) (status : Standing)
    → status ≡ write_status written → ended ≡ true → Called b l (take held line) out o l' out'
    → HeldPlayed ended held line b l out (record { bench = o.bench; held = 0; status = status }) l' out'
plays_line true held line b l out o l' out' written status s e c =
    record { text = take o.used out' ++ []; calls = calls.call o l' out' c (calls.none o.bench l' out'); held-is = refl; written = written; status-is = s }
plays_line false held line b l out o l' out' written status s e c = absurd (true≢false (sym e))

-- after writing the program is not at the end of the input
pub written_not_ended : (written : Bool) (status : Standing) → status ≡ write_status written → status ≢ at_end
unfolding write_status
written_not_ended true status e q = cc (e, q)
written_not_ended false status e q = cc (e, q)

-- after the last line: the end of the input, unless writing failed
ended_is : (written : Bool) (status end : Standing) → status ≡ write_status written → end ≡ after_last status → end ≡ cond written at_end cannot_write
unfolding write_status
ended_is true status end e f = rw e at f
ended_is false status end e f = rw e at f

-- and the program does not go on
pub last_not_on : (written : Bool) (status : Standing) → status ≡ cond written at_end cannot_write → status ≢ goes_on
last_not_on true status e q = cc (e, q)
last_not_on false status e q = cc (e, q)

pub last_played : (held : ℕ) (line : List ℕ) (b : Bench) (l : Lent) (out : List ℕ) (p : Pass) (l' : Lent) (out' : List ℕ) (status : Standing)
    → status ≡ after_last p.status → HeldPlayed (ltb 0 held) held line b l out p l' out'
    → PlayedLast line held b l out (record { bench = p.bench; held = 0; status = status }) l' out'
unfolding last_line
last_played held line b l out p l' out' status n q =
    record { text = q.text; calls = q.calls; held-is = refl; written = q.written; status-is = ended_is q.written p.status status q.status-is n }

-- calls after calls
pub calls_both : {b b' b'' : Bench} {l l' l'' : Lent} {out out' out'' text more : List ℕ} {ls ks : List (List ℕ)} → Calls b l out ls text b' l' out'
    → Calls b' l' out' ks more b'' l'' out'' → Calls b l out (ls ++ ks) (text ++ more) b'' l'' out''
calls_both (calls.none b l out) ds = ds
calls_both {b = b} {b'' = b''} {l = l} {l'' = l''} {out = out} {out'' = out''} {more = more} {ks = ks} (calls.call {line = line} {text = text} {rest = rest} r l' out' c cs) ds =
    subst (λ (t : List ℕ). Calls b l out (line ∷ (rest ++ ks)) t b'' l'' out'') (sym (append_assoc (take r.used out') text more))
    (calls.call r l' out' c (calls_both cs ds))

cuts_both : {chunk line line' line'' : List ℕ} {held held' held'' at at' at'' : ℕ} {hs ks : List (List ℕ)} → Cuts chunk line held at hs line' held' at'
    → Cuts chunk line' held' at' ks line'' held'' at'' → Cuts chunk line held at (hs ++ ks) line'' held'' at''
cuts_both (none line held at) ds = ds
cuts_both (part r line' c w cs) ds = part r line' c w (cuts_both cs ds)
cuts_both (whole r line' c w cs) ds = whole r line' c w (cuts_both cs ds)

cut_once : (w : Bool) (chunk line : List ℕ) (held at : ℕ) (r : Cut) (line' : List ℕ) → r.whole ≡ w → CutOff (drop at chunk) at line held r line'
    → Cuts chunk line held at (cond w (take r.held line' ∷ []) []) line' (cond w 0 r.held) r.next
cut_once true chunk line held at r line' e c = whole r line' c e (none line' 0 r.next)
cut_once false chunk line held at r line' e c = part r line' c e (none line' r.held r.next)

-- A pass so far.
pub record Passing
    (chunk old : List ℕ) (held₀ : ℕ) (b₀ : Bench) (l₀ : Lent) (out₀ line : List ℕ) (held at : ℕ) (b : Bench) (l : Lent) (out : List ℕ) (status : Standing) : Type 0 where
  pub handed : List (List ℕ)
  pub text : List ℕ
  pub cut : Cuts chunk old held₀ 0 handed line held at
  pub calls : Calls b₀ l₀ out₀ handed text b l out
  pub within : held ≤ length line
  pub written : Bool
  pub status-is : status ≡ write_status written

pub passing_none : (chunk line : List ℕ) (held : ℕ) (b : Bench) (l : Lent) (out : List ℕ) → held ≤ length line
    → Passing chunk line held b l out line held 0 b l out goes_on
unfolding write_status
passing_none chunk line held b l out h =
    record { handed = []; text = []; cut = none line held 0; calls = calls.none b l out; within = h; written = true; status-is = refl }

fewer : (w : Bool) (k n : ℕ) → k ≤ n → cond w 0 k ≤ n
fewer true k n h = omega arith
fewer false k n h = h

module _ (chunk old : List ℕ) (held₀ : ℕ) (b₀ : Bench) (l₀ : Lent) (out₀ : List ℕ) where
  pub passing_more : (line : List ℕ) (held at : ℕ) (b : Bench) (l : Lent) (out : List ℕ) (status : Standing) (c : Cut) (line' : List ℕ) (p : Pass) (l' : Lent) (out' : List ℕ)
      → Passing chunk old held₀ b₀ l₀ out₀ line held at b l out status → CutOff (drop at chunk) at line held c line'
      → HeldPlayed c.whole c.held line' b l out p l' out' → Passing chunk old held₀ b₀ l₀ out₀ line' p.held c.next p.bench l' out' p.status
  passing_more line held at b l out status c line' p l' out' s k q =
      let one = cut_once c.whole chunk line held at c line' refl k in
      let few = fewer c.whole c.held (length line') (cut_within (drop at chunk) line held at c line' s.within k) in
      record {
        handed = s.handed ++ cond c.whole (take c.held line' ∷ []) [];
        text = s.text ++ q.text;
        cut = cuts_both s.cut (subst (λ (j : ℕ). Cuts chunk line held at (cond c.whole (take c.held line' ∷ []) []) line' j c.next) (sym q.held-is) one);
        calls = calls_both s.calls q.calls;
        within = subst (λ (j : ℕ). j ≤ length line') (sym q.held-is) few;
        written = q.written;
        status-is = q.status-is;
      }

  module _ (p : Pass) (line : List ℕ) (at : ℕ) (l : Lent) (out : List ℕ) (s : Passing chunk old held₀ b₀ l₀ out₀ line p.held at p.bench l out p.status) where
    passed_if : (p.status ≡ goes_on → length chunk ≤ at) → ChunkPlayed chunk old held₀ b₀ l₀ out₀ p line l out
    passed_if e =
        record {
          handed = s.handed;
          text = s.text;
          at = at;
          cut = s.cut;
          calls = s.calls;
          to_the_end = e;
          written = s.written;
          status-is = s.status-is;
          within = s.within;
        }

    pub passed_stopped : (p.status ≡ goes_on → ⊥) → ChunkPlayed chunk old held₀ b₀ l₀ out₀ p line l out
    passed_stopped n = passed_if (λ e. absurd (n e))

    pub passed_all : length chunk ≤ at → ChunkPlayed chunk old held₀ b₀ l₀ out₀ p line l out
    passed_all h = passed_if (λ e. h)

-- a chunk with no byte
pub nothing_passed : (line : List ℕ) (held : ℕ) (b : Bench) (l : Lent) (out : List ℕ) → held ≤ length line
    → ChunkPlayed [] line held b l out (record { bench = b; held = held; status = goes_on }) line l out
nothing_passed line held b l out h =
    passed_all [] line held b l out (record { bench = b; held = held; status = goes_on }) line 0 l out (passing_none [] line held b l out h) (omega arith)
