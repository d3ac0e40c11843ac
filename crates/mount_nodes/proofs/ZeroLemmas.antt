-- Zeros that are written one piece behind the other.
use Rattle.std.proofs.Common.{◌≡◌, ◌⊎◌, ◌≤◌, ◌<◌, ◌+◌, ◌-◌, ◌*◌, ◌++◌, List, [], ◌∷◌, ℕ, refl, sym, ap, subst, min, inl, inr, Result, Ok, Err, replicate, take, arith}
use Rattle.std.proofs.lemmas.Bool.{cases_lt}
use Rattle.std.proofs.lemmas.List.{take-replicate}
use Rattle.posix_calls.specs.declared.call.Call.{Call}
use Rattle.posix_calls.specs.declared.call.Call.TheVariants as call
use Rattle.posix_calls.specs.declared.call.Reply.{Reply}
use Rattle.posix_calls.specs.declared.call.Reply.TheVariants as reply
use Rattle.fuse_wire.specs.declared.errno.Refusal.{Refusal}
use Rattle.mount_nodes.specs.declared.tree.Tree.{Ghosts}
use Rattle.mount_nodes.specs.Calls.{Answers, MayAsk, wrote_of}
use Rattle.mount_nodes.specs.Refusals.{IsMemory}
use Rattle.mount_nodes.specs.Sizes.{AreZeros, next_zeros, zeros_len}
use Rattle.mount_nodes.proofs.UpkeepLemmas.{done_call, ended_err}

-- a piece more
zeros_more : {S : Type 0} (tree : Ghosts S) (number to : ℕ) (counts : List ℕ) (from at count : ℕ) (s t u : S) → AreZeros tree number to counts from at s t → tree.asks t (next_zeros number to at) (reply.Wrote count) u → AreZeros tree number to (counts ++ count ∷ []) from (at + zeros_len to at) s u
zeros_more tree number to [] from at count s t u (same, stays) asked =
    let here = subst (λ v. tree.asks v (next_zeros number to at) (reply.Wrote count) u) stays asked in
    (u, subst (λ a. tree.asks s (next_zeros number to a) (reply.Wrote count) u) same here, (ap (λ a. a + zeros_len to a) same, refl))
zeros_more tree number to (c ∷ counts) from at count s t u (v, first, rest) asked =
    (v, first, zeros_more tree number to counts (from + zeros_len to from) at count v t u rest asked)

reached_by : (turn from at to count left : ℕ) → left ≡ to - at → count ≡ min left 4096 → turn * 4096 + from ≤ at → ((turn + 1) * 4096 + from ≤ at + count) ⊎ (to ≤ at + count)
reached_by turn from at to count left l c reached = elim (cases_lt left 4096) [
  | inl short ↦ inr (omega (arith, l, c, short))
  | inr full ↦ inl (omega (arith, l, c, reached, full))
]

-- the replies to `Pwrite`
wrote_done : (count : ℕ) (r : Reply) → wrote_of r ≡ Ok count → r ≡ reply.Wrote count
wrote_done count (reply.Wrote n) h = cc h
wrote_done count (reply.Read bytes) h = absurd (cc h)
wrote_done count (reply.Opened d) h = absurd (cc h)
wrote_done count reply.Done h = absurd (cc h)
wrote_done count (reply.Listed names) h = absurd (cc h)
wrote_done count (reply.File size names) h = absurd (cc h)
wrote_done count (reply.Dir entries) h = absurd (cc h)
wrote_done count (reply.Failed errno) h = absurd (cc h)

-- the call that is asked for the next piece
pub is_next_zeros : (number to at count left : ℕ) → left ≡ to - at → count ≡ min left 4096 → call.Pwrite number at (replicate count 0) ≡ next_zeros number to at
is_next_zeros number to at count left l c = rw (c, l) refl

pub zeros_are_asked : {S : Type 0} (tree : Ghosts S) (number to : ℕ) (counts : List ℕ) (from at count : ℕ) (asked : Call) (s t u : S) → AreZeros tree number to counts from at s t → asked ≡ next_zeros number to at → MayAsk tree asked wrote_of Answers (Ok count) t u → AreZeros tree number to (counts ++ count ∷ []) from (at + zeros_len to at) s u
zeros_are_asked tree number to counts from at count asked s t u before same done =
    let got = done_call tree asked wrote_of count t u done in
    let told = subst (λ v. tree.asks t asked v u) (wrote_done count got.0 got.1) got.2 in
    zeros_more tree number to counts from at count s t u before (subst (λ c. tree.asks t c (reply.Wrote count) u) same told)

pub zeros_are_refused : {S : Type 0} (tree : Ghosts S) (asked next : Call) (e : Refusal) (s t : S) → asked ≡ next → MayAsk tree asked wrote_of Answers (Err e) s t → (IsMemory e × (t ≡ s)) ⊎ ((r : Reply) × tree.asks s next r t × (wrote_of r ≡ Err e))
zeros_are_refused tree asked next e s t same (inl (stays, inl memory)) = inl (memory, stays)
zeros_are_refused tree asked next e s t same (inl (stays, inr never)) = absurd never
zeros_are_refused tree asked next e s t same (inr (r, u, told, on)) =
    let end = ended_err (wrote_of r) e u t on in
    inr (r, subst (λ c. tree.asks s c r t) same (subst (λ v. tree.asks s asked r v) (sym end.1) told), end.0)

-- what is reached by a piece more
pub reached_zeros : {S : Type 0} (tree : Ghosts S) (number to : ℕ) (counts : List ℕ) (from at count left turn : ℕ) (s t : S) → left ≡ to - at → count ≡ min left 4096 → AreZeros tree number to counts from (at + zeros_len to at) s t → (turn * 4096 + from ≤ at) ⊎ (to ≤ at) → (more : List ℕ) × AreZeros tree number to more from (at + count) s t × (((turn + 1) * 4096 + from ≤ at + count) ⊎ (to ≤ at + count))
reached_zeros tree number to counts from at count left turn s t l c zeros (inl reached) =
    let same : count ≡ zeros_len to at = rw (c, l) refl in
    (counts, subst (λ n. AreZeros tree number to counts from (at + n) s t) (sym same) zeros, reached_by turn from at to count left l c reached)
reached_zeros tree number to counts from at count left turn s t l c zeros (inr all) =
    let same : count ≡ zeros_len to at = rw (c, l) refl in
    (counts, subst (λ n. AreZeros tree number to counts from (at + n) s t) (sym same) zeros, inr (omega (arith, all)))

-- the first zeros of those that are at hand
pub some_zeros : (count : ℕ) → count ≤ 4096 → take {A = ℕ} count (replicate 4096 0) ≡ replicate count 0
some_zeros count few = take-replicate count 4096 0 few
