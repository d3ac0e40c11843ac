-- Pieces that are read one behind the other.
use Rattle.std.proofs.Common.{◌≡◌, ◌⊎◌, ◌≤◌, ◌+◌, ◌-◌, ◌*◌, ◌^◌, ◌++◌, List, [], ◌∷◌, ℕ, refl, sym, subst, min, length, inl, inr, Result, Ok, Err, arith}
use Rattle.std.proofs.lemmas.Bool.{cases_lt}
use Rattle.std.proofs.lemmas.List.{length-append}
use Rattle.posix_calls.specs.declared.call.Call.{Call}
use Rattle.posix_calls.specs.declared.call.Call.TheVariants as call
use Rattle.posix_calls.specs.declared.call.Reply.{Reply}
use Rattle.posix_calls.specs.declared.call.Reply.TheVariants as reply
use Rattle.fuse_wire.specs.declared.errno.Refusal.{Refusal}
use Rattle.mount_nodes.specs.declared.tree.Tree.{Ghosts}
use Rattle.mount_nodes.specs.Calls.{Answers, Asks, MayAsk, read_of}
use Rattle.mount_nodes.specs.Reads.{ArePieces, next_read}
use Rattle.mount_nodes.proofs.UpkeepLemmas.{done_call, ended_err}

-- a piece more
pub pieces_more : {S : Type 0} (tree : Ghosts S) (number at wanted : ℕ) (pieces : List (List ℕ)) (got bytes piece : List ℕ) (s t u : S) → ArePieces tree number at wanted pieces got bytes s t → tree.asks t (next_read number at wanted bytes) (reply.Read piece) u → ArePieces tree number at wanted (pieces ++ piece ∷ []) got (bytes ++ piece) s u
pieces_more tree number at wanted [] got bytes piece s t u (same, stays) asked =
    let here = subst (λ v. tree.asks v (next_read number at wanted bytes) (reply.Read piece) u) stays asked in
    (u, subst (λ b. tree.asks s (next_read number at wanted b) (reply.Read piece) u) same here, (subst (λ b. b ++ piece ≡ got ++ piece) (sym same) refl, refl))
pieces_more tree number at wanted (p ∷ pieces) got bytes piece s t u (v, first, rest) asked =
    (v, first, pieces_more tree number at wanted pieces (got ++ p) bytes piece v t u rest asked)

-- a piece that is as long as was asked for makes up all that is wanted, or 65,536 bytes more
pub full_piece : (turn wanted count len : ℕ) (got piece : List ℕ) → count ≡ min (wanted - length got) 65536 → len ≡ length piece → count ≤ len → (turn * 65536 ≤ length got) ⊎ (wanted ≤ length got) → ((turn + 1) * 65536 ≤ length (got ++ piece)) ⊎ (wanted ≤ length (got ++ piece))
full_piece turn wanted count len got piece c l full (inl reached) =
    let all = length-append got piece in
    elim (cases_lt (wanted - length got) 65536) [
      | inl short ↦ inr (omega (arith, all, c, l, full, short))
      | inr long ↦ inl (omega (arith, all, c, l, full, long, reached))
    ]
full_piece turn wanted count len got piece c l full (inr all) = inr (omega (arith, length-append got piece, all))

-- the replies to `Pread`
read_done : (piece : List ℕ) (r : Reply) → read_of r ≡ Ok piece → r ≡ reply.Read piece
read_done piece (reply.Read bytes) h = cc h
read_done piece (reply.Opened d) h = absurd (cc h)
read_done piece reply.Done h = absurd (cc h)
read_done piece (reply.Wrote count) h = absurd (cc h)
read_done piece (reply.Listed names) h = absurd (cc h)
read_done piece (reply.File size names) h = absurd (cc h)
read_done piece (reply.Dir entries) h = absurd (cc h)
read_done piece (reply.Failed errno) h = absurd (cc h)

-- the call that is asked for the next piece
pub is_next_read : (number at wanted from count have left : ℕ) (got : List ℕ) → have ≡ length got → from ≡ min (at + have) (2 ^ 64 - 1) → left ≡ wanted - have → count ≡ min left 65536 → call.Pread number from count ≡ next_read number at wanted got
is_next_read number at wanted from count have left got h f l k = rw (k, f, l, h) refl

pub piece_is_asked : {S : Type 0} (tree : Ghosts S) (asked next : Call) (piece : List ℕ) (s t : S) → asked ≡ next → Asks tree asked read_of Answers (Ok piece) s t → tree.asks s next (reply.Read piece) t
piece_is_asked tree asked next piece s t same (r, u, told, on) =
    let got = done_call tree asked read_of piece s t (inr (r, u, told, on)) in
    subst (λ c. tree.asks s c (reply.Read piece) t) same (subst (λ v. tree.asks s asked v t) (read_done piece got.0 got.1) got.2)

pub refusal_is_asked : {S : Type 0} (tree : Ghosts S) (asked next : Call) (e : Refusal) (s t : S) → asked ≡ next → Asks tree asked read_of Answers (Err e) s t → (r : Reply) × tree.asks s next r t × (read_of r ≡ Err e)
refusal_is_asked tree asked next e s t same (r, u, told, on) =
    let end = ended_err (read_of r) e u t on in
    (r, subst (λ c. tree.asks s c r t) same (subst (λ v. tree.asks s asked r v) (sym end.1) told), end.0)
