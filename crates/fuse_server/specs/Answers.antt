-- What a message is answered with.
use Rattle.std.specs.Prelude.{◌≡◌, ℕ, ◌==◌, ◌||◌, Bool, true, false, List, [], ◌⊎◌}
use Rattle.fuse_wire.specs.declared.errno.Refusal.{Refusal}
use Rattle.fuse_wire.specs.Errno.{refusal_number}
use Rattle.fuse_wire.specs.Fields.{u32_at, u64_at}
use Rattle.fuse_wire.specs.Replies.{reply_bytes, error_bytes}

-- messages of these opcodes take no reply: FORGET, INTERRUPT and BATCH_FORGET
abbrev pub is_silent : ℕ → Bool
is_silent opcode = (opcode == 2) || (opcode == 36) || (opcode == 42)

-- the reply to the request of a number carries something, or says why it is refused
abbrev pub IsReply : ℕ → List ℕ → Type 0
IsReply unique reply = ((body : List ℕ) × (reply ≡ reply_bytes unique body)) ⊎ ((why : Refusal) × (reply ≡ error_bytes unique (refusal_number why)))

-- a message is answered with nothing where its opcode takes no reply, and else with one reply, of its number
abbrev pub IsAnswered : List ℕ → List ℕ → Type 0
IsAnswered message reply = (is_silent (u32_at 4 message) ≡ true → reply ≡ []) × (is_silent (u32_at 4 message) ≡ false → IsReply (u64_at 8 message) reply)
