-- What a request asks of the tree, call by call, and what it makes of the replies.
use Rattle.std.specs.Prelude.{◌≡◌, ◌⊎◌, ℕ, List, Option, Some, None, Result, Ok, Err, IsErrAnd}
use Rattle.posix_calls.specs.declared.call.Call.{Call}
use Rattle.posix_calls.specs.declared.call.Reply.{Reply}
use Rattle.posix_calls.specs.declared.call.Reply.TheVariants as reply
use Rattle.posix_calls.specs.declared.errno.Errno.TheVariants as errno
use Rattle.posix_calls.specs.declared.operation.Description.{Description}
use Rattle.posix_calls.specs.declared.operation.Description.TheVariants as description
use Rattle.fuse_wire.specs.declared.errno.Refusal.{Refusal}
use Rattle.fuse_wire.specs.declared.errno.Refusal.TheVariants as refusal
use Rattle.mount_nodes.specs.declared.tree.Tree.{Ghosts}
use Rattle.mount_nodes.specs.Refusals.{IsMemory}

-- why a reply refuses its call; a reply that no such call has is a fault
abbrev pub refusal_of : Reply → Refusal
refusal_of (reply.Failed errno) = refusal.Posix errno
refusal_of reply = refusal.Posix errno.IoError

-- the reply to a call that has nothing to answer
abbrev pub done_of : Reply → Result (Unit {0}) Refusal
done_of reply.Done = Ok tt
done_of reply = Err (refusal_of reply)

-- the reply to `Stat`
abbrev pub description_of : Reply → Result Description Refusal
description_of (reply.File size names) = Ok (description.File size names)
description_of (reply.Dir entries) = Ok (description.Dir entries)
description_of reply = Err (refusal_of reply)

-- the reply to `Open`
abbrev pub opened_of : Reply → Result ℕ Refusal
opened_of (reply.Opened descriptor) = Ok descriptor
opened_of reply = Err (refusal_of reply)

-- the reply to `Pwrite`
abbrev pub wrote_of : Reply → Result ℕ Refusal
wrote_of (reply.Wrote count) = Ok count
wrote_of reply = Err (refusal_of reply)

-- the reply to `Pread`
abbrev pub read_of : Reply → Result (List ℕ) Refusal
read_of (reply.Read bytes) = Ok bytes
read_of reply = Err (refusal_of reply)

-- the reply to `List`
abbrev pub listed_of : Reply → Result (List (List ℕ)) Refusal
listed_of (reply.Listed names) = Ok names
listed_of reply = Err (refusal_of reply)

module _ {S : Type 0} where
  -- it ends with this, and the tree stays
  abbrev pub Answers : {A : Type 0} → A → Result A Refusal → S → S → Type 0
  Answers x result s t = (result ≡ Ok x) × (t ≡ s)

  -- it is refused with the tree asked nothing: memory is wanting, or for this reason
  abbrev pub IsUnasked : {A : Type 0} → Type 0 → Result A Refusal → S → S → Type 0
  IsUnasked why result s t = (t ≡ s) × IsErrAnd result (λ e. IsMemory e ⊎ why)

  -- a refusal is what it ends with; else it goes on so
  abbrev pub GoesOn : {A B : Type 0} → (A → Result B Refusal → S → S → Type 0) → Result A Refusal → Result B Refusal → S → S → Type 0
  GoesOn next (Ok x) result s t = next x result s t
  GoesOn next (Err e) result s t = (result ≡ Err e) × (t ≡ s)

  -- it is about what has this path, and refused where there is none
  abbrev pub AtPath : {A : Type 0} → Option (List ℕ) → (List ℕ → Result A Refusal → S → S → Type 0) → Result A Refusal → S → S → Type 0
  AtPath path does result s t = IsUnasked (path ≡ None) result s t ⊎ ((p : List ℕ) × (path ≡ Some p) × does p result s t)

module _ {S : Type 0} (tree : Ghosts S) where
  -- the tree is asked a call, its reply is read, and it goes on so
  abbrev pub Asks : {A B : Type 0} → Call → (Reply → Result A Refusal) → (A → Result B Refusal → S → S → Type 0) → Result B Refusal → S → S → Type 0
  Asks call read next result s t = (reply : Reply) × (u : S) × tree.asks s call reply u × GoesOn next (read reply) result u t

  -- so it is, unless memory is wanting for the call
  abbrev pub MayAsk : {A B : Type 0} → Call → (Reply → Result A Refusal) → (A → Result B Refusal → S → S → Type 0) → Result B Refusal → S → S → Type 0
  MayAsk call read next result s t = IsUnasked ⊥ result s t ⊎ Asks call read next result s t
