-- What a write of some bytes comes to, and what is asked for its record.
use Rattle.std.proofs.Common.{◌≡◌, ℕ, ◌+◌, ◌≤◌, List, [], ◌∷◌, length, refl, Some, None, Option, Ok, true, false, cond, ap, ◌∙◌, arith}
use Rattle.std.specs.Prelude.{nat_lt, max, min}
use Rattle.posix_calls.specs.declared.descriptor.Descriptor.{Descriptor}
use Rattle.posix_calls.specs.declared.errno.Errno.TheVariants as errno
use Rattle.posix_calls.specs.declared.limits.TheConstants.{MAX_FILE, MAX_TRANSFER}
use Rattle.posix_calls.specs.declared.operation.Missing.TheVariants as missing
use Rattle.posix_calls.specs.declared.operation.Operation.TheVariants.{Write}
use Rattle.posix_calls.specs.Decide.{open_inode, pwrite, write_at}
use Rattle.posix_calls.specs.Query.{Seen, Gives, Refuses, ◌>>=◌}
use Rattle.posix_calls.specs.Part.{Part, Known, Unknown, run_part}
use Rattle.posix_calls.specs.Tree.{Own}
use Rattle.posix_calls.specs.Walk.{refuse, size_seen}
use Rattle.call_effects.specs.file_graph.declared.effect.Effect.TheVariants.{Bytes}
use Rattle.call_effects.specs.Records.{effects_asked, units_asked, file_rise}

opened_gives : (o : Option Descriptor) (d : Descriptor) → o ≡ Some d → d.writes ≡ true → open_inode (λ d. d.writes) o ≡ Gives d.inode
opened_gives o d is writes = ap (open_inode (λ d. d.writes)) is ∙ ap (λ b. cond b (Gives d.inode) (Refuses errno.BadDescriptor)) writes

write_gives : (i at : ℕ) (bytes : List ℕ) → 1 ≤ length bytes → nat_lt MAX_FILE (at + length bytes) ≡ false → write_at i at bytes ≡ Gives (Write i at bytes)
unfolding ◌>>=◌
write_gives i at [] some ends = absurd (omega (arith, some))
write_gives i at (b ∷ bytes) some ends = ap (λ t. refuse errno.FileTooBig t >>= (λ _. Gives (Write i at (b ∷ bytes)))) ends

-- what is open for writing is written, where the bytes are not too many and end in the greatest file
pub pwrite_gives : (own : Own) (number at : ℕ) (bytes : List ℕ) (d : Descriptor) → own number ≡ Some d → d.writes ≡ true → nat_lt MAX_TRANSFER (length bytes) ≡ false → 1 ≤ length bytes → nat_lt MAX_FILE (at + length bytes) ≡ false → pwrite own number at bytes ≡ Gives (Write d.inode at bytes)
unfolding pwrite ◌>>=◌
pwrite_gives own number at bytes d is writes few some ends =
    ap (λ q. q >>= (λ i. refuse errno.Invalid (nat_lt MAX_TRANSFER (length bytes)) >>= (λ _. write_at i at bytes))) (opened_gives (own number) d is writes)
    ∙ ap (λ t. refuse errno.Invalid t >>= (λ _. write_at d.inode at bytes)) few
    ∙ write_gives d.inode at bytes some ends

-- of the tree its units need the size of the file, and its effect nothing
pub units_known : (p : Part) (i at : ℕ) (bytes : List ℕ) (s : Option Seen) → p.node i ≡ Some s → run_part p (units_asked (Write i at bytes)) ≡ Known (Ok (min (file_rise (size_seen s) (max (size_seen s) (at + length bytes))) 4294967295))
unfolding run_part ◌>>=◌
units_known p i at bytes s known = ap (λ o. elim o [ None ↦ Unknown (missing.Node i) | Some s ↦ Known (Ok (min (file_rise (size_seen s) (max (size_seen s) (at + length bytes))) 4294967295)) ]) known

pub effects_known : (p : Part) (new i at : ℕ) (bytes : List ℕ) → run_part p (effects_asked new (Write i at bytes)) ≡ Known (Ok (Bytes i at bytes ∷ []))
unfolding run_part ◌>>=◌
effects_known p new i at bytes = refl
