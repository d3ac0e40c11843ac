-- Why bytes spell no request.
use Rattle.std.specs.Prelude.{◌≡◌, ℕ, ◌+◌, ◌*◌, ◌≤◌, ◌<◌, List, length, drop, Option, Some, None}
use Rattle.fuse_wire.specs.declared.error.WireError.{WireError}
use Rattle.fuse_wire.specs.declared.error.WireError.TheVariants.{ShortHeader, WrongLength, ShortBody, LongBody, UnclosedName, WrongCount}
use Rattle.fuse_wire.specs.declared.layout.Body.{Body}
use Rattle.fuse_wire.specs.declared.layout.Body.TheVariants.{Named, Counted, Longer}
use Rattle.fuse_wire.specs.Fields.{u32_at}
use Rattle.fuse_wire.specs.Names.{behind_names}
use Rattle.fuse_wire.specs.Opcodes.{opcode_of}
use Rattle.fuse_wire.specs.Layout.{body_of}
use Rattle.fuse_wire.specs.Spelling.{IsWhole}

-- some bytes at least
abbrev pub HasSome : Option (List ℕ) → Type 0
HasSome None = ⊥
HasSome (Some bytes) = 1 ≤ length bytes

-- what is wrong with a body that is to be laid out so
abbrev pub IsWrongBody : Body → List ℕ → WireError → Type 0
IsWrongBody (Named n names) body ShortBody = length body < n
IsWrongBody (Named n names) body UnclosedName = (n ≤ length body) × (behind_names names (drop n body) ≡ None)
IsWrongBody (Named n names) body LongBody = (n ≤ length body) × HasSome (behind_names names (drop n body))
IsWrongBody (Counted n place each) body ShortBody = length body < n
IsWrongBody (Counted n place each) body WrongCount = (n ≤ length body) × (length body ≡ n + each * u32_at place body → ⊥)
IsWrongBody (Longer n) body ShortBody = length body < n
IsWrongBody layout body error = ⊥

-- what is wrong with a message
abbrev pub IsWrong : List ℕ → WireError → Type 0
IsWrong bytes ShortHeader = length bytes < 40
IsWrong bytes WrongLength = (40 ≤ length bytes) × (u32_at 0 bytes ≡ length bytes → ⊥)
IsWrong bytes error = IsWhole bytes × IsWrongBody (body_of (opcode_of (u32_at 4 bytes))) (drop 40 bytes) error
