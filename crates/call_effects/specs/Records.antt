-- The record of an operation, as questions: the effects that it has, and by how many units they may raise the graph.
use Rattle.std.specs.Prelude.{ℕ, ◌+◌, ◌-◌, ◌==◌, max, min, List, length, Bool, true, Option, Some, None, is_some, option_map, if◌then◌else◌}
use Rattle.std.specs.FinMap as fin
use Rattle.posix_calls.specs.Units.{file_units, directory_units}
use Rattle.posix_calls.specs.Query.{Query, Gives, ◌>>=◌}
use Rattle.posix_calls.specs.Part.{Part}
use Rattle.posix_calls.specs.Walk.{entries_at, size_at, names_at, names_seen}
use Rattle.posix_calls.specs.declared.operation.Location.{Location}
use Rattle.posix_calls.specs.declared.operation.Operation.{Operation}
use Rattle.posix_calls.specs.declared.operation.Operation.TheVariants.{NewDir, NewFile, Write, Resize, AddName, Move}
use Rattle.posix_calls.specs.declared.operation.Replaced.{Replaced}
use Rattle.posix_calls.specs.declared.operation.Replaced.TheVariants.{Nothing, OldFile, OldDir}
use Rattle.log_record.specs.file_graph.declared.effect.Effect.{Effect}
use Rattle.call_effects.specs.Effects.{recounted_file, effects_by}

-- how many names a file has, if there is one to ask for
abbrev pub names_if : Option ℕ → Query ℕ
names_if None = Gives 0
names_if (Some i) = names_at i

-- the effects of an operation, where a new node has the number new; of the tree they depend on a file's number of names alone
abbrev pub effects_asked : ℕ → Operation → Query (List Effect)
effects_asked new operation = names_if (recounted_file operation) >>= (λ names. Gives (effects_by names new operation))

-- whether the file whose names an operation counts is known, if there is one
abbrev pub knows_names : Part → Option ℕ → Bool
knows_names p None = true
knows_names p (Some i) = is_some (p.node i)

-- how many names that file is known to have
abbrev pub names_known : Part → Option ℕ → Option ℕ
names_known p None = None
names_known p (Some i) = option_map names_seen (p.node i)

-- the rise of a file from one size to another; a fall is no rise
abbrev pub file_rise : ℕ → ℕ → ℕ
file_rise old new = file_units new - file_units old

-- the rise of a directory that gets one more entry
abbrev pub entry_rise : ℕ → Query ℕ
entry_rise dir = entries_at dir >>= (λ entries. Gives (directory_units (fin.len entries + 1) - directory_units (fin.len entries)))

-- by how many units a rename may raise the directory that it moves something to
abbrev pub move_rise : Location → Location → Replaced → Query ℕ
move_rise from to Nothing = if from.parent == to.parent then Gives 0 else entry_rise to.parent
move_rise from to (OldFile j) = Gives 0
move_rise from to (OldDir j) = Gives 0

-- by how many units an operation raises the inodes that its effects touch, each by itself
abbrev pub growth_asked : Operation → Query ℕ
growth_asked (NewDir at) = entry_rise at.parent >>= (λ rise. Gives (directory_units 0 + rise))
growth_asked (NewFile at number reads writes) = entry_rise at.parent >>= (λ rise. Gives (file_units 0 + rise))
growth_asked (Write i at bytes) = size_at i >>= (λ old. Gives (file_rise old (max old (at + length bytes))))
growth_asked (Resize i len) = size_at i >>= (λ old. Gives (file_rise old len))
growth_asked (AddName at i) = entry_rise at.parent
growth_asked (Move from to i is_dir replaced) = move_rise from to replaced
growth_asked _ = Gives 0

-- the same as a record has it, in 32 bits; a growth past them counts as the greatest, but no call's operation has one
abbrev pub units_asked : Operation → Query ℕ
units_asked operation = growth_asked operation >>= (λ units. Gives (min units 4294967295))
