-- The byte of a kind, as records and the blocks of the shared media have it.
use Rattle.std.specs.Prelude.{ℕ, ◌==◌, [], ◌∷◌, Some, None, if◌then◌else◌}
use Rattle.file_graph.specs.declared.effect.Kind.{Kind}
use Rattle.file_graph.specs.declared.effect.Kind.TheVariants as kind
use Rattle.file_graph.specs.declared.kinds.TheConstants.{FILE_KIND, DIRECTORY_KIND}
use Rattle.file_graph.specs.Fields.{Field}

-- 1 is a file, 2 a directory
abbrev pub kind_byte : Kind → ℕ
kind_byte kind.File = FILE_KIND
kind_byte kind.Directory = DIRECTORY_KIND

-- the kind of a node
abbrev pub kind_field : Field Kind
kind_field [] = None
kind_field (b ∷ rest) = if b == FILE_KIND then Some (kind.File, rest) else (if b == DIRECTORY_KIND then Some (kind.Directory, rest) else None)
