-- Where effects on what is known ask for memory.
use Rattle.std.specs.Prelude.{List, [], ◌∷◌, Bool, true, false, ◌||◌, Option, Some, None}
use Rattle.call_effects.specs.file_graph.declared.effect.Effect.{Effect}
use Rattle.call_effects.specs.file_graph.declared.effect.Effect.TheVariants as effect
use Rattle.call_effects.specs.NodeView.{NodeView, view_is_dir}
use Rattle.call_effects.specs.KnownCopies.{Copies, known_after_effect}

-- whether an effect enters a name
abbrev pub is_enter : Effect → Bool
is_enter (effect.Make i k) = false
is_enter (effect.Enter d i k name) = true
is_enter (effect.Leave d name) = false
is_enter (effect.Names i n) = false
is_enter (effect.Size i size) = false
is_enter (effect.Bytes i at new) = false
is_enter (effect.Drop i) = false
is_enter (effect.Swap d a e b) = false

-- whether what is known of an inode is that a directory stands there
abbrev pub is_directory : Option (Option NodeView) → Bool
is_directory None = false
is_directory (Some None) = false
is_directory (Some (Some v)) = view_is_dir v

-- whether an effect enters a name into what is known to be a directory: it gets room for it
abbrev pub enters_known : Effect → Copies → Bool
enters_known (effect.Make i k) known = false
enters_known (effect.Enter d i k name) known = is_directory (known d)
enters_known (effect.Leave d name) known = false
enters_known (effect.Names i n) known = false
enters_known (effect.Size i size) known = false
enters_known (effect.Bytes i at new) known = false
enters_known (effect.Drop i) known = false
enters_known (effect.Swap d a e b) known = false

-- whether one of these effects does so, each over what is known after those before it
abbrev pub want_room : List Effect → Copies → Bool
want_room [] known = false
want_room (e ∷ es) known = enters_known e known || want_room es (known_after_effect e known)
