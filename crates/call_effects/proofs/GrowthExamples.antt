-- The growth of some operations, in numbers.
use Rattle.std.proofs.Common.{◌≡◌, ◌≢◌, ℕ, ◌+◌, ◌-◌, List, [], ◌∷◌, length, None, refl, ap, ◌∙◌, arith}
use Rattle.std.specs.Prelude.{nat_le, option_map, Ok, max, Bool}
use Rattle.std.specs.FinMap as fin
use Rattle.posix_calls.specs.Units.{directory_units}
use Rattle.posix_calls.specs.Tree.{Descriptors}
use Rattle.posix_calls.specs.declared.limits.TheConstants.{MAX_ENTRIES}
use Rattle.posix_calls.specs.declared.operation.Location.{Location}
use Rattle.posix_calls.specs.declared.operation.Operation.TheVariants.{NewDir, Write, AddName, Move}
use Rattle.posix_calls.specs.declared.operation.Replaced.TheVariants.{Nothing}
use Rattle.posix_calls.proofs.Counts.{order}
use Rattle.log_record.specs.file_graph.Graph.{Graph, fresh}
use Rattle.log_record.specs.file_graph.Units.{growth}
use Rattle.log_record.specs.file_graph.declared.effect.Kind.{Kind}
use Rattle.log_record.specs.file_graph.declared.effect.Kind.TheVariants as kind
use Rattle.call_effects.specs.Effects.{stored_count, kind_if, effects_of}
use Rattle.call_effects.specs.Records.{file_rise}
use Rattle.posix_calls.specs.Query.{Gives, ◌>>=◌, run}
use Rattle.posix_calls.specs.declared.errno.Errno.TheVariants as errno
use Rattle.posix_calls.specs.Walk.{refuse, walk, is_there}
use Rattle.posix_calls.specs.Decide.{mkdir}
use Rattle.posix_calls.specs.declared.call.Call.TheVariants as call
use Rattle.call_effects.specs.Calls.{answer_over}
use Rattle.call_effects.proofs.Inodes.{get_inodes}
use Rattle.call_effects.specs.Wholes.{IsSound, without_kinds, graph_view}
use Rattle.call_effects.specs.Fits.{IsNew, IsRoom, IsEntry, IsUsedFile}
use Rattle.call_effects.proofs.Fresh.{fresh_sound}
use Rattle.call_effects.proofs.GrowthAsked.{len_seen, room_rise, made_rises, added_rises, shifted_rises, written_rises, empty_cost}

-- the name `a` in the root
abbrev root_a : Location
root_a = record { parent = 1; name = 97 ∷ [] }

nothing_seen : fin.get (without_kinds fin.empty) (97 ∷ []) ≡ None
nothing_seen = get_inodes fin.empty (97 ∷ []) ∙ ap (option_map (λ (e : ℕ × Kind). e.0)) (fin.get-empty order (97 ∷ []))

none_seen : fin.len (without_kinds fin.empty) ≡ 0
none_seen = len_seen fin.empty ∙ fin.len-empty order (ℕ × Kind)

-- a client's `mkdir /a` in the empty tree
mkdir_a : answer_over fresh (λ c n. None) 1 (call.Mkdir (47 ∷ 97 ∷ [])) ≡ Ok (NewDir root_a)
unfolding mkdir walk run ◌>>=◌
mkdir_a =
    let v = graph_view fresh (λ c n. None) in
    ap (λ o. run v (refuse errno.Exists (is_there o) >>= (λ x. refuse errno.NoSpace (nat_le MAX_ENTRIES (fin.len (without_kinds fin.empty))) >>= (λ y. Gives (NewDir root_a))))) nothing_seen
    ∙ ap (λ n. run v (refuse errno.NoSpace (nat_le MAX_ENTRIES n) >>= (λ y. Gives (NewDir root_a)))) none_seen

-- where the directory gets the number 2: a unit of its own, and one for the root's first entry
first_directory : growth fresh (effects_of fresh 2 (NewDir root_a)) ≡ 2
first_directory =
    let free : IsNew fresh 2 = record { low = omega arith; high = omega arith; none = refl } in
    let room : IsRoom fresh root_a = record { names = 1; entries = fin.empty; is = refl; none = fin.get-empty order (97 ∷ []) } in
    made_rises fresh (λ c n. None) fresh_sound 2 kind.Directory root_a free room
    ∙ ap (λ n. n + room_rise fresh (λ c n. None) fresh_sound root_a room) (empty_cost fresh (λ c n. None) fresh_sound)
    ∙ ap (λ n. directory_units 0 + (directory_units (n + 1) - directory_units n)) (fin.len-empty order (ℕ × Kind))

module _ (g : Graph) (d : Descriptors) (sound : IsSound g d) where
  -- a directory's second entry: a new node's own unit, and none for the directory that it is entered in
  second_entry : (new : ℕ) (at : Location) → IsNew g new → (room : IsRoom g at) → fin.len room.entries ≡ 1 → growth g (effects_of g new (NewDir at)) ≡ 1
  second_entry new at free room one =
      made_rises g d sound new kind.Directory at free room ∙ ap (λ n. n + room_rise g d sound at room) (empty_cost g d sound) ∙ ap (λ n. directory_units 0 + (directory_units (n + 1) - directory_units n)) one

  -- so a second name there costs nothing
  second_name : (i : ℕ) (at : Location) (room : IsRoom g at) → fin.len room.entries ≡ 1 → growth g (effects_of g 0 (AddName at i)) ≡ 0
  second_name i at room one = added_rises g d sound i (stored_count (g i) + 1) at room ∙ ap (λ n. directory_units (n + 1) - directory_units n) one

  -- one byte at 4,095 of an empty file ends its first block, and two begin the second
  one_byte : (i b : ℕ) (f : IsUsedFile g d i) → f.bytes ≡ [] → growth g (effects_of g 0 (Write i 4095 (b ∷ []))) ≡ 1
  one_byte i b f empty = written_rises g d sound i 4095 (b ∷ []) f ∙ ap (λ (bytes : List ℕ). file_rise (length bytes) (max (length bytes) 4096)) empty

  two_bytes : (i b c : ℕ) (f : IsUsedFile g d i) → f.bytes ≡ [] → growth g (effects_of g 0 (Write i 4095 (b ∷ c ∷ []))) ≡ 2
  two_bytes i b c f empty = written_rises g d sound i 4095 (b ∷ c ∷ []) f ∙ ap (λ (bytes : List ℕ). file_rise (length bytes) (max (length bytes) 4097)) empty

  -- a name that moves becomes another directory's 57th, for which a block begins, or its 56th; a fall of the directory that it leaves changes neither
  entry_57 : (i : ℕ) (b : Bool) (from to : Location) → from.parent ≢ to.parent → IsEntry g from (i, kind_if b) → (room : IsRoom g to) → fin.len room.entries ≡ 56 → growth g (effects_of g 0 (Move from to i b Nothing)) ≡ 1
  entry_57 i b from to apart entry room full = shifted_rises g d sound from to i (kind_if b) apart entry room ∙ ap (λ n. directory_units (n + 1) - directory_units n) full

  entry_56 : (i : ℕ) (b : Bool) (from to : Location) → from.parent ≢ to.parent → IsEntry g from (i, kind_if b) → (room : IsRoom g to) → fin.len room.entries ≡ 55 → growth g (effects_of g 0 (Move from to i b Nothing)) ≡ 0
  entry_56 i b from to apart entry room full = shifted_rises g d sound from to i (kind_if b) apart entry room ∙ ap (λ n. directory_units (n + 1) - directory_units n) full
