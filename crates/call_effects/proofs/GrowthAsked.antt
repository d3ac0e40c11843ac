-- What an operation's questions come to over a graph are its effects and their growth.
use Rattle.std.proofs.Common.{◌≡◌, ◌≢◌, inl, inr, ℕ, ◌+◌, ◌-◌, ◌≤◌, true, false, cond, T, List, [], ◌∷◌, length, refl, Option, None, Ok, ap, sym, subst, ◌∙◌, arith, ◌&&◌}
use Rattle.std.specs.Prelude.{map, max}
use Rattle.std.proofs.lemmas.Grind.{common_steps}
use Rattle.std.proofs.lemmas.Bool.Decides.{eqb_tells}
use Rattle.std.specs.Ordering.{is_lt}
use Rattle.std.specs.Cmp.Lexicographic.{nat_list_cmp_total}
use Rattle.std.specs.FinMap as fin
use Rattle.std.specs.FinMap.Entries.{below_all}
use Rattle.posix_calls.specs.Content.{Entries, with_bytes, with_length}
use Rattle.posix_calls.specs.Units.{file_units, directory_units}
use Rattle.posix_calls.specs.Tree.{Descriptors, Own}
use Rattle.posix_calls.specs.Query.{Gives, ◌>>=◌, View, run}
use Rattle.posix_calls.specs.Walk.{entries_seen, size_seen, size_at}
use Rattle.posix_calls.specs.declared.operation.Location.{Location}
use Rattle.posix_calls.specs.declared.operation.Operation.{Operation}
use Rattle.posix_calls.specs.declared.operation.Operation.TheVariants.{Tell, NewDir, NewFile, OpenFile, CloseFile, Write, Resize, RemoveDir, AddName, DropName, Move, Exchange}
use Rattle.posix_calls.specs.declared.operation.Replaced.TheVariants.{Nothing, OldFile, OldDir}
use Rattle.posix_calls.specs.Operations.{makes}
use Rattle.posix_calls.proofs.Directory.{names_same}
use Rattle.posix_calls.proofs.Counts.{order}
use Rattle.posix_calls.proofs.Within.{resized_length}
use Rattle.log_record.specs.file_graph.Graph.{Graph, Node, is_among, acted_all, after_effect, after_effects, cost}
use Rattle.log_record.specs.file_graph.Units.{growth}
use Rattle.log_record.proofs.file_graph_lemmas.Swaps.{swaps_cost_nothing}
use Rattle.log_record.specs.file_graph.declared.effect.Kind.{Kind}
use Rattle.log_record.specs.file_graph.declared.effect.Kind.TheVariants as kind
use Rattle.log_record.specs.file_graph.declared.effect.Effect.TheVariants as effect
use Rattle.call_effects.specs.Effects.{stored_count, make_effects, remove_effects, kind_if, effects_of}
use Rattle.call_effects.specs.Records.{growth_asked, entry_rise, file_rise, move_rise}
use Rattle.call_effects.specs.Wholes.{IsSound, without_kinds, graph_view, kind_of}
use Rattle.call_effects.specs.Fits.{IsNew, IsRoom, IsEntry, IsUsedFile, IsEmptyDir, OperationFits}
use Rattle.call_effects.proofs.Puts.{put, put_there, put_other}
use Rattle.call_effects.proofs.Changes.{fair_of, file, dir, enter_is, leave_is, one_subject}
use Rattle.call_effects.proofs.Edges.{write_is, size_is}
use Rattle.call_effects.proofs.Facts.{view_dir, view_file}
use Rattle.call_effects.proofs.NewNodes.{fresh, made}
use Rattle.call_effects.proofs.Rises.{rises, growth_is, none_rises, one_rises, two_rise, units_of_none, entry_count, len_inserted, left_costs, left_kinds, left_room, named_costs, named_counts, named_kinds, dropped_costs, dropped_counts, IsDir, entered_again, moved_again}

-- ---- entries are as many as they are seen

abbrev inodes_only : List (List ℕ × (ℕ × Kind)) → List (List ℕ × ℕ)
inodes_only es = map (λ e. (e.0, e.1.0)) es

below_same : (name : List ℕ) (es : List (List ℕ × (ℕ × Kind))) → below_all order name (inodes_only es) ≡ below_all order name es
below_same name [] = refl
below_same name (e ∷ es) = ap (λ b. is_lt (order name e.0) && b) (below_same name es)

sorted_same : (es : List (List ℕ × (ℕ × Kind))) → fin.is_sorted order (inodes_only es) ≡ fin.is_sorted order es
sorted_same [] = refl
sorted_same (e ∷ es) = ap (λ b. b && fin.is_sorted order (inodes_only es)) (below_same e.0 es) ∙ ap (λ b. below_all order e.0 es && b) (sorted_same es)

length_same : (es : List (List ℕ × (ℕ × Kind))) → length (inodes_only es) ≡ length es
length_same [] = refl
length_same (e ∷ es) = let rest : length (inodes_only es) ≡ length es = length_same es in omega (arith, rest)

pub len_seen : (m : Entries (ℕ × Kind)) → fin.len (without_kinds m) ≡ fin.len m
len_seen m =
    let es = inodes_only (fin.entries m) in
    let sorted : T (fin.is_sorted order es) = subst T (sym (sorted_same (fin.entries m))) (fin.entries_sorted m) in
    let same : without_kinds m ≡ fin.from_sorted es = fin.same_map nat_list_cmp_total names_same _ _ (λ q. fin.get-from_entries nat_list_cmp_total es q ∙ sym (fin.get-from_sorted order es q sorted)) in
    fin.len-entries (without_kinds m) ∙ ap (λ x. length (fin.entries x)) same ∙ ap length (fin.entries-from_sorted order es sorted) ∙ length_same (fin.entries m) ∙ sym (fin.len-entries m)

-- ---- what is asked of a graph

-- a directory's rise, as it is asked
rise_asked : (g : Graph) (d : Descriptors) (p n : ℕ) (es : Entries (ℕ × Kind)) (more : ℕ) → g p ≡ dir n es → run (graph_view g d) (entry_rise p >>= (λ rise. Gives (more + rise))) ≡ Ok (more + (directory_units (fin.len es + 1) - directory_units (fin.len es)))
unfolding run ◌>>=◌
rise_asked g d p n es more is =
    let seen : fin.len (entries_seen ((graph_view g d).node p)) ≡ fin.len es = ap (λ s. fin.len (entries_seen s)) (view_dir g d p n es is) ∙ len_seen es in
    ap (λ count. Ok (more + (directory_units (count + 1) - directory_units count))) seen

entry_asked : (g : Graph) (d : Descriptors) (p n : ℕ) (es : Entries (ℕ × Kind)) → g p ≡ dir n es → run (graph_view g d) (entry_rise p) ≡ Ok (directory_units (fin.len es + 1) - directory_units (fin.len es))
unfolding run ◌>>=◌
entry_asked g d p n es is =
    let seen : fin.len (entries_seen ((graph_view g d).node p)) ≡ fin.len es = ap (λ s. fin.len (entries_seen s)) (view_dir g d p n es is) ∙ len_seen es in
    ap (λ count. Ok (directory_units (count + 1) - directory_units count)) seen

-- a file's size, as it is asked
size_asked : (g : Graph) (d : Descriptors) (i : ℕ) (f : ℕ → ℕ) (x : IsUsedFile g d i) → run (graph_view g d) (size_at i >>= (λ old. Gives (f old))) ≡ Ok (f (length x.bytes))
unfolding run ◌>>=◌
size_asked g d i f x = ap (λ s. Ok (f (size_seen s))) (view_file g d i x.names x.bytes x.is x.used)

gives : (v : View) (n : ℕ) → run v (Gives n) ≡ Ok n
unfolding run
gives v n = refl

-- ---- a file's bytes

pub written_length : (at : ℕ) (new old : List ℕ) → length (with_bytes at new old) ≡ max (length old) (at + length new)
written_length at new old = grind (arith, common_steps)

same_le : (a b : ℕ) → a ≡ b → a ≤ b
same_le a b e = omega (arith, e)

of_parts : (a b c d x y z : ℕ) → a ≡ x → b ≡ 0 → c ≡ y → d ≡ z → (a - b) + (c - d) ≡ x + (y - z)
of_parts a b c d x y z p q r s = omega (arith, p, q, r, s)

-- a Swap by itself leaves every inode
acted_swap : (g : Graph) (first second : Location) (x : ℕ) → acted_all g (effect.Swap first.parent first.name second.parent second.name ∷ []) x ≡ g x
acted_swap g first second x = elim (is_among x (first.parent ∷ second.parent ∷ [])) as (λ b. cond b (g x) (g x) ≡ g x) [ true ↦ refl | false ↦ refl ]

module _ (g : Graph) (d : Descriptors) (sound : IsSound g d) where
  range : (p n : ℕ) (es : Entries (ℕ × Kind)) → g p ≡ dir n es → (1 ≤ p) × (p ≤ 1024)
  range p n es is = sound.typed.numbers p kind.Directory (ap kind_of is)

  bytes_rise : (i n : ℕ) (old new : List ℕ) → g i ≡ file n old → rises g (put g i (file n new)) ≡ file_rise (length old) (length new)
  bytes_rise i n old new is =
      let low = sound.typed.numbers i kind.File (ap kind_of is) in
      one_rises g (put g i (file n new)) i low.0 low.1 (λ j off. same_le (cost (put g i (file n new) j)) (cost (g j)) (ap cost (put_other g i j (file n new) off)))
      ∙ ap (λ o. cost o - cost (g i)) (put_there g i (file n new))
      ∙ ap (λ o. file_units (length new) - cost o) is

  -- ---- a node is made

  -- the rise of the directory at a name that is free in it
  abbrev pub room_rise : (at : Location) → IsRoom g at → ℕ
  room_rise at room = directory_units (fin.len room.entries + 1) - directory_units (fin.len room.entries)

  filled_cost : (e : ℕ × Kind) (at : Location) (room : IsRoom g at) → cost (dir room.names (fin.insert room.entries at.name e)) ≡ directory_units (fin.len room.entries + 1)
  filled_cost e at room = ap directory_units (len_inserted room.entries at.name e room.none)

  new_apart : (i : ℕ) (at : Location) → IsNew g i → IsRoom g at → i ≢ at.parent
  new_apart i at new room same = let both : ◌≡◌ {A = Option Node} (dir room.names room.entries) None = sym room.is ∙ ap g (sym same) ∙ new.none in cc

  pub made_rises : (i : ℕ) (k : Kind) (at : Location) → IsNew g i → (room : IsRoom g at) → growth g (make_effects i k at) ≡ cost (fresh 1 k) + room_rise at room
  made_rises i k at new room =
      let x = dir room.names (fin.insert room.entries at.name (i, k)) in
      let g1 = put g i (fresh 0 k) in
      let g2 = put g1 at.parent x in
      let h = put g2 i (fresh 1 k) in
      let apart = new_apart i at new room in
      let low = range at.parent room.names room.entries room.is in
      let others : (j : ℕ) → j ≢ i → j ≢ at.parent → cost (h j) ≤ cost (g j) = λ j off other. same_le (cost (h j)) (cost (g j)) (ap cost (put_other g2 i j (fresh 1 k) off ∙ put_other g1 at.parent j x other ∙ put_other g i j (fresh 0 k) off)) in
      let here : cost (h i) ≡ cost (fresh 1 k) = ap cost (put_there g2 i (fresh 1 k)) in
      let was : cost (g i) ≡ 0 = ap cost new.none in
      let there : cost (h at.parent) ≡ directory_units (fin.len room.entries + 1) = ap cost (put_other g2 i at.parent (fresh 1 k) (λ e. apart (sym e)) ∙ put_there g1 at.parent x) ∙ filled_cost (i, k) at room in
      let before : cost (g at.parent) ≡ directory_units (fin.len room.entries) = ap cost room.is in
      let two = two_rise g h i at.parent (let l = new.low in omega (arith, l)) new.high low.0 low.1 apart others in
      let whole : growth g (make_effects i k at) ≡ rises g h = growth_is g (make_effects i k at) ∙ ap (rises g) (made g d i k at (fair_of g d sound) new room) in
      whole ∙ two ∙ of_parts (cost (h i)) (cost (g i)) (cost (h at.parent)) (cost (g at.parent)) (cost (fresh 1 k)) (directory_units (fin.len room.entries + 1)) (directory_units (fin.len room.entries)) here was there before

  pub empty_cost : cost (fresh 1 kind.Directory) ≡ directory_units 0
  empty_cost = ap directory_units (fin.len-empty order (ℕ × Kind))

  -- ---- one more name

  pub added_rises : (i n : ℕ) (at : Location) (room : IsRoom g at) → growth g (effect.Enter at.parent i kind.File at.name ∷ effect.Names i n ∷ []) ≡ room_rise at room
  added_rises i n at room =
      let x = dir room.names (fin.insert room.entries at.name (i, kind.File)) in
      let g1 = put g at.parent x in
      let h = after_effect g1 (effect.Names i n) in
      let low = range at.parent room.names room.entries room.is in
      let others : (j : ℕ) → j ≢ at.parent → cost (h j) ≤ cost (g j) = λ j off. same_le (cost (h j)) (cost (g j)) (named_costs g1 i n j ∙ ap cost (put_other g at.parent j x off)) in
      let there : cost (h at.parent) ≡ directory_units (fin.len room.entries + 1) = named_costs g1 i n at.parent ∙ ap cost (put_there g at.parent x) ∙ filled_cost (i, kind.File) at room in
      let before : cost (g at.parent) ≡ directory_units (fin.len room.entries) = ap cost room.is in
      growth_is g (effect.Enter at.parent i kind.File at.name ∷ effect.Names i n ∷ [])
      ∙ ap (λ f. rises g (after_effect f (effect.Names i n))) (enter_is g at.parent room.names i kind.File at.name room.entries room.is)
      ∙ one_rises g h at.parent low.0 low.1 others
      ∙ ap (λ c. c - cost (g at.parent)) there ∙ ap (λ c. directory_units (fin.len room.entries + 1) - c) before

  -- ---- a name goes

  dropped_rises : (i n : ℕ) (at : Location) → growth g (effect.Leave at.parent at.name ∷ effect.Names i n ∷ []) ≡ 0
  dropped_rises i n at =
      let g1 = after_effect g (effect.Leave at.parent at.name) in
      growth_is g (effect.Leave at.parent at.name ∷ effect.Names i n ∷ [])
      ∙ none_rises g (after_effect g1 (effect.Names i n)) (λ j. let a = named_costs g1 i n j in let b = left_costs g at.parent at.name j in omega (arith, a, b))

  removed_rises : (i : ℕ) (at : Location) → growth g (remove_effects at i) ≡ 0
  removed_rises i at =
      let g1 = after_effect g (effect.Leave at.parent at.name) in
      growth_is g (remove_effects at i)
      ∙ none_rises g (after_effect g1 (effect.Drop i)) (λ j. let a = dropped_costs g1 i j in let b = left_costs g at.parent at.name j in omega (arith, a, b))

  -- ---- a name moves

  is_dir : (at : Location) (e : ℕ × Kind) → IsEntry g at e → IsDir (g at.parent)
  is_dir at e entry = ap kind_of entry.is

  -- within its directory
  pub kept_rises : (from to : Location) (i : ℕ) (k : Kind) → from.parent ≡ to.parent → IsEntry g from (i, k) → growth g (effect.Leave from.parent from.name ∷ effect.Enter to.parent i k to.name ∷ []) ≡ 0
  kept_rises from to i k same entry =
      let h = after_effect g (effect.Leave from.parent from.name) in
      let room = left_room g from.parent entry.names from.name entry.entries (i, k) entry.is entry.there in
      growth_is g (effect.Leave from.parent from.name ∷ effect.Enter to.parent i k to.name ∷ [])
      ∙ entered_again g h to.parent i k to.name (left_costs g from.parent from.name)
      (subst (λ p. IsDir (g p)) same (is_dir from (i, k) entry))
      (left_kinds g from.parent from.name to.parent ∙ subst (λ p. IsDir (g p)) same (is_dir from (i, k) entry))
      (subst (λ p. entry_count (h p) + 1 ≤ entry_count (g p)) same room)

  -- to another directory
  pub shifted_rises : (from to : Location) (i : ℕ) (k : Kind) → from.parent ≢ to.parent → IsEntry g from (i, k) → (room : IsRoom g to) → growth g (effect.Leave from.parent from.name ∷ effect.Enter to.parent i k to.name ∷ []) ≡ room_rise to room
  shifted_rises from to i k apart entry room =
      let y = dir entry.names (fin.remove entry.entries from.name) in
      let x = dir room.names (fin.insert room.entries to.name (i, k)) in
      let left = after_effect g (effect.Leave from.parent from.name) in
      let g1 = put g from.parent y in
      let gone : left ≡ g1 = leave_is g from.parent entry.names from.name entry.entries entry.is in
      let in_1 : g1 to.parent ≡ dir room.names room.entries = put_other g from.parent to.parent y (λ e. apart (sym e)) ∙ room.is in
      let h = put g1 to.parent x in
      let low = range to.parent room.names room.entries room.is in
      let fewer : (j : ℕ) → cost (g1 j) ≤ cost (g j) = λ j. subst (λ f. cost (f j) ≤ cost (g j)) gone (left_costs g from.parent from.name j) in
      let others : (j : ℕ) → j ≢ to.parent → cost (h j) ≤ cost (g j) = λ j off. subst (λ o. cost o ≤ cost (g j)) (sym (put_other g1 to.parent j x off)) (fewer j) in
      let there : cost (h to.parent) ≡ directory_units (fin.len room.entries + 1) = ap cost (put_there g1 to.parent x) ∙ filled_cost (i, k) to room in
      let before : cost (g to.parent) ≡ directory_units (fin.len room.entries) = ap cost room.is in
      growth_is g (effect.Leave from.parent from.name ∷ effect.Enter to.parent i k to.name ∷ [])
      ∙ ap (λ f. rises g (after_effect f (effect.Enter to.parent i k to.name))) gone
      ∙ ap (rises g) (enter_is g1 to.parent room.names i k to.name room.entries in_1)
      ∙ one_rises g h to.parent low.0 low.1 others
      ∙ ap (λ c. c - cost (g to.parent)) there ∙ ap (λ c. directory_units (fin.len room.entries + 1) - c) before

  -- in the place of a file
  over_file_rises : (from to : Location) (i j n : ℕ) (k : Kind) → IsEntry g to (j, kind.File) → growth g (effect.Leave to.parent to.name ∷ effect.Names j n ∷ effect.Leave from.parent from.name ∷ effect.Enter to.parent i k to.name ∷ []) ≡ 0
  over_file_rises from to i j n k old =
      let p = to.parent in
      let h1 = after_effect g (effect.Leave p to.name) in
      let h2 = after_effect h1 (effect.Names j n) in
      let room = left_room g p old.names to.name old.entries (j, kind.File) old.is old.there in
      let counts = named_counts h1 j n p in
      growth_is g (effect.Leave p to.name ∷ effect.Names j n ∷ effect.Leave from.parent from.name ∷ effect.Enter p i k to.name ∷ [])
      ∙ moved_again g h2 from.parent p i k from.name to.name (λ x. let a = named_costs h1 j n x in let b = left_costs g p to.name x in omega (arith, a, b))
      (is_dir to (j, kind.File) old) (named_kinds h1 j n p ∙ left_kinds g p to.name p ∙ is_dir to (j, kind.File) old) (omega (arith, room, counts))

  -- in the place of a directory
  over_dir_rises : (from to : Location) (i j : ℕ) (k : Kind) → IsEntry g to (j, kind.Directory) → IsEmptyDir g j → growth g (effect.Leave to.parent to.name ∷ effect.Drop j ∷ effect.Leave from.parent from.name ∷ effect.Enter to.parent i k to.name ∷ []) ≡ 0
  over_dir_rises from to i j k old empty =
      let p = to.parent in
      let h1 = after_effect g (effect.Leave p to.name) in
      let h2 = after_effect h1 (effect.Drop j) in
      let room = left_room g p old.names to.name old.entries (j, kind.Directory) old.is old.there in
      let counts = dropped_counts h1 j p in
      let apart : p ≢ j = λ same.
      let none : entry_count (g p) ≡ 0 = ap (λ x. entry_count (g x)) same ∙ ap entry_count empty.is ∙ empty.none in
      omega (arith, none, room) in
      let stays : h2 p ≡ h1 p = ap (λ f. f p) (one_subject h1 (effect.Drop j) j refl) ∙ put_other h1 j p None apart in
      growth_is g (effect.Leave p to.name ∷ effect.Drop j ∷ effect.Leave from.parent from.name ∷ effect.Enter p i k to.name ∷ [])
      ∙ moved_again g h2 from.parent p i k from.name to.name (λ x. let a = dropped_costs h1 j x in let b = left_costs g p to.name x in omega (arith, a, b))
      (is_dir to (j, kind.Directory) old) (ap kind_of stays ∙ left_kinds g p to.name p ∙ is_dir to (j, kind.Directory) old) (omega (arith, room, counts))

  -- two names change what they lead to
  swapped_rises : (first second : Location) → growth g (effect.Swap first.parent first.name second.parent second.name ∷ []) ≡ 0
  swapped_rises first second =
      let es = effect.Swap first.parent first.name second.parent second.name ∷ [] in
      growth_is g es ∙ none_rises g (after_effects g es) (λ x. same_le (cost (after_effects g es x)) (cost (g x)) (swaps_cost_nothing es g x ∙ ap cost (acted_swap g first second x)))

  -- ---- every operation

  -- a rename that puts nothing out of its place, by whether it stays in its directory
  moved_asked : (from to : Location) (i : ℕ) (k : Kind) → IsEntry g from (i, k) → IsRoom g to → run (graph_view g d) (move_rise from to Nothing) ≡ Ok (growth g (effect.Leave from.parent from.name ∷ effect.Enter to.parent i k to.name ∷ []))
  moved_asked from to i k entry room = elim (eqb_tells from.parent to.parent) [
    | inl same ↦ ap (λ b. run (graph_view g d) (cond b (Gives 0) (entry_rise to.parent))) same.0 ∙ gives (graph_view g d) 0 ∙ ap (λ n. Ok n) (sym (kept_rises from to i k same.1 entry))
    | inr off ↦ ap (λ b. run (graph_view g d) (cond b (Gives 0) (entry_rise to.parent))) off.0 ∙ entry_asked g d to.parent room.names room.entries room.is ∙ ap (λ n. Ok n) (sym (shifted_rises from to i k off.1 entry room))
  ]

  -- no effects, no rise
  nothing_rises : growth g [] ≡ 0
  nothing_rises = growth_is g [] ∙ none_rises g g (λ j. same_le (cost (g j)) (cost (g j)) refl)

  -- a file's one effect
  pub written_rises : (i at : ℕ) (bytes : List ℕ) (f : IsUsedFile g d i) → growth g (effect.Bytes i at bytes ∷ []) ≡ file_rise (length f.bytes) (max (length f.bytes) (at + length bytes))
  written_rises i at bytes f =
      growth_is g (effect.Bytes i at bytes ∷ []) ∙ ap (rises g) (write_is g i f.names at f.bytes bytes f.is) ∙ bytes_rise i f.names f.bytes (with_bytes at bytes f.bytes) f.is ∙ ap (file_rise (length f.bytes)) (written_length at bytes f.bytes)

  resized_rises : (i len : ℕ) (f : IsUsedFile g d i) → growth g (effect.Size i len ∷ []) ≡ file_rise (length f.bytes) len
  resized_rises i len f =
      growth_is g (effect.Size i len ∷ []) ∙ ap (rises g) (size_is g i f.names len f.bytes f.is) ∙ bytes_rise i f.names f.bytes (with_length len f.bytes) f.is ∙ ap (file_rise (length f.bytes)) (resized_length len f.bytes)

  emptied_rises : (i : ℕ) (f : IsUsedFile g d i) → growth g (effect.Size i 0 ∷ []) ≡ 0
  emptied_rises i f = resized_rises i 0 f ∙ (let least = units_of_none (length f.bytes) in omega (arith, least))

  pub growth_as_asked : (own : Own) (new : ℕ) (operation : Operation) → (makes operation ≡ true → IsNew g new) → OperationFits g d own operation → run (graph_view g d) (growth_asked operation) ≡ Ok (growth g (effects_of g new operation))
  growth_as_asked own new (Tell answer) free fits = gives (graph_view g d) 0 ∙ ap (λ n. Ok n) (sym nothing_rises)
  growth_as_asked own new (NewDir at) free room =
      rise_asked g d at.parent room.names room.entries (directory_units 0) room.is ∙ ap (λ n. Ok (n + room_rise at room)) (sym empty_cost) ∙ ap (λ n. Ok n) (sym (made_rises new kind.Directory at (free refl) room))
  growth_as_asked own new (NewFile at number reads writes) free (room, num) =
      rise_asked g d at.parent room.names room.entries (file_units 0) room.is ∙ ap (λ n. Ok n) (sym (made_rises new kind.File at (free refl) room))
  growth_as_asked own new (OpenFile i true number reads writes) free (f, num) = gives (graph_view g d) 0 ∙ ap (λ n. Ok n) (sym (emptied_rises i f))
  growth_as_asked own new (OpenFile i false number reads writes) free fits = gives (graph_view g d) 0 ∙ ap (λ n. Ok n) (sym nothing_rises)
  growth_as_asked own new (CloseFile i number) free fits = gives (graph_view g d) 0 ∙ ap (λ n. Ok n) (sym nothing_rises)
  growth_as_asked own new (Write i at bytes) free f =
      size_asked g d i (λ old. file_rise old (max old (at + length bytes))) f ∙ ap (λ n. Ok n) (sym (written_rises i at bytes f))
  growth_as_asked own new (Resize i len) free f = size_asked g d i (λ old. file_rise old len) f ∙ ap (λ n. Ok n) (sym (resized_rises i len f))
  growth_as_asked own new (RemoveDir at i) free fits = gives (graph_view g d) 0 ∙ ap (λ n. Ok n) (sym (removed_rises i at))
  growth_as_asked own new (AddName at i) free (room, f) = entry_asked g d at.parent room.names room.entries room.is ∙ ap (λ n. Ok n) (sym (added_rises i (stored_count (g i) + 1) at room))
  growth_as_asked own new (DropName at i) free fits = gives (graph_view g d) 0 ∙ ap (λ n. Ok n) (sym (dropped_rises i (stored_count (g i) - 1) at))
  growth_as_asked own new (Move from to i b Nothing) free (entry, clear, room) = moved_asked from to i (kind_if b) entry room
  growth_as_asked own new (Move from to i b (OldFile j)) free (entry, clear, old) = gives (graph_view g d) 0 ∙ ap (λ n. Ok n) (sym (over_file_rises from to i j (stored_count (g j) - 1) (kind_if b) old.1))
  growth_as_asked own new (Move from to i b (OldDir j)) free (entry, clear, old) = gives (graph_view g d) 0 ∙ ap (λ n. Ok n) (sym (over_dir_rises from to i j (kind_if b) old.1 old.2))
  growth_as_asked own new (Exchange first second i j) free fits = gives (graph_view g d) 0 ∙ ap (λ n. Ok n) (sym (swapped_rises first second))
