-- An inode after a change is the node after it.
use Rattle.std.proofs.Common.{◌≡◌, inl, inr, ℕ, [], map, arith, refl, sym, ◌∙◌, ap, subst, Option, Some, None, false, cond}
use Rattle.std.specs.Prelude.{option_map, is_some, unwrap_or}
use Rattle.std.specs.List.{range_with_len}
use Rattle.std.specs.FinMap as fin
use Rattle.std.proofs.lemmas.Bool.{cases_Bool, lt-ltb, le-ltb}
use Rattle.graph_change.specs.file_graph.declared.effect.Kind.{Kind}
use Rattle.graph_change.specs.file_graph.declared.effect.Kind.TheVariants as kind
use Rattle.graph_change.specs.file_graph.Graph.{Node, FileBody, DirBody}
use Rattle.graph_change.specs.Bytes.{BytesChange, length_after, byte_after, bytes_after}
use Rattle.graph_change.specs.Net.{Base, Kept, Made, Gone, Net, base_node, edited_node, node_after}
use Rattle.graph_change.specs.Change.{Change, Changes, new_change, net_of, change_at, changed_graph}
use Rattle.graph_change.proofs.Law.{empty_at, coalesced_law}
use Rattle.tree_blocks.specs.Inode.{LogicalBlocks, Inode, byte_of, bytes_of_blocks, IsZeroFrom, node_by, node_of, graph_of_inodes, IsConsistentBy, IsConsistent}
use Rattle.tree_blocks.specs.After.{start_node, IsFileAfter, BodyAfter, IsInodeAfter, AreInodesAfter}
use Rattle.tree_blocks.proofs.Files.{length_file}
use Rattle.tree_blocks.proofs.Alike.{mapped_same, node_same, consistent_same}

-- ---- a file

module _ (c : BytesChange) (size : ℕ) (old : LogicalBlocks) (new_size : ℕ) (new : LogicalBlocks) (after : IsFileAfter c size old new_size new) where
  zero_after : IsZeroFrom new_size new
  zero_after at ge = after.bytes at ∙ ap (λ b. cond b (byte_after c (bytes_of_blocks old size) at) 0) (le-ltb at new_size ge)

  bytes_are : bytes_of_blocks new new_size ≡ bytes_after c (bytes_of_blocks old size)
  unfolding bytes_after
  bytes_are =
      mapped_same (byte_of new) (byte_after c (bytes_of_blocks old size)) 0 new_size (λ at lt.
      after.bytes at ∙ ap (λ b. cond b (byte_after c (bytes_of_blocks old size) at) 0) (lt-ltb at new_size (omega (arith, lt))))
      ∙ ap (λ k. map (byte_after c (bytes_of_blocks old size)) (range_with_len 0 k)) (after.size ∙ ap (length_after c.length) (sym (length_file old size)))

-- ---- one inode

edited_by : (number : ℕ) (k : Option Kind) (c : Net) (old new : Inode) → IsConsistentBy number k old.size old.blocks → BodyAfter number k c old new
    → (node_by k new.names new.size new.blocks ≡ option_map (edited_node c) (node_by k old.names old.size old.blocks)) × IsConsistentBy number k new.size new.blocks
edited_by number None c old new is after = (refl, tt)
edited_by number (Some kind.File) c old new is after = (
  λ t. Some (record { names = after.0 t; body = FileBody (bytes_are c.bytes old.size old.blocks new.size new.blocks after.1 t) }),
  zero_after c.bytes old.size old.blocks new.size new.blocks after.1,
)
edited_by number (Some kind.Directory) c old new is after = (λ t. Some (record { names = after.0 t; body = DirBody (after.1.entries t) }), after.1.directory)

started_node : (b : Base) (old : Inode) → node_of (start_node b old) ≡ base_node b (node_of old)
started_node Kept old = refl
started_node (Made kind.File) old = refl
started_node (Made kind.Directory) old = refl
started_node Gone old = refl

no_bytes : IsZeroFrom 0 (λ k. [])
unfolding byte_of
no_bytes at ge = refl

pub started_consistent : (number : ℕ) (b : Base) (old : Inode) → IsConsistent number old → IsConsistent number (start_node b old)
started_consistent number Kept old is = is
started_consistent number (Made kind.File) old is = no_bytes
started_consistent number (Made kind.Directory) old is = record { parts = λ k lt. absurd (omega (arith, lt)); distinct = λ i j lt. absurd (omega (arith, lt)) }
started_consistent number Gone old is = tt

pub node_law : (number : ℕ) (c : Net) (old new : Inode) → IsConsistent number old → IsInodeAfter number c old new → (node_of new ≡ node_after c (node_of old)) × IsConsistent number new
node_law number c old new is after =
    let start = start_node c.base old in
    let one = edited_by number start.kind c start new (started_consistent number c.base old is) after.body in (
      ap (λ k. node_by k new.names new.size new.blocks) after.kind ∙ one.0 ∙ ap (option_map (edited_node c)) (started_node c.base old),
      subst (λ k. IsConsistentBy number k new.size new.blocks) (sym after.kind) one.1,
    )

-- ---- all inodes

-- a change of which nothing is said makes nothing
unsaid : (x : Option Node) → node_after (net_of (new_change Kept)) x ≡ x
unsaid x = ap (λ c. node_after (net_of c) x) (sym (empty_at 0)) ∙ ap (λ g. g 0) (coalesced_law [] (λ i. x))

missing : (o : Option Change) → is_some o ≡ false → unwrap_or o (new_change Kept) ≡ new_change Kept
missing None e = refl
missing (Some c) e = absurd cc

pub graph_law : (cs : Changes) (old new : ℕ → Inode) → ((i : ℕ) → IsConsistent i (old i)) → AreInodesAfter cs old new
    → (graph_of_inodes new ≡ changed_graph cs (graph_of_inodes old)) × ((i : ℕ) → IsConsistent i (new i))
graph_law cs old new is after = ((λ t i. (each i).0 t), λ i. (each i).1) where
  each : (i : ℕ) → (graph_of_inodes new i ≡ changed_graph cs (graph_of_inodes old) i) × IsConsistent i (new i)
  each i = elim (cases_Bool (fin.contains_key cs i)) [
    | inl said ↦ node_law i (net_of (change_at cs i)) (old i) (new i) (is i) (after.changed i said)
    | inr unsaid_of ↦
        let alike = after.others i unsaid_of in (
          node_same (old i) (new i) alike ∙ sym (ap (λ c. node_after (net_of c) (node_of (old i))) (missing (fin.get cs i) unsaid_of) ∙ unsaid (node_of (old i))),
          consistent_same i (old i) (new i) alike (is i),
        )
  ]
