-- Inodes that read the same.
use Rattle.std.proofs.Common.{◌≡◌, ℕ, zero, suc, ◌+◌, ◌/◌, ◌%◌, ◌<◌, ◌∷◌, map, refl, sym, ◌∙◌, ap, subst, arith, Option, Some, None}
use Rattle.std.specs.List.{range_with_len}
use Rattle.std.specs.FinMap as fin
use Rattle.graph_change.specs.file_graph.declared.effect.Kind.{Kind}
use Rattle.graph_change.specs.file_graph.declared.effect.Kind.TheVariants as kind
use Rattle.graph_change.specs.file_graph.Graph.{FileBody, DirBody}
use Rattle.layout.specs.Directory.{block_entries, entry_of}
use Rattle.tree_blocks.specs.Inode.{LogicalBlocks, Inode, plain, byte_of, entry_at, IsDirectoryBlock, blocks_for, node_by, node_of, body_of_blocks, IsConsistentBy, IsConsistent, ReadAlike, AreAlike}

pub mapped_same : {X : Type 0} (f g : ℕ → X) (a n : ℕ) → ((k : ℕ) → k < a + n → f k ≡ g k) → map f (range_with_len a n) ≡ map g (range_with_len a n)
mapped_same f g a zero same = refl
mapped_same f g a (suc n) same = λ t. same a (omega arith) t ∷ mapped_same f g (a + 1) n (λ k lt. same k (omega (arith, lt))) t

pub entries_same : (size : ℕ) (b c : LogicalBlocks) → ((k : ℕ) → k < blocks_for size → c k ≡ b k) → (e : ℕ) → e < size → entry_at c e ≡ entry_at b e
unfolding entry_at
entries_same size b c same e lt = ap (λ l. plain (entry_of (block_entries l) (e % 56))) (same (e / 56) (omega (arith, lt)))

body_same : (k : Kind) (size : ℕ) (b c : LogicalBlocks) → ReadAlike (Some k) size b c → body_of_blocks k size c ≡ body_of_blocks k size b
body_same kind.File size b c same = ap FileBody (mapped_same (byte_of c) (byte_of b) 0 size (λ at lt. same at))
body_same kind.Directory size b c same = ap (λ es. DirBody (fin.from_entries es)) (mapped_same (entry_at c) (entry_at b) 0 size (λ e lt. entries_same size b c same e (omega (arith, lt))))

by_kind : (k : Option Kind) (names size : ℕ) (b c : LogicalBlocks) → ReadAlike k size b c → node_by k names size c ≡ node_by k names size b
by_kind None names size b c same = refl
by_kind (Some k) names size b c same = ap (λ body. Some (record { names = names; body = body })) (body_same k size b c same)

pub node_same : (old new : Inode) → AreAlike old new → node_of new ≡ node_of old
node_same old new same =
    ap (λ k. node_by k new.names new.size new.blocks) same.kind ∙ ap (λ n. node_by old.kind n new.size new.blocks) same.names
    ∙ ap (λ n. node_by old.kind old.names n new.blocks) same.size ∙ by_kind old.kind old.names old.size old.blocks new.blocks same.blocks

pub consistent_by : (number : ℕ) (k : Option Kind) (size : ℕ) (b c : LogicalBlocks) → ReadAlike k size b c → IsConsistentBy number k size b → IsConsistentBy number k size c
consistent_by number None size b c same is = tt
consistent_by number (Some kind.File) size b c same is = λ at ge. same at ∙ is at ge
consistent_by number (Some kind.Directory) size b c same is =
    record {
      parts = λ k lt. subst (IsDirectoryBlock number size k) (sym (same k lt)) (is.parts k lt);
      distinct = λ i j li lj e. is.distinct i j li lj (ap (λ x. x.0) (sym (entries_same size b c same i li)) ∙ e ∙ ap (λ x. x.0) (entries_same size b c same j lj));
    }

pub consistent_same : (number : ℕ) (old new : Inode) → AreAlike old new → IsConsistent number old → IsConsistent number new
consistent_same number old new same is =
    let one : IsConsistentBy number old.kind old.size new.blocks = consistent_by number old.kind old.size old.blocks new.blocks same.blocks is in
    let two : IsConsistentBy number old.kind new.size new.blocks = subst (λ n. IsConsistentBy number old.kind n new.blocks) (sym same.size) one in
    subst (λ k. IsConsistentBy number k new.size new.blocks) (sym same.kind) two
