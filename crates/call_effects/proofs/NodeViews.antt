-- What a view tells of its node, and that effects make of it what they make of the node; the same of blocks.
use Rattle.std.proofs.Common.{◌≡◌, ℕ, ◌*◌, List, [], ◌∷◌, ◌++◌, take, refl, Some, None, Option, cond, ap, sym, ◌∙◌, true, false, Bool, ◌==◌, ◌||◌}
use Rattle.std.specs.Prelude.{option_map}
use Rattle.std.specs.FinMap as fin
use Rattle.std.proofs.Math.Seq.{drop-nil}
use Rattle.posix_calls.specs.Content.{Entries, with_length, with_bytes}
use Rattle.posix_calls.proofs.Within.{resized_length}
use Rattle.log_record.specs.file_graph.Graph.{Graph, Node, FileBody, DirBody, subjects, is_among, subject_after, acted_graph, acted_all, exchanged_entries, child_at, after_effect, after_effects, swapped_directories, file_bytes, with_body, in_file, in_directory}
use Rattle.log_record.specs.file_graph.declared.effect.Kind.{Kind}
use Rattle.log_record.specs.file_graph.declared.effect.Kind.TheVariants as kind
use Rattle.log_record.specs.file_graph.declared.effect.Effect.{Effect}
use Rattle.log_record.specs.file_graph.declared.effect.Effect.TheVariants as effect
use Rattle.log_record.proofs.file_graph_lemmas.Touches.{untouched_one}
use Rattle.call_effects.specs.Blocks.{block_of, block_at, block_acted, block_after, block_resized, block_written}
use Rattle.call_effects.specs.NodeView.{NodeView, FileView, DirView, view_of_node, view_of_body, view_at, view_seen, view_is_dir, view_acted, view_after}
use Rattle.call_effects.specs.Wholes.{node_is_dir, node_seen, node_bytes}
use Rattle.call_effects.proofs.Blocks.{mapped, resized_block, written_block}
use Rattle.call_effects.proofs.Changes.{dir}
use Rattle.call_effects.proofs.GrowthAsked.{written_length}

-- ---- what a view tells

pub kind_viewed : (o : Option Node) → option_map node_is_dir o ≡ option_map view_is_dir (option_map view_of_node o)
kind_viewed None = refl
kind_viewed (Some n) = elim (n.body) as (λ y. Some (node_is_dir (record { names = n.names; body = y })) ≡ Some (view_is_dir (view_of_body n.names y))) [ FileBody bytes ↦ refl | DirBody es ↦ refl ]

pub seen_viewed : (o : Option Node) → option_map node_seen o ≡ option_map view_seen (option_map view_of_node o)
seen_viewed None = refl
seen_viewed (Some n) = elim (n.body) as (λ y. Some (node_seen (record { names = n.names; body = y })) ≡ Some (view_seen (view_of_body n.names y))) [ FileBody bytes ↦ refl | DirBody es ↦ refl ]

pub dir_viewed : (o : Option Node) (names : ℕ) (es : Entries (ℕ × Kind)) → option_map view_of_node o ≡ Some (DirView names es) → o ≡ dir names es
dir_viewed None names es e = absurd (cc)
dir_viewed (Some n) names es e = elim (n.body) as (λ y. n.body ≡ y → Some (view_of_body n.names y) ≡ Some (DirView names es) → Some n ≡ dir names es) [
  | FileBody bytes ↦ λ is same. absurd (cc)
  | DirBody fs ↦ λ is same.
      let count : n.names ≡ names = cc in
      let entries : fs ≡ es = cc in
      ap (λ y. Some (record { names = n.names; body = y })) is ∙ ap (λ m. dir m fs) count ∙ ap (dir names) entries
] refl e

pub block_told : (b : ℕ) (o : Option Node) (block : List ℕ) → option_map (block_of b) (file_bytes o) ≡ Some block → block_of b (node_bytes o) ≡ block
block_told b None block e = absurd (cc)
block_told b (Some n) block e = elim (n.body) as (λ y. option_map (block_of b) (file_bytes (Some (record { names = n.names; body = y }))) ≡ Some block → block_of b (node_bytes (Some (record { names = n.names; body = y }))) ≡ block) [
  | FileBody bytes ↦ λ is. cc
  | DirBody es ↦ λ is. absurd (cc)
] e

-- ---- effects at one inode

-- what effects make of a view is the view of what they make of the node
pub view_acts : (e : Effect) (o : Option Node) → option_map view_of_node (subject_after e o) ≡ view_acted e (option_map view_of_node o)
view_acts (effect.Make i kind.File) o = refl
view_acts (effect.Make i kind.Directory) o = refl
view_acts (effect.Drop i) o = refl
view_acts (effect.Swap d a e b) o = refl
view_acts (effect.Enter d i k name) None = refl
view_acts (effect.Leave d name) None = refl
view_acts (effect.Names i m) None = refl
view_acts (effect.Size i size) None = refl
view_acts (effect.Bytes i at new) None = refl
view_acts (effect.Enter d i k name) (Some n) = elim (n.body) as (λ y. option_map view_of_node (subject_after (effect.Enter d i k name) (Some (record { names = n.names; body = y }))) ≡ view_acted (effect.Enter d i k name) (Some (view_of_body n.names y))) [ FileBody bytes ↦ refl | DirBody es ↦ refl ]
view_acts (effect.Leave d name) (Some n) = elim (n.body) as (λ y. option_map view_of_node (subject_after (effect.Leave d name) (Some (record { names = n.names; body = y }))) ≡ view_acted (effect.Leave d name) (Some (view_of_body n.names y))) [ FileBody bytes ↦ refl | DirBody es ↦ refl ]
view_acts (effect.Names i m) (Some n) = elim (n.body) as (λ y. option_map view_of_node (subject_after (effect.Names i m) (Some (record { names = n.names; body = y }))) ≡ view_acted (effect.Names i m) (Some (view_of_body n.names y))) [ FileBody bytes ↦ refl | DirBody es ↦ refl ]
view_acts (effect.Size i size) (Some n) = elim (n.body) as (λ y. option_map view_of_node (subject_after (effect.Size i size) (Some (record { names = n.names; body = y }))) ≡ view_acted (effect.Size i size) (Some (view_of_body n.names y))) [
  | FileBody bytes ↦ ap (λ m. Some (FileView n.names m)) (resized_length size bytes)
  | DirBody es ↦ refl
]
view_acts (effect.Bytes i at new) (Some n) = elim (n.body) as (λ y. option_map view_of_node (subject_after (effect.Bytes i at new) (Some (record { names = n.names; body = y }))) ≡ view_acted (effect.Bytes i at new) (Some (view_of_body n.names y))) [
  | FileBody bytes ↦ ap (λ m. Some (FileView n.names m)) (written_length at new bytes)
  | DirBody es ↦ refl
]

-- a block of what stands at an inode, if that is a file
abbrev block_in : ℕ → Option Node → Option (List ℕ)
block_in b o = option_map (block_of b) (file_bytes o)

entries_keep : (f : Entries (ℕ × Kind) → Entries (ℕ × Kind)) (o : Option Node) → file_bytes (option_map (with_body (in_directory f)) o) ≡ file_bytes o
entries_keep f None = refl
entries_keep f (Some n) = elim (n.body) as (λ y. file_bytes (Some (with_body (in_directory f) (record { names = n.names; body = y }))) ≡ file_bytes (Some (record { names = n.names; body = y }))) [ FileBody bytes ↦ refl | DirBody es ↦ refl ]

names_keep : (m : ℕ) (o : Option Node) → file_bytes (option_map (λ (x : Node). let y : Node = record { names = m; body = x.body } in y) o) ≡ file_bytes o
names_keep m None = refl
names_keep m (Some n) = elim (n.body) as (λ y. file_bytes (Some (record { names = m; body = y })) ≡ file_bytes (Some (record { names = n.names; body = y }))) [ FileBody bytes ↦ refl | DirBody es ↦ refl ]

in_file_acts : (f h : List ℕ → List ℕ) (b : ℕ) → ((bytes : List ℕ) → block_of b (f bytes) ≡ h (block_of b bytes)) → (o : Option Node) (block : List ℕ) → block_in b o ≡ Some block → block_in b (option_map (with_body (in_file f)) o) ≡ Some (h block)
in_file_acts f h b acts None block e = absurd (cc)
in_file_acts f h b acts (Some n) block e = elim (n.body) as (λ y. block_in b (Some (record { names = n.names; body = y })) ≡ Some block → block_in b (Some (with_body (in_file f) (record { names = n.names; body = y }))) ≡ Some (h block)) [
  | FileBody bytes ↦ λ is. let same : block_of b bytes ≡ block = cc in ap (λ x. Some x) (acts bytes ∙ ap h same)
  | DirBody es ↦ λ is. absurd (cc)
] e

-- so of a block that is known
pub block_acts : (e : Effect) (b : ℕ) (o : Option Node) (old : Option (List ℕ)) (new : List ℕ) → ((block : List ℕ) → old ≡ Some block → block_in b o ≡ Some block) → block_acted e b old ≡ Some new → block_in b (subject_after e o) ≡ Some new
block_acts (effect.Make i kind.File) b o old new known is = ap (λ xs. Some (take 4096 xs)) (drop-nil (4096 * b)) ∙ is
block_acts (effect.Make i kind.Directory) b o old new known is = absurd (cc)
block_acts (effect.Enter d i k name) b o old new known is = ap (option_map (block_of b)) (entries_keep (λ es. fin.insert es name (i, k)) o) ∙ known new is
block_acts (effect.Leave d name) b o old new known is = ap (option_map (block_of b)) (entries_keep (λ es. fin.remove es name) o) ∙ known new is
block_acts (effect.Names i m) b o old new known is = ap (option_map (block_of b)) (names_keep m o) ∙ known new is
block_acts (effect.Size i size) b o old new known is =
    let was = mapped (block_resized size b) old new is in
    in_file_acts (with_length size) (block_resized size b) b (resized_block b size) o was.0 (known was.0 was.1) ∙ ap (λ x. Some x) was.2
block_acts (effect.Bytes i at bytes) b o old new known is =
    let was = mapped (block_written at bytes b) old new is in
    in_file_acts (with_bytes at bytes) (block_written at bytes b) b (written_block b at bytes) o was.0 (known was.0 was.1) ∙ ap (λ x. Some x) was.2
block_acts (effect.Drop i) b o old new known is = absurd (cc)
block_acts (effect.Swap d a e n) b o old new known is = known new is

-- ---- effects one after the other

neither : (a b : Bool) → (a || b) ≡ false → (a ≡ false) × (b ≡ false)
neither true b e = absurd cc
neither false b e = (refl, e)

pub among_append : (i : ℕ) (is js : List ℕ) → is_among i (is ++ js) ≡ false → (is_among i is ≡ false) × (is_among i js ≡ false)
among_append i [] js e = (refl, e)
among_append i (j ∷ is) js e =
    let p = neither (j == i) (is_among i (is ++ js)) e in
    let q = among_append i is js p.1 in
    (ap (λ b. b || is_among i is) p.0 ∙ q.0, q.1)

cond_same : {A : Type 0} (c : Bool) (x : A) → cond c x x ≡ x
cond_same true x = refl
cond_same false x = refl

pub view_acts_if : (b : Bool) (e : Effect) (o : Option Node) → option_map view_of_node (cond b (subject_after e o) o) ≡ cond b (view_acted e (option_map view_of_node o)) (option_map view_of_node o)
view_acts_if true e o = view_acts e o
view_acts_if false e o = refl

-- the view after effects of an inode that no Swap among them names
pub viewed_after : (g : Graph) (es : List Effect) (i : ℕ) → is_among i (swapped_directories es) ≡ false → view_at (after_effects g es) i ≡ view_after es i (view_at g i)
viewed_after g [] i off = refl
viewed_after g (effect.Swap d a e b ∷ es) i off =
    let swap = effect.Swap d a e b in
    let apart = among_append i (subjects swap) (swapped_directories es) off in
    viewed_after (after_effect g swap) es i apart.1 ∙ ap (view_after es i) (ap (option_map view_of_node) (untouched_one g swap i apart.0) ∙ sym (cond_same (is_among i (subjects swap)) (view_at g i)))
viewed_after g (e ∷ es) i off = viewed_after (after_effect g e) es i off ∙ ap (view_after es i) (view_acts_if (is_among i (subjects e)) e (g i))

-- a Swap leaves the bytes of files
entered_keeps : (g : Graph) (d c : ℕ) (k : Kind) (name : List ℕ) (i : ℕ) → file_bytes (acted_graph g (effect.Enter d c k name) i) ≡ file_bytes (g i)
entered_keeps g d c k name i = elim (is_among i (d ∷ [])) as (λ b. file_bytes (cond b (subject_after (effect.Enter d c k name) (g i)) (g i)) ≡ file_bytes (g i)) [
  | true ↦ entries_keep (λ es. fin.insert es name (c, k)) (g i)
  | false ↦ refl
]

exchanged_keep : (g : Graph) (d : ℕ) (a : List ℕ) (e : ℕ) (b : List ℕ) (x y : Option (ℕ × Kind)) (i : ℕ) → file_bytes (acted_all g (exchanged_entries d a e b x y) i) ≡ file_bytes (g i)
exchanged_keep g d a e b (Some x) (Some y) i = entered_keeps (acted_graph g (effect.Enter d y.0 y.1 a)) e x.0 x.1 b i ∙ entered_keeps g d y.0 y.1 a i
exchanged_keep g d a e b (Some x) None i = refl
exchanged_keep g d a e b None y i = refl

pub swap_keeps : (g : Graph) (d : ℕ) (a : List ℕ) (e : ℕ) (b : List ℕ) (i : ℕ) → file_bytes (after_effect g (effect.Swap d a e b) i) ≡ file_bytes (g i)
swap_keeps g d a e b i = exchanged_keep g d a e b (child_at g d a) (child_at g e b) i

block_acts_if : (c : Bool) (e : Effect) (b : ℕ) (o : Option Node) (old : Option (List ℕ)) (new : List ℕ) → ((block : List ℕ) → old ≡ Some block → block_in b o ≡ Some block) → cond c (block_acted e b old) old ≡ Some new → block_in b (cond c (subject_after e o) o) ≡ Some new
block_acts_if true e b o old new known is = block_acts e b o old new known is
block_acts_if false e b o old new known is = known new is

block_step : (g : Graph) (e : Effect) (i b : ℕ) (old : Option (List ℕ)) (new : List ℕ) → ((block : List ℕ) → old ≡ Some block → block_at g i b ≡ Some block) → cond (is_among i (subjects e)) (block_acted e b old) old ≡ Some new → block_at (after_effect g e) i b ≡ Some new
block_step g (effect.Swap d a e n) i b old new known is = ap (option_map (block_of b)) (swap_keeps g d a e n i) ∙ known new (sym (cond_same (is_among i (d ∷ e ∷ [])) old) ∙ is)
block_step g e i b old new known is = block_acts_if (is_among i (subjects e)) e b (g i) old new known is

-- and a block of it that is known
pub block_known_after : (g : Graph) (es : List Effect) (i b : ℕ) (old : Option (List ℕ)) (new : List ℕ) → ((block : List ℕ) → old ≡ Some block → block_at g i b ≡ Some block) → block_after es i b old ≡ Some new → block_at (after_effects g es) i b ≡ Some new
block_known_after g [] i b old new known is = known new is
block_known_after g (e ∷ es) i b old new known is =
    block_known_after (after_effect g e) es i b (cond (is_among i (subjects e)) (block_acted e b old) old) new (λ block there. block_step g e i b old block known there) is

-- ---- one list of effects after another

pub views_joined : (es more : List Effect) (i : ℕ) (view : Option NodeView) → view_after (es ++ more) i view ≡ view_after more i (view_after es i view)
views_joined [] more i view = refl
views_joined (e ∷ es) more i view = views_joined es more i (cond (is_among i (subjects e)) (view_acted e view) view)

pub blocks_joined : (es more : List Effect) (i b : ℕ) (block : Option (List ℕ)) → block_after (es ++ more) i b block ≡ block_after more i b (block_after es i b block)
blocks_joined [] more i b block = refl
blocks_joined (e ∷ es) more i b block = blocks_joined es more i b (cond (is_among i (subjects e)) (block_acted e b block) block)
