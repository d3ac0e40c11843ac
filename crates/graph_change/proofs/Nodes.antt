-- The net change with one more effect is the net change and then the effect, of every node, of any kind or none.
use Rattle.std.proofs.Common.{◌≡◌, ℕ, List, refl, Some, None, Option, ap}
use Rattle.std.specs.Prelude.{option_map}
use Rattle.posix_calls.specs.Content.{with_length, with_bytes}
use Rattle.file_graph.specs.declared.effect.Effect.{Effect}
use Rattle.file_graph.specs.declared.effect.Effect.TheVariants as effect
use Rattle.std.specs.FinMap as fin
use Rattle.file_graph.specs.Graph.{Node, Body, FileBody, DirBody, empty_body, in_file, in_directory, subject_after}
use Rattle.graph_change.specs.Bytes.{BytesChange, IsTidy, no_bytes, with_size, with_write}
use Rattle.graph_change.specs.Net.{Child, Net, EntryChanges, Kept, with_entry, from_base, base_node, body_after, names_after, node_after, net_after}
use Rattle.graph_change.proofs.Bytes.{size_law, write_law, tidy_size, tidy_write, tidy_nothing, nothing_after}
use Rattle.graph_change.proofs.Entries.{entries_law, no_entries}

mapped : (f g h : Node → Node) (o : Option Node) → ((n : Node) → f n ≡ g (h n)) → option_map f o ≡ option_map g (option_map h o)
mapped f g h None same = refl
mapped f g h (Some n) same = ap Some (same n)

size_body : (n : ℕ) (c : BytesChange) (cs : EntryChanges) (b : Body) → IsTidy c → body_after (with_size n c) cs b ≡ in_file (with_length n) (body_after c cs b)
size_body n c cs (FileBody old) tidy = ap FileBody (size_law n c old tidy)
size_body n c cs (DirBody old) tidy = refl

write_body : (at : ℕ) (text : List ℕ) (c : BytesChange) (cs : EntryChanges) (b : Body) → IsTidy c → body_after (with_write at text c) cs b ≡ in_file (with_bytes at text) (body_after c cs b)
write_body at text c cs (FileBody old) tidy = ap FileBody (write_law at text c old tidy)
write_body at text c cs (DirBody old) tidy = refl

entry_body : (name : List ℕ) (what : Option Child) (c : BytesChange) (cs : EntryChanges) (b : Body) → body_after c (fin.insert cs name what) b ≡ in_directory (with_entry name what) (body_after c cs b)
entry_body name what c cs (FileBody old) = refl
entry_body name what c cs (DirBody old) = ap DirBody (entries_law name what cs old)

no_body : (b : Body) → body_after no_bytes fin.empty b ≡ b
no_body (FileBody old) = ap FileBody (nothing_after old)
no_body (DirBody old) = ap DirBody (no_entries old)

-- the law at one inode
pub one_more : (e : Effect) (c : Net) (x : Option Node) → IsTidy c.bytes → node_after (net_after e c) x ≡ subject_after e (node_after c x)
one_more (effect.Make i k) c x tidy = ap (λ b. Some (record { names = 0; body = b })) (no_body (empty_body k))
one_more (effect.Enter d i k name) c x tidy = mapped _ _ _ (base_node c.base x) (λ n. ap (λ b. record { names = names_after c.names n.names; body = b }) (entry_body name (Some (i, k)) c.bytes c.entries n.body))
one_more (effect.Leave d name) c x tidy = mapped _ _ _ (base_node c.base x) (λ n. ap (λ b. record { names = names_after c.names n.names; body = b }) (entry_body name None c.bytes c.entries n.body))
one_more (effect.Names i m) c x tidy = mapped _ _ _ (base_node c.base x) (λ n. refl)
one_more (effect.Size i size) c x tidy = mapped _ _ _ (base_node c.base x) (λ n. ap (λ b. record { names = names_after c.names n.names; body = b }) (size_body size c.bytes c.entries n.body tidy))
one_more (effect.Bytes i at text) c x tidy = mapped _ _ _ (base_node c.base x) (λ n. ap (λ b. record { names = names_after c.names n.names; body = b }) (write_body at text c.bytes c.entries n.body tidy))
one_more (effect.Drop i) c x tidy = refl
one_more (effect.Swap d a e b) c x tidy = refl

pub tidy_after : (e : Effect) (c : Net) → IsTidy c.bytes → IsTidy (net_after e c).bytes
tidy_after (effect.Make i k) c tidy = tidy_nothing
tidy_after (effect.Enter d i k name) c tidy = tidy
tidy_after (effect.Leave d name) c tidy = tidy
tidy_after (effect.Names i m) c tidy = tidy
tidy_after (effect.Size i size) c tidy = tidy_size size c.bytes tidy
tidy_after (effect.Bytes i at text) c tidy = tidy_write at text c.bytes tidy
tidy_after (effect.Drop i) c tidy = tidy_nothing
tidy_after (effect.Swap d a e b) c tidy = tidy

-- of which nothing is said, stays
pub stays : (x : Option Node) → node_after (from_base Kept) x ≡ x
stays None = refl
stays (Some n) = ap (λ b. Some (record { names = n.names; body = b })) (no_body n.body)
