-- What is held of one client's knowledge, and what it knows by that.
use Rattle.std.specs.Prelude.{ℕ, ◌-◌, ◌*◌, ◌==◌, nat_lt, take, List, Bool, true, Option, Some, None, unwrap_or, option_map, get_or, refl, if◌then◌else◌}
use Rattle.std.specs.Coded.{Coded, code_by, coded×, coded_ℕ, coded_bool, coded_list, coded_option}
use Rattle.posix_calls.specs.Tree.{any_up_to}
use Rattle.posix_calls.specs.Own.{own_of}
use Rattle.posix_calls.specs.declared.descriptor.Descriptor.{Descriptor}
use Rattle.posix_calls.specs.declared.limits.TheConstants.{MAX_INODE, ROOT, UNIT_BYTES}
use Rattle.client_plan.specs.file_graph.Graph.{is_among}
use Rattle.client_plan.specs.file_graph.declared.effect.Kind.{Kind}
use Rattle.client_plan.specs.file_graph.declared.effect.Kind.TheVariants as kind
use Rattle.client_plan.specs.call_effects.NodeView.{NodeView, FileView, DirView}
use Rattle.client_plan.specs.call_effects.Knowledge.{Knowledge, lists_as, is_dir_by}
use Rattle.block_cache.specs.CacheList.{Block, bytes_at}
use Rattle.record_validation.specs.Summary.{view_code}

-- the client's number, its descriptors by their numbers, its copies by their inodes, the blocks that it keeps, and the numbers granted to it
pub record Held : Type 0 where
  pub client : ℕ
  pub own : List (Option Descriptor)
  pub copies : List (Option (Option NodeView))
  pub blocks : List Block
  pub numbers : List ℕ

-- ---- how it is stored

abbrev pub descriptor_code : Coded Descriptor
descriptor_code = code_by (ℕ × (Bool × Bool)) (coded× coded_ℕ (coded× coded_bool coded_bool)) (λ d. (d.inode, (d.reads, d.writes))) (λ p. record { inode = p.0; reads = p.1.0; writes = p.1.1 }) (λ _. refl)

abbrev pub block_code : Coded Block
block_code = code_by (ℕ × (ℕ × List ℕ)) (coded× coded_ℕ (coded× coded_ℕ (coded_list coded_ℕ))) (λ b. (b.inode, (b.block, b.bytes))) (λ p. record { inode = p.0; block = p.1.0; bytes = p.1.1 }) (λ _. refl)

abbrev pub held_code : Coded Held
held_code = code_by (ℕ × (List (Option Descriptor) × (List (Option (Option NodeView)) × (List Block × List ℕ)))) (coded× coded_ℕ (coded× (coded_list (coded_option descriptor_code)) (coded× (coded_list (coded_option (coded_option view_code))) (coded× (coded_list block_code) (coded_list coded_ℕ))))) (λ h. (h.client, (h.own, (h.copies, (h.blocks, h.numbers))))) (λ p. record { client = p.0; own = p.1.0; copies = p.1.1.0; blocks = p.1.1.1.0; numbers = p.1.1.1.1 }) (λ _. refl)

-- ---- what is known by it

-- the copy of what stands at an inode; where it is none, nothing is known to stand there
abbrev pub copy_at : List (Option (Option NodeView)) → ℕ → Option (Option NodeView)
copy_at copies i = get_or copies i None

-- a block that is kept; blocks are numbered by 32 bits
abbrev pub kept_at : List Block → ℕ → ℕ → Option (List ℕ)
kept_at blocks i b = if nat_lt b 4294967296 then bytes_at i b blocks else None

-- a block of a file of so many bytes
abbrev pub file_block : ℕ → List Block → ℕ → ℕ → Option (List ℕ)
file_block size blocks i b = option_map (take (size - UNIT_BYTES * b)) (kept_at blocks i b)

-- how many bytes a file has that there is a copy of
abbrev pub size_known : Option (Option NodeView) → Option ℕ
size_known None = None
size_known (Some None) = None
size_known (Some (Some (FileView names size))) = Some size
size_known (Some (Some (DirView names entries))) = None

-- a block of a file whose size is known, if it is
abbrev pub block_by : Option ℕ → List Block → ℕ → ℕ → Option (List ℕ)
block_by None blocks i b = None
block_by (Some size) blocks i b = file_block size blocks i b

-- a block of a file, by the copy of the file and what is kept
abbrev pub block_known : Held → ℕ → ℕ → Option (List ℕ)
block_known h i b = block_by (size_known (copy_at h.copies i)) h.blocks i b

-- what the client knows
abbrev pub knows : Held → Knowledge
knows h = record { client = h.client; own = own_of h.own; copies = copy_at h.copies; blocks = block_known h; granted = λ i. is_among i h.numbers }

-- whether an entry of one of the copies names an inode as of this kind
abbrev pub is_listed_in : List (Option (Option NodeView)) → ℕ → Kind → Bool
is_listed_in copies i what = any_up_to MAX_INODE (λ d. lists_as i what (unwrap_or (copy_at copies d) None))

-- whether an inode is a directory, as far as the copies tell; the root is one
abbrev pub known_dir_in : List (Option (Option NodeView)) → ℕ → Option (Option Bool)
known_dir_in copies i = if i == ROOT then Some (Some true) else is_dir_by (copy_at copies i) (is_listed_in copies i kind.Directory) (is_listed_in copies i kind.File)
