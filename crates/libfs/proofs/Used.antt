-- Which blocks a read uses.
use Rattle.std.proofs.Common.{◌≡◌, ◌∙◌, ap, ℕ, List, ◌/◌}
use Rattle.std.specs.Prelude.{Option, length}
use Rattle.std.specs.Option.{option_map_or}
use Rattle.posix_calls.specs.Tree.{Own}
use Rattle.posix_calls.specs.declared.call.Call.{Call}
use Rattle.posix_calls.specs.declared.call.Call.TheVariants.{Pread}
use Rattle.posix_calls.specs.declared.call.Reply.{Reply}
use Rattle.posix_calls.specs.declared.call.Reply.TheVariants.{Read}
use Rattle.posix_calls.specs.declared.descriptor.Descriptor.{Descriptor}
use Rattle.posix_calls.specs.declared.limits.TheConstants.{UNIT_BYTES}
use Rattle.block_cache.specs.CacheList.{Block, used_run}
use Rattle.libfs.specs.BlockUse.{blocks_read, used_by}

module _ (call : Call) (reply : Reply) (own : Own) (bs : List Block) (d at count : ℕ) (bytes : List ℕ) where
  -- a read of what is open at a descriptor, if something is
  pub read_uses : (o : Option Descriptor) → call ≡ Pread d at count → reply ≡ Read bytes → own d ≡ o → used_by call reply own bs ≡ option_map_or (λ x. used_run x.inode (at / UNIT_BYTES) (blocks_read at (length bytes)) bs) o bs
  read_uses o is told opened = ap (λ (c : Call). used_by c reply own bs) is ∙ ap (λ (r : Reply). used_by (Pread d at count) r own bs) told ∙ ap (λ (p : Option Descriptor). option_map_or (λ x. used_run x.inode (at / UNIT_BYTES) (blocks_read at (length bytes)) bs) p bs) opened
