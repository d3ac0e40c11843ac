use Rattle.std.proofs.Common.{◌≡◌, drop}
use Rattle.workload_cli.specs.Patches.{patched}
use Rattle.workload_cli.proofs.image.put_patches.Given as goal

-- what is left is put in as all was to be
abbrev pub invariant-loop-patch : goal.invariant-loop-patch
invariant-loop-patch l = patched l.fn.image.items l.patches ≡ patched l.image.items (drop l.patch-index l.patches)
