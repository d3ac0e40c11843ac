use Rattle.std.proofs.Common.{subst, arith}
use Rattle.std.proofs.lemmas.List.{length-map}
use Rattle.block_cache.specs.CacheList.{IsCache}
use Rattle.block_cache.specs.Entries.{block_of}
use Rattle.block_cache.proofs.Entries.{once}
use Rattle.block_cache.proofs.blocks.Blocks.len.Goals as goal

pub returns-clause-cache : goal.returns-clause-cache
returns-clause-cache c =
    let es = c.self.inside.cache.entries in
    let valid = c.len.ensures.valid in
    subst IsCache c.self.view_is (record { few = omega (arith, valid.1, c.self.invariant.0, length-map es block_of); once = once es valid.0 })
