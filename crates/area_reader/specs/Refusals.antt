-- Which refusals a call of the shared area can have, and what those of the pools are told as.
use Rattle.block_alloc.specs.declared.error.AllocatorError.{AllocatorError}
use Rattle.block_alloc.specs.declared.error.AllocatorError.TheVariants as pools
use Rattle.area_reader.specs.declared.error.AreaError.{AreaError}
use Rattle.area_reader.specs.declared.error.AreaError.TheVariants as errors

-- Refusals of a reader: it takes no blocks, and is asked for no run.
abbrev pub IsReadRefusal : AreaError → Type 0
IsReadRefusal errors.DeviceFault = Unit {0}
IsReadRefusal (errors.Damaged part block) = Unit {0}
IsReadRefusal errors.NoBlock = ⊥
IsReadRefusal errors.NotMapped = ⊥
IsReadRefusal errors.Memory = Unit {0}

-- Refusals of a move, on media that spell a graph: no damage is found there.
abbrev pub IsMoveRefusal : AreaError → Type 0
IsMoveRefusal errors.DeviceFault = Unit {0}
IsMoveRefusal (errors.Damaged part block) = ⊥
IsMoveRefusal errors.NoBlock = Unit {0}
IsMoveRefusal errors.NotMapped = Unit {0}
IsMoveRefusal errors.Memory = Unit {0}

-- Refusals of a change on media that spell a graph, and of a move whose run was found: no damage, and no run that is not mapped.
abbrev pub IsChangeRefusal : AreaError → Type 0
IsChangeRefusal errors.DeviceFault = Unit {0}
IsChangeRefusal (errors.Damaged part block) = ⊥
IsChangeRefusal errors.NoBlock = Unit {0}
IsChangeRefusal errors.NotMapped = ⊥
IsChangeRefusal errors.Memory = Unit {0}

-- what a refusal of the pools is told as
abbrev pub area_error : AllocatorError → AreaError
area_error pools.NoBlock = errors.NoBlock
area_error pools.Memory = errors.Memory
