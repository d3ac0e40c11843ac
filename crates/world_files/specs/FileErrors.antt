-- What a refusal is for.
use Rattle.recovery.specs.area_recovery.FreshContents.{IsFormatError}
use Rattle.world_files.specs.declared.error.WorldFileError.{WorldFileError}
use Rattle.world_files.specs.declared.error.WorldFileError.TheVariants as errors

-- for the file
abbrev pub IsOfFile : WorldFileError → Type 0
IsOfFile (errors.File problem) = Unit {0}
IsOfFile _ = ⊥

-- for the file, or for want of memory
abbrev pub IsFileOrMemory : WorldFileError → Type 0
IsFileOrMemory (errors.File problem) = Unit {0}
IsFileOrMemory errors.Memory = Unit {0}
IsFileOrMemory _ = ⊥

-- for the sizes that are asked for
abbrev pub IsOfSizes : WorldFileError → Type 0
IsOfSizes (errors.Sizes rule) = Unit {0}
IsOfSizes _ = ⊥

-- for what a world that is made anew may lack, and not for what media store
abbrev pub IsFormatRefused : WorldFileError → Type 0
IsFormatRefused (errors.Sizes rule) = Unit {0}
IsFormatRefused (errors.File problem) = Unit {0}
IsFormatRefused errors.Memory = Unit {0}
IsFormatRefused (errors.Recovery e) = IsFormatError e
IsFormatRefused _ = ⊥
