use Rattle.std.proofs.Common.{◌∙◌, ap}
use Rattle.host_media.specs.DiskFile.{places_from}
use Rattle.world_files.proofs.PartsEach.{as_many, parts_on_disk}
use Rattle.world_files.proofs.disk.disk_parts.Goals as goal

pub parts_of-requires : goal.parts_of-requires
parts_of-requires c = as_many _ c.in-Ok.media.items c.args.geometry.now (c.in-Ok.ensures.sizes ∙ c.part_sizes.ensures)

pub returns-in-Ok-clause-lie : goal.returns-in-Ok-clause-lie
returns-in-Ok-clause-lie c = parts_on_disk c.args.geometry.now c.in-Ok.media.items (c.in-Ok.ensures.sizes ∙ c.part_sizes.ensures) (c.in-Ok.ensures.places ∙ ap (places_from 0) c.part_sizes.ensures) c.in-Ok.ensures.opened c.parts_of.result c.parts_of.ensures.media c.parts_of.ensures.sixteen
