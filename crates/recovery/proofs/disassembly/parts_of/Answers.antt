use Rattle.std.proofs.Common.{ap, ◌∙◌}
use Rattle.std.specs.Prelude.{length}
use Rattle.std.proofs.lemmas.List.{length-map}
use Rattle.interleavings.specs.update_log.View.{RegionView}
use Rattle.recovery.proofs.SystemParts.{back_of_none}
use Rattle.recovery.proofs.disassembly.parts_of.Goals as goal

pub of-requires : goal.of-requires
of-requires g c = record { sixteen = ap length (back_of_none c.args.media.items c.hand_back.new.media.items c.args.regions.items c.requires.empty c.hand_back.ensures) ∙ length-map c.args.regions.items (λ (v : RegionView _). v.media) ∙ c.requires.sixteen }
