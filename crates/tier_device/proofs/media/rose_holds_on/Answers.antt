use Rattle.tier_device.specs.MediaLaws.{Rose-later, Rose-earlier}
use Rattle.tier_device.proofs.media.rose_holds_on.Goals as goal

pub returns : goal.returns
returns c = record { later = Rose-later; earlier = Rose-earlier }
