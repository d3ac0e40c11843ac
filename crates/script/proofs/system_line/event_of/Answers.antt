use Rattle.std.proofs.Common.{refl, codes}
use Rattle.script.proofs.Names.{no_name}
use Rattle.script.proofs.system_line.event_of.Goals as goal

pub returns-in_default : goal.returns-in_default
returns-in_default c =
    let w = c.args.word.now in
    let none = c.in_default.ensures.cases.0 in
    rw (
      no_name w (codes "step") refl none,
      no_name w (codes "digest") refl none,
      no_name w (codes "wipe") refl none,
      no_name w (codes "die") refl none,
      no_name w (codes "bury") refl none,
      no_name w (codes "migrate") refl none,
      no_name w (codes "where") refl none,
      no_name w (codes "stop") refl none,
      no_name w (codes "halt") refl none,
      no_name w (codes "fail") refl none,
    ) refl
