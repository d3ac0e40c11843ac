use Rattle.std.proofs.Common.{refl, codes}
use Rattle.script.proofs.Names.{no_name}
use Rattle.script.proofs.call_text.verb_of.Goals as goal

pub returns-in_default : goal.returns-in_default
returns-in_default c =
    let w = c.args.word.now in
    let none = c.in_default.ensures.cases.0 in
    rw (
      no_name w (codes "open") refl none,
      no_name w (codes "close") refl none,
      no_name w (codes "pread") refl none,
      no_name w (codes "pwrite") refl none,
      no_name w (codes "truncate") refl none,
      no_name w (codes "mkdir") refl none,
      no_name w (codes "rmdir") refl none,
      no_name w (codes "link") refl none,
      no_name w (codes "unlink") refl none,
      no_name w (codes "rename") refl none,
      no_name w (codes "exchange") refl none,
      no_name w (codes "list") refl none,
      no_name w (codes "stat") refl none,
    ) refl
