use Rattle.std.proofs.Common.{rules, refl, codes}
use Rattle.std.proofs.lemmas.Slice.Eq.{text_from_reads}
use Rattle.script.proofs.FillLaws.{all_fills-none}
use Rattle.script.proofs.system_line.single_of.Goals as goal

pub returns-in-halt : goal.returns-in-halt
returns-in-halt c = rw (text_from_reads c.args.word.now (codes "halt") (search rules) (search rules), all_fills-none) refl

pub returns-in-recover : goal.returns-in-recover
returns-in-recover c = rw (text_from_reads c.args.word.now (codes "recover") (search rules) (search rules)) refl
