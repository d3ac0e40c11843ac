use Rattle.clap.specs.Words.{found_of}
use Rattle.command_line.proofs.OptionReads.{number_read, number_refused}
use Rattle.command_line.proofs.option_matches.OptionMatches.number64.Goals as goal

pub returns-in-Ok-clause-read : goal.returns-in-Ok-clause-read
returns-in-Ok-clause-read c = (number_read 64 (found_of c.args.self.now.matches) c.args.name.now c.in-Ok.number c.in-Ok.ensures.none c.in-Ok.ensures.value).0

pub returns-in-Ok-clause-written : goal.returns-in-Ok-clause-written
returns-in-Ok-clause-written c = (number_read 64 (found_of c.args.self.now.matches) c.args.name.now c.in-Ok.number c.in-Ok.ensures.none c.in-Ok.ensures.value).1

pub returns-in-Err-clause-refused : goal.returns-in-Err-clause-refused
returns-in-Err-clause-refused c = (tt, number_refused 64 (found_of c.args.self.now.matches) c.args.name.now c.in-Err.field-0 c.in-Err.ensures.none c.in-Err.ensures.value)
