use Rattle.posix_calls.proofs.Chain.{gives}
use Rattle.call_effects.proofs.growth.growth_in_full.Goals as goal

pub returns-in-NewDir-clause-answer : goal.returns-in-NewDir-clause-answer
returns-in-NewDir-clause-answer g c = rw c.in-NewDir.is (rw c.directory_units.ensures.units at c.new_rise.ensures.answer)

pub returns-in-NewFile-clause-answer : goal.returns-in-NewFile-clause-answer
returns-in-NewFile-clause-answer g c = rw c.in-NewFile.is (rw c.file_units.ensures.units at c.new_rise-in-NewFile.ensures.answer)

pub returns-in-Write-clause-answer : goal.returns-in-Write-clause-answer
returns-in-Write-clause-answer g c = rw c.in-Write.is (rw c.len.ensures at c.write_rise.ensures.answer)

pub returns-in-Resize-clause-answer : goal.returns-in-Resize-clause-answer
returns-in-Resize-clause-answer g c = rw c.in-Resize.is c.resize_rise.ensures.answer

pub returns-in-Tell-clause-answer : goal.returns-in-Tell-clause-answer
returns-in-Tell-clause-answer g c = rw c.in-Tell.is gives

pub returns-in-OpenFile-clause-answer : goal.returns-in-OpenFile-clause-answer
returns-in-OpenFile-clause-answer g c = rw c.in-OpenFile.is gives

pub returns-in-CloseFile-clause-answer : goal.returns-in-CloseFile-clause-answer
returns-in-CloseFile-clause-answer g c = rw c.in-CloseFile.is gives

pub returns-in-RemoveDir-clause-answer : goal.returns-in-RemoveDir-clause-answer
returns-in-RemoveDir-clause-answer g c = rw c.in-RemoveDir.is gives

pub returns-in-DropName-clause-answer : goal.returns-in-DropName-clause-answer
returns-in-DropName-clause-answer g c = rw c.in-DropName.is gives

pub returns-in-Exchange-clause-answer : goal.returns-in-Exchange-clause-answer
returns-in-Exchange-clause-answer g c = rw c.in-Exchange.is gives
