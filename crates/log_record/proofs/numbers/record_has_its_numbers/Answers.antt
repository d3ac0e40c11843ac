use Rattle.std.proofs.Common.{refl}
use Rattle.log_record.specs.Grammar.{u32, u64}
use Rattle.log_record.proofs.numbers.record_has_its_numbers.Goals as goal

pub returns-clause-make_a_file : goal.returns-clause-make_a_file
unfolding u32 u64
returns-clause-make_a_file c = refl

pub returns-clause-make_a_directory : goal.returns-clause-make_a_directory
unfolding u32 u64
returns-clause-make_a_directory c = refl

pub returns-clause-enter : goal.returns-clause-enter
unfolding u32 u64
returns-clause-enter c = refl

pub returns-clause-leave : goal.returns-clause-leave
unfolding u32 u64
returns-clause-leave c = refl

pub returns-clause-names : goal.returns-clause-names
unfolding u32 u64
returns-clause-names c = refl

pub returns-clause-size : goal.returns-clause-size
unfolding u32 u64
returns-clause-size c = refl

pub returns-clause-bytes : goal.returns-clause-bytes
unfolding u32 u64
returns-clause-bytes c = refl

pub returns-clause-drop : goal.returns-clause-drop
unfolding u32 u64
returns-clause-drop c = refl

pub returns-clause-swap : goal.returns-clause-swap
unfolding u32 u64
returns-clause-swap c = refl

pub returns-clause-record_of_a_swap : goal.returns-clause-record_of_a_swap
unfolding u32 u64
returns-clause-record_of_a_swap c = refl

pub returns-clause-record_of_two : goal.returns-clause-record_of_two
unfolding u32 u64
returns-clause-record_of_two c = refl
