use Rattle.std.proofs.Common.{arith}
use Rattle.log_survey.proofs.GenerationLemmas.{first_is_free, first_is_second, free_unnamed, free_counts_none, free_stale, near_free}
use Rattle.log_survey.proofs.next_generation.next_free_generation.Goals as goal

pub returns-clause-no_name : goal.returns-clause-no_name
returns-clause-no_name c =
    free_unnamed c.args.names c.first_free.result (omega arith) (first_is_free c.args.names c.args.generation c.first_free.result c.first_free.ensures.first)

pub returns-clause-counts_nothing : goal.returns-clause-counts_nothing
returns-clause-counts_nothing c = λ regions named.
    free_counts_none regions c.args.names c.first_free.result (omega arith) (first_is_free c.args.names c.args.generation c.first_free.result c.first_free.ensures.first) named

pub returns-clause-stale : goal.returns-clause-stale
returns-clause-stale c = λ regions named.
    free_stale regions c.args.names c.first_free.result (omega arith) (first_is_free c.args.names c.args.generation c.first_free.result c.first_free.ensures.first) named

pub returns-clause-second : goal.returns-clause-second
returns-clause-second c = λ near.
    first_is_second c.args.names c.args.generation c.first_free.result c.first_free.ensures.first (near_free c.args.names c.args.generation (omega arith) near)
