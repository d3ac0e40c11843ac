use Rattle.std.proofs.Common.{◌∙◌, arith, sym, ap, subst}
use Rattle.block_alloc.specs.Runs.{blocks_of, run_blocks, PutIn, Seamed}
use Rattle.block_alloc.proofs.Joins.{inserted_blocks, inserted_seam}
use Rattle.block_alloc.proofs.runs.insert_run.Goals as goal

pub join_next-requires : goal.join_next-requires
join_next-requires c =
    subst (Seamed 0 4294967295 c.args.place) (sym c.in_ok-insert.ensures.items)
    (inserted_seam 0 4294967295 c.args.runs.now.items c.args.place c.args.run (omega (arith, c.requires.within)) c.requires.some (omega arith) (omega (arith, c.requires.fits)) c.requires.normal c.requires.before c.requires.apart (λ d below. c.requires.after d (omega (arith, below))))

pub returns-clause-blocks : goal.returns-clause-blocks
returns-clause-blocks c =
    subst (PutIn (blocks_of c.args.runs.now.items) (run_blocks c.args.run)) (sym (c.join_next.ensures.blocks ∙ ap blocks_of c.in_ok-insert.ensures.items)) (inserted_blocks c.args.runs.now.items c.args.place c.args.run)

pub returns-clause-normal : goal.returns-clause-normal
returns-clause-normal c low end normal above fits =
    c.join_next.ensures.normal low end (subst (Seamed low end c.args.place) (sym c.in_ok-insert.ensures.items)
    (inserted_seam low end c.args.runs.now.items c.args.place c.args.run (omega (arith, c.requires.within)) c.requires.some above fits normal c.requires.before c.requires.apart (λ d below. c.requires.after d (omega (arith, below)))))
