use Rattle.std.proofs.Common.{◌≡◌, List, ℕ, length, drop, true, false, refl, sym, subst}
use Rattle.batch_journal.specs.layout.Bytes.{are_zero}
use Rattle.batch_journal.specs.layout.declared.error.What.TheVariants as what
use Rattle.batch_journal.proofs.Courses.{on_ok, if_err}
use Rattle.area_reader.specs.declared.error.AreaError.{AreaError}
use Rattle.area_reader.specs.Damage.{OnDamage}
use Rattle.area_reader.specs.Store.{disk}
use Rattle.area_reader.proofs.tail.read_tail.Goals as goal

pub returns-clause-zero : goal.returns-clause-zero
returns-clause-zero g c = on_ok c.tail_of.result (λ is. subst (λ (b : List ℕ). are_zero (drop c.args.from b) ≡ true) c.in_ok-read_block.ensures.bytes is) c.tail_of.ensures.zero

pub returns-clause-damaged : goal.returns-clause-damaged
returns-clause-damaged g c =
    let block : List ℕ = disk g.M.Media c.args.journal.now c.args.tier c.args.at in
    if_err c.tail_of.result (λ e is. subst (λ (e : AreaError). OnDamage e (λ w b. (w ≡ what.FileData) × (b ≡ c.args.at) × (length block ≡ 4096) × (are_zero (drop c.args.from block) ≡ false))) (sym is.0)
    (refl, refl, subst (λ (b : List ℕ). length b ≡ 4096) c.in_ok-read_block.ensures.bytes is.1, subst (λ (b : List ℕ). are_zero (drop c.args.from b) ≡ false) c.in_ok-read_block.ensures.bytes is.2)) c.tail_of.ensures.damaged
