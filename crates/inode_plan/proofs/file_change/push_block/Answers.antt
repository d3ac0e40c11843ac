use Rattle.std.proofs.Common.{◌≡◌, ◌-◌, ℕ, List, inl, length, drop}
use Rattle.std.proofs.lemmas.Result.{on_ok_weaker, IfErr-weaker}
use Rattle.inode_plan.proofs.Adding.{zeros_begin, stands_behind, is_long}
use Rattle.inode_plan.proofs.file_change.push_block.Goals as goal

pub returns-clause-added : goal.returns-clause-added
returns-clause-added g c =
    let old : List ℕ = c.args.out.now.items in
    let zeros : List ℕ = c.add_zeros.new.out.items in
    let new : List ℕ = c.change_last.new.out.items in
    let at : ℕ = length zeros - 4096 in
    let here : at ≡ length old = zeros_begin 4096 old zeros c.in_ok-add_zeros.ensures.longer in
    on_ok_weaker c.change_last.result
    (λ made. (
      drop at new,
      stands_behind at 4096 old zeros new here c.in_ok-add_zeros.ensures.longer c.change_last.ensures.front,
      is_long at 4096 old zeros new here c.in_ok-add_zeros.ensures.longer c.change_last.ensures.front c.change_last.ensures.long,
      made,
    )) c.change_last.ensures.made

pub returns-clause-refused : goal.returns-clause-refused
returns-clause-refused g c =
    let old : List ℕ = c.args.out.now.items in
    let zeros : List ℕ = c.add_zeros.new.out.items in
    let new : List ℕ = c.change_last.new.out.items in
    let at : ℕ = length zeros - 4096 in
    let here : at ≡ length old = zeros_begin 4096 old zeros c.in_ok-add_zeros.ensures.longer in
    IfErr-weaker c.change_last.result _ _ (λ e is. (drop at new, stands_behind at 4096 old zeros new here c.in_ok-add_zeros.ensures.longer c.change_last.ensures.front)) c.change_last.ensures.only

pub returns-clause-only : goal.returns-clause-only
returns-clause-only g c = IfErr-weaker c.change_last.result _ _ (λ e is. inl is) c.change_last.ensures.only
