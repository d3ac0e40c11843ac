use Rattle.std.proofs.Common.{◌≡◌, ◌-◌, ◌≤◌, ℕ, zero, suc, List, [], false, refl, arith, ap, sym, ◌∙◌, Option, get_or, length, ltb}
use Rattle.std.proofs.lemmas.Bool.Decides.{nat_tests}
use Rattle.std.proofs.lemmas.List.{get_or_past}
use Rattle.posix_calls.specs.Tree.{any_up_to, refers_to}
use Rattle.posix_calls.specs.Own.{own_of}
use Rattle.posix_calls.specs.declared.descriptor.Descriptor.{Descriptor}
use Rattle.posix_calls.specs.declared.limits.TheConstants.{MAX_DESCRIPTORS}
use Rattle.plain_tree.proofs.nodes.is_open_by.Goals as goal

past_end : (i n : ℕ) → ltb i n ≡ false → n ≤ i
past_end i n e = grind (arith, nat_tests)

nothing_open : (n i : ℕ) → any_up_to n (λ n. refers_to i (own_of [] (n - 1))) ≡ false
unfolding any_up_to
nothing_open zero i = refl
nothing_open (suc n) i = nothing_open n i

pub returns-in-None : goal.returns-in-None
returns-in-None c =
    let past : get_or c.args.rows.now c.args.row [] ≡ [] = get_or_past c.args.rows.now c.args.row [] (past_end c.args.row (length c.args.rows.now) (sym c.in-None.ensures.lookup.0)) in
    sym (ap (λ (own : List (Option Descriptor)). any_up_to MAX_DESCRIPTORS (λ n. refers_to c.args.inode (own_of own (n - 1)))) past ∙ nothing_open MAX_DESCRIPTORS c.args.inode)
