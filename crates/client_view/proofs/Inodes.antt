-- What effects that keep the limits touch is an inode.
use Rattle.std.proofs.Common.{◌≡◌, ℕ, true, ap, ◌∙◌, arith}
use Rattle.std.proofs.lemmas.Bool.Decides.{nat_tests}
use Rattle.client_plan.specs.file_graph.Numbers.{is_inode}
use Rattle.client_plan.specs.file_graph.Subject.{subject}
use Rattle.client_plan.specs.file_graph.declared.effect.Effect.{Effect}
use Rattle.client_plan.specs.file_graph.declared.effect.Effect.TheVariants as effect
use Rattle.client_plan.specs.log_record.Grammar.{FitsLimits, IsInode}

pub inode_is : (i : ℕ) → IsInode i → is_inode i ≡ true
inode_is i is = let low = is.0 in let high = is.1 in grind (arith, nat_tests, low, high)

subject_is : (e : Effect) → FitsLimits e → is_inode (subject e) ≡ true
subject_is (effect.Make i k) fits = inode_is i fits
subject_is (effect.Enter d i k name) fits = inode_is d fits.0
subject_is (effect.Leave d name) fits = inode_is d fits.0
subject_is (effect.Names i n) fits = inode_is i fits.0
subject_is (effect.Size i size) fits = inode_is i fits.0
subject_is (effect.Bytes i at new) fits = inode_is i fits.0
subject_is (effect.Drop i) fits = inode_is i fits
subject_is (effect.Swap d a e b) fits = inode_is d fits.0

pub inode_touched : (e : Effect) (i : ℕ) → i ≡ subject e → FitsLimits e → is_inode i ≡ true
inode_touched e i is fits = ap is_inode is ∙ subject_is e fits
