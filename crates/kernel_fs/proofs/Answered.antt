-- The kernel answers what its area answered.
use Rattle.std.proofs.Common.{◌≡◌, false, refl, ◌∙◌, sym, subst}
use Rattle.std.specs.Prelude.{Result}
use Rattle.std.proofs.lemmas.Bool.{true≢false}
use Rattle.migrator.specs.batch_journal.View.{JournalView}
use Rattle.kernel_fs.specs.Book.{Accounts}
use Rattle.kernel_fs.specs.KernelAnswers.{Answers, kernel_answer}
use Rattle.kernel_fs.specs.KernelView.{KernelView}

pub answered : {M T E : Type 0} {opening : JournalView M} (IsAnswer : JournalView M → JournalView M → Result T E → Type 0) (area next : JournalView M) (book new : Accounts) (old : KernelView M) → record { area = area; book = book; opening = opening } ≡ old → (r : Result T E) → area.failed ≡ false → IsAnswer area next r
    → Answers old.area.failed old (record { area = next; book = new; opening = opening }) (kernel_answer r) (IsAnswer old.area next)
answered {M = M} {opening = opening} IsAnswer area next book new old same r going is =
    subst (λ (v : KernelView M). Answers v.area.failed v (record { area = next; book = new; opening = opening }) (kernel_answer r) (IsAnswer v.area next)) same
    (record { failed = λ was. absurd (true≢false (sym was ∙ going)); going = λ _. (r, refl, is) })
