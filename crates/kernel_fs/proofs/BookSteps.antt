-- The book changes, and the media stay.
use Rattle.std.proofs.Common.{◌≡◌, ℕ, ◌≤◌, refl, sym, ◌∙◌, subst}
use Rattle.tier_device.specs.declared.media.Media.{Ghosts}
use Rattle.migrator.specs.batch_journal.View.{JournalView}
use Rattle.world_invariant.specs.World.{Account, at}
use Rattle.world_invariant.specs.Machine.{Machine, with_account}
use Rattle.world_invariant.proofs.Kernels.{each}
use Rattle.kernel_fs.specs.Book.{Accounts, IsBookOf}
use Rattle.kernel_fs.specs.Marks.{AreMarksOf}
use Rattle.kernel_fs.specs.KernelView.{KernelView}
use Rattle.kernel_fs.specs.MachineState.{IsKernelOf, done_in, StandFor}

-- an account with the same mark changes no mark
pub same_mark : (accounts : ℕ → Account) (c : ℕ) (a : Account) → a.mark ≡ (accounts c).mark → (d : ℕ) → (at accounts c a d).mark ≡ (accounts d).mark
same_mark accounts c a own = each accounts c a (λ d (x : Account). x.mark ≡ (accounts d).mark) own (λ d other. refl)

-- so do those of the media
pub marks_stay : (done : ℕ → ℕ) (m n : Machine) → ((c : ℕ) → (n.kernel.accounts c).mark ≡ (m.kernel.accounts c).mark) → ((c : ℕ) → n.accepted c ≡ m.accepted c) → AreMarksOf done m → AreMarksOf done n
marks_stay done m n marks accepted are c is_c = record {
  counted = subst (λ k. done c ≤ k) (sym (marks c)) (are c is_c).counted;
  between = λ e. (are c is_c).between (sym (accepted c) ∙ e ∙ marks c);
}

module _ {M : Type 0} (device : Ghosts M) (area : JournalView M) (book next : Accounts) (m n : Machine) (is : StandFor device area book m) where
  pub booked : n.kernel.shared ≡ m.kernel.shared → n.kernel.capacity ≡ m.kernel.capacity → ((c : ℕ) → (n.kernel.accounts c).mark ≡ (m.kernel.accounts c).mark) → ((c : ℕ) → n.accepted c ≡ m.accepted c) → IsBookOf next n
      → StandFor device area next n
  booked shared capacity marks accepted next_is = record {
    shared = shared ∙ is.shared;
    capacity = capacity ∙ is.capacity;
    book = next_is;
    marks = (is.marks.0, is.marks.1, marks_stay (done_in is.marks.0) m n marks accepted is.marks.2);
  }

-- where the machine gets another account with the same mark
module _ {M : Type 0} {opening : JournalView M} (device : Ghosts M) (area : JournalView M) (book next : Accounts) (old : KernelView M) (same : record { area = area; book = book; opening = opening } ≡ old) (c : ℕ) where
  pub stepped : (m : Machine) (a : Account) → a.mark ≡ (m.kernel.accounts c).mark → (IsBookOf book m → IsBookOf next (with_account m c a)) → IsKernelOf device old m → StandFor device area next (with_account m c a)
  stepped m a mark step is =
      let own : StandFor device area book m = subst (λ (v : KernelView M). IsKernelOf device v m) (sym same) is in
      booked device area book next m (with_account m c a) own refl refl (same_mark m.kernel.accounts c a mark) (λ d. refl) (step own.book)
