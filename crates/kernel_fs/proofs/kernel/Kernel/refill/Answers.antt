use Rattle.std.proofs.Common.{◌≡◌, ◌∙◌, ℕ, ◌+◌, ◌<◌, ◌≤◌, ◌||◌, List, Bool, false, refl, sym, subst}
use Rattle.std.specs.Prelude.{◌↔◌, Ok, Err, IsErrOf}
use Rattle.world_invariant.specs.file_graph.Units.{charge}
use Rattle.migrator.specs.area_reader.Store.{disk, graph}
use Rattle.kernel_fs.specs.Book.{is_free, out_of, Accounts, IsBookOf}
use Rattle.kernel_fs.specs.Free.{AreLowest, count_of}
use Rattle.kernel_fs.specs.Nodes.{nodes_in}
use Rattle.kernel_fs.specs.declared.book_error.RefillError.TheVariants as book_why
use Rattle.kernel_fs.specs.KernelView.{KernelView}
use Rattle.kernel_fs.specs.declared.error.KernelError.TheVariants as why
use Rattle.kernel_fs.proofs.Refilled.{told_few, told_none}
use Rattle.kernel_fs.specs.Inodes.{has}
use Rattle.kernel_fs.proofs.BookSteps.{stepped}
use Rattle.kernel_fs.proofs.Runs.{Inside, goes_on, may_refill}
use Rattle.kernel_fs.specs.Run as entry
use Rattle.kernel_fs.proofs.kernel.Kernel.refill.Goals as goal

pub returns-clause-step : goal.returns-clause-step
returns-clause-step g c = λ m.
    stepped g.M.Media c.self.inside.area c.self.inside.book c.refill.new.self c.args.self.now c.self.view_is c.args.client m (record (m.kernel.accounts c.args.client) { units = (m.kernel.accounts c.args.client).units + c.args.units; numbers = λ i. (m.kernel.accounts c.args.client).numbers i || has c.in-Ok.numbers i }) refl (c.in-Ok.ensures.step m)

pub returns-clause-booked : goal.returns-clause-booked
returns-clause-booked g c = λ m is. c.in-Ok.ensures.step m (subst (λ (v : KernelView _). IsBookOf v.book m) (sym c.self.view_is) is)

pub returns-clause-granted : goal.returns-clause-granted
returns-clause-granted g c =
    let device = g.M.Media in
    let going : _ = sym c.has_failed.ensures ∙ c.if-has_failed.false in
    let area = c.self.inside.area in
    let same : has c.self.inside.nodes ≡ nodes_in (graph area.geometry (disk device area)) = λ t i. (c.self.invariant going).0 i t in
    subst (λ (v : KernelView _). AreLowest (is_free v.book (nodes_in (graph v.area.geometry (disk device v.area)))) (has c.in-Ok.numbers) c.args.inodes) c.self.view_is
    (subst (λ (f : ℕ → Bool). AreLowest (is_free c.self.inside.book f) (has c.in-Ok.numbers) c.args.inodes) same c.in-Ok.ensures.granted)

pub returns-in-Err-clause-no_inode : goal.returns-in-Err-clause-no_inode
returns-in-Err-clause-no_inode g c =
    let device = g.M.Media in
    let going : _ = sym c.has_failed.ensures ∙ c.if-has_failed.false in
    let area = c.self.inside.area in
    let book = c.self.inside.book in
    let same : has c.self.inside.nodes ≡ nodes_in (graph area.geometry (disk device area)) = λ t i. (c.self.invariant going).0 i t in
    subst (λ (v : KernelView _). IsErrOf {T = List ℕ} (Err (why.Refused c.in-Err.error)) (why.Refused book_why.NoInode) ↔ ((v.area.failed ≡ false) × (charge (graph v.area.geometry (disk device v.area)) + out_of v.book + c.args.units ≤ v.area.geometry.units)
    × (count_of (is_free v.book (nodes_in (graph v.area.geometry (disk device v.area)))) < c.args.inodes))) c.self.view_is
    (told_few c.in-Err.error book_why.NoInode area.failed c.charge-charge.result (charge (graph area.geometry (disk device area))) (out_of book) c.args.units c.capacity_of-capacity.result area.geometry.units
    (count_of (is_free book (nodes_in (graph area.geometry (disk device area)))) < c.args.inodes) going (c.charge-charge.ensures going) c.capacity_of-capacity.ensures
    (subst (λ (f : ℕ → Bool). IsErrOf {T = List ℕ} (Err c.in-Err.error) book_why.NoInode ↔ ((c.charge-charge.result + out_of book + c.args.units ≤ c.capacity_of-capacity.result) × (count_of (is_free book f) < c.args.inodes))) same c.in-Err.ensures.no_inode))

pub returns-clause-no_inode : goal.returns-clause-no_inode
returns-clause-no_inode g c =
    let device = g.M.Media in
    let going : _ = sym c.has_failed.ensures ∙ c.if-has_failed.false in
    let area = c.self.inside.area in
    let book = c.self.inside.book in
    let same : has c.self.inside.nodes ≡ nodes_in (graph area.geometry (disk device area)) = λ t i. (c.self.invariant going).0 i t in
    subst (λ (v : KernelView _). IsErrOf {T = List ℕ} (Ok c.in-Ok.numbers) (why.Refused book_why.NoInode) ↔ ((v.area.failed ≡ false) × (charge (graph v.area.geometry (disk device v.area)) + out_of v.book + c.args.units ≤ v.area.geometry.units)
    × (count_of (is_free v.book (nodes_in (graph v.area.geometry (disk device v.area)))) < c.args.inodes))) c.self.view_is
    (told_none c.in-Ok.numbers book_why.NoInode area.failed c.charge-charge.result (charge (graph area.geometry (disk device area))) (out_of book) c.args.units c.capacity_of-capacity.result area.geometry.units
    (count_of (is_free book (nodes_in (graph area.geometry (disk device area)))) < c.args.inodes) going (c.charge-charge.ensures going) c.capacity_of-capacity.ensures
    (subst (λ (f : ℕ → Bool). IsErrOf {T = List ℕ} (Ok c.in-Ok.numbers) book_why.NoInode ↔ ((c.charge-charge.result + out_of book + c.args.units ≤ c.capacity_of-capacity.result) × (count_of (is_free book f) < c.args.inodes))) same c.in-Ok.ensures.no_inode))

pub invariant_of-self : goal.invariant_of-self
invariant_of-self g c = λ still.
    let going : _ = sym c.has_failed.ensures ∙ c.if-has_failed.false in
    let inside = c.self.invariant going in
    subst (λ (b : Accounts). Inside g.M.Media c.self.inside.began (has c.self.inside.nodes) b c.self.inside.area) (sym c.in-Err.ensures.refused) inside

pub invariant_of-self-2 : goal.invariant_of-self-2
invariant_of-self-2 g c = λ still.
    let going : _ = sym c.has_failed.ensures ∙ c.if-has_failed.false in
    let inside = c.self.invariant going in
    let device = g.M.Media in
    let area = c.self.inside.area in
    let book = c.self.inside.book in (
      inside.0,
      goes_on device c.self.inside.began area area book c.refill.new.self (λ r. entry.Refill c.args.client c.args.units (has c.in-Ok.numbers)) (λ r is named. let m = r.machine in (
        may_refill device area book m is c.args.client c.args.units c.args.inodes c.charge-charge.result c.capacity_of-capacity.result (out_of c.refill.new.self) (has c.self.inside.nodes) (has c.in-Ok.numbers) c.requires.client inside.0
            (c.charge-charge.ensures going) c.capacity_of-capacity.ensures c.in-Ok.ensures.out c.in-Ok.ensures.law c.in-Ok.ensures.granted,
        stepped device area book c.refill.new.self (record { area = c.self.inside.area; book = c.self.inside.book; opening = c.self.inside.began }) refl c.args.client m
            (record (m.kernel.accounts c.args.client) { units = (m.kernel.accounts c.args.client).units + c.args.units; numbers = λ i. (m.kernel.accounts c.args.client).numbers i || has c.in-Ok.numbers i }) refl (c.in-Ok.ensures.step m) is,
        named,
      )) inside.1,
    )
