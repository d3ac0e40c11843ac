-- Which machine the kernel stands for.
use Rattle.std.specs.Prelude.{◌≡◌, ℕ, true, Option, Some, None}
use Rattle.tier_device.specs.declared.media.Media.{Ghosts}
use Rattle.posix_calls.specs.Operations.{is_client}
use Rattle.migrator.specs.layout.declared.marks.Mark.{Mark}
use Rattle.migrator.specs.layout.declared.marks.Marks.{Marks}
use Rattle.migrator.specs.area_reader.Store.{Store, disk, graph, marks}
use Rattle.digester.specs.MarkMoves.{mark_of}
use Rattle.world_invariant.specs.Machine.{Machine}
use Rattle.migrator.specs.batch_journal.View.{JournalView}
use Rattle.kernel_fs.specs.Book.{Accounts, IsBookOf}
use Rattle.kernel_fs.specs.Marks.{AreMarksOf}
use Rattle.kernel_fs.specs.KernelView.{KernelView}

-- how many records of its generation a client's mark tells as digested
abbrev pub done_in : Marks → ℕ → ℕ
done_in v c = (mark_of v c).done

-- which generation the mark of a client names, where marks are spelled; else 0
abbrev pub generation_of : Option Marks → ℕ → ℕ
generation_of None c = 0
generation_of (Some v) c = (mark_of v c).generation

-- which one it names in a store
abbrev pub generation_in : Store → ℕ → ℕ
generation_in s c = generation_of (marks s) c

-- The marks of a store name these generations.
abbrev pub HasGenerations : Store → (ℕ → ℕ) → Type 0
HasGenerations s generations = (c : ℕ) → is_client c ≡ true → generations c ≡ generation_in s c

-- It is the mark of a client that a store spells.
abbrev pub IsMarkIn : Store → ℕ → Mark → Type 0
IsMarkIn s c k = (v : Marks) × (marks s ≡ Some v) × (k ≡ mark_of v c)

-- The marks of a store are those of a machine.
abbrev pub HasMarksOf : Store → Machine → Type 0
HasMarksOf s m = (v : Marks) × (marks s ≡ Some v) × AreMarksOf (done_in v) m

-- Shared media and a book stand for a machine: the media spell the machine's graph and its marks, its capacity is that of the media, and the book has the machine's accounts.
pub record StandFor {M : Type 0} (device : Ghosts M) (area : JournalView M) (accounts : Accounts) (m : Machine) : Type 0 where
  pub shared : m.kernel.shared ≡ graph area.geometry (disk device area)
  pub capacity : m.kernel.capacity ≡ area.geometry.units
  pub book : IsBookOf accounts m
  pub marks : HasMarksOf (disk device area) m

-- A kernel stands for a machine where its media and its book do.
abbrev pub IsKernelOf : {M : Type 0} → Ghosts M → KernelView M → Machine → Type 0
IsKernelOf device k m = StandFor device k.area k.book m

-- Each client's mark stands before a region: none of its records is digested.
abbrev pub StandBeforeRegions : Store → Type 0
StandBeforeRegions s = (v : Marks) → marks s ≡ Some v → (c : ℕ) → is_client c ≡ true → done_in v c ≡ 0
