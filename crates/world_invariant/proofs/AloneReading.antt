-- A small world in which a call that has begun its record reads, and changes nothing.
use Rattle.std.proofs.Common.{◌≡◌, ◌≢◌, ℕ, ◌≤◌, List, [], ◌∷◌, refl, Some, None, Option, Ok, ap, sym, ◌∙◌, subst, arith}
use Rattle.std.proofs.lemmas.Bool.{false≢true}
use Rattle.posix_calls.specs.Tree.{sum_up_to}
use Rattle.posix_calls.specs.Query.{Query, Range}
use Rattle.posix_calls.specs.Part.{Part, Found, Known, Unknown, blocks_missing, run_part}
use Rattle.posix_calls.specs.declared.operation.Missing.{Missing}
use Rattle.posix_calls.specs.Decide.{pread}
use Rattle.posix_calls.specs.Kinds.{opens}
use Rattle.posix_calls.proofs.Chain.{part_bind, part_gives, part_refuses}
use Rattle.posix_calls.proofs.Sums.{all_zero}
use Rattle.call_effects.specs.file_graph.Graph.{Graph}
use Rattle.call_effects.specs.file_graph.Units.{growth}
use Rattle.call_effects.specs.Knowledge.{IsPlanned, Knowledge, part_of}
use Rattle.world_invariant.specs.World.{Begun, Client}
use Rattle.world_invariant.specs.Invariant.{IsCoherent}
use Rattle.world_invariant.specs.LeaseSteps.{CanRead, CanForgetBlocks, blocks_forgotten}
use Rattle.world_invariant.specs.PairWalk.{written_world}
use Rattle.world_invariant.specs.BrokenWorlds.{read_ready, begun_read, begun_reading}
use Rattle.world_invariant.specs.Parts.{ClientPart, UnwipedIsIdle, RecordsPaid, RecordsNameNone, RecordsKeepLimits, UnitsBooked, BegunPlanned, BegunHasEffects, BegunPinned, SettledIdle, HoldsOf, Each, HoldsOfWorld, BreaksAlone}
use Rattle.world_invariant.proofs.Alone.{less_others, same_less}
use Rattle.world_invariant.proofs.Fetches.{blocks_fetched_hold}
use Rattle.world_invariant.proofs.Idle.{none_some}
use Rattle.world_invariant.proofs.Parts.{client_parts}
use Rattle.world_invariant.proofs.PairWalks.{written_holds}
use Rattle.world_invariant.proofs.Walks.{part_is_dir, part_look}

abbrev given : {A X : Type 0} → Missing → Option X → (X → Found A) → Found A
given what None f = Unknown what
given what (Some x) f = f x

part_range : {A : Type 0} (p : Part) (i at count : ℕ) (next : List ℕ → Query A) → run_part p (Range i at count next) ≡ given (blocks_missing i at count) (p.bytes i at count) (λ bytes. run_part p (next bytes))
unfolding run_part
part_range {A = A} p i at count next = elim (p.bytes i at count) as (λ o. ◌≡◌ {A = Found A} (elim o [ None ↦ Unknown (blocks_missing i at count) | Some a ↦ run_part p (next a) ]) (given (blocks_missing i at count) o (λ o. run_part p (next o)))) [ None ↦ refl | Some a ↦ refl ]

ruleset parts = (part_bind, part_gives, part_refuses, part_is_dir, part_look, part_range)

-- ---- a file of one byte, and the block that has it

can_read : CanRead written_world 1 2 1 (7 ∷ [])
can_read = record { client = refl; leased = refl; file = refl }

ready_holds : IsCoherent read_ready
ready_holds = blocks_fetched_hold written_world 1 2 0 1 1 (7 ∷ []) written_holds can_read

ready_parts : (q : ClientPart) → HoldsOf q read_ready.kernel.shared (read_ready.kernel.accounts 1) 1 (read_ready.clients 1)
ready_parts q = client_parts read_ready.kernel.shared (read_ready.kernel.accounts 1) 1 (read_ready.clients 1) (ready_holds.stands 1 refl) q

-- ---- its byte is read

abbrev reader : Client
reader = record (read_ready.clients 1) { begun = Some begun_read }

read_comes : run_part (part_of (read_ready.clients 1).knows) (pread (read_ready.clients 1).knows.own 0 0 1) ≡ Known (Ok begun_read.operation)
unfolding pread
read_comes = simp parts refl

read_planned : IsPlanned (read_ready.clients 1).knows begun_read.call 0 begun_read.operation []
read_planned = record { comes = read_comes; effects = simp parts refl; number = λ m. absurd (false≢true m) }

is_reading : (b : Begun) → Some begun_read ≡ Some b → begun_read ≡ b
is_reading b e = cc

grows_none : (g : Graph) → growth g [] ≤ 0
unfolding growth
grows_none g = let nothing : sum_up_to 1024 (λ i. 0) ≡ 0 = all_zero 1024 (λ i. 0) (λ i. refl) in omega (arith, nothing)

reader_own : (q : ClientPart) → Each q ≢ Each BegunHasEffects → HoldsOf q read_ready.kernel.shared (read_ready.kernel.accounts 1) 1 reader
reader_own BegunHasEffects off = absurd (off refl)
reader_own UnwipedIsIdle off = λ e. absurd (false≢true (sym e))
reader_own RecordsPaid off = ((ready_parts RecordsPaid).0, (grows_none _, tt))
reader_own RecordsNameNone off = ((ready_parts RecordsNameNone).0, (λ i was. was, tt))
reader_own RecordsKeepLimits off = ((ready_parts RecordsKeepLimits).0, (λ i was. was, tt))
reader_own UnitsBooked off = omega arith
reader_own BegunPlanned off = λ b e. subst (λ (b : Begun). IsPlanned (read_ready.clients 1).knows b.call b.new b.operation b.change.effects) (is_reading b e) read_planned
reader_own BegunPinned off = λ b e other what is. none_some what (ap (λ (b : Begun). opens b.new b.operation) (is_reading b e) ∙ is)
reader_own SettledIdle off = λ e. absurd (false≢true e)
reader_own q off = ready_parts q

pub reading_alone : BreaksAlone (Each BegunHasEffects) begun_reading
reading_alone = record {
  broken = λ is. is 1 refl begun_read refl refl;
  others = less_others (Each BegunHasEffects) read_ready 1 (read_ready.kernel.accounts 1) reader ready_holds refl (same_less read_ready 1 reader refl refl refl refl) reader_own (λ off. ready_holds.agrees 1 refl);
}

-- ---- and its client forgets the block

pub reading_forgets : CanForgetBlocks begun_reading 1 (λ i b. None)
reading_forgets = record { client = refl; known = λ i b bytes e. none_some bytes e }

abbrev forgotten : Knowledge
forgotten = ((blocks_forgotten begun_reading 1 (λ i b. None)).clients 1).knows

read_unknown : run_part (part_of forgotten) (pread forgotten.own 0 0 1) ≡ Unknown (blocks_missing 2 0 1)
unfolding pread
read_unknown = simp parts refl

pub reading_lost : HoldsOfWorld (Each BegunPlanned) (blocks_forgotten begun_reading 1 (λ i b. None)) → ⊥
reading_lost is = absurd (let clash : Unknown (blocks_missing 2 0 1) ≡ Known (Ok begun_read.operation) = sym read_unknown ∙ (is 1 refl begun_read refl).comes in cc)
