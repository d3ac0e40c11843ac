-- Numbers that a client is granted, and gives back.
use Rattle.std.proofs.Common.{◌≡◌, ◌≢◌, inl, inr, ℕ, zero, suc, ◌+◌, ◌<◌, ◌≤◌, Bool, true, false, cond, List, [], ◌∷◌, ◌++◌, length, get_or, take, refl, ap, sym, ◌∙◌, arith}
use Rattle.std.specs.Prelude.{◌==◌, ◌||◌, ◌&&◌, min, if◌then◌else◌}
use Rattle.std.proofs.lemmas.Bool.Decides.{eqb_tells}
use Rattle.std.proofs.lemmas.List.Folds.{list_any-append, list_any_more}
use Rattle.std.proofs.lemmas.List.{take_all}
use Rattle.lease_manager.specs.file_graph.Graph.{is_among}
use Rattle.posix_calls.specs.Tree.{sum_up_to}
use Rattle.kernel_fs.specs.Inodes.{IsInode, is_inode, has}
use Rattle.kernel_fs.proofs.Choosing.{count_more}
use Rattle.kernel_fs.proofs.Rows.{has_none, inode_tells}
use Rattle.client_view.specs.KnowledgeTables.{Held, knows}
use Rattle.tier_device.specs.declared.media.Media.{Ghosts}
use Rattle.lease_manager.specs.Passes.{client_of}
use Rattle.client_log.specs.world_invariant.LeaseSteps.{without}
use Rattle.client_log.specs.world_invariant.Machine.{Machine}
use Rattle.kernel_fs.specs.Book.{is_free, out_of, units_of}
use Rattle.kernel_fs.specs.Free.{AreLowest, count_of}
use Rattle.kernel_fs.specs.Nodes.{nodes_in}
use Rattle.kernel_fs.specs.Steps.{grant, take_back}
use Rattle.kernel_fs.specs.KernelView.{KernelView}
use Rattle.kernel_fs.specs.MachineState.{IsKernelOf}
use Rattle.libfs.specs.ClientHoldings.{known_to}
use Rattle.libfs.specs.NeedService.{HasGivenBack, HasRefilled, inodes_granted, shared_by, with_numbers}
use Rattle.libfs.specs.View.{ClientView}

or_nothing : (b : Bool) → (b || false) ≡ b
or_nothing true = refl
or_nothing false = refl

and_nothing : (b : Bool) → (b && false) ≡ false
and_nothing true = refl
and_nothing false = refl

same_test : (i n : ℕ) → (i == n) ≡ (n == i)
same_test i n = elim (eqb_tells n i) [
  | inl same ↦ elim (eqb_tells i n) [
    | inl also' ↦ also'.0 ∙ sym same.0
    | inr off ↦ absurd (off.1 (sym same.1))
  ]
  | inr off ↦ elim (eqb_tells i n) [
    | inl same ↦ absurd (off.1 (sym same.1))
    | inr off' ↦ off'.0 ∙ sym off.0
  ]
]

-- ---- those of a set, one after the other

put_behind : (xs : List ℕ) (n i : ℕ) → is_among i (xs ++ n ∷ []) ≡ (is_among i xs || (n == i))
put_behind xs n i = list_any-append (λ j. j == i) xs (n ∷ []) ∙ ap (λ t. is_among i xs || t) (or_nothing (n == i))

stays_in : (o h : Bool) → ((o || true) || h) ≡ (o || true)
stays_in true h = refl
stays_in false h = refl

-- one goes from those that are left to behind the others
pub next_one : (left next xs : List ℕ) (n i : ℕ) (all : Bool) → has left n ≡ true → has next i ≡ without (has left) n i → (is_among i xs || has left i) ≡ all → (is_among i (xs ++ n ∷ []) || has next i) ≡ all
next_one left next xs n i all here gone so_far = ap (λ t. t || has next i) (put_behind xs n i) ∙ elim (eqb_tells n i) [
  | inl same ↦
      ap (λ t. (is_among i xs || t) || has next i) same.0
      ∙ stays_in (is_among i xs) (has next i)
      ∙ ap (λ t. is_among i xs || t) (sym (ap (has left) (sym same.1) ∙ here))
      ∙ so_far
  | inr off ↦
      ap (λ t. (is_among i xs || t) || has next i) off.0
      ∙ ap (λ t. t || has next i) (or_nothing (is_among i xs))
      ∙ ap (λ t. is_among i xs || t) (gone ∙ ap (λ t. cond t false (has left i)) (same_test i n ∙ off.0))
      ∙ so_far
]

-- one fewer is left then
pub one_fewer : (left next : ℕ → Bool) (n : ℕ) → IsInode n → left n ≡ true → ((i : ℕ) → next i ≡ without left n i) → count_of left ≡ count_of next + 1
one_fewer left next n is here gone = count_more next left n is (gone n ∙ away) here (λ j off. sym (gone j ∙ other j off))
  where
    away : without left n n ≡ false
    away = elim (eqb_tells n n) [
      | inl same ↦ ap (λ t. cond t false (left n)) same.0
      | inr off ↦ absurd (off.1 refl)
    ]

    other : (j : ℕ) → j ≢ n → without left n j ≡ left j
    other j off = elim (eqb_tells j n) [
      | inl same ↦ absurd (off same.1)
      | inr different ↦ ap (λ t. cond t false (left j)) different.0
    ]

in_none : (left : ℕ → Bool) (i : ℕ) (b : Bool) → IsInode i → count_of left ≡ 0 → left i ≡ b → b ≡ false
in_none left i false is none e = refl
in_none left i true is none e =
    let fewer : count_of left ≡ count_of (without left i) + 1 = one_fewer left (without left i) i is e (λ j. refl) in
    absurd (omega (arith, fewer, none))

-- where none is left, all are behind the others
pub all_of_them : (left xs : List ℕ) (i : ℕ) (all : Bool) → count_of (has left) ≡ 0 → (is_among i xs || has left i) ≡ all → is_among i xs ≡ all
all_of_them left xs i all none is =
    let out : has left i ≡ false = elim (inode_tells i) [
      | inl inode ↦ in_none (has left) i (has left i) inode none refl
      | inr off ↦ has_none left i off
    ] in
    sym (ap (λ t. is_among i xs || t) out ∙ or_nothing (is_among i xs)) ∙ is

few : (n : ℕ) (p : ℕ → Bool) → sum_up_to n (λ i. if p i then 1 else 0) ≤ n
unfolding sum_up_to
few zero p = omega arith
few (suc n) p =
    let rest : sum_up_to n (λ i. if p i then 1 else 0) ≤ n = few n p in
    let first : (if p (suc n) then 1 else 0) ≤ 1 = one (p (suc n)) in
    omega (arith, rest, first)
  where
    one : (b : Bool) → (if b then 1 else 0) ≤ 1
    one true = omega arith
    one false = omega arith

-- there are 1,024 inodes
pub few_inodes : (p : ℕ → Bool) → count_of p ≤ 1024
few_inodes p = few 1024 p

-- ---- the inodes among numbers

turned_or : (a b : Bool) → (a || b) ≡ (b || a)
turned_or true true = refl
turned_or true false = refl
turned_or false true = refl
turned_or false false = refl

-- an inode's number is put into a set
pub inode_put : (n i : ℕ) (h : Bool) → is_inode n ≡ true → ((i == n) || h) ≡ (h || (is_inode i && (n == i)))
inode_put n i h is = elim (eqb_tells n i) [
  | inl same ↦
      turned_or (i == n) h ∙ ap (λ t. h || t) (same_test i n ∙ ap (λ t. t && (n == i)) (sym (ap is_inode (sym same.1) ∙ is)))
  | inr off ↦
      turned_or (i == n) h ∙ ap (λ t. h || t) (same_test i n ∙ off.0 ∙ sym (ap (λ t. is_inode i && t) off.0 ∙ and_nothing (is_inode i)))
]

-- and no other
pub other_put : (n i : ℕ) (h : Bool) → is_inode n ≡ false → h ≡ (h || (is_inode i && (n == i)))
other_put n i h out = elim (eqb_tells n i) [
  | inl same ↦ sym (ap (λ t. h || (t && (n == i))) (ap is_inode (sym same.1) ∙ out) ∙ or_nothing h)
  | inr off ↦ sym (ap (λ t. h || t) (ap (λ t. is_inode i && t) off.0 ∙ and_nothing (is_inode i)) ∙ or_nothing h)
]

among_both : (a b c : Bool) → ((a && b) || (a && c)) ≡ (a && (b || c))
among_both true b c = refl
among_both false b c = refl

pub next_number : (numbers : List ℕ) (k d n i : ℕ) (h : Bool) → k < length numbers → n ≡ get_or numbers k d → h ≡ (is_inode i && is_among i (take k numbers)) → (h || (is_inode i && (n == i))) ≡ (is_inode i && is_among i (take (k + 1) numbers))
next_number numbers k d n i h below is so_far =
    ap (λ t. t || (is_inode i && (n == i))) so_far
    ∙ among_both (is_inode i) (is_among i (take k numbers)) (n == i)
    ∙ ap (λ t. is_inode i && t) (sym (list_any_more (λ j. j == i) numbers k d below ∙ ap (λ x. is_among i (take k numbers) || (x == i)) (sym is)))

pub all_numbers : (numbers : List ℕ) (k i : ℕ) (h : Bool) → length numbers ≤ k → h ≡ (is_inode i && is_among i (take k numbers)) → h ≡ (is_inode i && is_among i numbers)
all_numbers numbers k i h done is = is ∙ ap (λ (xs : List ℕ). is_inode i && is_among i xs) (take_all k numbers done)

-- ---- what the client has then

knows_more : (h : Held) (ns : List ℕ) (f : ℕ → Bool) → ((i : ℕ) → is_among i ns ≡ (is_among i h.numbers || f i)) → knows (record h { numbers = ns }) ≡ with_numbers (knows h) f
knows_more h ns f is = λ t. record { client = h.client; own = (knows h).own; copies = (knows h).copies; blocks = (knows h).blocks; granted = λ i. is i t }

same_but_numbers : (h new : Held) (ns : List ℕ) → new ≡ record h { numbers = ns } → new ≡ record h { numbers = new.numbers }
same_but_numbers h new ns is = is ∙ ap (λ (xs : List ℕ). record h { numbers = xs }) (sym (ap (λ (x : Held). x.numbers) is))

module _ {M S : Type 0} (device : Ghosts S) (k after : KernelView S) (old : ClientView M) (copies : Held) (ns : List ℕ) (is : copies ≡ record old.copies { numbers = ns }) where
  pub refilled : (units inodes : ℕ) (more : ℕ → Bool) → ((i : ℕ) → is_among i ns ≡ (is_among i old.copies.numbers || more i)) → AreLowest (is_free k.book (nodes_in (shared_by device k))) more inodes
      → ((m : Machine) → IsKernelOf device k m → IsKernelOf device after (grant m (client_of old.pass) units more)) → HasRefilled device k old units inodes (record old { spare = old.spare + units; copies = copies }) after
  refilled units inodes more all lowest step = record {
    numbers = more;
    lowest = lowest;
    spare = refl;
    knows_then = ap knows is ∙ knows_more old.copies ns more all;
    rest = ap (λ (h : Held). record old { spare = old.spare + units; copies = h }) (same_but_numbers old.copies copies ns is);
    step = step;
  }

  pub given_back : ns ≡ [] → ((m : Machine) → IsKernelOf device k m → IsKernelOf device after (take_back m (client_of old.pass) old.spare (inodes_granted (known_to old)))) → out_of after.book + min old.spare (units_of k.book (client_of old.pass)) ≡ out_of k.book → HasGivenBack device k old (record old { spare = 0; copies = copies }) after
  given_back none step out = record {
    spare = refl;
    numbers = ap (λ (h : Held). h.numbers) is ∙ none;
    rest = ap (λ (h : Held). record old { spare = 0; copies = h }) (same_but_numbers old.copies copies ns is);
    step = step;
    out = out;
  }
