-- What a client knows once a copy was put or dropped with the blocks of its inode.
use Rattle.std.proofs.Common.{◌≡◌, ℕ, ◌<◌, List, [], ◌∷◌, Option, Some, None, set, get_or, length, refl, ap, sym, ◌∙◌, cond, true, false, Bool, inl, inr}
use Rattle.std.specs.Prelude.{◌==◌, ◌&&◌, ◌-◌, ◌*◌, not, nat_lt, take, option_map, if◌then◌else◌}
use Rattle.std.proofs.lemmas.List.{get_or-set_same, get_or-set_other}
use Rattle.std.proofs.lemmas.Bool.{and_parts, cases_eq, eqb-true, eq-eqb, ne_eqb, cond-true, cond-false}
use Rattle.block_cache.specs.CacheList.{Block, bytes_at, is_at, without_file}
use Rattle.client_plan.specs.file_graph.Graph.{is_among, touches}
use Rattle.client_plan.specs.file_graph.declared.effect.Effect.{Effect}
use Rattle.client_plan.specs.call_effects.NodeView.{NodeView}
use Rattle.client_plan.specs.call_effects.Knowledge.{with_copy}
use Rattle.posix_calls.specs.Own.{own_of}
use Rattle.posix_calls.specs.Tree.{set_own}
use Rattle.posix_calls.specs.declared.descriptor.Descriptor.{Descriptor}
use Rattle.posix_calls.specs.declared.limits.TheConstants.{UNIT_BYTES}
use Rattle.client_view.specs.KnowledgeTables.{Held, copy_at, size_known, kept_at, block_by, block_known, knows}
use Rattle.client_view.specs.KnowledgeChanges.{with_descriptor, without_blocks, without_blocks_at, without_inode}
use Rattle.client_view.specs.AfterRecord.{without_touched}
use Rattle.client_view.proofs.LeftBlocks.{apart}

-- a table with one slot changed
pub slot_changed : (cs : List (Option (Option NodeView))) (i : ℕ) (c : Option (Option NodeView)) (j : ℕ) → i < length cs → copy_at (set cs i c) j ≡ (if j == i then c else copy_at cs j)
slot_changed cs i c j inside = elim (cases_eq j i) [
  | inl same ↦ ap (λ n. get_or (set cs i c) n None) same ∙ get_or-set_same cs i c None inside ∙ sym (cond-true (j == i) c (copy_at cs j) (eq-eqb j i same))
  | inr other ↦ get_or-set_other cs i j c None other ∙ sym (cond-false (j == i) c (copy_at cs j) (ne_eqb j i other))
]

-- ---- the blocks of some inodes go

same_if : (t : Bool) (o : Option (List ℕ)) → cond t o o ≡ o
same_if true o = refl
same_if false o = refl

pull : (t : Bool) (xs ys : List Block) (i n : ℕ) → bytes_at i n (cond t xs ys) ≡ cond t (bytes_at i n xs) (bytes_at i n ys)
pull true xs ys i n = refl
pull false xs ys i n = refl

by_case : (t g c : Bool) (x : List ℕ) (found rest : Option (List ℕ)) → (t ≡ true → g ≡ c) → rest ≡ cond c None found → cond (not g) (cond t (Some x) rest) rest ≡ cond c None (cond t (Some x) found)
by_case true true c x found rest same is = is ∙ sym (ap (λ y. cond y None found) (same refl)) ∙ ap (λ y. cond y None (Some x)) (same refl)
by_case true false c x found rest same is = ap (λ y. cond y None (Some x)) (same refl)
by_case false true c x found rest same is = is
by_case false false c x found rest same is = is

-- what is found among the others
found_apart : (gone : ℕ → Bool) (bs : List Block) (i n : ℕ) → bytes_at i n (apart gone bs) ≡ cond (gone i) None (bytes_at i n bs)
found_apart gone [] i n = sym (same_if (gone i) None)
found_apart gone (b ∷ bs) i n =
    pull (not (gone b.inode)) (b ∷ apart gone bs) (apart gone bs) i n
    ∙ by_case (is_at i n b) (gone b.inode) (gone i) b.bytes (bytes_at i n bs) (bytes_at i n (apart gone bs)) (λ at. ap gone (sym (eqb-true i b.inode (and_parts (i == b.inode) (n == b.block) at).0))) (found_apart gone bs i n)

out_of : (l c : Bool) (o : Option (List ℕ)) → cond l (cond c None o) None ≡ cond c None (cond l o None)
out_of true c o = refl
out_of false c o = sym (same_if c None)

kept_apart : (gone : ℕ → Bool) (bs : List Block) (i b : ℕ) → kept_at (apart gone bs) i b ≡ cond (gone i) None (kept_at bs i b)
kept_apart gone bs i b = ap (λ o. cond (nat_lt b 4294967296) o None) (found_apart gone bs i b) ∙ out_of (nat_lt b 4294967296) (gone i) (bytes_at i b bs)

mapped_if : (c : Bool) (f : List ℕ → List ℕ) (o : Option (List ℕ)) → option_map f (cond c None o) ≡ cond c None (option_map f o)
mapped_if true f o = refl
mapped_if false f o = refl

known_apart : (s : Option ℕ) (gone : ℕ → Bool) (bs : List Block) (i b : ℕ) → block_by s (apart gone bs) i b ≡ cond (gone i) None (block_by s bs i b)
known_apart None gone bs i b = sym (same_if (gone i) None)
known_apart (Some size) gone bs i b = ap (option_map (take (size - UNIT_BYTES * b))) (kept_apart gone bs i b) ∙ mapped_if (gone i) (take (size - UNIT_BYTES * b)) (kept_at bs i b)

unless_gone : (t : Bool) (x y : Option (List ℕ)) → (t ≡ false → x ≡ y) → cond t None x ≡ cond t None y
unless_gone true x y same = refl
unless_gone false x y same = same refl

-- the blocks of some inodes go with changes of their slots
pub blocks_apart : (h : Held) (gone : ℕ → Bool) (cs : List (Option (Option NodeView))) → ((k : ℕ) → gone k ≡ false → copy_at cs k ≡ copy_at h.copies k) → (j b : ℕ) → block_by (size_known (copy_at cs j)) (apart gone h.blocks) j b ≡ (if gone j then None else block_known h j b)
blocks_apart h gone cs same j b =
    known_apart (size_known (copy_at cs j)) gone h.blocks j b
    ∙ unless_gone (gone j) (block_by (size_known (copy_at cs j)) h.blocks j b) (block_known h j b) (λ off. ap (λ c. block_by (size_known c) h.blocks j b) (same j off))

-- ---- those of one inode

others_of_set : (cs : List (Option (Option NodeView))) (i : ℕ) (c : Option (Option NodeView)) (k : ℕ) → (k == i) ≡ false → copy_at (set cs i c) k ≡ copy_at cs k
others_of_set cs i c k off = get_or-set_other cs i k c None (λ same. absurd (let clash : true ≡ false = sym (eq-eqb k i same) ∙ off in cc clash))

pub set_is_known : (h : Held) (i : ℕ) (c : Option (Option NodeView)) → i < length h.copies → knows (record h { copies = set h.copies i c; blocks = without_file i h.blocks }) ≡ record (without_blocks (knows h) i) { copies = λ j. if j == i then c else copy_at h.copies j }
set_is_known h i c inside = λ t. record {
  client = h.client;
  own = (knows h).own;
  copies = λ j. slot_changed h.copies i c j inside t;
  blocks = λ j b. blocks_apart h (λ k. k == i) (set h.copies i c) (others_of_set h.copies i c) j b t;
  granted = (knows h).granted;
}

pub put_is_known : (h : Held) (i : ℕ) (v : Option NodeView) → i < length h.copies → knows (record h { copies = set h.copies i (Some v); blocks = without_file i h.blocks }) ≡ with_copy (without_blocks (knows h) i) i v
put_is_known h i v inside = set_is_known h i (Some v) inside

-- where no copy was, no block was known
pub nothing_to_lose : (h : Held) (i : ℕ) → copy_at h.copies i ≡ None → without_blocks (knows h) i ≡ knows h
nothing_to_lose h i none = λ t. record {
  client = h.client;
  own = (knows h).own;
  copies = (knows h).copies;
  blocks = λ j b. lost j b t;
  granted = (knows h).granted;
}
  where
    lost : (j b : ℕ) → (if j == i then None else block_known h j b) ≡ block_known h j b
    lost j b = elim (cases_eq j i) [
      | inl same ↦ cond-true (j == i) None (block_known h j b) (eq-eqb j i same) ∙ sym (ap (λ c. block_by (size_known c) h.blocks j b) (ap (copy_at h.copies) same ∙ none))
      | inr other ↦ cond-false (j == i) None (block_known h j b) (ne_eqb j i other)
    ]

pub forgotten_is_known : (h : Held) (i : ℕ) (cs : List (Option (Option NodeView))) → ((j : ℕ) → copy_at cs j ≡ (if j == i then None else copy_at h.copies j)) → knows (record h { copies = cs; blocks = without_file i h.blocks }) ≡ without_inode (knows h) i
forgotten_is_known h i cs gone = λ t. record {
  client = h.client;
  own = (knows h).own;
  copies = λ j. gone j t;
  blocks = λ j b. blocks_apart h (λ k. k == i) cs (λ k off. gone k ∙ cond-false (k == i) None (copy_at h.copies k) off) j b t;
  granted = (knows h).granted;
}

pub opened_is_known : (h : Held) (number : ℕ) (what : Option Descriptor) (own : List (Option Descriptor)) → ((n : ℕ) → own_of own n ≡ set_own (own_of h.own) number what n) → knows (record h { own = own }) ≡ with_descriptor (knows h) number what
opened_is_known h number what own same = λ t. record { client = h.client; own = λ n. same n t; copies = (knows h).copies; blocks = (knows h).blocks; granted = (knows h).granted }

-- the blocks of an inode go, and its copy stays
pub blocks_forgotten_is_known : (h : Held) (i : ℕ) → knows (record h { blocks = without_file i h.blocks }) ≡ without_blocks (knows h) i
blocks_forgotten_is_known h i = λ t. record {
  client = h.client;
  own = (knows h).own;
  copies = (knows h).copies;
  blocks = λ j b. blocks_apart h (λ k. k == i) h.copies (λ k off. refl) j b t;
  granted = (knows h).granted;
}

-- the blocks of what effects touch go, and the copies stay
pub touched_forgotten_is_known : (h : Held) (es : List Effect) → knows (record h { blocks = without_touched h.blocks es }) ≡ without_blocks_at (knows h) es
touched_forgotten_is_known h es = λ t. record {
  client = h.client;
  own = (knows h).own;
  copies = (knows h).copies;
  blocks = λ j b. blocks_apart h (λ k. is_among k (touches es)) h.copies (λ k off. refl) j b t;
  granted = (knows h).granted;
}
